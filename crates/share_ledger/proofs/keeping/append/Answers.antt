-- What a crash leaves behind an append, and what was there first, by what the keeper says of it.
use Rattle.std.proofs.Common.{ap, is_some, Err, List, Ok, Option, ℕ}
use Rattle.share_ledger.proofs.Recovering.{begun-on, recovers-err, recovers-ok, tells-more}
use Rattle.share_ledger.proofs.keeping.append.Goals as goal

pub returns-in-Ok-clause-recovers : goal.returns-in-Ok-clause-recovers
returns-in-Ok-clause-recovers g c = λ history next keeps grows can.
    let old = g.K.Keeper.seen c.args.keeper.now in
    let new = g.K.Keeper.seen c.append.new.self in
    recovers-ok history next c.args.piece.now keeps grows old.records new.records old.stored new.stored
    (g.K.Keeper.may_find c.args.keeper.now) (g.K.Keeper.may_find c.append.new.self)
    c.in-Ok.ensures.kept c.in-Ok.ensures.stored c.in-Ok.ensures.crash can

pub returns-in-Err-Failed-clause-recovers : goal.returns-in-Err-Failed-clause-recovers
returns-in-Err-Failed-clause-recovers g c = λ history next keeps grows can.
    let old = g.K.Keeper.seen c.args.keeper.now in
    let new = g.K.Keeper.seen c.append.new.self in
    recovers-err history next c.args.piece.now keeps grows c.in-Err-Failed.field-0 old.records new.records old.stored new.stored
    (g.K.Keeper.may_find c.args.keeper.now) (g.K.Keeper.may_find c.append.new.self)
    c.in-Err-Failed.ensures.refused c.in-Err-Failed.ensures.stored c.in-Err-Failed.ensures.crash can

pub returns-in-Err-Memory-clause-recovers : goal.returns-in-Err-Memory-clause-recovers
returns-in-Err-Memory-clause-recovers g c = λ history next keeps grows can.
    let old = g.K.Keeper.seen c.args.keeper.now in
    let new = g.K.Keeper.seen c.append.new.self in
    recovers-err history next c.args.piece.now keeps grows c.in-Err-Memory.field-0 old.records new.records old.stored new.stored
    (g.K.Keeper.may_find c.args.keeper.now) (g.K.Keeper.may_find c.append.new.self)
    c.in-Err-Memory.ensures.refused c.in-Err-Memory.ensures.stored c.in-Err-Memory.ensures.crash can

pub returns-in-Ok-clause-begun : goal.returns-in-Ok-clause-begun
returns-in-Ok-clause-begun g c = λ history can.
    let old = g.K.Keeper.seen c.args.keeper.now in
    let new = g.K.Keeper.seen c.append.new.self in
    begun-on (Ok tt) history old.records new.records old.stored new.stored (g.K.Keeper.may_find c.args.keeper.now)
    (tells-more old.records new.records c.args.piece.now c.in-Ok.ensures.kept) c.in-Ok.ensures.stored can

pub returns-in-Err-Failed-clause-begun : goal.returns-in-Err-Failed-clause-begun
returns-in-Err-Failed-clause-begun g c = λ history can.
    let old = g.K.Keeper.seen c.args.keeper.now in
    let new = g.K.Keeper.seen c.append.new.self in
    begun-on (Err c.in-Err-Failed.field-0) history old.records new.records old.stored new.stored (g.K.Keeper.may_find c.args.keeper.now)
    (ap (λ (t : Option (List (List ℕ))). is_some t) c.in-Err-Failed.ensures.refused) c.in-Err-Failed.ensures.stored can

pub returns-in-Err-Memory-clause-begun : goal.returns-in-Err-Memory-clause-begun
returns-in-Err-Memory-clause-begun g c = λ history can.
    let old = g.K.Keeper.seen c.args.keeper.now in
    let new = g.K.Keeper.seen c.append.new.self in
    begun-on (Err c.in-Err-Memory.field-0) history old.records new.records old.stored new.stored (g.K.Keeper.may_find c.args.keeper.now)
    (ap (λ (t : Option (List (List ℕ))). is_some t) c.in-Err-Memory.ensures.refused) c.in-Err-Memory.ensures.stored can
