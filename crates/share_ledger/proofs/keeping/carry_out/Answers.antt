use Rattle.std.proofs.Common.{ℕ, List, ◌≡◌, ◌++◌, ◌∷◌, [], ap, refl, sym, ◌∙◌}
use Rattle.share_ledger.proofs.Answering.{keeps-as, keeps-still, piece-more}
use Rattle.ledger_records.specs.Pieces.{piece_behind}
use Rattle.share_ledger.specs.Recovery.{pieces_of}
use Rattle.share_ledger.proofs.Recovering.{pieces-more, recovers-as}
use Rattle.share_ledger.proofs.keeping.carry_out.Goals as goal

pub returns-in-Ok-Answer-clause-kept : goal.returns-in-Ok-Answer-clause-kept
returns-in-Ok-Answer-clause-kept g c =
    keeps-still (g.K.Keeper.seen c.args.keeper.now).records (g.K.Keeper.seen c.args.keeper.now).records c.args.tables.now.history.events
    c.args.tables.now.history.events c.requires.kept refl refl

pub returns-in-Ok-Move-clause-kept : goal.returns-in-Ok-Move-clause-kept
returns-in-Ok-Move-clause-kept g c =
    keeps-as c.commit.result (g.K.Keeper.seen c.args.keeper.now).records (g.K.Keeper.seen c.commit.new.keeper).records c.args.hash.now c.args.tables.now c.commit.new.tables c.in-Ok-Move.planned.event
    c.requires.kept c.requires.hashed
    (piece-more c.pieces_grow.ensures c.ledgers_grow.ensures c.args.tables.now.history.events c.in-Ok-Move.planned.event c.are_kept.ensures.begin)
    c.commit.ensures.events c.commit.ensures.kept c.commit.ensures.same c.commit.ensures.same_records

pub returns-in-Err-clause-kept : goal.returns-in-Err-clause-kept
returns-in-Err-clause-kept g c =
    keeps-still (g.K.Keeper.seen c.args.keeper.now).records (g.K.Keeper.seen c.args.keeper.now).records c.args.tables.now.history.events
    c.args.tables.now.history.events c.requires.kept refl refl

pub returns-in-Ok-Move-clause-recovers : goal.returns-in-Ok-Move-clause-recovers
returns-in-Ok-Move-clause-recovers g c =
    let history = c.args.tables.now.history.events in
    let next = c.in-Ok-Move.planned.event in
    let grows : pieces_of (history ++ next ∷ []) ≡ pieces_of history ++ piece_behind c.args.hash.now next ∷ [] =
    pieces-more c.pieces_grow.ensures c.ledgers_grow.ensures history next c.are_kept.ensures.begin
    ∙ ap (λ (hash : List ℕ). pieces_of history ++ piece_behind hash next ∷ []) (sym c.requires.hashed) in
    recovers-as c.commit.result (g.K.Keeper.seen c.commit.new.keeper) (g.K.Keeper.may_find c.commit.new.keeper) c.args.tables.now c.commit.new.tables next
    c.commit.ensures.events c.commit.ensures.same (c.commit.ensures.recovers grows c.requires.recovers)
