use Rattle.std.proofs.Common.{◌==◌, ap, position, Some, sym, ◌∙◌}
use Rattle.v1_translate.specs.State.{Waiting}
use Rattle.v1_translate.proofs.Firsts.{no_share, share_found}
use Rattle.v1_translate.proofs.waiting.take_waiting.Goals as goal

pub returns-in-Some-clause-id : goal.returns-in-Some-clause-id
returns-in-Some-clause-id c =
    let same = ap (position (λ (share : Waiting). share.number == c.args.number)) (sym c.as_slice.ensures.value) in
    let found = share_found c.args.number c.args.shares.now.items c.in-Some.place c.remove-share.result (same ∙ sym c.in-Some.ensures) in
    ap (λ id. Some id) (c.into_id.ensures ∙ ap (λ (share : Waiting). share.id) c.remove-share.ensures.value) ∙ sym found.0

pub returns-in-Some-clause-rest : goal.returns-in-Some-clause-rest
returns-in-Some-clause-rest c =
    let same = ap (position (λ (share : Waiting). share.number == c.args.number)) (sym c.as_slice.ensures.value) in
    let found = share_found c.args.number c.args.shares.now.items c.in-Some.place c.remove-share.result (same ∙ sym c.in-Some.ensures) in
    c.remove-share.ensures.items ∙ sym found.1

pub returns-in-None-clause-id : goal.returns-in-None-clause-id
returns-in-None-clause-id c =
    let same = ap (position (λ (share : Waiting). share.number == c.args.number)) (sym c.as_slice.ensures.value) in
    let none = no_share c.args.number c.args.shares.now.items (same ∙ sym c.in-None.ensures) in
    sym none.0

pub returns-in-None-clause-rest : goal.returns-in-None-clause-rest
returns-in-None-clause-rest c =
    let same = ap (position (λ (share : Waiting). share.number == c.args.number)) (sym c.as_slice.ensures.value) in
    let none = no_share c.args.number c.args.shares.now.items (same ∙ sym c.in-None.ensures) in
    sym none.1
