use Rattle.std.proofs.Common.{ap, ◌∙◌, arith}
use Rattle.std.specs.Prelude.{nat_eq}
use Rattle.std.specs.List.{starts_with}
use Rattle.history_laws.proofs.Fronts.{apart-decided, share-none-comm}
use Rattle.history_laws.proofs.spaces.are_apart.Goals as goal

pub returns-then-len : goal.returns-then-len
returns-then-len c =
    apart-decided c.args.a.now c.args.b.now c.starts_with.result (omega arith) (omega arith)
    (c.starts_with.ensures.value ∙ ap (λ x. starts_with nat_eq x c.bytes-then-len.result.now) c.bytes.ensures
    ∙ ap (starts_with nat_eq c.args.b.now) c.bytes-then-len.ensures)

pub returns-else-len : goal.returns-else-len
returns-else-len c =
    let both = apart-decided c.args.b.now c.args.a.now c.starts_with-else-len.result (omega arith) (omega arith)
    (c.starts_with-else-len.ensures.value ∙ ap (λ x. starts_with nat_eq x c.bytes-else-len-2.result.now) c.bytes-else-len.ensures
    ∙ ap (starts_with nat_eq c.args.a.now) c.bytes-else-len-2.ensures) in
    (λ h. share-none-comm c.args.b.now c.args.a.now (both.0 h), λ none. both.1 (share-none-comm c.args.a.now c.args.b.now none))
