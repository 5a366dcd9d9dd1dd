use Rattle.std.proofs.Common.{cond, map, ◌∷◌, ◌++◌, [], sym, ap, ◌∙◌}
use Rattle.std.specs.String.{string_bytes}
use Rattle.payouts.proofs.Names.{names-inserted, place-names, numbers-inserted}
use Rattle.payouts.proofs.accounts.place_for.Goals as goal

pub returns-then-is_new-clause-place : goal.returns-then-is_new-clause-place
returns-then-is_new-clause-place c = c.in-Ok.ensures.index ∙ place-names string_bytes c.args.account c.args.names.now.keys

pub returns-then-is_new-clause-names : goal.returns-then-is_new-clause-names
returns-then-is_new-clause-names c = ap (map string_bytes) c.in-Ok.ensures.keys ∙ names-inserted string_bytes c.args.account c.args.names.now.keys

pub returns-then-is_new-clause-weights : goal.returns-then-is_new-clause-weights
returns-then-is_new-clause-weights c =
    c.push_newcomer.ensures.numbers ∙ ap (λ t. cond t (c.args.weights.now.numbers ++ 0 ∷ []) c.args.weights.now.numbers) (sym c.if-is_new.true)
    ∙ numbers-inserted string_bytes c.args.account c.args.names.now.keys c.args.weights.now.numbers c.in-Ok.is_new c.in-Ok.ensures.added

pub returns-then-is_new-clause-works : goal.returns-then-is_new-clause-works
returns-then-is_new-clause-works c =
    c.push_newcomer-then-is_new.ensures.works ∙ ap (λ t. cond t (c.args.sums.now.works.items ++ 0 ∷ []) c.args.sums.now.works.items) (sym c.if-is_new.true)
    ∙ numbers-inserted string_bytes c.args.account c.args.names.now.keys c.args.sums.now.works.items c.in-Ok.is_new c.in-Ok.ensures.added

pub returns-then-is_new-clause-balances : goal.returns-then-is_new-clause-balances
returns-then-is_new-clause-balances c =
    c.push_newcomer-then-is_new.ensures.balances ∙ ap (λ t. cond t (c.args.sums.now.balances.items ++ 0 ∷ []) c.args.sums.now.balances.items) (sym c.if-is_new.true)
    ∙ numbers-inserted string_bytes c.args.account c.args.names.now.keys c.args.sums.now.balances.items c.in-Ok.is_new c.in-Ok.ensures.added

pub returns-else-is_new-clause-place : goal.returns-else-is_new-clause-place
returns-else-is_new-clause-place c = c.in-Ok.ensures.index ∙ place-names string_bytes c.args.account c.args.names.now.keys

pub returns-else-is_new-clause-names : goal.returns-else-is_new-clause-names
returns-else-is_new-clause-names c = ap (map string_bytes) c.in-Ok.ensures.keys ∙ names-inserted string_bytes c.args.account c.args.names.now.keys

pub returns-else-is_new-clause-weights : goal.returns-else-is_new-clause-weights
returns-else-is_new-clause-weights c =
    ap (λ t. cond t (c.args.weights.now.numbers ++ 0 ∷ []) c.args.weights.now.numbers) (sym c.if-is_new.false)
    ∙ numbers-inserted string_bytes c.args.account c.args.names.now.keys c.args.weights.now.numbers c.in-Ok.is_new c.in-Ok.ensures.added

pub returns-else-is_new-clause-works : goal.returns-else-is_new-clause-works
returns-else-is_new-clause-works c =
    ap (λ t. cond t (c.args.sums.now.works.items ++ 0 ∷ []) c.args.sums.now.works.items) (sym c.if-is_new.false)
    ∙ numbers-inserted string_bytes c.args.account c.args.names.now.keys c.args.sums.now.works.items c.in-Ok.is_new c.in-Ok.ensures.added

pub returns-else-is_new-clause-balances : goal.returns-else-is_new-clause-balances
returns-else-is_new-clause-balances c =
    ap (λ t. cond t (c.args.sums.now.balances.items ++ 0 ∷ []) c.args.sums.now.balances.items) (sym c.if-is_new.false)
    ∙ numbers-inserted string_bytes c.args.account c.args.names.now.keys c.args.sums.now.balances.items c.in-Ok.is_new c.in-Ok.ensures.added
