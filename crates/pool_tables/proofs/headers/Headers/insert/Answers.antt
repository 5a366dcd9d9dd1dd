use Rattle.std.proofs.Common.{◌≡◌, cond, ap, sym, ◌∙◌, List, ℕ, ◌∷◌, [], ◌++◌, arith}
use Rattle.std.proofs.lemmas.Grind.{common_steps}
use Rattle.std.specs.List.{list_any}
use Rattle.std.specs.Str.{bytes_eq}
use Rattle.pool_tables.proofs.Kept.{shows-inserted}
use Rattle.pool_tables.proofs.headers.Headers.insert.Goals as goal

pub returns : goal.returns
returns c headers shows =
    let keys : c.insert-done.new.self.keys
    ≡ cond (list_any (bytes_eq c.args.header) c.self.inside.set.keys) c.self.inside.set.keys (c.self.inside.set.keys ++ c.args.header ∷ []) =
    grind (arith, common_steps, c.insert-done.ensures.keys, c.insert-done.ensures.succeeds) in
    shows-inserted c.args.self.now _ c.args.header headers shows
    (keys ∙ ap (λ set. cond (list_any (bytes_eq c.args.header) set.kept) set.kept (set.kept ++ c.args.header ∷ [])) c.self.view_is)
