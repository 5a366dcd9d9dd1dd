use Rattle.std.proofs.Common.{◌≡◌, ◌≢◌, ℕ, List, [], ◌∷◌, ◌++◌}
use Rattle.std.specs.Prelude.{MatchOption}
use Rattle.std.proofs.lemmas.Bool.Decides.{Decides-eqb}
use Rattle.std.proofs.lemmas.Slice.Eq.{strip_suffix_is}
use Rattle.v1_lines.proofs.Held.{line_found, line_not_found}
use Rattle.v1_lines.proofs.buffer.ended_line.Goals as goal

pub returns-clause-line : goal.returns-clause-line
returns-clause-line c =
    line_found c.args.held.now c.strip_suffix.result c.requires
    (strip_suffix_is Decides-eqb c.args.held.now (10 ∷ []) c.strip_suffix.result c.strip_suffix.ensures.cases)

pub returns-clause-none : goal.returns-clause-none
returns-clause-none c =
    line_not_found c.args.held.now c.strip_suffix.result c.requires
    (strip_suffix_is Decides-eqb c.args.held.now (10 ∷ []) c.strip_suffix.result c.strip_suffix.ensures.cases)
