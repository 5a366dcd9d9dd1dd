use Rattle.std.proofs.Common.{◌≡◌, ◌++◌, vec_len}
use Rattle.job_declaration.specs.Tree.{path}
use Rattle.job_declaration.proofs.paths.merkle_path.Given as goal

abbrev pub invariant-loop-first : goal.invariant-loop-first
invariant-loop-first l = path l.ids ≡ l.path.items ++ path l.row.items

abbrev pub decreases-loop-first : goal.decreases-loop-first
decreases-loop-first l = vec_len l.row
