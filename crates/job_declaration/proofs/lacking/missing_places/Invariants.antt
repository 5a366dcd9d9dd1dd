use Rattle.job_declaration.proofs.Lists.{SpellsSoFar}
use Rattle.job_declaration.proofs.lacking.missing_places.Given as goal

abbrev pub invariant-loop-place : goal.invariant-loop-place
invariant-loop-place l = SpellsSoFar l.listed l.place l.spelled.items
