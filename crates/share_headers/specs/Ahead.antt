-- Shares that stand behind one another (this project's own).
use Rattle.std.specs.Prelude.{Bool, false, List, [], ◌∷◌, ◌&&◌, length, eqb, ltb}
use Rattle.share_headers.specs.declared.four.Candidate.{Candidate}

-- whether a share goes on with those before it: it is of the job of the first, and they are fewer
-- than four
unfoldable pub goes_on : List Candidate → Candidate → Bool
goes_on [] _ = false
goes_on (first ∷ others) next = ltb (length others) 3 && eqb next.sub.job first.sub.job
