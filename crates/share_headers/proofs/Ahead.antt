-- Shares that stand behind one another, as a front of four places.
use Rattle.std.proofs.Common.{arith, ◌≡◌, ◌∙◌, ℕ, ◌+◌, ◌<◌, ◌≤◌, false, List, [], ◌∷◌, ◌&&◌, length, take, get_or, eqb, ltb, ap, sym}
use Rattle.std.proofs.lemmas.Bool.{le-ltb, lt-ltb}
use Rattle.std.proofs.lemmas.List.{length-take-le}
use Rattle.std.proofs.Math.Numerals.{suc-eq-add-one}
use Rattle.share_headers.specs.declared.four.Candidate.{Candidate}
use Rattle.share_headers.specs.Ahead.{goes_on}

-- another goes on with the first so many of some places by their number and by its job
goes-on-with : (c : Candidate) (rest : List Candidate) (others : ℕ) (next : Candidate) → others ≤ length rest
    → goes_on (take (others + 1) (c ∷ rest)) next ≡ ltb others 3 && eqb next.sub.job c.sub.job
unfolding goes_on
goes-on-with c rest others next within =
    rw (← suc-eq-add-one others)
    (ap (λ n. ltb n 3 && eqb next.sub.job c.sub.job) (length-take-le others rest within))

-- with fewer than four, where it is of the job of the first
pub goes-on-by-its-job : (cs : List Candidate) (others : ℕ) (next first : Candidate) → others < length cs → others < 3
    → eqb next.sub.job (get_or cs 0 first).sub.job ≡ goes_on (take (others + 1) cs) next
goes-on-by-its-job [] others next first within few = absurd (omega arith)
goes-on-by-its-job (c ∷ rest) others next first within few =
    sym (goes-on-with c rest others next (omega arith)
    ∙ ap (λ room. room && eqb next.sub.job c.sub.job) (lt-ltb others 3 few))

-- with four none goes on
pub none-goes-on-four : (cs : List Candidate) (others : ℕ) (next : Candidate) → others < length cs → 3 ≤ others
    → goes_on (take (others + 1) cs) next ≡ false
none-goes-on-four [] others next within full = absurd (omega arith)
none-goes-on-four (c ∷ rest) others next within full =
    goes-on-with c rest others next (omega arith)
    ∙ ap (λ room. room && eqb next.sub.job c.sub.job) (le-ltb others 3 full)
