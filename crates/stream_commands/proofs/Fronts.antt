-- Fronts of the steps of a reading, and which of them reach a limit.
use Rattle.std.proofs.Common.{◌≡◌, List, [], ◌∷◌, ◌++◌, None, ap, ◌∙◌, append-nil, arith, inl, inr}
use Rattle.pool_io.specs.Steps.{ReadStep, bytes_in, IsAtLimit, IsFree, IsFreeBefore, IsIdleOut, IsBytesOut}
use Rattle.pool_io.proofs.Stepping.{bytes_in-idle, longer, shorter, fronts_of, last_idle}
use Rattle.stream_commands.specs.Limits.{bounds}

-- no step was taken, so no limit is reached
pub free_none : IsFree bounds []
free_none = (
  λ front x rest split at. none_before front x rest split,
  λ at. none_at at,
)
  where
    none_before : (front : List ReadStep) (x : ReadStep) (rest : List ReadStep) → [] ≡ front ++ x ∷ rest → ⊥
    none_before [] x rest split = cc
    none_before (y ∷ front) x rest split = cc

    none_at : IsAtLimit bounds [] → ⊥
    none_at (inl idle) = omega (arith, idle)
    none_at (inr out) = omega (arith, out)

-- the same steps don't reach both limits first
not_both : (front : List ReadStep) → IsFreeBefore bounds front → IsIdleOut bounds front → IsBytesOut bounds front → ⊥
not_both [] free idle out = omega (arith, idle)
not_both (x ∷ steps) free idle out =
    let last = last_idle 0 x steps (omega (arith, idle)) in
    let same : bytes_in (x ∷ steps) ≡ bytes_in last.0 = ap bytes_in last.1 ∙ bytes_in-idle last.0 in
    free last.0 None [] last.1 (inr (rw same at out))

-- one list of steps doesn't reach both limits first
pub idle_or_bytes : (idle out rest more : List ReadStep) → idle ++ rest ≡ out ++ more → IsFreeBefore bounds idle → IsFreeBefore bounds out
    → IsIdleOut bounds idle → IsBytesOut bounds out → ⊥
idle_or_bytes idle out rest more same idle_free out_free idle_reached out_reached =
    elim (fronts_of idle out rest more same) [
      | shorter x part is ↦ idle_free out x part is (inr out_reached)
      | longer [] is ↦ not_both idle idle_free idle_reached (rw (is, append-nil idle) at out_reached)
      | longer (x ∷ part) is ↦ out_free idle x part is (inl idle_reached)
    ]
