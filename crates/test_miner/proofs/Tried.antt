-- One try more.
use Rattle.std.proofs.Common.{◌≡◌, ℕ, zero, suc, ◌+◌, ◌-◌, ◌<◌, true, false, Option, None, Some, refl, ap, ◌∙◌, arith}
use Rattle.test_miner.specs.declared.trying.CurrentJob.{CurrentJob}
use Rattle.test_miner.specs.declared.trying.Try.{Try}
use Rattle.test_miner.specs.Trying.{first_meeting, following, is_met}

-- no tries are left
pub none_left : (class : ℕ) (current : CurrentJob) (from : Option Try) → first_meeting class current 0 from ≡ record { found = None; next = from }
unfolding first_meeting
none_left class current from = refl

-- there is nothing more to try
nothing_left : (class : ℕ) (current : CurrentJob) (tries : ℕ) → first_meeting class current tries None ≡ record { found = None; next = None }
unfolding first_meeting
nothing_left class current zero = refl
nothing_left class current (suc tries) = refl

pub nothing_more : (class : ℕ) (current : CurrentJob) (tries : ℕ) (from : Option Try) → from ≡ None → first_meeting class current tries from ≡ record { found = None; next = from }
nothing_more class current tries from none = rw none (nothing_left class current tries)

met : (class : ℕ) (current : CurrentJob) (tries : ℕ) (at : Try) → is_met class current at ≡ true
    → first_meeting class current (suc tries) (Some at) ≡ record { found = Some at; next = following at }
unfolding first_meeting
met class current tries at is = rw is refl

missed : (class : ℕ) (current : CurrentJob) (tries : ℕ) (at : Try) → is_met class current at ≡ false
    → first_meeting class current (suc tries) (Some at) ≡ first_meeting class current tries (following at)
unfolding first_meeting
missed class current tries at is = rw is refl

one_less : (made tries : ℕ) → made < tries → tries - made ≡ suc (tries - (made + 1))
one_less made tries few = omega arith

-- the try meets the class
pub try_met : (class : ℕ) (current : CurrentJob) (made tries : ℕ) (from : Option Try) (at : Try) → made < tries → from ≡ Some at → is_met class current at ≡ true
    → first_meeting class current (tries - made) from ≡ record { found = Some at; next = following at }
try_met class current made tries from at few is meets =
    ap (λ (n : ℕ). first_meeting class current n from) (one_less made tries few) ∙ ap (λ (f : Option Try). first_meeting class current (suc (tries - (made + 1))) f) is
    ∙ met class current (tries - (made + 1)) at meets

-- it doesn't
pub try_missed : (class : ℕ) (current : CurrentJob) (made tries : ℕ) (from : Option Try) (at : Try) → made < tries → from ≡ Some at → is_met class current at ≡ false
    → first_meeting class current (tries - made) from ≡ first_meeting class current (tries - (made + 1)) (following at)
try_missed class current made tries from at few is misses =
    ap (λ (n : ℕ). first_meeting class current n from) (one_less made tries few) ∙ ap (λ (f : Option Try). first_meeting class current (suc (tries - (made + 1))) f) is
    ∙ missed class current (tries - (made + 1)) at misses
