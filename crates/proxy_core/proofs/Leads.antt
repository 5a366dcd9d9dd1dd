-- The least lead that is free, one after the other.
use Rattle.std.proofs.Common.{◌≡◌, ℕ, suc, ◌+◌, ◌-◌, ◌<◌, true, false, None, Some, List, refl, ap, ◌∙◌, arith}
use Rattle.proxy_rules.specs.Miners.{is_held, least_from}
use Rattle.proxy_rules.specs.State.{Miner}

held_at : (more : ℕ) (miners : List Miner) (lead : ℕ) → is_held lead miners ≡ true → least_from (suc more) miners lead ≡ least_from more miners (lead + 1)
unfolding least_from
held_at more miners lead held = rw held refl

free_at : (more : ℕ) (miners : List Miner) (lead : ℕ) → is_held lead miners ≡ false → least_from (suc more) miners lead ≡ Some lead
unfolding least_from
free_at more miners lead free = rw free refl

pub next_lead : (miners : List Miner) (most lead : ℕ) → lead < most → is_held lead miners ≡ true
    → least_from (most - lead) miners lead ≡ least_from (most - (lead + 1)) miners (lead + 1)
next_lead miners most lead below held =
    let more : most - lead ≡ suc (most - (lead + 1)) = omega arith in
    ap (λ n. least_from n miners lead) more ∙ held_at (most - (lead + 1)) miners lead held

pub this_lead : (miners : List Miner) (most lead : ℕ) → lead < most → is_held lead miners ≡ false
    → least_from (most - lead) miners lead ≡ Some lead
this_lead miners most lead below free =
    let more : most - lead ≡ suc (most - (lead + 1)) = omega arith in
    ap (λ n. least_from n miners lead) more ∙ free_at (most - (lead + 1)) miners lead free

pub no_lead : (miners : List Miner) (lead : ℕ) → least_from 0 miners lead ≡ None
unfolding least_from
no_lead miners lead = refl
