-- Weights by the places of credits.
use Rattle.std.proofs.Common.{◌≡◌, ℕ, ◌+◌, ◌-◌, ◌*◌, ◌/◌, Bool, true, false, ◌&&◌, ◌||◌, cond, not, Option, None, Some, is_some, bytes_eq, sum_by, min, List, [], ◌∷◌, ◌++◌, refl, sym, ap, ap₂, ◌∙◌, arith}
use Rattle.std.specs.Prelude.{filter}
use Rattle.std.specs.List.{list_any}
use Rattle.std.proofs.lemmas.List.Folds.{list_any-append}
use Rattle.std.proofs.lemmas.List.Sums.{sum_by-append, sum_by-cons}
use Rattle.pool_history.specs.Crediting.{Booked}
use Rattle.pool_history.specs.Settling.{Part, all_weights, fee_of, last_work, parts_in_block, since_block, whole_part}
use Rattle.payout_laws.specs.Payouts.{PayoutsAreQuotients}
use Rattle.payout_laws.specs.Weights.{HasWeights, WeightsByPlaces, part_at, parts_from}
use Rattle.payout_laws.proofs.Conserved.{payouts-weighed}

-- the weights of the parts whose account a test takes
abbrev taken : (List ℕ → Bool) → List Part → ℕ
taken t parts = sum_by (λ part. part.weight) (filter (λ part. t part.account) parts)

abbrev of_account : (List ℕ → Bool) → Booked → Bool
of_account t credit = t credit.account

taken-cons : (t : List ℕ → Bool) (p : Part) (ps : List Part) → taken t (p ∷ ps) ≡ cond (t p.account) p.weight 0 + taken t ps
taken-cons t p ps = by (t p.account) where
  by : (b : Bool) → sum_by (λ part. part.weight) (cond b (p ∷ filter (λ part. t part.account) ps) (filter (λ part. t part.account) ps))
      ≡ cond b p.weight 0 + taken t ps
  by true = sum_by-cons (λ part. part.weight) p (filter (λ part. t part.account) ps)
  by false = omega arith

-- all weights are those that a test takes which takes all
taken-all : (ps : List Part) → taken (λ account. true) ps ≡ all_weights ps
taken-all [] = refl
taken-all (p ∷ ps) =
    taken-cons (λ account. true) p ps ∙ ap (λ n. p.weight + n) (taken-all ps) ∙ sym (sum_by-cons (λ part. part.weight) p ps)

-- PPLNS
pplns-from : (t : List ℕ → Bool) (window : ℕ) (newer : List Booked) (later : ℕ) (credits : List Booked) → later ≡ sum_by (λ one. one.work) newer
    → taken t (last_work window later credits) ≡ parts_from (of_account t) (Some window) newer credits
pplns-from t window newer later [] is = refl
pplns-from t window newer later (credit ∷ older) is =
    let p : Part = record { account = credit.account; weight = min credit.work (window - min window later) } in
    let more : later + credit.work ≡ sum_by (λ one. one.work) (newer ++ credit ∷ []) =
    ap (λ n. n + credit.work) is ∙ one-more credit.work (sum_by (λ one. one.work) newer) (sum_by-cons (λ one. one.work) credit [])
    ∙ sym (sum_by-append (λ one. one.work) newer (credit ∷ [])) in
    taken-cons t p (last_work window (later + credit.work) older)
    ∙ ap₂ (λ a b. a + b) (ap (λ n. cond (t credit.account) (min credit.work (window - min window n)) 0) is)
    (pplns-from t window (newer ++ credit ∷ []) (later + credit.work) older more) where
      one-more : (w n : ℕ) {m : ℕ} → m ≡ w + 0 → n + w ≡ n + m
      one-more w n e = omega (arith, e)

-- the proportional rule
abbrev is_block_of : Booked → Bool
is_block_of one = is_some one.reward

any-end : (between : List Booked) (credit : Booked) (b c : Bool) → list_any is_block_of between ≡ b → is_block_of credit ≡ c
    → list_any is_block_of (between ++ credit ∷ []) ≡ (b || (c || false))
any-end between credit b c is of = list_any-append is_block_of between (credit ∷ []) ∙ ap₂ (λ x y. x || (y || false)) is of

-- nothing counts behind a block
none-count : (takes : Booked → Bool) (block : Booked) (between older : List Booked) → list_any is_block_of between ≡ true
    → parts_from takes None (block ∷ between) older ≡ 0
none-count takes block between [] ended = refl
none-count takes block between (credit ∷ older) ended =
    let own : part_at None (block ∷ between) credit ≡ 0 = ap (λ b. cond (not b && not (is_block_of credit)) credit.work 0) ended in
    ap₂ (λ a b. a + b) (ap (λ n. cond (takes credit) n 0) own ∙ same (takes credit))
    (none-count takes block (between ++ credit ∷ []) older (any-end between credit true (is_block_of credit) ended refl)) where
      same : (b : Bool) → ◌≡◌ {A = ℕ} (cond b 0 0) 0
      same true = refl
      same false = refl

since-from : (t : List ℕ → Bool) (block : Booked) (between older : List Booked) → list_any is_block_of between ≡ false
    → taken t (since_block older) ≡ parts_from (of_account t) None (block ∷ between) older
since-from t block between [] none = refl
since-from t block between (credit ∷ older) none =
    by (is_block_of credit) refl (λ n. since-from t block (between ++ credit ∷ []) older n) where
      same : (b : Bool) → ◌≡◌ {A = ℕ} (cond b 0 0) 0
      same true = refl
      same false = refl

      by : (b : Bool) → is_block_of credit ≡ b
          → (list_any is_block_of (between ++ credit ∷ []) ≡ false
          → taken t (since_block older) ≡ parts_from (of_account t) None (block ∷ (between ++ credit ∷ [])) older)
          → taken t (cond (is_some credit.reward) [] (whole_part credit ∷ since_block older))
          ≡ cond (t credit.account) (cond (not (list_any is_block_of between) && not (is_block_of credit)) credit.work 0) 0
          + parts_from (of_account t) None (block ∷ (between ++ credit ∷ [])) older
      by true is rest =
          let own : cond (not (list_any is_block_of between) && not (is_block_of credit)) credit.work 0 ≡ 0 =
          ap₂ (λ x y. cond (not x && not y) credit.work 0) none is in
          ap (λ b. taken t (cond b [] (whole_part credit ∷ since_block older))) is
          ∙ sym (ap₂ (λ a b. a + b) (ap (λ n. cond (t credit.account) n 0) own ∙ same (t credit.account))
          (none-count (of_account t) block (between ++ credit ∷ []) older (any-end between credit false true none is)))
      by false is rest =
          let own : cond (not (list_any is_block_of between) && not (is_block_of credit)) credit.work 0 ≡ credit.work =
          ap₂ (λ x y. cond (not x && not y) credit.work 0) none is in
          ap (λ b. taken t (cond b [] (whole_part credit ∷ since_block older))) is
          ∙ taken-cons t (whole_part credit) (since_block older)
          ∙ ap₂ (λ a b. a + b) (ap (λ n. cond (t credit.account) n 0) (sym own)) (rest (any-end between credit false false none is))

parts-placed : (t : List ℕ → Bool) (window : Option ℕ) (credits : List Booked) → taken t (parts_in_block window credits) ≡ parts_from (of_account t) window [] credits
parts-placed t None [] = refl
parts-placed t None (block ∷ older) =
    taken-cons t (whole_part block) (since_block older) ∙ ap (λ n. cond (t block.account) block.work 0 + n) (since-from t block [] older refl)
parts-placed t (Some window) credits = pplns-from t window [] 0 credits refl

pub weights-placed : WeightsByPlaces
weights-placed window credits account = record {
  own = parts-placed (λ other. bytes_eq other account) window credits;
  all = sym (taken-all (parts_in_block window credits)) ∙ parts-placed (λ other. true) window credits;
}

pub payouts-placed : PayoutsAreQuotients
payouts-placed window basis_points reward credits account =
    let w : HasWeights window credits account = weights-placed window credits account in
    payouts-weighed window basis_points reward credits account
    ∙ ap₂ (λ own all. (reward - fee_of reward basis_points) * own / all) w.own w.all
