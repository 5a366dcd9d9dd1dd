-- What is paid to the listed accounts is what is paid to all.
use Rattle.std.proofs.Common.{◌≡◌, ℕ, ◌+◌, ◌-◌, ◌*◌, ◌/◌, ◌<◌, ◌≤◌, suc, zero, Bool, true, false, cond, bytes_eq, nat_le, nat_lt, map, get_or, List, [], ◌∷◌, ◌++◌, length, refl, sym, ap, ap₂, ◌∙◌, subst, arith}
use Rattle.std.specs.List.{list_any}
use Rattle.std.proofs.lemmas.Bool.{ltb-false}
use Rattle.std.proofs.lemmas.List.Sums.{sum_by-cons}
use Rattle.payout_laws.proofs.Shares.{nothing_paid}
use Rattle.pool_history.specs.Settling.{with_account}
use Rattle.payouts.specs.declared.settlement.Listed.{Listed}
use Rattle.payouts.specs.declared.window.Kept.{Kept}
use Rattle.payouts.specs.Settlements.{payments_by}
use Rattle.payouts.specs.Sheets.{AreListed, ListsWeighed, balances_with, further, listed_accounts, listed_at, listed_weights, payments_to}
use Rattle.payouts.specs.Sums.{with_amounts}
use Rattle.payouts.specs.Tallies.{account_place, with_newcomer}
use Rattle.payouts.specs.Weights.{AreAtMost, weighed_places, with_place}
use Rattle.payouts.specs.Window.{IsCreditWindow, added, weights_of, weights_sum, without_oldest}
use Rattle.payouts.proofs.Added.{length-added, weights_of-push}
use Rattle.payouts.proofs.Ordered.{weighed-added, weighed-newcomer}
use Rattle.payouts.proofs.Paid.{first-split}
use Rattle.payouts.proofs.Tallied.{newcomer-long, newcomer-within}

-- a newcomer stands behind the others
default-end : (accounts : List (List ℕ)) (place : ℕ) (newcomer : List ℕ) → get_or accounts place newcomer ≡ get_or (accounts ++ newcomer ∷ []) place newcomer
default-end [] zero newcomer = refl
default-end [] (suc place) newcomer = refl
default-end (a ∷ accounts) zero newcomer = refl
default-end (a ∷ accounts) (suc place) newcomer = default-end accounts place newcomer

listed-end : (accounts : List (List ℕ)) (newcomer : List ℕ) (places : List ℕ)
    → map (listed_at accounts newcomer) places ≡ map (listed_at (accounts ++ newcomer ∷ []) newcomer) places
listed-end accounts newcomer [] = refl
listed-end accounts newcomer (place ∷ places) =
    ap₂ (λ account rest. record { place = place; account = account } ∷ rest) (default-end accounts place newcomer) (listed-end accounts newcomer places)

listed-further : (a newcomer : List ℕ) (accounts : List (List ℕ)) (places : List ℕ)
    → map (listed_at (a ∷ accounts) newcomer) (map (λ place. suc place) places) ≡ map further (map (listed_at accounts newcomer) places)
listed-further a newcomer accounts [] = refl
listed-further a newcomer accounts (place ∷ places) =
    ap (λ rest. record { place = suc place; account = get_or accounts place newcomer } ∷ rest) (listed-further a newcomer accounts places)

-- the places that have a weight list the accounts that have one
pub listed-weighed : (accounts : List (List ℕ)) (newcomer : List ℕ) (weights : List ℕ) → length weights ≡ length accounts
    → map (listed_at accounts newcomer) (weighed_places weights) ≡ listed_accounts accounts weights
listed-weighed [] newcomer [] long = refl
listed-weighed [] newcomer (w ∷ ws) long = absurd (none long) where
  none : suc (length ws) ≡ 0 → ⊥
  none e = omega (arith, e)
listed-weighed (a ∷ accounts) newcomer [] long = refl
listed-weighed (a ∷ accounts) newcomer (w ∷ ws) long =
    by_test (nat_lt 0 w) (listed-further a newcomer accounts (weighed_places ws) ∙ ap (map further) (listed-weighed accounts newcomer ws (omega (arith, long))))
  where
    by_test : (t : Bool) → map (listed_at (a ∷ accounts) newcomer) (map (λ place. suc place) (weighed_places ws)) ≡ map further (listed_accounts accounts ws)
        → map (listed_at (a ∷ accounts) newcomer) (cond t (0 ∷ map (λ place. suc place) (weighed_places ws)) (map (λ place. suc place) (weighed_places ws)))
        ≡ cond t (record { place = 0; account = a } ∷ map further (listed_accounts accounts ws)) (map further (listed_accounts accounts ws))
    by_test true more = ap (λ rest. record { place = 0; account = a } ∷ rest) more
    by_test false more = more

pub listed-with : (account : List ℕ) (accounts : List (List ℕ)) (weights : List ℕ) → length weights ≡ length (with_account account accounts)
    → map (listed_at accounts account) (weighed_places weights) ≡ listed_accounts (with_account account accounts) weights
listed-with account accounts weights long = by_test (list_any (bytes_eq account) accounts) long where
  by_test : (t : Bool) → length weights ≡ length (cond t accounts (accounts ++ account ∷ []))
      → map (listed_at accounts account) (weighed_places weights) ≡ listed_accounts (cond t accounts (accounts ++ account ∷ [])) weights
  by_test true l = listed-weighed accounts account weights l
  by_test false l = listed-end accounts account (weighed_places weights) ∙ listed-weighed (accounts ++ account ∷ []) account weights l

-- one place further, among one weight more
payments-further : (paid_out all w : ℕ) (ws : List ℕ) (listed : List Listed) → payments_to paid_out all (w ∷ ws) (map further listed) ≡ payments_to paid_out all ws listed
payments-further paid_out all w ws [] = refl
payments-further paid_out all w ws (l ∷ listed) =
    ap (λ rest. payments_by paid_out all (l.account ∷ []) (get_or ws l.place 0 ∷ []) ++ rest) (payments-further paid_out all w ws listed)

balances-further : (paid_out all w b : ℕ) (ws bs : List ℕ) (listed : List Listed)
    → balances_with paid_out all (w ∷ ws) (map further listed) (b ∷ bs) ≡ b ∷ balances_with paid_out all ws listed bs
balances-further paid_out all w b ws bs [] = refl
balances-further paid_out all w b ws bs (l ∷ listed) = balances-further paid_out all w b ws (added bs l.place (paid_out * get_or ws l.place 0 / all)) listed

balances-none : (paid_out all : ℕ) (ws : List ℕ) (listed : List Listed) → balances_with paid_out all ws listed [] ≡ []
balances-none paid_out all ws [] = refl
balances-none paid_out all ws (l ∷ listed) = balances-none paid_out all ws listed

weights-further : (w : ℕ) (ws : List ℕ) (listed : List Listed) → listed_weights (w ∷ ws) (map further listed) ≡ listed_weights ws listed
weights-further w ws [] = refl
weights-further w ws (l ∷ listed) = ap (λ n. get_or ws l.place 0 + n) (weights-further w ws listed)

places-further : (n : ℕ) (listed : List Listed) → AreListed n listed → AreListed (suc n) (map further listed)
places-further n [] are = tt
places-further n (l ∷ listed) are = (omega (arith, are.0), places-further n listed are.1)

-- an account without a weight is paid nothing
skipped : (paid_out all : ℕ) (a : List ℕ) (accounts : List (List ℕ)) (w : ℕ) (ws : List ℕ) → w ≡ 0
    → payments_by paid_out all accounts ws ≡ payments_by paid_out all (a ∷ accounts) (w ∷ ws)
skipped paid_out all a accounts w ws none =
    ap (λ n. cond (nat_lt 0 n) (record { account = a; weight = n; amount = paid_out * n / all } ∷ payments_by paid_out all accounts ws) (payments_by paid_out all accounts ws)) (sym none)

no-weight : (w m : ℕ) → w ≤ m → nat_lt 0 m ≡ false → w ≡ 0
no-weight w m most e = omega (arith, most, ltb-false 0 m e)

pub payments-listed : (paid_out all : ℕ) (accounts : List (List ℕ)) (ws ms : List ℕ) → AreAtMost ws ms
    → payments_to paid_out all ws (listed_accounts accounts ms) ≡ payments_by paid_out all accounts ws
payments-listed paid_out all [] ws ms most = refl
payments-listed paid_out all (a ∷ accounts) [] [] most = refl
payments-listed paid_out all (a ∷ accounts) [] (m ∷ ms) most = absurd most
payments-listed paid_out all (a ∷ accounts) (w ∷ ws) [] most = absurd most
payments-listed paid_out all (a ∷ accounts) (w ∷ ws) (m ∷ ms) most =
    by_test (nat_lt 0 m) refl (payments-further paid_out all w ws (listed_accounts accounts ms) ∙ payments-listed paid_out all accounts ws ms most.1)
  where
    by_test : (t : Bool) → nat_lt 0 m ≡ t → payments_to paid_out all (w ∷ ws) (map further (listed_accounts accounts ms)) ≡ payments_by paid_out all accounts ws
        → payments_to paid_out all (w ∷ ws) (cond t (record { place = 0; account = a } ∷ map further (listed_accounts accounts ms)) (map further (listed_accounts accounts ms)))
        ≡ payments_by paid_out all (a ∷ accounts) (w ∷ ws)
    by_test true e more =
        ap (λ rest. payments_by paid_out all (a ∷ []) (w ∷ []) ++ rest) more ∙ sym (first-split paid_out all a accounts w ws)
    by_test false e more = more ∙ skipped paid_out all a accounts w ws (no-weight w m most.0 e)

pub balances-listed : (paid_out all : ℕ) (accounts : List (List ℕ)) (ws ms bs : List ℕ) → AreAtMost ws ms → length ws ≡ length accounts
    → balances_with paid_out all ws (listed_accounts accounts ms) bs ≡ with_amounts paid_out all ws bs
balances-listed paid_out all accounts ws ms [] most long = balances-none paid_out all ws (listed_accounts accounts ms)
balances-listed paid_out all [] [] ms (b ∷ bs) most long = refl
balances-listed paid_out all [] (w ∷ ws) ms (b ∷ bs) most long = absurd (none long) where
  none : suc (length ws) ≡ 0 → ⊥
  none e = omega (arith, e)
balances-listed paid_out all (a ∷ accounts) [] [] (b ∷ bs) most long = refl
balances-listed paid_out all (a ∷ accounts) [] (m ∷ ms) (b ∷ bs) most long = absurd most
balances-listed paid_out all (a ∷ accounts) (w ∷ ws) [] (b ∷ bs) most long = absurd most
balances-listed paid_out all (a ∷ accounts) (w ∷ ws) (m ∷ ms) (b ∷ bs) most long =
    by_test (nat_lt 0 m) refl (balances-listed paid_out all accounts ws ms bs most.1 (omega (arith, long)))
  where
    amount : nat_lt 0 m ≡ false → b ≡ b + paid_out * w / all
    amount e = omega (arith, nothing_paid paid_out all w (no-weight w m most.0 e))

    by_test : (t : Bool) → nat_lt 0 m ≡ t → balances_with paid_out all ws (listed_accounts accounts ms) bs ≡ with_amounts paid_out all ws bs
        → balances_with paid_out all (w ∷ ws) (cond t (record { place = 0; account = a } ∷ map further (listed_accounts accounts ms)) (map further (listed_accounts accounts ms))) (b ∷ bs)
        ≡ (b + paid_out * w / all) ∷ with_amounts paid_out all ws bs
    by_test true e more =
        balances-further paid_out all w (b + paid_out * w / all) ws bs (listed_accounts accounts ms) ∙ ap (λ rest. (b + paid_out * w / all) ∷ rest) more
    by_test false e more =
        balances-further paid_out all w b ws bs (listed_accounts accounts ms) ∙ ap₂ (λ n rest. n ∷ rest) (amount e) more

pub weights-listed : (accounts : List (List ℕ)) (ws ms : List ℕ) → AreAtMost ws ms → listed_weights ws (listed_accounts accounts ms) ≤ weights_sum ws
weights-listed [] ws ms most = omega arith
weights-listed (a ∷ accounts) [] [] most = omega arith
weights-listed (a ∷ accounts) [] (m ∷ ms) most = absurd most
weights-listed (a ∷ accounts) (w ∷ ws) [] most = absurd most
weights-listed (a ∷ accounts) (w ∷ ws) (m ∷ ms) most = by_test (nat_lt 0 m) (weights-listed accounts ws ms most.1) where
  by_test : (t : Bool) → listed_weights ws (listed_accounts accounts ms) ≤ weights_sum ws
      → listed_weights (w ∷ ws) (cond t (record { place = 0; account = a } ∷ map further (listed_accounts accounts ms)) (map further (listed_accounts accounts ms))) ≤ weights_sum (w ∷ ws)
  by_test true more = omega (arith, weights-further w ws (listed_accounts accounts ms), sum_by-cons (λ (n : ℕ). n) w ws, more)
  by_test false more = omega (arith, weights-further w ws (listed_accounts accounts ms), sum_by-cons (λ (n : ℕ). n) w ws, more)

pub places-listed : (accounts : List (List ℕ)) (ws ms : List ℕ) → AreAtMost ws ms → AreListed (length ws) (listed_accounts accounts ms)
places-listed [] ws ms most = tt
places-listed (a ∷ accounts) [] [] most = tt
places-listed (a ∷ accounts) [] (m ∷ ms) most = absurd most
places-listed (a ∷ accounts) (w ∷ ws) [] most = absurd most
places-listed (a ∷ accounts) (w ∷ ws) (m ∷ ms) most = by_test (nat_lt 0 m) (places-further (length ws) (listed_accounts accounts ms) (places-listed accounts ws ms most.1)) where
  by_test : (t : Bool) → AreListed (suc (length ws)) (map further (listed_accounts accounts ms))
      → AreListed (suc (length ws)) (cond t (record { place = 0; account = a } ∷ map further (listed_accounts accounts ms)) (map further (listed_accounts accounts ms)))
  by_test true more = (omega arith, more)
  by_test false more = more

-- weights that are at most others
pub at_most-same : (ws : List ℕ) → AreAtMost ws ws
at_most-same [] = tt
at_most-same (w ∷ ws) = (omega arith, at_most-same ws)

at_most-added : (ws ms : List ℕ) (place x y : ℕ) → x ≤ y → AreAtMost ws ms → AreAtMost (added ws place x) (added ms place y)
at_most-added [] [] place x y less most = tt
at_most-added [] (m ∷ ms) place x y less most = absurd most
at_most-added (w ∷ ws) [] place x y less most = absurd most
at_most-added (w ∷ ws) (m ∷ ms) zero x y less most = (omega (arith, less, most.0), most.1)
at_most-added (w ∷ ws) (m ∷ ms) (suc place) x y less most = (most.0, at_most-added ws ms place x y less most.1)

at_most-more : (ws ms : List ℕ) (place y : ℕ) → AreAtMost ws ms → AreAtMost ws (added ms place y)
at_most-more [] [] place y most = tt
at_most-more [] (m ∷ ms) place y most = absurd most
at_most-more (w ∷ ws) [] place y most = absurd most
at_most-more (w ∷ ws) (m ∷ ms) zero y most = (omega (arith, most.0), most.1)
at_most-more (w ∷ ws) (m ∷ ms) (suc place) y most = (most.0, at_most-more ws ms place y most.1)

-- what leaves the window adds nothing
pub at_most-cut : (n excess : ℕ) (kept : List Kept) → AreAtMost (weights_of n (without_oldest excess kept)) (weights_of n kept)
at_most-cut n excess [] = at_most-same (weights_of n [])
at_most-cut n excess (k ∷ newer) = by_test (nat_le k.part excess) (at_most-cut n (excess - k.part) newer) where
  by_test : (t : Bool) → AreAtMost (weights_of n (without_oldest (excess - k.part) newer)) (weights_of n newer)
      → AreAtMost (weights_of n (cond t (without_oldest (excess - k.part) newer) (record { place = k.place; part = k.part - excess } ∷ newer))) (added (weights_of n newer) k.place k.part)
  by_test true more = at_most-more (weights_of n (without_oldest (excess - k.part) newer)) (weights_of n newer) k.place k.part more
  by_test false more = at_most-added (weights_of n newer) (weights_of n newer) k.place (k.part - excess) k.part (omega arith) (at_most-same (weights_of n newer))

pub entered-most : (kept : List Kept) (weights : List ℕ) (credit : Kept) (kept' : List Kept) (weights' : List ℕ) (excess : ℕ) → IsCreditWindow kept weights
    → kept' ≡ without_oldest excess (kept ++ credit ∷ []) → IsCreditWindow kept' weights' → length weights' ≡ length (added weights credit.place credit.part)
    → AreAtMost weights' (added weights credit.place credit.part)
entered-most kept weights credit kept' weights' excess is cut is' long =
    subst (λ ns. AreAtMost ns (added weights credit.place credit.part)) (sym shown)
    (subst (AreAtMost (weights_of (length weights) (without_oldest excess (kept ++ credit ∷ [])))) whole (at_most-cut (length weights) excess (kept ++ credit ∷ [])))
  where
    whole : weights_of (length weights) (kept ++ credit ∷ []) ≡ added weights credit.place credit.part
    whole = weights_of-push (length weights) kept credit ∙ ap (λ ns. added ns credit.place credit.part) (sym is.weighed)

    same : length weights' ≡ length weights
    same = long ∙ length-added weights credit.place credit.part

    shown : weights' ≡ weights_of (length weights) (without_oldest excess (kept ++ credit ∷ []))
    shown = is'.weighed ∙ ap₂ (λ n ks. weights_of n ks) same cut

-- so with a sheet that lists all accounts that have a weight
pub lists-weights : (accounts : List (List ℕ)) (ws : List ℕ) (listed : List Listed) → ListsWeighed accounts ws listed → listed_weights ws listed ≤ weights_sum ws
lists-weights accounts ws listed is = subst (λ ls. listed_weights ws ls ≤ weights_sum ws) (sym is.listed_are) (weights-listed accounts ws is.mosts is.most)

pub lists-places : (accounts : List (List ℕ)) (ws : List ℕ) (listed : List Listed) → ListsWeighed accounts ws listed → AreListed (length ws) listed
lists-places accounts ws listed is = subst (AreListed (length ws)) (sym is.listed_are) (places-listed accounts ws is.mosts is.most)

pub lists-payments : (paid_out all : ℕ) (accounts : List (List ℕ)) (ws : List ℕ) (listed : List Listed) → ListsWeighed accounts ws listed
    → payments_to paid_out all ws listed ≡ payments_by paid_out all accounts ws
lists-payments paid_out all accounts ws listed is = ap (payments_to paid_out all ws) is.listed_are ∙ payments-listed paid_out all accounts ws is.mosts is.most

pub lists-balances : (paid_out all : ℕ) (accounts : List (List ℕ)) (ws bs : List ℕ) (listed : List Listed) → ListsWeighed accounts ws listed → length ws ≡ length accounts
    → balances_with paid_out all ws listed bs ≡ with_amounts paid_out all ws bs
lists-balances paid_out all accounts ws bs listed is long =
    ap (λ ls. balances_with paid_out all ws ls bs) is.listed_are ∙ balances-listed paid_out all accounts ws is.mosts bs is.most long

-- a sheet of the places that have a weight lists them
pub lists-weighed : (accounts : List (List ℕ)) (newcomer : List ℕ) (ws : List ℕ) (listed : List Listed) → length ws ≡ length accounts
    → listed ≡ map (listed_at accounts newcomer) (weighed_places ws) → ListsWeighed accounts ws listed
lists-weighed accounts newcomer ws listed long is = record {
  mosts = ws;
  listed_are = is ∙ listed-weighed accounts newcomer ws long;
  most = at_most-same ws;
}

-- with the account that pushes
pub lists-pushed : (account : List ℕ) (accounts : List (List ℕ)) (ws : List ℕ) (work : ℕ) (places : List ℕ) (listed : List Listed) → 1 ≤ work → length ws ≡ length accounts
    → places ≡ weighed_places ws → listed ≡ map (listed_at accounts account) (with_place (account_place accounts account) places)
    → listed ≡ listed_accounts (with_account account accounts) (added (with_newcomer account accounts ws) (account_place accounts account) work)
lists-pushed account accounts ws work places listed some long are is =
    is ∙ ap (map (listed_at accounts account)) (ap (with_place (account_place accounts account)) (are ∙ newcomer) ∙ sym (weighed-added (with_newcomer account accounts ws) (account_place accounts account) work some within))
    ∙ listed-with account accounts (added (with_newcomer account accounts ws) (account_place accounts account) work) whole
  where
    by_newcomer : (t : Bool) → weighed_places ws ≡ weighed_places (cond t ws (ws ++ 0 ∷ []))
    by_newcomer true = refl
    by_newcomer false = sym (weighed-newcomer ws)

    newcomer : weighed_places ws ≡ weighed_places (with_newcomer account accounts ws)
    newcomer = by_newcomer (list_any (bytes_eq account) accounts)

    within : account_place accounts account < length (with_newcomer account accounts ws)
    within = newcomer-within account accounts ws long

    whole : length (added (with_newcomer account accounts ws) (account_place accounts account) work) ≡ length (with_account account accounts)
    whole = length-added (with_newcomer account accounts ws) (account_place accounts account) work ∙ newcomer-long account accounts ws long
