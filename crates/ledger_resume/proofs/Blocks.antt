-- A credit is a block where the tally has one more.
use Rattle.std.proofs.Common.{◌≡◌, ◌⊎◌, inl, inr, ⊎_elim, ℕ, ◌+◌, Bool, true, false, cond, not, None, Some, Option, List, [], ◌∷◌, ◌++◌, is_some, refl, ap, sym, subst, ◌∙◌, arith, count_by}
use Rattle.std.proofs.lemmas.Bool.{eq-eqb, ne_eqb}
use Rattle.std.proofs.lemmas.List.Sums.{sum_by-cons}
use Rattle.std.specs.Prelude.{if◌then◌else◌, nat_eq}
use Rattle.std.specs.Option.{option_map_or}
use Rattle.payouts.specs.Tallies.{Weighing}
use Rattle.payouts.specs.Totals.{HasSums}
use Rattle.pool_history.specs.declared.events.Event.{Event}
use Rattle.pool_history.specs.declared.events.Event.TheVariants as event
use Rattle.pool_history.specs.Crediting.{Booked, booked_with, booking, bookings_of, credit_share, found_list, is_block}
use Rattle.pool_history.specs.Judging.{Admitted, Share}
use Rattle.pool_history.specs.Sessions.{script_of}
use Rattle.event_store.specs.Blocks.{is_block_event}

-- how many blocks there are among credits
abbrev block_count : List Booked → ℕ
block_count credits = count_by (λ (credit : Booked). is_some credit.reward) credits

count-cons : (credit : Booked) (older : List Booked) → block_count (credit ∷ older) ≡ cond (is_some credit.reward) 1 0 + block_count older
count-cons credit older = sum_by-cons (λ (c : Booked). cond (is_some c.reward) 1 0) credit older

-- one more is counted, or none
abbrev CountsOne : Bool → ℕ → ℕ → Type 0
CountsOne is n m = ((is ≡ true) × (m ≡ n + 1)) ⊎ ((is ≡ false) × (m ≡ n))

counts_credit : (credit : Booked) (older : List Booked) (is : Bool) (reward : ℕ) → credit.reward ≡ (if is then Some reward else None)
    → CountsOne is (block_count older) (block_count (credit ∷ older))
counts_credit credit older true reward same =
    inl (refl, count-cons credit older ∙ ap (λ r. cond (is_some r) 1 0 + block_count older) same ∙ one (block_count older)) where
      one : (n : ℕ) → 1 + n ≡ n + 1
      one n = omega arith
counts_credit credit older false reward same =
    inr (refl, count-cons credit older ∙ ap (λ r. cond (is_some r) 1 0 + block_count older) same ∙ none (block_count older)) where
      none : (n : ℕ) → 0 + n ≡ n
      none n = omega arith

counts_found : (script : List ℕ) (share : Admitted → Share) (found : Option Admitted) (older : List Booked)
    → CountsOne (option_map_or (λ with. is_block script with (share with)) found false) (block_count older)
    (block_count (found_list (λ with. booking script (share with) with) found ++ older))
counts_found script share None older = inr (refl, refl)
counts_found script share (Some with) older =
    counts_credit (booking script (share with) with) older (is_block script with (share with)) _ refl

counts_event : (past : List Event) (e : Event) → CountsOne (is_block_event past e) (block_count (bookings_of past)) (block_count (bookings_of (e ∷ past)))
counts_event past (event.Credit session channel job nonce ntime version extranonce) =
    counts_found (script_of past) (λ with. credit_share with channel job nonce ntime version extranonce) (booked_with past channel job) (bookings_of past)
counts_event past (event.Start rules) = inr (refl, refl)
counts_event past (event.Enter worker role flags) = inr (refl, refl)
counts_event past (event.Template session template) = inr (refl, refl)
counts_event past (event.Tip session tip) = inr (refl, refl)
counts_event past (event.Open session kind account class lead) = inr (refl, refl)
counts_event past (event.Name session channel account) = inr (refl, refl)
counts_event past (event.Class session channel class) = inr (refl, refl)
counts_event past (event.Close session channel) = inr (refl, refl)
counts_event past (event.Leave session) = inr (refl, refl)
counts_event past (event.Grant session account fixed path) = inr (refl, refl)
counts_event past (event.Custom session custom) = inr (refl, refl)

-- so two counts tell it
pub told_block : (past : List Event) (e : Event) (old new : Weighing) (fee other m n : ℕ) → HasSums old fee (bookings_of past)
    → HasSums new other (bookings_of (e ∷ past)) → n ≡ old.blocks → m ≡ new.blocks → not (nat_eq m n) ≡ is_block_event past e
told_block past e old new fee other m n was now old_is new_is =
    ⊎_elim
    (λ one. ap not (ne_eqb m n (λ same. omega (arith, same, was.blocks_are, now.blocks_are, one.1, old_is, new_is))) ∙ sym one.0)
    (λ none. ap not (eq-eqb m n (new_is ∙ now.blocks_are ∙ none.1 ∙ sym was.blocks_are ∙ sym old_is)) ∙ sym none.0)
    (counts_event past e)
