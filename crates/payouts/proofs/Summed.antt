-- A summary over a tally is that of the history whose credits the tally was told.
use Rattle.std.proofs.Common.{◌≡◌, ℕ, ◌<◌, Option, None, Some, Result, Ok, Err, List, [], ◌∷◌, ◌++◌, ◌+◌, append_assoc, append-nil, length, map, get_or, sum_by, sym, ap, ap₂, ◌∙◌, arith}
use Rattle.std.specs.List.{flat_map, range_with_len}
use Rattle.std.specs.Result.{OnErr}
use Rattle.std.proofs.lemmas.List.{get_or-map, length-map}
use Rattle.std.proofs.lemmas.List.Concat.{flat_map-append}
use Rattle.std.proofs.lemmas.List.FromFn.{fill_by_all, map-range_with_len_more}
use Rattle.pool_base.specs.Lists.{Begins}
use Rattle.pool_history.specs.declared.events.Event.{Event}
use Rattle.pool_history.specs.declared.settings.Rules.{Rules}
use Rattle.pool_history.specs.Crediting.{Booked, bookings_of}
use Rattle.pool_history.specs.Sessions.{enters, rules_of}
use Rattle.pool_history.specs.Settling.{Settled, accounts_of, balance, settlements, work_for}
use Rattle.pool_history.specs.Summary.{AccountSum, account_line, settlements_by, summary_of, summed, sums_of}
use Rattle.payouts.specs.Tallies.{Remembers, Weighing}
use Rattle.payouts.specs.Totals.{HasSums}
use Rattle.payouts.specs.SummaryTotals.{HasSumsBy, IsToldHistory, account_sums, summary_in, sums_at}

-- sums that are kept by places
sums-placed : (tally : Weighing) (credits : List Booked) (settled : List Settled) → tally.works ≡ map (λ account. work_for account credits) tally.accounts
    → tally.balances ≡ map (λ account. balance account settled) tally.accounts → account_sums tally ≡ map (sums_of credits settled) tally.accounts
sums-placed tally credits settled works balances =
    sym (fill_by_all (sums_at tally) (map (sums_of credits settled) tally.accounts) (length tally.accounts) (sums_of credits settled []) (length-map tally.accounts (sums_of credits settled)) each)
  where
    each : (k : ℕ) → k < length tally.accounts → get_or (map (sums_of credits settled) tally.accounts) k (sums_of credits settled []) ≡ sums_at tally k
    each k within =
        get_or-map (sums_of credits settled) tally.accounts k [] (sums_of credits settled []) within
        ∙ ap₂ (λ work owed. record { account = get_or tally.accounts k []; work = work; balance = owed })
        (sym (ap (λ works. get_or works k 0) works ∙ get_or-map (λ account. work_for account credits) tally.accounts k [] 0 within))
        (sym (ap (λ balances. get_or balances k 0) balances ∙ get_or-map (λ account. balance account settled) tally.accounts k [] 0 within))

-- the numbers, with settlements
told-with : (sessions events : ℕ) (tally : Weighing) (basis_points : ℕ) (credits : List Booked) (settled : List Settled) → Remembers tally credits
    → HasSums tally basis_points credits → settlements tally.window basis_points credits ≡ settled → summary_in sessions events tally ≡ summed sessions events credits settled
told-with sessions events tally basis_points credits settled remembers sums same = λ i. record {
  sessions = sessions;
  events = events;
  credits = remembers.pushes_are i;
  blocks = sums.blocks_are i;
  pool = pooled i;
  accounts = listed i;
} where
  pooled : tally.pool ≡ sum_by (λ settled. settled.pool) settled
  pooled = sums.pool_is ∙ ap (λ all. sum_by (λ settled. settled.pool) all) same

  listed : account_sums tally ≡ map (sums_of credits settled) (accounts_of credits)
  listed =
      sums-placed tally credits settled sums.works_are (sums.balances_are ∙ ap (λ all. map (λ account. balance account all) tally.accounts) same)
      ∙ ap (map (sums_of credits settled)) remembers.accounts_are

-- by the settlements of some rules
told-by : (sessions events : ℕ) (tally : Weighing) (rules : Option Rules) (credits : List Booked) → Remembers tally credits → HasSumsBy tally rules credits
    → summary_in sessions events tally ≡ summed sessions events credits (settlements_by rules credits)
told-by sessions events tally None credits remembers sums =
    told-with sessions events tally 0 credits [] remembers sums.1 (ap (settlements tally.window 0) sums.0)
told-by sessions events tally (Some rules) credits remembers sums =
    told-with sessions events tally rules.fee credits (settlements rules.window rules.fee credits) remembers sums.1 (ap (λ window. settlements window rules.fee credits) sums.0)

-- so the summary is that of the history
pub told : (sessions events : ℕ) (tally : Weighing) (past : List Event) → IsToldHistory tally past → sessions ≡ enters past → events ≡ length past
    → summary_in sessions events tally ≡ summary_of past
told sessions events tally past is entered long =
    told-by sessions events tally (rules_of past) (bookings_of past) is.remembers is.summed
    ∙ ap₂ (λ m n. summed m n (bookings_of past) (settlements_by (rules_of past) (bookings_of past))) entered long

-- the lines of the accounts, with one more
pub one-more : (tally : Weighing) (front old new : List ℕ) (place : ℕ) (sums : AccountSum) → old ≡ front ++ flat_map account_line (map (sums_at tally) (range_with_len 0 place))
    → sums ≡ sums_at tally place → new ≡ old ++ account_line sums → new ≡ front ++ flat_map account_line (map (sums_at tally) (range_with_len 0 (place + 1)))
one-more tally front old new place sums before is added =
    added ∙ ap₂ (λ text line. text ++ line) before (ap account_line is)
    ∙ append_assoc front (flat_map account_line (map (sums_at tally) (range_with_len 0 place))) (account_line (sums_at tally place))
    ∙ ap (λ text. front ++ text) (sym joined)
  where
    joined : flat_map account_line (map (sums_at tally) (range_with_len 0 (place + 1))) ≡ flat_map account_line (map (sums_at tally) (range_with_len 0 place)) ++ account_line (sums_at tally place)
    joined =
        ap (flat_map account_line) (map-range_with_len_more (sums_at tally) 0 place place (omega arith))
        ∙ flat_map-append account_line (map (sums_at tally) (range_with_len 0 place)) (sums_at tally place ∷ [])
        ∙ ap (λ text. flat_map account_line (map (sums_at tally) (range_with_len 0 place)) ++ text) (append-nil (account_line (sums_at tally place)))

-- what begins a part begins the whole
pub begins-through : (front old new lines : List ℕ) → old ≡ front ++ lines → Begins old new → Begins front new
begins-through front old new lines is begun = (lines ++ begun.0, sym (append_assoc front lines begun.0) ∙ ap (λ text. text ++ begun.0) (sym is) ∙ begun.1)

-- what holds at all holds where a call failed
pub on_err-given : {T E : Type 0} (P : Type 0) (r : Result T E) → P → OnErr r P
on_err-given P (Ok x) p = tt
on_err-given P (Err e) p = p
