-- The leads of the miners that are joined differ, and fit the channel.
use Rattle.std.proofs.Common.{◌≡◌, ℕ, ◌==◌, ◌||◌, ◌⊎◌, Bool, true, false, Option, None, Some, List, [], ◌∷◌, ◌++◌, inl, inr, refl, sym, ap, subst, ◌∙◌}
use Rattle.std.proofs.lemmas.Bool.{cases_Bool, eq-eqb, eqb-true}
use Rattle.v1_translate.specs.Heard.{OpenedChannel}
use Rattle.proxy_rules.specs.Laws.{AreApart, AllFit, FitsChannel, is_among, lead_of, leads_in}
use Rattle.proxy_rules.specs.Miners.{at_caller, holds_lead, is_held, new_miner, seat_holds, seat_in}
use Rattle.proxy_rules.specs.State.{Miner, Seat, Session}
use Rattle.proxy_rules.specs.Steps.{first_opened, seated, seated_session}
use Rattle.proxy_rules.proofs.Rows.{SameRows}

-- ---- leads of the same rows

pub leads_same : (xs ys : List Miner) → SameRows xs ys → leads_in ys ≡ leads_in xs
leads_same [] [] rows = refl
leads_same [] (y ∷ ys) rows = absurd rows
leads_same (x ∷ xs) [] rows = absurd rows
leads_same (x ∷ xs) (y ∷ ys) rows = λ i. lead_of (rows.0.seat i) ++ leads_same xs ys rows.1 i

pub fit_same : (opened : Option OpenedChannel) (xs ys : List Miner) → SameRows xs ys → AllFit opened xs → AllFit opened ys
fit_same opened [] [] rows fit = tt
fit_same opened [] (y ∷ ys) rows fit = absurd rows
fit_same opened (x ∷ xs) [] rows fit = absurd rows
fit_same opened (x ∷ xs) (y ∷ ys) rows fit =
    (let P : Option Seat → Type 0 = λ seat. FitsChannel opened seat in subst P (sym rows.0.seat) fit.0, fit_same opened xs ys rows.1 fit.1)

-- ---- who holds none

seat_among : (number : ℕ) (seat : Option Seat) (rest : List ℕ) → is_among number (lead_of seat ++ rest) ≡ (seat_holds number seat || is_among number rest)
seat_among number None rest = refl
seat_among number (Some seat) rest = refl

pub held_among : (number : ℕ) (miners : List Miner) → is_held number miners ≡ is_among number (leads_in miners)
held_among number [] = refl
held_among number (miner ∷ miners) =
    ap (λ more. holds_lead number miner || more) (held_among number miners)
    ∙ sym (seat_among number (seat_in miner.session) (leads_in miners))

none_of_either : (a b : Bool) → (a || b) ≡ false → (a ≡ false) × (b ≡ false)
none_of_either true b none = absurd (cc)
none_of_either false b none = (refl, none)

either_of_none : (a b : Bool) → a ≡ false → b ≡ false → (a || b) ≡ false
either_of_none a b one other = rw (one, other) refl

rest_apart : (seat : Option Seat) (rest : List ℕ) → AreApart (lead_of seat ++ rest) → AreApart rest
rest_apart None rest apart = apart
rest_apart (Some seat) rest apart = apart.1

with_rest : (seat : Option Seat) (rest more : List ℕ) → AreApart (lead_of seat ++ rest)
    → ((number : ℕ) → seat_holds number seat ≡ true → is_among number rest ≡ false → is_among number more ≡ false)
    → AreApart more → AreApart (lead_of seat ++ more)
with_rest None rest more apart goes_on behind = behind
with_rest (Some seat) rest more apart goes_on behind = (goes_on seat.lead (same_number seat.lead) apart.0, behind)
  where
    same_number : (n : ℕ) → (n == n) ≡ true
    same_number n = eq-eqb n n refl

-- ---- a change that unseats

unseat_among : (number caller : ℕ) (change : Miner → Miner) (miners : List Miner) → ((miner : Miner) → seat_in (change miner).session ≡ None)
    → is_among number (leads_in miners) ≡ false → is_among number (leads_in (at_caller caller change miners)) ≡ false
unseat_among number caller change [] unseats none = none
unseat_among number caller change (miner ∷ miners) unseats none =
    let parts = none_of_either (seat_holds number (seat_in miner.session)) (is_among number (leads_in miners))
    (sym (seat_among number (seat_in miner.session) (leads_in miners)) ∙ none) in
    elim (cases_Bool (miner.caller == caller)) [
      | inl here ↦ rw (here, unseats miner) parts.1
      | inr other ↦
          rw (other, seat_among number (seat_in miner.session) (leads_in (at_caller caller change miners)))
          (either_of_none _ _ parts.0 (unseat_among number caller change miners unseats parts.1))
    ]

pub unseat_apart : (caller : ℕ) (change : Miner → Miner) (miners : List Miner) → ((miner : Miner) → seat_in (change miner).session ≡ None)
    → AreApart (leads_in miners) → AreApart (leads_in (at_caller caller change miners))
unseat_apart caller change [] unseats apart = tt
unseat_apart caller change (miner ∷ miners) unseats apart = elim (cases_Bool (miner.caller == caller)) [
  | inl here ↦ rw (here, unseats miner) (rest_apart (seat_in miner.session) (leads_in miners) apart)
  | inr other ↦
      rw other (with_rest (seat_in miner.session) (leads_in miners) (leads_in (at_caller caller change miners)) apart
      (λ number holds none. unseat_among number caller change miners unseats none)
      (unseat_apart caller change miners unseats (rest_apart (seat_in miner.session) (leads_in miners) apart)))
]

pub unseat_fit : (opened : Option OpenedChannel) (caller : ℕ) (change : Miner → Miner) (miners : List Miner)
    → ((miner : Miner) → seat_in (change miner).session ≡ None) → AllFit opened miners → AllFit opened (at_caller caller change miners)
unseat_fit opened caller change [] unseats fit = tt
unseat_fit opened caller change (miner ∷ miners) unseats fit = elim (cases_Bool (miner.caller == caller)) [
  | inl here ↦ rw (here, unseats miner) (tt, fit.1)
  | inr other ↦ rw other (fit.0, unseat_fit opened caller change miners unseats fit.1)
]

-- ---- one more miner

pub more_leads : (miners : List Miner) (caller : ℕ) → leads_in (miners ++ new_miner caller ∷ []) ≡ leads_in miners
more_leads [] caller = refl
more_leads (miner ∷ miners) caller = ap (λ rest. lead_of (seat_in miner.session) ++ rest) (more_leads miners caller)

pub more_fit : (opened : Option OpenedChannel) (miners : List Miner) (caller : ℕ) → AllFit opened miners → AllFit opened (miners ++ new_miner caller ∷ [])
more_fit opened [] caller fit = (tt, tt)
more_fit opened (miner ∷ miners) caller fit = (fit.0, more_fit opened miners caller fit.1)

-- ---- a seat with a lead that is free

seated_seat : (seat : Seat) (miner : Miner) (session : Option Session) → miner.session ≡ session
    → (seat_in (seated_session seat miner session).session ≡ None) ⊎ (seat_in (seated_session seat miner session).session ≡ Some seat)
seated_seat seat miner None is = inl (ap seat_in is)
seated_seat seat miner (Some session) is = inr refl

seated_among : (number caller : ℕ) (seat : Seat) (miners : List Miner) → is_among number (leads_in miners) ≡ false → (seat.lead == number) ≡ false
    → is_among number (leads_in (at_caller caller (seated seat) miners)) ≡ false
seated_among number caller seat [] none other = none
seated_among number caller seat (miner ∷ miners) none other =
    let parts = none_of_either (seat_holds number (seat_in miner.session)) (is_among number (leads_in miners))
    (sym (seat_among number (seat_in miner.session) (leads_in miners)) ∙ none) in
    elim (cases_Bool (miner.caller == caller)) [
      | inl here ↦ rw here (elim (seated_seat seat miner miner.session refl) [
        | inl unseated ↦ rw unseated parts.1
        | inr with_seat ↦ rw with_seat (either_of_none (seat.lead == number) (is_among number (leads_in miners)) other parts.1)
      ])
      | inr there ↦
          rw (there, seat_among number (seat_in miner.session) (leads_in (at_caller caller (seated seat) miners)))
          (either_of_none _ _ parts.0 (seated_among number caller seat miners parts.1 other))
    ]

pub seated_apart : (caller : ℕ) (seat : Seat) (miners : List Miner) → is_among seat.lead (leads_in miners) ≡ false
    → AreApart (leads_in miners) → AreApart (leads_in (at_caller caller (seated seat) miners))
seated_apart caller seat [] free apart = tt
seated_apart caller seat (miner ∷ miners) free apart =
    let parts = none_of_either (seat_holds seat.lead (seat_in miner.session)) (is_among seat.lead (leads_in miners))
    (sym (seat_among seat.lead (seat_in miner.session) (leads_in miners)) ∙ free) in
    elim (cases_Bool (miner.caller == caller)) [
      | inl here ↦ rw here (elim (seated_seat seat miner miner.session refl) [
        | inl unseated ↦ rw unseated (rest_apart (seat_in miner.session) (leads_in miners) apart)
        | inr with_seat ↦ rw with_seat (parts.1, rest_apart (seat_in miner.session) (leads_in miners) apart)
      ])
      | inr there ↦
          rw there (with_rest (seat_in miner.session) (leads_in miners) (leads_in (at_caller caller (seated seat) miners)) apart
          (λ number holds none. seated_among number caller seat miners none (not_both number seat.lead (seat_in miner.session) holds parts.0))
          (seated_apart caller seat miners parts.1 (rest_apart (seat_in miner.session) (leads_in miners) apart)))
    ]
  where
    -- who holds one lead and not another: the two differ
    not_both : (number lead : ℕ) (seat : Option Seat) → seat_holds number seat ≡ true → seat_holds lead seat ≡ false → (lead == number) ≡ false
    not_both number lead None holds none = absurd (cc)
    not_both number lead (Some seat) holds none = elim (cases_Bool (lead == number)) [
      | inl same ↦
          let both : (seat.lead == lead) ≡ true = eq-eqb seat.lead lead (eqb-true seat.lead number holds ∙ sym (eqb-true lead number same)) in
          absurd (cc)
      | inr other ↦ other
    ]

pub seated_fit : (opened : Option OpenedChannel) (caller : ℕ) (seat : Seat) (miners : List Miner) → FitsChannel opened (Some seat)
    → AllFit opened miners → AllFit opened (at_caller caller (seated seat) miners)
seated_fit opened caller seat [] fits fit = tt
seated_fit opened caller seat (miner ∷ miners) fits fit = elim (cases_Bool (miner.caller == caller)) [
  | inl here ↦ rw here (elim (seated_seat seat miner miner.session refl) [
    | inl unseated ↦ rw unseated (tt, fit.1)
    | inr with_seat ↦ rw with_seat (fits, fit.1)
  ])
  | inr there ↦ rw there (fit.0, seated_fit opened caller seat miners fits fit.1)
]

-- ---- the channel

pub first_fit : (channel : OpenedChannel) (opened : Option OpenedChannel) (miners : List Miner) → AllFit opened miners
    → AllFit (first_opened channel opened) miners
first_fit channel (Some first) miners fit = fit
first_fit channel None [] fit = tt
first_fit channel None (miner ∷ miners) fit = (unopened (seat_in miner.session) fit.0, first_fit channel None miners fit.1)
  where
    unopened : (seat : Option Seat) → FitsChannel None seat → FitsChannel (Some channel) seat
    unopened None fits = tt
    unopened (Some seat) fits = absurd fits
