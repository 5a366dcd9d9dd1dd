-- A poll goes from one place to the next that may be news, and misses nothing between them.
use Rattle.std.proofs.Common.{◌⊎◌, inl, inr, ◌≡◌, ℕ, zero, suc, ◌+◌, ◌-◌, ◌<◌, ◌≤◌, Bool, true, false, None, Some, List, [], ◌∷◌, ◌++◌, length, take, refl, ap, subst, sym, ◌∙◌, arith}
use Rattle.std.proofs.lemmas.Bool.{ltb-false, ltb-true}
use Rattle.std.proofs.lemmas.List.{append-nil, length-reverse, take_all}
use Rattle.std.specs.List.{AllByRecursion}
use Rattle.std.specs.Prelude.{nat_le, nat_lt, slice_get}
use Rattle.pool_history.specs.declared.events.Event.{Event}
use Rattle.pool_history.specs.declared.telling.Note.{Note}
use Rattle.pool_history.specs.News.{news}
use Rattle.pool_history.specs.Sessions.{past_of}
use Rattle.pool_history.proofs.PlacesOfClasses.{all-filter}
use Rattle.history_laws.proofs.Living.{In}
use Rattle.event_store.specs.Index.{index_of}
use Rattle.event_store.specs.Places.{AreRisingFrom, behind, common_places, earlier, openings_since, since}
use Rattle.event_store.specs.Telling.{owed_in}
use Rattle.event_store.proofs.Polled.{get-some, news-none, polled-on}
use Rattle.event_store.proofs.Rising.{IsFirst, behind-in, behind-rising, first-is, fewer-left, in-above, in-behind, in-since, none-first, own-rising, rising-since}
use Rattle.event_store.proofs.Unowed.{common-rise, common-within, openings-rise, own-within, unowed-at}

-- what was told, up to a place, and the places from there on
pub record IsPolled (events : List Event) (from session : ℕ) (notes : List Note) (common own : List ℕ) : Type 0 where
  pub at : ℕ
  pub after : from ≤ at
  pub told : notes ≡ news from (past_of (take at events)) session
  pub common_rise : AreRisingFrom at common
  pub own_rise : AreRisingFrom at own
  pub within : (q : ℕ) → In q common ⊎ In q own → q < length events
  pub commons : (q : ℕ) → at ≤ q → In q (common_places (past_of events)) → In q common
  pub owns : (q : ℕ) → at ≤ q → In q (openings_since (index_of (past_of events)).openings session from) → In q own

-- over events that owe nothing
over : (events : List Event) (from session at count : ℕ) → from ≤ at
    → ((q : ℕ) → at ≤ q → q < at + count → q < length events → owed_in events q session (slice_get events q) ≡ [])
    → news from (past_of (take at events)) session ≡ news from (past_of (take (at + count) events)) session
over events from session at zero after h = ap (λ n. news from (past_of (take n events)) session) (omega arith)
over events from session at (suc count) after h =
    over events from session at count after (λ q high low within. h q high (omega (arith, low)) within)
    ∙ by (nat_lt (at + count) (length events)) refl where
      up : (at + count) + 1 ≡ at + suc count
      up = omega arith

      by : (b : Bool) → nat_lt (at + count) (length events) ≡ b
          → news from (past_of (take (at + count) events)) session ≡ news from (past_of (take (at + suc count) events)) session
      by true less =
          let within : at + count < length events = ltb-true (at + count) (length events) less in
          sym (append-nil (news from (past_of (take (at + count) events)) session))
          ∙ ap (λ l. news from (past_of (take (at + count) events)) session ++ l) (sym (h (at + count) (omega arith) (omega arith) within))
          ∙ polled-on from (at + count) events session (omega (arith, after)) within
          ∙ ap (λ n. news from (past_of (take n events)) session) up
      by false more =
          let all : length events ≤ at + count = ltb-false (at + count) (length events) more in
          ap (λ h. news from (past_of h) session) (take_all (at + count) events all ∙ sym (take_all (at + suc count) events (omega (arith, all))))

-- up to a place, where all that are left stand at it or behind it
up-to : (events : List Event) (from session place : ℕ) (notes : List Note) (common own : List ℕ) → (w : IsPolled events from session notes common own)
    → w.at ≤ place → AreRisingFrom place common → AreRisingFrom place own → notes ≡ news from (past_of (take place events)) session
up-to events from session place notes common own w high common_rise own_rise =
    let after : from ≤ w.at = w.after in
    let same : w.at + (place - w.at) ≡ place = omega (arith, high) in
    w.told
    ∙ over events from session w.at (place - w.at) w.after
    (λ q above below within.
    let less : q < place = omega (arith, below, same) in
    let there : (e : Event) × (slice_get events q ≡ Some e) = get-some events q within in
    unowed-at events q there.0 session from there.1 (omega (arith, after, above))
    (λ i. let least : place ≤ q = in-above q place common common_rise (w.commons q above i) in omega (arith, least, less))
    (λ i. let least : place ≤ q = in-above q place own own_rise (w.owns q above i) in omega (arith, least, less)))
    ∙ ap (λ n. news from (past_of (take n events)) session) same

-- the poll begins
in-all : (P : ℕ → Type 0) (q : ℕ) (xs : List ℕ) → AllByRecursion P xs → In q xs → P q
in-all P q [] a i = elim i [ ]
in-all P q (x ∷ xs) a (inl e) = subst P (sym e) a.0
in-all P q (x ∷ xs) a (inr k) = in-all P q xs a.1 k

pub poll-begun : (events : List Event) (from session : ℕ)
    → IsPolled events from session [] (since from (common_places (past_of events))) (openings_since (index_of (past_of events)).openings session from)
poll-begun events from session = record {
  at = from;
  after = omega arith;
  told = news-none from events session;
  common_rise = rising-since 0 from (common_places (past_of events)) (common-rise (past_of events));
  own_rise = own-rising session from 0 (index_of (past_of events)).openings (openings-rise (past_of events));
  within = λ q i. by q i;
  commons = λ q high i. in-since q from (common_places (past_of events)) high i;
  owns = λ q high i. i;
} where
  long : length (past_of events) ≡ length events
  long = length-reverse events

  by : (q : ℕ) → In q (since from (common_places (past_of events))) ⊎ In q (openings_since (index_of (past_of events)).openings session from) → q < length events
  by q (inl i) =
      subst (λ n. q < n) long
      (in-all (λ at. at < length (past_of events)) q (since from (common_places (past_of events)))
      (all-filter (λ at. at < length (past_of events)) (nat_le from) (common_places (past_of events)) (common-within (past_of events))) i)
  by q (inr i) =
      subst (λ n. q < n) long
      (in-all (λ at. at < length (past_of events)) q (openings_since (index_of (past_of events)).openings session from) (own-within (past_of events) session from) i)

-- the first place that is left
pub poll-first : (events : List Event) (from session at : ℕ) (notes : List Note) (common own : List ℕ) → (w : IsPolled events from session notes common own)
    → Some at ≡ earlier (slice_get common 0) (slice_get own 0) → IsFirst w.at at common own
poll-first events from session at notes common own w is = first-is w.at at common own w.common_rise w.own_rise is

pub poll-within : (events : List Event) (from session at : ℕ) (notes : List Note) (common own : List ℕ) → IsPolled events from session notes common own
    → Some at ≡ earlier (slice_get common 0) (slice_get own 0) → at < length events
poll-within events from session at notes common own w is = w.within at (poll-first events from session at notes common own w is).there

pub poll-shorter : (events : List Event) (from session at : ℕ) (notes : List Note) (common own : List ℕ) → IsPolled events from session notes common own
    → Some at ≡ earlier (slice_get common 0) (slice_get own 0) → length (behind at common) + length (behind at own) < length common + length own
poll-shorter events from session at notes common own w is = fewer-left w.at at common own (poll-first events from session at notes common own w is)

-- is told, and the poll goes on behind it
pub poll-on : (events : List Event) (from session at : ℕ) (notes more : List Note) (common own : List ℕ) → IsPolled events from session notes common own
    → Some at ≡ earlier (slice_get common 0) (slice_get own 0) → more ≡ notes ++ owed_in events at session (slice_get events at)
    → IsPolled events from session more (behind at common) (behind at own)
poll-on events from session at notes more common own w is more_is =
    let f : IsFirst w.at at common own = poll-first events from session at notes common own w is in
    let after : from ≤ w.at = w.after in
    let high : w.at ≤ at = f.after in
    let up : at + 1 ≡ suc at = omega arith in
    record {
      at = suc at;
      after = omega (arith, after, high);
      told =
          more_is
          ∙ ap (λ l. l ++ owed_in events at session (slice_get events at)) (up-to events from session at notes common own w high f.first f.second)
          ∙ polled-on from at events session (omega (arith, after, high)) (w.within at f.there)
          ∙ ap (λ n. news from (past_of (take n events)) session) up;
      common_rise = behind-rising at common f.first;
      own_rise = behind-rising at own f.second;
      within = λ q i. by q i;
      commons = λ q above i. in-behind q at common above (w.commons q (omega (arith, high, above)) i);
      owns = λ q above i. in-behind q at own above (w.owns q (omega (arith, high, above)) i);
    } where
      by : (q : ℕ) → In q (behind at common) ⊎ In q (behind at own) → q < length events
      by q (inl i) = w.within q (inl (behind-in q at common i))
      by q (inr i) = w.within q (inr (behind-in q at own i))

-- where none is left, all was told
pub poll-ended : (events : List Event) (from session : ℕ) (notes : List Note) (common own : List ℕ) → IsPolled events from session notes common own
    → None ≡ earlier (slice_get common 0) (slice_get own 0) → notes ≡ news from (past_of events) session
poll-ended events from session notes common own w is =
    let none : (common ≡ []) × (own ≡ []) = none-first common own is in
    let all : length events ≤ w.at + length events = omega arith in
    up-to events from session (w.at + length events) notes common own w (omega arith)
    (subst (AreRisingFrom (w.at + length events)) (sym none.0) tt) (subst (AreRisingFrom (w.at + length events)) (sym none.1) tt)
    ∙ ap (λ h. news from (past_of h) session) (take_all (w.at + length events) events all)
