-- The news of a history, event by event.
use Rattle.std.proofs.Common.{◌≡◌, ℕ, zero, suc, ◌+◌, ◌<◌, ◌≤◌, cond, Some, List, [], ◌∷◌, ◌++◌, length, take, refl, ap, sym, ◌∙◌, arith}
use Rattle.std.proofs.lemmas.Bool.{le-leb, lt-leb}
use Rattle.std.proofs.lemmas.List.{length-reverse, take_all}
use Rattle.std.specs.Prelude.{slice_get}
use Rattle.std.specs.List.{AllByRecursion}
use Rattle.pool_history.specs.declared.events.Event.{Event}
use Rattle.pool_history.specs.Legal.{Legal}
use Rattle.pool_history.specs.News.{news, owed_notes}
use Rattle.pool_history.specs.Sessions.{past_of, rules_of}
use Rattle.pool_history.specs.Telling.{NoteFits}
use Rattle.history_laws.proofs.Entrances.{none-some, some-same}
use Rattle.history_laws.proofs.Legalities.{past-one}
use Rattle.history_laws.proofs.NotesFit.{news-fit}
use Rattle.event_store.specs.Telling.{owed_in}

-- nothing is owed from the end on
news-past : (from : ℕ) (past : List Event) (session : ℕ) → length past ≤ from → news from past session ≡ []
news-past from [] session few = refl
news-past from (e ∷ older) session few =
    ap (λ b. cond b (news from older session ++ owed_notes (rules_of (e ∷ older)) e older session) []) (lt-leb from (length older) (omega (arith, few)))

take-length : {X : Type 0} (n : ℕ) (xs : List X) → length (take n xs) ≤ n
take-length zero xs = omega arith
take-length (suc n) [] = omega arith
take-length (suc n) (x ∷ xs) = let rest : length (take n xs) ≤ n = take-length n xs in omega (arith, rest)

take-within : {X : Type 0} (n : ℕ) (xs : List X) → n ≤ length xs → length (take n xs) ≡ n
take-within zero xs less = refl
take-within (suc n) [] less = absurd (omega (arith, less))
take-within (suc n) (x ∷ xs) less = ap suc (take-within n xs (omega (arith, less)))

take-get : {X : Type 0} (n : ℕ) (xs : List X) (x : X) → slice_get xs n ≡ Some x → take (suc n) xs ≡ take n xs ++ x ∷ []
take-get n [] x is = absurd (none-some is)
take-get zero (y ∷ xs) x is = ap (λ z. z ∷ []) (some-same is)
take-get (suc n) (y ∷ xs) x is = ap (λ l. y ∷ l) (take-get n xs x is)

-- before the first
pub news-none : (from : ℕ) (events : List Event) (session : ℕ) → [] ≡ news from (past_of (take from events)) session
news-none from events session =
    let few : length (take from events) ≤ from = take-length from events in
    let long : length (past_of (take from events)) ≡ length (take from events) = length-reverse (take from events) in
    sym (news-past from (past_of (take from events)) session (omega (arith, few, long)))

-- one more
news-one : (from at : ℕ) (events : List Event) (session : ℕ) (e : Event) → from ≤ at → at < length events → slice_get events at ≡ Some e
    → news from (past_of (take (at + 1) events)) session ≡ news from (past_of (take at events)) session ++ owed_in events at session (slice_get events at)
news-one from at events session e behind less is =
    let up : at + 1 ≡ suc at = omega arith in
    let long : length (past_of (take at events)) ≡ at = length-reverse (take at events) ∙ take-within at events (omega (arith, less)) in
    ap (λ n. news from (past_of (take n events)) session) up
    ∙ ap (λ h. news from (past_of h) session) (take-get at events e is)
    ∙ ap (λ past. news from past session) (past-one (take at events) e)
    ∙ ap (λ b. cond b (news from (past_of (take at events)) session ++ owed_notes (rules_of (e ∷ past_of (take at events))) e (past_of (take at events)) session) [])
    (le-leb from (length (past_of (take at events))) (omega (arith, behind, long)))
    ∙ ap (λ o. news from (past_of (take at events)) session ++ owed_in events at session o) (sym is)

-- all of them
pub news-whole : (from at : ℕ) (events : List Event) (session : ℕ) → length events ≤ at
    → news from (past_of (take at events)) session ≡ news from (past_of events) session
news-whole from at events session all = ap (λ h. news from (past_of h) session) (take_all at events all)

-- and each of them fits
pub news-fits : (from : ℕ) (events : List Event) (session : ℕ) → Legal events → AllByRecursion NoteFits (news from (past_of events) session)
news-fits from events session l = news-fit from (past_of events) session l

pub get-some : {X : Type 0} (xs : List X) (k : ℕ) → k < length xs → (x : X) × (slice_get xs k ≡ Some x)
get-some [] k less = absurd (omega (arith, less))
get-some (x ∷ xs) zero less = (x, refl)
get-some (x ∷ xs) (suc k) less = get-some xs k (omega (arith, less))

-- the poll goes on by one event
pub polled-on : (from at : ℕ) (events : List Event) (session : ℕ) → from ≤ at → at < length events
    → news from (past_of (take at events)) session ++ owed_in events at session (slice_get events at) ≡ news from (past_of (take (at + 1) events)) session
polled-on from at events session behind less =
    let there : (e : Event) × (slice_get events at ≡ Some e) = get-some events at less in
    sym (news-one from at events session there.0 behind less there.1)
