-- What is answered, dropped or waits is what lines sent.
use Rattle.std.proofs.Common.{◌≡◌, ℕ, ◌+◌, ◌==◌, ◌<◌, ◌≤◌, Bool, true, false, not, Option, None, Some, Result, Ok, Err, List, [], ◌∷◌, ◌++◌, inl, inr, refl, ap, subst, arith}
use Rattle.std.specs.List.{filter}
use Rattle.std.specs.Prelude.{nat_le}
use Rattle.std.proofs.lemmas.Bool.{cases_Bool, eqb-true}
use Rattle.serde_json.specs.Data.{Data}
use Rattle.v1_translate.specs.Heard.{Told, Opened, NotOpened, Target, Accepted, Refused, Future, Live, Tipped, Nothing}
use Rattle.v1_translate.specs.Lines.{yes}
use Rattle.v1_translate.specs.State.{SentShare, Saying, Answer, CodeRefusal, Asking, Silence, Open, Update, Share, Name}
use Rattle.proxy_rules.specs.declared.events.ProxyEvent.{ProxyEvent}
use Rattle.proxy_rules.specs.declared.events.ProxyEvent.TheVariants as event
use Rattle.proxy_rules.specs.declared.refusals.ProxyRefusal.{ProxyRefusal}
use Rattle.proxy_rules.specs.Frames.{UpTold, SetUp, Tells, told_up}
use Rattle.proxy_rules.specs.Laws.{AreAnswered, answered_after, answered_by, answered_told, answered_up, dropped_after, dropped_by, entries_after, entries_by, entry_if, entry_of_asking, how_many, sent_times}
use Rattle.proxy_rules.specs.Miners.{is_joined, seat_in, session_of}
use Rattle.proxy_rules.specs.State.{Relay, SentOn, terms_of}
use Rattle.proxy_rules.specs.Steps.{after, after_line, answer_those, asked, asks_by, changed, handed_over, heard, heard_up, sent_from, share_id, shared_by, started, step}

how_many-append : (test : SentOn → Bool) (xs ys : List SentOn) → how_many test (xs ++ ys) ≡ how_many test xs + how_many test ys
how_many-append test [] ys = omega arith
how_many-append test (x ∷ xs) ys = let rest = how_many-append test xs ys in omega (arith, rest)

parted_count : (count test : SentOn → Bool) (waiting : List SentOn)
    → how_many count (filter test waiting) + how_many count (filter (λ sent. not (test sent)) waiting) ≡ how_many count waiting
parted_count count test [] = refl
parted_count count test (sent ∷ waiting) =
    let rest = parted_count count test waiting in
    elim (cases_Bool (test sent)) [ inl passes ↦ rw passes (omega (arith, rest)) | inr fails ↦ rw fails (omega (arith, rest)) ]

pub record Keeps (relay new : Relay) (entries answers dropped : List SentOn) : Type 0 where
  pub kept : (test : SentOn → Bool)
      → how_many test answers + how_many test dropped + how_many test new.waiting ≡ how_many test relay.waiting + how_many test entries

still : (relay new : Relay) → new.waiting ≡ relay.waiting → Keeps relay new [] [] []
still relay new same =
    record { kept = λ test. let is : how_many test new.waiting ≡ how_many test relay.waiting = ap (how_many test) same in omega (arith, is) }

answered_keeps : (test : SentOn → Bool) (said : Data → Saying) (relay : Relay) → Keeps relay (answer_those test said relay) [] (filter test relay.waiting) []
answered_keeps test said relay = record { kept = λ count. let parts = parted_count count test relay.waiting in omega (arith, parts) }

told_keeps : (relay : Relay) (told : Told) → Keeps relay (heard relay told) [] (answered_told relay told) []
told_keeps relay (Opened channel) = still relay _ refl
told_keeps relay (NotOpened code) = still relay relay refl
told_keeps relay (Target target) = still relay _ refl
told_keeps relay (Accepted number) = answered_keeps (λ sent. nat_le sent.number number) (λ id. Answer id yes) relay
told_keeps relay (Refused number code) = answered_keeps (λ sent. sent.number == number) (λ id. CodeRefusal id code) relay
told_keeps relay (Future job) = still relay _ refl
told_keeps relay (Live job min_ntime) = still relay _ refl
told_keeps relay (Tipped tip) = still relay _ refl
told_keeps relay Nothing = still relay relay refl

up_keeps : (relay : Relay) (told : UpTold) → Keeps relay (heard_up relay told) [] (answered_up relay told) []
up_keeps relay SetUp = still relay (heard_up relay SetUp) (same relay.is_set_up refl)
  where
    same : (is : Bool) → relay.is_set_up ≡ is → (heard_up relay SetUp).waiting ≡ relay.waiting
    same true is = rw is refl
    same false is = rw is refl
up_keeps relay (Tells told) = told_keeps relay told

shared_keeps : (relay : Relay) (caller : ℕ) (sent : Result SentShare ProxyRefusal) (id : Option Data)
    → Keeps relay (shared_by relay caller sent id) (entry_if relay.sent caller sent id) [] []
shared_keeps relay caller sent None = still relay relay refl
shared_keeps relay caller (Err refusal) (Some id) = still relay _ refl
shared_keeps relay caller (Ok share) (Some id) =
    record { kept = λ test. let more = how_many-append test relay.waiting (record { number = relay.sent; caller = caller; id = id } ∷ []) in omega (arith, more) }

keeps_from : (relay middle new : Relay) (entries answers dropped : List SentOn) → middle.waiting ≡ relay.waiting
    → Keeps middle new entries answers dropped → Keeps relay new entries answers dropped
keeps_from relay middle new entries answers dropped same keeps =
    record {
      kept = λ test.
          let is : how_many test middle.waiting ≡ how_many test relay.waiting = ap (how_many test) same in
          let kept = keeps.kept test in
          omega (arith, is, kept);
    }

asked_keeps : (relay : Relay) (caller : ℕ) (asking : Asking) → Keeps relay (asked relay caller asking) (entry_of_asking relay caller asking) [] []
asked_keeps relay caller Silence = still relay relay refl
asked_keeps relay caller (Update channel class) = still relay relay refl
asked_keeps relay caller (Open class) = still relay _ refl
asked_keeps relay caller (Name account) = still relay _ refl
asked_keeps relay caller (Share share) =
    let session = session_of caller relay.miners in
    keeps_from relay (changed relay caller (handed_over share.sequence)) _ _ [] [] refl
    (shared_keeps (changed relay caller (handed_over share.sequence)) caller (sent_from relay.is_ended relay.sent share (seat_in session))
    (share_id share.sequence session))

step_keeps : (relay : Relay) (input : ProxyEvent) → Keeps relay (step relay input) (entries_by relay input) (answered_by relay input) (dropped_by relay input)
step_keeps relay (event.Start user base) = still relay relay refl
step_keeps relay (event.Up bytes) = up_keeps relay (told_up bytes)
step_keeps relay event.UpEnd =
    record { kept = λ test. let parts = parted_count test (λ sent. true) relay.waiting in omega (arith, parts) }
step_keeps relay (event.Join caller) = elim (cases_Bool (is_joined caller relay.miners)) [
  | inl is ↦ rw is (still relay relay refl)
  | inr new ↦ rw new (still relay _ refl)
]
step_keeps relay (event.Line caller line) =
    keeps_from relay (after_line relay caller line) _ _ [] [] refl
    (asked_keeps (after_line relay caller line) caller (asks_by (terms_of relay.base) line (session_of caller relay.miners)))
step_keeps relay (event.Leave caller) =
    record { kept = λ test. let parts = parted_count test (λ sent. sent.caller == caller) relay.waiting in omega (arith, parts) }

run_keeps : (relay : Relay) (inputs : List ProxyEvent)
    → Keeps relay (after relay inputs) (entries_after relay inputs) (answered_after relay inputs) (dropped_after relay inputs)
run_keeps relay [] = still relay relay refl
run_keeps relay (input ∷ inputs) =
    let first = step_keeps relay input in
    let rest = run_keeps (step relay input) inputs in
    record {
      kept = λ test.
          let one = first.kept test in
          let more = rest.kept test in
          let a = how_many-append test (answered_by relay input) (answered_after (step relay input) inputs) in
          let d = how_many-append test (dropped_by relay input) (dropped_after (step relay input) inputs) in
          let e = how_many-append test (entries_by relay input) (entries_after (step relay input) inputs) in
          omega (arith, one, more, a, d, e);
    }

-- ---- each number once

-- the numbers go on from one on
abbrev AreInOrder : ℕ → List SentOn → Type 0
AreInOrder number [] = Unit {0}
AreInOrder number (sent ∷ more) = (sent.number ≡ number) × AreInOrder (number + 1) more

-- what an event leaves to wait has the next number, which is then counted
pub record Counts (relay new : Relay) (entries : List SentOn) : Type 0 where
  pub order : AreInOrder relay.sent entries
  pub sent : (more : List SentOn) → AreInOrder new.sent more → AreInOrder relay.sent (entries ++ more)

no_entry : (relay new : Relay) → new.sent ≡ relay.sent → Counts relay new []
no_entry relay new same =
    record { order = tt; sent = λ more order. let P : ℕ → Type 0 = λ n. AreInOrder n more in subst P same order }

shared_counts : (relay : Relay) (caller : ℕ) (sent : Result SentShare ProxyRefusal) (id : Option Data)
    → Counts relay (shared_by relay caller sent id) (entry_if relay.sent caller sent id)
shared_counts relay caller sent None = no_entry relay relay refl
shared_counts relay caller (Err refusal) (Some id) = no_entry relay _ refl
shared_counts relay caller (Ok share) (Some id) = record { order = (refl, tt); sent = λ more order. (refl, order) }

asked_counts : (relay : Relay) (caller : ℕ) (asking : Asking) → Counts relay (asked relay caller asking) (entry_of_asking relay caller asking)
asked_counts relay caller Silence = no_entry relay relay refl
asked_counts relay caller (Update channel class) = no_entry relay relay refl
asked_counts relay caller (Open class) = no_entry relay _ refl
asked_counts relay caller (Name account) = no_entry relay _ refl
asked_counts relay caller (Share share) =
    let session = session_of caller relay.miners in
    let counts = shared_counts (changed relay caller (handed_over share.sequence)) caller (sent_from relay.is_ended relay.sent share (seat_in session))
    (share_id share.sequence session) in
    record { order = counts.order; sent = counts.sent }

told_counts : (relay : Relay) (told : Told) → (heard relay told).sent ≡ relay.sent
told_counts relay (Opened channel) = refl
told_counts relay (NotOpened code) = refl
told_counts relay (Target target) = refl
told_counts relay (Accepted number) = refl
told_counts relay (Refused number code) = refl
told_counts relay (Future job) = refl
told_counts relay (Live job min_ntime) = refl
told_counts relay (Tipped tip) = refl
told_counts relay Nothing = refl

up_counts : (relay : Relay) (told : UpTold) → (heard_up relay told).sent ≡ relay.sent
up_counts relay SetUp = same relay.is_set_up refl
  where
    same : (is : Bool) → relay.is_set_up ≡ is → (heard_up relay SetUp).sent ≡ relay.sent
    same true is = rw is refl
    same false is = rw is refl
up_counts relay (Tells told) = told_counts relay told

step_counts : (relay : Relay) (input : ProxyEvent) → Counts relay (step relay input) (entries_by relay input)
step_counts relay (event.Start user base) = no_entry relay relay refl
step_counts relay (event.Up bytes) = no_entry relay _ (up_counts relay (told_up bytes))
step_counts relay event.UpEnd = no_entry relay _ refl
step_counts relay (event.Join caller) = elim (cases_Bool (is_joined caller relay.miners)) [
  | inl is ↦ rw is (no_entry relay relay refl)
  | inr new ↦ rw new (no_entry relay _ refl)
]
step_counts relay (event.Line caller line) =
    let counts = asked_counts (after_line relay caller line) caller (asks_by (terms_of relay.base) line (session_of caller relay.miners)) in
    record { order = counts.order; sent = counts.sent }
step_counts relay (event.Leave caller) = no_entry relay _ refl

run_counts : (relay : Relay) (inputs : List ProxyEvent) → AreInOrder relay.sent (entries_after relay inputs)
run_counts relay [] = tt
run_counts relay (input ∷ inputs) = (step_counts relay input).sent (entries_after (step relay input) inputs) (run_counts (step relay input) inputs)

none_below : (number k : ℕ) (entries : List SentOn) → AreInOrder number entries → k < number → sent_times k entries ≡ 0
none_below number k [] order below = refl
none_below number k (sent ∷ more) order below = elim (cases_Bool (sent.number == k)) [
  | inl same ↦ absurd (let is : sent.number ≡ k = eqb-true sent.number k same in omega (arith, is, order.0))
  | inr other ↦ rw other (let rest = none_below (number + 1) k more order.1 (omega arith) in omega (arith, rest))
]

once_at_most : (number k : ℕ) (entries : List SentOn) → AreInOrder number entries → sent_times k entries ≤ 1
once_at_most number k [] order = omega arith
once_at_most number k (sent ∷ more) order = elim (cases_Bool (sent.number == k)) [
  | inl same ↦
      let is : sent.number ≡ k = eqb-true sent.number k same in
      rw same (let rest = none_below (number + 1) k more order.1 (omega (arith, is, order.0)) in omega (arith, rest))
  | inr other ↦ rw other (let rest = once_at_most (number + 1) k more order.1 in omega (arith, rest))
]

pub are_answered : (user : List ℕ) (base : ℕ) (inputs : List ProxyEvent) → AreAnswered user base inputs
are_answered user base inputs =
    let keeps = run_keeps (started user base) inputs in
    record {
      balance = λ test. let kept = keeps.kept test in omega (arith, kept);
      once = λ number. once_at_most 0 number (entries_after (started user base) inputs) (run_counts (started user base) inputs);
    }
