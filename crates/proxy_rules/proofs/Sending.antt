-- What goes upstream at each event, and what waits and is answered.
use Rattle.std.proofs.Common.{◌≡◌, ℕ, ◌+◌, ◌==◌, ◌<◌, ◌≤◌, Bool, true, false, not, if◌then◌else◌, Option, None, Some, Result, Ok, Err, List, [], ◌∷◌, ◌++◌, length, map, inl, inr, refl, sym, ap, subst, ◌∙◌, arith, append_assoc}
use Rattle.std.specs.List.{filter, flat_map}
use Rattle.std.specs.Prelude.{nat_le, nat_lt}
use Rattle.std.proofs.lemmas.Bool.{cases_Bool, eq-eqb, eqb-false, eqb-true, ltb-false, ltb-true}
use Rattle.std.proofs.lemmas.Grind.{flat_map-append}
use Rattle.std.proofs.lemmas.List.{append-nil, length-append}
use Rattle.serde_json.specs.Data.{Data}
use Rattle.sv2_messages.specs.Messages.{Message}
use Rattle.v1_translate.specs.Asked.{share_message}
use Rattle.v1_translate.specs.Heard.{Told, Opened, NotOpened, Target, Accepted, Refused, Future, Live, Tipped, Nothing}
use Rattle.v1_translate.specs.State.{SentShare, Saying, Answer, CodeRefusal, Asking, Silence, Open, Update, Share, Name}
use Rattle.v1_translate.specs.Lines.{yes}
use Rattle.v1_translate.specs.Saying.{frame_of_message}
use Rattle.proxy_rules.specs.declared.events.ProxyEvent.{ProxyEvent}
use Rattle.proxy_rules.specs.declared.events.ProxyEvent.TheVariants as event
use Rattle.proxy_rules.specs.declared.refusals.ProxyRefusal.{ProxyRefusal}
use Rattle.proxy_rules.specs.declared.refusals.ProxyRefusal.TheVariants.{UpstreamLost}
use Rattle.proxy_rules.specs.Frames.{UpTold, SetUp, Tells, told_up}
use Rattle.proxy_rules.specs.Laws.{Answered, AreNumbered, GoesUp, IsAnsweredOnce, answer_to, answered_times, answers_after, answers_by, answers_told, answers_up, dropped_after, dropped_by, messages_after, messages_by, opening_by, sent_times, share_if, share_of_asking, shares_after, shares_by, shares_times}
use Rattle.proxy_rules.specs.Miners.{is_joined, seat_in, session_of}
use Rattle.proxy_rules.specs.Refusals.{code_of}
use Rattle.proxy_rules.specs.State.{Relay, Seat, SentOn, terms_of}
use Rattle.proxy_rules.specs.Steps.{after, after_line, answer_those, asked, asks_by, changed, ended, handed_over, heard, heard_up, most_sent, opening_message, sent_by, sent_from, share_id, shared_by, started, step}

-- ---- counts

sent_times-append : (number : ℕ) (xs ys : List SentOn) → sent_times number (xs ++ ys) ≡ sent_times number xs + sent_times number ys
sent_times-append number [] ys = omega arith
sent_times-append number (x ∷ xs) ys = let rest = sent_times-append number xs ys in omega (arith, rest)

answered_times-append : (number : ℕ) (xs ys : List Answered) → answered_times number (xs ++ ys) ≡ answered_times number xs + answered_times number ys
answered_times-append number [] ys = omega arith
answered_times-append number (x ∷ xs) ys = let rest = answered_times-append number xs ys in omega (arith, rest)

shares_times-append : (number : ℕ) (xs ys : List SentShare) → shares_times number (xs ++ ys) ≡ shares_times number xs + shares_times number ys
shares_times-append number [] ys = omega arith
shares_times-append number (x ∷ xs) ys = let rest = shares_times-append number xs ys in omega (arith, rest)

-- those that pass a test are answered, and the others wait
parted_times : (number : ℕ) (test : SentOn → Bool) (said : Data → Saying) (waiting : List SentOn)
    → answered_times number (map (answer_to said) (filter test waiting)) + sent_times number (filter (λ sent. not (test sent)) waiting)
    ≡ sent_times number waiting
parted_times number test said [] = refl
parted_times number test said (sent ∷ waiting) =
    let rest = parted_times number test said waiting in
    elim (cases_Bool (test sent)) [ inl passes ↦ rw passes (omega (arith, rest)) | inr fails ↦ rw fails (omega (arith, rest)) ]

dropped_times : (number : ℕ) (test : SentOn → Bool) (waiting : List SentOn)
    → sent_times number (filter test waiting) + sent_times number (filter (λ sent. not (test sent)) waiting) ≡ sent_times number waiting
dropped_times number test [] = refl
dropped_times number test (sent ∷ waiting) =
    let rest = dropped_times number test waiting in
    elim (cases_Bool (test sent)) [ inl passes ↦ rw passes (omega (arith, rest)) | inr fails ↦ rw fails (omega (arith, rest)) ]

-- ---- what an event does

pub record Does (relay new : Relay) (messages : List Message) (shares : List SentShare) (answers : List Answered) (dropped : List SentOn) : Type 0 where
  pub output : new.output ≡ relay.output ++ flat_map frame_of_message messages
  pub sent : new.sent ≡ relay.sent + length shares
  pub numbers : AreNumbered relay.sent shares
  pub few : relay.sent ≤ most_sent → new.sent ≤ most_sent
  pub balance : (number : ℕ) → answered_times number answers + sent_times number dropped + sent_times number new.waiting
      ≡ sent_times number relay.waiting + shares_times number shares

-- nothing but what waits
quiet : (relay new : Relay) (answers : List Answered) (dropped : List SentOn) → new.output ≡ relay.output → new.sent ≡ relay.sent
    → ((number : ℕ) → answered_times number answers + sent_times number dropped + sent_times number new.waiting ≡ sent_times number relay.waiting)
    → Does relay new [] [] answers dropped
quiet relay new answers dropped output sent balance =
    record {
      output = output ∙ sym (append-nil relay.output);
      sent = omega (arith, sent);
      numbers = tt;
      few = λ few. omega (arith, sent, few);
      balance = λ number. let kept = balance number in omega (arith, kept);
    }

still : (relay new : Relay) → new.output ≡ relay.output → new.sent ≡ relay.sent → new.waiting ≡ relay.waiting → Does relay new [] [] [] []
still relay new output sent waiting =
    quiet relay new [] [] output sent (λ number. let same : sent_times number new.waiting ≡ sent_times number relay.waiting = ap (sent_times number) waiting in omega (arith, same))

-- ---- the upstream

answered_does : (test : SentOn → Bool) (said : Data → Saying) (relay : Relay)
    → Does relay (answer_those test said relay) [] [] (map (answer_to said) (filter test relay.waiting)) []
answered_does test said relay =
    quiet relay (answer_those test said relay) (map (answer_to said) (filter test relay.waiting)) [] refl refl
    (λ n. let parts = parted_times n test said relay.waiting in omega (arith, parts))

told_does : (relay : Relay) (told : Told) → Does relay (heard relay told) [] [] (answers_told relay told) []
told_does relay (Opened channel) = still relay _ refl refl refl
told_does relay (NotOpened code) = still relay _ refl refl refl
told_does relay (Target target) = still relay _ refl refl refl
told_does relay (Accepted number) = answered_does (λ sent. nat_le sent.number number) (λ id. Answer id yes) relay
told_does relay (Refused number code) = answered_does (λ sent. sent.number == number) (λ id. CodeRefusal id code) relay
told_does relay (Future job) = still relay _ refl refl refl
told_does relay (Live job min_ntime) = still relay _ refl refl refl
told_does relay (Tipped tip) = still relay _ refl refl refl
told_does relay Nothing = still relay _ refl refl refl

set_up_does : (relay : Relay) (is : Bool)
    → Does relay
    (if is then relay
    else record relay {
      is_set_up = true;
      output = relay.output ++ frame_of_message (opening_message relay.user relay.base);
    })
    (if is then [] else opening_message relay.user relay.base ∷ []) [] [] []
set_up_does relay true = still relay relay refl refl refl
set_up_does relay false =
    record {
      output = ap (λ bytes. relay.output ++ bytes) (sym (append-nil _));
      sent = omega arith;
      numbers = tt;
      few = λ few. few;
      balance = λ number. omega arith;
    }

up_does : (relay : Relay) (told : UpTold) → Does relay (heard_up relay told) (opening_by relay told) [] (answers_up relay told) []
up_does relay SetUp = set_up_does relay relay.is_set_up
up_does relay (Tells told) = told_does relay told

-- ---- a line

number_sent : (is_ended : Bool) (number : ℕ) (share sent : SentShare) (seat : Option Seat) → sent_from is_ended number share seat ≡ Ok sent
    → (sent.sequence ≡ number) × (number < most_sent)
number_sent is_ended number share sent None is = absurd (cc)
number_sent is_ended number share sent (Some seat) is = elim (cases_Bool (length share.extranonce == seat.rolled)) [
  | inr other ↦ let none : Err _ ≡ Ok sent = rw other at is in absurd (cc)
  | inl whole ↦ elim (cases_Bool is_ended) [
    | inl over ↦ let none : Err _ ≡ Ok sent = rw (whole, over) at is in absurd (cc)
    | inr there ↦ elim (cases_Bool (nat_lt number most_sent)) [
      | inr many ↦ let none : Err _ ≡ Ok sent = rw (whole, there, many) at is in absurd (cc)
      | inl few ↦
          let some : Ok (sent_by seat number share) ≡ Ok sent = rw (whole, there, few) at is in
          let same : sent_by seat number share ≡ sent = cc in
          (sym (ap (λ (s : SentShare). s.sequence) same), ltb-true number most_sent few)
    ]
  ]
]

one_numbered : (share : SentShare) (number : ℕ) → share.sequence ≡ number → (k : ℕ) → shares_times k (share ∷ []) ≡ (if number == k then 1 else 0)
one_numbered share number is k = let same : (share.sequence == k) ≡ (number == k) = ap (λ n. n == k) is in rw same (omega arith)

shared_does : (relay : Relay) (caller : ℕ) (sent : Result SentShare ProxyRefusal) (id : Option Data)
    → ((share : SentShare) → sent ≡ Ok share → (share.sequence ≡ relay.sent) × (relay.sent < most_sent))
    → Does relay (shared_by relay caller sent id) (map share_message (share_if sent id)) (share_if sent id) [] []
shared_does relay caller sent None numbered = still relay relay refl refl refl
shared_does relay caller (Err refusal) (Some id) numbered = still relay _ refl refl refl
shared_does relay caller (Ok share) (Some id) numbered =
    let is = numbered share refl in
    record {
      output = ap (λ bytes. relay.output ++ bytes) (sym (append-nil _));
      sent = refl;
      numbers = (is.0, tt);
      few = λ few. omega (arith, is.1);
      balance = λ number.
          let more = sent_times-append number relay.waiting (record { number = relay.sent; caller = caller; id = id } ∷ []) in
          let one = one_numbered share relay.sent is.0 number in
          omega (arith, more, one);
    }

-- the same from another relay with the same shares
does_from : (relay middle new : Relay) (messages : List Message) (shares : List SentShare) (answers : List Answered) (dropped : List SentOn)
    → middle.output ≡ relay.output → middle.sent ≡ relay.sent → middle.waiting ≡ relay.waiting
    → Does middle new messages shares answers dropped → Does relay new messages shares answers dropped
does_from relay middle new messages shares answers dropped output sent waiting does =
    record {
      output = does.output ∙ ap (λ bytes. bytes ++ flat_map frame_of_message messages) output;
      sent = omega (arith, does.sent, sent);
      numbers = subst (λ (n : ℕ). AreNumbered n shares) sent does.numbers;
      few = λ few. does.few (omega (arith, sent, few));
      balance = λ number.
          let same : sent_times number middle.waiting ≡ sent_times number relay.waiting = ap (sent_times number) waiting in
          let kept = does.balance number in
          omega (arith, kept, same);
    }

asked_does : (relay : Relay) (caller : ℕ) (asking : Asking)
    → Does relay (asked relay caller asking) (map share_message (share_of_asking relay caller asking)) (share_of_asking relay caller asking) [] []
asked_does relay caller Silence = still relay relay refl refl refl
asked_does relay caller (Update channel class) = still relay relay refl refl refl
asked_does relay caller (Open class) = still relay _ refl refl refl
asked_does relay caller (Name account) = still relay _ refl refl refl
asked_does relay caller (Share share) =
    let session = session_of caller relay.miners in
    does_from relay (changed relay caller (handed_over share.sequence)) _ _ _ [] [] refl refl refl
    (shared_does (changed relay caller (handed_over share.sequence)) caller (sent_from relay.is_ended relay.sent share (seat_in session)) (share_id share.sequence session)
    (λ sent is. number_sent relay.is_ended relay.sent share sent (seat_in session) is))

-- ---- all events

step_does : (relay : Relay) (input : ProxyEvent)
    → Does relay (step relay input) (messages_by relay input) (shares_by relay input) (answers_by relay input) (dropped_by relay input)
step_does relay (event.Start user base) = still relay relay refl refl refl
step_does relay (event.Up bytes) = up_does relay (told_up bytes)
step_does relay event.UpEnd =
    let said : Data → Saying = λ id. CodeRefusal id (code_of UpstreamLost) in
    quiet relay (ended relay) (map (answer_to said) (filter (λ sent. true) relay.waiting)) [] refl refl
    (λ n. let parts = parted_times n (λ sent. true) said relay.waiting in omega (arith, parts))
step_does relay (event.Join caller) = elim (cases_Bool (is_joined caller relay.miners)) [
  | inl is ↦ rw is (still relay relay refl refl refl)
  | inr new ↦ rw new (still relay _ refl refl refl)
]
step_does relay (event.Line caller line) =
    does_from relay (after_line relay caller line) _ _ _ [] [] refl refl refl
    (asked_does (after_line relay caller line) caller (asks_by (terms_of relay.base) line (session_of caller relay.miners)))
step_does relay (event.Leave caller) =
    quiet relay _ [] _ refl refl (λ n. let parts = dropped_times n (λ sent. sent.caller == caller) relay.waiting in omega (arith, parts))

numbered-append : (number : ℕ) (xs ys : List SentShare) → AreNumbered number xs → AreNumbered (number + length xs) ys → AreNumbered number (xs ++ ys)
numbered-append number [] ys one other = let P : ℕ → Type 0 = λ n. AreNumbered n ys in subst P (omega arith) other
numbered-append number (x ∷ xs) ys one other =
    (one.0, numbered-append (number + 1) xs ys one.1 (let P : ℕ → Type 0 = λ n. AreNumbered n ys in subst P (omega arith) other))

pub run_does : (relay : Relay) (inputs : List ProxyEvent)
    → Does relay (after relay inputs) (messages_after relay inputs) (shares_after relay inputs) (answers_after relay inputs) (dropped_after relay inputs)
run_does relay [] = still relay relay refl refl refl
run_does relay (input ∷ inputs) =
    let first = step_does relay input in
    let rest = run_does (step relay input) inputs in
    record {
      output =
          rest.output ∙ ap (λ bytes. bytes ++ flat_map frame_of_message (messages_after (step relay input) inputs)) first.output
          ∙ append_assoc relay.output (flat_map frame_of_message (messages_by relay input)) (flat_map frame_of_message (messages_after (step relay input) inputs))
          ∙ ap (λ bytes. relay.output ++ bytes) (sym (flat_map-append frame_of_message (messages_by relay input) (messages_after (step relay input) inputs)));
      sent = simp length-append (omega (arith, first.sent, rest.sent));
      numbers = numbered-append relay.sent (shares_by relay input) _ first.numbers (subst (λ (n : ℕ). AreNumbered n (shares_after (step relay input) inputs)) first.sent rest.numbers);
      few = λ few. rest.few (first.few few);
      balance = λ number.
          let one = first.balance number in
          let more = rest.balance number in
          let a = answered_times-append number (answers_by relay input) (answers_after (step relay input) inputs) in
          let d = sent_times-append number (dropped_by relay input) (dropped_after (step relay input) inputs) in
          let s = shares_times-append number (shares_by relay input) (shares_after (step relay input) inputs) in
          omega (arith, one, more, a, d, s);
    }

-- ---- the numbers from the first on

times_below : (shares : List SentShare) (number k : ℕ) → AreNumbered number shares → k < number → shares_times k shares ≡ 0
times_below [] number k numbered below = refl
times_below (share ∷ shares) number k numbered below = elim (cases_Bool (share.sequence == k)) [
  | inl same ↦ absurd (let is : share.sequence ≡ k = eqb-true share.sequence k same in omega (arith, is, numbered.0))
  | inr other ↦ rw other (let rest = times_below shares (number + 1) k numbered.1 (omega arith) in omega (arith, rest))
]

times_above : (shares : List SentShare) (number k : ℕ) → AreNumbered number shares → number + length shares ≤ k → shares_times k shares ≡ 0
times_above [] number k numbered above = refl
times_above (share ∷ shares) number k numbered above = elim (cases_Bool (share.sequence == k)) [
  | inl same ↦ absurd (let is : share.sequence ≡ k = eqb-true share.sequence k same in omega (arith, is, numbered.0))
  | inr other ↦ rw other (let rest = times_above shares (number + 1) k numbered.1 (omega arith) in omega (arith, rest))
]

times_within : (shares : List SentShare) (number k : ℕ) → AreNumbered number shares → number ≤ k → k < number + length shares → shares_times k shares ≡ 1
times_within [] number k numbered from below = absurd (omega arith)
times_within (share ∷ shares) number k numbered from below = elim (cases_Bool (share.sequence == k)) [
  | inl same ↦
      let is : share.sequence ≡ k = eqb-true share.sequence k same in
      let none = times_below shares (number + 1) k numbered.1 (omega (arith, is, numbered.0)) in
      rw same (omega (arith, none))
  | inr other ↦
      let later : number < k = elim (cases_Bool (number == k)) [
        | inl here ↦ absurd (let is : (share.sequence == k) ≡ true = eq-eqb share.sequence k (numbered.0 ∙ eqb-true number k here) in cc)
        | inr past ↦ let apart = eqb-false number k past in omega (arith, apart)
      ] in
      rw other (let rest = times_within shares (number + 1) k numbered.1 (omega arith) (omega arith) in omega (arith, rest))
]

pub goes_up : (user : List ℕ) (base : ℕ) (inputs : List ProxyEvent) → GoesUp user base inputs
goes_up user base inputs =
    let does = run_does (started user base) inputs in
    record {
      output = does.output;
      numbers = does.numbers;
      count = omega (arith, does.sent);
      few = does.few (omega arith);
    }

pub answered_once : (user : List ℕ) (base : ℕ) (inputs : List ProxyEvent) (number : ℕ) → IsAnsweredOnce user base inputs number
answered_once user base inputs number =
    let does = run_does (started user base) inputs in
    let balance = does.balance number in
    let total : (after (started user base) inputs).sent ≡ length (shares_after (started user base) inputs) = omega (arith, does.sent) in
    elim (cases_Bool (nat_lt number (after (started user base) inputs).sent)) [
      | inl below ↦
          let small = ltb-true number (after (started user base) inputs).sent below in
          let once = times_within (shares_after (started user base) inputs) 0 number does.numbers (omega arith) (omega (arith, small, total)) in
          rw below (omega (arith, balance, once))
      | inr above ↦
          let large = ltb-false number (after (started user base) inputs).sent above in
          let never = times_above (shares_after (started user base) inputs) 0 number does.numbers (omega (arith, large, total)) in
          rw above (omega (arith, balance, never))
    ]
