-- Each request is answered, waits, or is lost to a later one.
use Rattle.std.proofs.Common.{◌≡◌, ◌≤◌, ◌+◌, ◌==◌, ℕ, Bool, true, false, Option, None, Some, Result, Ok, Err, List, [], ◌∷◌, ◌++◌, map, refl, ap, ◌∙◌, inl, inr, arith}
use Rattle.std.proofs.lemmas.Bool.{cases_Bool}
use Rattle.serde_json.specs.Data.{Data, Items}
use Rattle.pool_history.specs.Accounts.{account_of, is_known}
use Rattle.v1_lines.specs.Requests.{MethodCall, answer_id, call_in, is_blank_line, line_value, text_at}
use Rattle.v1_translate.specs.Configuring.{Configuration, configuration_in, configured}
use Rattle.v1_translate.specs.Heard.{Told, Opened, NotOpened, Target, Accepted, Refused, Future, Live, Tipped, Nothing, ToldJob, ToldTip, Heard, Line, Message, Named}
use Rattle.v1_translate.specs.Laws.{IsAnsweredBefore, IsPrompt, answered_by, answered_in, how_many, naming_in, pending_in, request_of, requests_in, subscribing}
use Rattle.v1_translate.specs.Lines.{authorized, by_call, by_method, by_value, id_in, line_reaction, method_of, subscribed, with_channel}
use Rattle.v1_translate.specs.Messages.{answered, live_notice, message_reaction, name_answered, name_reaction, reaction, share_answered, still_waiting, tip_notice, to_subscriber}
use Rattle.v1_translate.specs.Sessions.{said_after, state_after}
use Rattle.v1_translate.specs.State.{Terms, V1State, Naming, Tip, Waiting, Saying, Answer, CodeRefusal, Difficulty, Reaction, SentShare}
use Rattle.v1_translate.specs.Submitting.{AskedShare, NotSent, ByError, ByCode, asked_share, checked_share, held_job, sent_or_refused, submitted}
use Rattle.v1_translate.specs.declared.methods.Method.{Method}
use Rattle.v1_translate.specs.declared.methods.Method.TheVariants.{Configure, Subscribe, Authorize, SuggestDifficulty, SubscribeExtranonce, Submit, Unknown}

how_many-append : (test : Data → Bool) (xs ys : List Data) → how_many test (xs ++ ys) ≡ how_many test xs + how_many test ys
how_many-append test [] ys = omega arith
how_many-append test (x ∷ xs) ys = let more = how_many-append test xs ys in omega (arith, more)

answered-append : (test : Data → Bool) (said more : List Saying)
    → how_many test (answered_in (said ++ more)) ≡ how_many test (answered_in said) + how_many test (answered_in more)
answered-append test [] more = omega arith
answered-append test (first ∷ said) more =
    let rest = answered-append test said more in
    let front = how_many-append test (answered_by first) (answered_in (said ++ more)) in
    let short = how_many-append test (answered_by first) (answered_in said) in
    omega (arith, rest, front, short)

abbrev pending : (Data → Bool) → V1State → ℕ
pending test state =
    how_many test (map (λ share. share.id) state.waiting) + how_many test (subscribing state.subscriber)
    + how_many test (naming_in state.naming)

pending_is : (test : Data → Bool) (state : V1State) → how_many test (pending_in state) ≡ pending test state
pending_is test state =
    let shares = map (λ share. share.id) state.waiting in
    how_many-append test (shares ++ subscribing state.subscriber) (naming_in state.naming)
    ∙ ap (λ n. n + how_many test (naming_in state.naming)) (how_many-append test shares (subscribing state.subscriber))

-- the ids that are asked are answered, wait, or are lost; none is where all was answered before
record Balanced (test : Data → Bool) (state : V1State) (prompt : Type 0) (ids : List Data) (r : Reaction) : Type 0 where
  lost : ℕ
  even : how_many test (answered_in r.says) + pending test r.after + lost ≡ how_many test ids + pending test state
  none : prompt → lost ≡ 0

all : (a b : ℕ) → a + b + 0 ≡ a + b
all a b = omega arith

-- ---- lines

abbrev Before : V1State → Type 0
Before state = (state.subscriber ≡ None) × (state.naming ≡ None)

configuring : (test : Data → Bool) (terms : Terms) (state : V1State) (id : Data) (asked : Option Configuration)
    → Balanced test state (Before state) (id ∷ []) (configured terms state id asked)
configuring test terms state id None = record { lost = 0; even = all _ _; none = λ _. refl }
configuring test terms state id (Some asked) = record { lost = 0; even = all _ _; none = λ _. refl }

subscribe_more : (w s n b : ℕ) → 0 + (s + (w + 0) + n) + b ≡ (w + 0) + (s + b + n)
subscribe_more w s n b = omega arith

subscribe : (test : Data → Bool) (terms : Terms) (state : V1State) (id : Data) (channel : Option ℕ)
    → Balanced test state (Before state) (id ∷ []) (subscribed terms state id channel)
subscribe test terms state id None =
    record {
      lost = how_many test (subscribing state.subscriber);
      even = subscribe_more _ _ _ _;
      none = λ before. ap (λ s. how_many test (subscribing s)) before.0;
    }
subscribe test terms state id (Some channel) = record { lost = 0; even = all _ _; none = λ _. refl }

name_more : (w s n b : ℕ) → 0 + (s + b + (w + 0)) + n ≡ (w + 0) + (s + b + n)
name_more w s n b = omega arith

authorize : (test : Data → Bool) (terms : Terms) (state : V1State) (id : Data) (user : Option (List ℕ))
    → Balanced test state (Before state) (id ∷ []) (authorized terms state id user)
authorize test terms state id None = record { lost = 0; even = all _ _; none = λ _. refl }
authorize test terms state id (Some user) = elim (cases_Bool (is_known terms.rules (account_of user))) [
  | inl known ↦ rw known (record {
    lost = how_many test (naming_in state.naming);
    even = name_more _ _ _ _;
    none = λ before. ap (λ n. how_many test (naming_in n)) before.1;
  })
  | inr other ↦ rw other (record { lost = 0; even = all _ _; none = λ _. refl })
]

authorizing : (test : Data → Bool) (terms : Terms) (state : V1State) (id : Data) (user : Option (List ℕ)) (channel : Option ℕ)
    → Balanced test state (Before state) (id ∷ []) (with_channel state id (λ c. authorized terms state id user) channel)
authorizing test terms state id user None = record { lost = 0; even = all _ _; none = λ _. refl }
authorizing test terms state id user (Some channel) = authorize test terms state id user

share_more : (w s n b : ℕ) → 0 + (w + s + b + n) + 0 ≡ (w + 0) + (s + b + n)
share_more w s n b = omega arith

sending : (test : Data → Bool) (state : V1State) (id : Data) (checked : Result SentShare NotSent)
    → Balanced test state (Before state) (id ∷ []) (sent_or_refused state id checked)
sending test state id (Ok share) = record { lost = 0; even = share_more _ _ _ _; none = λ _. refl }
sending test state id (Err (ByError error)) = record { lost = 0; even = all _ _; none = λ _. refl }
sending test state id (Err (ByCode code)) = record { lost = 0; even = all _ _; none = λ _. refl }

submitting : (test : Data → Bool) (state : V1State) (id : Data) (asked : Option AskedShare) (channel : Option ℕ)
    → Balanced test state (Before state) (id ∷ []) (with_channel state id (λ c. submitted state id c asked) channel)
submitting test state id asked None = record { lost = 0; even = all _ _; none = λ _. refl }
submitting test state id None (Some channel) = record { lost = 0; even = all _ _; none = λ _. refl }
submitting test state id (Some asked) (Some channel) = sending test state id (checked_share state channel asked)

calling : (test : Data → Bool) (terms : Terms) (state : V1State) (id : Data) (params : Items) (method : Method)
    → Balanced test state (Before state) (id ∷ []) (by_method terms state id params method)
calling test terms state id params Configure = configuring test terms state id (configuration_in params)
calling test terms state id params Subscribe = subscribe test terms state id state.channel
calling test terms state id params Authorize = authorizing test terms state id (text_at 0 params) state.channel
calling test terms state id params SuggestDifficulty = record { lost = 0; even = all _ _; none = λ _. refl }
calling test terms state id params SubscribeExtranonce = record { lost = 0; even = all _ _; none = λ _. refl }
calling test terms state id params Submit = submitting test state id (asked_share params) state.channel
calling test terms state id params Unknown = record { lost = 0; even = all _ _; none = λ _. refl }

by_a_call : (test : Data → Bool) (terms : Terms) (state : V1State) (id : Data) (call : Option MethodCall)
    → Balanced test state (Before state) (id ∷ []) (by_call terms state id call)
by_a_call test terms state id None = record { lost = 0; even = all _ _; none = λ _. refl }
by_a_call test terms state id (Some call) = calling test terms state id call.params (method_of call.method)

by_a_value : (test : Data → Bool) (terms : Terms) (state : V1State) (value : Option Data)
    → Balanced test state (Before state) (id_in value ∷ []) (by_value terms state value)
by_a_value test terms state None = record { lost = 0; even = all _ _; none = λ _. refl }
by_a_value test terms state (Some value) = by_a_call test terms state (answer_id value) (call_in value)

by_a_line : (test : Data → Bool) (terms : Terms) (state : V1State) (line : List ℕ)
    → Balanced test state (Before state) (request_of line) (line_reaction terms state line)
unfolding line_reaction
by_a_line test terms state line = elim (cases_Bool (is_blank_line line)) [
  | inl blank ↦ rw blank (record { lost = 0; even = all _ _; none = λ _. refl })
  | inr other ↦ rw other (by_a_value test terms state (line_value line))
]

-- ---- messages

-- what is said to a waiting subscribe answers it
said_to : (test : Data → Bool) (said : Data → Saying) → ((id : Data) → answered_by (said id) ≡ id ∷ [])
    → (waiting : Option Data) → how_many test (answered_in (to_subscriber waiting said)) ≡ how_many test (subscribing waiting)
said_to test said answers None = refl
said_to test said answers (Some id) = rw (answers id) refl

opening_said : (test : Data → Bool) (answer : Data) (difficulty : ℕ) (waiting : Option Data)
    → how_many test (answered_in (to_subscriber waiting (λ id. Answer id answer) ++ Difficulty difficulty ∷ []))
    ≡ how_many test (subscribing waiting)
opening_said test answer difficulty None = refl
opening_said test answer difficulty (Some id) = refl

-- one waits less where one is answered
fewer_wait : (test : Data → Bool) (sequence : ℕ) (waiting : List Waiting)
    → how_many test (subscribing (answered sequence waiting)) + how_many test (map (λ share. share.id) (still_waiting sequence waiting))
    ≡ how_many test (map (λ share. share.id) waiting)
fewer_wait test sequence [] = refl
fewer_wait test sequence (share ∷ waiting) = elim (cases_Bool (share.number == sequence)) [
  | inl here ↦ rw here (omega arith)
  | inr later ↦ rw later (let rest = fewer_wait test sequence waiting in omega (arith, rest))
]

subscriber_answered : (said before shares names : ℕ) → said ≡ before → said + (shares + 0 + names) + 0 ≡ 0 + (shares + before + names)
subscriber_answered said before shares names same = omega (arith, same)

share_said : (said before after one subs names : ℕ) → said ≡ one → one + after ≡ before
    → said + (after + subs + names) + 0 ≡ 0 + (before + subs + names)
share_said said before after one subs names same less = omega (arith, same, less)

by_a_share : (test : Data → Bool) (state : V1State) (sequence : ℕ) (said : Data → Saying)
    → ((id : Data) → answered_by (said id) ≡ id ∷ [])
    → Balanced test state (Unit {0}) [] (share_answered state sequence said)
by_a_share test state sequence said answers =
    record {
      lost = 0;
      even = share_said _ _ _ _ _ _ (said_to test said answers (answered sequence state.waiting)) (fewer_wait test sequence state.waiting);
      none = λ _. refl;
    }

-- notices of jobs answer nothing
live_said : (job : ToldJob) (min_ntime : ℕ) (tip : Option Tip) → answered_in (live_notice job min_ntime tip) ≡ []
live_said job min_ntime None = refl
live_said job min_ntime (Some tip) = refl

tip_said : (tip : ToldTip) (job : Option ToldJob) → answered_in (tip_notice tip job) ≡ []
tip_said tip None = refl
tip_said tip (Some job) = refl

nothing_said : (test : Data → Bool) (said : List Saying) (waits : ℕ) → answered_in said ≡ [] → how_many test (answered_in said) + waits + 0 ≡ 0 + waits
nothing_said test said waits none = rw none (omega arith)

by_a_message : (test : Data → Bool) (terms : Terms) (state : V1State) (told : Told)
    → Balanced test state (Unit {0}) [] (message_reaction terms state told)
unfolding message_reaction
by_a_message test terms state (Opened opened) =
    record { lost = 0; even = subscriber_answered _ _ _ _ (opening_said test _ _ state.subscriber); none = λ _. refl }
by_a_message test terms state (NotOpened code) =
    record { lost = 0; even = subscriber_answered _ _ _ _ (said_to test (λ id. CodeRefusal id code) (λ id. refl) state.subscriber); none = λ _. refl }
by_a_message test terms state (Target target) = record { lost = 0; even = all _ _; none = λ _. refl }
by_a_message test terms state (Accepted sequence) = by_a_share test state sequence _ (λ id. refl)
by_a_message test terms state (Refused sequence code) = by_a_share test state sequence _ (λ id. refl)
by_a_message test terms state (Future job) = record { lost = 0; even = all _ _; none = λ _. refl }
by_a_message test terms state (Live job min_ntime) =
    record { lost = 0; even = nothing_said test (live_notice job min_ntime state.jobs.tip) (pending test state) (live_said job min_ntime state.jobs.tip); none = λ _. refl }
by_a_message test terms state (Tipped tip) =
    record { lost = 0; even = nothing_said test (tip_notice tip (held_job state.jobs tip.job)) (pending test state) (tip_said tip (held_job state.jobs tip.job)); none = λ _. refl }
by_a_message test terms state Nothing = record { lost = 0; even = all _ _; none = λ _. refl }

-- ---- names

name_said : (w s b : ℕ) → (w + 0) + (s + b + 0) + 0 ≡ 0 + (s + b + (w + 0))
name_said w s b = omega arith

named_less : (test : Data → Bool) (state : V1State) (naming : Naming) (named : Bool) → state.naming ≡ Some naming
    → how_many test (answered_in (name_answered state (Some naming) named).says)
    + pending test (name_answered state (Some naming) named).after + 0 ≡ 0 + pending test state
named_less test state naming true there = rw there (name_said _ _ _)
named_less test state naming false there = rw there (name_said _ _ _)

by_an_answer : (test : Data → Bool) (state : V1State) (there : Option Naming) (named : Bool) → state.naming ≡ there
    → Balanced test state (Unit {0}) [] (name_answered state there named)
by_an_answer test state None named same = record { lost = 0; even = all _ _; none = λ _. refl }
by_an_answer test state (Some naming) named same =
    record { lost = 0; even = named_less test state naming named same; none = λ _. refl }

by_a_name : (test : Data → Bool) (state : V1State) (named : Bool) → Balanced test state (Unit {0}) [] (name_reaction state named)
unfolding name_reaction
by_a_name test state named = by_an_answer test state state.naming named refl

-- ---- whole sessions

record Settled (test : Data → Bool) (terms : Terms) (past : List Heard) : Type 0 where
  lost : ℕ
  even : how_many test (answered_in (said_after terms past)) + pending test (state_after terms past) + lost
      ≡ how_many test (requests_in past)
  none : IsPrompt terms past → lost ≡ 0

abbrev ids_of : Heard → List Data
ids_of (Line line) = request_of line
ids_of (Message told) = []
ids_of (Named named) = []

both : (a b c d e f g h l m : ℕ) → a ≡ b + c → b + d + l ≡ e → c + f + m ≡ g + d → h ≡ g + e → a + f + (l + m) ≡ h
both a b c d e f g h l m one two three four = omega (arith, one, two, three, four)

nothing_lost : (l m : ℕ) → l ≡ 0 → m ≡ 0 → l + m ≡ 0
nothing_lost l m one two = omega (arith, one, two)

settled_more : (test : Data → Bool) (terms : Terms) (past : List Heard) (heard : Heard)
    → how_many test (requests_in (heard ∷ past)) ≡ how_many test (ids_of heard) + how_many test (requests_in past)
    → Settled test terms past
    → Balanced test (state_after terms past) (IsAnsweredBefore (state_after terms past) heard) (ids_of heard) (reaction terms (state_after terms past) heard)
    → Settled test terms (heard ∷ past)
settled_more test terms past heard asked before now =
    record {
      lost = before.lost + now.lost;
      even = both _ _ _ _ _ _ _ _ _ _
          (answered-append test (said_after terms past) (reaction terms (state_after terms past) heard).says)
          before.even now.even asked;
      none = λ prompt. nothing_lost _ _ (before.none prompt.1) (now.none prompt.0);
    }

settled : (test : Data → Bool) (terms : Terms) (past : List Heard) → Settled test terms past
settled test terms [] = record { lost = 0; even = refl; none = λ _. refl }
settled test terms (Line line ∷ past) =
    settled_more test terms past (Line line) (how_many-append test (request_of line) (requests_in past)) (settled test terms past)
    (by_a_line test terms (state_after terms past) line)
settled test terms (Message told ∷ past) =
    settled_more test terms past (Message told) (omega arith) (settled test terms past) (by_a_message test terms (state_after terms past) told)
settled test terms (Named named ∷ past) =
    settled_more test terms past (Named named) (omega arith) (settled test terms past) (by_a_name test (state_after terms past) named)

pub answered_once : (terms : Terms) (past : List Heard) (test : Data → Bool)
    → how_many test (answered_in (said_after terms past)) + how_many test (pending_in (state_after terms past))
    ≤ how_many test (requests_in past)
answered_once terms past test =
    let whole = settled test terms past in
    omega (arith, whole.even, pending_is test (state_after terms past))

pub none_lost : (terms : Terms) (past : List Heard) (test : Data → Bool) → IsPrompt terms past
    → how_many test (answered_in (said_after terms past)) + how_many test (pending_in (state_after terms past))
    ≡ how_many test (requests_in past)
none_lost terms past test prompt =
    let whole = settled test terms past in
    omega (arith, whole.even, whole.none prompt, pending_is test (state_after terms past))
