-- What is written to each caller at an event: what its own session says, and the answers to its
-- submissions.
use Rattle.std.proofs.Common.{◌≡◌, ℕ, ◌==◌, Bool, true, false, if◌then◌else◌, Option, None, Some, Result, Ok, Err, List, [], ◌∷◌, ◌++◌, map, refl, sym, ap, subst, ◌∙◌, inl, inr, append_assoc}
use Rattle.std.specs.List.{filter}
use Rattle.std.specs.Option.{option_and_then}
use Rattle.std.specs.Prelude.{option_map, nat_le}
use Rattle.std.proofs.lemmas.Bool.{cases_Bool, eq-eqb, eqb-true}
use Rattle.std.proofs.lemmas.List.{append-nil}
use Rattle.serde_json.specs.Data.{Data}
use Rattle.v1_translate.specs.Heard.{Told, Opened, NotOpened, Target, Accepted, Refused, Future, Live, Tipped, Nothing, OpenedChannel, ToldJob, ToldTip}
use Rattle.v1_translate.specs.Laws.{answered_in, answered_by, request_of}
use Rattle.v1_translate.specs.Lines.{line_reaction, yes}
use Rattle.v1_translate.specs.Messages.{answered, live_notice, message_reaction, name_reaction, still_waiting, tip_notice, to_subscriber}
use Rattle.v1_translate.specs.State.{Terms, V1State, Tip, SentShare, Saying, Answer, CodeRefusal, Difficulty, Asking, Silence, Open, Update, Share, Name, Reaction, start}
use Rattle.v1_translate.specs.Submitting.{held_job}
use Rattle.v1_translate.specs.Saying.{frame_of_message, line_of, with_lines}
use Rattle.proxy_rules.specs.declared.events.ProxyEvent.{ProxyEvent}
use Rattle.proxy_rules.specs.declared.events.ProxyEvent.TheVariants as event
use Rattle.proxy_rules.specs.declared.refusals.ProxyRefusal.{ProxyRefusal}
use Rattle.proxy_rules.specs.declared.refusals.ProxyRefusal.TheVariants.{UpstreamLost}
use Rattle.proxy_rules.specs.Frames.{UpTold, SetUp, Tells, told_up}
use Rattle.proxy_rules.specs.Jobs.{future_told, job_told, jobs_told, only, without}
use Rattle.proxy_rules.specs.Laws.{answer_to, answers_told, answers_up, entries_by, entry_if, entry_of_asking, entry_of_session, lines_for, output_at}
use Rattle.proxy_rules.specs.Miners.{at_caller, is_joined, left, miner_of, new_miner, output_in, rejoined, relayed_seat, relayed_session, relayed_to, seat_in, session_of, told_all, with_line, with_new}
use Rattle.proxy_rules.specs.Refusals.{code_of}
use Rattle.proxy_rules.specs.Sayings.{SessionsSayTheirOwn, ids_for, output_by, request_by, request_if, says_asked, says_by, says_heard, says_line, says_relayed, says_seated, says_told, says_up, share_refused, told_by_offer}
use Rattle.proxy_rules.specs.State.{Miner, RelayedJob, Relay, Seat, SentOn, Session, terms_of}
use Rattle.proxy_rules.specs.Steps.{Offer, after, after_line, answer_those, asked, asks_by, changed, handed_over, heard, heard_up, line_heard, line_said, may_take, named, offer, opening_message, said_each, seat_of, sent_from, share_id, shared_by, started, step, subscribed}
use Rattle.proxy_rules.proofs.Asking.{IsClear, IsNamed, HandsOn, LeavesBy, Replies, Subscribes, leaves}
use Rattle.proxy_rules.proofs.Joining.{Wait, after_wait, is_another, step_wait, subscribed_joined, those_said}
use Rattle.proxy_rules.proofs.Rows.{handed_row, named_row, relayed_row, said_row}

-- ---- lists

answered-append : (says more : List Saying) → answered_in (says ++ more) ≡ answered_in says ++ answered_in more
answered-append [] more = refl
answered-append (said ∷ says) more =
    ap (λ ids. answered_by said ++ ids) (answered-append says more)
    ∙ sym (append_assoc (answered_by said) (answered_in says) (answered_in more))

lines-append : (before : List ℕ) (says more : List Saying) → with_lines before (says ++ more) ≡ with_lines (with_lines before says) more
lines-append before [] more = refl
lines-append before (said ∷ says) more = lines-append (before ++ line_of said) says more

-- ---- notices

abbrev IsNotice : Told → Type 0
IsNotice (Target target) = Unit {0}
IsNotice (Future job) = Unit {0}
IsNotice (Live job min_ntime) = Unit {0}
IsNotice (Tipped tip) = Unit {0}
IsNotice _ = ⊥

live_said : (job : ToldJob) (min_ntime : ℕ) (tip : Option Tip) → answered_in (live_notice job min_ntime tip) ≡ []
live_said job min_ntime None = refl
live_said job min_ntime (Some tip) = refl

tip_said : (tip : ToldTip) (job : Option ToldJob) → answered_in (tip_notice tip job) ≡ []
tip_said tip None = refl
tip_said tip (Some job) = refl

still_clear : (state : V1State) → IsClear state → (after : V1State) → after.subscriber ≡ state.subscriber → after.naming ≡ state.naming → after.waiting ≡ state.waiting
    → IsClear after
still_clear state clear after subscriber naming waiting =
    record { subscriber = subscriber ∙ clear.subscriber; naming = naming ∙ clear.naming; waiting = waiting ∙ clear.waiting }

-- a notice answers nothing
notice_replies : (terms : Terms) (state : V1State) (told : Told) → IsNotice told
    → Replies state [] (message_reaction terms state told).says (message_reaction terms state told).after
unfolding message_reaction
notice_replies terms state (Opened opened) is = absurd is
notice_replies terms state (NotOpened code) is = absurd is
notice_replies terms state (Target target) is = record { answers = refl; clear = λ clear. clear }
notice_replies terms state (Accepted number) is = absurd is
notice_replies terms state (Refused number code) is = absurd is
notice_replies terms state (Future job) is = record { answers = refl; clear = λ clear. still_clear state clear _ refl refl refl }
notice_replies terms state (Live job min_ntime) is =
    record { answers = live_said job min_ntime state.jobs.tip; clear = λ clear. still_clear state clear _ refl refl refl }
notice_replies terms state (Tipped tip) is =
    record { answers = tip_said tip (held_job state.jobs tip.job); clear = λ clear. still_clear state clear _ refl refl refl }
notice_replies terms state Nothing is = absurd is

-- ---- several, one behind the other

abbrev AreNotices : List Told → Type 0
AreNotices [] = Unit {0}
AreNotices (told ∷ more) = IsNotice told × AreNotices more

job_is : (job : RelayedJob) (min_ntime : Option ℕ) → job.min_ntime ≡ min_ntime → IsNotice (job_told job)
job_is job None is = rw is tt
job_is job (Some min_ntime) is = rw is tt

jobs_are : (jobs : List RelayedJob) → AreNotices (map job_told jobs)
jobs_are [] = tt
jobs_are (job ∷ jobs) = (job_is job job.min_ntime refl, jobs_are jobs)

futures_are : (jobs : List RelayedJob) → AreNotices (map future_told jobs)
futures_are [] = tt
futures_are (job ∷ jobs) = (tt, futures_are jobs)

notices-append : (told more : List Told) → AreNotices told → AreNotices more → AreNotices (told ++ more)
notices-append [] more one other = other
notices-append (x ∷ told) more one other = (one.0, notices-append told more one.1 other)

told_are : (tip : Option ToldTip) (jobs : List RelayedJob) → AreNotices (jobs_told tip jobs)
told_are None jobs = jobs_are jobs
told_are (Some tip) jobs = notices-append (map future_told (only tip.job jobs)) _ (futures_are _) (tt, jobs_are (without tip.job jobs))

-- the state behind all that a session is told
abbrev state_told : Terms → V1State → List Told → V1State
state_told terms state [] = state
state_told terms state (told ∷ more) = state_told terms (message_reaction terms state told).after more

notices_reply : (terms : Terms) (state : V1State) (told : List Told) → AreNotices told
    → Replies state [] (says_told terms state told) (state_told terms state told)
notices_reply terms state [] are = record { answers = refl; clear = λ clear. clear }
notices_reply terms state (x ∷ told) are =
    let now = notices_reply terms (message_reaction terms state x).after told are.1 in
    let first = notice_replies terms state x are.0 in
    record {
      answers =
          answered-append (message_reaction terms state x).says (says_told terms (message_reaction terms state x).after told)
          ∙ ap (λ ids. ids ++ answered_in (says_told terms (message_reaction terms state x).after told)) first.answers ∙ now.answers;
      clear = λ clear. now.clear (first.clear clear);
    }

-- ---- a miner whose session is known

abbrev joined_miner : ℕ → List ℕ → Option Seat → V1State → Miner
joined_miner caller output seat state =
    record { caller = caller; output = output; session = Some (record { seat = seat; v1 = state }) }

told_said : (terms : Terms) (told : List Told) (caller : ℕ) (output : List ℕ) (seat : Option Seat) (state : V1State)
    → told_all terms told (joined_miner caller output seat state)
    ≡ joined_miner caller (with_lines output (says_told terms state told)) seat (state_told terms state told)
told_said terms [] caller output seat state = refl
told_said terms (x ∷ told) caller output seat state =
    told_said terms told caller (with_lines output (message_reaction terms state x).says) seat (message_reaction terms state x).after
    ∙ ap (λ bytes. joined_miner caller bytes seat (state_told terms state (x ∷ told)))
    (sym (lines-append output (message_reaction terms state x).says (says_told terms (message_reaction terms state x).after told)))

-- ---- what the proxy answers a session

-- it says this, which with what it said before and what waits upstream answers these requests; and no
-- request waits in it
record Ends (before : List ℕ) (ids : List Data) (says own : List Saying) (waits : List Data) (new : Miner) : Type 0 where
  output : new.output ≡ with_lines before own
  answers : answered_in (says ++ own) ++ waits ≡ ids
  seat : Option Seat
  state : V1State
  session : new.session ≡ Some (record { seat = seat; v1 = state })
  clear : IsClear state

-- nothing was said before: this answers the one request
one_answer : (ids : List Data) (says own : List Saying) (id : Data) → ids ≡ id ∷ [] → says ≡ [] → answered_in own ≡ id ∷ []
    → answered_in (says ++ own) ++ [] ≡ ids
one_answer ids says own id only silent answers =
    append-nil (answered_in (says ++ own)) ∙ ap (λ before. answered_in (before ++ own)) silent ∙ answers ∙ sym only

-- nothing more is said
no_more : (ids : List Data) (says : List Saying) → answered_in says ≡ ids → answered_in (says ++ []) ++ [] ≡ ids
no_more ids says answers = append-nil (answered_in (says ++ [])) ∙ ap answered_in (append-nil says) ∙ answers

opened_said : (answer : Data) (difficulty : ℕ) (id : Data) (subscriber : Option Data) → subscriber ≡ Some id
    → answered_in (to_subscriber subscriber (λ id. Answer id answer) ++ Difficulty difficulty ∷ []) ≡ id ∷ []
opened_said answer difficulty id subscriber is = rw is refl

refused_said : (code : List ℕ) (id : Data) (subscriber : Option Data) → subscriber ≡ Some id
    → answered_in (to_subscriber subscriber (λ id. CodeRefusal id code) ++ []) ≡ id ∷ []
refused_said code id subscriber is = rw is refl

opened_replies : (terms : Terms) (state : V1State) (opened : OpenedChannel) (told : List Told) (id : Data) → Subscribes id state → AreNotices told
    → (answered_in (says_told terms state (Opened opened ∷ told)) ≡ id ∷ []) × IsClear (state_told terms state (Opened opened ∷ told))
unfolding message_reaction
opened_replies terms state opened told id subscribes are =
    let rest = notices_reply terms (message_reaction terms state (Opened opened)).after told are in (
      answered-append (message_reaction terms state (Opened opened)).says _
          ∙ ap (λ ids. ids ++ answered_in (says_told terms (message_reaction terms state (Opened opened)).after told))
          (opened_said _ _ id state.subscriber subscribes.subscriber)
          ∙ ap (λ ids. id ∷ ids) rest.answers,
      rest.clear (record { subscriber = refl; naming = subscribes.naming; waiting = subscribes.waiting }),
    )

refused_replies : (terms : Terms) (state : V1State) (code : List ℕ) (id : Data) → Subscribes id state
    → (answered_in (says_told terms state (NotOpened code ∷ [])) ≡ id ∷ []) × IsClear (state_told terms state (NotOpened code ∷ []))
unfolding message_reaction
refused_replies terms state code id subscribes = (
  refused_said code id state.subscriber subscribes.subscriber,
  record { subscriber = refl; naming = subscribes.naming; waiting = subscribes.waiting },
)

subscribed_ends :
    (terms : Terms) (tip : Option ToldTip) (jobs : List RelayedJob) (given : Result Offer ProxyRefusal) (caller : ℕ) (output : List ℕ) (seat : Option Seat)
    (before state : V1State) (ids : List Data) (says : List Saying) → HandsOn before ids says (λ id. Subscribes id state) → IsClear before
    → Ends output ids says (says_told terms state (told_by_offer tip jobs given)) []
    (subscribed terms tip jobs given (joined_miner caller output seat state))
subscribed_ends terms tip jobs (Err refusal) caller output seat before state ids says hands clear =
    let replies = refused_replies terms state (code_of refusal) hands.id (hands.waits clear) in
    record {
      output = ap (λ (m : Miner). m.output) (told_said terms (NotOpened (code_of refusal) ∷ []) caller output seat state);
      answers = one_answer ids says _ hands.id hands.only hands.silent replies.0;
      seat = seat;
      state = state_told terms state (NotOpened (code_of refusal) ∷ []);
      session = refl;
      clear = replies.1;
    }
subscribed_ends terms tip jobs (Ok given) caller output seat before state ids says hands clear =
    let replies = opened_replies terms state given.channel (jobs_told tip jobs) hands.id (hands.waits clear) (told_are tip jobs) in
    let said = told_said terms (Opened given.channel ∷ jobs_told tip jobs) caller output (Some (seat_of given)) state in
    record {
      output = ap (λ (m : Miner). m.output) said;
      answers = one_answer ids says _ hands.id hands.only hands.silent replies.0;
      seat = Some (seat_of given);
      state = state_told terms state (Opened given.channel ∷ jobs_told tip jobs);
      session = ap (λ (m : Miner). m.session) said;
      clear = replies.1;
    }

account_replies : (state : V1State) (id : Data) (account : List ℕ) (named : Bool) → IsNamed id account state
    → (answered_in (name_reaction state named).says ≡ id ∷ []) × IsClear (name_reaction state named).after
unfolding name_reaction
account_replies state id account true is = rw is.naming (refl, record { subscriber = is.subscriber; naming = refl; waiting = is.waiting })
account_replies state id account false is = rw is.naming (refl, record { subscriber = is.subscriber; naming = refl; waiting = is.waiting })

named_ends : (caller : ℕ) (output : List ℕ) (seat : Option Seat) (before state : V1State) (ids : List Data) (says : List Saying) (account : List ℕ)
    → HandsOn before ids says (λ id. IsNamed id account state) → IsClear before
    → Ends output ids says (name_reaction state (may_take state.account account)).says []
    (named account (joined_miner caller output seat state))
named_ends caller output seat before state ids says account hands clear =
    let replies = account_replies state hands.id account (may_take state.account account) (hands.waits clear) in
    record {
      output = refl;
      answers = one_answer ids says _ hands.id hands.only hands.silent replies.0;
      seat = seat;
      state = (name_reaction state (may_take state.account account)).after;
      session = refl;
      clear = replies.1;
    }

-- ---- a share

abbrev share_change : Result SentShare ProxyRefusal → Option Data → Miner → Miner
share_change sent None miner = miner
share_change (Err refusal) (Some id) miner = with_line (CodeRefusal id (code_of refusal)) miner
share_change (Ok share) (Some id) miner = miner

first_is : (number : ℕ) (id : Data) → answered number (record { number = number; id = id } ∷ []) ≡ Some id
first_is number id = let same : (number == number) ≡ true = eq-eqb number number refl in rw same refl

none_wait : (number : ℕ) (id : Data) → still_waiting number (record { number = number; id = id } ∷ []) ≡ []
none_wait number id = let same : (number == number) ≡ true = eq-eqb number number refl in rw same refl

own_entry : (caller number : ℕ) (id : Data) → ids_for caller (record { number = number; caller = caller; id = id } ∷ []) ≡ id ∷ []
own_entry caller number id = let same : (caller == caller) ≡ true = eq-eqb caller caller refl in rw same refl

share_ends : (sent : Result SentShare ProxyRefusal) (number who caller : ℕ) (output : List ℕ) (seat : Option Seat) (state : V1State)
    (ids : List Data) (says : List Saying) (id : Data) → ids ≡ id ∷ [] → says ≡ [] → IsClear state
    → Ends output ids says (share_refused sent (Some id)) (ids_for who (entry_if number who sent (Some id)))
    (share_change sent (Some id) (joined_miner caller output seat state))
share_ends (Err refusal) number who caller output seat state ids says id only silent clear =
    record {
      output = refl;
      answers = one_answer ids says _ id only silent refl;
      seat = seat;
      state = state;
      session = refl;
      clear = clear;
    }
share_ends (Ok share) number who caller output seat state ids says id only silent clear =
    record {
      output = refl;
      answers = ap (λ before. answered_in (before ++ []) ++ ids_for who (record { number = number; caller = who; id = id } ∷ [])) silent
          ∙ own_entry who number id ∙ sym only;
      seat = seat;
      state = state;
      session = refl;
      clear = clear;
    }

-- ---- all that is asked

abbrev asked_change : Relay → Option Session → Asking → Miner → Miner
asked_change relay session Silence miner = miner
asked_change relay session (Update channel class) miner = miner
asked_change relay session (Open class) miner = subscribed (terms_of relay.base) relay.tip relay.jobs (offer relay) miner
asked_change relay session (Name account) miner = named account miner
asked_change relay session (Share share) miner =
    share_change (sent_from relay.is_ended relay.sent share (seat_in session)) (share_id share.sequence session) (handed_over share.sequence miner)

abbrev entry_asked : Relay → ℕ → Option Session → Asking → List SentOn
entry_asked relay caller session (Share share) = entry_of_session relay caller share session
entry_asked relay caller session _ = []

asked_ends : (relay : Relay) (who caller : ℕ) (output : List ℕ) (seat : Option Seat) (before state : V1State) (ids : List Data) (says : List Saying) (asking : Asking)
    → LeavesBy before ids says state asking → IsClear before
    → Ends output ids says (says_asked relay seat state asking)
    (ids_for who (entry_asked relay who (Some (record { seat = seat; v1 = state })) asking))
    (asked_change relay (Some (record { seat = seat; v1 = state })) asking (joined_miner caller output seat state))
asked_ends relay who caller output seat before state ids says Silence left_so clear =
    record { output = refl; answers = no_more ids says left_so.answers; seat = seat; state = state; session = refl; clear = left_so.clear clear }
asked_ends relay who caller output seat before state ids says (Update channel class) left_so clear =
    record { output = refl; answers = no_more ids says left_so.answers; seat = seat; state = state; session = refl; clear = left_so.clear clear }
asked_ends relay who caller output seat before state ids says (Open class) left_so clear =
    subscribed_ends (terms_of relay.base) relay.tip relay.jobs (offer relay) caller output seat before state ids says left_so clear
asked_ends relay who caller output seat before state ids says (Name account) left_so clear =
    named_ends caller output seat before state ids says account left_so clear
asked_ends relay who caller output seat before state ids says (Share share) left_so clear =
    let waits = left_so.waits clear in
    let id = left_so.id in
    let found : answered share.sequence state.waiting ≡ Some id = ap (answered share.sequence) waits.waiting ∙ first_is share.sequence id in
    let rest : still_waiting share.sequence state.waiting ≡ [] = ap (still_waiting share.sequence) waits.waiting ∙ none_wait share.sequence id in
    rw found
    (share_ends (sent_from relay.is_ended relay.sent share seat) relay.sent who caller output seat
    (record state { waiting = still_waiting share.sequence state.waiting }) ids says id left_so.only left_so.silent
    (record { subscriber = waits.subscriber; naming = waits.naming; waiting = rest }))

-- ---- who is found

-- a change of a caller's miner is seen where it is looked for, and nowhere else
pub found_at : (caller who : ℕ) (change : Miner → Miner) (miners : List Miner) → ((miner : Miner) → (change miner).caller ≡ miner.caller)
    → miner_of caller (at_caller who change miners)
    ≡ (if who == caller then option_map change (miner_of caller miners) else miner_of caller miners)
found_at caller who change [] keeps = elim (cases_Bool (who == caller)) [ inl own ↦ rw own refl | inr away ↦ rw away refl ]
found_at caller who change (miner ∷ miners) keeps = elim (cases_Bool (miner.caller == who)) [
  | inl here ↦
      let is : miner.caller ≡ who = eqb-true miner.caller who here in
      let too : ((change miner).caller == caller) ≡ (who == caller) = ap (λ c. c == caller) (keeps miner ∙ is) in
      let first : (miner.caller == caller) ≡ (who == caller) = ap (λ c. c == caller) is in
      rw (here, too, first) (elim (cases_Bool (who == caller)) [ inl own ↦ rw own refl | inr away ↦ rw away refl ])
  | inr there ↦ rw there (elim (cases_Bool (miner.caller == caller)) [
    | inl own ↦
        let not_who : (who == caller) ≡ false = is_another miner.caller who caller there own in
        rw (own, not_who) refl
    | inr away ↦ rw away (found_at caller who change miners keeps)
  ])
]

pub found_all : (caller : ℕ) (change : Miner → Miner) (miners : List Miner) → ((miner : Miner) → (change miner).caller ≡ miner.caller)
    → miner_of caller (map change miners) ≡ option_map change (miner_of caller miners)
found_all caller change [] keeps = refl
found_all caller change (miner ∷ miners) keeps =
    let too : ((change miner).caller == caller) ≡ (miner.caller == caller) = ap (λ c. c == caller) (keeps miner) in
    rw too (elim (cases_Bool (miner.caller == caller)) [ inl own ↦ rw own refl | inr away ↦ rw away (found_all caller change miners keeps) ])

found_behind : (caller who : ℕ) (miners : List Miner) → miner_of who miners ≡ None
    → miner_of caller (miners ++ new_miner who ∷ []) ≡ (if who == caller then Some (new_miner who) else miner_of caller miners)
found_behind caller who [] none = refl
found_behind caller who (miner ∷ miners) none = elim (cases_Bool (miner.caller == who)) [
  | inl here ↦ let is : Some miner ≡ None = rw here at none in absurd (cc)
  | inr there ↦
      let behind : miner_of who miners ≡ None = rw there at none in
      elim (cases_Bool (miner.caller == caller)) [
        | inl own ↦
            let not_who : (who == caller) ≡ false = is_another miner.caller who caller there own in
            rw (own, not_who) refl
        | inr away ↦ rw away (found_behind caller who miners behind)
      ]
]

same_if : {A : Type 0} (test : Bool) (x : A) → x ≡ (if test then x else x)
same_if true x = refl
same_if false x = refl

same_map : (x : Option Miner) → x ≡ option_map (λ miner. miner) x
same_map None = refl
same_map (Some miner) = refl

map_twice : (one other : Miner → Miner) (x : Option Miner) → option_map other (option_map one x) ≡ option_map (λ miner. other (one miner)) x
map_twice one other None = refl
map_twice one other (Some miner) = refl

-- ---- all events

abbrev ClearIn : Option Session → Type 0
ClearIn None = Unit {0}
ClearIn (Some session) = IsClear session.v1

abbrev ClearAt : ℕ → Relay → Type 0
ClearAt caller relay = ClearIn (session_of caller relay.miners)

-- what an event writes to a caller and answers it, and that no request of its session waits then
record Writes (relay : Relay) (event : ProxyEvent) (caller : ℕ) (new : Relay) : Type 0 where
  output : output_at caller new ≡ output_by relay event caller
  answers : answered_in (says_by relay event caller) ++ ids_for caller (entries_by relay event) ≡ request_by relay event caller
  clear : ClearAt caller new

-- nothing is said, and nothing asked
nothing : (relay : Relay) (caller : ℕ) → output_at caller relay ≡ with_lines (output_at caller relay) [] ++ []
nothing relay caller = sym (append-nil (output_at caller relay))

abbrev session_in : Option Miner → Option Session
session_in miner = option_and_then (λ miner. miner.session) miner

-- ---- the upstream

record Relays (miner : Miner) (says : List Saying) (new : Miner) : Type 0 where
  output : new.output ≡ with_lines miner.output says
  answers : answered_in says ≡ []
  clear : ClearIn new.session

relays_seat : (relay : Relay) (told : Told) (miner : Miner) (session : Session) (seat : Option Seat) → IsNotice told → miner.session ≡ Some session → IsClear session.v1
    → Relays miner (says_seated (terms_of relay.base) told session.v1 seat) (relayed_seat (terms_of relay.base) told miner session seat)
relays_seat relay told miner session None notice is clear =
    record { output = refl; answers = refl; clear = subst ClearIn (sym is) clear }
relays_seat relay told miner session (Some seat) notice is clear =
    let replies = notice_replies (terms_of relay.base) session.v1 told notice in
    record { output = refl; answers = replies.answers; clear = replies.clear clear }

relays_session : (relay : Relay) (told : Told) (miner : Miner) (session : Option Session) → IsNotice told → miner.session ≡ session → ClearIn session
    → Relays miner (says_relayed relay told session) (relayed_session (terms_of relay.base) told miner session)
relays_session relay told miner None notice is clear = record { output = refl; answers = refl; clear = subst ClearIn (sym is) clear }
relays_session relay told miner (Some session) notice is clear = relays_seat relay told miner session session.seat notice is clear

record Speaks (relay : Relay) (says : List Saying) (caller : ℕ) (answers : List ℕ) (new : Relay) : Type 0 where
  output : output_at caller new ≡ with_lines (output_at caller relay) says ++ answers
  none : answered_in says ≡ []
  clear : ClearAt caller new

found_speaks : (relay : Relay) (told : Told) (caller : ℕ) (miners : List Miner) (miner : Option Miner) → IsNotice told → ClearIn (session_in miner)
    → miner_of caller miners ≡ option_map (relayed_to (terms_of relay.base) told) miner
    → (output_in (miner_of caller miners) ≡ with_lines (output_in miner) (says_relayed relay told (session_in miner)))
    × (answered_in (says_relayed relay told (session_in miner)) ≡ []) × ClearIn (session_of caller miners)
found_speaks relay told caller miners None notice clear is = rw is (refl, refl, tt)
found_speaks relay told caller miners (Some miner) notice clear is =
    let relays = relays_session relay told miner miner.session notice refl clear in
    rw is (relays.output, relays.answers, relays.clear)

all_speak : (relay new : Relay) (told : Told) (caller : ℕ) → IsNotice told → new.miners ≡ map (relayed_to (terms_of relay.base) told) relay.miners
    → ClearAt caller relay → Speaks relay (says_relayed relay told (session_of caller relay.miners)) caller [] new
all_speak relay new told caller notice is clear =
    let found = ap (miner_of caller) is ∙ found_all caller (relayed_to (terms_of relay.base) told) relay.miners (λ miner. (relayed_row (terms_of relay.base) told miner).caller) in
    let parts = found_speaks relay told caller new.miners (miner_of caller relay.miners) notice clear found in
    record { output = parts.0 ∙ sym (append-nil _); none = parts.1; clear = parts.2 }

nothing_speaks : (relay new : Relay) (caller : ℕ) → new.miners ≡ relay.miners → ClearAt caller relay → Speaks relay [] caller [] new
nothing_speaks relay new caller is clear =
    record {
      output = ap (λ (miners : List Miner). output_in (miner_of caller miners)) is ∙ sym (append-nil _);
      none = refl;
      clear = subst (λ (miners : List Miner). ClearIn (session_of caller miners)) (sym is) clear;
    }

line_session : (said : Saying) (test : Bool) (miner : Option Miner)
    → session_in (if test then option_map (with_line said) miner else miner) ≡ session_in miner
line_session said true None = refl
line_session said true (Some miner) = refl
line_session said false miner = refl

each_session : (said : Data → Saying) (list : List SentOn) (miners : List Miner) (caller : ℕ)
    → session_of caller (said_each said list miners) ≡ session_of caller miners
each_session said [] miners caller = refl
each_session said (sent ∷ list) miners caller =
    each_session said list (at_caller sent.caller (with_line (said sent.id)) miners) caller
    ∙ ap session_in (found_at caller sent.caller (with_line (said sent.id)) miners (λ miner. refl))
    ∙ line_session (said sent.id) (sent.caller == caller) (miner_of caller miners)

answers_speak : (test : SentOn → Bool) (said : Data → Saying) (relay : Relay) (caller : ℕ) → Wait relay → ClearAt caller relay
    → Speaks relay [] caller (lines_for caller (map (answer_to said) (filter test relay.waiting))) (answer_those test said relay)
answers_speak test said relay caller wait clear =
    record {
      output = those_said test said relay caller wait;
      none = refl;
      clear = subst ClearIn (sym (each_session said (filter test relay.waiting) relay.miners caller)) clear;
    }

heard_speaks : (relay : Relay) (told : Told) (caller : ℕ) → Wait relay → ClearAt caller relay
    → Speaks relay (says_heard relay told (session_of caller relay.miners)) caller (lines_for caller (answers_told relay told)) (heard relay told)
heard_speaks relay (Opened channel) caller wait clear = nothing_speaks relay _ caller refl clear
heard_speaks relay (NotOpened code) caller wait clear = nothing_speaks relay _ caller refl clear
heard_speaks relay (Target target) caller wait clear = all_speak relay _ (Target target) caller tt refl clear
heard_speaks relay (Accepted number) caller wait clear = answers_speak (λ sent. nat_le sent.number number) (λ id. Answer id yes) relay caller wait clear
heard_speaks relay (Refused number code) caller wait clear = answers_speak (λ sent. sent.number == number) (λ id. CodeRefusal id code) relay caller wait clear
heard_speaks relay (Future job) caller wait clear = all_speak relay _ (Future job) caller tt refl clear
heard_speaks relay (Live job min_ntime) caller wait clear = all_speak relay _ (Live job min_ntime) caller tt refl clear
heard_speaks relay (Tipped tip) caller wait clear = all_speak relay _ (Tipped tip) caller tt refl clear
heard_speaks relay Nothing caller wait clear = nothing_speaks relay _ caller refl clear

set_up_speaks : (relay : Relay) (caller : ℕ) (is : Bool) → ClearAt caller relay
    → Speaks relay [] caller []
    (if is then relay
    else record relay {
      is_set_up = true;
      output = relay.output ++ frame_of_message (opening_message relay.user relay.base);
    })
set_up_speaks relay caller true clear = nothing_speaks relay relay caller refl clear
set_up_speaks relay caller false clear = nothing_speaks relay _ caller refl clear

up_speaks : (relay : Relay) (told : UpTold) (caller : ℕ) → Wait relay → ClearAt caller relay
    → Speaks relay (says_up relay told (session_of caller relay.miners)) caller (lines_for caller (answers_up relay told)) (heard_up relay told)
up_speaks relay SetUp caller wait clear = set_up_speaks relay caller relay.is_set_up clear
up_speaks relay (Tells told) caller wait clear = heard_speaks relay told caller wait clear

-- ---- a line

mapped : (test : Bool) (x : Option Miner) → (if test then x else x) ≡ (if test then option_map (λ miner. miner) x else x)
mapped true x = same_map x
mapped false x = refl

if_twice : (test : Bool) (one other : Miner → Miner) (x : Option Miner)
    → (if test then option_map other (if test then option_map one x else x) else (if test then option_map one x else x))
    ≡ (if test then option_map (λ miner. other (one miner)) x else x)
if_twice true one other x = map_twice one other x
if_twice false one other x = refl

shared_at : (relay : Relay) (who caller sequence : ℕ) (sent : Result SentShare ProxyRefusal) (id : Option Data)
    → miner_of caller (shared_by (changed relay who (handed_over sequence)) who sent id).miners
    ≡ (if who == caller then option_map (λ miner. share_change sent id (handed_over sequence miner)) (miner_of caller relay.miners)
    else miner_of caller relay.miners)
shared_at relay who caller sequence sent None =
    found_at caller who (handed_over sequence) relay.miners (λ miner. (handed_row sequence miner).caller)
shared_at relay who caller sequence (Err refusal) (Some id) =
    let said : Saying = CodeRefusal id (code_of refusal) in
    found_at caller who (with_line said) (at_caller who (handed_over sequence) relay.miners) (λ miner. refl)
    ∙ ap (λ (found : Option Miner). if who == caller then option_map (with_line said) found else found)
    (found_at caller who (handed_over sequence) relay.miners (λ miner. (handed_row sequence miner).caller))
    ∙ if_twice (who == caller) (handed_over sequence) (with_line said) (miner_of caller relay.miners)
shared_at relay who caller sequence (Ok share) (Some id) =
    found_at caller who (handed_over sequence) relay.miners (λ miner. (handed_row sequence miner).caller)

asked_at : (relay : Relay) (who caller : ℕ) (asking : Asking)
    → miner_of caller (asked relay who asking).miners
    ≡ (if who == caller then option_map (asked_change relay (session_of who relay.miners) asking) (miner_of caller relay.miners)
    else miner_of caller relay.miners)
asked_at relay who caller Silence = same_if (who == caller) (miner_of caller relay.miners) ∙ mapped (who == caller) (miner_of caller relay.miners)
asked_at relay who caller (Update channel class) =
    same_if (who == caller) (miner_of caller relay.miners) ∙ mapped (who == caller) (miner_of caller relay.miners)
asked_at relay who caller (Open class) =
    found_at caller who (subscribed (terms_of relay.base) relay.tip relay.jobs (offer relay)) relay.miners (λ miner. (subscribed_joined relay (offer relay) miner).caller)
asked_at relay who caller (Name account) = found_at caller who (named account) relay.miners (λ miner. (named_row account miner).caller)
asked_at relay who caller (Share share) =
    shared_at relay who caller share.sequence (sent_from relay.is_ended relay.sent share (seat_in (session_of who relay.miners)))
    (share_id share.sequence (session_of who relay.miners))

-- what waits upstream of a line
entry_is : (relay : Relay) (who : ℕ) (asking : Asking) → entry_of_asking relay who asking ≡ entry_asked relay who (session_of who relay.miners) asking
entry_is relay who Silence = refl
entry_is relay who (Update channel class) = refl
entry_is relay who (Open class) = refl
entry_is relay who (Name account) = refl
entry_is relay who (Share share) = refl

others_entry : (number who caller : ℕ) (sent : Result SentShare ProxyRefusal) (id : Option Data) → (who == caller) ≡ false
    → ids_for caller (entry_if number who sent id) ≡ []
others_entry number who caller sent None away = refl
others_entry number who caller (Err refusal) (Some id) away = refl
others_entry number who caller (Ok share) (Some id) away = rw away refl

others_entries : (relay : Relay) (who caller : ℕ) (asking : Asking) → (who == caller) ≡ false
    → ids_for caller (entry_of_asking relay who asking) ≡ []
others_entries relay who caller Silence away = refl
others_entries relay who caller (Update channel class) away = refl
others_entries relay who caller (Open class) away = refl
others_entries relay who caller (Name account) away = refl
others_entries relay who caller (Share share) away =
    others_entry relay.sent who caller (sent_from relay.is_ended relay.sent share (seat_in (session_of who relay.miners)))
    (share_id share.sequence (session_of who relay.miners)) away

line_found : (relay : Relay) (who caller : ℕ) (line : List ℕ)
    → miner_of caller (after_line relay who line).miners
    ≡ (if who == caller then option_map (line_said (terms_of relay.base) line) (miner_of caller relay.miners) else miner_of caller relay.miners)
line_found relay who caller line =
    found_at caller who (line_said (terms_of relay.base) line) relay.miners (λ miner. (said_row (terms_of relay.base) line miner).caller)

-- a line of another says nothing to a caller
others_write : (relay : Relay) (who : ℕ) (line : List ℕ) (caller : ℕ) → (who == caller) ≡ false → ClearAt caller relay
    → Writes relay (event.Line who line) caller (line_heard relay who line)
others_write relay who line caller away clear =
    let heard_line : Relay = after_line relay who line in
    let asking : Asking = asks_by (terms_of relay.base) line (session_of who relay.miners) in
    let line_same : miner_of caller heard_line.miners ≡ miner_of caller relay.miners = rw away at (line_found relay who caller line) in
    let asked_same : miner_of caller (asked heard_line who asking).miners ≡ miner_of caller heard_line.miners = rw away at (asked_at heard_line who caller asking) in
    let same = asked_same ∙ line_same in
    record {
      output = rw away (ap output_in same ∙ nothing relay caller);
      answers = rw away (others_entries heard_line who caller asking away);
      clear = subst (λ (miner : Option Miner). ClearIn (session_in miner)) (sym same) clear;
    }

-- its own session does
abbrev own_after : Relay → ℕ → List ℕ → Option Miner → Option Miner
own_after relay who line miner =
    option_map
    (asked_change (after_line relay who line) (session_in (option_map (line_said (terms_of relay.base) line) miner))
    (asks_by (terms_of relay.base) line (session_in miner)))
    (option_map (line_said (terms_of relay.base) line) miner)

record WritesOwn (relay : Relay) (who : ℕ) (line : List ℕ) (miner : Option Miner) : Type 0 where
  output : output_in (own_after relay who line miner) ≡ with_lines (output_in miner) (says_line relay who line (session_in miner)) ++ []
  answers : answered_in (says_line relay who line (session_in miner))
      ++ ids_for who
      (entry_asked (after_line relay who line) who (session_in (option_map (line_said (terms_of relay.base) line) miner))
      (asks_by (terms_of relay.base) line (session_in miner)))
      ≡ request_if line (session_in miner)
  clear : ClearIn (session_in (own_after relay who line miner))

joined_writes : (relay : Relay) (who : ℕ) (line : List ℕ) (caller : ℕ) (output : List ℕ) (session : Option Session) → ClearIn session
    → WritesOwn relay who line (Some (record { caller = caller; output = output; session = session }))
joined_writes relay who line caller output None clear = record { output = sym (append-nil output); answers = refl; clear = tt }
joined_writes relay who line caller output (Some session) clear =
    let reaction : Reaction = line_reaction (terms_of relay.base) session.v1 line in
    let ends = asked_ends (after_line relay who line) who caller (with_lines output reaction.says) session.seat session.v1 reaction.after
    (request_of line) reaction.says reaction.asks (leaves (terms_of relay.base) session.v1 line) clear in
    record {
      output = ends.output ∙ sym (lines-append output reaction.says _) ∙ sym (append-nil _);
      answers = ends.answers;
      clear = subst ClearIn (sym ends.session) ends.clear;
    }

found_writes : (relay : Relay) (who : ℕ) (line : List ℕ) (miner : Option Miner) → ClearIn (session_in miner) → WritesOwn relay who line miner
found_writes relay who line None clear = record { output = refl; answers = refl; clear = tt }
found_writes relay who line (Some miner) clear = joined_writes relay who line miner.caller miner.output miner.session clear

own_writes : (relay : Relay) (who : ℕ) (line : List ℕ) → ClearAt who relay → Writes relay (event.Line who line) who (line_heard relay who line)
own_writes relay who line clear =
    let heard_line : Relay = after_line relay who line in
    let asking : Asking = asks_by (terms_of relay.base) line (session_of who relay.miners) in
    let itself : (who == who) ≡ true = eq-eqb who who refl in
    let own = found_writes relay who line (miner_of who relay.miners) clear in
    let line_own : miner_of who heard_line.miners ≡ option_map (line_said (terms_of relay.base) line) (miner_of who relay.miners) =
    rw itself at (line_found relay who who line) in
    let asked_own : miner_of who (asked heard_line who asking).miners ≡ option_map (asked_change heard_line (session_of who heard_line.miners) asking) (miner_of who heard_line.miners) =
    rw itself at (asked_at heard_line who who asking) in
    let same : miner_of who (asked heard_line who asking).miners ≡ own_after relay who line (miner_of who relay.miners) =
    asked_own
    ∙ ap (λ (found : Option Miner). option_map (asked_change heard_line (session_in found) asking) found) line_own in
    let entry : entry_of_asking heard_line who asking
    ≡ entry_asked heard_line who (session_in (option_map (line_said (terms_of relay.base) line) (miner_of who relay.miners))) asking =
    entry_is heard_line who asking ∙ ap (λ (found : Option Miner). entry_asked heard_line who (session_in found) asking) line_own in
    record {
      output = rw itself (ap output_in same ∙ own.output);
      answers = rw itself (ap (λ (list : List SentOn). answered_in (says_line relay who line (session_of who relay.miners)) ++ ids_for who list) entry ∙ own.answers);
      clear = subst (λ (miner : Option Miner). ClearIn (session_in miner)) (sym same) own.clear;
    }

line_writes : (relay : Relay) (who : ℕ) (line : List ℕ) (caller : ℕ) → ClearAt caller relay
    → Writes relay (event.Line who line) caller (line_heard relay who line)
line_writes relay who line caller clear = elim (cases_Bool (who == caller)) [
  | inl own ↦
      let same : who ≡ caller = eqb-true who caller own in
      let P : ℕ → Type 0 = λ c. ClearAt c relay → Writes relay (event.Line who line) c (line_heard relay who line) in
      (subst P same (own_writes relay who line)) clear
  | inr away ↦ others_write relay who line caller away clear
]

-- ---- joining and leaving

start_clear : IsClear start
start_clear = record { subscriber = refl; naming = refl; waiting = refl }

joined_found : (who caller : ℕ) (miners : List Miner) (miner : Option Miner) → miner_of who miners ≡ miner → ClearIn (session_of caller miners)
    → (output_in (miner_of caller (with_new who miner miners)) ≡ (if who == caller then [] else output_in (miner_of caller miners)))
    × ClearIn (session_of caller (with_new who miner miners))
joined_found who caller miners None is clear = elim (cases_Bool (who == caller)) [
  | inl own ↦
      let found : miner_of caller (miners ++ new_miner who ∷ []) ≡ Some (new_miner who) = rw own at (found_behind caller who miners is) in
      (rw own (ap output_in found), subst (λ (m : Option Miner). ClearIn (session_in m)) (sym found) start_clear)
  | inr away ↦
      let found : miner_of caller (miners ++ new_miner who ∷ []) ≡ miner_of caller miners = rw away at (found_behind caller who miners is) in
      (rw away (ap output_in found), subst (λ (m : Option Miner). ClearIn (session_in m)) (sym found) clear)
]
joined_found who caller miners (Some miner) is clear = elim (cases_Bool (who == caller)) [
  | inl own ↦
      let same : who ≡ caller = eqb-true who caller own in
      let found : miner_of caller (at_caller who rejoined miners) ≡ option_map rejoined (miner_of caller miners) =
      rw own at (found_at caller who rejoined miners (λ m. refl)) in
      let there : miner_of caller (at_caller who rejoined miners) ≡ Some (rejoined miner) =
      found ∙ ap (λ (c : ℕ). option_map rejoined (miner_of c miners)) (sym same) ∙ ap (option_map rejoined) is in
      (rw own (ap output_in there), subst (λ (m : Option Miner). ClearIn (session_in m)) (sym there) start_clear)
  | inr away ↦
      let found : miner_of caller (at_caller who rejoined miners) ≡ miner_of caller miners = rw away at (found_at caller who rejoined miners (λ m. refl)) in
      (rw away (ap output_in found), subst (λ (m : Option Miner). ClearIn (session_in m)) (sym found) clear)
]

join_writes : (relay : Relay) (who caller : ℕ) → ClearAt caller relay → Writes relay (event.Join who) caller (step relay (event.Join who))
join_writes relay who caller clear = elim (cases_Bool (is_joined who relay.miners)) [
  | inl is ↦ record { output = rw is refl; answers = refl; clear = rw is clear }
  | inr new ↦
      let parts = joined_found who caller relay.miners (miner_of who relay.miners) refl clear in
      record { output = rw new parts.0; answers = refl; clear = rw new parts.1 }
]

left_found : (test : Bool) (miner : Option Miner) → ClearIn (session_in miner)
    → (output_in (if test then option_map left miner else miner) ≡ output_in miner)
    × ClearIn (session_in (if test then option_map left miner else miner))
left_found true None clear = (refl, tt)
left_found true (Some miner) clear = (refl, tt)
left_found false miner clear = (refl, clear)

leave_writes : (relay : Relay) (who caller : ℕ) → ClearAt caller relay → Writes relay (event.Leave who) caller (step relay (event.Leave who))
leave_writes relay who caller clear =
    let found = found_at caller who left relay.miners (λ miner. refl) in
    let parts = left_found (who == caller) (miner_of caller relay.miners) clear in
    record {
      output = ap output_in found ∙ parts.0 ∙ nothing relay caller;
      answers = refl;
      clear = subst (λ (m : Option Miner). ClearIn (session_in m)) (sym found) parts.1;
    }

-- ---- all events

step_writes : (relay : Relay) (input : ProxyEvent) (caller : ℕ) → Wait relay → ClearAt caller relay → Writes relay input caller (step relay input)
step_writes relay (event.Start user base) caller wait clear = record { output = nothing relay caller; answers = refl; clear = clear }
step_writes relay (event.Up bytes) caller wait clear =
    let speaks = up_speaks relay (told_up bytes) caller wait clear in
    record { output = speaks.output; answers = append-nil _ ∙ speaks.none; clear = speaks.clear }
step_writes relay event.UpEnd caller wait clear =
    let speaks = answers_speak (λ sent. true) (λ id. CodeRefusal id (code_of UpstreamLost)) relay caller wait clear in
    record { output = speaks.output; answers = refl; clear = speaks.clear }
step_writes relay (event.Join who) caller wait clear = join_writes relay who caller clear
step_writes relay (event.Line who line) caller wait clear = line_writes relay who line caller clear
step_writes relay (event.Leave who) caller wait clear = leave_writes relay who caller clear

after_clear : (relay : Relay) (inputs : List ProxyEvent) (caller : ℕ) → Wait relay → ClearAt caller relay → ClearAt caller (after relay inputs)
after_clear relay [] caller wait clear = clear
after_clear relay (input ∷ inputs) caller wait clear =
    after_clear (step relay input) inputs caller (step_wait relay input wait) (step_writes relay input caller wait clear).clear

pub sessions_say : SessionsSayTheirOwn
sessions_say user base inputs input caller =
    let writes = step_writes (after (started user base) inputs) input caller (after_wait (started user base) inputs tt)
    (after_clear (started user base) inputs caller tt tt) in
    record { output = writes.output; answers = writes.answers }
