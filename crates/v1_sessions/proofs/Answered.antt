-- What a line asks is answered before the next line is heard, where the pool replies to what it is asked.
use Rattle.std.proofs.Common.{◌≡◌, ℕ, ◌+◌, ◌==◌, Bool, true, false, Option, None, Some, Result, Ok, Err, IfOk, List, [], ◌∷◌, ◌++◌, length, map, reverse, codes, suc, zero, refl, sym, ap, subst, ◌∙◌, append_assoc, append-nil, ◌-◌, inl, inr, arith}
use Rattle.std.proofs.lemmas.Bool.{cases_Bool, eq-eqb}
use Rattle.std.proofs.lemmas.List.{reverse-append}
use Rattle.std.proofs.Math.Dec.{eqb-suc-zero}
use Rattle.std.specs.List.{AllByRecursion}
use Rattle.std.specs.Option.{option_map}
use Rattle.std.specs.Prelude.{if◌then◌else◌, is_some}
use Rattle.serde_json.specs.Data.{Data, Items}
use Rattle.serde_json.specs.Find.{get_item}
use Rattle.pool_base.specs.Calls.{Outcome, Replied, Faulted}
use Rattle.pool_base.specs.Results.{◌>>=◌}
use Rattle.pool_io.specs.declared.sink.SinkFailed.{SinkFailed}
use Rattle.pool_io.specs.declared.sink.SinkFailed.TheVariants as sink
use Rattle.pool_history.specs.declared.asking.Request.{Request}
use Rattle.pool_history.specs.declared.asking.Request.TheVariants as request
use Rattle.pool_history.specs.declared.refusals.BookError.{BookError}
use Rattle.pool_history.specs.declared.refusals.Failed.{Failed}
use Rattle.pool_history.specs.declared.replies.Reply.{Reply}
use Rattle.pool_history.specs.declared.replies.Reply.TheVariants as reply
use Rattle.pool_history.specs.declared.shares.Submission.{Submission}
use Rattle.pool_history.specs.declared.telling.Note.{Note}
use Rattle.pool_history.specs.declared.telling.Note.TheVariants as note
use Rattle.pool_history.specs.Accounts.{account_of, is_known}
use Rattle.pool_history.specs.Calls.{PoolCall}
use Rattle.pool_history.specs.Codes.{share_code}
use Rattle.pool_history.specs.Conditions.{found, provided}
use Rattle.pool_history.specs.Headers.{Briefing}
use Rattle.v1_lines.specs.HexNumbers.{hex_number}
use Rattle.v1_lines.specs.Requests.{MethodCall, answer_id, call_in, is_blank_line, line_value, text_at}
use Rattle.session_steps.specs.declared.about.About.{About}
use Rattle.session_steps.specs.declared.about.About.TheVariants as topic
use Rattle.session_steps.specs.declared.ends.SessionEnd.{SessionEnd}
use Rattle.session_steps.specs.declared.ends.SessionEnd.TheVariants as end
use Rattle.session_steps.specs.declared.manner.Manner.{Manner}
use Rattle.session_steps.specs.States.{State, Stage, Asking, Committing, Greeting, Leaving, Over, Polling, Reading, Refusing, Saying, Put, briefed_stage, end_stage, failed_end, fault_end, hears, input_end, news_stage, next_stage, put_stage}
use Rattle.session_steps.specs.Steps.{Books, after_asking, after_booking, after_call, after_news}
use Rattle.v1_translate.specs.Configuring.{Configuration, configuration_in, configured}
use Rattle.v1_translate.specs.Difficulty.{asked_difficulty}
use Rattle.v1_translate.specs.Heard as v1
use Rattle.v1_translate.specs.Laws.{IsPrompt, answered_in, how_many, pending_in, requests_in}
use Rattle.v1_translate.specs.Lines.{authorized, by_call, by_method, by_value, line_reaction, method_of, subscribed, suggested, with_channel}
use Rattle.v1_translate.specs.Messages.{message_reaction, name_answered, name_reaction, reaction, share_answered, still_waiting}
use Rattle.v1_translate.specs.Sessions.{said_after, state_after}
use Rattle.v1_translate.specs.State.{Naming, SentShare, Terms, V1State, Waiting, start}
use Rattle.v1_translate.specs.State as asking
use Rattle.v1_translate.specs.Submitting.{AskedShare, NotSent, ByCode, are_within, asked_share, checked_share, extranonce_in, sent_or_refused, share_for, submitted}
use Rattle.v1_translate.specs.declared.methods.Method.{Method}
use Rattle.v1_translate.specs.declared.methods.Method.TheVariants.{Configure, Subscribe, Authorize, SuggestDifficulty, SubscribeExtranonce, Submit, Unknown}
use Rattle.v1_translate.proofs.Balance.{none_lost}
use Rattle.v1_sessions.specs.Laws.{IsAnswered, IsAnsweredBy, IsReplyTo, RequestsAreAnswered, all_heard, heard_by_call, heard_in}
use Rattle.v1_sessions.specs.Requests.{IsRequestFor, LineRequest, name_request, update_request}
use Rattle.v1_sessions.specs.States.{LineState, after_called, after_entering, after_line, asks_now, enters_now, entered_next, new_line_state, sends, unless_failed, v1_after, v1_told}
use Rattle.v1_sessions.specs.Steps.{Called, CanCall, CanStep, Ended, Follows, Heard, Idled, LineStep, Missed, Overran, Requests, Spent, Starved, Took, WaitsToEnter, after_step, calls_of}
use Rattle.v1_sessions.specs.Told.{answer_told, heard_of, is_named, note_told, told_in}
use Rattle.v1_sessions.proofs.Whole.{fold_is, last_first, sessions_are_folds, step_v1}

-- no request waits
pub record NoneWaits (v : V1State) : Type 0 where
  pub subscriber : v.subscriber ≡ None
  pub naming : v.naming ≡ None
  pub waiting : v.waiting ≡ []

-- one share waits
record ShareWaits (number : ℕ) (v : V1State) : Type 0 where
  share : Waiting
  subscriber : v.subscriber ≡ None
  naming : v.naming ≡ None
  waiting : v.waiting ≡ share ∷ []
  numbered : share.number ≡ number

-- ---- behind a line, by what it asks

abbrev AwaitsFor : asking.Asking → V1State → Type 0
AwaitsFor asking.Silence v = NoneWaits v
AwaitsFor (asking.Open class) v = (v.naming ≡ None) × (v.waiting ≡ [])
AwaitsFor (asking.Update channel class) v = NoneWaits v
AwaitsFor (asking.Share share) v = ShareWaits share.sequence v
AwaitsFor (asking.Name account) v = (channel : ℕ) × (v.channel ≡ Some channel) × (v.subscriber ≡ None) × (v.waiting ≡ [])

abbrev Reacts : asking.Reaction → Type 0
Reacts r = AwaitsFor r.asks r.after

module _ (terms : Terms) (state : V1State) (none : NoneWaits state) (id : Data) where
  stays : NoneWaits state
  stays = record { subscriber = none.subscriber; naming = none.naming; waiting = none.waiting }

  configuring : (asked : Option Configuration) → Reacts (configured terms state id asked)
  configuring None = stays
  configuring (Some asked) = record { subscriber = none.subscriber; naming = none.naming; waiting = none.waiting }

  subscribing : (channel : Option ℕ) → Reacts (subscribed terms state id channel)
  subscribing None = (none.naming, none.waiting)
  subscribing (Some channel) = stays

  authorizing : (user : Option (List ℕ)) (channel : Option ℕ) → state.channel ≡ channel → Reacts (with_channel state id (λ c. authorized terms state id user) channel)
  authorizing user None there = stays
  authorizing None (Some channel) there = stays
  authorizing (Some user) (Some channel) there = elim (cases_Bool (is_known terms.rules (account_of user))) [
    | inl known ↦ rw known (channel, there, none.subscriber, none.waiting)
    | inr other ↦ rw other stays
  ]

  suggesting : (channel difficulty : Option ℕ) → AwaitsFor (suggested terms channel difficulty) state
  suggesting None difficulty = stays
  suggesting (Some channel) None = stays
  suggesting (Some channel) (Some difficulty) = stays

  -- a share has the next number
  provided_then : {X : Type 0} (holds : Bool) (why : NotSent) (x : X) (next : X → Result SentShare NotSent)
      → ((y : X) → IfOk (next y) (λ share. share.sequence ≡ state.sequence)) → IfOk (provided holds why x >>= next) (λ share. share.sequence ≡ state.sequence)
  provided_then true why x next on = on x
  provided_then false why x next on = tt

  found_then : {X : Type 0} (there : Option X) (why : NotSent) (next : X → Result SentShare NotSent)
      → ((y : X) → IfOk (next y) (λ share. share.sequence ≡ state.sequence)) → IfOk (found why there >>= next) (λ share. share.sequence ≡ state.sequence)
  found_then None why next on = tt
  found_then (Some x) why next on = on x

  provided_ok : (holds : Bool) (why : NotSent) (bytes : List ℕ) (share : SentShare) → share.sequence ≡ state.sequence
      → IfOk (provided holds why bytes >>= (λ _. Ok share)) (λ share. share.sequence ≡ state.sequence)
  provided_ok true why bytes share is = is
  provided_ok false why bytes share is = tt

  checked_is : (channel : ℕ) (asked : AskedShare) → IfOk (checked_share state channel asked) (λ share. share.sequence ≡ state.sequence)
  checked_is channel asked =
      provided_then _ _ _ _ (λ worker. found_then (hex_number asked.job) _ _ (λ job. found_then (extranonce_in asked.extranonce) _ _ (λ extranonce.
      provided_ok (are_within state.mask asked.bits) (ByCode (codes "invalid-version")) extranonce (share_for state channel asked job extranonce) refl)))

  sending : (checked : Result SentShare NotSent) → IfOk checked (λ share. share.sequence ≡ state.sequence) → Reacts (sent_or_refused state id checked)
  sending (Ok share) is = record {
    share = record { number = state.sequence; id = id };
    subscriber = none.subscriber;
    naming = none.naming;
    waiting = ap (λ l. record { number = state.sequence; id = id } ∷ l) none.waiting;
    numbered = sym is;
  }
  sending (Err why) is = stays

  submitting : (asked : Option AskedShare) (channel : Option ℕ) → Reacts (with_channel state id (λ c. submitted state id c asked) channel)
  submitting asked None = stays
  submitting None (Some channel) = stays
  submitting (Some asked) (Some channel) = sending (checked_share state channel asked) (checked_is channel asked)

  calling : (params : Items) (method : Method) → Reacts (by_method terms state id params method)
  calling params Configure = configuring (configuration_in params)
  calling params Subscribe = subscribing state.channel
  calling params Authorize = authorizing (text_at 0 params) state.channel refl
  calling params SuggestDifficulty = suggesting state.channel (asked_difficulty (get_item 0 params))
  calling params SubscribeExtranonce = stays
  calling params Submit = submitting (asked_share params) state.channel
  calling params Unknown = stays

  by_a_call : (call : Option MethodCall) → Reacts (by_call terms state id call)
  by_a_call None = stays
  by_a_call (Some call) = calling call.params (method_of call.method)

by_a_value : (terms : Terms) (state : V1State) → NoneWaits state → (value : Option Data) → Reacts (by_value terms state value)
by_a_value terms state none None = none
by_a_value terms state none (Some value) = by_a_call terms state none (answer_id value) (call_in value)

line_awaits : (terms : Terms) (state : V1State) (line : List ℕ) → NoneWaits state → Reacts (line_reaction terms state line)
unfolding line_reaction
line_awaits terms state line none = elim (cases_Bool (is_blank_line line)) [
  | inl blank ↦ rw blank none
  | inr other ↦ rw other (by_a_value terms state none (line_value line))
]

-- ---- while it is asked

abbrev Awaits : Request → About → V1State → Type 0
Awaits (request.Open ask) about v = (v.naming ≡ None) × (v.waiting ≡ [])
Awaits (request.Name channel identity) about v = (v.subscriber ≡ None) × (v.waiting ≡ [])
Awaits (request.Update channel target) about v = NoneWaits v
Awaits (request.Brief sub) about v = (about ≡ topic.Share sub) × ShareWaits sub.sequence v
Awaits _ about v = ⊥

abbrev StageAwaits : Stage → About → V1State → Type 0
StageAwaits (Asking asked) about v = Awaits asked about v
StageAwaits (Committing brief) about v = (sub : Submission) × (about ≡ topic.Share sub) × ShareWaits sub.sequence v
StageAwaits Reading about v = NoneWaits v
StageAwaits Polling about v = NoneWaits v
StageAwaits _ about v = Unit {0}

abbrev WaitsWith : Option LineRequest → Stage → About → V1State → Type 0
WaitsWith None stage about v = StageAwaits stage about v
WaitsWith (Some wish) stage about v = Awaits wish.request wish.about v

record Stands (s : LineState) : Type 0 where
  only : WaitsToEnter s.next s.pool.stage
  waits : WaitsWith s.next s.pool.stage s.pool.talk.about s.v1

stands_at : (s : LineState) → s.next ≡ None → StageAwaits s.pool.stage s.pool.talk.about s.v1 → Stands s
stands_at s none waits = record {
  only = subst (λ next. WaitsToEnter next s.pool.stage) (sym none) tt;
  waits = subst (λ next. WaitsWith next s.pool.stage s.pool.talk.about s.v1) (sym none) waits;
}

none_reading : (next : Option LineRequest) (stage : Stage) → stage ≡ Reading → WaitsToEnter next stage → next ≡ None
none_reading None stage is only = refl
none_reading (Some wish) stage is only = absurd (subst (WaitsToEnter (Some wish)) is only)

reading_waits : (next : Option LineRequest) (stage : Stage) (about : About) (v : V1State) → stage ≡ Reading → next ≡ None → WaitsWith next stage about v → NoneWaits v
reading_waits next stage about v is none waits = subst (λ s. StageAwaits s about v) is (subst (λ n. WaitsWith n stage about v) none waits)

-- stages at which nothing is asked
end_waits : (entered : Bool) (reason : SessionEnd) (about : About) (v : V1State) → StageAwaits (end_stage entered reason) about v
end_waits true reason about v = tt
end_waits false reason about v = tt

next_waits : (entered : Bool) (idles : ℕ) (about : About) (v : V1State) → NoneWaits v → StageAwaits (next_stage entered idles) about v
next_waits entered zero about v none = end_waits entered end.IdleOut about v
next_waits entered (suc n) about v none = rw (ap (λ b. if b then end_stage entered end.IdleOut else Reading) (eqb-suc-zero n)) none

news_waits : (entered : Bool) (idles : ℕ) (about : About) (v : V1State) → NoneWaits v → StageAwaits (news_stage entered idles) about v
news_waits true idles about v none = none
news_waits false idles about v none = next_waits false idles about v none

put_waits : (fault : Option SinkFailed) (entered : Bool) (stage : Stage) (about : About) (v : V1State) → StageAwaits stage about v → StageAwaits (put_stage fault entered stage) about v
put_waits None entered stage about v waits = waits
put_waits (Some sink.Failed) entered stage about v waits = end_waits entered end.WriteFault about v
put_waits (Some sink.Memory) entered stage about v waits = end_waits entered end.Memory about v

-- ---- a line

none_asked : (asks : asking.Asking) (channel : Option ℕ) (v : V1State) → v.channel ≡ channel → IsRequestFor channel asks None → AwaitsFor asks v → NoneWaits v
none_asked asking.Silence channel v there is waits = waits
none_asked (asking.Open class) channel v there is waits = absurd is
none_asked (asking.Update opened class) channel v there is waits = waits
none_asked (asking.Share share) channel v there is waits = absurd is
none_asked (asking.Name account) None v there is waits = (let both : Some waits.0 ≡ None = sym waits.1 ∙ there in cc)
none_asked (asking.Name account) (Some channel) v there is waits = cc

some_asked : (asks : asking.Asking) (channel : Option ℕ) (wish : LineRequest) (v : V1State) → IsRequestFor channel asks (Some wish) → AwaitsFor asks v → Awaits wish.request wish.about v
some_asked asking.Silence channel wish v is waits = cc
some_asked (asking.Open class) channel wish v is waits = subst (λ (w : LineRequest). Awaits w.request w.about v) (sym is.is) waits
some_asked (asking.Update opened class) channel wish v is waits =
    let same : wish ≡ update_request opened class = cc in
    subst (λ (w : LineRequest). Awaits w.request w.about v) (sym same) waits
some_asked (asking.Share share) channel wish v is waits =
    subst (λ (w : LineRequest). Awaits w.request w.about v) (sym is.is) (
      refl,
      record {
        share = waits.share;
        subscriber = waits.subscriber;
        naming = waits.naming;
        waiting = waits.waiting;
        numbered = waits.numbered ∙ sym is.of_share.sequence;
      },
    )
some_asked (asking.Name account) None wish v is waits = cc
some_asked (asking.Name account) (Some channel) wish v is waits =
    let same : wish ≡ name_request account channel = cc in
    subst (λ (w : LineRequest). Awaits w.request w.about v) (sym same) (waits.2, waits.3)

sent_if : (b : Bool) (wish : LineRequest) (t : LineState) → t.next ≡ None → Awaits wish.request wish.about t.v1
    → Stands (if b then record t { pool = asks_now wish t.pool } else record t { pool = enters_now t.pool; next = Some wish })
sent_if true wish t none waits = stands_at (record t { pool = asks_now wish t.pool }) none waits
sent_if false wish t none waits = record { only = tt; waits = waits }

-- what it asks is sent
sent_stands : (asks : asking.Asking) (channel : Option ℕ) (wish : Option LineRequest) (t : LineState) → t.v1.channel ≡ channel → t.next ≡ None → t.pool.stage ≡ Reading
    → IsRequestFor channel asks wish → AwaitsFor asks t.v1 → Stands (sends wish t)
sent_stands asks channel None t there none reading is waits =
    stands_at t none (subst (λ s. StageAwaits s t.pool.talk.about t.v1) (sym reading) (none_asked asks channel t.v1 there is waits))
sent_stands asks channel (Some wish) t there none reading is waits =
    sent_if (is_some t.pool.talk.flags) wish t none (some_asked asks channel wish t.v1 is waits)

unless_stands : (fault : Option SinkFailed) (t u : LineState) → t.next ≡ None → Stands u → Stands (unless_failed fault t u)
unless_stands None t u none stands = stands
unless_stands (Some cause) t u none stands = stands_at (unless_failed (Some cause) t u) none (end_waits t.pool.entered (failed_end cause) t.pool.talk.about t.v1)

-- ---- an answer

-- a channel's opening, a name and a share are answered
opened_none : (terms : Terms) (v : V1State) (opened : v1.OpenedChannel) → (v.naming ≡ None) × (v.waiting ≡ []) → NoneWaits (message_reaction terms v (v1.Opened opened)).after
unfolding message_reaction
opened_none terms v opened waits = record { subscriber = refl; naming = waits.0; waiting = waits.1 }

unopened_none : (terms : Terms) (v : V1State) (code : List ℕ) → (v.naming ≡ None) × (v.waiting ≡ []) → NoneWaits (message_reaction terms v (v1.NotOpened code)).after
unfolding message_reaction
unopened_none terms v code waits = record { subscriber = refl; naming = waits.0; waiting = waits.1 }

target_none : (terms : Terms) (v : V1State) (target : List ℕ) → NoneWaits v → NoneWaits (message_reaction terms v (v1.Target target)).after
unfolding message_reaction
target_none terms v target none = none

none_left : (number : ℕ) (waiting : List Waiting) (share : Waiting) → waiting ≡ share ∷ [] → share.number ≡ number → still_waiting number waiting ≡ []
none_left number waiting share is numbered =
    ap (still_waiting number) is ∙ ap (λ b. if b then [] else share ∷ []) (eq-eqb share.number number numbered)

accepted_none : (terms : Terms) (v : V1State) (number : ℕ) → ShareWaits number v → NoneWaits (message_reaction terms v (v1.Accepted number)).after
unfolding message_reaction
accepted_none terms v number waits =
    record { subscriber = waits.subscriber; naming = waits.naming; waiting = none_left number v.waiting waits.share waits.waiting waits.numbered }

refused_none : (terms : Terms) (v : V1State) (number : ℕ) (code : List ℕ) → ShareWaits number v → NoneWaits (message_reaction terms v (v1.Refused number code)).after
unfolding message_reaction
refused_none terms v number code waits =
    record { subscriber = waits.subscriber; naming = waits.naming; waiting = none_left number v.waiting waits.share waits.waiting waits.numbered }

answered_name : (v : V1State) (naming : Option Naming) (named : Bool) → v.naming ≡ naming → (v.subscriber ≡ None) × (v.waiting ≡ []) → NoneWaits (name_answered v naming named).after
answered_name v None named there waits = record { subscriber = waits.0; naming = there; waiting = waits.1 }
answered_name v (Some naming) true there waits = record { subscriber = waits.0; naming = refl; waiting = waits.1 }
answered_name v (Some naming) false there waits = record { subscriber = waits.0; naming = refl; waiting = waits.1 }

named_none : (v : V1State) (named : Bool) → (v.subscriber ≡ None) × (v.waiting ≡ []) → NoneWaits (name_reaction v named).after
unfolding name_reaction
named_none v named waits = answered_name v v.naming named refl waits

-- and news answer nothing
note_none : (terms : Terms) (v : V1State) (note : Note) → NoneWaits v → NoneWaits (message_reaction terms v (note_told note)).after
unfolding message_reaction
note_none terms v (note.Extended channel_id job_id None version rolling path prefix suffix) none = record { subscriber = none.subscriber; naming = none.naming; waiting = none.waiting }
note_none terms v (note.Extended channel_id job_id (Some min_ntime) version rolling path prefix suffix) none = record { subscriber = none.subscriber; naming = none.naming; waiting = none.waiting }
note_none terms v (note.PrevHash channel_id job_id prev_hash min_ntime nbits) none = record { subscriber = none.subscriber; naming = none.naming; waiting = none.waiting }
note_none terms v _ none = none

notes_none : (terms : Terms) (v : V1State) (notes : List Note) → NoneWaits v → NoneWaits (v1_after terms v (map v1.Message (map note_told notes)))
notes_none terms v [] none = none
notes_none terms v (note ∷ notes) none = notes_none terms (message_reaction terms v (note_told note)).after notes (note_none terms v note none)

-- ---- a call

abbrev told_by : Terms → V1State → Stage → About → Outcome Reply BookError → V1State
told_by terms v stage about (Faulted cause) = v
told_by terms v stage about (Replied answer) = v1_after terms v (heard_of stage about answer)

told_same : (terms : Terms) (s : LineState) (outcome : Outcome Reply BookError) → told_by terms s.v1 s.pool.stage s.pool.talk.about outcome ≡ v1_told terms s outcome
told_same terms s (Faulted cause) = refl
told_same terms s (Replied answer) = refl

brief_waits : (fault : Option SinkFailed) (entered : Bool) (idles : ℕ) (about : About) (brief : Briefing) (sub : Submission) (v : V1State) → about ≡ topic.Share sub → ShareWaits sub.sequence v
    → StageAwaits (put_stage fault entered (briefed_stage about brief (news_stage entered idles))) about v
brief_waits fault entered idles about brief sub v is waits = rw is (put_waits fault entered (Committing brief) (topic.Share sub) v (sub, refl, waits))

credited_told : (terms : Terms) (about : About) (sub : Submission) (v : V1State) (work : ℕ) → about ≡ topic.Share sub → ShareWaits sub.sequence v
    → NoneWaits (v1_after terms v (map v1.Message (told_in about (reply.Credited work))))
credited_told terms about sub v work is waits = rw is (accepted_none terms v sub.sequence waits)

refused_told : (terms : Terms) (about : About) (sub : Submission) (v : V1State) (failed : Failed) → about ≡ topic.Share sub → ShareWaits sub.sequence v
    → NoneWaits (v1_after terms v (map v1.Message (told_in about (reply.Refused failed))))
refused_told terms about sub v failed is waits = rw is (refused_none terms v sub.sequence (share_code failed) waits)

module _ (terms : Terms) (s : State) (put : Put) (v : V1State) where
  abbrev next_at : Bool → Stage
  next_at entered = put_stage put.fault entered (news_stage entered s.idles)

  told_waits : (entered : Bool) (w : V1State) → NoneWaits w → StageAwaits (next_at entered) s.talk.about w
  told_waits entered w none = put_waits put.fault entered (news_stage entered s.idles) s.talk.about w (news_waits entered s.idles s.talk.about w none)

  -- what a request was answered
  asked_waits : (front : ℕ) (asked : Request) (answer : Reply) → IsReplyTo asked answer → Awaits asked s.talk.about v
      → StageAwaits (after_asking s front (Replied answer) put).stage s.talk.about (v1_after terms v (heard_of (Asking asked) s.talk.about answer))
  asked_waits front (request.Open ask) (reply.Opened opened) is waits = told_waits s.entered _ (opened_none terms v _ waits)
  asked_waits front (request.Open ask) (reply.OpenRefused error) is waits = told_waits s.entered _ (unopened_none terms v _ waits)
  asked_waits front (request.Open ask) _ is waits = absurd is
  asked_waits front (request.Name channel identity) reply.Named is waits = told_waits s.entered _ (named_none v true waits)
  asked_waits front (request.Name channel identity) (reply.NameRefused error) is waits = told_waits s.entered _ (named_none v false waits)
  asked_waits front (request.Name channel identity) _ is waits = absurd is
  asked_waits front (request.Update channel target) (reply.Target there class) is waits = told_waits s.entered _ (target_none terms v _ waits)
  asked_waits front (request.Update channel target) (reply.UpdateRefused error) is waits = told_waits s.entered v waits
  asked_waits front (request.Update channel target) _ is waits = absurd is
  asked_waits front (request.Brief sub) (reply.Brief brief) is waits = brief_waits put.fault s.entered s.idles s.talk.about brief sub v waits.0 waits.1
  asked_waits front (request.Brief sub) (reply.Refused failed) is waits = told_waits s.entered _ (refused_told terms s.talk.about sub v failed waits.0 waits.1)
  asked_waits front (request.Brief sub) _ is waits = absurd is
  asked_waits front _ answer is waits = absurd waits

  asking_waits : (front : ℕ) (asked : Request) (outcome : Outcome Reply BookError) → IsAnsweredBy asked outcome → Awaits asked s.talk.about v
      → StageAwaits (after_asking s front outcome put).stage (after_asking s front outcome put).talk.about (told_by terms v (Asking asked) s.talk.about outcome)
  asking_waits front asked (Faulted cause) is waits = end_waits s.entered (fault_end cause) s.talk.about v
  asking_waits front asked (Replied answer) is waits = asked_waits front asked answer is waits

  booked_waits : (brief : Briefing) (asked : Request) (answer : Reply) (sub : Submission) → s.talk.about ≡ topic.Share sub → Books (topic.Share sub) brief asked → IsReplyTo asked answer
      → ShareWaits sub.sequence v → StageAwaits (next_at s.entered) s.talk.about (v1_after terms v (heard_of (Committing brief) s.talk.about answer))
  booked_waits brief (request.Commit checked) (reply.Credited work) sub about books is waits = told_waits s.entered _ (credited_told terms s.talk.about sub v work about waits)
  booked_waits brief (request.Commit checked) (reply.Refused failed) sub about books is waits = told_waits s.entered _ (refused_told terms s.talk.about sub v failed about waits)
  booked_waits brief (request.Commit checked) _ sub about books is waits = absurd is
  booked_waits brief _ answer sub about books is waits = absurd books

  booking_waits : (brief : Briefing) (asked : Request) (outcome : Outcome Reply BookError) → Books s.talk.about brief asked → IsAnsweredBy asked outcome
      → StageAwaits (Committing brief) s.talk.about v → StageAwaits (after_booking s outcome put).stage s.talk.about (told_by terms v (Committing brief) s.talk.about outcome)
  booking_waits brief asked (Faulted cause) books is waits = end_waits s.entered (fault_end cause) s.talk.about v
  booking_waits brief asked (Replied answer) books is waits =
      booked_waits brief asked answer waits.0 waits.1 (subst (λ a. Books a brief asked) waits.1 books) is waits.2

  polled_waits : (from : ℕ) (answer : Reply) → IsReplyTo (request.Poll from) answer → NoneWaits v
      → StageAwaits (after_news s (Replied answer) put).stage s.talk.about (v1_after terms v (heard_of Polling s.talk.about answer))
  polled_waits from (reply.News at notes) is none =
      put_waits put.fault s.entered (next_stage s.entered s.idles) s.talk.about _ (next_waits s.entered s.idles s.talk.about _ (notes_none terms v notes none))
  polled_waits from _ is none = absurd is

  polling_waits : (from : ℕ) (outcome : Outcome Reply BookError) → IsAnsweredBy (request.Poll from) outcome → NoneWaits v
      → StageAwaits (after_news s outcome put).stage (after_news s outcome put).talk.about (told_by terms v Polling s.talk.about outcome)
  polling_waits from (Faulted cause) is none = end_waits s.entered (fault_end cause) s.talk.about v
  polling_waits from (Replied answer) is none = polled_waits from answer is none

call_waits : (terms : Terms) (s : LineState) (call : PoolCall) (put : Put) (stage : Stage) → Requests stage s call → IsAnswered call → StageAwaits stage s.pool.talk.about s.v1
    → StageAwaits (after_call stage s.pool call put).stage (after_call stage s.pool call put).talk.about (told_by terms s.v1 stage s.pool.talk.about call.outcome)
call_waits terms s call put (Asking asked) asks is waits =
    asking_waits terms s.pool put s.v1 call.front asked call.outcome (subst (λ a. IsAnsweredBy a call.outcome) asks is) waits
call_waits terms s call put (Committing brief) asks is waits = committed_waits call.outcome (booking_waits terms s.pool put s.v1 brief call.asked call.outcome asks is waits)
  where
    committed_waits : (outcome : Outcome Reply BookError) → StageAwaits (after_booking s.pool outcome put).stage s.pool.talk.about (told_by terms s.v1 (Committing brief) s.pool.talk.about outcome)
        → StageAwaits (after_booking s.pool outcome put).stage (after_booking s.pool outcome put).talk.about (told_by terms s.v1 (Committing brief) s.pool.talk.about outcome)
    committed_waits (Faulted cause) waits = waits
    committed_waits (Replied answer) waits = waits
call_waits terms s call put Polling asks is waits =
    polling_waits terms s.pool put s.v1 s.pool.cursor call.outcome (subst (λ a. IsAnsweredBy a call.outcome) asks is) waits
call_waits terms s call put (Leaving reason) asks is waits = tt
call_waits terms s call put Greeting asks is waits = absurd asks
call_waits terms s call put Reading asks is waits = absurd asks
call_waits terms s call put (Refusing code flags) asks is waits = absurd asks
call_waits terms s call put (Saying bytes) asks is waits = absurd asks
call_waits terms s call put (Over reason) asks is waits = absurd asks

entered_stands : (wish : LineRequest) (answer : Reply) (s : LineState) → Awaits wish.request wish.about s.v1 → Stands (entered_next wish answer s)
entered_stands wish (reply.PoolFull most) s waits = stands_at (entered_next wish (reply.PoolFull most) s) refl (end_waits s.pool.entered end.PoolFull s.pool.talk.about s.v1)
entered_stands wish answer s waits = stands_at (entered_next wish answer s) refl waits

entering_stands : (wish : LineRequest) (s : LineState) (front : ℕ) (outcome : Outcome Reply BookError) → Awaits wish.request wish.about s.v1
    → Stands (after_entering wish s front outcome)
entering_stands wish s front (Faulted cause) waits = stands_at (after_entering wish s front (Faulted cause)) refl (end_waits s.pool.entered (fault_end cause) s.pool.talk.about s.v1)
entering_stands wish s front (Replied answer) waits = entered_stands wish answer (record s { pool = hears s.pool front answer }) waits

called_stands : (worker : ℕ) (terms : Terms) (s : LineState) (call : PoolCall) (put : Put) (next : Option LineRequest) → s.next ≡ next → CanCall worker terms s call put → IsAnswered call
    → Stands s → Stands (after_called terms next s call put)
called_stands worker terms s call put (Some wish) there can is stands =
    entering_stands wish s call.front call.outcome (subst (λ n. WaitsWith n s.pool.stage s.pool.talk.about s.v1) there stands.waits)
called_stands worker terms s call put None there can is stands =
    stands_at (after_called terms None s call put) there
    (subst (λ v. StageAwaits (after_call s.pool.stage s.pool call put).stage (after_call s.pool.stage s.pool call put).talk.about v) (told_same terms s call.outcome)
    (call_waits terms s call put s.pool.stage can.requests is (subst (λ n. WaitsWith n s.pool.stage s.pool.talk.about s.v1) there stands.waits)))

-- ---- a step

-- between lines no request waits
none_between : (s : LineState) → s.pool.stage ≡ Reading → Stands s → NoneWaits s.v1
none_between s reading stands =
    reading_waits s.next s.pool.stage s.pool.talk.about s.v1 reading (none_reading s.next s.pool.stage reading stands.only) stands.waits

ended_stands : (s t : LineState) (reason : SessionEnd) → s.pool.stage ≡ Reading → Stands s → t.next ≡ s.next → t.pool.stage ≡ end_stage s.pool.entered reason → Stands t
ended_stands s t reason reading stands same is =
    stands_at t (same ∙ none_reading s.next s.pool.stage reading stands.only)
    (subst (λ stage. StageAwaits stage t.pool.talk.about t.v1) (sym is) (end_waits s.pool.entered reason t.pool.talk.about t.v1))

abbrev IsAnsweredStep : LineStep → Type 0
IsAnsweredStep (Called call put) = IsAnswered call
IsAnsweredStep _ = Unit {0}

step_stands : (worker : ℕ) (terms : Terms) (s : LineState) (x : LineStep) → CanStep worker terms s x → IsAnsweredStep x → Stands s → Stands (after_step terms s x)
step_stands worker terms s (Took bytes) can is stands = record { only = stands.only; waits = stands.waits }
step_stands worker terms s (Heard line rest wish put) can is stands =
    let next = none_reading s.next s.pool.stage can.reading stands.only in
    let r = line_reaction terms s.v1 line in
    let t : LineState = record s { pool = record s.pool { unmet = rest }; v1 = r.after } in
    unless_stands put.fault t (sends wish t) next
    (sent_stands r.asks r.after.channel wish t refl next can.reading can.asks (line_awaits terms s.v1 line (none_between s can.reading stands)))
step_stands worker terms s Overran can is stands = ended_stands s _ end.LineTooLong can.reading stands refl refl
step_stands worker terms s Idled can is stands =
    stands_at (after_step terms s Idled) (none_reading s.next s.pool.stage can.waiting.reading stands.only)
    (news_waits s.pool.entered (s.pool.idles - 1) s.pool.talk.about s.v1 (none_between s can.waiting.reading stands))
step_stands worker terms s Ended can is stands = ended_stands s _ (input_end s.pool.unmet) can.waiting.reading stands refl refl
step_stands worker terms s Missed can is stands = ended_stands s _ end.ReadFault can.waiting.reading stands refl refl
step_stands worker terms s Starved can is stands = ended_stands s _ end.Memory can stands refl refl
step_stands worker terms s Spent can is stands = ended_stands s _ end.BytesOut can.0.reading stands refl refl
step_stands worker terms s (Called call put) can is stands = called_stands worker terms s call put s.next refl can is stands

-- a step adds its own call to those behind it
split_calls : (x : LineStep) (xs : List LineStep) → AllByRecursion IsAnswered (calls_of (x ∷ xs)) → IsAnsweredStep x × AllByRecursion IsAnswered (calls_of xs)
split_calls (Called call put) xs all = all
split_calls (Took bytes) xs all = (tt, all)
split_calls (Heard line rest wish put) xs all = (tt, all)
split_calls Overran xs all = (tt, all)
split_calls Idled xs all = (tt, all)
split_calls Ended xs all = (tt, all)
split_calls Missed xs all = (tt, all)
split_calls Starved xs all = (tt, all)
split_calls Spent xs all = (tt, all)

stands_from : (worker : ℕ) (terms : Terms) (s t : LineState) (steps : List LineStep) → Follows worker terms s steps t → AllByRecursion IsAnswered (calls_of steps) → Stands s → Stands t
stands_from worker terms s t [] follows all stands = subst Stands (sym follows) stands
stands_from worker terms s t (x ∷ xs) follows all stands =
    let split = split_calls x xs all in
    stands_from worker terms (after_step terms s x) t xs follows.1 split.1 (step_stands worker terms s x follows.0 split.0 stands)

-- ---- all that was heard

told_prompt : (terms : Terms) (past : List v1.Heard) (told : List v1.Told) → IsPrompt terms past → IsPrompt terms (reverse (map v1.Message told) ++ past)
told_prompt terms past [] prompt = prompt
told_prompt terms past (t ∷ told) prompt =
    subst (IsPrompt terms) (last_first (v1.Message t) (map v1.Message told) past) (told_prompt terms (v1.Message t ∷ past) told (tt, prompt))

reply_prompt : (terms : Terms) (past : List v1.Heard) (stage : Stage) (about : About) (answer : Reply) → IsPrompt terms past → IsPrompt terms (reverse (heard_of stage about answer) ++ past)
reply_prompt terms past (Asking (request.Name channel identity)) about answer prompt = (tt, prompt)
reply_prompt terms past (Leaving reason) about answer prompt = prompt
reply_prompt terms past _ about answer prompt = told_prompt terms past (told_in about answer) prompt

call_prompt : (terms : Terms) (past : List v1.Heard) (next : Option LineRequest) (s : LineState) (outcome : Outcome Reply BookError) → IsPrompt terms past
    → IsPrompt terms (reverse (heard_by_call next s outcome) ++ past)
call_prompt terms past (Some wish) s outcome prompt = prompt
call_prompt terms past None s (Faulted cause) prompt = prompt
call_prompt terms past None s (Replied answer) prompt = reply_prompt terms past s.pool.stage s.pool.talk.about answer prompt

step_prompt : (worker : ℕ) (terms : Terms) (past : List v1.Heard) (s : LineState) (x : LineStep) → s.v1 ≡ state_after terms past → CanStep worker terms s x → Stands s → IsPrompt terms past
    → IsPrompt terms (reverse (heard_in s x) ++ past)
step_prompt worker terms past s (Heard line rest wish put) same can stands prompt =
    let none = none_between s can.reading stands in
    ((ap (λ (v : V1State). v.subscriber) (sym same) ∙ none.subscriber, ap (λ (v : V1State). v.naming) (sym same) ∙ none.naming), prompt)
step_prompt worker terms past s (Called call put) same can stands prompt = call_prompt terms past s.next s call.outcome prompt
step_prompt worker terms past s (Took bytes) same can stands prompt = prompt
step_prompt worker terms past s Overran same can stands prompt = prompt
step_prompt worker terms past s Idled same can stands prompt = prompt
step_prompt worker terms past s Ended same can stands prompt = prompt
step_prompt worker terms past s Missed same can stands prompt = prompt
step_prompt worker terms past s Starved same can stands prompt = prompt
step_prompt worker terms past s Spent same can stands prompt = prompt

prompt_from : (worker : ℕ) (terms : Terms) (past : List v1.Heard) (s t : LineState) (steps : List LineStep) → s.v1 ≡ state_after terms past → Follows worker terms s steps t
    → AllByRecursion IsAnswered (calls_of steps) → Stands s → IsPrompt terms past → IsPrompt terms (reverse (all_heard terms s steps) ++ past)
prompt_from worker terms past s t [] same follows all stands prompt = prompt
prompt_from worker terms past s t (x ∷ xs) same follows all stands prompt =
    let split = split_calls x xs all in
    let hs = heard_in s x in
    let more = all_heard terms (after_step terms s x) xs in
    subst (IsPrompt terms) (sym (append_assoc (reverse more) (reverse hs) past) ∙ ap (λ l. l ++ past) (sym (reverse-append hs more)))
    (prompt_from worker terms (reverse hs ++ past) (after_step terms s x) t xs (step_v1 terms s x ∙ ap (λ v. v1_after terms v hs) same ∙ fold_is terms past hs) follows.1 split.1
    (step_stands worker terms s x follows.0 split.0 stands) (step_prompt worker terms past s x same follows.0 stands prompt))

-- a session that begins
begins : (manner : Manner) → Stands (new_line_state manner)
begins manner = record { only = tt; waits = record { subscriber = refl; naming = refl; waiting = refl } }

none_pending : (v : V1State) → NoneWaits v → pending_in v ≡ []
none_pending v none = rw (none.subscriber, none.naming, none.waiting) refl

pub requests_are_answered : RequestsAreAnswered
requests_are_answered worker terms manner steps last follows all reading test =
    let start = new_line_state manner in
    let hs = all_heard terms start steps in
    let stands = stands_from worker terms start last steps follows all (begins manner) in
    let prompt = subst (IsPrompt terms) (append-nil (reverse hs)) (prompt_from worker terms [] start last steps refl follows all (begins manner) tt) in
    let none : pending_in (state_after terms (reverse hs)) ≡ [] =
    ap pending_in (sym (sessions_are_folds worker terms manner steps last follows)) ∙ none_pending last.v1 (none_between last reading stands) in
    omega (arith, none_lost terms (reverse hs) test prompt, ap (how_many test) none)
