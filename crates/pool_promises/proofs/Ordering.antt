-- Behind a put that failed, and behind a call that is a fault, a session takes no turn and puts nothing.
use Rattle.std.proofs.Common.{◌≡◌, ℕ, Bool, true, false, Option, None, Some, List, [], ◌∷◌, ◌++◌, refl, ap, subst, sym, ◌∙◌}
use Rattle.pool_base.specs.Calls.{Faulted, Outcome, Replied}
use Rattle.pool_io.specs.declared.sink.SinkFailed.{SinkFailed}
use Rattle.pool_io.specs.declared.sink.SinkFailed.TheVariants as sink
use Rattle.pool_history.specs.declared.refusals.BookError.{BookError}
use Rattle.pool_history.specs.declared.replies.Reply.{Reply}
use Rattle.pool_history.specs.Calls.{PoolCall}
use Rattle.session_steps.specs.declared.ends.SessionEnd.{SessionEnd}
use Rattle.session_steps.specs.declared.ends.SessionEnd.TheVariants as end
use Rattle.session_steps.specs.States.{State, Stage, Asking, Committing, Greeting, Leaving, Over, Polling, Reading, Refusing, Saying, Put, answered_stage, end_stage, failed_end, fault_end, hears, news_stage, next_stage, new_state, nothing_put, put_stage}
use Rattle.session_steps.specs.Steps as frames
use Rattle.session_steps.specs.Steps.{CanCall, CanStarve, PutsAnswer, PutsHeard, Refuses, Says, SessionStep, after_asking, after_booking, after_call, after_news, bytes_in_steps, put_in, turns_in}
use Rattle.session_steps.specs.Talks.{Talk}
use Rattle.v1_translate.specs.State.{Terms}
use Rattle.v1_sessions.specs.Requests.{LineRequest}
use Rattle.v1_sessions.specs.States.{LineState, after_called, after_entering, new_line_state, unless_failed}
use Rattle.v1_sessions.specs.Steps as lines
use Rattle.v1_sessions.specs.Steps.{LineStep, PutsNoLeave, PutsTold, Requests, WaitsToEnter, bytes_of, put_of, turns_of}
use Rattle.pool_promises.specs.Order.{FramesStandInOrder, LinesStandInOrder}

-- ---- stages that end

abbrev pub IsEnding : Stage → Type 0
IsEnding (Leaving reason) = Unit {0}
IsEnding (Over reason) = Unit {0}
IsEnding _ = ⊥

pub ended_ending : (entered : Bool) (reason : SessionEnd) → IsEnding (end_stage entered reason)
ended_ending true reason = tt
ended_ending false reason = tt

put_ending : (failed : Option SinkFailed) (entered : Bool) (stage : Stage) (cause : SinkFailed) → failed ≡ Some cause → IsEnding (put_stage failed entered stage)
put_ending None entered stage cause is = absurd cc
put_ending (Some sink.Failed) entered stage cause is = ended_ending entered end.WriteFault
put_ending (Some sink.Memory) entered stage cause is = ended_ending entered end.Memory

-- what stage a session stands at, where it isn't at an end
reading_goes_on : (stage : Stage) → IsEnding stage → stage ≡ Reading → ⊥
reading_goes_on stage ending is = subst IsEnding is ending

-- ---- calls

-- a stage at which a session calls
abbrev MayCall : Stage → Type 0
MayCall (Asking asked) = Unit {0}
MayCall (Committing brief) = Unit {0}
MayCall Polling = Unit {0}
MayCall (Leaving reason) = Unit {0}
MayCall _ = ⊥

frames_may : (stage : Stage) (s : State) (call : PoolCall) (put : Put) → CanCall stage s call put → MayCall stage
frames_may (Asking asked) s call put can = tt
frames_may (Committing brief) s call put can = tt
frames_may Polling s call put can = tt
frames_may (Leaving reason) s call put can = tt
frames_may Greeting s call put can = absurd can
frames_may Reading s call put can = absurd can
frames_may (Refusing code flags) s call put can = absurd can
frames_may (Saying bytes) s call put can = absurd can
frames_may (Over reason) s call put can = absurd can

lines_may : (stage : Stage) (s : LineState) (call : PoolCall) → Requests stage s call → MayCall stage
lines_may (Asking asked) s call requests = tt
lines_may (Committing brief) s call requests = tt
lines_may Polling s call requests = tt
lines_may (Leaving reason) s call requests = tt
lines_may _ s call requests = absurd requests

-- a call of which the put failed, or that is a fault, ends the session
module _ (s : State) (call : PoolCall) (put : Put) where
  put_call_ends : (stage : Stage) → MayCall stage → (cause : SinkFailed) → put.fault ≡ Some cause → IsEnding (after_call stage s call put).stage
  put_call_ends (Asking asked) may cause is = asked_ends call.outcome where
    asked_ends : (outcome : Outcome Reply BookError) → IsEnding (after_asking s call.front outcome put).stage
    asked_ends (Faulted why) = ended_ending s.entered (fault_end why)
    asked_ends (Replied answer) =
        let h = hears s call.front answer in
        put_ending put.fault h.entered (answered_stage h.talk.about h.entered h.idles answer) cause is
  put_call_ends (Committing brief) may cause is = booked_ends call.outcome where
    booked_ends : (outcome : Outcome Reply BookError) → IsEnding (after_booking s outcome put).stage
    booked_ends (Faulted why) = ended_ending s.entered (fault_end why)
    booked_ends (Replied answer) = put_ending put.fault s.entered (news_stage s.entered s.idles) cause is
  put_call_ends Polling may cause is = told_ends call.outcome where
    told_ends : (outcome : Outcome Reply BookError) → IsEnding (after_news s outcome put).stage
    told_ends (Faulted why) = ended_ending s.entered (fault_end why)
    told_ends (Replied answer) = put_ending put.fault s.entered (next_stage s.entered s.idles) cause is
  put_call_ends (Leaving reason) may cause is = tt
  put_call_ends _ may cause is = absurd may

  fault_call_ends : (stage : Stage) → MayCall stage → (cause : BookError) → call.outcome ≡ Faulted cause → IsEnding (after_call stage s call put).stage
  fault_call_ends (Asking asked) may cause is =
      subst (λ o. IsEnding (after_asking s call.front o put).stage) (sym is) (ended_ending s.entered (fault_end cause))
  fault_call_ends (Committing brief) may cause is =
      subst (λ o. IsEnding (after_booking s o put).stage) (sym is) (ended_ending s.entered (fault_end cause))
  fault_call_ends Polling may cause is =
      subst (λ o. IsEnding (after_news s o put).stage) (sym is) (ended_ending s.entered (fault_end cause))
  fault_call_ends (Leaving reason) may cause is = tt
  fault_call_ends _ may cause is = absurd may

-- nothing is put of a fault
faulted_heard : (talk : Talk) (outcome : Outcome Reply BookError) (put : Put) (cause : BookError) → outcome ≡ Faulted cause → PutsHeard talk outcome put → put ≡ nothing_put
faulted_heard talk (Faulted why) put cause is puts = puts
faulted_heard talk (Replied answer) put cause is puts = absurd cc

faulted_answer : (talk : Talk) (outcome : Outcome Reply BookError) (put : Put) (cause : BookError) → outcome ≡ Faulted cause → PutsAnswer talk outcome put → put ≡ nothing_put
faulted_answer talk (Faulted why) put cause is puts = puts
faulted_answer talk (Replied answer) put cause is puts = absurd cc

fault_puts_nothing : (stage : Stage) (s : State) (call : PoolCall) (put : Put) (cause : BookError) → CanCall stage s call put → call.outcome ≡ Faulted cause → put ≡ nothing_put
fault_puts_nothing (Asking asked) s call put cause can is = faulted_heard s.talk call.outcome put cause is can.1
fault_puts_nothing (Committing brief) s call put cause can is = faulted_answer s.talk call.outcome put cause is can.1
fault_puts_nothing Polling s call put cause can is = faulted_answer s.talk call.outcome put cause is can.1
fault_puts_nothing (Leaving reason) s call put cause can is = can.1
fault_puts_nothing Greeting s call put cause can is = absurd can
fault_puts_nothing Reading s call put cause can is = absurd can
fault_puts_nothing (Refusing code flags) s call put cause can is = absurd can
fault_puts_nothing (Saying bytes) s call put cause can is = absurd can
fault_puts_nothing (Over reason) s call put cause can is = absurd can

-- ---- sessions of frames

abbrev FramesAreSilent : List SessionStep → Type 0
FramesAreSilent steps = (turns_in steps ≡ []) × (bytes_in_steps steps ≡ [])

ends_refused : (stage : Stage) (put : Put) → IsEnding stage → Refuses stage put → ⊥
ends_refused (Leaving reason) put ending refuses = refuses
ends_refused (Over reason) put ending refuses = refuses
ends_refused _ put ending refuses = ending

ends_said : (stage : Stage) (put : Put) → IsEnding stage → Says stage put → ⊥
ends_said (Leaving reason) put ending says = says
ends_said (Over reason) put ending says = says
ends_said _ put ending says = ending

ends_starved : (stage : Stage) → IsEnding stage → CanStarve stage → ⊥
ends_starved (Leaving reason) ending starves = starves
ends_starved (Over reason) ending starves = starves
ends_starved _ ending starves = ending

-- the one step of a session that ends is its Leave
abbrev pub IsLeave : SessionStep → Type 0
IsLeave (frames.Called call put) = put ≡ nothing_put
IsLeave _ = ⊥

leave_ends : (stage : Stage) (s : State) (call : PoolCall) (put : Put) → IsEnding stage → CanCall stage s call put
    → (put ≡ nothing_put) × IsEnding (after_call stage s call put).stage
leave_ends (Leaving reason) s call put ending can = (can.1, tt)
leave_ends (Over reason) s call put ending can = absurd can
leave_ends _ s call put ending can = absurd ending

pub ending_step : (worker : ℕ) (s : State) (x : SessionStep) → IsEnding s.stage → frames.CanStep worker s x → IsLeave x × IsEnding (frames.after_step s x).stage
ending_step worker s (frames.Called call put) ending can = leave_ends s.stage s call put ending can.1
ending_step worker s (frames.Greeted put) ending can = absurd (subst IsEnding can.0 ending)
ending_step worker s (frames.Took bytes) ending can = absurd (reading_goes_on s.stage ending can.can.waiting.reading)
ending_step worker s (frames.Framed met) ending can = absurd (reading_goes_on s.stage ending can.reading)
ending_step worker s (frames.Refused put) ending can = absurd (ends_refused s.stage put ending can)
ending_step worker s (frames.Said put) ending can = absurd (ends_said s.stage put ending can)
ending_step worker s (frames.Overran len) ending can = absurd (reading_goes_on s.stage ending can.reading)
ending_step worker s frames.Idled ending can = absurd (reading_goes_on s.stage ending can.waiting.reading)
ending_step worker s frames.Ended ending can = absurd (reading_goes_on s.stage ending can.waiting.reading)
ending_step worker s frames.Missed ending can = absurd (reading_goes_on s.stage ending can.waiting.reading)
ending_step worker s frames.Starved ending can = absurd (ends_starved s.stage ending can)
ending_step worker s frames.Spent ending can = absurd (reading_goes_on s.stage ending can.0.reading)

leave_silent : (x : SessionStep) (xs : List SessionStep) → IsLeave x → FramesAreSilent xs → FramesAreSilent (x ∷ xs)
leave_silent (frames.Called call put) xs leaves silent = (silent.0, ap (λ (p : Put). p.bytes ++ bytes_in_steps xs) leaves ∙ silent.1)
leave_silent _ xs leaves silent = absurd leaves

frames_silent : (worker : ℕ) (s t : State) (xs : List SessionStep) → IsEnding s.stage → frames.Follows worker s xs t → FramesAreSilent xs
frames_silent worker s t [] ending follows = (refl, refl)
frames_silent worker s t (x ∷ xs) ending follows =
    let step = ending_step worker s x ending follows.0 in
    leave_silent x xs step.0 (frames_silent worker (frames.after_step s x) t xs step.1 follows.1)

put_step_ends : (worker : ℕ) (s : State) (x : SessionStep) (cause : SinkFailed) → frames.CanStep worker s x → (put_in x).fault ≡ Some cause
    → IsEnding (frames.after_step s x).stage
put_step_ends worker s (frames.Called call put) cause can is = put_call_ends s call put s.stage (frames_may s.stage s call put can.1) cause is
put_step_ends worker s (frames.Greeted put) cause can is = put_ending put.fault s.entered Reading cause is
put_step_ends worker s (frames.Refused put) cause can is = put_ending put.fault s.entered (end_stage s.entered end.BadSetup) cause is
put_step_ends worker s (frames.Said put) cause can is = put_ending put.fault s.entered Reading cause is
put_step_ends worker s _ cause can is = absurd cc

-- a state at which these steps come
record FramesCome (worker : ℕ) (xs : List SessionStep) (t : State) : Type 0 where
  s : State
  follows : frames.Follows worker s xs t

frames_come : (worker : ℕ) (s t : State) (front xs : List SessionStep) → frames.Follows worker s (front ++ xs) t → FramesCome worker xs t
frames_come worker s t [] xs follows = record { s = s; follows = follows }
frames_come worker s t (x ∷ front) xs follows = frames_come worker (frames.after_step s x) t front xs follows.1

pub frames_in_order : FramesStandInOrder
frames_in_order worker manner steps last follows = record {
  put = λ front back x cause parts is.
      (let comes = frames_come worker (new_state manner) last front (x ∷ back) (subst (λ l. frames.Follows worker (new_state manner) l last) parts follows) in
      frames_silent worker (frames.after_step comes.s x) last back (put_step_ends worker comes.s x cause comes.follows.0 is) comes.follows.1);
  kept = λ front back call put cause parts is.
      (let comes = frames_come worker (new_state manner) last front (frames.Called call put ∷ back) (subst (λ l. frames.Follows worker (new_state manner) l last) parts follows) in
      let silent = frames_silent worker (frames.after_step comes.s (frames.Called call put)) last back
      (fault_call_ends comes.s call put comes.s.stage (frames_may comes.s.stage comes.s call put comes.follows.0.1) cause is) comes.follows.1 in
      (fault_puts_nothing comes.s.stage comes.s call put cause comes.follows.0.1 is, silent.0, silent.1));
}

-- ---- sessions of lines

abbrev LinesAreSilent : List LineStep → Type 0
LinesAreSilent steps = (turns_of steps ≡ []) × (bytes_of steps ≡ [])

-- who ends waits for no answer to enter
ends_waiting : (next : Option LineRequest) (stage : Stage) → IsEnding stage → WaitsToEnter next stage → next ≡ None
ends_waiting None stage ending waits = refl
ends_waiting (Some wish) (Asking asked) ending waits = absurd ending
ends_waiting (Some wish) _ ending waits = absurd waits

line_leave_ends : (stage : Stage) (s : LineState) (call : PoolCall) (put : Put) → IsEnding stage → Requests stage s call → PutsNoLeave stage put
    → (put ≡ nothing_put) × IsEnding (after_call stage s.pool call put).stage
line_leave_ends (Leaving reason) s call put ending requests leaves = (leaves, tt)
line_leave_ends (Over reason) s call put ending requests leaves = absurd requests
line_leave_ends _ s call put ending requests leaves = absurd ending

abbrev IsLineLeave : LineStep → Type 0
IsLineLeave (lines.Called call put) = put ≡ nothing_put
IsLineLeave _ = ⊥

line_ending_step : (worker : ℕ) (terms : Terms) (s : LineState) (x : LineStep) → IsEnding s.pool.stage → lines.CanStep worker terms s x
    → IsLineLeave x × IsEnding (lines.after_step terms s x).pool.stage
line_ending_step worker terms s (lines.Called call put) ending can =
    let none : s.next ≡ None = ends_waiting s.next s.pool.stage ending can.waits in
    let leaves = line_leave_ends s.pool.stage s call put ending can.requests can.leaves in
    (leaves.0, subst (λ n. IsEnding (after_called terms n s call put).pool.stage) (sym none) leaves.1)
line_ending_step worker terms s (lines.Took bytes) ending can = absurd (reading_goes_on s.pool.stage ending can.can.waiting.reading)
line_ending_step worker terms s (lines.Heard line rest wish put) ending can = absurd (reading_goes_on s.pool.stage ending can.reading)
line_ending_step worker terms s lines.Overran ending can = absurd (reading_goes_on s.pool.stage ending can.reading)
line_ending_step worker terms s lines.Idled ending can = absurd (reading_goes_on s.pool.stage ending can.waiting.reading)
line_ending_step worker terms s lines.Ended ending can = absurd (reading_goes_on s.pool.stage ending can.waiting.reading)
line_ending_step worker terms s lines.Missed ending can = absurd (reading_goes_on s.pool.stage ending can.waiting.reading)
line_ending_step worker terms s lines.Starved ending can = absurd (reading_goes_on s.pool.stage ending can)
line_ending_step worker terms s lines.Spent ending can = absurd (reading_goes_on s.pool.stage ending can.0.reading)

line_leave_silent : (x : LineStep) (xs : List LineStep) → IsLineLeave x → LinesAreSilent xs → LinesAreSilent (x ∷ xs)
line_leave_silent (lines.Called call put) xs leaves silent = (silent.0, ap (λ (p : Put). p.bytes ++ bytes_of xs) leaves ∙ silent.1)
line_leave_silent _ xs leaves silent = absurd leaves

lines_silent : (worker : ℕ) (terms : Terms) (s t : LineState) (xs : List LineStep) → IsEnding s.pool.stage → lines.Follows worker terms s xs t → LinesAreSilent xs
lines_silent worker terms s t [] ending follows = (refl, refl)
lines_silent worker terms s t (x ∷ xs) ending follows =
    let step = line_ending_step worker terms s x ending follows.0 in
    line_leave_silent x xs step.0 (lines_silent worker terms (lines.after_step terms s x) t xs step.1 follows.1)

-- a put of an answer that a request waited for is none
told_waits : (terms : Terms) (next : Option LineRequest) (s : LineState) (call : PoolCall) (put : Put) (cause : SinkFailed) → PutsTold terms next s call.outcome put
    → put.fault ≡ Some cause → next ≡ None
told_waits terms None s call put cause puts is = refl
told_waits terms (Some wish) s call put cause puts is = let no : None ≡ Some cause = sym (ap (λ (p : Put). p.fault) puts) ∙ is in absurd cc

heard_put_ends : (t u : LineState) (failed : Option SinkFailed) (cause : SinkFailed) → failed ≡ Some cause
    → IsEnding (unless_failed failed t u).pool.stage
heard_put_ends t u None cause is = absurd cc
heard_put_ends t u (Some why) cause is = ended_ending t.pool.entered (failed_end why)

put_line_ends : (worker : ℕ) (terms : Terms) (s : LineState) (x : LineStep) (cause : SinkFailed) → lines.CanStep worker terms s x → (put_of x).fault ≡ Some cause
    → IsEnding (lines.after_step terms s x).pool.stage
put_line_ends worker terms s (lines.Called call put) cause can is =
    subst (λ n. IsEnding (after_called terms n s call put).pool.stage) (sym (told_waits terms s.next s call put cause can.puts is))
    (put_call_ends s.pool call put s.pool.stage (lines_may s.pool.stage s call can.requests) cause is)
put_line_ends worker terms s (lines.Heard line rest wish put) cause can is = heard_put_ends _ _ put.fault cause is
put_line_ends worker terms s _ cause can is = absurd cc

faulted_told : (terms : Terms) (next : Option LineRequest) (s : LineState) (outcome : Outcome Reply BookError) (put : Put) (cause : BookError) → outcome ≡ Faulted cause
    → PutsTold terms next s outcome put → put ≡ nothing_put
faulted_told terms (Some wish) s outcome put cause is puts = puts
faulted_told terms None s (Faulted why) put cause is puts = puts
faulted_told terms None s (Replied answer) put cause is puts = absurd cc

fault_line_ends : (terms : Terms) (s : LineState) (call : PoolCall) (put : Put) (cause : BookError) → MayCall s.pool.stage → (next : Option LineRequest) → call.outcome ≡ Faulted cause
    → IsEnding (after_called terms next s call put).pool.stage
fault_line_ends terms s call put cause may (Some wish) is =
    subst (λ o. IsEnding (after_entering wish s call.front o).pool.stage) (sym is) (ended_ending s.pool.entered (fault_end cause))
fault_line_ends terms s call put cause may None is = fault_call_ends s.pool call put s.pool.stage may cause is

record LinesCome (worker : ℕ) (terms : Terms) (xs : List LineStep) (t : LineState) : Type 0 where
  s : LineState
  follows : lines.Follows worker terms s xs t

lines_come : (worker : ℕ) (terms : Terms) (s t : LineState) (front xs : List LineStep) → lines.Follows worker terms s (front ++ xs) t → LinesCome worker terms xs t
lines_come worker terms s t [] xs follows = record { s = s; follows = follows }
lines_come worker terms s t (x ∷ front) xs follows = lines_come worker terms (lines.after_step terms s x) t front xs follows.1

pub lines_in_order : LinesStandInOrder
lines_in_order worker terms manner steps last follows = record {
  put = λ front back x cause parts is.
      (let comes = lines_come worker terms (new_line_state manner) last front (x ∷ back) (subst (λ l. lines.Follows worker terms (new_line_state manner) l last) parts follows) in
      lines_silent worker terms (lines.after_step terms comes.s x) last back (put_line_ends worker terms comes.s x cause comes.follows.0 is) comes.follows.1);
  kept = λ front back call put cause parts is.
      (let comes = lines_come worker terms (new_line_state manner) last front (lines.Called call put ∷ back) (subst (λ l. lines.Follows worker terms (new_line_state manner) l last) parts follows) in
      let silent = lines_silent worker terms (lines.after_step terms comes.s (lines.Called call put)) last back
      (fault_line_ends terms comes.s call put cause (lines_may comes.s.pool.stage comes.s call comes.follows.0.requests) comes.s.next is) comes.follows.1 in
      (faulted_told terms comes.s.next comes.s call.outcome put cause is comes.follows.0.puts, silent.0, silent.1));
}
