-- A count of faults rose exactly where the end says so.
use Rattle.std.proofs.Common.{◌≡◌, ℕ, ◌-◌, Bool, true, false, List, [], ◌∷◌, Option, None, Some, refl, sym, ap, ◌∙◌, suc, zero}
use Rattle.std.proofs.Math.Dec.{eqb-suc-zero}
use Rattle.std.specs.Prelude.{if◌then◌else◌}
use Rattle.pool_base.specs.Calls.{Outcome, Replied, Faulted}
use Rattle.pool_io.specs.declared.sink.SinkFailed.{SinkFailed}
use Rattle.pool_io.specs.declared.sink.SinkFailed.TheVariants as sink
use Rattle.pool_io.specs.Outside.{CountsFailure, next_count}
use Rattle.pool_network.specs.Seen.{LinkSeen}
use Rattle.pool_history.specs.declared.refusals.BookError.{BookError}
use Rattle.pool_history.specs.declared.refusals.BookError.TheVariants as fault
use Rattle.pool_history.specs.declared.replies.Reply.{Reply}
use Rattle.pool_history.specs.declared.replies.Reply.TheVariants as reply
use Rattle.pool_history.specs.Calls.{PoolCall}
use Rattle.pool_history.specs.Headers.{Briefing}
use Rattle.session_steps.specs.declared.manner.Manner.{Manner}
use Rattle.session_steps.specs.declared.about.About.{About}
use Rattle.session_steps.specs.declared.about.About.TheVariants as topic
use Rattle.session_steps.specs.declared.ends.SessionEnd.{SessionEnd}
use Rattle.session_steps.specs.declared.ends.SessionEnd.TheVariants as end
use Rattle.session_steps.specs.declared.meeting.Step.{Step}
use Rattle.session_steps.specs.declared.meeting.Step.TheVariants as step
use Rattle.session_steps.specs.States as states
use Rattle.session_steps.specs.States.{State, Stage, Asking, Committing, Greeting, Leaving, Over, Polling, Reading, Refusing, Saying, Put, answered_stage, briefed_stage, end_stage, end_after_fault, fault_end, input_end, new_state, news_stage, next_stage, nothing_put, put_stage}
use Rattle.session_steps.specs.Steps as steps
use Rattle.session_steps.specs.Talks.{Talk}
use Rattle.session_steps.specs.Steps.{CanCall, CanStarve, CanStep, Follows, PutsAnswer, PutsHeard, Refuses, Says, SessionStep, after_asking, after_booking, after_call, after_news, after_step, end_after, met_stage, put_in, reads_after, reads_after_step, writes_after, writes_after_put}
use Rattle.v2_sessions.specs.Causes.{is_read_end, is_write_end}
use Rattle.v2_sessions.specs.Sessions.{IsSession}

-- which fault an end or a stage says: a failed take, a failed put, or neither
pub data Blame : Type 0 where
  Take : Blame
  Place : Blame
  Neither : Blame

abbrev pub blame_of : SessionEnd → Blame
blame_of end.ReadFault = Take
blame_of end.WriteFault = Place
blame_of _ = Neither

abbrev pub blame_at : Stage → Blame
blame_at (Leaving reason) = blame_of reason
blame_at (Over reason) = blame_of reason
blame_at _ = Neither

abbrev pub blame_put : Option SinkFailed → Blame → Blame
blame_put None was = was
blame_put (Some sink.Failed) was = Place
blame_put (Some sink.Memory) was = Neither

-- what a step says of it
abbrev blame_after : SessionStep → Blame → Blame
blame_after steps.Missed was = Take
blame_after x was = blame_put (put_in x).fault was

pub blame_end : (entered : Bool) (reason : SessionEnd) → blame_at (end_stage entered reason) ≡ blame_of reason
blame_end true reason = refl
blame_end false reason = refl

pub blame_next : (entered : Bool) (idles : ℕ) → blame_at (next_stage entered idles) ≡ Neither
blame_next entered zero = blame_end entered end.IdleOut
blame_next entered (suc n) = ap (λ b. blame_at (if b then end_stage entered end.IdleOut else Reading)) (eqb-suc-zero n)

pub blame_news : (entered : Bool) (idles : ℕ) → blame_at (news_stage entered idles) ≡ Neither
blame_news true idles = refl
blame_news false idles = blame_next false idles

pub blame_putting : (fault : Option SinkFailed) (entered : Bool) (stage : Stage) → blame_at stage ≡ Neither → blame_at (put_stage fault entered stage) ≡ blame_put fault Neither
blame_putting None entered stage none = none
blame_putting (Some sink.Failed) entered stage none = blame_end entered end.WriteFault
blame_putting (Some sink.Memory) entered stage none = blame_end entered end.Memory

pub blame_fault : (cause : BookError) → blame_of (fault_end cause) ≡ Neither
blame_fault fault.KeeperFault = refl
blame_fault fault.Memory = refl

pub blame_left : (reason : SessionEnd) (outcome : Outcome Reply BookError) → blame_of (end_after reason outcome) ≡ blame_of reason
blame_left reason (Replied answer) = refl
blame_left end.Done (Faulted cause) = blame_fault cause
blame_left (end.CutFrame count) (Faulted cause) = refl
blame_left (end.TooLong len) (Faulted cause) = refl
blame_left end.BadSetup (Faulted cause) = refl
blame_left (end.BadMessage kind) (Faulted cause) = refl
blame_left end.LineTooLong (Faulted cause) = refl
blame_left end.IdleOut (Faulted cause) = refl
blame_left end.BytesOut (Faulted cause) = refl
blame_left end.PoolFull (Faulted cause) = refl
blame_left end.ReadFault (Faulted cause) = refl
blame_left end.WriteFault (Faulted cause) = refl
blame_left end.LedgerFault (Faulted cause) = refl
blame_left end.Memory (Faulted cause) = refl

blame_briefed : (about : About) (brief : Briefing) (stage : Stage) → blame_at stage ≡ Neither → blame_at (briefed_stage about brief stage) ≡ Neither
blame_briefed (topic.Share sub) brief stage none = refl
blame_briefed topic.Nothing brief stage none = none
blame_briefed (topic.Opening request_id kind) brief stage none = none
blame_briefed (topic.Channel channel) brief stage none = none
blame_briefed (topic.Token request_id) brief stage none = none
blame_briefed (topic.OwnJob channel request_id) brief stage none = none
blame_briefed (topic.Declared request_id) brief stage none = none

pub blame_answered : (about : About) (entered : Bool) (idles : ℕ) (answer : Reply) → blame_at (answered_stage about entered idles answer) ≡ Neither
blame_answered about entered idles (reply.PoolFull most) = blame_end entered end.PoolFull
blame_answered about entered idles (reply.Brief brief) = blame_briefed about brief (news_stage entered idles) (blame_news entered idles)
blame_answered about entered idles _ = blame_news entered idles

-- a fault is answered by nothing
pub none_put : (put : Put) → put ≡ nothing_put → blame_put put.fault Neither ≡ Neither
none_put put none = rw none refl

abbrev pub SaysNoFault : Outcome Reply BookError → Put → Type 0
SaysNoFault (Replied answer) put = Unit {0}
SaysNoFault (Faulted cause) put = put ≡ nothing_put

answer_no_fault : (talk : Talk) (outcome : Outcome Reply BookError) (put : Put) → PutsAnswer talk outcome put → SaysNoFault outcome put
answer_no_fault talk (Replied answer) put puts = tt
answer_no_fault talk (Faulted cause) put puts = puts

heard_no_fault : (talk : Talk) (outcome : Outcome Reply BookError) (put : Put) → PutsHeard talk outcome put → SaysNoFault outcome put
heard_no_fault talk (Replied answer) put puts = tt
heard_no_fault talk (Faulted cause) put puts = puts

pub blame_asking : (s : State) (front : ℕ) (outcome : Outcome Reply BookError) (put : Put) → SaysNoFault outcome put → blame_at (after_asking s front outcome put).stage ≡ blame_put put.fault Neither
blame_asking s front (Faulted cause) put puts = blame_end s.entered (fault_end cause) ∙ blame_fault cause ∙ sym (none_put put puts)
blame_asking s front (Replied answer) put puts =
    let h = states.hears s front answer in
    blame_putting put.fault h.entered (answered_stage h.talk.about h.entered h.idles answer) (blame_answered h.talk.about h.entered h.idles answer)

pub blame_booking : (s : State) (outcome : Outcome Reply BookError) (put : Put) → SaysNoFault outcome put → blame_at (after_booking s outcome put).stage ≡ blame_put put.fault Neither
blame_booking s (Faulted cause) put puts = blame_end s.entered (fault_end cause) ∙ blame_fault cause ∙ sym (none_put put puts)
blame_booking s (Replied answer) put puts = blame_putting put.fault s.entered (news_stage s.entered s.idles) (blame_news s.entered s.idles)

pub blame_told : (s : State) (outcome : Outcome Reply BookError) (put : Put) → SaysNoFault outcome put → blame_at (after_news s outcome put).stage ≡ blame_put put.fault Neither
blame_told s (Faulted cause) put puts = blame_end s.entered (fault_end cause) ∙ blame_fault cause ∙ sym (none_put put puts)
blame_told s (Replied answer) put puts = blame_putting put.fault s.entered (next_stage s.entered s.idles) (blame_next s.entered s.idles)

blame_call : (stage : Stage) (s : State) (call : PoolCall) (put : Put) → CanCall stage s call put → blame_at (after_call stage s call put).stage ≡ blame_put put.fault (blame_at stage)
blame_call (Asking asked) s call put can = blame_asking s call.front call.outcome put (heard_no_fault s.talk call.outcome put can.1)
blame_call (Committing brief) s call put can = blame_booking s call.outcome put (answer_no_fault s.talk call.outcome put can.1)
blame_call Polling s call put can = blame_told s call.outcome put (answer_no_fault s.talk call.outcome put can.1)
blame_call (Leaving reason) s call put can = blame_left reason call.outcome ∙ sym (ap (λ p. blame_put p.fault (blame_of reason)) can.1)
blame_call Greeting s call put can = absurd can
blame_call Reading s call put can = absurd can
blame_call (Refusing code flags) s call put can = absurd can
blame_call (Saying bytes) s call put can = absurd can
blame_call (Over reason) s call put can = absurd can

blame_met : (entered : Bool) (made : Step) → blame_at (met_stage entered made) ≡ Neither
blame_met entered step.Ignore = refl
blame_met entered (step.Ask asked) = refl
blame_met entered (step.RefuseSetup code flags) = refl
blame_met entered (step.Say bytes) = refl
blame_met entered step.BadSetup = blame_end entered end.BadSetup
blame_met entered (step.BadMessage kind) = blame_end entered (end.BadMessage kind)

pub blame_input : (unmet : List ℕ) → blame_of (input_end unmet) ≡ Neither
blame_input [] = refl
blame_input (byte ∷ bytes) = refl

pub reading_blame : (stage : Stage) → stage ≡ Reading → Neither ≡ blame_at stage
reading_blame stage is = ap blame_at (sym is)

starving_blame : (stage : Stage) → CanStarve stage → Neither ≡ blame_at stage
starving_blame Greeting can = refl
starving_blame Reading can = refl
starving_blame (Refusing code flags) can = absurd can
starving_blame (Saying bytes) can = absurd can
starving_blame (Asking asked) can = absurd can
starving_blame (Committing brief) can = absurd can
starving_blame Polling can = absurd can
starving_blame (Leaving reason) can = absurd can
starving_blame (Over reason) can = absurd can

refusing_blame : (stage : Stage) (put : Put) → Refuses stage put → Neither ≡ blame_at stage
refusing_blame (Refusing code flags) put refuses = refl
refusing_blame (Saying bytes) put refuses = absurd refuses
refusing_blame Greeting put refuses = absurd refuses
refusing_blame Reading put refuses = absurd refuses
refusing_blame (Asking asked) put refuses = absurd refuses
refusing_blame (Committing brief) put refuses = absurd refuses
refusing_blame Polling put refuses = absurd refuses
refusing_blame (Leaving reason) put refuses = absurd refuses
refusing_blame (Over reason) put refuses = absurd refuses

saying_blame : (stage : Stage) (put : Put) → Says stage put → Neither ≡ blame_at stage
saying_blame (Saying bytes) put says = refl
saying_blame (Refusing code flags) put says = absurd says
saying_blame Greeting put says = absurd says
saying_blame Reading put says = absurd says
saying_blame (Asking asked) put says = absurd says
saying_blame (Committing brief) put says = absurd says
saying_blame Polling put says = absurd says
saying_blame (Leaving reason) put says = absurd says
saying_blame (Over reason) put says = absurd says

-- what a step leads to is blamed by the step alone, and else as before
blame_step : (worker : ℕ) (s : State) (x : SessionStep) → CanStep worker s x → blame_at (after_step s x).stage ≡ blame_after x (blame_at s.stage)
blame_step worker s (steps.Greeted put) can = blame_putting put.fault s.entered Reading refl ∙ ap (blame_put put.fault) (ap blame_at (sym can.0))
blame_step worker s (steps.Took bytes) can = refl
blame_step worker s (steps.Framed met) can = blame_met s.entered met.step ∙ reading_blame s.stage can.reading
blame_step worker s (steps.Refused put) can =
    blame_putting put.fault s.entered (end_stage s.entered end.BadSetup) (blame_end s.entered end.BadSetup) ∙ ap (blame_put put.fault) (refusing_blame s.stage put can)
blame_step worker s (steps.Said put) can = blame_putting put.fault s.entered Reading refl ∙ ap (blame_put put.fault) (saying_blame s.stage put can)
blame_step worker s (steps.Overran len) can = blame_end s.entered (end.TooLong len) ∙ reading_blame s.stage can.reading
blame_step worker s steps.Idled can = blame_news s.entered (s.idles - 1) ∙ reading_blame s.stage can.waiting.reading
blame_step worker s steps.Ended can = blame_end s.entered (input_end s.unmet) ∙ blame_input s.unmet ∙ reading_blame s.stage can.waiting.reading
blame_step worker s steps.Missed can = blame_end s.entered end.ReadFault
blame_step worker s steps.Starved can = blame_end s.entered end.Memory ∙ starving_blame s.stage can
blame_step worker s steps.Spent can = blame_end s.entered end.BytesOut ∙ reading_blame s.stage can.0.reading
blame_step worker s (steps.Called call put) can = blame_call s.stage s call put can.1

-- the counts, by what was there before and by what is blamed
abbrev pub reads_by : ℕ → Blame → ℕ
reads_by before Take = next_count before
reads_by before Place = before
reads_by before Neither = before

abbrev pub writes_by : ℕ → Blame → ℕ
writes_by before Take = before
writes_by before Place = next_count before
writes_by before Neither = before

module _ (n : ℕ) where
  pub reads_put : (fault : Option SinkFailed) → n ≡ reads_by n (blame_put fault Neither)
  reads_put None = refl
  reads_put (Some sink.Failed) = refl
  reads_put (Some sink.Memory) = refl

  pub writes_put : (fault : Option SinkFailed) → writes_after_put n fault ≡ writes_by n (blame_put fault Neither)
  writes_put None = refl
  writes_put (Some sink.Failed) = refl
  writes_put (Some sink.Memory) = refl

  -- a stage that blames nothing yet
  pub reads_at : (stage : Stage) (fault : Option SinkFailed) → Neither ≡ blame_at stage → reads_by n (blame_at stage) ≡ reads_by n (blame_put fault (blame_at stage))
  reads_at stage fault none = rw (← none) (reads_put fault)

  pub writes_at : (stage : Stage) (fault : Option SinkFailed) → Neither ≡ blame_at stage
      → writes_after_put (writes_by n (blame_at stage)) fault ≡ writes_by n (blame_put fault (blame_at stage))
  writes_at stage fault none = rw (← none) (writes_put fault)

  reads_call : (stage : Stage) (s : State) (call : PoolCall) (put : Put) → CanCall stage s call put → reads_by n (blame_at stage) ≡ reads_by n (blame_put put.fault (blame_at stage))
  reads_call (Asking asked) s call put can = reads_put put.fault
  reads_call (Committing brief) s call put can = reads_put put.fault
  reads_call Polling s call put can = reads_put put.fault
  reads_call (Leaving reason) s call put can = sym (ap (λ p. reads_by n (blame_put p.fault (blame_of reason))) can.1)
  reads_call Greeting s call put can = absurd can
  reads_call Reading s call put can = absurd can
  reads_call (Refusing code flags) s call put can = absurd can
  reads_call (Saying bytes) s call put can = absurd can
  reads_call (Over reason) s call put can = absurd can

  writes_call : (stage : Stage) (s : State) (call : PoolCall) (put : Put) → CanCall stage s call put
      → writes_after_put (writes_by n (blame_at stage)) put.fault ≡ writes_by n (blame_put put.fault (blame_at stage))
  writes_call (Asking asked) s call put can = writes_put put.fault
  writes_call (Committing brief) s call put can = writes_put put.fault
  writes_call Polling s call put can = writes_put put.fault
  writes_call (Leaving reason) s call put can = rw can.1 refl
  writes_call Greeting s call put can = absurd can
  writes_call Reading s call put can = absurd can
  writes_call (Refusing code flags) s call put can = absurd can
  writes_call (Saying bytes) s call put can = absurd can
  writes_call (Over reason) s call put can = absurd can

  reads_step : (worker : ℕ) (s : State) (x : SessionStep) → CanStep worker s x → reads_after_step (reads_by n (blame_at s.stage)) x ≡ reads_by n (blame_after x (blame_at s.stage))
  reads_step worker s (steps.Greeted put) can = reads_at s.stage put.fault (ap blame_at (sym can.0))
  reads_step worker s (steps.Took bytes) can = refl
  reads_step worker s (steps.Framed met) can = refl
  reads_step worker s (steps.Refused put) can = reads_at s.stage put.fault (refusing_blame s.stage put can)
  reads_step worker s (steps.Said put) can = reads_at s.stage put.fault (saying_blame s.stage put can)
  reads_step worker s (steps.Overran len) can = refl
  reads_step worker s steps.Idled can = refl
  reads_step worker s steps.Ended can = refl
  reads_step worker s steps.Missed can = ap (λ b. next_count (reads_by n b)) (sym (reading_blame s.stage can.waiting.reading))
  reads_step worker s steps.Starved can = refl
  reads_step worker s steps.Spent can = refl
  reads_step worker s (steps.Called call put) can = reads_call s.stage s call put can.1

  writes_step : (worker : ℕ) (s : State) (x : SessionStep) → CanStep worker s x
      → writes_after_put (writes_by n (blame_at s.stage)) (put_in x).fault ≡ writes_by n (blame_after x (blame_at s.stage))
  writes_step worker s (steps.Greeted put) can = writes_at s.stage put.fault (ap blame_at (sym can.0))
  writes_step worker s (steps.Took bytes) can = refl
  writes_step worker s (steps.Framed met) can = refl
  writes_step worker s (steps.Refused put) can = writes_at s.stage put.fault (refusing_blame s.stage put can)
  writes_step worker s (steps.Said put) can = writes_at s.stage put.fault (saying_blame s.stage put can)
  writes_step worker s (steps.Overran len) can = refl
  writes_step worker s steps.Idled can = refl
  writes_step worker s steps.Ended can = refl
  writes_step worker s steps.Missed can = ap (writes_by n) (sym (reading_blame s.stage can.waiting.reading))
  writes_step worker s steps.Starved can = refl
  writes_step worker s steps.Spent can = refl
  writes_step worker s (steps.Called call put) can = writes_call s.stage s call put can.1

  reads_on : (worker : ℕ) (s t : State) (xs : List SessionStep) → Follows worker s xs t → reads_after (reads_by n (blame_at s.stage)) xs ≡ reads_by n (blame_at t.stage)
  reads_on worker s t [] follows = ap (λ u. reads_by n (blame_at u.stage)) (sym follows)
  reads_on worker s t (x ∷ xs) follows =
      ap (λ m. reads_after m xs) (reads_step worker s x follows.0 ∙ ap (reads_by n) (sym (blame_step worker s x follows.0)))
      ∙ reads_on worker (after_step s x) t xs follows.1

  writes_on : (worker : ℕ) (s t : State) (xs : List SessionStep) → Follows worker s xs t → writes_after (writes_by n (blame_at s.stage)) xs ≡ writes_by n (blame_at t.stage)
  writes_on worker s t [] follows = ap (λ u. writes_by n (blame_at u.stage)) (sym follows)
  writes_on worker s t (x ∷ xs) follows =
      ap (λ m. writes_after m xs) (writes_step worker s x follows.0 ∙ ap (writes_by n) (sym (blame_step worker s x follows.0)))
      ∙ writes_on worker (after_step s x) t xs follows.1

pub counts_read : (reason : SessionEnd) (before now : ℕ) → now ≡ reads_by before (blame_of reason) → CountsFailure (is_read_end reason) before now
counts_read end.ReadFault before now is = is
counts_read end.WriteFault before now is = is
counts_read _ before now is = is

pub counts_written : (reason : SessionEnd) (before now : ℕ) → now ≡ writes_by before (blame_of reason) → CountsFailure (is_write_end reason) before now
counts_written end.WriteFault before now is = is
counts_written end.ReadFault before now is = is
counts_written _ before now is = is

module _ {A : Type 0} {worker : A → ℕ} {does : A → PoolCall → A → Type 0} {manner : Manner} {l l' : LinkSeen} {a a' : A} {reason : SessionEnd}
    (session : IsSession worker does manner l l' a a' reason) where
  pub session_reads : CountsFailure (is_read_end reason) l.source.faults l'.source.faults
  session_reads =
      let runs = session.runs in
      counts_read reason l.source.faults l'.source.faults
      (runs.reads ∙ reads_on l.source.faults (worker a) (new_state manner) session.last runs.steps runs.follows
      ∙ ap (λ stage. reads_by l.source.faults (blame_at stage)) session.over)

  pub session_writes : CountsFailure (is_write_end reason) l.sink.faults l'.sink.faults
  session_writes =
      let runs = session.runs in
      counts_written reason l.sink.faults l'.sink.faults
      (runs.writes ∙ writes_on l.sink.faults (worker a) (new_state manner) session.last runs.steps runs.follows
      ∙ ap (λ stage. writes_by l.sink.faults (blame_at stage)) session.over)
