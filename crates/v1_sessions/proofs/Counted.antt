-- A session of lines ends by a fault of its link exactly where that was counted.
use Rattle.std.proofs.Common.{◌≡◌, ℕ, ◌-◌, Bool, true, false, List, [], ◌∷◌, Option, Some, None, refl, sym, ap, ◌∙◌}
use Rattle.std.specs.Prelude.{if◌then◌else◌, is_some}
use Rattle.pool_base.specs.Calls.{Outcome, Replied, Faulted}
use Rattle.pool_io.specs.declared.sink.SinkFailed.{SinkFailed}
use Rattle.pool_io.specs.declared.sink.SinkFailed.TheVariants as sink
use Rattle.pool_io.specs.Outside.{CountsFailure, next_count}
use Rattle.pool_network.specs.Seen.{LinkSeen}
use Rattle.pool_history.specs.declared.refusals.BookError.{BookError}
use Rattle.pool_history.specs.declared.replies.Reply.{Reply}
use Rattle.pool_history.specs.declared.replies.Reply.TheVariants as reply
use Rattle.pool_history.specs.Calls.{PoolCall}
use Rattle.v2_sessions.specs.Causes.{is_read_end, is_write_end}
use Rattle.v2_sessions.proofs.Counted.{Blame, Take, Neither, SaysNoFault, blame_asking, blame_at, blame_booking, blame_end, blame_fault, blame_input, blame_left, blame_news, blame_of, blame_put, blame_told, counts_read, counts_written, reading_blame, reads_at, reads_by, reads_put, writes_at, writes_by, writes_put}
use Rattle.session_steps.specs.declared.ends.SessionEnd.{SessionEnd}
use Rattle.session_steps.specs.declared.ends.SessionEnd.TheVariants as end
use Rattle.session_steps.specs.States.{Stage, Asking, Committing, Greeting, Leaving, Over, Polling, Put, Reading, Refusing, Saying, fault_end, input_end}
use Rattle.session_steps.specs.Steps.{after_call, writes_after_put}
use Rattle.v1_translate.specs.State.{Terms}
use Rattle.v1_sessions.specs.Requests.{LineRequest}
use Rattle.v1_sessions.specs.Running.{IsRestOfLines}
use Rattle.v1_sessions.specs.States.{LineState, after_called, after_entering, sends, unless_failed}
use Rattle.v1_sessions.specs.Steps as steps
use Rattle.v1_sessions.specs.Steps.{CanCall, CanStep, Follows, LineStep, PutsTold, Requests, WaitsToEnter, after_step, put_of, reads_after, reads_after_step, writes_after}

-- what a step says of it
abbrev blame_after : LineStep → Blame → Blame
blame_after steps.Missed was = Take
blame_after x was = blame_put (put_of x).fault was

no_fault : (terms : Terms) (next : Option LineRequest) (s : LineState) (outcome : Outcome Reply BookError) (put : Put) → PutsTold terms next s outcome put → SaysNoFault outcome put
no_fault terms (Some wish) s (Replied answer) put puts = tt
no_fault terms (Some wish) s (Faulted cause) put puts = puts
no_fault terms None s (Replied answer) put puts = tt
no_fault terms None s (Faulted cause) put puts = puts

blame_if : (b : Bool) (x y : LineState) → blame_at x.pool.stage ≡ Neither → blame_at y.pool.stage ≡ Neither → blame_at (if b then x else y).pool.stage ≡ Neither
blame_if true x y first second = first
blame_if false x y first second = second

blame_sent : (wish : Option LineRequest) (s : LineState) → s.pool.stage ≡ Reading → blame_at (sends wish s).pool.stage ≡ Neither
blame_sent None s is = ap blame_at is
blame_sent (Some wish) s is = blame_if (is_some s.pool.talk.flags) _ _ refl refl

blame_line : (fault : Option SinkFailed) (s t : LineState) → blame_at t.pool.stage ≡ Neither → blame_at (unless_failed fault s t).pool.stage ≡ blame_put fault Neither
blame_line None s t none = none
blame_line (Some sink.Failed) s t none = blame_end s.pool.entered end.WriteFault
blame_line (Some sink.Memory) s t none = blame_end s.pool.entered end.Memory

blame_entering : (wish : LineRequest) (s : LineState) (front : ℕ) (outcome : Outcome Reply BookError) → blame_at (after_entering wish s front outcome).pool.stage ≡ Neither
blame_entering wish s front (Faulted cause) = blame_end s.pool.entered (fault_end cause) ∙ blame_fault cause
blame_entering wish s front (Replied (reply.PoolFull most)) = blame_end s.pool.entered end.PoolFull
blame_entering wish s front (Replied (reply.Entered session)) = refl
blame_entering wish s front (Replied _) = refl

blame_called : (terms : Terms) (stage : Stage) (s : LineState) (call : PoolCall) (put : Put) → Requests stage s call → SaysNoFault call.outcome put → steps.PutsNoLeave stage put
    → blame_at (after_call stage s.pool call put).stage ≡ blame_put put.fault (blame_at stage)
blame_called terms (Asking asked) s call put requests puts leaves = blame_asking s.pool call.front call.outcome put puts
blame_called terms (Committing brief) s call put requests puts leaves = blame_booking s.pool call.outcome put puts
blame_called terms Polling s call put requests puts leaves = blame_told s.pool call.outcome put puts
blame_called terms (Leaving reason) s call put requests puts leaves = blame_left reason call.outcome ∙ sym (ap (λ (p : Put). blame_put p.fault (blame_of reason)) leaves)
blame_called terms Greeting s call put requests puts leaves = absurd requests
blame_called terms Reading s call put requests puts leaves = absurd requests
blame_called terms (Refusing code flags) s call put requests puts leaves = absurd requests
blame_called terms (Saying bytes) s call put requests puts leaves = absurd requests
blame_called terms (Over reason) s call put requests puts leaves = absurd requests

-- a stage from which a session enters blames nothing
waits_blame : (wish : LineRequest) (stage : Stage) → WaitsToEnter (Some wish) stage → Neither ≡ blame_at stage
waits_blame wish (Asking asked) waits = refl
waits_blame wish (Committing brief) waits = absurd waits
waits_blame wish Polling waits = absurd waits
waits_blame wish (Leaving reason) waits = absurd waits
waits_blame wish Greeting waits = absurd waits
waits_blame wish Reading waits = absurd waits
waits_blame wish (Refusing code flags) waits = absurd waits
waits_blame wish (Saying bytes) waits = absurd waits
waits_blame wish (Over reason) waits = absurd waits

blame_call : (terms : Terms) (next : Option LineRequest) (s : LineState) (call : PoolCall) (put : Put) → Requests s.pool.stage s call → PutsTold terms next s call.outcome put
    → steps.PutsNoLeave s.pool.stage put → WaitsToEnter next s.pool.stage
    → blame_at (after_called terms next s call put).pool.stage ≡ blame_put put.fault (blame_at s.pool.stage)
blame_call terms (Some wish) s call put requests puts leaves waits =
    blame_entering wish s call.front call.outcome ∙ waits_blame wish s.pool.stage waits ∙ sym (ap (λ (p : Put). blame_put p.fault (blame_at s.pool.stage)) puts)
blame_call terms None s call put requests puts leaves waits =
    blame_called terms s.pool.stage s call put requests (no_fault terms None s call.outcome put puts) leaves

-- what a step leads to is blamed by the step alone, and else as before
blame_step : (worker : ℕ) (terms : Terms) (s : LineState) (x : LineStep) → CanStep worker terms s x → blame_at (after_step terms s x).pool.stage ≡ blame_after x (blame_at s.pool.stage)
blame_step worker terms s (steps.Took bytes) can = refl
blame_step worker terms s (steps.Heard line rest wish put) can =
    blame_line put.fault _ _ (blame_sent wish _ can.reading) ∙ ap (blame_put put.fault) (reading_blame s.pool.stage can.reading)
blame_step worker terms s steps.Overran can = blame_end s.pool.entered end.LineTooLong ∙ reading_blame s.pool.stage can.reading
blame_step worker terms s steps.Idled can = blame_news s.pool.entered (s.pool.idles - 1) ∙ reading_blame s.pool.stage can.waiting.reading
blame_step worker terms s steps.Ended can = blame_end s.pool.entered (input_end s.pool.unmet) ∙ blame_input s.pool.unmet ∙ reading_blame s.pool.stage can.waiting.reading
blame_step worker terms s steps.Missed can = blame_end s.pool.entered end.ReadFault
blame_step worker terms s steps.Starved can = blame_end s.pool.entered end.Memory ∙ reading_blame s.pool.stage can
blame_step worker terms s steps.Spent can = blame_end s.pool.entered end.BytesOut ∙ reading_blame s.pool.stage can.0.reading
blame_step worker terms s (steps.Called call put) can = blame_call terms s.next s call put can.requests can.puts can.leaves can.waits

module _ (n : ℕ) where
  reads_called : (stage : Stage) (s : LineState) (call : PoolCall) (put : Put) → Requests stage s call → steps.PutsNoLeave stage put
      → reads_by n (blame_at stage) ≡ reads_by n (blame_put put.fault (blame_at stage))
  reads_called (Asking asked) s call put requests leaves = reads_put n put.fault
  reads_called (Committing brief) s call put requests leaves = reads_put n put.fault
  reads_called Polling s call put requests leaves = reads_put n put.fault
  reads_called (Leaving reason) s call put requests leaves = sym (ap (λ (p : Put). reads_by n (blame_put p.fault (blame_of reason))) leaves)
  reads_called Greeting s call put requests leaves = absurd requests
  reads_called Reading s call put requests leaves = absurd requests
  reads_called (Refusing code flags) s call put requests leaves = absurd requests
  reads_called (Saying bytes) s call put requests leaves = absurd requests
  reads_called (Over reason) s call put requests leaves = absurd requests

  writes_called : (stage : Stage) (s : LineState) (call : PoolCall) (put : Put) → Requests stage s call → steps.PutsNoLeave stage put
      → writes_after_put (writes_by n (blame_at stage)) put.fault ≡ writes_by n (blame_put put.fault (blame_at stage))
  writes_called (Asking asked) s call put requests leaves = writes_put n put.fault
  writes_called (Committing brief) s call put requests leaves = writes_put n put.fault
  writes_called Polling s call put requests leaves = writes_put n put.fault
  writes_called (Leaving reason) s call put requests leaves = rw leaves refl
  writes_called Greeting s call put requests leaves = absurd requests
  writes_called Reading s call put requests leaves = absurd requests
  writes_called (Refusing code flags) s call put requests leaves = absurd requests
  writes_called (Saying bytes) s call put requests leaves = absurd requests
  writes_called (Over reason) s call put requests leaves = absurd requests

  reads_step : (worker : ℕ) (terms : Terms) (s : LineState) (x : LineStep) → CanStep worker terms s x
      → reads_after_step (reads_by n (blame_at s.pool.stage)) x ≡ reads_by n (blame_after x (blame_at s.pool.stage))
  reads_step worker terms s (steps.Took bytes) can = refl
  reads_step worker terms s (steps.Heard line rest wish put) can = reads_at n s.pool.stage put.fault (reading_blame s.pool.stage can.reading)
  reads_step worker terms s steps.Overran can = refl
  reads_step worker terms s steps.Idled can = refl
  reads_step worker terms s steps.Ended can = refl
  reads_step worker terms s steps.Missed can = ap (λ b. next_count (reads_by n b)) (sym (reading_blame s.pool.stage can.waiting.reading))
  reads_step worker terms s steps.Starved can = refl
  reads_step worker terms s steps.Spent can = refl
  reads_step worker terms s (steps.Called call put) can = reads_called s.pool.stage s call put can.requests can.leaves

  writes_step : (worker : ℕ) (terms : Terms) (s : LineState) (x : LineStep) → CanStep worker terms s x
      → writes_after_put (writes_by n (blame_at s.pool.stage)) (put_of x).fault ≡ writes_by n (blame_after x (blame_at s.pool.stage))
  writes_step worker terms s (steps.Took bytes) can = refl
  writes_step worker terms s (steps.Heard line rest wish put) can = writes_at n s.pool.stage put.fault (reading_blame s.pool.stage can.reading)
  writes_step worker terms s steps.Overran can = refl
  writes_step worker terms s steps.Idled can = refl
  writes_step worker terms s steps.Ended can = refl
  writes_step worker terms s steps.Missed can = ap (writes_by n) (sym (reading_blame s.pool.stage can.waiting.reading))
  writes_step worker terms s steps.Starved can = refl
  writes_step worker terms s steps.Spent can = refl
  writes_step worker terms s (steps.Called call put) can = writes_called s.pool.stage s call put can.requests can.leaves

  reads_on : (worker : ℕ) (terms : Terms) (s t : LineState) (xs : List LineStep) → Follows worker terms s xs t
      → reads_after (reads_by n (blame_at s.pool.stage)) xs ≡ reads_by n (blame_at t.pool.stage)
  reads_on worker terms s t [] follows = ap (λ (u : LineState). reads_by n (blame_at u.pool.stage)) (sym follows)
  reads_on worker terms s t (x ∷ xs) follows =
      ap (λ m. reads_after m xs) (reads_step worker terms s x follows.0 ∙ ap (reads_by n) (sym (blame_step worker terms s x follows.0)))
      ∙ reads_on worker terms (after_step terms s x) t xs follows.1

  writes_on : (worker : ℕ) (terms : Terms) (s t : LineState) (xs : List LineStep) → Follows worker terms s xs t
      → writes_after (writes_by n (blame_at s.pool.stage)) xs ≡ writes_by n (blame_at t.pool.stage)
  writes_on worker terms s t [] follows = ap (λ (u : LineState). writes_by n (blame_at u.pool.stage)) (sym follows)
  writes_on worker terms s t (x ∷ xs) follows =
      ap (λ m. writes_after m xs) (writes_step worker terms s x follows.0 ∙ ap (writes_by n) (sym (blame_step worker terms s x follows.0)))
      ∙ writes_on worker terms (after_step terms s x) t xs follows.1

module _ {A : Type 0} {worker : A → ℕ} {does : A → PoolCall → A → Type 0} {terms : Terms} {from : LineState} {l l' : LinkSeen} {a a' : A} {reason : SessionEnd}
    (reading : from.pool.stage ≡ Reading) (rest : IsRestOfLines worker does terms from l l' a a' reason) where
  pub lines_read : CountsFailure (is_read_end reason) l.source.faults l'.source.faults
  lines_read =
      let runs = rest.runs in
      counts_read reason l.source.faults l'.source.faults
      (runs.reads ∙ ap (λ s. reads_after (reads_by l.source.faults s) runs.steps) (reading_blame from.pool.stage reading)
      ∙ reads_on l.source.faults (worker a) terms from rest.last runs.steps runs.follows
      ∙ ap (λ stage. reads_by l.source.faults (blame_at stage)) rest.over)

  pub lines_written : CountsFailure (is_write_end reason) l.sink.faults l'.sink.faults
  lines_written =
      let runs = rest.runs in
      counts_written reason l.sink.faults l'.sink.faults
      (runs.writes ∙ ap (λ s. writes_after (writes_by l.sink.faults s) runs.steps) (reading_blame from.pool.stage reading)
      ∙ writes_on l.sink.faults (worker a) terms from rest.last runs.steps runs.follows
      ∙ ap (λ stage. writes_by l.sink.faults (blame_at stage)) rest.over)
