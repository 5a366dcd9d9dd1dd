-- What isn't heard at an end of a session of lines.
use Rattle.std.proofs.Common.{◌≡◌, ℕ, ◌-◌, Bool, true, false, List, [], ◌∷◌, ◌++◌, Option, None, Some, length, refl, sym, ap, subst, append_assoc, append-nil, arith}
use Rattle.std.specs.Prelude.{if◌then◌else◌, is_some}
use Rattle.pool_base.specs.Calls.{Outcome, Replied, Faulted}
use Rattle.pool_io.specs.declared.sink.SinkFailed.{SinkFailed}
use Rattle.pool_io.specs.declared.sink.SinkFailed.TheVariants as sink
use Rattle.pool_history.specs.declared.refusals.BookError.{BookError}
use Rattle.pool_history.specs.declared.replies.Reply.{Reply}
use Rattle.pool_history.specs.declared.replies.Reply.TheVariants as reply
use Rattle.pool_history.specs.Calls.{PoolCall}
use Rattle.v1_lines.specs.Lines.{IsLineText}
use Rattle.line_turns.specs.Hearing.{BeginsLongLine}
use Rattle.session_steps.specs.declared.manner.Manner.{Manner}
use Rattle.session_steps.specs.declared.ends.SessionEnd.{SessionEnd}
use Rattle.session_steps.specs.declared.ends.SessionEnd.TheVariants as end
use Rattle.session_steps.specs.States.{Stage, Asking, Committing, Greeting, Leaving, Over, Polling, Reading, Refusing, Saying, Put, end_stage, failed_end, fault_end, hears, input_end, news_stage}
use Rattle.session_steps.specs.Steps.{after_call, end_after}
use Rattle.v2_sessions.proofs.Quiet.{IsQuietEnd, IsQuietStage, asking_quiet, booking_quiet, polling_quiet, quiet_fault, quiet_news}
use Rattle.v2_sessions.proofs.Standing.{any_last, any_more}
use Rattle.v1_translate.specs.Lines.{line_reaction}
use Rattle.v1_translate.specs.State.{Terms}
use Rattle.v1_sessions.specs.Requests.{LineRequest}
use Rattle.v1_sessions.specs.States.{LineState, after_called, after_entering, asks_now, enters_now, entered_next, new_line_state, sends, unless_failed}
use Rattle.v1_sessions.specs.Steps.{Called, CanStep, Ended, Follows, Heard, Idled, LineStep, Missed, Overran, Requests, Spent, Starved, Took, after_step, has_ended, is_end}
use Rattle.v1_sessions.specs.Ends.{IsAllHeard, IsCutLine}

-- what an end says of the bytes that weren't heard
abbrev pub Leaves : List LineStep → List ℕ → SessionEnd → Type 0
Leaves done unheard (end.CutFrame count) = IsCutLine done unheard count
Leaves done unheard end.LineTooLong = BeginsLongLine unheard
Leaves done unheard end.Done = IsAllHeard done unheard
Leaves done unheard end.BadSetup = ⊥
Leaves done unheard (end.TooLong len) = ⊥
Leaves done unheard (end.BadMessage kind) = ⊥
Leaves done unheard _ = Unit {0}

abbrev StageLeaves : List LineStep → List ℕ → Stage → Type 0
StageLeaves done unheard (Leaving reason) = Leaves done unheard reason
StageLeaves done unheard (Over reason) = Leaves done unheard reason
StageLeaves done unheard _ = Unit {0}

module _ (done : List LineStep) (unheard : List ℕ) where
  end_leaves : (entered : Bool) (reason : SessionEnd) → Leaves done unheard reason → StageLeaves done unheard (end_stage entered reason)
  end_leaves true reason leaves = leaves
  end_leaves false reason leaves = leaves

  -- an end that no input brings says nothing of it
  quiet_leaves : (reason : SessionEnd) → IsQuietEnd reason → Leaves done unheard reason
  quiet_leaves end.Done quiet = absurd quiet
  quiet_leaves (end.CutFrame count) quiet = absurd quiet
  quiet_leaves (end.TooLong len) quiet = absurd quiet
  quiet_leaves end.BadSetup quiet = absurd quiet
  quiet_leaves (end.BadMessage kind) quiet = absurd quiet
  quiet_leaves end.LineTooLong quiet = absurd quiet
  quiet_leaves end.IdleOut quiet = tt
  quiet_leaves end.BytesOut quiet = tt
  quiet_leaves end.PoolFull quiet = tt
  quiet_leaves end.ReadFault quiet = tt
  quiet_leaves end.WriteFault quiet = tt
  quiet_leaves end.LedgerFault quiet = tt
  quiet_leaves end.Memory quiet = tt

  quiet_stage : (stage : Stage) → IsQuietStage stage → StageLeaves done unheard stage
  quiet_stage (Leaving reason) quiet = quiet_leaves reason quiet
  quiet_stage (Over reason) quiet = quiet_leaves reason quiet
  quiet_stage (Refusing code flags) quiet = absurd quiet
  quiet_stage (Saying bytes) quiet = tt
  quiet_stage Greeting quiet = tt
  quiet_stage Reading quiet = tt
  quiet_stage (Asking asked) quiet = tt
  quiet_stage (Committing brief) quiet = tt
  quiet_stage Polling quiet = tt

  at_reading : (stage : Stage) → stage ≡ Reading → StageLeaves done unheard stage
  at_reading stage is = subst (StageLeaves done unheard) (sym is) tt

  failed_leaves : (cause : SinkFailed) → Leaves done unheard (failed_end cause)
  failed_leaves sink.Failed = tt
  failed_leaves sink.Memory = tt

  input_leaves : (has_ended done ≡ true) → IsLineText unheard → (bytes : List ℕ) → bytes ≡ unheard → Leaves done unheard (input_end bytes)
  input_leaves ended text [] is = record { ended = ended; none = sym is }
  input_leaves ended text (byte ∷ bytes) is = record {
    counted = ap length (sym is);
    some = omega arith;
    text = text;
    ended = ended;
  }

  -- a line was heard
  sent_leaves : (set_up : Bool) (wish : LineRequest) (t : LineState)
      → StageLeaves done unheard (if set_up then record t { pool = asks_now wish t.pool } else record t { pool = enters_now t.pool; next = Some wish }).pool.stage
  sent_leaves true wish t = tt
  sent_leaves false wish t = tt

  wished_leaves : (wish : Option LineRequest) (t : LineState) → t.pool.stage ≡ Reading → StageLeaves done unheard (sends wish t).pool.stage
  wished_leaves None t is = at_reading t.pool.stage is
  wished_leaves (Some wish) t is = sent_leaves (is_some t.pool.talk.flags) wish t

  heard_leaves : (failed : Option SinkFailed) (wish : Option LineRequest) (s t : LineState) → t.pool.stage ≡ Reading
      → StageLeaves done unheard (unless_failed failed s (sends wish t)).pool.stage
  heard_leaves None wish s t is = wished_leaves wish t is
  heard_leaves (Some cause) wish s t is = end_leaves s.pool.entered (failed_end cause) (failed_leaves cause)

  -- and an answer
  entered_leaves : (wish : LineRequest) (answer : Reply) (s : LineState) → StageLeaves done unheard (entered_next wish answer s).pool.stage
  entered_leaves wish (reply.PoolFull most) s = end_leaves s.pool.entered end.PoolFull tt
  entered_leaves wish answer s = tt

  entering_leaves : (wish : LineRequest) (s : LineState) (front : ℕ) (outcome : Outcome Reply BookError) → StageLeaves done unheard (after_entering wish s front outcome).pool.stage
  entering_leaves wish s front (Faulted cause) = end_leaves s.pool.entered (fault_end cause) (quiet_leaves (fault_end cause) (quiet_fault cause))
  entering_leaves wish s front (Replied answer) = entered_leaves wish answer (record s { pool = hears s.pool front answer })

-- what is said of the bytes stays, a step later
leaves_more : (done : List LineStep) (x : LineStep) (unheard : List ℕ) (reason : SessionEnd) → Leaves done unheard reason → Leaves (done ++ x ∷ []) unheard reason
leaves_more done x unheard (end.CutFrame count) leaves = record {
  counted = leaves.counted;
  some = leaves.some;
  text = leaves.text;
  ended = any_more is_end done (x ∷ []) leaves.ended;
}
leaves_more done x unheard (end.TooLong len) leaves = leaves
leaves_more done x unheard end.BadSetup leaves = leaves
leaves_more done x unheard (end.BadMessage kind) leaves = leaves
leaves_more done x unheard end.LineTooLong leaves = leaves
leaves_more done x unheard end.Done leaves = record { ended = any_more is_end done (x ∷ []) leaves.ended; none = leaves.none }
leaves_more done x unheard end.IdleOut leaves = tt
leaves_more done x unheard end.BytesOut leaves = tt
leaves_more done x unheard end.PoolFull leaves = tt
leaves_more done x unheard end.ReadFault leaves = tt
leaves_more done x unheard end.WriteFault leaves = tt
leaves_more done x unheard end.LedgerFault leaves = tt
leaves_more done x unheard end.Memory leaves = tt

-- so does the end, but for that of a session that was done
left_leaves : (done : List LineStep) (unheard : List ℕ) (reason : SessionEnd) (outcome : Outcome Reply BookError) → Leaves done unheard reason → Leaves done unheard (end_after reason outcome)
left_leaves done unheard reason (Replied answer) leaves = leaves
left_leaves done unheard end.Done (Faulted cause) leaves = quiet_leaves done unheard (fault_end cause) (quiet_fault cause)
left_leaves done unheard (end.CutFrame count) (Faulted cause) leaves = leaves
left_leaves done unheard (end.TooLong len) (Faulted cause) leaves = leaves
left_leaves done unheard end.BadSetup (Faulted cause) leaves = leaves
left_leaves done unheard (end.BadMessage kind) (Faulted cause) leaves = leaves
left_leaves done unheard end.LineTooLong (Faulted cause) leaves = leaves
left_leaves done unheard end.IdleOut (Faulted cause) leaves = tt
left_leaves done unheard end.BytesOut (Faulted cause) leaves = tt
left_leaves done unheard end.PoolFull (Faulted cause) leaves = tt
left_leaves done unheard end.ReadFault (Faulted cause) leaves = tt
left_leaves done unheard end.WriteFault (Faulted cause) leaves = tt
left_leaves done unheard end.LedgerFault (Faulted cause) leaves = tt
left_leaves done unheard end.Memory (Faulted cause) leaves = tt

module _ (worker : ℕ) (terms : Terms) (done : List LineStep) (s : LineState) where
  abbrev LeavesAt : List LineStep → LineState → Type 0
  LeavesAt steps t = StageLeaves steps t.pool.unmet t.pool.stage

  -- a call, at each stage
  asked_leaves : (stage : Stage) (call : PoolCall) (put : Put) → Requests stage s call → StageLeaves done s.pool.unmet stage
      → StageLeaves (done ++ Called call put ∷ []) (after_call stage s.pool call put).unmet (after_call stage s.pool call put).stage
  asked_leaves (Asking asked) call put asks leaves =
      quiet_stage (done ++ Called call put ∷ []) (after_call (Asking asked) s.pool call put).unmet (after_call (Asking asked) s.pool call put).stage
      (asking_quiet s.pool call.front call.outcome put)
  asked_leaves (Committing brief) call put asks leaves =
      quiet_stage (done ++ Called call put ∷ []) (after_call (Committing brief) s.pool call put).unmet (after_call (Committing brief) s.pool call put).stage
      (booking_quiet s.pool call.outcome put)
  asked_leaves Polling call put asks leaves =
      quiet_stage (done ++ Called call put ∷ []) (after_call Polling s.pool call put).unmet (after_call Polling s.pool call put).stage
      (polling_quiet s.pool call.outcome put)
  asked_leaves (Leaving reason) call put asks leaves =
      left_leaves (done ++ Called call put ∷ []) s.pool.unmet reason call.outcome (leaves_more done (Called call put) s.pool.unmet reason leaves)
  asked_leaves Greeting call put asks leaves = absurd asks
  asked_leaves Reading call put asks leaves = absurd asks
  asked_leaves (Refusing code flags) call put asks leaves = absurd asks
  asked_leaves (Saying bytes) call put asks leaves = absurd asks
  asked_leaves (Over reason) call put asks leaves = absurd asks

  called_leaves : (next : Option LineRequest) (call : PoolCall) (put : Put) → Requests s.pool.stage s call → LeavesAt done s
      → LeavesAt (done ++ Called call put ∷ []) (after_called terms next s call put)
  called_leaves None call put asks leaves = asked_leaves s.pool.stage call put asks leaves
  called_leaves (Some wish) call put asks leaves =
      entering_leaves (done ++ Called call put ∷ []) (after_called terms (Some wish) s call put).pool.unmet wish s call.front call.outcome

  step_leaves : (x : LineStep) → CanStep worker terms s x → LeavesAt done s → LeavesAt (done ++ x ∷ []) (after_step terms s x)
  step_leaves (Took bytes) can leaves = at_reading (done ++ Took bytes ∷ []) (s.pool.unmet ++ bytes) s.pool.stage can.can.waiting.reading
  step_leaves (Heard line rest wish put) can leaves =
      let x = Heard line rest wish put in
      let v1 = (line_reaction terms s.v1 line).after in
      let t = record s { pool = record s.pool { unmet = rest }; v1 = v1 } in
      heard_leaves (done ++ x ∷ []) (after_step terms s x).pool.unmet put.fault wish t t can.reading
  step_leaves Overran can leaves = end_leaves (done ++ Overran ∷ []) s.pool.unmet s.pool.entered end.LineTooLong can.long
  step_leaves Idled can leaves =
      quiet_stage (done ++ Idled ∷ []) s.pool.unmet (news_stage s.pool.entered (s.pool.idles - 1)) (quiet_news s.pool.entered (s.pool.idles - 1))
  step_leaves Ended can leaves =
      end_leaves (done ++ Ended ∷ []) s.pool.unmet s.pool.entered (input_end s.pool.unmet)
      (input_leaves (done ++ Ended ∷ []) s.pool.unmet (any_last is_end done Ended refl) can.waiting.text s.pool.unmet refl)
  step_leaves Missed can leaves = end_leaves (done ++ Missed ∷ []) s.pool.unmet s.pool.entered end.ReadFault tt
  step_leaves Starved can leaves = end_leaves (done ++ Starved ∷ []) s.pool.unmet s.pool.entered end.Memory tt
  step_leaves Spent can leaves = end_leaves (done ++ Spent ∷ []) s.pool.unmet s.pool.entered end.BytesOut tt
  step_leaves (Called call put) can leaves = called_leaves s.next call put can.requests leaves

leaves_on : (worker : ℕ) (terms : Terms) (s t : LineState) (done xs : List LineStep) → StageLeaves done s.pool.unmet s.pool.stage
    → Follows worker terms s xs t → StageLeaves (done ++ xs) t.pool.unmet t.pool.stage
leaves_on worker terms s t done [] leaves follows = rw (follows, append-nil done) leaves
leaves_on worker terms s t done (x ∷ xs) leaves follows =
    subst (λ l. StageLeaves l t.pool.unmet t.pool.stage) (append_assoc done (x ∷ []) xs)
    (leaves_on worker terms (after_step terms s x) t (done ++ x ∷ []) xs (step_leaves worker terms done s x follows.0 leaves) follows.1)

pub session_leaves : (worker : ℕ) (terms : Terms) (manner : Manner) (xs : List LineStep) (last : LineState) (reason : SessionEnd)
    → Follows worker terms (new_line_state manner) xs last → last.pool.stage ≡ Over reason → Leaves xs last.pool.unmet reason
session_leaves worker terms manner xs last reason follows over =
    subst (StageLeaves xs last.pool.unmet) over (leaves_on worker terms (new_line_state manner) last [] xs tt follows)
