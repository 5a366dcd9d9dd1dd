-- Where a session of lines stands within its limits, and what its ends come from.
use Rattle.std.proofs.Common.{◌≡◌, ℕ, ◌+◌, ◌<◌, Bool, true, false, List, [], ◌∷◌, ◌++◌, Option, None, Some, map, refl, sym, ap, subst, ◌∙◌, append_assoc, append-nil, arith}
use Rattle.std.specs.Prelude.{if◌then◌else◌, is_some}
use Rattle.pool_base.specs.Calls.{Outcome, Replied, Faulted}
use Rattle.pool_io.specs.declared.sink.SinkFailed.{SinkFailed}
use Rattle.pool_io.specs.declared.sink.SinkFailed.TheVariants as sink
use Rattle.pool_io.specs.Steps.{Bounds, IsBytesOut, idles_after}
use Rattle.pool_history.specs.declared.refusals.BookError.{BookError}
use Rattle.pool_history.specs.declared.replies.Reply.{Reply}
use Rattle.pool_history.specs.declared.replies.Reply.TheVariants as reply
use Rattle.pool_history.specs.Calls.{PoolCall}
use Rattle.session_steps.specs.declared.manner.Manner.{Manner}
use Rattle.session_steps.specs.declared.ends.SessionEnd.{SessionEnd}
use Rattle.session_steps.specs.declared.ends.SessionEnd.TheVariants as end
use Rattle.session_steps.specs.States.{State, Stage, Asking, Committing, Greeting, Leaving, Over, Polling, Reading, Refusing, Saying, Put, end_stage, failed_end, fault_end, hears, input_end}
use Rattle.session_steps.specs.Steps as frames
use Rattle.session_steps.specs.Steps.{SessionStep, after_asking, after_booking, after_call, after_news, calls_in, ended_by, put_in, turn_in, turns_in}
use Rattle.v2_sessions.specs.Ends.{is_missed, session_bounds}
use Rattle.v2_sessions.proofs.Standing.{EndShows, StageShows, Stands, StaysWithin, at, begins_stand, call_within, ended_shows, fault_shows, idled_stands, input_shows, any_last, turned_away_now, unkept_now, unwritten_now, asking_shows, booking_shows, told_shows, left_shows, quiet, took_stands, turns_quiet}
use Rattle.v1_translate.specs.Lines.{line_reaction}
use Rattle.v1_translate.specs.State.{Terms}
use Rattle.v1_sessions.specs.Requests.{LineRequest}
use Rattle.v1_sessions.specs.States.{LineState, after_called, after_entering, asks_now, enters_now, entered_next, new_line_state, sends, unless_failed}
use Rattle.v1_sessions.specs.Steps.{CanCall, Called, CanStep, Ended, Follows, Heard, Idled, LineStep, Missed, Overran, Requests, Spent, Starved, Took, WaitsToEnter, after_step, calls_of, turns_of}

-- a step of frames that does the same outside of the session
abbrev pub outer_step : LineStep → SessionStep
outer_step (Took bytes) = frames.Took bytes
outer_step (Heard line rest wish put) = frames.Refused put
outer_step Overran = frames.Starved
outer_step Idled = frames.Idled
outer_step Ended = frames.Ended
outer_step Missed = frames.Missed
outer_step Starved = frames.Starved
outer_step Spent = frames.Spent
outer_step (Called call put) = frames.Called call put

abbrev pub outer_steps : List LineStep → List SessionStep
outer_steps steps = map outer_step steps

pub outer_turns : (xs : List LineStep) → turns_in (outer_steps xs) ≡ turns_of xs
outer_turns [] = refl
outer_turns (Took bytes ∷ xs) = ap (λ l. map Some bytes ++ l) (outer_turns xs)
outer_turns (Idled ∷ xs) = ap (λ l. None ∷ l) (outer_turns xs)
outer_turns (Heard line rest wish put ∷ xs) = outer_turns xs
outer_turns (Overran ∷ xs) = outer_turns xs
outer_turns (Ended ∷ xs) = outer_turns xs
outer_turns (Missed ∷ xs) = outer_turns xs
outer_turns (Starved ∷ xs) = outer_turns xs
outer_turns (Spent ∷ xs) = outer_turns xs
outer_turns (Called call put ∷ xs) = outer_turns xs

pub outer_calls : (xs : List LineStep) → calls_in (outer_steps xs) ≡ calls_of xs
outer_calls [] = refl
outer_calls (Called call put ∷ xs) = ap (λ l. call ∷ l) (outer_calls xs)
outer_calls (Took bytes ∷ xs) = outer_calls xs
outer_calls (Idled ∷ xs) = outer_calls xs
outer_calls (Heard line rest wish put ∷ xs) = outer_calls xs
outer_calls (Overran ∷ xs) = outer_calls xs
outer_calls (Ended ∷ xs) = outer_calls xs
outer_calls (Missed ∷ xs) = outer_calls xs
outer_calls (Starved ∷ xs) = outer_calls xs
outer_calls (Spent ∷ xs) = outer_calls xs

more_outer : (done : List LineStep) (x : LineStep) → outer_steps done ++ outer_step x ∷ [] ≡ outer_steps (done ++ x ∷ [])
more_outer [] x = refl
more_outer (y ∷ done) x = ap (λ l. outer_step y ∷ l) (more_outer done x)

-- nothing was said, and the first turn is waited for
reading_stands : (manner : Manner) → 0 < manner.idle_turns → Stands (session_bounds manner.idle_turns) [] (new_line_state manner).pool
reading_stands manner positive =
    let stands = begins_stand manner positive in
    record { turns = stands.turns; idles = stands.idles; bytes = stands.bytes; before = stands.before; stage = positive }

-- before a turn or a call more Idle turns are waited for
waits_reading : (bounds : Bounds) (done : List SessionStep) (s : State) → Stands bounds done s → s.stage ≡ Reading → 0 < s.idles
waits_reading bounds done s stands is = subst (StageShows bounds done s.idles) is stands.stage

-- ---- a line: what it asks is asked, unless its answer couldn't be put

module _ (bounds : Bounds) (done : List SessionStep) (put : Put) where
  asked_stands : (s : State) → Stands bounds done s → 0 < s.idles → (wish : LineRequest) (t : LineState) → StaysWithin s t.pool → (set_up : Bool)
      → Stands bounds (done ++ frames.Refused put ∷ [])
      (if set_up then record t { pool = asks_now wish t.pool } else record t { pool = enters_now t.pool; next = Some wish }).pool
  asked_stands s stands waits wish t same true =
      quiet bounds done s stands (frames.Refused put) (asks_now wish t.pool) refl (record { turns = same.turns; idles = same.idles; bytes = same.bytes }) waits
  asked_stands s stands waits wish t same false =
      quiet bounds done s stands (frames.Refused put) (enters_now t.pool) refl (record { turns = same.turns; idles = same.idles; bytes = same.bytes }) waits

  sent_stands : (wish : Option LineRequest) (s : State) → Stands bounds done s → s.stage ≡ Reading
      → (t : LineState) → StaysWithin s t.pool → t.pool.stage ≡ Reading → Stands bounds (done ++ frames.Refused put ∷ []) (sends wish t).pool
  sent_stands None s stands reading t same is =
      quiet bounds done s stands (frames.Refused put) t.pool refl same
      (subst (StageShows bounds (done ++ frames.Refused put ∷ []) s.idles) (sym is) (waits_reading bounds done s stands reading))
  sent_stands (Some wish) s stands reading t same is =
      asked_stands s stands (waits_reading bounds done s stands reading) wish t same (is_some t.pool.talk.flags)

  failed_shows : (cause : SinkFailed) → put.fault ≡ Some cause → EndShows bounds (done ++ frames.Refused put ∷ []) (failed_end cause)
  failed_shows sink.Failed is = unwritten_now bounds done (frames.Refused put) is
  failed_shows sink.Memory is = tt

  line_stands : (fault : Option SinkFailed) → put.fault ≡ fault → (s : LineState) → Stands bounds done s.pool → s.pool.stage ≡ Reading
      → (t : LineState) → StaysWithin s.pool t.pool → t.pool.stage ≡ Reading → (wish : Option LineRequest)
      → (rest : LineState) → StaysWithin s.pool rest.pool → rest.pool.entered ≡ s.pool.entered
      → Stands bounds (done ++ frames.Refused put ∷ []) (unless_failed fault rest (sends wish t)).pool
  line_stands None is s stands reading t same there wish rest kept entered = sent_stands wish s.pool stands reading t same there
  line_stands (Some cause) is s stands reading t same there wish rest kept entered =
      quiet bounds done s.pool stands (frames.Refused put) (ended_by (failed_end cause) rest.pool) refl
      (record { turns = kept.turns; idles = kept.idles; bytes = kept.bytes })
      (ended_shows bounds (done ++ frames.Refused put ∷ []) s.pool.idles rest.pool.entered (failed_end cause) (failed_shows cause is))

-- ---- a call

module _ (bounds : Bounds) (done : List SessionStep) (s : LineState) (stands : Stands bounds done s.pool) (call : PoolCall) (put : Put) where
  abbrev after_it : List SessionStep
  after_it = done ++ frames.Called call put ∷ []

  -- the answer that a session waited for to ask something
  entered_stands : (wish : LineRequest) (answer : Reply) → call.outcome ≡ Replied answer → 0 < s.pool.idles
      → Stands bounds after_it (entered_next wish answer (record s { pool = hears s.pool call.front answer })).pool
  entered_stands wish (reply.PoolFull most) is waits =
      let h = hears s.pool call.front (reply.PoolFull most) in
      quiet bounds done s.pool stands (frames.Called call put) (ended_by end.PoolFull h) refl (record { turns = refl; idles = refl; bytes = refl })
      (ended_shows bounds after_it s.pool.idles h.entered end.PoolFull (turned_away_now done call put (reply.PoolFull most) is refl))
  entered_stands wish answer is waits =
      quiet bounds done s.pool stands (frames.Called call put) (asks_now wish (hears s.pool call.front answer)) refl
      (record { turns = refl; idles = refl; bytes = refl }) waits

  entering_stands : (wish : LineRequest) (outcome : Outcome Reply BookError) → call.outcome ≡ outcome → 0 < s.pool.idles
      → Stands bounds after_it (after_entering wish s call.front outcome).pool
  entering_stands wish (Faulted cause) is waits =
      quiet bounds done s.pool stands (frames.Called call put) (ended_by (fault_end cause) s.pool) refl (record { turns = refl; idles = refl; bytes = refl })
      (ended_shows bounds after_it s.pool.idles s.pool.entered (fault_end cause) (fault_shows bounds after_it s.pool.idles cause (unkept_now done call put cause is)))
  entering_stands wish (Replied answer) is waits = entered_stands wish answer is waits

  waits_asking : (wish : LineRequest) (stage : Stage) → WaitsToEnter (Some wish) stage → StageShows bounds done s.pool.idles stage → 0 < s.pool.idles
  waits_asking wish (Asking asked) waits shows = shows
  waits_asking wish Greeting waits shows = absurd waits
  waits_asking wish Reading waits shows = absurd waits
  waits_asking wish (Refusing code flags) waits shows = absurd waits
  waits_asking wish (Saying bytes) waits shows = absurd waits
  waits_asking wish (Committing brief) waits shows = absurd waits
  waits_asking wish Polling waits shows = absurd waits
  waits_asking wish (Leaving reason) waits shows = absurd waits
  waits_asking wish (Over reason) waits shows = absurd waits

  asked_shows : s.pool.idles + idles_after 0 (turns_in after_it) ≡ bounds.idle_turns → (stage : Stage) → Requests stage s call
      → StageShows bounds done s.pool.idles stage → StageShows bounds after_it s.pool.idles (after_call stage s.pool call put).stage
  asked_shows sum (Asking asked) asks shows = asking_shows bounds done s.pool call put sum call.outcome refl shows
  asked_shows sum (Committing brief) asks shows = booking_shows bounds done s.pool call put sum call.outcome refl
  asked_shows sum Polling asks shows = told_shows bounds done s.pool call put sum call.outcome refl
  asked_shows sum (Leaving reason) asks shows = left_shows bounds done s.pool call put sum reason call.outcome refl shows
  asked_shows sum Greeting asks shows = absurd asks
  asked_shows sum Reading asks shows = absurd asks
  asked_shows sum (Refusing code flags) asks shows = absurd asks
  asked_shows sum (Saying bytes) asks shows = absurd asks
  asked_shows sum (Over reason) asks shows = absurd asks

  call_stands : (worker : ℕ) (terms : Terms) (next : Option LineRequest) → s.next ≡ next → CanCall worker terms s call put
      → Stands bounds after_it (after_called terms next s call put).pool
  call_stands worker terms (Some wish) is can =
      entering_stands wish call.outcome refl (waits_asking wish s.pool.stage (subst (λ n. WaitsToEnter n s.pool.stage) is can.waits) stands.stage)
  call_stands worker terms None is can =
      let sum : s.pool.idles + idles_after 0 (turns_in after_it) ≡ bounds.idle_turns =
      ap (λ l. s.pool.idles + idles_after 0 l) (turns_quiet done (frames.Called call put) refl) ∙ stands.idles in
      quiet bounds done s.pool stands (frames.Called call put) (after_call s.pool.stage s.pool call put) refl
      (call_within s.pool.stage s.pool call put) (asked_shows sum s.pool.stage can.requests stands.stage)

-- ---- a step

module _ (bounds : Bounds) (done : List SessionStep) (worker : ℕ) (terms : Terms) (s : LineState) (stands : Stands bounds done s.pool) where
  step_stands : (x : LineStep) → 0 < bounds.idle_turns → CanStep worker terms s x → Stands bounds (done ++ outer_step x ∷ []) (after_step terms s x).pool
  step_stands (Took bytes) positive can = took_stands bounds done s.pool stands positive bytes can.can.waiting.reading can.can.some can.some can.within
  step_stands (Heard line rest wish put) positive can =
      let v1 = (line_reaction terms s.v1 line).after in
      let t = record s { pool = record s.pool { unmet = rest }; v1 = v1 } in
      line_stands bounds done put put.fault refl s stands can.reading t (record { turns = refl; idles = refl; bytes = refl }) can.reading wish t
      (record { turns = refl; idles = refl; bytes = refl }) refl
  step_stands Overran positive can =
      at bounds done s.pool stands frames.Starved (end_stage s.pool.entered end.LineTooLong) refl
      (ended_shows bounds (done ++ frames.Starved ∷ []) s.pool.idles s.pool.entered end.LineTooLong tt)
  step_stands Idled positive can = idled_stands bounds done s.pool stands can.waiting.reading can.some
  step_stands Ended positive can =
      at bounds done s.pool stands frames.Ended (end_stage s.pool.entered (input_end s.pool.unmet)) refl
      (ended_shows bounds (done ++ frames.Ended ∷ []) s.pool.idles s.pool.entered (input_end s.pool.unmet)
      (input_shows bounds (done ++ frames.Ended ∷ []) s.pool.idles s.pool.unmet))
  step_stands Missed positive can =
      at bounds done s.pool stands frames.Missed (end_stage s.pool.entered end.ReadFault) refl
      (ended_shows bounds (done ++ frames.Missed ∷ []) s.pool.idles s.pool.entered end.ReadFault (any_last is_missed done frames.Missed refl))
  step_stands Starved positive can =
      at bounds done s.pool stands frames.Starved (end_stage s.pool.entered end.Memory) refl
      (ended_shows bounds (done ++ frames.Starved ∷ []) s.pool.idles s.pool.entered end.Memory tt)
  step_stands Spent positive can =
      at bounds done s.pool stands frames.Spent (end_stage s.pool.entered end.BytesOut) refl
      (ended_shows bounds (done ++ frames.Spent ∷ []) s.pool.idles s.pool.entered end.BytesOut
      (subst (IsBytesOut bounds) (sym (turns_quiet done frames.Spent refl)) (omega (arith, can.1, stands.bytes))))
  step_stands (Called call put) positive can = call_stands bounds done s stands call put worker terms s.next refl can

stands_on : (bounds : Bounds) (worker : ℕ) (terms : Terms) (s t : LineState) (done xs : List LineStep) → 0 < bounds.idle_turns
    → Stands bounds (outer_steps done) s.pool → Follows worker terms s xs t → Stands bounds (outer_steps (done ++ xs)) t.pool
stands_on bounds worker terms s t done [] positive stands follows = rw (follows, append-nil done) stands
stands_on bounds worker terms s t done (x ∷ xs) positive stands follows =
    subst (λ l. Stands bounds (outer_steps l) t.pool) (append_assoc done (x ∷ []) xs)
    (stands_on bounds worker terms (after_step terms s x) t (done ++ x ∷ []) xs positive
    (subst (λ l. Stands bounds l (after_step terms s x).pool) (more_outer done x)
    (step_stands bounds (outer_steps done) worker terms s stands x positive follows.0)) follows.1)

-- what a session's last state says of all steps
pub session_stands : (worker : ℕ) (terms : Terms) (manner : Manner) (xs : List LineStep) (last : LineState) → 0 < manner.idle_turns
    → Follows worker terms (new_line_state manner) xs last → Stands (session_bounds manner.idle_turns) (outer_steps xs) last.pool
session_stands worker terms manner xs last positive follows =
    stands_on (session_bounds manner.idle_turns) worker terms (new_line_state manner) last [] xs positive (reading_stands manner positive) follows

-- and its end
pub outer_ends_show : (worker : ℕ) (terms : Terms) (manner : Manner) (xs : List LineStep) (last : LineState) (reason : SessionEnd) → 0 < manner.idle_turns
    → Follows worker terms (new_line_state manner) xs last → last.pool.stage ≡ Over reason → EndShows (session_bounds manner.idle_turns) (outer_steps xs) reason
outer_ends_show worker terms manner xs last reason positive follows over =
    subst (StageShows (session_bounds manner.idle_turns) (outer_steps xs) last.pool.idles) over (session_stands worker terms manner xs last positive follows).stage
