-- The turns of a session, by what its code did.
use Rattle.std.proofs.Common.{◌≡◌, ℕ, ◌-◌, ◌<◌, ◌≤◌, ◌++◌, Bool, true, false, List, [], Option, Some, None, Result, Ok, Err, length, take, drop, refl, sym, ap, subst, ◌∙◌, append_assoc, arith}
use Rattle.std.specs.Prelude.{OnOk}
use Rattle.std.proofs.lemmas.List.{take-append-drop, take_rest}
use Rattle.session_steps.specs.declared.manner.Manner.{Manner}
use Rattle.pool_io.specs.Seen.{SinkSeen}
use Rattle.pool_io.specs.declared.sink.SinkFailed.{SinkFailed}
use Rattle.pool_io.specs.declared.sink.SinkFailed.TheVariants as sink
use Rattle.pool_io.specs.declared.source.Took.TheVariants as took
use Rattle.pool_io.specs.declared.turn.Turn.{Turn}
use Rattle.pool_io.specs.Outside.{TakesTurn}
use Rattle.pool_io.specs.Steps.{BringsSteps, steps_of}
use Rattle.pool_io.proofs.Stepping.{brought_bytes, brought_idle, brought_none, steps_of-ended}
use Rattle.link_turns.specs.declared.waiting.Limit.TheVariants as limit
use Rattle.link_turns.specs.declared.waiting.Waiting.{Waiting}
use Rattle.link_turns.specs.Waits.{TakesOf}
use Rattle.pool_io.proofs.Puts.{Adds-none}
use Rattle.pool_network.specs.Seen.{LinkSeen}
use Rattle.sv2_frames.specs.Holding.{Holding, HoldsOver, IsCutWithin, frame_end}
use Rattle.sv2_frames.proofs.Feeding.{present_after}
use Rattle.pool_history.specs.Calls.{PoolCall}
use Rattle.session_steps.specs.declared.ends.SessionEnd.{SessionEnd}
use Rattle.session_steps.specs.declared.ends.SessionEnd.TheVariants as end
use Rattle.session_steps.specs.declared.meeting.SetupCode.{SetupCode}
use Rattle.session_steps.specs.declared.meeting.Step.{Step}
use Rattle.session_steps.specs.Answers.{greeting, refusal_frame}
use Rattle.session_steps.specs.States.{State, Greeting, Reading, Refusing, Saying, end_stage, failed_end, input_end, most_payload, new_state, news_stage, next_stage, put_stage}
use Rattle.session_steps.specs.Steps as steps
use Rattle.session_steps.specs.Steps.{CanTake, Framed, Greeted, Overran, Refused, Said, Starved, bytes_of_frames, met_stage}
use Rattle.session_steps.specs.Talks.{new_talk}
use Rattle.v2_sessions.specs.declared.conversation.Conversation.{Conversation}
use Rattle.v2_sessions.specs.declared.listening.Listener.{Listener}
use Rattle.v2_sessions.specs.Links.{PutsOut}
use Rattle.v2_sessions.specs.Meeting.{MeetsHeld}
use Rattle.v2_sessions.specs.Running.{Runs, TakesAll}
use Rattle.session_steps.proofs.Deciding.{held_waits}
use Rattle.session_steps.proofs.Streams.{follows_declares}
use Rattle.v2_sessions.specs.Standing.{GoesOnOrEnds, HasMetAll, HoldsNoMore, Intake, IsListening, counted, intake_of, intake_with, new_intake, stage_or, state_at}
use Rattle.v2_sessions.proofs.Chains.{runs_none, runs_on, runs_put, runs_quiet, runs_step}
use Rattle.v2_sessions.specs.Sessions.{ReadsOn}
use Rattle.v2_sessions.proofs.Moves.{next_reads, put_end, put_stage_or}

-- a refused setup ends the session, however its answer was put
abbrev pub refused_end : Option SinkFailed → SessionEnd
refused_end None = end.BadSetup
refused_end (Some cause) = failed_end cause

refused_stage : (entered : Bool) (fault : Option SinkFailed) → end_stage entered (refused_end fault) ≡ put_stage fault entered (end_stage entered end.BadSetup)
refused_stage entered None = refl
refused_stage entered (Some sink.Failed) = refl
refused_stage entered (Some sink.Memory) = refl

module _ {A : Type 0} {worker : A → ℕ} {does : A → PoolCall → A → Type 0} {l l' : LinkSeen} {a : A} (intake : Intake) (c : Conversation) where
  pub greeted_runs : (fault : Option SinkFailed) → PutsOut (bytes_of_frames (greeting c.session.role)) fault l l'
      → Runs worker does (state_at Greeting intake c) (state_at (stage_or Reading c.entered (put_end fault)) intake c) l l' a a
  greeted_runs fault puts =
      runs_put (Greeted (record { bytes = puts.bytes; fault = fault })) (bytes_of_frames (greeting c.session.role)) fault puts (refl, puts.front)
      (ap (λ stage. state_at stage intake c) (put_stage_or fault c.entered Reading))
      refl refl refl refl (λ n. refl)

  pub refused_runs : (code : SetupCode) (flags : ℕ) (fault : Option SinkFailed) → PutsOut (refusal_frame code flags) fault l l'
      → Runs worker does (state_at (Refusing code flags) intake c) (state_at (end_stage c.entered (refused_end fault)) intake c) l l' a a
  refused_runs code flags fault puts =
      runs_put (Refused (record { bytes = puts.bytes; fault = fault })) (refusal_frame code flags) fault puts puts.front
      (ap (λ stage. state_at stage intake c) (refused_stage c.entered fault)) refl refl refl refl (λ n. refl)

  pub said_runs : (bytes : List ℕ) (fault : Option SinkFailed) → PutsOut bytes fault l l'
      → Runs worker does (state_at (Saying bytes) intake c) (state_at (stage_or Reading c.entered (put_end fault)) intake c) l l' a a
  said_runs bytes fault puts =
      runs_put (Said (record { bytes = puts.bytes; fault = fault })) bytes fault puts puts.front
      (ap (λ stage. state_at stage intake c) (put_stage_or fault c.entered Reading)) refl refl refl refl (λ n. refl)

-- an intake that waits for something
abbrev pub one_idle : Intake
one_idle = record { idle_turns = 1; idles = 1; bytes = 0; unmet = [] }

-- whether declarations are taken stays as it is
pub runs_declares : {A : Type 0} {worker : A → ℕ} {does : A → PoolCall → A → Type 0} {s t : State} {l l' : LinkSeen} {a a' : A}
    → Runs worker does s t l l' a a' → t.talk.declares ≡ s.talk.declares
runs_declares {worker = worker} {s = s} {t = t} {a = a} runs = follows_declares (worker a) s t runs.steps runs.follows

module _ {A : Type 0} {worker : A → ℕ} {does : A → PoolCall → A → Type 0} {l : LinkSeen} {a : A} (intake : Intake) (c : Conversation) where
  -- a header over the limit
  pub overran_runs : (holding : Holding) (rest : List ℕ) (len : ℕ) → holding.limit ≡ most_payload c.session.declares → HoldsOver len holding
      → Runs worker does (state_at Reading (record intake { unmet = holding.held ++ rest }) c)
      (state_at (end_stage c.entered (end.TooLong len)) (record intake { unmet = holding.held ++ rest }) c) l l a a
  overran_runs holding rest len limit over =
      runs_quiet (Overran len)
      (record {
        reading = refl;
        begins = record {
          ext = over.ext;
          kind = over.kind;
          more = rest;
          header = ap (λ bytes. bytes ++ rest) over.header;
          ext_fits = over.ext_fits;
          kind_fits = over.kind_fits;
          length_fits = over.length_fits;
          over = rw limit at over.over;
        };
      })
      refl refl refl refl refl (λ n. refl)

  -- memory ran out
  pub starved_runs : Runs worker does (state_at Reading intake c) (state_at (end_stage c.entered end.Memory) intake c) l l a a
  starved_runs = runs_quiet Starved tt refl refl refl refl refl (λ n. refl)

  -- so it was before the greeting
  pub unserved_runs : Runs worker does (state_at Greeting intake c) (state_at (end_stage c.entered end.Memory) intake c) l l a a
  unserved_runs = runs_quiet Starved tt refl refl refl refl refl (λ n. refl)

  -- a frame
  pub framed_runs : (holding : Holding) (rest : List ℕ) (made : Step) (new : Conversation) → holding.limit ≡ most_payload c.session.declares → MeetsHeld holding c made new
      → Runs worker does (state_at Reading (record intake { unmet = holding.held ++ rest }) c) (state_at (met_stage new.entered made) (record intake { unmet = rest }) new) l l a a
  framed_runs holding rest made new limit meets =
      runs_quiet (Framed (record { frame = meets.frame; rest = rest; step = made; talk = new.session }))
      (record {
        reading = refl;
        whole = ap (λ bytes. bytes ++ rest) meets.whole;
        fits = meets.fits;
        within = rw limit at meets.within;
        meets = meets.meets;
      })
      (rw (meets.entered, meets.cursor) refl)
      refl refl refl refl (λ n. refl)

-- the end of the input
pub end_brings : (old new : Option (List Turn)) (buffer : List ℕ) → TakesTurn old new took.End buffer → BringsSteps old new [] × TakesAll true old []
end_brings None new buffer takes = (tt, tt)
end_brings (Some turns) new buffer takes =
    let none = steps_of-ended turns takes.2.0 in
    ((takes.0, takes.1, ap steps_of (sym takes.2.1)), none)

-- a take that failed
pub failed_brings : (old new : Option (List Turn)) (buffer : List ℕ) → TakesTurn old new took.Failed buffer → BringsSteps old new []
failed_brings None new buffer takes = tt
failed_brings (Some turns) new buffer takes = (takes.0, takes.1, ap steps_of (sym takes.2))

-- what is held once all is met is cut within the limit, and no more than that
cut_at_most : (declares : Bool) (holding : Holding) → HasMetAll declares holding → IsCutWithin (record { held = holding.held; limit = most_payload declares })
cut_at_most declares holding met = subst (λ n. IsCutWithin (record { held = holding.held; limit = n })) met.limit met.cut

held_at_most : (declares : Bool) (holding : Holding) → HasMetAll declares holding → length holding.held ≤ frame_end (most_payload declares) holding.held
held_at_most declares holding met = subst (λ n. length holding.held ≤ frame_end n holding.held) met.limit met.no_more

module _ (listener : Listener) (c : Conversation) (listening : IsListening c.session.declares listener) where
  can_take : CanTake (state_at Reading (intake_of listener) c)
  can_take = record {
    waiting = record {
      reading = refl;
      cut = (cut_at_most c.session.declares listener.splitter listening.met).cut;
      not_over = held_waits (most_payload c.session.declares) listener.splitter.held (cut_at_most c.session.declares listener.splitter listening.met)
          (held_at_most c.session.declares listener.splitter listening.met);
    };
    some = listening.below.some;
  }

  module _ {A : Type 0} {worker : A → ℕ} {does : A → PoolCall → A → Type 0} {l l' : LinkSeen} {a : A} (buffer : List ℕ) where
    pub took_runs : (n : ℕ) → length (take n buffer) ≡ n → 0 < n → n ≤ 4096 → n ≤ listener.waiting.bytes → TakesOf (took.Bytes n) buffer l l'
        → Runs worker does (state_at Reading (intake_of listener) c) (state_at Reading (intake_with (take n buffer) (counted (took.Bytes n) listener)) c) l l' a a
    took_runs n len some piece within takes =
        runs_step (steps.Took (take n buffer)) (record { can = can_take; some = rw len some; piece = rw len piece; within = rw len within })
        (ap (λ m. state_at Reading (record (intake_with (take n buffer) (counted (took.Bytes n) listener)) { bytes = listener.waiting.bytes - m }) c) (sym len))
        (brought_bytes l.source.left l.source.left l'.source.left [] n buffer (brought_none l.source.left) takes.turns) tt
        (rw (ap (λ (s : SinkSeen). s.held) takes.sink) (Adds-none l.sink.held)) takes.counts (ap (λ (s : SinkSeen). s.faults) takes.sink) refl refl

    pub idled_runs : TakesOf took.Idle buffer l l'
        → Runs worker does (state_at Reading (intake_of listener) c)
        (state_at (news_stage c.entered (listener.waiting.idles - 1)) (intake_of (counted took.Idle listener)) c) l l' a a
    idled_runs takes =
        runs_step steps.Idled can_take refl
        (brought_idle l.source.left l.source.left l'.source.left [] buffer (brought_none l.source.left) takes.turns) tt
        (rw (ap (λ (s : SinkSeen). s.held) takes.sink) (Adds-none l.sink.held)) takes.counts (ap (λ (s : SinkSeen). s.faults) takes.sink) refl refl

    pub ended_runs : TakesOf took.End buffer l l'
        → Runs worker does (state_at Reading (intake_of listener) c) (state_at (end_stage c.entered (input_end listener.splitter.held)) (intake_of listener) c) l l' a a
    ended_runs takes =
        let brings = end_brings l.source.left l'.source.left buffer takes.turns in
        runs_step steps.Ended can_take refl brings.0 brings.1 (rw (ap (λ (s : SinkSeen). s.held) takes.sink) (Adds-none l.sink.held)) takes.counts (ap (λ (s : SinkSeen). s.faults) takes.sink) refl refl

    pub missed_runs : TakesOf took.Failed buffer l l'
        → Runs worker does (state_at Reading (intake_of listener) c) (state_at (end_stage c.entered end.ReadFault) (intake_of listener) c) l l' a a
    missed_runs takes =
        runs_step steps.Missed can_take refl (failed_brings l.source.left l'.source.left buffer takes.turns) tt
        (rw (ap (λ (s : SinkSeen). s.held) takes.sink) (Adds-none l.sink.held)) takes.counts (ap (λ (s : SinkSeen). s.faults) takes.sink) refl refl

-- as many bytes came as are taken
pub spent_runs : {A : Type 0} {worker : A → ℕ} {does : A → PoolCall → A → Type 0} {l : LinkSeen} {a : A} (intake : Intake) (c : Conversation)
    → IsCutWithin (record { held = intake.unmet; limit = most_payload c.session.declares }) → length intake.unmet ≤ frame_end (most_payload c.session.declares) intake.unmet → intake.bytes ≡ 0
    → Runs worker does (state_at Reading intake c) (state_at (end_stage c.entered end.BytesOut) intake c) l l a a
spent_runs intake c cut no_more none =
    runs_quiet steps.Spent (record { reading = refl; cut = cut.cut; not_over = held_waits (most_payload c.session.declares) intake.unmet cut no_more }, none) refl refl refl refl refl (λ n. refl)

-- a step that leads on to more
pub reads_first : {A : Type 0} {worker : A → ℕ} {does : A → PoolCall → A → Type 0} {l l' l'' : LinkSeen} {a a' a'' : A} {before middle kept : Intake} {old new : Conversation} {result : Result Unit SessionEnd}
    → Runs worker does (state_at Reading before old) (state_at Reading middle old) l l' a a' → ReadsOn worker does middle kept old new l' l'' a' a'' result
    → ReadsOn worker does before kept old new l l'' a a'' result
reads_first first then = record { intake = then.intake; kept_is = then.kept_is; runs = runs_on first then.runs }

-- what stands in any case
on_any : (P : Type 0) (result : Result Unit SessionEnd) → P → OnOk result P
on_any P (Ok _) p = p
on_any P (Err _) p = tt

-- steps that leave the intake as it is
pub reads_at : {A : Type 0} {worker : A → ℕ} {does : A → PoolCall → A → Type 0} {l l' : LinkSeen} {a a' : A} {before : Intake} (intake : Intake) {old new : Conversation} {result : Result Unit SessionEnd}
    → Runs worker does (state_at Reading before old) (state_at (stage_or Reading new.entered result) intake new) l l' a a' → ReadsOn worker does before intake old new l l' a a' result
reads_at intake {result = result} runs = record { intake = intake; kept_is = on_any (intake ≡ intake) result refl; runs = runs }

-- what was fed and what is left of the piece are what was held and the piece
pub fed_whole : (held held' rest : List ℕ) (count : ℕ) → held' ≡ held ++ take count rest → held' ++ take (length rest - count) (drop count rest) ≡ held ++ rest
fed_whole held held' rest count fed =
    ap (λ l. held' ++ l) (take_rest rest count) ∙ ap (λ l. l ++ drop count rest) fed
    ∙ append_assoc held (take count rest) (drop count rest) ∙ ap (λ l. held ++ l) (take-append-drop count rest)

-- what a splitter was fed with is no more than that
pub fed_no_more : (limit : ℕ) (all : List ℕ) (new : Holding) → new.held ≡ take (frame_end limit all) all → new.limit ≡ limit → HoldsNoMore new
fed_no_more limit all new fed same = rw (fed, same) (present_after limit all)

-- once all frames are met, the next turn is taken, or as many bytes came as are taken
pub met_goes_on : {A : Type 0} {worker : A → ℕ} {does : A → PoolCall → A → Type 0} {l : LinkSeen} {a : A} (listener : Listener) (c : Conversation) (result : Result Unit SessionEnd)
    → HasMetAll c.session.declares listener.splitter → 0 < listener.waiting.idles → GoesOnOrEnds listener.waiting result
    → Runs worker does (state_at Reading (intake_of listener) c) (state_at (stage_or Reading c.entered result) (intake_of listener) c) l l a a
met_goes_on listener c (Ok _) met waits goes = runs_none refl
met_goes_on listener c (Err reason) met waits (limit.IdleOut, is, reason_is) = absurd (omega (arith, is, waits))
met_goes_on listener c (Err reason) met waits (limit.BytesOut, is, reason_is) =
    rw reason_is (spent_runs (intake_of listener) c (cut_at_most c.session.declares listener.splitter met) (held_at_most c.session.declares listener.splitter met) is.1)

-- a listener that met all goes on listening, where no limit is reached
pub listens_on : (declares before : Bool) (listener : Listener) (result : Result Unit SessionEnd) → declares ≡ before → HasMetAll before listener.splitter
    → listener.waiting.idles ≤ listener.waiting.idle_turns → GoesOnOrEnds listener.waiting result → OnOk result (IsListening declares listener)
listens_on declares before listener (Ok _) same met most goes = record {
  met = subst (λ d. HasMetAll d listener.splitter) (sym same) met;
  below = record { some = goes.1; waits = goes.0; most = most };
}
listens_on declares before listener (Err reason) same met most goes = tt

-- once an Idle turn's news are told, the same, or too many came in a row
pub idle_goes_on : (entered : Bool) (waiting : Waiting) (result : Result Unit SessionEnd) → 0 < waiting.bytes → GoesOnOrEnds waiting result
    → next_stage entered waiting.idles ≡ stage_or Reading entered result
idle_goes_on entered waiting (Ok _) some goes = next_reads entered waiting.idles goes.0
idle_goes_on entered waiting (Err reason) some (limit.IdleOut, is, reason_is) = rw (is, reason_is) refl
idle_goes_on entered waiting (Err reason) some (limit.BytesOut, is, reason_is) = absurd (omega (arith, is.1, some))

-- a session begins
pub new_is : (c : Conversation) (manner : Manner) → c.session ≡ new_talk manner.role manner.rolling manner.declares → c.entered ≡ false → c.cursor ≡ 0
    → state_at Greeting (new_intake manner.idle_turns) c ≡ new_state manner
new_is c manner talk entered cursor = rw (talk, entered, cursor) refl
