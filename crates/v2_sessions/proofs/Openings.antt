-- How a session begins, by what its code did.
use Rattle.std.proofs.Common.{◌≡◌, inl, inr, ℕ, ◌+◌, ◌-◌, ◌<◌, ◌≤◌, false, List, [], ◌∷◌, ◌++◌, Option, Some, None, Ok, Err, length, take, map, replicate, suc, zero, refl, sym, ap, subst, ◌∙◌, append-nil, length-append, arith}
use Rattle.std.specs.Prelude.{IfSome}
use Rattle.std.proofs.lemmas.Grind.{flat_map-append}
use Rattle.std.proofs.lemmas.List.{replicate_more}
use Rattle.pool_io.specs.Seen.{SinkSeen}
use Rattle.pool_io.specs.declared.source.Took.TheVariants as took
use Rattle.pool_io.specs.declared.turn.Turn.{Turn}
use Rattle.pool_io.specs.Outside.{TakesTurn, next_count}
use Rattle.pool_io.specs.Steps.{BringsSteps, ReadStep, bytes_in, steps_of}
use Rattle.pool_io.proofs.Stepping.{brought_all, bytes_in-append, bytes_in-map, brought_bytes, brought_idle, brought_none}
use Rattle.link_turns.specs.declared.waiting.Waiting.{Waiting}
use Rattle.link_turns.specs.Waits.{TakesOf, new_waiting, waiting_after}
use Rattle.pool_io.proofs.Puts.{Adds-none}
use Rattle.pool_network.specs.Seen.{LinkSeen}
use Rattle.sv2_frames.specs.Framing.{header_of}
use Rattle.sv2_frames.specs.Holding.{IsCut}
use Rattle.pool_history.specs.Calls.{PoolCall}
use Rattle.session_steps.specs.declared.ends.SessionEnd.{SessionEnd}
use Rattle.session_steps.specs.declared.ends.SessionEnd.TheVariants as end
use Rattle.session_steps.specs.declared.manner.Manner.{Manner}
use Rattle.session_steps.specs.Answers.{greeting}
use Rattle.session_steps.specs.States.{Over, most_payload, Put, Reading, State, failed_end, new_state, next_stage, nothing_put}
use Rattle.session_steps.specs.Steps as steps
use Rattle.session_steps.specs.Steps.{BeginsOver, CanTake, Follows, Greeted, Idled, SessionStep, Starved, after_step, at_stage, bytes_in_steps, bytes_of_frames, calls_in, put_in, reads_after, turns_in, writes_after}
use Rattle.session_steps.specs.Talks.{new_talk}
use Rattle.v2_sessions.specs.declared.beginning.FirstPiece.{FirstPiece}
use Rattle.v2_sessions.specs.declared.conversation.Conversation.{Conversation}
use Rattle.v2_sessions.specs.declared.listening.Listener.{Listener}
use Rattle.v2_sessions.specs.Beginning.{Begins, EndedFirst, FailedFirst, FirstCame, GreetsAndWaits, HasWaited, IsRestOfSession, WaitsForBytes, begun_state, waited}
use Rattle.v2_sessions.specs.Links.{PutsOut}
use Rattle.v2_sessions.specs.Running.{Runs, TakesAll, has_ended}
use Rattle.v2_sessions.specs.Sessions.{IsSession}
use Rattle.v2_sessions.specs.Standing.{intake_with, state_at}
use Rattle.v2_sessions.proofs.Chains.{Follows-append, runs_on, runs_put, runs_quiet, steps_on, steps_put}
use Rattle.v2_sessions.proofs.Moves.{failed_leads, next_reads}
use Rattle.v2_sessions.proofs.Rows.{row, row_before, unchanged_by}

-- ---- the turns that are taken

-- fewer Idle turns came than are waited for
pub record Waits (idle_turns : ℕ) (waiting : Waiting) (old new : LinkSeen) : Type 0 where
  pub idles : ℕ
  pub few : idles < idle_turns
  pub counted : waiting ≡ waited idle_turns idles
  pub came : HasWaited idles [] old new

pub waits_none : (idle_turns : ℕ) (waiting : Waiting) (l : LinkSeen) → 0 < idle_turns → waiting ≡ new_waiting idle_turns → Waits idle_turns waiting l l
waits_none idle_turns waiting l some is = record {
  idles = 0;
  few = some;
  counted = is ∙ ap (λ n. record (new_waiting idle_turns) { idles = n }) (omega arith);
  came = record { took = brought_none l.source.left; reads = refl; sink = refl };
}

-- so many Idle turns
row_more : (k : ℕ) → (row k ++ []) ++ None ∷ [] ≡ row (k + 1) ++ []
row_more k = ap (λ l. l ++ None ∷ []) (append-nil (row k)) ∙ replicate_more k None ∙ sym (append-nil (row (k + 1)))

module _ (idle_turns : ℕ) (waiting : Waiting) (old middle new : LinkSeen) (buffer : List ℕ) (waits : Waits idle_turns waiting old middle) where
  idle_came : TakesOf took.Idle buffer middle new → HasWaited (waits.idles + 1) [] old new
  idle_came takes = record {
    took = subst (λ l. BringsSteps old.source.left new.source.left l) (row_more waits.idles)
        (brought_idle old.source.left middle.source.left new.source.left (row waits.idles ++ []) buffer waits.came.took takes.turns);
    reads = takes.counts ∙ waits.came.reads;
    sink = takes.sink ∙ waits.came.sink;
  }

  pub idled_more : TakesOf took.Idle buffer middle new → (now : Waiting) → now ≡ waiting_after took.Idle waiting → (now.idles ≡ 0 → ⊥) → Waits idle_turns now old new
  idled_more takes now is more =
      let left : now.idles ≡ idle_turns - waits.idles - 1 = ap (λ (w : Waiting). w.idles) is ∙ ap (λ (w : Waiting). w.idles - 1) waits.counted in
      let some : 0 < now.idles = elim-zero now.idles more in
      record {
        idles = waits.idles + 1;
        few = omega (arith, left, some);
        counted = is ∙ ap (waiting_after took.Idle) waits.counted
            ∙ ap (λ n. record (new_waiting idle_turns) { idles = n }) (omega (arith, waits.few));
        came = idle_came takes;
      }
    where
      elim-zero : (n : ℕ) → (n ≡ 0 → ⊥) → 0 < n
      elim-zero zero none = absurd (none refl)
      elim-zero (suc n) none = omega arith

  pub idled_out : TakesOf took.Idle buffer middle new → (now : Waiting) → now ≡ waiting_after took.Idle waiting → now.idles ≡ 0 → HasWaited idle_turns [] old new
  idled_out takes now is none =
      let left : now.idles ≡ idle_turns - waits.idles - 1 = ap (λ (w : Waiting). w.idles) is ∙ ap (λ (w : Waiting). w.idles - 1) waits.counted in
      let all : waits.idles + 1 ≡ idle_turns = omega (arith, left, none, waits.few) in
      subst (λ n. HasWaited n [] old new) all (idle_came takes)

  pub bytes_came : (count : ℕ) → length (take count buffer) ≡ count → 0 < count → count ≤ 4096 → TakesOf (took.Bytes count) buffer middle new
      → (now : Waiting) → now ≡ waiting_after (took.Bytes count) waiting → FirstCame idle_turns (take count buffer) now old new
  bytes_came count len some short takes now is = record {
    idles = waits.idles;
    few = waits.few;
    some = rw len some;
    short = rw len short;
    counted = rw len (is ∙ ap (waiting_after (took.Bytes count)) waits.counted);
    came = record {
      took = subst (λ l. BringsSteps old.source.left new.source.left (l ++ map Some (take count buffer))) (append-nil (row waits.idles))
          (brought_bytes old.source.left middle.source.left new.source.left (row waits.idles ++ []) count buffer waits.came.took takes.turns);
      reads = takes.counts ∙ waits.came.reads;
      sink = takes.sink ∙ waits.came.sink;
    };
  }

  pub input_ended : TakesOf took.End buffer middle new → EndedFirst idle_turns old new
  input_ended takes = record {
    idles = waits.idles;
    few = waits.few;
    came = record {
      took = end_brings old.source.left middle.source.left new.source.left (row waits.idles ++ []) waits.came.took takes.turns;
      reads = takes.counts ∙ waits.came.reads;
      sink = takes.sink ∙ waits.came.sink;
    };
    all = all_came old.source.left middle.source.left new.source.left waits.came.took takes.turns;
  }
    where
      end_brings : (a b c : Option (List Turn)) (l : List ReadStep) → BringsSteps a b l → TakesTurn b c took.End buffer → BringsSteps a c l
      end_brings None b c l brought takes = tt
      end_brings (Some told) b c l brought takes =
          let ended = rw brought.1 at takes in
          (ended.0, ended.1, brought.2 ∙ ap (λ t. l ++ steps_of t) (sym ended.2.1))

      all_came : (a b c : Option (List Turn)) → BringsSteps a b (row waits.idles ++ []) → TakesTurn b c took.End buffer
          → IfSome a (λ turns. steps_of turns ≡ row waits.idles)
      all_came None b c brought takes = tt
      all_came (Some told) b c brought takes =
          brought_all told b c (row waits.idles ++ []) buffer brought takes ∙ append-nil (row waits.idles)

  pub take_failed : TakesOf took.Failed buffer middle new → FailedFirst idle_turns old new
  take_failed takes = record {
    idles = waits.idles;
    few = waits.few;
    took = fail_brings old.source.left middle.source.left new.source.left waits.came.took takes.turns;
    reads = takes.counts ∙ ap next_count waits.came.reads;
    sink = takes.sink ∙ waits.came.sink;
  }
    where
      fail_brings : (a b c : Option (List Turn)) → BringsSteps a b (row waits.idles ++ []) → TakesTurn b c took.Failed buffer
          → BringsSteps a c (row waits.idles)
      fail_brings None b c brought takes = tt
      fail_brings (Some told) b c brought takes =
          let failed = rw brought.1 at takes in (
            failed.0,
            failed.1,
            brought.2 ∙ ap (λ l. l ++ steps_of brought.0) (append-nil (row waits.idles)) ∙ ap (λ t. row waits.idles ++ steps_of t) (sym failed.2),
          )

-- ---- the steps that these are

-- a session that took no bytes yet waits for them
no_header : (most len : ℕ) → ¬ BeginsOver most len []
no_header most len begins =
    let six : length (header_of begins.ext begins.kind len) ≡ 6 = refl in
    let parts : 0 ≡ length (header_of begins.ext begins.kind len) + length begins.more =
    ap length begins.header ∙ length-append (header_of begins.ext begins.kind len) begins.more in
    omega (arith, six, parts)

nothing_cut : IsCut []
nothing_cut = record {
  frame = record { ext = 0; kind = 0; payload = [] };
  fits = record { ext_fits = omega arith; kind_fits = omega arith; length_fits = omega arith };
  missing = header_of 0 0 0 ++ [];
  some = λ none. absurd (omega (arith, ap length none));
  whole = refl;
}

-- it, with so many Idle turns still waited for
abbrev idle_state : Manner → ℕ → State
idle_state manner idles = record (new_state manner) { stage = Reading; idles = idles }

can_take : (manner : Manner) (idles : ℕ) → CanTake (idle_state manner idles)
can_take manner idles = record {
  waiting = record { reading = refl; cut = nothing_cut; not_over = no_header (most_payload manner.declares) };
  some = omega arith;
}

idles_follow : (worker : ℕ) (manner : Manner) (k idles : ℕ) → k < idles → Follows worker (idle_state manner idles) (replicate k Idled) (idle_state manner (idles - k))
idles_follow worker manner zero idles few = ap (idle_state manner) (omega arith)
idles_follow worker manner (suc k) idles few =
    let reads : next_stage false (idles - 1) ≡ Reading = next_reads false (idles - 1) (omega (arith, few)) in
    let less : idles - 1 - k ≡ idles - suc k = omega arith in (
      can_take manner idles,
      rw (reads, ← less) (idles_follow worker manner k (idles - 1) (omega (arith, few))),
    )

module _ {A : Type 0} {worker : A → ℕ} {does : A → PoolCall → A → Type 0} {l l' : LinkSeen} {a : A} (manner : Manner) where
  -- Idle turns and one step more
  idle_runs : (k : ℕ) (x : SessionStep) (to : State) → k < manner.idle_turns → steps.CanStep (worker a) (idle_state manner (manner.idle_turns - k)) x
      → to ≡ after_step (idle_state manner (manner.idle_turns - k)) x
      → BringsSteps l.source.left l'.source.left (row k ++ steps.turn_in x) → TakesAll (has_ended (x ∷ [])) l.source.left (row k ++ steps.turn_in x)
      → l'.source.faults ≡ steps.reads_after_step l.source.faults x → l'.sink ≡ l.sink → put_in x ≡ nothing_put → steps.call_in x ≡ []
      → Runs worker does (idle_state manner manner.idle_turns) to l l' a a
  idle_runs k x to few can leads took all reads sink put calls =
      let xs = replicate k Idled in
      let turns : turns_in (xs ++ x ∷ []) ≡ row k ++ steps.turn_in x = row_before turns_in Idled (λ l. refl) k (x ∷ []) ∙ ap (λ m. row k ++ m) (append-nil (steps.turn_in x)) in
      let same = ap (λ (s : SinkSeen). s.held) sink in
      record {
        steps = xs ++ x ∷ [];
        follows = Follows-append (worker a) (idle_state manner manner.idle_turns) (idle_state manner (manner.idle_turns - k)) to xs (x ∷ [])
            (idles_follow (worker a) manner k manner.idle_turns few) (can, leads);
        took = rw turns took;
        ended = rw (turns, unchanged_by has_ended Idled (λ l. refl) k (x ∷ [])) all;
        put = rw (unchanged_by bytes_in_steps Idled (λ l. refl) k (x ∷ []), append-nil (put_in x).bytes, put, same) (Adds-none l.sink.held);
        reads = reads ∙ sym (unchanged_by (reads_after l.source.faults) Idled (λ l. refl) k (x ∷ []));
        writes = ap (λ (s : SinkSeen). s.faults) sink ∙ ap (λ (p : Put). steps.writes_after_put l.sink.faults p.fault) (sym put) ∙ sym (unchanged_by (writes_after l.sink.faults) Idled (λ l. refl) k (x ∷ []));
        acts = rw (unchanged_by calls_in Idled (λ l. refl) k (x ∷ []), append-nil (steps.call_in x), calls) refl;
        same = refl;
      }

module _ {A : Type 0} {worker : A → ℕ} {does : A → PoolCall → A → Type 0} {old : LinkSeen} {a : A} (manner : Manner) where
  greeted : {l : LinkSeen} → PutsOut (bytes_of_frames (greeting manner.role)) None old l → Runs worker does (new_state manner) (idle_state manner manner.idle_turns) old l a a
  greeted puts =
      runs_put (Greeted (record { bytes = puts.bytes; fault = None })) (bytes_of_frames (greeting manner.role)) None puts (refl, puts.front)
      refl refl refl refl refl (λ n. refl)

-- an Idle turn brings no byte
-- a session that was greeted, and took Idle turns and one step more
greeted_bytes : {A : Type 0} (worker : A → ℕ) (does : A → PoolCall → A → Type 0) (old l : LinkSeen) (a : A) (manner : Manner)
    (puts : PutsOut (bytes_of_frames (greeting manner.role)) None old l) (xs : List SessionStep)
    → bytes_in (turns_in ((greeted {worker = worker} {does = does} {old = old} {a = a} manner {l = l} puts).steps ++ xs)) ≡ bytes_in (turns_in xs)
unfolding greeted
greeted_bytes worker does old l a manner puts xs =
    ap (λ steps. bytes_in (turns_in (steps ++ xs)))
    (steps_put worker does (new_state manner) (idle_state manner manner.idle_turns) old l a (Greeted (record { bytes = puts.bytes; fault = None }))
    (bytes_of_frames (greeting manner.role)) None puts (refl, puts.front) refl refl refl refl refl (λ n. refl))

idle_bytes : {A : Type 0} (worker : A → ℕ) (does : A → PoolCall → A → Type 0) (l l' : LinkSeen) (a : A) (manner : Manner)
    (k : ℕ) (x : SessionStep) (to : State) (few : k < manner.idle_turns) (can : steps.CanStep (worker a) (idle_state manner (manner.idle_turns - k)) x)
    (leads : to ≡ after_step (idle_state manner (manner.idle_turns - k)) x)
    (took : BringsSteps l.source.left l'.source.left (row k ++ steps.turn_in x)) (all : TakesAll (has_ended (x ∷ [])) l.source.left (row k ++ steps.turn_in x))
    (reads : l'.source.faults ≡ steps.reads_after_step l.source.faults x) (sink : l'.sink ≡ l.sink) (put : put_in x ≡ nothing_put) (calls : steps.call_in x ≡ [])
    → bytes_in (turns_in (idle_runs {worker = worker} {does = does} {l = l} {l' = l'} {a = a} manner k x to few can leads took all reads sink put calls).steps)
    ≡ bytes_in (steps.turn_in x)
unfolding idle_runs
idle_bytes worker does l l' a manner k x to few can leads took all reads sink put calls =
    ap bytes_in (row_before turns_in Idled (λ l. refl) k (x ∷ []) ∙ ap (λ m. row k ++ m) (append-nil (steps.turn_in x))) ∙ unchanged_by bytes_in None (λ l. refl) k (steps.turn_in x)

waited_bytes : {A : Type 0} (worker : A → ℕ) (does : A → PoolCall → A → Type 0) (old l l' : LinkSeen) (a : A) (manner : Manner)
    (puts : PutsOut (bytes_of_frames (greeting manner.role)) None old l) (to : State) (runs : Runs worker does (idle_state manner manner.idle_turns) to l l' a a)
    → bytes_in (turns_in (runs_on (greeted {worker = worker} {does = does} {old = old} {a = a} manner {l = l} puts) runs).steps) ≡ bytes_in (turns_in runs.steps)
waited_bytes worker does old l l' a manner puts to runs =
    ap (λ steps. bytes_in (turns_in steps)) (steps_on (greeted {worker = worker} {does = does} {old = old} {a = a} manner {l = l} puts) runs)
    ∙ greeted_bytes worker does old l a manner puts runs.steps

-- a session that took no byte
abbrev pub TookNone : {A : Type 0} → (A → ℕ) → (A → PoolCall → A → Type 0) → Manner → LinkSeen → LinkSeen → A → SessionEnd → Type 0
TookNone worker does manner old new a reason =
    (session : IsSession worker does manner old new a a reason) × (bytes_in (turns_in session.runs.steps) ≡ [])

module _ {A : Type 0} {worker : A → ℕ} {does : A → PoolCall → A → Type 0} {old new : LinkSeen} {a : A} (manner : Manner) (waits : 0 < manner.idle_turns) where
  -- the first bytes came
  pub begun_runs : (buffer : List ℕ) (first : FirstPiece) → GreetsAndWaits manner buffer old new (Ok first)
      → Runs worker does (new_state manner) (begun_state manner first.waiting (take first.count buffer)) old new a a
  begun_runs buffer first begins =
      let came = begins.waits.1 in
      let piece = take first.count buffer in
      runs_on (greeted manner begins.puts)
      (idle_runs manner came.idles (steps.Took piece) (begun_state manner first.waiting piece) came.few
      (record {
        can = can_take manner (manner.idle_turns - came.idles);
        some = came.some;
        piece = came.short;
        within = omega (arith, came.short);
      })
      (rw came.counted refl) came.came.took tt came.came.reads came.came.sink refl refl)

  -- or the session is over before, and took none
  pub over_runs : (buffer : List ℕ) (reason : SessionEnd) → Begins manner buffer old new (Err reason) → TookNone worker does manner old new a reason
  over_runs buffer reason (inl begins) = waited_out reason begins.waits
    where
      waited_out : (reason : SessionEnd) → WaitsForBytes manner.idle_turns buffer begins.greeted new (Err reason) → TookNone worker does manner old new a reason
      waited_out end.Done ended =
          let s = idle_state manner (manner.idle_turns - ended.idles) in (
            record {
              last = after_step s steps.Ended;
              over = refl;
              runs = runs_on (greeted manner begins.puts)
                  (idle_runs manner ended.idles steps.Ended (after_step s steps.Ended) ended.few (can_take manner (manner.idle_turns - ended.idles)) refl
                  ended.came.took (rw (append-nil (row ended.idles)) ended.all) ended.came.reads ended.came.sink refl refl);
            },
            waited_bytes worker does old begins.greeted new a manner begins.puts _ _ ∙ idle_bytes worker does begins.greeted new a manner _ _ _ _ _ _ _ _ _ _ _ _,
          )
      waited_out end.ReadFault failed =
          let s = idle_state manner (manner.idle_turns - failed.idles) in (
            record {
              last = after_step s steps.Missed;
              over = refl;
              runs = runs_on (greeted manner begins.puts)
                  (idle_runs manner failed.idles steps.Missed (after_step s steps.Missed) failed.few (can_take manner (manner.idle_turns - failed.idles)) refl
                  (rw (append-nil (row failed.idles)) failed.took) tt failed.reads failed.sink refl refl);
            },
            waited_bytes worker does old begins.greeted new a manner begins.puts _ _ ∙ idle_bytes worker does begins.greeted new a manner _ _ _ _ _ _ _ _ _ _ _ _,
          )
      waited_out end.IdleOut out =
          let n = manner.idle_turns in
          let s = idle_state manner (n - (n - 1)) in
          let one : n - (n - 1) ≡ 1 = omega (arith, waits) in
          let all : row (n - 1) ++ None ∷ [] ≡ row n ++ [] =
          replicate_more (n - 1) None ∙ ap (λ m. row m) (omega (arith, waits)) ∙ sym (append-nil (row n)) in (
            record {
              last = after_step s Idled;
              over = rw one refl;
              runs = runs_on (greeted manner begins.puts)
                  (idle_runs manner (n - 1) Idled (after_step s Idled) (omega (arith, waits)) (can_take manner (n - (n - 1))) refl
                  (rw all out.took) tt out.reads out.sink refl refl);
            },
            waited_bytes worker does old begins.greeted new a manner begins.puts _ _ ∙ idle_bytes worker does begins.greeted new a manner _ _ _ _ _ _ _ _ _ _ _ _,
          )
      waited_out _ ended = absurd ended
  over_runs buffer reason (inr ungreeted) =
      let put : Put = record { bytes = ungreeted.puts.bytes; fault = Some ungreeted.cause } in
      let is : reason ≡ failed_end ungreeted.cause = cc in (
        record {
          last = after_step (new_state manner) (Greeted put);
          over = failed_leads ungreeted.cause false Reading ∙ ap Over (sym is);
          runs = runs_put (Greeted put) (bytes_of_frames (greeting manner.role)) (Some ungreeted.cause) ungreeted.puts (refl, ungreeted.puts.front)
              refl refl refl refl refl (λ n. refl);
        },
        ap (λ l. bytes_in (turns_in l)) (steps_put worker does _ _ _ _ a _ _ _ _ _ _ _ _ _ _ _),
      )

begun_bytes : {A : Type 0} (worker : A → ℕ) (does : A → PoolCall → A → Type 0) (old new : LinkSeen) (a : A) (manner : Manner) (waits : 0 < manner.idle_turns)
    (buffer : List ℕ) (first : FirstPiece) (begins : GreetsAndWaits manner buffer old new (Ok first))
    → bytes_in (turns_in (begun_runs {worker = worker} {does = does} {a = a} manner waits buffer first begins).steps) ≡ take first.count buffer
unfolding begun_runs
begun_bytes worker does old new a manner waits buffer first begins =
    waited_bytes worker does old begins.greeted new a manner begins.puts _ _ ∙ idle_bytes worker does begins.greeted new a manner _ _ _ _ _ _ _ _ _ _ _ _
    ∙ bytes_in-map (take first.count buffer)

-- ---- what follows

-- the first bytes are what is met first
pub begun_is : (listener : Listener) (c : Conversation) (manner : Manner) (waiting : Waiting) (piece : List ℕ) → listener.waiting ≡ waiting → listener.splitter.held ≡ []
    → c.session ≡ new_talk manner.role manner.rolling manner.declares → c.entered ≡ false → c.cursor ≡ 0
    → state_at Reading (intake_with piece listener) c ≡ begun_state manner waiting piece
begun_is listener c manner waiting piece waits none talk entered cursor = rw (waits, none, talk, entered, cursor) refl

module _ {A : Type 0} {worker : A → ℕ} {does : A → PoolCall → A → Type 0} where
  -- memory ran out for what follows
  pub unread_runs : {l : LinkSeen} {a : A} (manner : Manner) (waiting : Waiting) (piece : List ℕ)
      → IsRestOfSession worker does (begun_state manner waiting piece) l l a a end.Memory
  unread_runs manner waiting piece = record {
    last = after_step (begun_state manner waiting piece) Starved;
    over = refl;
    runs = runs_quiet Starved tt refl refl refl refl refl (λ n. refl);
  }

  -- the bytes that such a session took begin with them
  pub begun_session : {old middle new : LinkSeen} {a a' : A} (manner : Manner) → 0 < manner.idle_turns → (buffer : List ℕ) (first : FirstPiece) {reason : SessionEnd}
      → Begins manner buffer old middle (Ok first) → IsRestOfSession worker does (begun_state manner first.waiting (take first.count buffer)) middle new a a' reason
      → (session : IsSession worker does manner old new a a' reason) × (more : List ℕ) × (bytes_in (turns_in session.runs.steps) ≡ take first.count buffer ++ more)
  begun_session {old = old} {middle = middle} {a = a} manner waits buffer first (inl begins) rest =
      let begun = begun_runs manner waits buffer first begins in (
        record { last = rest.last; over = rest.over; runs = runs_on begun rest.runs },
        bytes_in (turns_in rest.runs.steps),
        ap (λ l. bytes_in (turns_in l)) (steps_on begun rest.runs)
            ∙ ap bytes_in (flat_map-append steps.turn_in begun.steps rest.runs.steps)
            ∙ bytes_in-append (turns_in begun.steps) (turns_in rest.runs.steps)
            ∙ ap (λ l. l ++ bytes_in (turns_in rest.runs.steps)) (begun_bytes worker does old middle a manner waits buffer first begins),
      )
  begun_session manner waits buffer first (inr ungreeted) rest = cc
