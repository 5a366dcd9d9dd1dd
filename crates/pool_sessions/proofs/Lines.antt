-- How a session of lines begins: Idle turns, and the first bytes.
use Rattle.std.proofs.Common.{◌≡◌, ℕ, ◌-◌, ◌<◌, false, List, [], ◌∷◌, ◌++◌, Some, None, Ok, take, map, replicate, suc, zero, refl, sym, ap, subst, ◌∙◌, append-nil, arith}
use Rattle.pool_io.specs.Seen.{SinkSeen, SourceSeen}
use Rattle.pool_io.specs.Outside.{AddsBytes}
use Rattle.pool_io.specs.Steps.{ReadStep, bytes_in}
use Rattle.pool_io.proofs.Stepping.{bytes_in-map}
use Rattle.pool_network.specs.Seen.{LinkSeen}
use Rattle.pool_history.specs.declared.events.Role.TheVariants as role
use Rattle.pool_history.specs.Calls.{PoolCall}
use Rattle.session_steps.specs.declared.manner.Manner.{Manner}
use Rattle.session_steps.specs.Answers.{greeting}
use Rattle.session_steps.specs.States.{Reading, new_state, next_stage}
use Rattle.session_steps.specs.Steps.{bytes_of_frames}
use Rattle.v2_sessions.specs.declared.beginning.FirstPiece.{FirstPiece}
use Rattle.v2_sessions.specs.Beginning.{GreetsAndWaits}
use Rattle.v2_sessions.specs.Links.{PutsOut}
use Rattle.v2_sessions.proofs.Moves.{next_reads}
use Rattle.v2_sessions.proofs.Rows.{row, row_before, unchanged_by}
use Rattle.v1_translate.specs.State.{Terms}
use Rattle.v1_sessions.specs.Running.{RunsLines}
use Rattle.v1_sessions.specs.States.{LineState, begun_lines, new_line_state}
use Rattle.v1_sessions.specs.Steps.{CanTake, Follows, Idled, LineStep, Took, bytes_of, calls_of, has_ended, reads_after, turns_of, writes_after}
use Rattle.v1_sessions.specs.Chains.{Follows-append}

-- a session that took no bytes yet, with so many Idle turns still waited for
abbrev idle_state : Manner → ℕ → LineState
idle_state manner idles = record (new_line_state manner) { pool = record (new_state manner) { stage = Reading; idles = idles } }

can_take : (manner : Manner) (idles : ℕ) → CanTake (idle_state manner idles)
can_take manner idles = record {
  waiting = record { reading = refl; text = record { one = refl; short = omega arith } };
  some = omega arith;
}

idles_follow : (worker : ℕ) (terms : Terms) (manner : Manner) (k idles : ℕ) → k < idles
    → Follows worker terms (idle_state manner idles) (replicate k Idled) (idle_state manner (idles - k))
idles_follow worker terms manner zero idles few = ap (idle_state manner) (omega arith)
idles_follow worker terms manner (suc k) idles few =
    let reads : next_stage false (idles - 1) ≡ Reading = next_reads false (idles - 1) (omega (arith, few)) in
    let less : idles - 1 - k ≡ idles - suc k = omega arith in (
      can_take manner idles,
      rw (reads, ← less) (idles_follow worker terms manner k (idles - 1) (omega (arith, few))),
    )

-- a miner isn't greeted
none_put : (whole : List ℕ) (l l' : LinkSeen) → whole ≡ [] → (puts : PutsOut whole None l l') → AddsBytes l.sink.held l'.sink.held []
none_put whole l l' none puts = subst (AddsBytes l.sink.held l'.sink.held) (puts.front ∙ none) puts.added

-- steps that took these bytes and no others
pub record HasBegun {A : Type 0} (worker : A → ℕ) (does : A → PoolCall → A → Type 0) (terms : Terms) (manner : Manner) (to : LineState)
    (old new : LinkSeen) (a : A) (piece : List ℕ) : Type 0 where
  pub runs : RunsLines worker does terms (new_line_state manner) to old new a a
  pub bytes : bytes_in (turns_of runs.steps) ≡ piece

-- the first bytes of a miner came
pub lines_begun : {A : Type 0} (worker : A → ℕ) (does : A → PoolCall → A → Type 0) (terms : Terms) (manner : Manner) (old new : LinkSeen) (a : A)
    → manner.role ≡ role.Miner → (buffer : List ℕ) (first : FirstPiece) → GreetsAndWaits manner buffer old new (Ok first)
    → HasBegun worker does terms manner (begun_lines manner first.waiting (take first.count buffer)) old new a (take first.count buffer)
lines_begun worker does terms manner old new a miner buffer first begins =
    let came = begins.waits.1 in
    let puts = begins.puts in
    let piece = take first.count buffer in
    let k = came.idles in
    let xs : List LineStep = replicate k Idled in
    let step = Took piece in
    let to = begun_lines manner first.waiting piece in
    let turns : turns_of (xs ++ step ∷ []) ≡ row k ++ map Some piece = row_before turns_of Idled (λ l. refl) k (step ∷ []) ∙ ap (λ m. row k ++ m) (append-nil (map Some piece)) in
    let sink = ap (λ (s : SinkSeen). s.held) came.came.sink in
    record {
      runs = record {
        steps = xs ++ step ∷ [];
        follows = Follows-append (worker a) terms (idle_state manner manner.idle_turns) (idle_state manner (manner.idle_turns - k)) to xs (step ∷ [])
            (idles_follow (worker a) terms manner k manner.idle_turns came.few) (
              record { can = can_take manner (manner.idle_turns - k); some = came.some; piece = came.short; within = omega (arith, came.short) },
              rw came.counted refl,
            );
        took = rw (turns, ← ap (λ (s : SourceSeen). s.left) puts.source) came.came.took;
        ended = rw (unchanged_by has_ended Idled (λ l. refl) k (step ∷ [])) tt;
        put = rw (unchanged_by bytes_of Idled (λ l. refl) k (step ∷ []), sink) (none_put (bytes_of_frames (greeting manner.role)) old begins.greeted (ap (λ r. bytes_of_frames (greeting r)) miner) puts);
        reads = came.came.reads ∙ ap (λ (s : SourceSeen). s.faults) puts.source ∙ sym (unchanged_by (reads_after old.source.faults) Idled (λ l. refl) k (step ∷ []));
        writes = ap (λ (s : SinkSeen). s.faults) came.came.sink ∙ puts.writes ∙ sym (unchanged_by (writes_after old.sink.faults) Idled (λ l. refl) k (step ∷ []));
        acts = rw (unchanged_by calls_of Idled (λ l. refl) k (step ∷ [])) refl;
        same = refl;
      };
      bytes = ap bytes_in turns ∙ unchanged_by bytes_in None (λ l. refl) k (map Some piece) ∙ bytes_in-map piece;
    }
