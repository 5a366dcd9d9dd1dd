-- What a session of lines did goes on by one step or by more.
use Rattle.std.proofs.Common.{◌≡◌, ℕ, ◌||◌, Bool, true, false, List, [], ◌∷◌, ◌++◌, Option, refl, sym, ap, ◌∙◌, append-nil}
use Rattle.std.proofs.lemmas.Grind.{flat_map-append}
use Rattle.std.proofs.lemmas.List.Folds.{list_any-append}
use Rattle.pool_io.specs.declared.source.Took.{Took}
use Rattle.pool_io.specs.Seen.{SinkSeen, SourceSeen}
use Rattle.pool_io.specs.declared.sink.SinkFailed.{SinkFailed}
use Rattle.pool_io.specs.Outside.{AddsBytes}
use Rattle.pool_io.specs.Steps.{BringsSteps}
use Rattle.pool_io.proofs.Stepping.{brought_none}
use Rattle.pool_io.proofs.Puts.{Adds-more, Adds-none}
use Rattle.pool_network.specs.Seen.{LinkSeen}
use Rattle.link_turns.specs.Waits.{TakesOf}
use Rattle.pool_history.specs.declared.asking.Request.{Request}
use Rattle.pool_history.specs.Calls.{PoolCall}
use Rattle.v2_sessions.specs.declared.acting.Acted.{Acted}
use Rattle.v2_sessions.specs.Answerers.{Acts, MakesCall}
use Rattle.v2_sessions.specs.Links.{PutsOut}
use Rattle.v2_sessions.specs.Running.{TakesAll}
use Rattle.v2_sessions.proofs.Chains.{Acts-append, Brings-more, all_more}
use Rattle.session_steps.specs.States.{nothing_put}
use Rattle.session_steps.specs.Steps.{writes_after_put}
use Rattle.v1_translate.specs.State.{Terms}
use Rattle.v1_sessions.specs.Running.{RunsLines}
use Rattle.v1_sessions.specs.States.{LineState}
use Rattle.v1_sessions.specs.Steps.{CanCall, CanStep, Called, Follows, LineStep, after_step, bytes_of, call_of, calls_of, has_ended, is_end, put_of, reads_after, reads_after_step, turn_of, turns_of, writes_after}

pub Follows-append : (worker : ℕ) (terms : Terms) (s t u : LineState) (xs ys : List LineStep) → Follows worker terms s xs t → Follows worker terms t ys u
    → Follows worker terms s (xs ++ ys) u
Follows-append worker terms s t u [] ys first more = rw first at more
Follows-append worker terms s t u (x ∷ xs) ys first more = (first.0, Follows-append worker terms (after_step terms s x) t u xs ys first.1 more)

reads_after-append : (count : ℕ) (xs ys : List LineStep) → reads_after count (xs ++ ys) ≡ reads_after (reads_after count xs) ys
reads_after-append count [] ys = refl
reads_after-append count (x ∷ xs) ys = reads_after-append (reads_after_step count x) xs ys

writes_after-append : (count : ℕ) (xs ys : List LineStep) → writes_after count (xs ++ ys) ≡ writes_after (writes_after count xs) ys
writes_after-append count [] ys = refl
writes_after-append count (x ∷ xs) ys = writes_after-append (writes_after_put count (put_of x).fault) xs ys

pub runs_on : {A : Type 0} {worker : A → ℕ} {does : A → PoolCall → A → Type 0} {terms : Terms} {s t u : LineState} {l l' l'' : LinkSeen} {a a' a'' : A}
    → RunsLines worker does terms s t l l' a a' → RunsLines worker does terms t u l' l'' a' a'' → RunsLines worker does terms s u l l'' a a''
runs_on {worker = worker} {does = does} {terms = terms} {s = s} {t = t} {u = u} {l = l} {l' = l'} {l'' = l''} {a = a} {a' = a'} {a'' = a''} first more =
    let xs = first.steps in
    let ys = more.steps in
    record {
      steps = xs ++ ys;
      follows = Follows-append (worker a) terms s t u xs ys first.follows (rw first.same at more.follows);
      took = rw (flat_map-append turn_of xs ys) (Brings-more l.source.left l'.source.left l''.source.left (turns_of xs) (turns_of ys) first.took more.took);
      ended = rw (list_any-append is_end xs ys, flat_map-append turn_of xs ys)
          (all_more (has_ended xs) (has_ended ys) l.source.left l'.source.left l''.source.left (turns_of xs) (turns_of ys) first.took more.took first.ended more.ended);
      put = rw (flat_map-append (λ x. (put_of x).bytes) xs ys)
          (Adds-more l.sink.held l'.sink.held l''.sink.held (bytes_of xs) (bytes_of ys) first.put more.put);
      reads = more.reads ∙ ap (λ n. reads_after n ys) first.reads ∙ sym (reads_after-append l.source.faults xs ys);
      writes = more.writes ∙ ap (λ n. writes_after n ys) first.writes ∙ sym (writes_after-append l.sink.faults xs ys);
      acts = rw (flat_map-append call_of xs ys) (Acts-append does a a' a'' (calls_of xs) (calls_of ys) first.acts more.acts);
      same = more.same ∙ first.same;
    }

-- the steps of both
pub steps_on : {A : Type 0} {worker : A → ℕ} {does : A → PoolCall → A → Type 0} {terms : Terms} {s t u : LineState} {l l' l'' : LinkSeen} {a a' a'' : A}
    → (first : RunsLines worker does terms s t l l' a a') (more : RunsLines worker does terms t u l' l'' a' a'') → (runs_on first more).steps ≡ first.steps ++ more.steps
unfolding runs_on
steps_on first more = refl

-- nothing was done
pub runs_none : {A : Type 0} {worker : A → ℕ} {does : A → PoolCall → A → Type 0} {terms : Terms} {s t : LineState} {l : LinkSeen} {a : A}
    → t ≡ s → RunsLines worker does terms s t l l a a
runs_none {l = l} same = record {
  steps = [];
  follows = same;
  took = brought_none l.source.left;
  ended = tt;
  put = Adds-none l.sink.held;
  reads = refl;
  writes = refl;
  acts = refl;
  same = refl;
}

or_false : (p : Bool) → (p || false) ≡ p
or_false true = refl
or_false false = refl

-- one step
pub runs_step : {A : Type 0} {worker : A → ℕ} {does : A → PoolCall → A → Type 0} {terms : Terms} {s t : LineState} {l l' : LinkSeen} {a a' : A}
    → (x : LineStep) → CanStep (worker a) terms s x → t ≡ after_step terms s x → BringsSteps l.source.left l'.source.left (turn_of x)
    → TakesAll (is_end x) l.source.left (turn_of x) → AddsBytes l.sink.held l'.sink.held (put_of x).bytes
    → l'.source.faults ≡ reads_after_step l.source.faults x → l'.sink.faults ≡ writes_after_put l.sink.faults (put_of x).fault
    → Acts does a (call_of x) a' → worker a' ≡ worker a → RunsLines worker does terms s t l l' a a'
runs_step x can leads took all put reads writes acts same = record {
  steps = x ∷ [];
  follows = (can, leads);
  took = rw (append-nil (turn_of x)) took;
  ended = rw (or_false (is_end x), append-nil (turn_of x)) all;
  put = rw (append-nil (put_of x).bytes) put;
  reads = reads;
  writes = writes;
  acts = rw (append-nil (call_of x)) acts;
  same = same;
}

-- one turn that is taken
pub runs_turn : {A : Type 0} {worker : A → ℕ} {does : A → PoolCall → A → Type 0} {terms : Terms} {s t : LineState} {l l' : LinkSeen} {a : A} {answered : Took} {buffer : List ℕ}
    → (x : LineStep) → TakesOf answered buffer l l' → CanStep (worker a) terms s x → t ≡ after_step terms s x → BringsSteps l.source.left l'.source.left (turn_of x)
    → TakesAll (is_end x) l.source.left (turn_of x) → put_of x ≡ nothing_put → l'.source.faults ≡ reads_after_step l.source.faults x → call_of x ≡ []
    → RunsLines worker does terms s t l l' a a
runs_turn {l = l} x takes can leads took all put reads calls =
    runs_step x can leads took all (rw (put, ap (λ (s : SinkSeen). s.held) takes.sink) (Adds-none l.sink.held)) reads (rw put (ap (λ (s : SinkSeen). s.faults) takes.sink))
    (rw calls refl) refl

-- one step that takes, puts and asks nothing
pub runs_quiet : {A : Type 0} {worker : A → ℕ} {does : A → PoolCall → A → Type 0} {terms : Terms} {s t : LineState} {l : LinkSeen} {a : A}
    → (x : LineStep) → CanStep (worker a) terms s x → t ≡ after_step terms s x → turn_of x ≡ [] → is_end x ≡ false → put_of x ≡ nothing_put → call_of x ≡ []
    → ((n : ℕ) → n ≡ reads_after_step n x) → RunsLines worker does terms s t l l a a
runs_quiet {l = l} x can leads turns end put calls reads =
    runs_step x can leads (rw turns (brought_none l.source.left)) (rw end tt) (rw put (Adds-none l.sink.held)) (reads l.source.faults) (rw put refl)
    (rw calls refl) refl

-- one put
pub runs_put : {A : Type 0} {worker : A → ℕ} {does : A → PoolCall → A → Type 0} {terms : Terms} {s t : LineState} {l l' : LinkSeen} {a : A}
    → (x : LineStep) (whole : List ℕ) (fault : Option SinkFailed) (puts : PutsOut whole fault l l') → CanStep (worker a) terms s x → t ≡ after_step terms s x
    → turn_of x ≡ [] → is_end x ≡ false → put_of x ≡ record { bytes = puts.bytes; fault = fault } → call_of x ≡ []
    → ((n : ℕ) → n ≡ reads_after_step n x) → RunsLines worker does terms s t l l' a a
runs_put {l = l} x whole fault puts can leads turns end put calls reads =
    runs_step x can leads (rw (turns, ap (λ (s : SourceSeen). s.left) puts.source) (brought_none l.source.left)) (rw end tt) (rw put puts.added) (ap (λ (s : SourceSeen). s.faults) puts.source ∙ reads l.source.faults)
    (rw put puts.writes) (rw calls refl) refl

-- one call, and what is put of its answer
pub runs_call : {A : Type 0} {worker : A → ℕ} {does : A → PoolCall → A → Type 0} {terms : Terms} {s t : LineState} {l l' : LinkSeen} {a a' : A} {asked : Request} {acted : Acted}
    → (made : MakesCall worker does a asked acted a') (whole : List ℕ) (fault : Option SinkFailed) (puts : PutsOut whole fault l l')
    → CanCall (worker a) terms s made.call (record { bytes = puts.bytes; fault = fault })
    → t ≡ after_step terms s (Called made.call (record { bytes = puts.bytes; fault = fault }))
    → RunsLines worker does terms s t l l' a a'
runs_call {l = l} {a' = a'} made whole fault puts can leads =
    runs_step (Called made.call (record { bytes = puts.bytes; fault = fault })) can leads (rw (ap (λ (s : SourceSeen). s.left) puts.source) (brought_none l.source.left)) tt puts.added
    (ap (λ (s : SourceSeen). s.faults) puts.source) puts.writes (a', made.done, refl) made.same

-- one call whose answer isn't put
pub runs_ask : {A : Type 0} {worker : A → ℕ} {does : A → PoolCall → A → Type 0} {terms : Terms} {s t : LineState} {l : LinkSeen} {a a' : A} {asked : Request} {acted : Acted}
    → (made : MakesCall worker does a asked acted a') → CanCall (worker a) terms s made.call nothing_put → t ≡ after_step terms s (Called made.call nothing_put)
    → RunsLines worker does terms s t l l a a'
runs_ask {l = l} {a' = a'} made can leads =
    runs_step (Called made.call nothing_put) can leads (brought_none l.source.left) tt (Adds-none l.sink.held) refl refl (a', made.done, refl) made.same
