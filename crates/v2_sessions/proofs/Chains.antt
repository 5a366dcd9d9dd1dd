-- What a session did goes on by one step or by more.
use Rattle.std.proofs.Common.{◌≡◌, ℕ, ◌||◌, Bool, true, false, List, [], ◌∷◌, ◌++◌, Option, Some, None, refl, sym, ap, ◌∙◌, append_assoc, append-nil}
use Rattle.std.proofs.lemmas.Grind.{flat_map-append}
use Rattle.std.proofs.lemmas.List.{append_cancel_left}
use Rattle.pool_io.specs.Seen.{SourceSeen}
use Rattle.pool_io.specs.declared.sink.SinkFailed.{SinkFailed}
use Rattle.pool_io.specs.declared.turn.Turn.{Turn}
use Rattle.pool_io.specs.Outside.{AddsBytes}
use Rattle.pool_io.specs.Steps.{BringsSteps, ReadStep, steps_of}
use Rattle.pool_io.proofs.Stepping.{brought_none}
use Rattle.pool_io.proofs.Puts.{Adds-more, Adds-none}
use Rattle.pool_network.specs.Seen.{LinkSeen}
use Rattle.pool_history.specs.declared.asking.Request.{Request}
use Rattle.pool_history.specs.Calls.{PoolCall}
use Rattle.session_steps.specs.States.{State, nothing_put}
use Rattle.session_steps.specs.Steps.{Follows, SessionStep, Called, CanCall, CanStep, after_call, after_step, bytes_in_steps, call_in, calls_in, put_in, reads_after, reads_after_step, turn_in, turns_in, writes_after, writes_after_put}
use Rattle.v2_sessions.specs.declared.acting.Acted.{Acted}
use Rattle.v2_sessions.specs.Answerers.{Acts, MakesCall}
use Rattle.v2_sessions.specs.Links.{PutsOut}
use Rattle.v2_sessions.specs.Running.{Runs, TakesAll, has_ended, is_end}

pub Follows-append : (worker : ℕ) (s t u : State) (xs ys : List SessionStep) → Follows worker s xs t → Follows worker t ys u → Follows worker s (xs ++ ys) u
Follows-append worker s t u [] ys first then = rw first at then
Follows-append worker s t u (x ∷ xs) ys first then = (first.0, Follows-append worker (after_step s x) t u xs ys first.1 then)

reads_after-append : (count : ℕ) (xs ys : List SessionStep) → reads_after count (xs ++ ys) ≡ reads_after (reads_after count xs) ys
reads_after-append count [] ys = refl
reads_after-append count (x ∷ xs) ys = reads_after-append (reads_after_step count x) xs ys

writes_after-append : (count : ℕ) (xs ys : List SessionStep) → writes_after count (xs ++ ys) ≡ writes_after (writes_after count xs) ys
writes_after-append count [] ys = refl
writes_after-append count (x ∷ xs) ys = writes_after-append (writes_after_put count (put_in x).fault) xs ys

or_assoc : (p q r : Bool) → (p || (q || r)) ≡ ((p || q) || r)
or_assoc true q r = refl
or_assoc false q r = refl

has_ended-append : (xs ys : List SessionStep) → has_ended (xs ++ ys) ≡ (has_ended xs || has_ended ys)
has_ended-append [] ys = refl
has_ended-append (x ∷ xs) ys = ap (λ b. is_end x || b) (has_ended-append xs ys) ∙ or_assoc (is_end x) (has_ended xs) (has_ended ys)

pub Acts-append : {A : Type 0} (does : A → PoolCall → A → Type 0) (a b c : A) (xs ys : List PoolCall) → Acts does a xs b → Acts does b ys c → Acts does a (xs ++ ys) c
Acts-append does a b c [] ys first then = rw first at then
Acts-append does a b c (x ∷ xs) ys first then = (first.0, first.1, Acts-append does first.0 b c xs ys first.2 then)

pub Brings-more : (a b c : Option (List Turn)) (xs ys : List ReadStep) → BringsSteps a b xs → BringsSteps b c ys → BringsSteps a c (xs ++ ys)
Brings-more None b c xs ys first then = tt
Brings-more (Some told) b c xs ys first then =
    let more = rw first.1 at then in
    (more.0, more.1, first.2 ∙ ap (λ l. xs ++ l) more.2 ∙ sym (append_assoc xs ys (steps_of more.0)))

-- what is appended to all that was told is nothing
none_more : (told xs ys left rest : List ReadStep) → told ≡ xs ++ left → left ≡ ys ++ rest → told ≡ xs → told ≡ xs ++ ys
none_more told xs [] left rest first then all = all ∙ sym (append-nil xs)
none_more told xs (y ∷ ys) left rest first then all =
    let nil : left ≡ [] = append_cancel_left xs left [] (sym first ∙ all ∙ sym (append-nil xs)) in
    let no : (y ∷ ys) ++ rest ≡ [] = sym then ∙ nil in
    cc

pub all_more : (p q : Bool) (a b c : Option (List Turn)) (xs ys : List ReadStep) → BringsSteps a b xs → BringsSteps b c ys
    → TakesAll p a xs → TakesAll q b ys → TakesAll (p || q) a (xs ++ ys)
all_more true q None b c xs ys first then all more = tt
all_more false true None b c xs ys first then all more = tt
all_more false false a b c xs ys first then all more = tt
all_more true q (Some told) b c xs ys first then all more =
    let on = rw first.1 at then in
    none_more (steps_of told) xs ys (steps_of first.0) (steps_of on.0) first.2 on.2 all
all_more false true (Some told) b c xs ys first then all more =
    let last = rw first.1 at more in
    first.2 ∙ ap (λ l. xs ++ l) last

pub runs_on : {A : Type 0} {worker : A → ℕ} {does : A → PoolCall → A → Type 0} {s t u : State} {l l' l'' : LinkSeen} {a a' a'' : A}
    → Runs worker does s t l l' a a' → Runs worker does t u l' l'' a' a'' → Runs worker does s u l l'' a a''
runs_on {worker = worker} {does = does} {s = s} {t = t} {u = u} {l = l} {l' = l'} {l'' = l''} {a = a} {a' = a'} {a'' = a''} first then =
    let xs = first.steps in
    let ys = then.steps in
    record {
      steps = xs ++ ys;
      follows = Follows-append (worker a) s t u xs ys first.follows (rw first.same at then.follows);
      took = rw (flat_map-append turn_in xs ys) (Brings-more l.source.left l'.source.left l''.source.left (turns_in xs) (turns_in ys) first.took then.took);
      ended = rw (has_ended-append xs ys, flat_map-append turn_in xs ys)
          (all_more (has_ended xs) (has_ended ys) l.source.left l'.source.left l''.source.left (turns_in xs) (turns_in ys) first.took then.took first.ended then.ended);
      put = rw (flat_map-append (λ x. (put_in x).bytes) xs ys)
          (Adds-more l.sink.held l'.sink.held l''.sink.held (bytes_in_steps xs) (bytes_in_steps ys) first.put then.put);
      reads = then.reads ∙ ap (λ n. reads_after n ys) first.reads ∙ sym (reads_after-append l.source.faults xs ys);
      writes = then.writes ∙ ap (λ n. writes_after n ys) first.writes ∙ sym (writes_after-append l.sink.faults xs ys);
      acts = rw (flat_map-append call_in xs ys) (Acts-append does a a' a'' (calls_in xs) (calls_in ys) first.acts then.acts);
      same = then.same ∙ first.same;
    }

-- the steps of both
pub steps_on : {A : Type 0} {worker : A → ℕ} {does : A → PoolCall → A → Type 0} {s t u : State} {l l' l'' : LinkSeen} {a a' a'' : A}
    → (first : Runs worker does s t l l' a a') (then : Runs worker does t u l' l'' a' a'') → (runs_on first then).steps ≡ first.steps ++ then.steps
unfolding runs_on
steps_on first then = refl

-- nothing was done
pub runs_none : {A : Type 0} {worker : A → ℕ} {does : A → PoolCall → A → Type 0} {s t : State} {l : LinkSeen} {a : A}
    → t ≡ s → Runs worker does s t l l a a
runs_none {l = l} same = record {
  steps = [];
  follows = same;
  took = brought_none l.source.left;
  ended = tt;
  put = Adds-none l.sink.held;
  reads = refl;
  writes = refl;
  acts = refl;
  same = refl;
}

or_false : (p : Bool) → (p || false) ≡ p
or_false true = refl
or_false false = refl

-- one step
pub runs_step : {A : Type 0} {worker : A → ℕ} {does : A → PoolCall → A → Type 0} {s t : State} {l l' : LinkSeen} {a a' : A}
    → (x : SessionStep) → CanStep (worker a) s x → t ≡ after_step s x → BringsSteps l.source.left l'.source.left (turn_in x)
    → TakesAll (is_end x) l.source.left (turn_in x) → AddsBytes l.sink.held l'.sink.held (put_in x).bytes
    → l'.source.faults ≡ reads_after_step l.source.faults x → l'.sink.faults ≡ writes_after_put l.sink.faults (put_in x).fault
    → Acts does a (call_in x) a' → worker a' ≡ worker a → Runs worker does s t l l' a a'
runs_step x can leads took all put reads writes acts same = record {
  steps = x ∷ [];
  follows = (can, leads);
  took = rw (append-nil (turn_in x)) took;
  ended = rw (or_false (is_end x), append-nil (turn_in x)) all;
  put = rw (append-nil (put_in x).bytes) put;
  reads = reads;
  writes = writes;
  acts = rw (append-nil (call_in x)) acts;
  same = same;
}

-- one step that takes, puts and asks nothing
pub runs_quiet : {A : Type 0} {worker : A → ℕ} {does : A → PoolCall → A → Type 0} {s t : State} {l : LinkSeen} {a : A}
    → (x : SessionStep) → CanStep (worker a) s x → t ≡ after_step s x → turn_in x ≡ [] → is_end x ≡ false → put_in x ≡ nothing_put → call_in x ≡ []
    → ((n : ℕ) → n ≡ reads_after_step n x) → Runs worker does s t l l a a
runs_quiet {does = does} {l = l} {a = a} x can leads turns end put calls reads =
    runs_step x can leads (rw turns (brought_none l.source.left)) (rw end tt) (rw put (Adds-none l.sink.held)) (reads l.source.faults) (rw put refl)
    (rw calls refl) refl

-- one put
pub runs_put : {A : Type 0} {worker : A → ℕ} {does : A → PoolCall → A → Type 0} {s t : State} {l l' : LinkSeen} {a : A}
    → (x : SessionStep) (whole : List ℕ) (fault : Option SinkFailed) (puts : PutsOut whole fault l l') → CanStep (worker a) s x → t ≡ after_step s x
    → turn_in x ≡ [] → is_end x ≡ false → put_in x ≡ record { bytes = puts.bytes; fault = fault } → call_in x ≡ []
    → ((n : ℕ) → n ≡ reads_after_step n x) → Runs worker does s t l l' a a
runs_put {does = does} {l = l} {l' = l'} {a = a} x whole fault puts can leads turns end put calls reads =
    runs_step x can leads (rw (turns, ap (λ (s : SourceSeen). s.left) puts.source) (brought_none l.source.left)) (rw end tt) (rw put puts.added) (ap (λ (s : SourceSeen). s.faults) puts.source ∙ reads l.source.faults)
    (rw put puts.writes) (rw calls refl) refl

pub steps_put : {A : Type 0} (worker : A → ℕ) (does : A → PoolCall → A → Type 0) (s t : State) (l l' : LinkSeen) (a : A)
    → (x : SessionStep) (whole : List ℕ) (fault : Option SinkFailed) (puts : PutsOut whole fault l l') (can : CanStep (worker a) s x) (leads : t ≡ after_step s x)
    (turns : turn_in x ≡ []) (end : is_end x ≡ false) (put : put_in x ≡ record { bytes = puts.bytes; fault = fault }) (calls : call_in x ≡ [])
    (reads : (n : ℕ) → n ≡ reads_after_step n x)
    → (runs_put {worker = worker} {does = does} {s = s} {t = t} {l = l} {l' = l'} {a = a} x whole fault puts can leads turns end put calls reads).steps ≡ x ∷ []
unfolding runs_put runs_step
steps_put worker does s t l l' a x whole fault puts can leads turns end put calls reads = refl

-- one call, and what is put of its answer
pub runs_call : {A : Type 0} {worker : A → ℕ} {does : A → PoolCall → A → Type 0} {s t : State} {l l' : LinkSeen} {a a' : A} {asked : Request} {acted : Acted}
    → (made : MakesCall worker does a asked acted a') (whole : List ℕ) (fault : Option SinkFailed) (puts : PutsOut whole fault l l')
    → CanCall s.stage s made.call (record { bytes = puts.bytes; fault = fault })
    → t ≡ after_call s.stage s made.call (record { bytes = puts.bytes; fault = fault })
    → Runs worker does s t l l' a a'
runs_call {l = l} {a' = a'} made whole fault puts can leads =
    runs_step (Called made.call (record { bytes = puts.bytes; fault = fault })) (made.worker_is, can) leads (rw (ap (λ (s : SourceSeen). s.left) puts.source) (brought_none l.source.left)) tt puts.added (ap (λ (s : SourceSeen). s.faults) puts.source) puts.writes
    (a', made.done, refl) made.same

-- one call whose answer isn't put
pub runs_ask : {A : Type 0} {worker : A → ℕ} {does : A → PoolCall → A → Type 0} {s t : State} {l : LinkSeen} {a a' : A} {asked : Request} {acted : Acted}
    → (made : MakesCall worker does a asked acted a') → CanCall s.stage s made.call nothing_put → t ≡ after_call s.stage s made.call nothing_put
    → Runs worker does s t l l a a'
runs_ask {l = l} {a' = a'} made can leads =
    runs_step (Called made.call nothing_put) (made.worker_is, can) leads (brought_none l.source.left) tt (Adds-none l.sink.held) refl refl
    (a', made.done, refl) made.same
