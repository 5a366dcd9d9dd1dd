-- What a call, a look and a meeting make of a pass.
use Rattle.std.proofs.Common.{◌≡◌, ℕ, ◌+◌, ◌≤◌, Bool, false, List, [], ◌∷◌, ◌++◌, length, drop, Option, Some, Result, Ok, Err, refl, sym, ap, ◌∙◌, subst, arith, length-append}
use Rattle.std.specs.Option.{unwrap_or}
use Rattle.std.proofs.Math.Seq.{drop-append_seam}
use Rattle.std.proofs.lemmas.List.{append-nil}
use Rattle.atomic_table.specs.Table.{Me}
use Rattle.atomic_table.specs.Seated.{TableId}
use Rattle.pool_base.specs.Counts.{Rose}
use Rattle.pool_base.specs.Lists.{Begins}
use Rattle.pool_base.specs.Calls.{Call, IsOutcome, RiseFrom}
use Rattle.desk.specs.declared.rule.Held.{Held}
use Rattle.desk.specs.declared.rule.Note.{Note}
use Rattle.desk.specs.Machines.{Health, IsLaterHealth, MakesTurn}
use Rattle.desk.specs.Views.{View, acting_view, joined_view, telling_view}
use Rattle.desk.specs.Plays.{HasLooked, IsNextCall, IsTaken, call_of, called_view, outcome_of}
use Rattle.desk.specs.Passes.{AreOfWorker, FrontsRise, IsAnswered, IsResting, MakesCall, Progress, progress_of}

module _ {E Q R F : Type 0} where
  pub rise-snoc : (known : ℕ) (calls : List (Call E Q R F)) (now : ℕ) (call : Call E Q R F) → RiseFrom known calls now → now ≤ call.number → RiseFrom known (calls ++ call ∷ []) (call.number + 1)
  rise-snoc known [] now call r le = (omega (arith, r), omega arith)
  rise-snoc known (c ∷ cs) now call r le = (r.0, rise-snoc (c.number + 1) cs now call r.1 le)

  pub rise-on : (known : ℕ) (calls : List (Call E Q R F)) (now later : ℕ) → RiseFrom known calls now → now ≤ later → RiseFrom known calls later
  rise-on known [] now later r le = omega (arith, r)
  rise-on known (c ∷ cs) now later r le = (r.0, rise-on (c.number + 1) cs now later r.1 le)

  pub fronts-snoc : (reached : ℕ) (calls : List (Call E Q R F)) (now : ℕ) (call : Call E Q R F) → FrontsRise reached calls now → now ≤ call.front
      → FrontsRise reached (calls ++ call ∷ []) (call.front + length call.added)
  fronts-snoc reached [] now call r le = (omega (arith, r), omega arith)
  fronts-snoc reached (c ∷ cs) now call r le = (r.0, fronts-snoc (c.front + length c.added) cs now call r.1 le)

  pub fronts-on : (reached : ℕ) (calls : List (Call E Q R F)) (now later : ℕ) → FrontsRise reached calls now → now ≤ later → FrontsRise reached calls later
  fronts-on reached [] now later r le = omega (arith, r)
  fronts-on reached (c ∷ cs) now later r le = (r.0, fronts-on (c.front + length c.added) cs now later r.1 le)

  own-snoc : (worker : ℕ) (calls : List (Call E Q R F)) (call : Call E Q R F) → AreOfWorker worker calls → call.worker ≡ worker → AreOfWorker worker (calls ++ call ∷ [])
  own-snoc worker [] call own is = (is, tt)
  own-snoc worker (c ∷ cs) call own is = (own.0, own-snoc worker cs call own.1 is)

begins-length : {X : Type 0} (front whole : List X) → Begins front whole → length front ≤ length whole
begins-length front whole b = omega (arith, length-append front b.0, ap length b.1)

-- what the first slot holds
held_in : {X : Type 0} → X → List (ℕ × Option X) → X
held_in d [] = d
held_in d (x ∷ xs) = unwrap_or x.1 d

slot-injective : {X : Type 0} (x y : X) (me : List (ℕ × Option X)) → me ≡ (0, Some x) ∷ [] → me ≡ (0, Some y) ∷ [] → x ≡ y
unfolding held_in
slot-injective x y me e k = ap (held_in x) (sym e ∙ k)

module _ {E Q R F M : Type 0} (events_of : M → List E) (health_of : M → Health) where
  -- what a seat knows once it has the turn and the machine
  pub record HasMachine (before : View E Q R F) (count : ℕ) (machine : M) (view : View E Q R F) : Type 0 where
    pub is : view ≡ acting_view before count (events_of machine) (health_of machine)
    pub seen : Begins before.seen (events_of machine)
    pub known : before.known ≤ count

  pub carries : (before after : Me (Option (Held M Q R F)) (View E Q R F)) (count : ℕ) → (t : IsTaken events_of health_of before count after)
      → before.1 ≡ [] → (held : Held M Q R F) × (after.1 ≡ (0, Some held) ∷ [])
  carries before after count t rests =
      (t.held, ap (λ m. m.1) t.is ∙ ap (λ (l : List (ℕ × Option (Held M Q R F))). (0, Some t.held) ∷ l) rests)

  pub has-machine : (before after : Me (Option (Held M Q R F)) (View E Q R F)) (count : ℕ) (machine : M) → IsTaken events_of health_of before count after
      → before.1 ≡ [] → (held : Held M Q R F) × (after.1 ≡ (0, Some held) ∷ []) × (held.machine ≡ machine) → HasMachine before.0 count machine after.0
  has-machine before after count machine t rests there =
      let carried : after.1 ≡ (0, Some t.held) ∷ [] = ap (λ m. m.1) t.is ∙ ap (λ (l : List (ℕ × Option (Held M Q R F))). (0, Some t.held) ∷ l) rests in
      let same : t.held.machine ≡ machine = ap (λ (h : Held M Q R F). h.machine) (slot-injective t.held there.0 after.1 carried there.1) ∙ there.2 in
      record {
        is = ap (λ m. m.0) t.is ∙ ap (λ (m : M). acting_view before.0 count (events_of m) (health_of m)) same;
        seen = subst (λ (m : M). Begins before.0.seen (events_of m)) same t.seen;
        known = t.known;
      }

module _ {E Q R F : Type 0} (answers : List E → ℕ → Q → List E → R → Type 0) (wants_memory : F → Bool) where
  -- a turn of the machine is the next call
  ends-as : (view : View E Q R F) (events now : List E) (health later : Health) (worker : ℕ) (asked : Q) (note : Note Q R F) → view.seen ≡ events → view.base ≡ health
      → note.worker ≡ worker → note.asked.value ≡ asked → (answer : Result R F)
      → MakesTurn answers wants_memory events health.faults worker asked now later.faults answer
      → Begins events now × IsOutcome answers wants_memory events (call_of view now later note) (outcome_of answer)
  ends-as view events now health later worker asked note seen base who what (Ok reply) turn =
      let is : drop (length view.seen) now ≡ turn.0 =
      ap (λ (l : List E). drop (length l) now) seen ∙ ap (λ (l : List E). drop (length events) l) turn.1 ∙ drop-append_seam events turn.0 in (
        (turn.0, sym turn.1),
        subst (λ (a : List E). answers events note.worker note.asked.value a reply) (sym is)
            (subst (λ (w : ℕ). answers events w note.asked.value turn.0 reply) (sym who)
            (subst (λ (q : Q). answers events worker q turn.0 reply) (sym what) turn.2)),
      )
  ends-as view events now health later worker asked note seen base who what (Err fault) turn =
      let whole : now ≡ events ++ [] = turn.0 ∙ sym (append-nil events) in
      let is : drop (length view.seen) now ≡ [] =
      ap (λ (l : List E). drop (length l) now) seen ∙ ap (λ (l : List E). drop (length events) l) whole ∙ drop-append_seam events [] in (
        ([], sym whole),
        (is, λ other. subst (λ (h : Health). Rose h.faults later.faults) (sym base) (turn.1 other)),
      )

  pub next-call : (before view : View E Q R F) (count : ℕ) (events now : List E) (health later : Health) (worker : ℕ) (asked : Q) (note : Note Q R F) (answer : Result R F)
      → view ≡ acting_view before count events health → before.workers ≡ worker ∷ []
      → MakesTurn answers wants_memory events health.faults worker asked now later.faults answer → IsLaterHealth health later
      → note.worker ≡ worker → note.asked.value ≡ asked → note.answer.value ≡ answer
      → IsNextCall answers wants_memory view now later note
  next-call before view count events now health later worker asked note answer is own turn more who what how =
      let seen : view.seen ≡ events = ap (λ (v : View E Q R F). v.seen) is in
      let base : view.base ≡ health = ap (λ (v : View E Q R F). v.base) is in
      let ends = ends-as view events now health later worker asked note seen base who what answer turn in
      record {
        worker = worker;
        has_turn = ap (λ (v : View E Q R F). v.has_turn) is;
        workers = ap (λ (v : View E Q R F). v.workers) is ∙ own;
        seen = subst (λ (l : List E). Begins l now) (sym seen) ends.0;
        later = subst (λ (h : Health). IsLaterHealth h later) (sym base) more;
        outcome = subst (λ (l : List E). IsOutcome answers wants_memory l (call_of view now later note) (outcome_of note.answer.value)) (sym seen)
            (subst (λ (r : Result R F). IsOutcome answers wants_memory events (call_of view now later note) (outcome_of r)) (sym how) ends.1);
      }

  -- so the pass made that call
  pub made-call : (table now_table : TableId) (before view : View E Q R F) (count : ℕ) (events now : List E) (health later : Health) (worker : ℕ) (asked : Q) (note : Note Q R F) (answer : Result R F)
      → view ≡ acting_view before count events health → before.workers ≡ worker ∷ [] → Begins before.seen events → before.known ≤ count
      → MakesTurn answers wants_memory events health.faults worker asked now later.faults answer → IsLaterHealth health later
      → note.worker ≡ worker → note.asked.value ≡ asked → note.answer.value ≡ answer
      → MakesCall answers wants_memory (progress_of worker table before) (progress_of worker now_table (called_view view now (call_of view now later note)))
      (length events) asked (outcome_of answer)
  made-call table now_table before view count events now health later worker asked note answer is own begins known turn more who what how =
      let seen : view.seen ≡ events = ap (λ (v : View E Q R F). v.seen) is in
      let base : view.base ≡ health = ap (λ (v : View E Q R F). v.base) is in
      let ends = ends-as view events now health later worker asked note seen base who what answer turn in
      let call : Call E Q R F = call_of view now later note in
      let n : view.known ≡ count = ap (λ (v : View E Q R F). v.known) is in
      record {
        call = call;
        events = events;
        calls = ap (λ (v : View E Q R F). v.calls ++ call ∷ []) is;
        worker = who;
        asked_is = what;
        outcome_is = ap outcome_of how;
        front_is = ap length seen;
        at_front = refl;
        seen_before = begins;
        ends = ends.1;
        seen = sym ends.0.1 ∙ ap (λ (l : List E). events ++ l)
            (sym (drop-append_seam events ends.0.0) ∙ ap (λ (l : List E). drop (length events) l) ends.0.1 ∙ ap (λ (l : List E). drop (length l) now) (sym seen));
        number = omega (arith, known, n);
        known = refl;
        later = (subst (λ (h : Health). IsLaterHealth h later) (sym base) more).faults;
      }

-- an answer with its front
abbrev pub tagged : {R F : Type 0} → ℕ → Result R F → Result (ℕ × R) (ℕ × F)
tagged front (Ok reply) = Ok (front, reply)
tagged front (Err fault) = Err (front, fault)

module _ {E Q R F : Type 0} (answers : List E → ℕ → Q → List E → R → Type 0) (wants_memory : F → Bool) where
  tagged-answer : (before after : Progress E Q R F) (front : ℕ) (asked : Q) (answer : Result R F)
      → MakesCall answers wants_memory before after front asked (outcome_of answer) → IsAnswered answers wants_memory before after asked (tagged front answer)
  tagged-answer before after front asked (Ok reply) made = made
  tagged-answer before after front asked (Err fault) made = made

  -- what is answered is what the pass made of it
  pub answered : (before passed after now : Progress E Q R F) (front found : ℕ) (asked : Q) (answer : Result R F) (result : Result (ℕ × R) (ℕ × F))
      → before ≡ passed → after ≡ now → found ≡ front → result ≡ tagged found answer
      → MakesCall answers wants_memory before after front asked (outcome_of answer) → IsAnswered answers wants_memory passed now asked result
  answered before passed after now front found asked answer result was is at how made =
      subst (λ (p : Progress E Q R F). IsAnswered answers wants_memory p now asked result) was
      (subst (λ (p : Progress E Q R F). IsAnswered answers wants_memory before p asked result) is
      (subst (λ (r : Result (ℕ × R) (ℕ × F)). IsAnswered answers wants_memory before after asked r) (sym how)
      (tagged-answer before after found asked answer
      (subst (λ (n : ℕ). MakesCall answers wants_memory before after n asked (outcome_of answer)) (sym at) made))))

module _ {E Q R F S : Type 0} where
  -- and rests again
  pub rests-again : (answers : List E → ℕ → Q → List E → R → Type 0) (wants_memory : F → Bool) (table now_table : TableId)
      (me : Me S (View E Q R F)) (after : View E Q R F) (front worker : ℕ) (asked : Q) (outcome : _)
      → MakesCall answers wants_memory (progress_of worker table me.0) (progress_of worker now_table after) front asked outcome
      → after.told ≡ me.0.told → after.has_turn ≡ false → after.workers ≡ me.0.workers
      → IsResting worker me → (now : Me S (View E Q R F)) → now ≡ (after, []) → IsResting worker now
  rests-again answers wants_memory table now_table me after front worker asked outcome made told turn workers rests now is =
      subst (λ (m : Me S (View E Q R F)). IsResting worker m) (sym is) (record {
        carried = refl;
        told = told ∙ rests.told;
        turn = turn;
        workers = workers ∙ rests.workers;
        numbers = subst (λ (l : List (Call E Q R F)). RiseFrom 0 l after.known) (sym made.calls)
            (subst (λ (n : ℕ). RiseFrom 0 (me.0.calls ++ made.call ∷ []) n) (sym made.known) (rise-snoc 0 me.0.calls me.0.known made.call rests.numbers made.number));
        fronts = subst (λ (l : List (Call E Q R F)). FrontsRise 0 l (length after.seen)) (sym made.calls)
            (subst (λ (n : ℕ). FrontsRise 0 (me.0.calls ++ made.call ∷ []) n)
            (let a = length-append made.events made.call.added in let b = ap length made.seen in let d = made.front_is in let e = made.at_front in omega arith)
            (fronts-snoc 0 me.0.calls (length me.0.seen) made.call rests.fronts
            (let b = begins-length me.0.seen made.events made.seen_before in let d = made.front_is in let e = made.at_front in omega arith)));
        own = subst (λ (l : List (Call E Q R F)). AreOfWorker worker l) (sym made.calls) (own-snoc worker me.0.calls made.call rests.own made.worker);
      })

  -- a look
  pub looked-rests : (worker : ℕ) (me now : Me S (View E Q R F)) (count : ℕ) → me.1 ≡ [] → me.0.has_turn ≡ false → me.0.workers ≡ worker ∷ []
      → RiseFrom 0 me.0.calls me.0.known → FrontsRise 0 me.0.calls (length me.0.seen) → AreOfWorker worker me.0.calls → HasLooked me count now → IsResting worker now
  looked-rests worker me now count carried turn workers numbers fronts own looked =
      subst (λ (m : Me S (View E Q R F)). IsResting worker m) (sym looked.is) (record {
        carried = carried;
        told = refl;
        turn = turn;
        workers = workers;
        numbers = rise-on 0 me.0.calls me.0.known count numbers looked.known;
        fronts = fronts-on 0 me.0.calls (length me.0.seen) _ fronts (begins-length me.0.seen _ looked.seen);
        own = own;
      })

  -- a meeting
  pub met-rests : (worker : ℕ) (to from me now : Me S (View E Q R F)) (count : ℕ) → IsResting worker to → me ≡ (joined_view to.0 (telling_view from.0), to.1) → HasLooked me count now
      → IsResting worker now
  met-rests worker to from me now count rests is looked =
      let met : Me S (View E Q R F) = (joined_view to.0 (telling_view from.0), to.1) in
      looked-rests worker met now count rests.carried rests.turn rests.workers
      (rise-on 0 to.0.calls to.0.known met.0.known rests.numbers (omega arith)) rests.fronts rests.own
      (subst (λ (m : Me S (View E Q R F)). HasLooked m count now) is looked)
