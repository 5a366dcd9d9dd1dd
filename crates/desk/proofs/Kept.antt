-- The steps of a desk keep its rule: a look, a take, and a put.
use Rattle.std.proofs.Common.{◌≡◌, ◌≢◌, ℕ, zero, suc, ◌+◌, ◌*◌, ◌/◌, ◌%◌, ◌≤◌, Bool, true, false, true≢false, eqb, List, [], ◌∷◌, ◌++◌, length, set, get_or, drop, Option, Some, refl, sym, ap, ◌∙◌, subst, ⊎_elim, arith, length-append, append_assoc}
use Rattle.std.specs.List.{AllByRecursion}
use Rattle.std.specs.List.Sorted.{IsPermutation}
use mathlib.Core.Option as maybe
use native.Mathlib.Decide.{ℕ_discrete}
use lib.ListN.{get_elem?}
use prog.Atomic.{either}
use Rattle.atomic_table.specs.Table.{State, Me, step, Act, Valid, Allows, keeps, takes, gives, stepped, carried_after}
use Rattle.atomic_table.proofs.Lists.{at_set, set_here, set_else, exchanged}
use Rattle.pool_base.specs.Lists.{Begins}
use Rattle.pool_base.specs.Calls.{Call, GoodCalls, IsGoodCall, PartsFrom}
use Rattle.desk.specs.declared.rule.Held.{Held}
use Rattle.desk.specs.Machines.{Health}
use Rattle.desk.specs.Views.{View, acting_view, looking_view, workers_from}
use Rattle.desk.specs.Rule.{FitsHistory, HasTurn, IsAtHome, IsOneHistory, turns_out}
use Rattle.desk.specs.declared.rule.Note.{Note}
use Rattle.desk.specs.Plays.{HasLooked, IsNextCall, IsTaken, Puts, Takes, call_of, called_view}
use Rattle.std.proofs.lemmas.List.{append-nil}
use Rattle.std.proofs.Math.Seq.{drop-append_seam}
use Rattle.desk.proofs.Spread.{one_more, same_flat}
use Rattle.desk.proofs.Fronts.{begins-itself, begins-more, begins-nothing, longer-begins}

no_cons : (x : ℕ) → x ∷ [] ≡ [] → ⊥
no_cons x e = cc

pub off : false ≡ true → ⊥
off e = true≢false (sym e)

pub none-is-some : {X : Type 0} (x : X) → maybe.none ≡ maybe.some x → ⊥
none-is-some x e = maybe.some-ne-none x (sym e)

-- a fact of each seat, where one seat's view changes
pub all_set : {V : Type 0} (P : ℕ → V → Type 0) (views : List V) (seat : ℕ) (after : V)
    → ((j : ℕ) (u : V) → j ≢ seat → get_elem? views j ≡ maybe.some u → P j u)
    → P seat after → (j : ℕ) (u : V) → get_elem? (set views seat after) j ≡ maybe.some u → P j u
all_set {V} P views seat after others own j u there =
    ⊎_elim
    (λ (x : (j ≡ seat) × (after ≡ u)). subst (λ (y : ℕ × V). P y.0 y.1) (λ i. (sym x.0 i, x.1 i)) own)
    (λ (x : (j ≢ seat) × (get_elem? views j ≡ maybe.some u)). others j u x.0 x.1)
    (at_set views seat j after u there)

pub set_there : {V : Type 0} (views : List V) (seat : ℕ) (view after : V) → get_elem? views seat ≡ maybe.some view → get_elem? (set views seat after) seat ≡ maybe.some after
set_there [] seat view after there = absurd (none-is-some view there)
set_there (x ∷ xs) zero view after there = refl
set_there (x ∷ xs) (suc seat) view after there = set_there xs seat view after there

pub all-snoc : {X : Type 0} (P : X → Type 0) (xs : List X) (x : X) → AllByRecursion P xs → P x → AllByRecursion P (xs ++ x ∷ [])
all-snoc P [] x h p = (p, tt)
all-snoc P (y ∷ ys) x h p = (h.0, all-snoc P ys x h.1 p)

pub word_is : (words : List ℕ) (n : ℕ) → words ≡ n ∷ [] → get_or words 0 0 ≡ n
word_is words n e = ap (λ (l : List ℕ). get_or l 0 0) e

pub word_set : (words : List ℕ) (n m : ℕ) → words ≡ n ∷ [] → set words 0 m ≡ m ∷ []
word_set words n m e = ap (λ (l : List ℕ). set l 0 m) e

-- a word that is written as it was
word_stays : (words : List ℕ) (n m : ℕ) → words ≡ n ∷ [] → m ≡ get_or words 0 0 → set words 0 m ≡ words
word_stays words n m e k = word_set words n m e ∙ ap (λ (x : ℕ). x ∷ []) (k ∙ word_is words n e) ∙ sym e

half : (n out : ℕ) → out ≤ 1 → (2 * n + out) / 2 ≡ n
half n out le = omega arith

out_le : (holder : maybe.Option ℕ) → turns_out holder ≤ 1
out_le maybe.none = omega arith
out_le (maybe.some seat) = omega arith

module _ {E Q R F : Type 0} where
  -- who has the turn has it whatever else one seat learns
  pub turn_stays : (views : List (View E Q R F)) (seat : ℕ) (view after : View E Q R F) → get_elem? views seat ≡ maybe.some view
      → after.has_turn ≡ view.has_turn → (j : ℕ) → HasTurn views j → HasTurn (set views seat after) j
  turn_stays views seat view after there same j h = by_place (ℕ_discrete j seat)
    where
      by_place : Dec (j ≡ seat) → HasTurn (set views seat after) j
      by_place (yes e) = record {
        view = after;
        there = subst (λ (k : ℕ). get_elem? (set views seat after) k ≡ maybe.some after) (sym e) (set_there views seat view after there);
        has_turn = same ∙ ap (λ (v : View E Q R F). v.has_turn) (maybe.some-injective view h.view (sym there ∙ ap (λ (k : ℕ). get_elem? views k) (sym e) ∙ h.there)) ∙ h.has_turn;
      }
      by_place (no apart) = record { view = h.view; there = set_else views seat j after apart ∙ h.there; has_turn = h.has_turn }

  -- one call more
  pub parts-snoc : (reached : List E) (number least : ℕ) (events : List E) (most : ℕ) (log : List (Call E Q R F)) (call : Call E Q R F)
      → PartsFrom reached number least events most log → call.front ≡ length events → call.number ≡ number + length log
      → most ≤ call.faults_before → call.faults_before ≤ call.faults_after
      → PartsFrom reached number least (events ++ call.added) call.faults_after (log ++ call ∷ [])
  parts-snoc reached number least events most [] call p front is more later =
      (front ∙ ap length p.0, omega (arith, is), omega (arith, p.1, more), later, (ap (λ (l : List E). l ++ call.added) p.0, omega arith))
  parts-snoc reached number least events most (c ∷ cs) call p front is more later =
      (p.0, p.1, p.2, p.3, parts-snoc (reached ++ c.added) (number + 1) c.faults_after events most cs call p.4 front (omega (arith, is)) more later)

  pub parts-length : (reached : List E) (number least : ℕ) (events : List E) (most : ℕ) (log : List (Call E Q R F)) → PartsFrom reached number least events most log → least ≤ most
  parts-length reached number least events most [] p = p.1
  parts-length reached number least events most (c ∷ cs) p = let l = parts-length (reached ++ c.added) (number + 1) c.faults_after events most cs p.4 in omega (arith, l, p.2, p.3)

  pub good-more : (answers : List E → ℕ → Q → List E → R → Type 0) (wants_memory : F → Bool) (events added : List E) (log : List (Call E Q R F))
      → GoodCalls answers wants_memory events log → GoodCalls answers wants_memory (events ++ added) log
  good-more answers wants_memory events added [] h = tt
  good-more answers wants_memory events added (c ∷ cs) h = (
    record {
      before = h.0.before;
      after = h.0.after ++ added;
      stands = ap (λ (l : List E). l ++ added) h.0.stands ∙ append_assoc (h.0.before ++ c.added) h.0.after added;
      at_front = h.0.at_front;
      outcome = h.0.outcome;
    },
    good-more answers wants_memory events added cs h.1,
  )

module _ {E Q R F M : Type 0} (answers : List E → ℕ → Q → List E → R → Type 0) (wants_memory : F → Bool)
    (events_of : M → List E) (health_of : M → Health) (start : M) (count : ℕ) where
  abbrev Rule : State (Option (Held M Q R F)) (View E Q R F) → Type 0
  Rule s = IsOneHistory answers wants_memory events_of health_of start count s

  -- one seat learns something
  pub learnt : (s : State (Option (Held M Q R F)) (View E Q R F)) (seat : ℕ) (view after : View E Q R F) (words : List ℕ) → (h : Rule s)
      → get_elem? s.views seat ≡ maybe.some view → words ≡ s.words
      → after.calls ≡ view.calls → after.workers ≡ view.workers → after.has_turn ≡ view.has_turn
      → FitsHistory h.log h.events h.most h.holder seat after
      → Rule record { words = words; homes = s.homes; views = set s.views seat after }
  learnt s seat view after words h there same calls workers turn fits = record {
    log = h.log;
    events = h.events;
    most = h.most;
    holder = h.holder;
    word = same ∙ h.word;
    parts = h.parts;
    good = h.good;
    tells = h.tells;
    home = h.home;
    held = λ j is. turn_stays s.views seat view after there turn j (h.held j is);
    fits = all_set (λ j u. FitsHistory h.log h.events h.most h.holder j u) s.views seat after (λ j u _ at. h.fits j u at) fits;
    all_calls = subst (λ (l : List (Call E Q R F)). IsPermutation h.log l) (sym (same_flat (λ (v : View E Q R F). v.calls) s.views seat view after there calls)) h.all_calls;
    all_workers = subst (λ (l : List ℕ). IsPermutation (workers_from 0 count) l) (sym (same_flat (λ (v : View E Q R F). v.workers) s.views seat view after there workers)) h.all_workers;
  }

  calls_are : (s : State (Option (Held M Q R F)) (View E Q R F)) → (h : Rule s) → get_or s.words 0 0 / 2 ≡ length h.log
  calls_are s h = ap (λ (n : ℕ). n / 2) (word_is s.words _ h.word) ∙ half (length h.log) (turns_out h.holder) (out_le h.holder)

  -- a look keeps the rule
  pub looks : (slots seat : ℕ) (me : Me (Option (Held M Q R F)) (View E Q R F)) → me.0.has_turn ≡ false
      → Allows Rule slots seat me 0 (λ n. n) (λ n after. HasLooked me (n / 2) after)
  looks slots seat me rests s h deep there low =
      let old = h.fits seat me.0 there in
      let n = get_or s.words 0 0 / 2 in
      let l = longer-begins me.0.seen me.0.told h.events old.seen old.told in
      let is : n ≡ length h.log = calls_are s h in
      let most : me.0.known ≤ n = omega (arith, old.known, is) in (
        looking_view me.0 n,
        keeps,
        tt,
        learnt s seat me.0 (looking_view me.0 n) (set s.words 0 (get_or s.words 0 0)) h there (word_stays s.words _ (get_or s.words 0 0) h.word refl) refl refl refl
            (record {
              seen = l.0;
              told = begins-nothing h.events;
              known = omega (arith, is);
              turn = λ on. absurd (off (sym rests ∙ on));
              idle = old.idle;
            }),
        record { is = refl; known = most; seen = l.1; told = l.2 },
      )

  -- what a take answers where the word is x
  abbrev TakesAt : (seat : ℕ) (me : Me (Option (Held M Q R F)) (View E Q R F)) (old : ℕ) (s : State (Option (Held M Q R F)) (View E Q R F)) → ℕ → Type 0
  TakesAt seat me old s x =
      (w : View E Q R F) × (a : Act (Option (Held M Q R F))) × Valid s.homes me.1 a × Rule (stepped s 0 x seat me.1 w a)
      × ((get_or s.words 0 0 ≢ old → (w, carried_after me.1 a) ≡ me)
      × (get_or s.words 0 0 ≡ old → IsTaken events_of health_of me (get_or s.words 0 0 / 2) (w, carried_after me.1 a)))

  missed : (slots seat : ℕ) (me : Me (Option (Held M Q R F)) (View E Q R F)) (old : ℕ) (s : State (Option (Held M Q R F)) (View E Q R F)) → (h : Rule s)
      → get_elem? s.views seat ≡ maybe.some me.0 → get_or s.words 0 0 ≢ old → TakesAt seat me old s (get_or s.words 0 0)
  missed slots seat me old s h there other = (
    me.0,
    keeps,
    tt,
    learnt s seat me.0 me.0 (set s.words 0 (get_or s.words 0 0)) h there (word_stays s.words _ (get_or s.words 0 0) h.word refl) refl refl refl (h.fits seat me.0 there),
    ((λ _. refl), (λ e. absurd (other e))),
  )

  -- the turn is out, so the word isn't even
  won_from : (seat worker : ℕ) (me : Me (Option (Held M Q R F)) (View E Q R F)) (old : ℕ) (s : State (Option (Held M Q R F)) (View E Q R F)) → (h : Rule s)
      → me.0.workers ≡ worker ∷ [] → old % 2 ≡ 0
      → get_elem? s.views seat ≡ maybe.some me.0 → get_or s.words 0 0 ≡ old
      → (holder : maybe.Option ℕ) → h.holder ≡ holder → TakesAt seat me old s (old + 1)
  won_from seat worker me old s h own even there is (maybe.some j) out =
      let w : get_or s.words 0 0 ≡ 2 * length h.log + 1 = word_is s.words _ h.word ∙ ap (λ (o : maybe.Option ℕ). 2 * length h.log + turns_out o) out in
      absurd (omega (arith, w, is, even))
  won_from seat worker me old s h own even there is maybe.none out =
      let home : IsAtHome events_of health_of s.homes h.events h.most = h.home out in
      let w : get_or s.words 0 0 ≡ 2 * length h.log + 0 = word_is s.words _ h.word ∙ ap (λ (o : maybe.Option ℕ). 2 * length h.log + turns_out o) out in
      let n : get_or s.words 0 0 / 2 ≡ length h.log = calls_are s h in
      let mine = h.fits seat me.0 there in
      let after : View E Q R F = acting_view me.0 (get_or s.words 0 0 / 2) (events_of home.held.machine) (health_of home.held.machine) in (
        after,
        takes 0 (Some home.held),
        home.there,
        record {
          log = h.log;
          events = h.events;
          most = h.most;
          holder = maybe.some seat;
          word = word_set s.words _ (old + 1) h.word ∙ ap (λ (x : ℕ). x ∷ []) (omega (arith, w, is));
          parts = h.parts;
          good = h.good;
          tells = h.tells;
          home = λ e. absurd (maybe.some-ne-none seat e);
          held = λ j e. record {
            view = after;
            there = subst (λ (k : ℕ). get_elem? (set s.views seat after) k ≡ maybe.some after) (maybe.some-injective seat j e) (set_there s.views seat me.0 after there);
            has_turn = refl;
          };
          fits = all_set (λ j u. FitsHistory h.log h.events h.most (maybe.some seat) j u) s.views seat after
              (λ j u _ at. let f = h.fits j u at in record {
                seen = f.seen;
                told = f.told;
                known = f.known;
                turn = λ on. absurd (none-is-some j (sym out ∙ (f.turn on).0));
                idle = f.idle;
              })
              (record {
                seen = subst (λ (l : List E). Begins l h.events) (sym home.events_are) (begins-itself h.events);
                told = mine.told;
                known = omega (arith, n);
                turn = λ on. (refl, home.events_are, n, home.health_is);
                idle = λ e. absurd (no_cons worker (sym own ∙ e));
              });
          all_calls = subst (λ (l : List (Call E Q R F)). IsPermutation h.log l) (sym (same_flat (λ (v : View E Q R F). v.calls) s.views seat me.0 after there refl)) h.all_calls;
          all_workers = subst (λ (l : List ℕ). IsPermutation (workers_from 0 count) l) (sym (same_flat (λ (v : View E Q R F). v.workers) s.views seat me.0 after there refl)) h.all_workers;
        },
        (
          (λ e. absurd (e is)),
          (λ _. record {
            held = home.held;
            is = refl;
            known = omega (arith, mine.known, n);
            seen = subst (λ (l : List E). Begins me.0.seen l) (sym home.events_are) mine.seen;
          }),
        ),
      )

  -- a take keeps the rule
  pub takes_turn : (slots seat : ℕ) (me : Me (Option (Held M Q R F)) (View E Q R F)) (old worker : ℕ)
      → me.0.workers ≡ worker ∷ [] → old % 2 ≡ 0
      → Allows Rule slots seat me 0 (λ n. either (eqb n old) (old + 1) n) (Takes events_of health_of (step slots 0 old (old + 1) maybe.none) me)
  takes_turn slots seat me old worker own even s h deep there low =
      exchanged (get_or s.words 0 0) old (old + 1) (TakesAt seat me old s)
      (λ is. won_from seat worker me old s h own even there is h.holder refl)
      (λ other. missed slots seat me old s h there other)

  -- a seat's call, after which the machine is back
  core : (slots seat : ℕ) (view : View E Q R F) (machine : M) (note : Note Q R F)
      → slots ≡ 1 → IsNextCall answers wants_memory view (events_of machine) (health_of machine) note
      → (new : ℕ) → new ≡ 2 * view.known + 2
      → let me : Me (Option (Held M Q R F)) (View E Q R F) = (view, (0, Some (record { machine = machine; note = Some note })) ∷ []) in
      Allows Rule slots seat me 0 (λ _. new) (λ _. Puts events_of health_of (step slots 0 new 0 maybe.none) me new)
  core slots seat view machine note one next new is s h deep there low =
      let held : Held M Q R F = record { machine = machine; note = Some note } in
      let call : Call E Q R F = call_of view (events_of machine) (health_of machine) note in
      let after : View E Q R F = called_view view (events_of machine) call in
      let mine = (h.fits seat view there).turn next.has_turn in
      let added : events_of machine ≡ view.seen ++ call.added =
      sym next.seen.1 ∙ ap (λ (l : List E). view.seen ++ l) (sym (drop-append_seam view.seen next.seen.0) ∙ ap (λ (l : List E). drop (length view.seen) l) next.seen.1) in
      let now : events_of machine ≡ h.events ++ call.added = added ∙ ap (λ (l : List E). l ++ call.added) mine.1 in
      let long : length (h.log ++ call ∷ []) ≡ length h.log + 1 = length-append h.log (call ∷ []) in
      let grows : (front : List E) → Begins front h.events → Begins front (events_of machine) =
      λ front b. subst (λ (l : List E). Begins front l) (sym now) (begins-more front h.events call.added b) in (
        after,
        gives,
        tt,
        record {
          log = h.log ++ call ∷ [];
          events = events_of machine;
          most = health_of machine;
          holder = maybe.none;
          word = word_set s.words _ new h.word ∙ ap (λ (x : ℕ). x ∷ []) (omega (arith, is, mine.2, long));
          parts = subst (λ (l : List E). PartsFrom (events_of start) 0 (health_of start).faults l (health_of machine).faults (h.log ++ call ∷ [])) (sym now)
              (parts-snoc (events_of start) 0 (health_of start).faults h.events h.most.faults h.log call h.parts (ap length mine.1) (omega (arith, mine.2))
              (let base = ap (λ (health : Health). health.faults) mine.3 in omega (arith, base)) next.later.faults);
          good = all-snoc (IsGoodCall answers wants_memory (events_of machine)) h.log call
              (subst (λ (l : List E). GoodCalls answers wants_memory l h.log) (sym now) (good-more answers wants_memory h.events call.added h.log h.good))
              (record {
                before = view.seen;
                after = [];
                stands = added ∙ sym (append-nil (view.seen ++ call.added));
                at_front = refl;
                outcome = next.outcome;
              });
          tells = next.later.tells ∙ ap (λ (health : Health). health.tells) mine.3 ∙ h.tells;
          home = λ _. record {
            held = held;
            there = set_here s.homes 0 (maybe.some (Some held)) (omega (arith, deep, one));
            events_are = refl;
            health_is = refl;
          };
          held = λ j e. absurd (none-is-some j e);
          fits = all_set (λ j u. FitsHistory (h.log ++ call ∷ []) (events_of machine) (health_of machine) maybe.none j u) s.views seat after
              (λ j u apart at. let f = h.fits j u at in record {
                seen = grows u.seen f.seen;
                told = grows u.told f.told;
                known = omega (arith, f.known, long);
                turn = λ on. absurd (apart (maybe.some-injective j seat (sym (f.turn on).0 ∙ mine.0)));
                idle = f.idle;
              })
              (record {
                seen = begins-itself (events_of machine);
                told = grows view.told (h.fits seat view there).told;
                known = omega (arith, mine.2, long);
                turn = λ on. absurd (off on);
                idle = λ e. absurd (no_cons next.worker (sym next.workers ∙ e));
              });
          all_calls = one_more (λ (v : View E Q R F). v.calls) h.log call s.views seat view after there refl h.all_calls;
          all_workers = subst (λ (l : List ℕ). IsPermutation (workers_from 0 count) l) (sym (same_flat (λ (v : View E Q R F). v.workers) s.views seat view after there refl)) h.all_workers;
        },
        refl,
      )

  pub puts : (slots seat : ℕ) (me : Me (Option (Held M Q R F)) (View E Q R F)) (view : View E Q R F) (machine : M) (note : Note Q R F)
      → me ≡ (view, (0, Some (record { machine = machine; note = Some note })) ∷ [])
      → slots ≡ 1 → IsNextCall answers wants_memory view (events_of machine) (health_of machine) note
      → (new : ℕ) → new ≡ 2 * view.known + 2
      → Allows Rule slots seat me 0 (λ _. new) (λ _. Puts events_of health_of (step slots 0 new 0 maybe.none) me new)
  puts slots seat me view machine note e one next new is =
      subst (λ (x : Me (Option (Held M Q R F)) (View E Q R F)). Allows Rule slots seat x 0 (λ _. new) (λ _. Puts events_of health_of (step slots 0 new 0 maybe.none) x new)) (sym e)
      (core slots seat view machine note one next new is)
