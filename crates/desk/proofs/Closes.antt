-- When one seat has every worker, its calls are all calls, and the machine is in its slot.
use Rattle.std.proofs.Common.{◌≡◌, ◌≢◌, ℕ, zero, suc, ◌+◌, ◌<◌, ◌≤◌, Bool, false, cond, eqb, eq-eqb, ne_eqb, List, [], ◌∷◌, ◌++◌, length, get_or, set, Option, Some, refl, sym, ap, ◌∙◌, subst, arith}
use Rattle.std.specs.List.{Contains, count_by, flat_map}
use Rattle.std.specs.List.Sorted.{IsPermutation}
use Rattle.std.proofs.lemmas.List.{append-nil}
use Rattle.std.proofs.lemmas.List.Elements.{All-from_recursion, recursion_from_All}
use Rattle.std.proofs.lemmas.List.Sorted.{All-permutation, sum_by-IsPermutation}
use Rattle.std.proofs.lemmas.List.Sums.{sum_by-append, sum_by-cons}
use mathlib.Core.Option as maybe
use native.Mathlib.Decide.{dec_le, ℕ_discrete}
use lib.ListN.{get_elem?}
use Rattle.atomic_table.specs.Table.{State}
use Rattle.atomic_table.proofs.Lists.{set_else}
use Rattle.pool_base.specs.Lists.{Begins}
use Rattle.pool_base.specs.Calls.{Call, GoodCalls, IsGoodCall, Parted}
use Rattle.pool_base.specs.Standing.{AreAll}
use Rattle.pool_base.proofs.Behind.{calls-all}
use Rattle.desk.specs.declared.rule.Held.{Held}
use Rattle.desk.specs.Machines.{Health}
use Rattle.desk.specs.Views.{View, spent_view, workers_from}
use Rattle.desk.specs.Rule.{HasTurn, IsAtHome, IsOneHistory}
use Rattle.desk.specs.Closing.{IsOfSeat}
use Rattle.desk.proofs.Spread.{beside}
use Rattle.desk.proofs.Kept.{none-is-some, off, parts-length}

-- how often a worker stands in a list
times : ℕ → List ℕ → ℕ
times w xs = count_by (eqb w) xs

times-more : (w x : ℕ) (xs : List ℕ) → times w (x ∷ xs) ≡ cond (eqb w x) 1 0 + times w xs
unfolding times
times-more w x xs = sum_by-cons (λ y. cond (eqb w y) 1 0) x xs

times-here : (w x : ℕ) (xs : List ℕ) → w ≡ x → times w (x ∷ xs) ≡ 1 + times w xs
times-here w x xs e = times-more w x xs ∙ ap (λ (b : Bool). cond b 1 0 + times w xs) (eq-eqb w x e)

times-else : (w x : ℕ) (xs : List ℕ) → w ≢ x → times w (x ∷ xs) ≡ 0 + times w xs
times-else w x xs ne = times-more w x xs ∙ ap (λ (b : Bool). cond b 1 0 + times w xs) (ne_eqb w x ne)

times-append : (w : ℕ) (xs ys : List ℕ) → times w (xs ++ ys) ≡ times w xs + times w ys
unfolding times
times-append w xs ys = sum_by-append (λ y. cond (eqb w y) 1 0) xs ys

times-permutation : (w : ℕ) (xs ys : List ℕ) → IsPermutation xs ys → times w ys ≡ times w xs
unfolding times
times-permutation w xs ys h = sum_by-IsPermutation (λ y. cond (eqb w y) 1 0) xs ys h

there-once : (xs : List ℕ) (w k : ℕ) → k < length xs → get_or xs k w ≡ w → 1 ≤ times w xs
there-once [] w k less is = absurd (omega arith)
there-once (x ∷ xs) w zero less is = let t = times-here w x xs (sym is) in omega (arith, t)
there-once (x ∷ xs) w (suc k) less is = by_case (there-once xs w k (omega arith) is) (ℕ_discrete w x)
  where
    by_case : 1 ≤ times w xs → Dec (w ≡ x) → 1 ≤ times w (x ∷ xs)
    by_case h (yes e) = let t = times-here w x xs e in omega (arith, t)
    by_case h (no ne) = let t = times-else w x xs ne in omega (arith, t, h)

no-times : (w : ℕ) → times w [] ≡ 0
unfolding times
no-times w = refl

low-times : (w first count : ℕ) → w < first → times w (workers_from first count) ≡ 0
low-times w first zero less = no-times w
low-times w first (suc n) less =
    let t = times-else w first (workers_from (first + 1) n) (λ e. omega (arith, e, less)) in
    let h = low-times w (first + 1) n (omega arith) in omega (arith, t, h)

high-times : (w first count : ℕ) → first + count ≤ w → times w (workers_from first count) ≡ 0
high-times w first zero more = no-times w
high-times w first (suc n) more =
    let t = times-else w first (workers_from (first + 1) n) (λ e. omega (arith, e, more)) in
    let h = high-times w (first + 1) n (omega arith) in omega (arith, t, h)

once : (w first count : ℕ) → times w (workers_from first count) ≤ 1
once w first zero = let t = no-times w in omega (arith, t)
once w first (suc n) = by_case (once w (first + 1) n) (ℕ_discrete w first)
  where
    by_case : times w (workers_from (first + 1) n) ≤ 1 → Dec (w ≡ first) → times w (workers_from first (suc n)) ≤ 1
    by_case h (yes e) =
        let t = times-here w first (workers_from (first + 1) n) e in
        let low = low-times w (first + 1) n (omega arith) in omega (arith, t, low)
    by_case h (no ne) = let t = times-else w first (workers_from (first + 1) n) ne in omega (arith, t, h)

below-by : (w count : ℕ) → 1 ≤ times w (workers_from 0 count) → Dec (count ≤ w) → w < count
below-by w count some (yes more) = let h = high-times w 0 count (omega arith) in absurd (omega (arith, some, h))
below-by w count some (no less) = omega arith

module _ {V X : Type 0} (f : V → List X) where
  none-flat : (views : List V) → ((j : ℕ) (u : V) → get_elem? views j ≡ maybe.some u → f u ≡ []) → flat_map f views ≡ []
  none-flat [] all = refl
  none-flat (x ∷ xs) all = ap (λ (l : List X). l ++ flat_map f xs) (all 0 x refl) ∙ none-flat xs (λ j u at. all (suc j) u at)

  only-flat : (views : List V) (seat : ℕ) (view : V) → get_elem? views seat ≡ maybe.some view → ((j : ℕ) (u : V) → j ≢ seat → get_elem? views j ≡ maybe.some u → f u ≡ [])
      → flat_map f views ≡ f view
  only-flat [] seat view there others = absurd (none-is-some view there)
  only-flat (x ∷ xs) zero view there others =
      ap (λ (l : List X). f x ++ l) (none-flat xs (λ j u at. others (suc j) u (λ e. omega (arith, e)) at)) ∙ append-nil (f x)
      ∙ ap f (maybe.some-injective x view there)
  only-flat (x ∷ xs) (suc seat) view there others =
      ap (λ (l : List X). l ++ flat_map f xs) (others 0 x (λ e. omega (arith, e)) refl)
      ∙ only-flat xs seat view there (λ j u ne at. others (suc j) u (λ e. ne (omega (arith, e))) at)

-- what good calls are, they are in another order
good-ordered : {E Q R F : Type 0} (answers : List E → ℕ → Q → List E → R → Type 0) (wants_memory : F → Bool) (events : List E) (log calls : List (Call E Q R F))
    → IsPermutation log calls → GoodCalls answers wants_memory events log → GoodCalls answers wants_memory events calls
good-ordered answers wants_memory events log calls same good =
    let P = λ (call : Call _ _ _ _). IsGoodCall answers wants_memory events call in
    recursion_from_All P calls (All-permutation P log calls same (All-from_recursion P log good))

module _ {E Q R F M : Type 0} (answers : List E → ℕ → Q → List E → R → Type 0) (wants_memory : F → Bool)
    (events_of : M → List E) (health_of : M → Health) (start : M) (count : ℕ) where
  abbrev Rule : State (Option (Held M Q R F)) (View E Q R F) → Type 0
  Rule s = IsOneHistory answers wants_memory events_of health_of start count s

  -- a seat beside one that has every worker has none
  no-worker : (s : State (Option (Held M Q R F)) (View E Q R F)) (seat : ℕ) (view : View E Q R F) → (h : Rule s) → get_elem? s.views seat ≡ maybe.some view
      → ((w : ℕ) → w < count → Contains view.workers w) → (j : ℕ) (u : View E Q R F) → j ≢ seat → get_elem? s.views j ≡ maybe.some u
      → (w : ℕ) (ws : List ℕ) → u.workers ≡ w ∷ ws → ⊥
  no-worker s seat view h there every j u apart at w ws is =
      let b = beside (λ (v : View E Q R F). v.workers) s.views seat view there in
      let without : List (View E Q R F) = set s.views seat spent_view in
      let d = beside (λ (v : View E Q R F). v.workers) without j u (set_else s.views seat j spent_view apart ∙ at) in
      let all : times w (flat_map (λ (v : View E Q R F). v.workers) s.views) ≡ times w (workers_from 0 count) =
      times-permutation w (workers_from 0 count) (flat_map (λ (v : View E Q R F). v.workers) s.views) h.all_workers in
      let both : times w (view.workers ++ b.others) ≡ times w view.workers + times w b.others = times-append w view.workers b.others in
      let one : times w (flat_map (λ (v : View E Q R F). v.workers) s.views) ≡ times w (view.workers ++ b.others) =
      times-permutation w (view.workers ++ b.others) (flat_map (λ (v : View E Q R F). v.workers) s.views) b.now in
      let two : times w (flat_map (λ (v : View E Q R F). v.workers) without) ≡ times w b.others =
      times-permutation w b.others (flat_map (λ (v : View E Q R F). v.workers) without) (b.then spent_view) in
      let three : times w (flat_map (λ (v : View E Q R F). v.workers) without) ≡ times w (u.workers ++ d.others) =
      times-permutation w (u.workers ++ d.others) (flat_map (λ (v : View E Q R F). v.workers) without) d.now in
      let four : times w (u.workers ++ d.others) ≡ times w u.workers + times w d.others = times-append w u.workers d.others in
      let five : times w u.workers ≡ 1 + times w ws = ap (times w) is ∙ times-here w w ws refl in
      let most : times w (workers_from 0 count) ≤ 1 = once w 0 count in
      let less : w < count = below-by w count (omega (arith, all, one, both, two, three, four, five)) (dec_le count w) in
      let own = every w less in
      let six : 1 ≤ times w view.workers = there-once view.workers w own.0 own.1 own.2 in
      omega (arith, all, one, both, two, three, four, five, six, most)

  none-left : (s : State (Option (Held M Q R F)) (View E Q R F)) (seat : ℕ) (view : View E Q R F) → (h : Rule s) → get_elem? s.views seat ≡ maybe.some view
      → ((w : ℕ) → w < count → Contains view.workers w) → (j : ℕ) (u : View E Q R F) → j ≢ seat → get_elem? s.views j ≡ maybe.some u
      → (workers : List ℕ) → u.workers ≡ workers → (u.calls ≡ []) × (u.has_turn ≡ false)
  none-left s seat view h there every j u apart at [] is = (h.fits j u at).idle is
  none-left s seat view h there every j u apart at (w ∷ ws) is = absurd (no-worker s seat view h there every j u apart at w ws is)

  -- so nobody has the turn
  at-home : (s : State (Option (Held M Q R F)) (View E Q R F)) (seat : ℕ) (view : View E Q R F) → (h : Rule s) → get_elem? s.views seat ≡ maybe.some view
      → view.has_turn ≡ false → ((w : ℕ) → w < count → Contains view.workers w)
      → (holder : maybe.Option ℕ) → h.holder ≡ holder → IsAtHome events_of health_of s.homes h.events h.most
  at-home s seat view h there rests every maybe.none out = h.home out
  at-home s seat view h there rests every (maybe.some j) out = absurd (by_place (h.held j out) (ℕ_discrete j seat))
    where
      by_place : HasTurn s.views j → Dec (j ≡ seat) → ⊥
      by_place t (yes e) = off (sym rests ∙ ap (λ (v : View E Q R F). v.has_turn) (maybe.some-injective view t.view (sym there ∙ ap (λ (k : ℕ). get_elem? s.views k) (sym e) ∙ t.there)) ∙ t.has_turn)
      by_place t (no apart) = off (sym (none-left s seat view h there every j t.view apart t.there t.view.workers refl).1 ∙ t.has_turn)

  -- what was in the slot
  pub record Closes (view : View E Q R F) (homes : List (maybe.Option (Option (Held M Q R F)))) : Type 0 where
    pub held : Held M Q R F
    pub there : get_elem? homes 0 ≡ maybe.some (maybe.some (Some held))
    pub ends : IsOfSeat answers wants_memory events_of health_of start view held.machine

  pub closes : (s : State (Option (Held M Q R F)) (View E Q R F)) (seat : ℕ) (view : View E Q R F) → Rule s → get_elem? s.views seat ≡ maybe.some view
      → view.has_turn ≡ false → ((w : ℕ) → w < count → Contains view.workers w) → Closes view s.homes
  closes s seat view h there rests every =
      let home = at-home s seat view h there rests every h.holder refl in
      let whole : flat_map (λ (v : View E Q R F). v.calls) s.views ≡ view.calls =
      only-flat (λ (v : View E Q R F). v.calls) s.views seat view there (λ j u apart at. (none-left s seat view h there every j u apart at u.workers refl).0) in
      let same : IsPermutation h.log view.calls = subst (λ (l : List (Call E Q R F)). IsPermutation h.log l) whole h.all_calls in
      record {
        held = home.held;
        there = home.there;
        ends = record {
          seen = subst (λ (l : List E). Begins view.seen l) (sym home.events_are) (h.fits seat view there).seen;
          good = subst (λ (l : List E). GoodCalls answers wants_memory l view.calls) (sym home.events_are)
              (good-ordered answers wants_memory h.events h.log view.calls same h.good);
          parted = subst (λ (l : List E). Parted (events_of start) l (health_of start).faults (health_of home.held.machine).faults view.calls) (sym home.events_are)
              (subst (λ (health : Health). Parted (events_of start) h.events (health_of start).faults health.faults view.calls) (sym home.health_is)
              (record { ordered = h.log; same = same; parts = h.parts }));
          tells = ap (λ (health : Health). health.tells) home.health_is ∙ h.tells;
        };
      }

-- what parts events begins with those of the start, and its counts don't fall
pub parted-begins : {E Q R F : Type 0} (start events : List E) (least most : ℕ) (calls : List (Call E Q R F)) → Parted start events least most calls
    → Begins start events × (least ≤ most)
parted-begins start events least most calls p =
    let a : AreAll start events p.ordered = calls-all start events least most calls p in
    ((_, sym a.whole), parts-length start 0 least events most p.ordered p.parts)
