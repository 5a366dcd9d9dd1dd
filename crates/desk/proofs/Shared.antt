-- Seats that are cut in two and joined keep a desk's rule, and so does its opening.
use Rattle.std.proofs.Common.{◌≡◌, ℕ, zero, suc, Bool, false, List, [], ◌∷◌, ◌++◌, set, Option, Some, refl, sym, ap, ◌∙◌, subst, ⊎_elim, arith}
use Rattle.std.specs.List.Sorted.{IsPermutation}
use Rattle.std.proofs.lemmas.List.{append-nil, take-append-drop}
use Rattle.std.proofs.lemmas.List.Sorted.{IsPermutation-refl}
use mathlib.Core.Option as maybe
use lib.ListN.{get_elem?}
use Rattle.atomic_table.specs.Table.{State, Splits, Joins, opening}
use Rattle.atomic_table.proofs.Lists.{at_longer, at_snoc, set_else}
use Rattle.pool_base.specs.Calls.{Call}
use Rattle.desk.specs.declared.rule.Held.{Held}
use Rattle.desk.specs.Machines.{Health}
use Rattle.desk.specs.Views.{View, dealt_view, fresh_view, joined_view, left_view, spent_view, telling_view, workers_from}
use Rattle.desk.specs.Rule.{FitsHistory, IsOneHistory}
use Rattle.desk.proofs.Spread.{one_joined, one_split}
use Rattle.desk.proofs.Fronts.{begins-itself, begins-nothing}
use Rattle.desk.proofs.Kept.{all_set, none-is-some, off, turn_stays}

no-parts : {X : Type 0} (xs ys : List X) → xs ++ ys ≡ [] → (xs ≡ []) × (ys ≡ [])
no-parts [] ys e = (refl, e)
no-parts (x ∷ xs) ys e = absurd (cc)

module _ {E Q R F M : Type 0} (answers : List E → ℕ → Q → List E → R → Type 0) (wants_memory : F → Bool)
    (events_of : M → List E) (health_of : M → Health) (start : M) (count : ℕ) where
  abbrev Rule : State (Option (Held M Q R F)) (View E Q R F) → Type 0
  Rule s = IsOneHistory answers wants_memory events_of health_of start count s

  -- a seat gives some of what it has to a new one
  splits : (seat : ℕ) (view left right : View E Q R F)
      → view.calls ≡ right.calls ++ left.calls → view.workers ≡ right.workers ++ left.workers → left.has_turn ≡ view.has_turn
      → ((log : List (Call E Q R F)) (events : List E) (most : Health) (holder : maybe.Option ℕ) → FitsHistory log events most holder seat view
      → FitsHistory log events most holder seat left × ((j : ℕ) → FitsHistory log events most holder j right))
      → Splits Rule seat view left right
  splits seat view left right calls workers turn fit s h there =
      let fits = fit h.log h.events h.most h.holder (h.fits seat view there) in
      record {
        log = h.log;
        events = h.events;
        most = h.most;
        holder = h.holder;
        word = h.word;
        parts = h.parts;
        good = h.good;
        tells = h.tells;
        home = h.home;
        held = λ j is. let t = turn_stays s.views seat view left there turn j (h.held j is) in
            record { view = t.view; there = at_longer (set s.views seat left) (right ∷ []) j t.view t.there; has_turn = t.has_turn };
        fits = λ j u at. ⊎_elim
            (λ was. all_set (λ k v. FitsHistory h.log h.events h.most h.holder k v) s.views seat left (λ k v _ e. h.fits k v e) fits.0 j u was)
            (λ (same : right ≡ u). subst (λ (v : View E Q R F). FitsHistory h.log h.events h.most h.holder j v) same (fits.1 j))
            (at_snoc (set s.views seat left) right u j at);
        all_calls = one_split (λ (v : View E Q R F). v.calls) h.log s.views seat view left right there calls h.all_calls;
        all_workers = one_split (λ (v : View E Q R F). v.workers) (workers_from 0 count) s.views seat view left right there workers h.all_workers;
      }

  -- what a seat has seen is told
  pub tells : (seat : ℕ) (view : View E Q R F) → Splits Rule seat view view (telling_view view)
  tells seat view = splits seat view view (telling_view view) refl refl refl (λ log events most holder f. (
    f,
    λ j. record { seen = f.seen; told = begins-nothing events; known = f.known; turn = λ on. absurd (off on); idle = λ _. (refl, refl) },
  ))

  -- a worker is dealt
  pub deals : (seat : ℕ) (view : View E Q R F) → view.calls ≡ [] → view.has_turn ≡ false → Splits Rule seat view (left_view view) (dealt_view view)
  deals seat view none rests = splits seat view (left_view view) (dealt_view view) refl (sym (take-append-drop 1 view.workers)) refl (λ log events most holder f. (
    record { seen = f.seen; told = f.told; known = f.known; turn = f.turn; idle = λ _. (none, rests) },
    λ j. record { seen = f.seen; told = begins-nothing events; known = omega arith; turn = λ on. absurd (off on); idle = λ _. (refl, rests-itself) },
  ))
    where
      rests-itself : false ≡ false
      rests-itself = refl

  -- a seat takes over another's workers and calls
  pub joins : (seat : ℕ) (view : View E Q R F) (other : ℕ) (theirs : View E Q R F) → view.has_turn ≡ false → theirs.has_turn ≡ false
      → Joins Rule seat view other theirs (joined_view view theirs) spent_view
  joins seat view other theirs rests rest s h there apart there' =
      let both : View E Q R F = joined_view view theirs in
      let at : get_elem? s.views other ≡ maybe.some theirs = sym (set_else s.views seat other both apart) ∙ there' in
      let f = h.fits seat view there in
      let g = h.fits other theirs at in
      let own : FitsHistory h.log h.events h.most h.holder seat both = record {
        seen = f.seen;
        told = g.seen;
        known = omega (arith, f.known, g.known);
        turn = λ on. absurd (off (sym rests ∙ on));
        idle = λ e. let n = no-parts theirs.workers view.workers e in
            (ap (λ (l : List (Call E Q R F)). l ++ view.calls) (g.idle n.0).0 ∙ (f.idle n.1).0, rests);
      } in
      let spent : FitsHistory h.log h.events h.most h.holder other spent_view = record {
        seen = begins-nothing h.events;
        told = begins-nothing h.events;
        known = omega arith;
        turn = λ on. absurd (off on);
        idle = λ _. (refl, refl);
      } in
      record {
        log = h.log;
        events = h.events;
        most = h.most;
        holder = h.holder;
        word = h.word;
        parts = h.parts;
        good = h.good;
        tells = h.tells;
        home = h.home;
        held = λ j is. turn_stays (set s.views seat both) other theirs spent_view there' (sym rest) j (turn_stays s.views seat view both there refl j (h.held j is));
        fits = all_set (λ k v. FitsHistory h.log h.events h.most h.holder k v) (set s.views seat both) other spent_view
            (λ j u _ e. all_set (λ k v. FitsHistory h.log h.events h.most h.holder k v) s.views seat both (λ k v _ e'. h.fits k v e') own j u e)
            spent;
        all_calls = one_joined (λ (v : View E Q R F). v.calls) h.log s.views seat other view theirs both spent_view there at apart refl refl h.all_calls;
        all_workers = one_joined (λ (v : View E Q R F). v.workers) (workers_from 0 count) s.views seat other view theirs both spent_view there at apart refl refl h.all_workers;
      }

  -- a desk that opens
  pub opens : (held : Held M Q R F) → held.machine ≡ start → Rule (opening (0 ∷ []) (Some held ∷ []) (fresh_view (events_of start) (workers_from 0 count)))
  opens held is = record {
    log = [];
    events = events_of start;
    most = health_of start;
    holder = maybe.none;
    word = refl;
    parts = (refl, omega arith);
    good = tt;
    tells = refl;
    home = λ _. record { held = held; there = refl; events_are = ap events_of is; health_is = ap health_of is };
    held = λ j e. absurd (none-is-some j e);
    fits = one;
    all_calls = IsPermutation-refl [];
    all_workers = subst (λ (l : List ℕ). IsPermutation (workers_from 0 count) l) (sym (append-nil (workers_from 0 count))) (IsPermutation-refl (workers_from 0 count));
  }
    where
      first : View E Q R F
      first = fresh_view (events_of start) (workers_from 0 count)

      one : (j : ℕ) (u : View E Q R F) → get_elem? (first ∷ []) j ≡ maybe.some u → FitsHistory [] (events_of start) (health_of start) maybe.none j u
      one zero u e = subst (λ (v : View E Q R F). FitsHistory [] (events_of start) (health_of start) maybe.none 0 v) (maybe.some-injective first u e) (record {
        seen = begins-itself (events_of start);
        told = begins-nothing (events_of start);
        known = omega arith;
        turn = λ on. absurd (off on);
        idle = λ _. (refl, refl);
      })
      one (suc j) u e = absurd (none-is-some u e)
