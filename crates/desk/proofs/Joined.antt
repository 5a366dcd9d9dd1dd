-- One seat takes over all passes.
use Rattle.std.proofs.Common.{◌≡◌, ℕ, Bool, List, [], ◌∷◌, ◌++◌, sym, ap, ◌∙◌, subst}
use Rattle.std.proofs.lemmas.List.{append-nil}
use Rattle.std.specs.List.{AllByRecursion}
use Rattle.atomic_table.specs.Table.{Me}
use Rattle.atomic_table.specs.Seated.{TableId}
use Rattle.pool_base.specs.Lists.{Begins}
use Rattle.pool_base.specs.Calls.{Call, GoodCalls, Parted}
use Rattle.pool_base.proofs.Behind.{all-map}
use Rattle.desk.specs.Machines.{Health}
use Rattle.desk.specs.Views.{View, joined_view}
use Rattle.desk.specs.Plays.{HasLooked}
use Rattle.desk.specs.Passes.{IsResting, Opening, Progress, progress_of}
use Rattle.desk.specs.Closing.{HasClosed, HasEveryWorker, IsJoined, IsOfSeat, calls_of}
use Rattle.desk.proofs.Closes.{parted-begins}
use Rattle.desk.proofs.Fronts.{begins-itself, begins-trans}

pub all-last : {X : Type 0} (P : X → Type 0) (xs : List X) (x : X) → AllByRecursion P (xs ++ x ∷ []) → AllByRecursion P xs × P x
all-last P [] x h = (tt, h.0)
all-last P (y ∷ ys) x h = let r = all-last P ys x h.1 in ((h.0, r.0), r.1)

module _ {E Q R F S : Type 0} where
  pub joined-one : (worker : ℕ) (table : TableId) (me : Me S (View E Q R F)) → IsResting worker me → IsJoined (progress_of worker table me.0 ∷ []) me
  joined-one worker table me rests = record {
    carried = rests.carried;
    turn = rests.turn;
    calls = sym (append-nil me.0.calls);
    workers = rests.workers;
    seen = (begins-itself me.0.seen, tt);
    rise = ((rests.numbers, rests.fronts), tt);
    own = (rests.own, tt);
  }

  pub joined-more : (done : List (Progress E Q R F)) (me other both now : Me S (View E Q R F)) (worker : ℕ) (table : TableId) (count : ℕ) → IsJoined done me → IsResting worker other
      → both ≡ (joined_view me.0 other.0, me.1) → HasLooked both count now → IsJoined (progress_of worker table other.0 ∷ done) now
  joined-more done me other both now worker table count joined rests is looked' =
      let looked : HasLooked (joined_view me.0 other.0, me.1) count now = subst (λ (m : Me S (View E Q R F)). HasLooked m count now) is looked' in
      subst (λ (m : Me S (View E Q R F)). IsJoined (progress_of worker table other.0 ∷ done) m) (sym looked.is) (record {
        carried = joined.carried;
        turn = joined.turn;
        calls = ap (λ (l : List (Call E Q R F)). other.0.calls ++ l) joined.calls;
        workers = ap (λ (l : List ℕ). l ++ me.0.workers) rests.workers ∙ ap (λ (l : List ℕ). worker ∷ l) joined.workers;
        seen = (
          looked.told,
          all-map (λ (pass : Progress E Q R F). Begins pass.seen me.0.seen) _ (λ pass b. begins-trans pass.seen me.0.seen _ b looked.seen) done joined.seen,
        );
        rise = ((rests.numbers, rests.fronts), joined.rise);
        own = (rests.own, joined.own);
      })

module _ {E Q R F M S : Type 0} (answers : List E → ℕ → Q → List E → R → Type 0) (wants_memory : F → Bool) (events_of : M → List E) (health_of : M → Health) where
  pub has-closed : (desk : Opening M) (passes : List (Progress E Q R F)) (me : Me S (View E Q R F)) (machine : M) → HasEveryWorker desk.count passes
      → IsJoined passes me → IsOfSeat answers wants_memory events_of health_of desk.start me.0 machine
      → HasClosed answers wants_memory events_of health_of desk passes machine
  has-closed desk passes me machine every joined ends =
      let parted : Parted (events_of desk.start) (events_of machine) (health_of desk.start).faults (health_of machine).faults (calls_of passes) =
      subst (λ (l : List (Call E Q R F)). Parted (events_of desk.start) (events_of machine) (health_of desk.start).faults (health_of machine).faults l) joined.calls ends.parted in
      let begins = parted-begins (events_of desk.start) (events_of machine) (health_of desk.start).faults (health_of machine).faults (calls_of passes) parted in
      record {
        complete = every;
        begins = begins.0;
        seen = all-map (λ (pass : Progress E Q R F). Begins pass.seen me.0.seen) (λ (pass : Progress E Q R F). Begins pass.seen (events_of machine))
            (λ pass b. begins-trans pass.seen me.0.seen (events_of machine) b ends.seen) passes joined.seen;
        rise = joined.rise;
        own = joined.own;
        good = subst (λ (l : List (Call E Q R F)). GoodCalls answers wants_memory (events_of machine) l) joined.calls ends.good;
        parted = parted;
        later = record { faults = begins.1; tells = ends.tells };
      }
