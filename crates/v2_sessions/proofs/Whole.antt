-- Good input ends well where nothing else failed.
use Rattle.std.proofs.Common.{◌≡◌, ℕ, ◌<◌, Bool, true, false, List, Option, Some, refl, subst, inl, inr}
use Rattle.pool_base.specs.Counts.{Rose}
use Rattle.pool_io.specs.declared.turn.Turn.{Turn}
use Rattle.pool_io.specs.Outside.{CountsFailure}
use Rattle.pool_io.specs.Steps.{Bounds, BringsSteps, IsAtLimit, IsFree, ReadStep, steps_of}
use Rattle.pool_io.proofs.Stepping.{free_of}
use Rattle.session_steps.specs.declared.manner.Manner.{Manner}
use Rattle.session_steps.specs.declared.ends.SessionEnd.{SessionEnd}
use Rattle.session_steps.specs.declared.ends.SessionEnd.TheVariants as end
use Rattle.session_steps.specs.Steps.{SessionStep, calls_in, turns_in}
use Rattle.v2_sessions.specs.Causes.{is_read_end, is_write_end}
use Rattle.v2_sessions.specs.Good.{IsGoodEnd}
use Rattle.v2_sessions.specs.Running.{has_ended}
use Rattle.v2_sessions.proofs.Good.{ends_good, left_over, none_left, whole_told}
use Rattle.v2_sessions.specs.Ends.{ComesTo, Failures, HasNoHindrance, IsWellEnded, has_missed, has_turned_away, has_unkept, has_unwritten, session_bounds}
use Rattle.v2_sessions.specs.Laws.{GoodInputEndsWell}
use Rattle.v2_sessions.proofs.Rising.{CountsThrough, rose_by, unkept_rose}
use Rattle.v2_sessions.proofs.Standing.{EndShows, ends_show}

pub neither : (b : Bool) → b ≡ true → b ≡ false → ⊥
neither true is not = cc
neither false is not = cc

-- no end but these two is left
ends_well : (bounds : Bounds) (xs : List SessionStep) (reason : SessionEnd) → IsGoodEnd reason → EndShows bounds xs reason
    → (IsAtLimit bounds (turns_in xs) → ⊥) → (has_turned_away (calls_in xs) ≡ true → ⊥) → (has_unkept (calls_in xs) ≡ true → ⊥)
    → (reason ≡ end.ReadFault → ⊥) → (reason ≡ end.WriteFault → ⊥) → IsWellEnded reason
ends_well bounds xs end.Done good shows limit away unkept read written = tt
ends_well bounds xs end.Memory good shows limit away unkept read written = tt
ends_well bounds xs (end.CutFrame count) good shows limit away unkept read written = good
ends_well bounds xs (end.TooLong len) good shows limit away unkept read written = good
ends_well bounds xs end.BadSetup good shows limit away unkept read written = good
ends_well bounds xs (end.BadMessage kind) good shows limit away unkept read written = good
ends_well bounds xs end.LineTooLong good shows limit away unkept read written = good
ends_well bounds xs end.IdleOut good shows limit away unkept read written = limit (inl shows)
ends_well bounds xs end.BytesOut good shows limit away unkept read written = limit (inr shows)
ends_well bounds xs end.PoolFull good shows limit away unkept read written = away shows
ends_well bounds xs end.LedgerFault good shows limit away unkept read written = unkept shows
ends_well bounds xs end.ReadFault good shows limit away unkept read written = read refl
ends_well bounds xs end.WriteFault good shows limit away unkept read written = written refl

pub good_ends_well : GoodInputEndsWell
good_ends_well worker manner xs reason told left positive comes brought all input free =
    let shows = ends_show worker manner xs comes.last reason positive comes.follows comes.over in
    ends_well (session_bounds manner.idle_turns) xs reason
    (ends_good worker manner comes.last xs reason input.frames (left_over told left xs brought) comes.follows comes.over
    (whole_told told left xs brought input.frames input.whole)
    (λ ended. none_left told left xs brought (has_ended xs) ended all) input.good)
    shows free.within (λ away. neither (has_turned_away (calls_in xs)) away free.let_in) (λ unkept. neither (has_unkept (calls_in xs)) unkept free.kept)
    (λ is. neither (has_missed xs) (subst (EndShows (session_bounds manner.idle_turns) xs) is shows) free.read)
    (λ is. neither (has_unwritten xs) (subst (EndShows (session_bounds manner.idle_turns) xs) is shows) free.written)

-- what a source brings reaches no limit, so what was taken of it doesn't
brought_free : (bounds : Bounds) (turns : List Turn) (left : Option (List Turn)) (taken : List ReadStep) → BringsSteps (Some turns) left taken
    → IsFree bounds (steps_of turns) → IsAtLimit bounds taken → ⊥
brought_free bounds turns left taken brought free at = free_of bounds (steps_of turns) taken (steps_of brought.0) free brought.2 at

-- The same by the counts that go with a session, whatever shows what it ended for.
module _ (idle_turns : ℕ) (xs : List SessionStep) (reason : SessionEnd) (turns : List Turn) (left : Option (List Turn)) (shows : EndShows (session_bounds idle_turns) xs reason)
    (brought : BringsSteps (Some turns) left (turns_in xs)) (lets : has_turned_away (calls_in xs) ≡ false) (good : IsGoodEnd reason) where
  pub unhindered_well : (old new : Failures) → CountsFailure (is_read_end reason) old.reads new.reads → CountsFailure (is_write_end reason) old.writes new.writes
      → CountsThrough old.keeper (calls_in xs) new.keeper → HasNoHindrance idle_turns turns old new → IsWellEnded reason
  unhindered_well old new reads writes counts free =
      ends_well (session_bounds idle_turns) xs reason good shows
      (brought_free (session_bounds idle_turns) turns left (turns_in xs) brought free.within)
      (λ away. neither (has_turned_away (calls_in xs)) away lets)
      (λ unkept. free.keeper (unkept_rose old.keeper new.keeper (calls_in xs) counts unkept))
      (λ is. free.reads (rose_by true old.reads new.reads refl (subst (λ r. CountsFailure (is_read_end r) old.reads new.reads) is reads)))
      (λ is. free.writes (rose_by true old.writes new.writes refl (subst (λ r. CountsFailure (is_write_end r) old.writes new.writes) is writes)))

  -- and by its own calls, none of which was answered by the keeper's fault or that the pool is full
  pub unstopped_well : (r r' w w' : ℕ) → CountsFailure (is_read_end reason) r r' → CountsFailure (is_write_end reason) w w' → IsFree (session_bounds idle_turns) (steps_of turns)
      → ¬ Rose r r' → ¬ Rose w w' → has_unkept (calls_in xs) ≡ false → IsWellEnded reason
  unstopped_well r r' w w' reads writes free read written kept =
      ends_well (session_bounds idle_turns) xs reason good shows
      (brought_free (session_bounds idle_turns) turns left (turns_in xs) brought free)
      (λ away. neither (has_turned_away (calls_in xs)) away lets)
      (λ unkept. neither (has_unkept (calls_in xs)) unkept kept)
      (λ is. read (rose_by true r r' refl (subst (λ e. CountsFailure (is_read_end e) r r') is reads)))
      (λ is. written (rose_by true w w' refl (subst (λ e. CountsFailure (is_write_end e) w w') is writes)))
