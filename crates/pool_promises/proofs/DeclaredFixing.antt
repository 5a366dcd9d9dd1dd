-- Each event of a session that fixes a path fixes one that was declared.
use Rattle.std.proofs.Common.{◌≡◌, ℕ, true, Option, None, Some, List, [], ◌∷◌, ◌++◌, refl, sym, subst, ◌∙◌, append_assoc}
use Rattle.std.specs.List.{AllByRecursion}
use Rattle.std.specs.Option.{option_to_list}
use Rattle.pool_base.specs.Calls.{IsOutcome, Outcome, Replied, Faulted}
use Rattle.pool_history.specs.declared.events.Event.{Event}
use Rattle.pool_history.specs.declared.events.Event.TheVariants as event
use Rattle.pool_history.specs.declared.refusals.BookError.{BookError}
use Rattle.pool_history.specs.declared.replies.Reply.{Reply}
use Rattle.pool_history.specs.Answering.{Answer, step}
use Rattle.pool_history.specs.Calls.{PoolCall, wants_memory}
use Rattle.pool_history.specs.Sessions.{past_of}
use Rattle.pool_promises.proofs.Lists.{all_join}
use Rattle.session_steps.specs.declared.manner.Manner.{Manner}
use Rattle.session_steps.specs.States.{Put, State, new_state}
use Rattle.session_steps.specs.Steps.{Follows, SessionStep, Greeted, Took, Framed, Refused, Said, Overran, Idled, Ended, Missed, Starved, Spent, Called, calls_in}
use Rattle.pool_promises.specs.Declaring.{FixedPathsAreAskedFor, FixedPathsAreOfListed}
use Rattle.pool_promises.specs.Paths.{FixesAskedPath}
use Rattle.pool_sessions.specs.Calling.{StandInTurn, added_in}
use Rattle.pool_promises.specs.Declared.{FixesDeclared}
use Rattle.pool_promises.specs.DeclaredLedgers.{HistoriesFixListedPaths}

module _ (listed : FixedPathsAreOfListed) (asked_for : FixedPathsAreAskedFor) (worker : ℕ) (manner : Manner)
    (steps : List SessionStep) (last : State) (takes : manner.declares ≡ true)
    (follows : Follows worker (new_state manner) steps last) where
  event_fixes : (before later : List SessionStep) (call : PoolCall) (put : Put) (made : Event)
      → steps ≡ before ++ Called call put ∷ later → call.added ≡ made ∷ []
      → FixesAskedPath call.asked made → FixesDeclared steps made
  event_fixes before later call put (event.Grant session account true path) parts added asks =
      record {
        before = before;
        call = call;
        put = put;
        later = later;
        parts = parts;
        added = added;
        identity = asks.identity;
        asked_is = asks.asked_is;
        account_is = asks.account_is;
        listed = listed worker manner before later call put last asks.identity path takes
            (subst (λ l. Follows worker (new_state manner) l last) parts follows) asks.asked_is;
      }
  event_fixes before later call put _ parts added asks = tt

  -- a call adds one event at most
  made_fixes : (before later : List SessionStep) (call : PoolCall) (put : Put) (made : Option Event)
      → steps ≡ before ++ Called call put ∷ later → call.added ≡ option_to_list made
      → AllByRecursion (FixesAskedPath call.asked) call.added
      → AllByRecursion (FixesDeclared steps) call.added
  made_fixes before later call put None parts added asks =
      subst (AllByRecursion (FixesDeclared steps)) (sym added) tt
  made_fixes before later call put (Some made) parts added asks =
      subst (AllByRecursion (FixesDeclared steps)) (sym added) (
        event_fixes before later call put made parts added
            (subst (AllByRecursion (FixesAskedPath call.asked)) added asks).0,
        tt,
      )

  call_fixes : (before later : List SessionStep) (call : PoolCall) (put : Put) (events : List Event)
      (outcome : Outcome Reply BookError) → steps ≡ before ++ Called call put ∷ later
      → IsOutcome Answer wants_memory events call outcome
      → AllByRecursion (FixesDeclared steps) call.added
  call_fixes before later call put events (Replied answer) parts is =
      made_fixes before later call put (step (past_of events) call.worker call.asked).event parts is.events_are
      (asked_for events call.worker call.asked call.added answer is)
  call_fixes before later call put events (Faulted cause) parts is =
      subst (AllByRecursion (FixesDeclared steps)) (sym is.0) tt

  -- all calls from a step on
  fixes_on : (done later : List SessionStep) (events : List Event) → steps ≡ done ++ later
      → StandInTurn events (calls_in later)
      → AllByRecursion (FixesDeclared steps) (added_in (calls_in later))
  fixes_on done [] events parts turns = tt
  fixes_on done (Called call put ∷ later) events parts turns =
      all_join (FixesDeclared steps) call.added (added_in (calls_in later))
      (call_fixes done later call put events call.outcome parts turns.1)
      (fixes_on (done ++ Called call put ∷ []) later (events ++ call.added)
      (parts ∙ sym (append_assoc done (Called call put ∷ []) later)) turns.2)
  fixes_on done (Greeted put ∷ later) events parts turns =
      fixes_on (done ++ Greeted put ∷ []) later events (parts ∙ sym (append_assoc done (Greeted put ∷ []) later)) turns
  fixes_on done (Took bytes ∷ later) events parts turns =
      fixes_on (done ++ Took bytes ∷ []) later events (parts ∙ sym (append_assoc done (Took bytes ∷ []) later)) turns
  fixes_on done (Framed met ∷ later) events parts turns =
      fixes_on (done ++ Framed met ∷ []) later events (parts ∙ sym (append_assoc done (Framed met ∷ []) later)) turns
  fixes_on done (Refused put ∷ later) events parts turns =
      fixes_on (done ++ Refused put ∷ []) later events (parts ∙ sym (append_assoc done (Refused put ∷ []) later)) turns
  fixes_on done (Said put ∷ later) events parts turns =
      fixes_on (done ++ Said put ∷ []) later events (parts ∙ sym (append_assoc done (Said put ∷ []) later)) turns
  fixes_on done (Overran len ∷ later) events parts turns =
      fixes_on (done ++ Overran len ∷ []) later events (parts ∙ sym (append_assoc done (Overran len ∷ []) later)) turns
  fixes_on done (Idled ∷ later) events parts turns =
      fixes_on (done ++ Idled ∷ []) later events (parts ∙ sym (append_assoc done (Idled ∷ []) later)) turns
  fixes_on done (Ended ∷ later) events parts turns =
      fixes_on (done ++ Ended ∷ []) later events (parts ∙ sym (append_assoc done (Ended ∷ []) later)) turns
  fixes_on done (Missed ∷ later) events parts turns =
      fixes_on (done ++ Missed ∷ []) later events (parts ∙ sym (append_assoc done (Missed ∷ []) later)) turns
  fixes_on done (Starved ∷ later) events parts turns =
      fixes_on (done ++ Starved ∷ []) later events (parts ∙ sym (append_assoc done (Starved ∷ []) later)) turns
  fixes_on done (Spent ∷ later) events parts turns =
      fixes_on (done ++ Spent ∷ []) later events (parts ∙ sym (append_assoc done (Spent ∷ []) later)) turns

pub fixes_listed : FixedPathsAreOfListed → FixedPathsAreAskedFor → HistoriesFixListedPaths
fixes_listed listed asked_for worker manner from steps last takes follows turns =
    fixes_on listed asked_for worker manner steps last takes follows [] steps from refl turns
