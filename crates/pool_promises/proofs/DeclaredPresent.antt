-- A session that is set up is present in the pool, with the flags of its setup.
use Rattle.std.proofs.Common.{◌≡◌, ◌⊎◌, ℕ, Bool, true, false, Option, None, Some, List, ◌++◌, inl, inr, append-nil}
use Rattle.std.specs.Option.{option_to_list}
use Rattle.pool_base.specs.Calls.{IsOutcome, Outcome, Replied, Faulted}
use Rattle.pool_io.specs.declared.sink.SinkFailed.{SinkFailed}
use Rattle.pool_io.specs.declared.sink.SinkFailed.TheVariants as sink
use Rattle.pool_history.specs.declared.asking.Request.{Request}
use Rattle.pool_history.specs.declared.asking.Request.TheVariants as request
use Rattle.pool_history.specs.declared.events.Event.{Event}
use Rattle.pool_history.specs.declared.events.Role.{Role}
use Rattle.pool_history.specs.declared.refusals.BookError.{BookError}
use Rattle.pool_history.specs.declared.replies.Reply.{Reply}
use Rattle.pool_history.specs.declared.settings.Rules.{Rules}
use Rattle.pool_history.specs.Answering.{Answer, step}
use Rattle.pool_history.specs.Calls.{PoolCall, wants_memory}
use Rattle.pool_history.specs.Sessions.{past_of, rules_of}
use Rattle.history_laws.proofs.Legalities.{past-one}
use Rattle.pool_promises.specs.Presence.{entrance_by, moves_session}
use Rattle.pool_promises.proofs.Staying.{IsInside, rules_stay, stays_behind}
use Rattle.pool_promises.proofs.Stepping.{step_ends}
use Rattle.session_steps.specs.declared.ends.SessionEnd.{SessionEnd}
use Rattle.session_steps.specs.declared.ends.SessionEnd.TheVariants as end
use Rattle.session_steps.specs.States.{Stage, Asking, Leaving, Over, end_stage, put_stage}
use Rattle.session_steps.specs.Taken.{brings_own_jobs}
use Rattle.pool_promises.proofs.Stages.{IsQuiet}

-- it is set up with these flags, has entered, and is its worker's present session
pub record IsPresent (worker : ℕ) (events : List Event) (role : Role) (flags : Option ℕ)
    (entered : Bool) : Type 0 where
  pub with' : ℕ
  pub flags_are : flags ≡ Some with'
  pub entered_is : entered ≡ true
  pub session : ℕ
  pub rules : Rules
  pub inside : IsInside rules (entrance_by rules worker role with') session (past_of events)

-- or it isn't set up
abbrev pub IsSettled : ℕ → List Event → Role → Option ℕ → Bool → Type 0
IsSettled worker events role flags entered =
    (flags ≡ None) ⊎ IsPresent worker events role flags entered

-- what it is to ask: to enter, with the flags of its setup, or something of a present session, which
-- brings jobs of its own where that is a Grant of a path
abbrev pub StandsAsking : ℕ → List Event → Role → Option ℕ → Bool → Request → Type 0
StandsAsking worker events role flags entered (request.Enter entering with') =
    (entering ≡ role) × (flags ≡ Some with')
StandsAsking worker events role flags entered (request.Grant identity (Some path)) =
    IsPresent worker events role flags entered × (brings_own_jobs role flags ≡ true)
StandsAsking worker events role flags entered asked =
    IsPresent worker events role flags entered × (moves_session asked ≡ false)

abbrev pub StandsAt : ℕ → List Event → Role → Option ℕ → Bool → Stage → Type 0
StandsAt worker events role flags entered (Asking asked) =
    StandsAsking worker events role flags entered asked
StandsAt worker events role flags entered (Leaving reason) = Unit {0}
StandsAt worker events role flags entered (Over reason) = Unit {0}
StandsAt worker events role flags entered stage = IsSettled worker events role flags entered

-- ---- stages

module _ (worker : ℕ) (events : List Event) (role : Role) (flags : Option ℕ) (entered : Bool) where
  pub settled_at : (stage : Stage) → IsQuiet stage → IsSettled worker events role flags entered
      → StandsAt worker events role flags entered stage
  settled_at (Asking asked) quiet settled = absurd quiet
  settled_at (Leaving reason) quiet settled = tt
  settled_at (Over reason) quiet settled = tt
  settled_at _ quiet settled = settled

  pub ended_at : (has_entered : Bool) (reason : SessionEnd)
      → StandsAt worker events role flags entered (end_stage has_entered reason)
  ended_at true reason = tt
  ended_at false reason = tt

  pub put_at : (failed : Option SinkFailed) (has_entered : Bool) (stage : Stage)
      → StandsAt worker events role flags entered stage
      → StandsAt worker events role flags entered (put_stage failed has_entered stage)
  put_at None has_entered stage stands = stands
  put_at (Some sink.Failed) has_entered stage stands = ended_at has_entered end.WriteFault
  put_at (Some sink.Memory) has_entered stage stands = ended_at has_entered end.Memory

-- ---- a call

module _ (worker : ℕ) (events : List Event) (call : PoolCall) (own : call.worker ≡ worker) where
  rules_behind : (made : Option Event) (rules : Rules) → rules_of (past_of events) ≡ Some rules
      → rules_of (past_of (events ++ option_to_list made)) ≡ Some rules
  rules_behind None rules are = rw (append-nil events) are
  rules_behind (Some made) rules are = rw (past-one events made) (rules_stay made (past_of events) rules are)

  -- it leaves the rules as they are
  pub rules_on : (outcome : Outcome Reply BookError) → IsOutcome Answer wants_memory events call outcome
      → (rules : Rules) → rules_of (past_of events) ≡ Some rules
      → rules_of (past_of (events ++ call.added)) ≡ Some rules
  rules_on (Replied answer) is rules are =
      rw is.events_are (rules_behind (step (past_of events) call.worker call.asked).event rules are)
  rules_on (Faulted cause) is rules are = rw is.0 (rw (append-nil events) are)

  -- and a session present, where it neither begins nor ends one
  module _ (harmless : moves_session call.asked ≡ false) (role : Role) (flags : Option ℕ) (entered : Bool) where
    pub present_on : (outcome : Outcome Reply BookError) → IsOutcome Answer wants_memory events call outcome
        → IsPresent worker events role flags entered
        → IsPresent worker (events ++ call.added) role flags entered
    present_on outcome is there = record {
      with' = there.with';
      flags_are = there.flags_are;
      entered_is = there.entered_is;
      session = there.session;
      rules = there.rules;
      inside = inside_on outcome is there.inside;
    }
      where
        inside_on : (outcome : Outcome Reply BookError) → IsOutcome Answer wants_memory events call outcome
            → IsInside there.rules (entrance_by there.rules worker role there.with') there.session (past_of events)
            → IsInside there.rules (entrance_by there.rules worker role there.with') there.session (past_of (events ++ call.added))
        inside_on (Replied answer) is inside =
            rw is.events_are
            (stays_behind events (step (past_of events) call.worker call.asked).event
            (step_ends (past_of events) inside call.worker call.asked (λ same. harmless)) inside)
        inside_on (Faulted cause) is inside = rw is.0 (rw (append-nil events) inside)

    pub settled_on : (outcome : Outcome Reply BookError) → IsOutcome Answer wants_memory events call outcome
        → IsSettled worker events role flags entered
        → IsSettled worker (events ++ call.added) role flags entered
    settled_on outcome is settled =
        elim settled [
          | inl none ↦ inl none
          | inr there ↦ inr (present_on outcome is there)
        ]
