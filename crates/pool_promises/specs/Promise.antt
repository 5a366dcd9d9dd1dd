-- What a pool promises of what serving leaves, whatever the sessions send, however that is cut and
-- interleaved (this project's own).
use Rattle.std.specs.Prelude.{◌≡◌, ◌↔◌, ℕ, ◌≤◌, None, Some, Ok, List, [], ◌∷◌, ◌++◌, length, take}
use Rattle.std.specs.List.{AllByRecursion}
use Rattle.pool_base.specs.Calls.{Parted, Replied}
use Rattle.pool_base.specs.Lists.{Begins}
use Rattle.pool_history.specs.declared.asking.Request.TheVariants as request
use Rattle.pool_history.specs.declared.events.Event.{Event}
use Rattle.pool_history.specs.declared.events.Role.TheVariants as role
use Rattle.pool_history.specs.declared.refusals.Failed.{Failed}
use Rattle.pool_history.specs.declared.replies.Reply.{Reply}
use Rattle.pool_history.specs.declared.replies.Reply.TheVariants as reply
use Rattle.pool_history.specs.declared.settings.Rules.{Rules}
use Rattle.pool_history.specs.declared.shares.Checked.{Checked}
use Rattle.pool_history.specs.Calls.{GoodPoolCalls, PoolCall}
use Rattle.pool_history.specs.Channels.{channels_of}
use Rattle.pool_history.specs.Crediting.{Booked, admitted_work}
use Rattle.pool_history.specs.Judging.{Admitted, Share, admission, share_of}
use Rattle.pool_history.specs.Legal.{Legal}
use Rattle.pool_history.specs.Sessions.{past_of}
use Rattle.pool_history.specs.Settling.{parts_in_block, settlement}
use Rattle.pool_history.specs.Summary.{summary_of}
use Rattle.history_laws.specs.Answered.{MaySubmit, credit_of}
use Rattle.history_laws.specs.Apart.{SpacesAreApart}
use Rattle.history_laws.specs.Credited.{AreCounted}
use Rattle.history_laws.specs.NineConditions.{FailsFirst, Holds, nine_codes}
use Rattle.history_laws.specs.Serving.{IsCalled}
use Rattle.payout_laws.specs.Conservation.{IsBlockOf, IsConserved}
use Rattle.payout_laws.specs.Summaries.{IsSummedUp}
use Rattle.session_steps.specs.declared.ends.SessionEnd.{SessionEnd}
use Rattle.session_steps.specs.declared.manner.Manner.{Manner}
use Rattle.session_steps.specs.Steps.{SessionStep, calls_in}
use Rattle.share_ledger.specs.Books.{KeepsInstead}
use Rattle.pool_sessions.specs.Calling.{StandInTurn, added_in}
use Rattle.pool_sessions.specs.Solo.{sole_worker}
use Rattle.pool_server.specs.Parts.{Service, manner_of}
use Rattle.pool_server.specs.Serving.{AreShifts, Hall, HasRun}
use Rattle.pool_server.specs.Tending.{all_calls}
use Rattle.pool_server.specs.Visits.{IsVisit}
use Rattle.pool_promises.specs.Answered.{AnswerAtDoors}
use Rattle.pool_promises.specs.Shares.{AnswersShares}

-- A share that a call was to book for a session that may submit it: it is credited, by its event, exactly
-- where each of the nine conditions holds of the history before the call, and is told its work then; else
-- it is refused, without an event, by the first that fails.
pub record IsJudgedByConditions (before : List Event) (call : PoolCall) (checked : Checked)
    (may : MaySubmit before call.worker) (answer : Reply) : Type 0 where
  pub credited : (call.added ≡ credit_of may.session (share_of checked.sub) ∷ [])
      ↔ FailsFirst (Holds may.rules before may.session (share_of checked.sub)) nine_codes None
  pub work : FailsFirst (Holds may.rules before may.session (share_of checked.sub)) nine_codes None
      → (with : Admitted)
      × (admission may.rules (past_of before) may.session (share_of checked.sub) ≡ Ok with)
      × (answer ≡ reply.Credited (admitted_work with))
  pub refused : (code : Failed)
      → FailsFirst (Holds may.rules before may.session (share_of checked.sub)) nine_codes (Some code)
      → (call.added ≡ []) × (answer ≡ reply.Refused code)

-- so a call was, if it was to book a share and was answered
abbrev pub JudgesByConditions : List Event → PoolCall → Type 0
JudgesByConditions history call =
    (checked : Checked) (answer : Reply) (may : MaySubmit (take call.front history) call.worker)
    → call.asked ≡ request.Commit checked → call.outcome ≡ Replied answer
    → IsJudgedByConditions (take call.front history) call checked may answer

-- A history of which nobody has to take credit or payouts on trust.
pub record IsSound (history : List Event) : Type 0 where
  -- each of its events is legal after those before it
  pub legal : Legal history
  -- no share is credited twice
  pub once : AreCounted history
  -- the spaces of extranonces of different open channels are disjoint, at each event
  pub apart : (before after : List Event) → history ≡ before ++ after
      → SpacesAreApart (channels_of (past_of before))
  -- each block's reward is its payouts plus the pool's part
  pub rewards : (rules : Rules) (credit : Booked) (older : List Booked) (reward : ℕ)
      → IsBlockOf history rules credit older reward
      → IsConserved rules.fee reward (parts_in_block rules.window (credit ∷ older))
      (settlement rules.window rules.fee reward (credit ∷ older))

-- What calls leave of a history from its first events on, with the counts of faults round them.
pub record KeepsHistory (start history : List Event) (least most : ℕ) (calls : List PoolCall) : Type 0
  where
    -- it begins as it began, and is sound
    pub begins : Begins start history
    pub sound : IsSound history
    -- the calls, in the order of their numbers, are all that became of it; each was answered by the
    -- history before it, or by a fault that its count shows, or memory ran out
    pub parted : Parted start history least most calls
    pub answered : GoodPoolCalls history calls
    -- a share is credited exactly where no condition fails, and else refused by the first that fails
    pub judged : AllByRecursion (JudgesByConditions history) calls
    -- each credit was asked for by one of the calls, in its worker's session, where no condition failed
    pub called : (before after : List Event) (session : ℕ) (share : Share)
        → history ≡ before ++ credit_of session share ∷ after → length start ≤ length before
        → IsCalled parted.ordered history before session share

-- What the calls of one session leave of a history: each stands at all that those before it left, and was
-- answered by that, and nothing else became of the history.
pub record KeepsInTurn (start history : List Event) (calls : List PoolCall) : Type 0 where
  pub grows : history ≡ start ++ added_in calls
  pub turns : StandInTurn start calls
  pub sound : IsSound history
  -- a share is credited exactly where no condition fails, and else refused by the first that fails
  pub judged : AllByRecursion (JudgesByConditions history) calls

-- The promise of a pool that serves one session in this manner, with these rules, from a history on.
pub record KeepsSession (rules : Rules) (manner : Manner) (from history : List Event)
    (steps : List SessionStep) : Type 0 where
  pub keeps : KeepsInTurn from history (calls_in steps)
  -- each share was answered by its own SubmitShares.Success or SubmitShares.Error, in their order
  pub shares : AnswersShares sole_worker manner steps
  -- the summary of the history is that of its credits and its blocks
  pub summed : IsSummedUp history rules (summary_of (past_of history))

-- The promise of a pool that serves a feed and whoever calls at its doors, on one book with these rules.
pub record KeepsItsPromise (service : Service) (rules : Rules) (old new : Hall) (reason : SessionEnd)
    (ledger_faults door_faults door_memory : ℕ)
    (run : HasRun service old new reason ledger_faults door_faults door_memory) : Type 0 where
  -- one history is left, by the calls of all sessions
  pub keeps : KeepsHistory old.book.events new.book.events old.book.keeper.faults
      new.book.keeper.faults (all_calls run.course run.shifts)
  -- what the keeper tells is that history's ledger
  pub ledger : KeepsInstead old.book.keeper.records new.book.keeper.records new.book.events
  -- the feed's session, and that of each caller at each door: what it took of its link, what it called
  -- for and what it put there are one course, in the language that its first byte tells
  pub fed : IsVisit service.terms (manner_of service role.Feed) 0 (record {
    before = old.feed;
    after = new.feed;
    course = run.course;
    reason = reason;
  })
  pub worked : AreShifts service 1 run.shifts
  -- each request of a caller who speaks lines was answered, just as often as it was asked; each share of one
  -- who speaks frames by its own SubmitShares.Success or SubmitShares.Error, in their order
  pub callers : AnswerAtDoors service 1 run.shifts
  -- the summary of the history is that of its credits and its blocks
  pub summed : IsSummedUp new.book.events rules (summary_of (past_of new.book.events))
