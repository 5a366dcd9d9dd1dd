-- What the calls that made a history leave (this project's own).
use Rattle.std.specs.Prelude.{◌≡◌, ℕ, ◌≤◌, Some, List, ◌∷◌, ◌++◌, bit_and, length, take}
use Rattle.std.specs.List.{AllByRecursion}
use Rattle.pool_base.specs.Calls.{Parted, Replied, RiseFrom}
use Rattle.pool_history.specs.declared.asking.Request.TheVariants as request
use Rattle.pool_history.specs.declared.events.Event.{Event}
use Rattle.pool_history.specs.declared.events.Role.{Role}
use Rattle.pool_history.specs.declared.replies.Reply.{Reply}
use Rattle.pool_history.specs.declared.replies.Reply.TheVariants as reply
use Rattle.pool_history.specs.declared.shares.Checked.{Checked}
use Rattle.pool_history.specs.Answering.{Answer}
use Rattle.pool_history.specs.Calls.{GoodPoolCalls, IsGoodPoolCall, PoolCall}
use Rattle.pool_history.specs.Judging.{Share, share_of}
use Rattle.pool_history.specs.declared.settings.Rules.{Rules}
use Rattle.pool_history.specs.Legal.{Legal, allowed_flags}
use Rattle.pool_history.specs.Sessions.{past_of, rules_of}
use Rattle.history_laws.specs.Answered.{IsCommitted, IsJudged, MaySubmit, credit_of}
use Rattle.history_laws.specs.Places.{HasEntered}

-- good calls that part a history from its first events on leave it legal where those are, whatever
-- was asked, in whatever order, and whatever failed
abbrev pub CallsKeepLegality : Type 0
CallsKeepLegality =
    (start history : List Event) (least most : ℕ) (calls : List PoolCall)
    → Parted start history least most calls
    → GoodPoolCalls history calls → Legal start → Legal history

-- a call that was answered was answered by the history before it
abbrev pub CallsAreAnswered : Type 0
CallsAreAnswered =
    (history : List Event) (call : PoolCall) (answer : Reply) → IsGoodPoolCall history call
    → call.outcome ≡ Replied answer
    → Answer (take call.front history) call.worker call.asked call.added answer

-- a share that such a call was to book, and that was answered, is judged by the history before the
-- call
abbrev pub CallsAreJudged : Type 0
CallsAreJudged =
    (history : List Event) (call : PoolCall) (checked : Checked) (answer : Reply)
    (may : MaySubmit (take call.front history) call.worker) → IsGoodPoolCall history call
    → call.asked ≡ request.Commit checked → call.outcome ≡ Replied answer
    → IsJudged (take call.front history) call.worker may (share_of checked.sub) call.added answer

-- a Credit was booked by one of the calls: its worker asked for it at the history before it, and no
-- condition failed
pub record IsCalled (calls : List PoolCall) (history before : List Event) (session : ℕ)
    (share : Share) : Type 0 where
  pub earlier : List PoolCall
  pub call : PoolCall
  pub later : List PoolCall
  pub stands : calls ≡ earlier ++ call ∷ later
  pub at_front : take call.front history ≡ before
  pub answer : Reply
  pub replied : call.outcome ≡ Replied answer
  pub committed : IsCommitted before call.worker call.asked session share

-- so was each Credit of such a history behind its first events
abbrev pub CreditsAreCalled : Type 0
CreditsAreCalled =
    (start history : List Event) (least most : ℕ) (calls : List PoolCall)
    → (parted : Parted start history least most calls) → GoodPoolCalls history calls
    → (before after : List Event) (session : ℕ) (share : Share)
    → history ≡ before ++ credit_of session share ∷ after
    → length start ≤ length before → IsCalled parted.ordered history before session share

-- a call that entered a session
pub record Enters (call : PoolCall) (role : Role) (flags session : ℕ) : Type 0 where
  pub asked : call.asked ≡ request.Enter role flags
  pub entered : call.outcome ≡ Replied (reply.Entered session)

-- a call finds the session entered, with those of the asked flags that the rules before its Enter
-- allow
pub record FindsEntered (history before : List Event) (worker : ℕ) (role : Role) (flags session : ℕ)
    (call : PoolCall) : Type 0 where
  pub rules : Rules
  pub are_rules : rules_of (past_of before) ≡ Some rules
  pub has_entered :
      HasEntered (take call.front history) worker role (bit_and flags (allowed_flags rules)) session

-- all that one caller asks behind the call that entered its session finds it entered, whatever
-- others called: none of its requests stands before its Enter
abbrev pub SessionsAskBehindTheirEnter : Type 0
SessionsAskBehindTheirEnter =
    (start history : List Event) (least most known now : ℕ) (earlier later others : List PoolCall)
    (enter : PoolCall)
    (role : Role) (flags session : ℕ)
    → Parted start history least most ((earlier ++ enter ∷ later) ++ others)
    → RiseFrom known (earlier ++ enter ∷ later) now
    → IsGoodPoolCall history enter → Enters enter role flags session
    → AllByRecursion
    (FindsEntered history (take enter.front history) enter.worker role flags session) later
