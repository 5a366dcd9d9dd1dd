-- What holds of each session that is over (this project's own).
use Rattle.std.specs.Prelude.{◌≡◌, ℕ, ◌<◌, ◌≤◌, true, Option, Some, List}
use Rattle.pool_io.specs.declared.turn.Turn.{Turn}
use Rattle.pool_io.specs.Steps.{BringsSteps, IsBytesOut, IsFreeBefore, IsIdleOut}
use Rattle.pool_history.specs.declared.asking.Request.{Request}
use Rattle.pool_history.specs.declared.events.Event.{Event}
use Rattle.pool_history.specs.declared.replies.Reply.TheVariants as reply
use Rattle.pool_history.specs.Answering.{Answer}
use Rattle.pool_history.specs.Refusing.{most_enters}
use Rattle.pool_history.specs.Sessions.{enters, past_of}
use Rattle.session_steps.specs.declared.manner.Manner.{Manner}
use Rattle.session_steps.specs.declared.ends.SessionEnd.{SessionEnd}
use Rattle.session_steps.specs.declared.ends.SessionEnd.TheVariants as end
use Rattle.session_steps.specs.States.{State, new_state}
use Rattle.session_steps.specs.Steps.{Follows, SessionStep, calls_in, turns_in}
use Rattle.v2_sessions.specs.Good.{IsGoodInput}
use Rattle.v2_sessions.specs.Running.{TakesAll, has_ended}
use Rattle.v2_sessions.specs.Ends.{ComesTo, EntersFirst, IsUnhindered, IsWellEnded, has_missed, has_turned_away, has_unkept, has_unwritten, is_enter, session_bounds}

-- the turns end with as many Idle ones in a row as are waited for
abbrev pub IdleOutShowsIdles : Type 0
IdleOutShowsIdles =
    (worker : ℕ) (manner : Manner) (steps : List SessionStep)
    → 0 < manner.idle_turns → ComesTo worker manner steps end.IdleOut
    → IsIdleOut (session_bounds manner.idle_turns) (turns_in steps)

-- as many bytes came as are taken
abbrev pub BytesOutShowsBytes : Type 0
BytesOutShowsBytes =
    (worker : ℕ) (manner : Manner) (steps : List SessionStep)
    → 0 < manner.idle_turns → ComesTo worker manner steps end.BytesOut
    → IsBytesOut (session_bounds manner.idle_turns) (turns_in steps)

-- no front of the turns but all of them reaches a limit, in a session that is over or not
abbrev pub LimitsComeLast : Type 0
LimitsComeLast =
    (worker : ℕ) (manner : Manner) (steps : List SessionStep)
    (last : State) → 0 < manner.idle_turns → Follows worker (new_state manner) steps last
    → IsFreeBefore (session_bounds manner.idle_turns) (turns_in steps)

abbrev pub PoolFullShowsReply : Type 0
PoolFullShowsReply =
    (worker : ℕ) (manner : Manner) (steps : List SessionStep)
    → 0 < manner.idle_turns → ComesTo worker manner steps end.PoolFull
    → has_turned_away (calls_in steps) ≡ true

abbrev pub LedgerFaultShowsCall : Type 0
LedgerFaultShowsCall =
    (worker : ℕ) (manner : Manner) (steps : List SessionStep)
    → 0 < manner.idle_turns → ComesTo worker manner steps end.LedgerFault
    → has_unkept (calls_in steps) ≡ true

abbrev pub ReadFaultShowsTake : Type 0
ReadFaultShowsTake =
    (worker : ℕ) (manner : Manner) (steps : List SessionStep)
    → 0 < manner.idle_turns → ComesTo worker manner steps end.ReadFault
    → has_missed steps ≡ true

abbrev pub WriteFaultShowsPut : Type 0
WriteFaultShowsPut =
    (worker : ℕ) (manner : Manner) (steps : List SessionStep)
    → 0 < manner.idle_turns → ComesTo worker manner steps end.WriteFault
    → has_unwritten steps ≡ true

-- a session that is over or not
abbrev pub EntersComeFirst : Type 0
EntersComeFirst =
    (worker : ℕ) (manner : Manner) (steps : List SessionStep)
    (last : State) → Follows worker (new_state manner) steps last
    → EntersFirst (calls_in steps)

-- an answer that the pool is full, wherever it comes
abbrev pub OnlyEntersFindItFull : Type 0
OnlyEntersFindItFull =
    (history : List Event) (worker : ℕ) (asked : Request) (events : List Event) (most : ℕ)
    → Answer history worker asked events (reply.PoolFull most)
    → (is_enter asked ≡ true) × (most_enters ≤ enters (past_of history))

-- the turns are those that a source told, all of them where the input ended
abbrev pub GoodInputEndsWell : Type 0
GoodInputEndsWell =
    (worker : ℕ) (manner : Manner) (steps : List SessionStep)
    (reason : SessionEnd) (told : List Turn) (left : Option (List Turn))
    → 0 < manner.idle_turns → ComesTo worker manner steps reason
    → BringsSteps (Some told) left (turns_in steps)
    → TakesAll (has_ended steps) (Some told) (turns_in steps)
    → IsGoodInput manner told → IsUnhindered manner.idle_turns steps → IsWellEnded reason
