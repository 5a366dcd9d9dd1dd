-- A session over a book of its own ends well where no count rose and no limit was reached.
use Rattle.std.proofs.Common.{◌≡◌, ℕ, ◌<◌, ◌||◌, Bool, true, false, List, [], ◌∷◌, ◌++◌, Some, refl, ap, subst, ◌∙◌, arith}
use Rattle.std.specs.List.{AllByRecursion}
use Rattle.pool_base.specs.Counts.{Rose}
use Rattle.pool_base.specs.Calls.{IsOutcome, Outcome, Replied, Faulted}
use Rattle.pool_io.specs.declared.turn.Turn.{Turn}
use Rattle.pool_io.specs.Outside.{CountsFailure}
use Rattle.pool_history.specs.declared.events.Event.{Event}
use Rattle.pool_history.specs.declared.events.Event.TheVariants as event
use Rattle.pool_history.specs.declared.refusals.BookError.{BookError}
use Rattle.pool_history.specs.declared.refusals.BookError.TheVariants as fault
use Rattle.pool_history.specs.declared.replies.Reply.{Reply}
use Rattle.pool_history.specs.declared.replies.Reply.TheVariants as reply
use Rattle.pool_history.specs.declared.settings.Rules.{Rules}
use Rattle.pool_history.specs.Answering.{Answer}
use Rattle.pool_history.specs.Calls.{PoolCall, blames_keeper, wants_memory}
use Rattle.pool_history.specs.Refusing.{most_enters}
use Rattle.pool_history.specs.Sessions.{enters, past_of}
use Rattle.session_steps.specs.declared.ends.SessionEnd.{SessionEnd}
use Rattle.session_steps.specs.declared.manner.Manner.{Manner}
use Rattle.session_steps.specs.Steps.{calls_in}
use Rattle.v2_sessions.specs.Good.{IsGoodEnd, IsGoodInput}
use Rattle.v2_sessions.specs.Ends.{EntersFirst, IsWellEnded, has_turned_away, is_enter, is_turned_away}
use Rattle.v2_sessions.proofs.Entering.{enters_first}
use Rattle.v2_sessions.proofs.Filling.{few_entered, only_enters}
use Rattle.v2_sessions.proofs.Rising.{CountsThrough, rose_by}
use Rattle.v2_sessions.proofs.Standing.{ends_show}
use Rattle.v2_sessions.proofs.Whole.{neither, unhindered_well}
use Rattle.pool_sessions.specs.Calling.{StandInTurn}
use Rattle.pool_sessions.specs.Solo.{CountsCalls, IsServedWell, IsSessionOn, IsSoloSession, OnGoodInput, Outsides, ServesBook, ServesSession, failures_of, sole_worker, solo_manner}
use Rattle.pool_sessions.specs.declared.alone.SoloEnd.TheVariants as solo

-- the counts round the calls go through them
through_calls : (before now : ℕ) (calls : List PoolCall) → CountsCalls before calls now → CountsThrough before calls now
through_calls before now [] counts = counts
through_calls before now (call ∷ calls) counts = (call.faults_after, counts.1, through_calls call.faults_after now calls counts.2)

-- a request that doesn't ask to enter finds no full pool
not_away : (events : List Event) (call : PoolCall) (outcome : Outcome Reply BookError)
    → IsOutcome Answer wants_memory events call outcome → is_enter call.asked ≡ false → is_turned_away outcome ≡ false
not_away events call (Faulted cause) answered asks = refl
not_away events call (Replied (reply.PoolFull most)) answered asks =
    absurd (neither (is_enter call.asked) (only_enters events call.worker call.asked call.added most answered).0 asks)
not_away events call (Replied _) answered asks = refl

later_in : (events : List Event) (calls : List PoolCall) → StandInTurn events calls → AllByRecursion (λ later. is_enter later.asked ≡ false) calls
    → has_turned_away calls ≡ false
later_in events [] turns asks = refl
later_in events (call ∷ calls) turns asks =
    ap (λ b. b || has_turned_away calls) (not_away events call call.outcome turns.1 asks.0) ∙ later_in (events ++ call.added) calls turns.2 asks.1

-- where one session more can enter, the first call finds it so
all_in : (from : List Event) (calls : List PoolCall) → StandInTurn from calls → EntersFirst calls → enters (past_of from) < most_enters → has_turned_away calls ≡ false
all_in from [] turns first few = refl
all_in from (call ∷ calls) turns first few =
    ap (λ b. b || has_turned_away calls) (few_entered from call call.outcome turns.1 few)
    ∙ later_in (from ++ call.added) calls turns.2 first.1

-- no session began: the keeper failed, or memory ran out
pub unbegun_well : (cause : BookError) (before now : ℕ) → CountsFailure (blames_keeper cause) before now → ¬ Rose before now → IsServedWell (solo.Unbegun cause)
unbegun_well fault.KeeperFault before now counts none = none (rose_by true before now refl counts)
unbegun_well fault.Memory before now counts none = tt

-- a session that began
over_well : {manner : Manner} {from : List Event} {old new : Outsides} {reason : SessionEnd} {history : List Event} → 0 < manner.idle_turns
    → IsSessionOn manner from old new reason history
    → ((turns : List Turn) → old.source.left ≡ Some turns → IsGoodInput manner turns → IsGoodEnd reason)
    → enters (past_of from) < most_enters → OnGoodInput manner old new (IsWellEnded reason)
over_well {manner = manner} {from = from} {old = old} {new = new} {reason = reason} waits session good few turns is input free =
    unhindered_well manner.idle_turns session.steps reason turns new.source.left
    (ends_show sole_worker manner session.steps session.last reason waits session.follows session.over) (rw is at session.took)
    (all_in from (calls_in session.steps) session.turns (enters_first sole_worker manner session.steps session.last session.follows) few) (good turns is input)
    (failures_of old) (failures_of new) session.reads session.writes
    (through_calls old.keeper.faults new.keeper.faults (calls_in session.steps) session.counts) free

-- a history of no Enter has room for one
fresh_has_room : (rules : Rules) → enters (past_of (event.Start rules ∷ [])) < most_enters
fresh_has_room rules = omega arith

pub serves_session : {rules : Rules} {declares : Bool} {idle_turns : ℕ} {old new : Outsides} {reason : SessionEnd} (history : List Event) → 0 < idle_turns
    → IsSoloSession rules declares idle_turns old new reason history
    → ((turns : List Turn) → old.source.left ≡ Some turns → IsGoodInput (solo_manner rules declares idle_turns) turns → IsGoodEnd reason)
    → ServesSession rules declares idle_turns old new (solo.Over reason)
serves_session {rules = rules} history waits session good = record { did = (history, session); complete = over_well waits session good (fresh_has_room rules) }

pub serves_book : {manner : Manner} {from : List Event} {old new : Outsides} {reason : SessionEnd} {history : List Event} → 0 < manner.idle_turns
    → IsSessionOn manner from old new reason history
    → ((turns : List Turn) → old.source.left ≡ Some turns → IsGoodInput manner turns → IsGoodEnd reason)
    → ServesBook manner from old new reason history
serves_book waits session good = record { did = session; complete = over_well waits session good }

-- a session over a book of these rules, of which nobody has asked anything yet
pub on_fresh : {rules : Rules} {declares : Bool} {idle_turns : ℕ} {from : List Event} {old new : Outsides} {reason : SessionEnd} {history : List Event} → from ≡ event.Start rules ∷ []
    → ServesBook (solo_manner rules declares idle_turns) from old new reason history
    → IsSoloSession rules declares idle_turns old new reason history × OnGoodInput (solo_manner rules declares idle_turns) old new (IsWellEnded reason)
on_fresh {rules = rules} {declares = declares} {idle_turns = idle_turns} {old = old} {new = new} {reason = reason} {history = history} is serves =
    let fresh = subst (λ (h : List Event). ServesBook (solo_manner rules declares idle_turns) h old new reason history) is serves in
    (fresh.did, fresh.complete (fresh_has_room rules))
