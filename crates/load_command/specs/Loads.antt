-- The text of `load NUMBER`: what a generated session leaves (this project's own).
use Rattle.std.specs.Prelude.{◌≡◌, ℕ, ◌-◌, Bool, true, false, Some, List, [], ◌∷◌, ◌++◌, codes, count_by}
use Rattle.pool_io.specs.declared.turn.Turn.TheVariants as turn
use Rattle.pool_io.specs.Seen.{KeeperSeen}
use Rattle.pool_history.specs.declared.events.Event.{Event}
use Rattle.pool_history.specs.declared.events.Event.TheVariants as event
use Rattle.pool_history.specs.declared.settings.Rules.{Rules}
use Rattle.pool_history.specs.Sessions.{past_of}
use Rattle.pool_history.specs.Summary.{line, summary_of, summary_text}
use Rattle.session_steps.specs.declared.ends.SessionEnd.TheVariants as end
use Rattle.load_command.specs.Frames.{load_frames}
use Rattle.pool_sessions.specs.Solo.{IsSoloSession, Outsides}

-- the script is OP_TRUE, no class is too easy, two percent stay with the pool, the rule is PPLNS with
-- a window of 1,000, miners may roll the version, and each account is known
abbrev pub load_rules : Rules
load_rules = record {
  pool_script = 0x51 ∷ [];
  least_class = 0;
  fee = 200;
  window = Some 1000;
  ntime_window = 600;
  credit_limit = 16777215;
  version_rolling = true;
  users = [];
}

-- a session has one Idle turn to wait for, and its input has none
abbrev pub load_idle_turns : ℕ
load_idle_turns = 1

-- all frames come together, then the input ends; nothing is put yet
abbrev pub load_outsides : ℕ → ℕ → KeeperSeen → Outsides
load_outsides number steps keeper = record {
  source = record { faults = 0; left = Some (turn.Piece (load_frames number steps) ∷ []) };
  sink = record { faults = 0; held = Some [] };
  keeper = keeper;
}

abbrev pub is_credit : Event → Bool
is_credit (event.Credit session channel job nonce ntime version extranonce) = true
is_credit _ = false

-- how many submissions were accepted
abbrev pub accepted_in : List Event → ℕ
accepted_in history = count_by is_credit history

-- how many submissions a generated session has
abbrev pub load_steps : ℕ
load_steps = 20000

-- how many submissions there were, and how many of them were accepted and refused
abbrev pub counts_text : ℕ → ℕ → List Event → List ℕ
counts_text number steps history =
    line (codes "load") number ++ line (codes "submissions") steps
    ++ line (codes "accepted") (accepted_in history)
    ++ line (codes "refused") (steps - accepted_in history)

-- the text, of so many submissions
abbrev pub load_text : ℕ → ℕ → List Event → List ℕ
load_text number steps history =
    counts_text number steps history ++ summary_text (summary_of (past_of history))

-- a session over the generated frames took them all and left a history, and the text is of that one
pub record IsLoadText (number steps : ℕ) (text : List ℕ) : Type 0 where
  pub keeper : KeeperSeen
  pub back : Outsides
  pub history : List Event
  pub session : IsSoloSession load_rules false load_idle_turns (load_outsides number steps keeper) back
      end.Done history
  pub says : text ≡ load_text number steps history
