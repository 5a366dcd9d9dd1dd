-- The sessions of a history (this project's own). Every definition goes over the past: the events
-- from the last to the first, so that the number of earlier events of a kind counts the rest of the
-- list.
-- Computed on sessions that left, entered again and never entered (`IllegalEvents`, `AnswerRows`).
use Rattle.std.specs.Prelude.{ℕ, ◌+◌, ◌==◌, Bool, true, false, if◌then◌else◌, Option, None, Some, List, [], ◌∷◌, reverse}
use Rattle.pool_history.specs.declared.events.Event.{Event}
use Rattle.pool_history.specs.declared.events.Event.TheVariants.{Start, Enter, Template, Tip, Open, Name, Class, Close, Leave, Credit, Grant, Custom}
use Rattle.pool_history.specs.declared.events.Role.{Role}
use Rattle.pool_history.specs.declared.events.Role.TheVariants as role
use Rattle.pool_history.specs.declared.settings.Rules.{Rules}

-- a history's events from the last to the first
abbrev pub past_of : List Event → List Event
past_of history = reverse history

-- the rules are those of the Start that stands first
abbrev pub rules_of : List Event → Option Rules
rules_of [] = None
rules_of (Start rules ∷ []) = Some rules
rules_of (event ∷ older) = rules_of older

-- the pool's script
abbrev pub script_in : Option Rules → List ℕ
script_in None = []
script_in (Some rules) = rules.pool_script

abbrev pub script_of : List Event → List ℕ
script_of past = script_in (rules_of past)

-- how many Enter events there are
abbrev pub enters : List Event → ℕ
enters [] = 0
enters (Enter worker role flags ∷ older) = enters older + 1
enters (event ∷ older) = enters older

-- how many Open events
abbrev pub opens : List Event → ℕ
opens [] = 0
opens (Open session kind account class lead ∷ older) = opens older + 1
opens (event ∷ older) = opens older

-- how many Template events
abbrev pub templates : List Event → ℕ
templates [] = 0
templates (Template session template ∷ older) = templates older + 1
templates (event ∷ older) = templates older

-- how many Credit events
abbrev pub credits : List Event → ℕ
credits [] = 0
credits (Credit session channel job nonce ntime version extranonce ∷ older) = credits older + 1
credits (event ∷ older) = credits older

-- how many Grant events
abbrev pub grants : List Event → ℕ
grants [] = 0
grants (Grant session account fixed path ∷ older) = grants older + 1
grants (event ∷ older) = grants older

-- the session, unless it is the one that left
abbrev pub unless_left : ℕ → Option ℕ → Option ℕ
unless_left left None = None
unless_left left (Some session) = if session == left then None else Some session

-- a worker's present session: that of its last Enter, unless it left since; its number counts the
-- Enters before
abbrev pub present : List Event → ℕ → Option ℕ
present [] worker = None
present (Enter entering role flags ∷ older) worker =
    if entering == worker then Some (enters older) else present older worker
present (Leave session ∷ older) worker = unless_left session (present older worker)
present (Start rules ∷ older) worker = present older worker
present (Template session template ∷ older) worker = present older worker
present (Tip session tip ∷ older) worker = present older worker
present (Open session kind account class lead ∷ older) worker = present older worker
present (Name session channel account ∷ older) worker = present older worker
present (Class session channel class ∷ older) worker = present older worker
present (Close session channel ∷ older) worker = present older worker
present (Credit session channel job nonce ntime version extranonce ∷ older) worker =
    present older worker
present (Grant session account fixed path ∷ older) worker = present older worker
present (Custom session custom ∷ older) worker = present older worker

-- what a session's Enter says
pub record Entrance : Type 0 where
  pub worker : ℕ
  pub role : Role
  pub flags : ℕ

-- the Enter of a session
abbrev pub entrance : List Event → ℕ → Option Entrance
entrance [] session = None
entrance (Enter worker role flags ∷ older) session =
    if enters older == session then Some (record { worker = worker; role = role; flags = flags })
    else entrance older session
entrance (Start rules ∷ older) session = entrance older session
entrance (Template naming template ∷ older) session = entrance older session
entrance (Tip naming tip ∷ older) session = entrance older session
entrance (Open naming kind account class lead ∷ older) session = entrance older session
entrance (Name naming channel account ∷ older) session = entrance older session
entrance (Class naming channel class ∷ older) session = entrance older session
entrance (Close naming channel ∷ older) session = entrance older session
entrance (Leave naming ∷ older) session = entrance older session
entrance (Credit naming channel job nonce ntime version extranonce ∷ older) session =
    entrance older session
entrance (Grant naming account fixed path ∷ older) session = entrance older session
entrance (Custom naming custom ∷ older) session = entrance older session

-- the session of an Enter is its worker's present one
abbrev pub is_number : ℕ → Option ℕ → Bool
is_number session None = false
is_number session (Some other) = other == session

abbrev pub is_present_as : List Event → ℕ → Option Entrance → Bool
is_present_as past session None = false
is_present_as past session (Some entered) = is_number session (present past entered.worker)

-- a session is some worker's present one
abbrev pub is_present : List Event → ℕ → Bool
is_present past session = is_present_as past session (entrance past session)

-- the flags of a session's Enter
abbrev pub flags_in : Option Entrance → ℕ
flags_in None = 0
flags_in (Some entered) = entered.flags

abbrev pub flags_of : List Event → ℕ → ℕ
flags_of past session = flags_in (entrance past session)

-- a role that sends templates and tips
abbrev pub feeds : Role → Bool
feeds role.Miner = false
feeds role.Feed = true
feeds role.Solo = true

-- a role that opens channels and submits shares
abbrev pub mines : Role → Bool
mines role.Miner = true
mines role.Feed = false
mines role.Solo = true
