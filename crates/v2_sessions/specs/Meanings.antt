-- What a message is to a session (this project's own).
use Rattle.std.specs.Prelude.{◌≡◌, ℕ, Bool, false, Some, List, [], ◌∷◌}
use Rattle.sv2_types.specs.Fields.{FieldValue, Number}
use Rattle.sv2_messages.specs.declared.kinds.TheConstants as kinds
use Rattle.sv2_messages.specs.Messages.{Message, MsgOf, Row}
use Rattle.pool_history.specs.declared.events.Role.{Role}
use Rattle.session_steps.specs.Asking.{Asks, message_of}
use Rattle.session_steps.specs.Setups.{Unsuited, setup_in}
use Rattle.session_steps.specs.Taken.{takes_kind}
use Rattle.v2_sessions.specs.declared.meaning.Meaning.{Meaning}
use Rattle.v2_sessions.specs.declared.meaning.Meaning.TheVariants.{Setup, SetUp, Work, Other}

-- no role takes it for its setup
abbrev pub IsNoSetup : Message → Type 0
IsNoSetup message = (role : Role) (rolling : Bool) → setup_in role rolling message ≡ Unsuited

-- no session takes it once it is set up
abbrev pub IsNeverWork : Message → Type 0
IsNeverWork message = (role : Role) (flags : ℕ) → takes_kind role (Some flags) message.kind ≡ false

-- the fields of a setup, of its success, or of what is asked for
abbrev pub IsMeaningOf : Message → Meaning → Type 0
IsMeaningOf message (Setup protocol min_version max_version flags) =
    (texts : List FieldValue)
    × (message ≡ message_of kinds.SETUP_CONNECTION
    (Number protocol ∷ Number min_version ∷ Number max_version ∷ Number flags ∷ texts))
IsMeaningOf message (SetUp used_version flags) =
    message ≡ message_of kinds.SETUP_CONNECTION_SUCCESS (Number used_version ∷ Number flags ∷ [])
IsMeaningOf message (Work asked about) = Asks message asked about × IsNoSetup message
IsMeaningOf message Other = IsNoSetup message × IsNeverWork message

-- some payload spells the message
pub record IsSpelled (table : List Row) (message : Message) : Type 0 where
  pub kind : ℕ
  pub payload : List ℕ
  pub brought : MsgOf table kind payload message
