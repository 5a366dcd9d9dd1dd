-- Which setups are acceptable (Stratum V2, "SetupConnection").
use Rattle.std.specs.Prelude.{ℕ, ◌==◌, ◌&&◌, Bool, not, if◌then◌else◌, List, [], ◌∷◌, bit_and, nat_le}
use Rattle.sv2_types.specs.Fields.{FieldValue, Number}
use Rattle.sv2_messages.specs.declared.kinds.TheConstants as kinds
use Rattle.sv2_messages.specs.Messages.{Message}
use Rattle.pool_history.specs.declared.events.Role.{Role}
use Rattle.pool_history.specs.Sessions.{mines}
use Rattle.session_steps.specs.declared.meeting.SetupCode.{SetupCode}
use Rattle.session_steps.specs.declared.meeting.SetupCode.TheVariants.{Protocol, Version, Flags}

-- what a first message is: a setup with these flags, one that is refused with a code and flags, or
-- none that is acceptable
pub data Setup : Type 0 where
  Accepted : (flags : ℕ) → Setup
  Refused : (code : SetupCode) → (flags : ℕ) → Setup
  Unsuited : Setup

-- the flags that aren't offered: all but bits 0 and 1 and, with version rolling, bit 2
abbrev pub refused_flags : Bool → ℕ → ℕ
refused_flags rolling flags = bit_and flags (if rolling then 0xfffffff8 else 0xfffffffc)

-- a mining connection, of version 2, with no other flags
abbrev pub setup_by : Bool → ℕ → ℕ → ℕ → ℕ → Setup
setup_by rolling protocol min_version max_version flags =
    if not (protocol == 0) then Refused Protocol 0
    else if not (nat_le min_version 2 && nat_le 2 max_version) then Refused Version 0
    else if not (refused_flags rolling flags == 0) then Refused Flags (refused_flags rolling flags)
    else Accepted flags

-- by the fields of a SetupConnection
abbrev pub setup_asked : Bool → List FieldValue → Setup
setup_asked rolling (Number protocol ∷ Number least ∷ Number most ∷ Number flags ∷ texts) =
    setup_by rolling protocol least most flags
setup_asked rolling fields = Unsuited

-- by those of a SetupConnection.Success: version 2 is used
abbrev pub setup_answered : List FieldValue → Setup
setup_answered (Number used_version ∷ Number flags ∷ []) =
    if used_version == 2 then Accepted flags else Unsuited
setup_answered fields = Unsuited

-- a miner asks for its setup, and a feed answers the pool's
abbrev pub setup_in : Role → Bool → Message → Setup
setup_in role rolling message =
    if (message.kind == kinds.SETUP_CONNECTION) && mines role
    then setup_asked rolling message.fields
    else if (message.kind == kinds.SETUP_CONNECTION_SUCCESS) && not (mines role)
    then setup_answered message.fields
    else Unsuited
