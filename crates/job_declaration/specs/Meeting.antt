-- What is made of a frame of a declaration (this project's own).
use Rattle.std.specs.Prelude.{◌≡◌, ℕ, Option, None, Some, List}
use Rattle.std.specs.List.{flat_map}
use Rattle.sv2_messages.specs.Messages.{Message, MsgOf}
use Rattle.sv2_messages.specs.Tables.{declare_table}
use Rattle.pool_history.specs.declared.asking.Request.TheVariants as request
use Rattle.job_declaration.specs.declared.asked.Asked.{Asked}
use Rattle.job_declaration.specs.declared.asked.Asked.TheVariants as asks
use Rattle.job_declaration.specs.Declaring.{Answer, Says, AsksGrant, Reaction, reaction}
use Rattle.job_declaration.specs.State.{DeclareState}
use Rattle.job_declaration.specs.declared.declarer.Declared.{Declared}
use Rattle.job_declaration.specs.declared.declarer.Declared.TheVariants.{Say, Ask, BadMessage}

-- the declaration for which the pool was asked
abbrev pub declared_id : Asked → Option ℕ
declared_id (asks.Declared request_id) = Some request_id
declared_id (asks.Token identity) = None
declared_id asks.Nothing = None

-- what is answered is this
abbrev pub IsAnswer : Answer → Declared → Type 0
IsAnswer (Says frames) (Say bytes) = bytes ≡ flat_map (λ frame. frame) frames
IsAnswer (AsksGrant identity path) (Ask asked) = asked ≡ request.Grant identity (Some path)
IsAnswer answer declared = ⊥

-- a reaction was made
pub record Reacts (made : Reaction) (declared : Declared) (new : DeclareState) : Type 0 where
  pub answered : IsAnswer made.answer declared
  pub after : new ≡ made.after

-- the payload brings a message, to which this is the reaction
pub record MeetsMessage (old : DeclareState) (kind : ℕ) (payload : List ℕ) (declared : Declared)
    (new : DeclareState) : Type 0 where
  pub message : Message
  pub brought : MsgOf declare_table kind payload message
  pub reacts : Reacts (reaction old message) declared new

-- or it brings none
pub record MeetsNoMessage (old : DeclareState) (kind : ℕ) (payload : List ℕ) (told : ℕ)
    (new : DeclareState) : Type 0 where
  pub none : (message : Message) → MsgOf declare_table kind payload message → ⊥
  pub kind_told : told ≡ kind
  pub same : new ≡ old

abbrev pub MeetsFrame : DeclareState → ℕ → List ℕ → Declared → DeclareState → Type 0
MeetsFrame old kind payload (BadMessage told) new = MeetsNoMessage old kind payload told new
MeetsFrame old kind payload (Say bytes) new = MeetsMessage old kind payload (Say bytes) new
MeetsFrame old kind payload (Ask asked) new = MeetsMessage old kind payload (Ask asked) new
