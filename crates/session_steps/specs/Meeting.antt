-- What a session makes of a frame (this project's own).
use Rattle.std.specs.Prelude.{◌≡◌, ◌⊎◌, ℕ, ◌==◌, Bool, true, false, if◌then◌else◌, Option, None, Some, List}
use Rattle.std.specs.List.{flat_map}
use Rattle.sv2_frames.specs.Framing.{FrameValue}
use Rattle.sv2_messages.specs.declared.kinds.TheConstants as kinds
use Rattle.sv2_messages.specs.Messages.{Message, MsgOf, Row}
use Rattle.sv2_messages.specs.Tables.{mining_table, template_table, declare_table}
use Rattle.pool_history.specs.declared.asking.Request.{Request}
use Rattle.pool_history.specs.declared.asking.Request.TheVariants as request
use Rattle.job_declaration.specs.declared.asked.Asked.{Asked}
use Rattle.job_declaration.specs.declared.asked.Asked.TheVariants as asks
use Rattle.job_declaration.specs.Declaring.{Says, AsksGrant, asking_token, reaction}
use Rattle.job_declaration.specs.State.{DeclareState}
use Rattle.session_steps.specs.declared.about.About.{About}
use Rattle.session_steps.specs.declared.about.About.TheVariants.{Nothing, Declared}
use Rattle.session_steps.specs.declared.meeting.Step.{Step}
use Rattle.session_steps.specs.declared.meeting.Step.TheVariants.{Ignore, Ask, Say, RefuseSetup, BadSetup, BadMessage}
use Rattle.session_steps.specs.Asking.{Asks}
use Rattle.session_steps.specs.Setups.{Setup, Accepted, Refused, Unsuited, setup_in}
use Rattle.session_steps.specs.Taken.{is_declared_kind, is_feeds_kind, is_taken}
use Rattle.session_steps.specs.Talks.{Talk}

-- the protocol that a taken kind is of
abbrev pub table_for : ℕ → List Row
table_for kind =
    if is_feeds_kind kind then template_table
    else if kind == kinds.ALLOCATE_MINING_JOB_TOKEN then declare_table
    else if is_declared_kind kind then declare_table
    else mining_table

-- the frame brings the message
abbrev pub Brings : FrameValue → Message → Type 0
Brings frame message = MsgOf (table_for frame.kind) frame.kind frame.payload message

-- a first message sets the session up, or it doesn't
abbrev pub SetsUp : Setup → Talk → Step → Talk → Type 0
SetsUp (Accepted flags) talk step next =
    (step ≡ Ask (request.Enter talk.role flags))
    × (next ≡ record talk { flags = Some flags; about = Nothing })
SetsUp (Refused code flags) talk step next = (step ≡ RefuseSetup code flags) × (next ≡ talk)
SetsUp Unsuited talk step next = (step ≡ BadSetup) × (next ≡ talk)

-- a token that is asked for is noted with its user, where declarations are taken
abbrev pub noting : Bool → DeclareState → Request → DeclareState
noting declares state (request.Grant identity path) =
    if declares then asking_token state identity else state
noting declares state _ = state

-- a later one asks for something of its own
abbrev pub AsksWork : Message → Talk → Request → Talk → Type 0
AsksWork message talk asked next =
    (about : About) × Asks message asked about
    × (next
    ≡ record talk {
      about = about;
      declarations = noting talk.declares talk.declarations asked;
    })

-- a Grant that was asked for a declaration answers that
abbrev pub about_asked : Asked → About
about_asked (asks.Declared request_id) = Declared request_id
about_asked (asks.Token identity) = Nothing
about_asked asks.Nothing = Nothing

-- a declaration, or the transactions that one lacks, has a Grant asked for
pub record AsksDeclared (message : Message) (talk : Talk) (asked : Request) (next : Talk) :
    Type 0 where
  pub declared : is_declared_kind message.kind ≡ true
  pub identity : List ℕ
  pub path : List (List ℕ)
  pub answer : (reaction talk.declarations message).answer ≡ AsksGrant identity path
  pub asked_is : asked ≡ request.Grant identity (Some path)
  pub next_is : next
      ≡ record talk {
        about = about_asked (reaction talk.declarations message).after.asked;
        declarations = (reaction talk.declarations message).after;
      }

-- or something said
pub record SaysDeclared (message : Message) (talk : Talk) (bytes : List ℕ) (next : Talk) :
    Type 0 where
  pub declared : is_declared_kind message.kind ≡ true
  pub frames : List (List ℕ)
  pub answer : (reaction talk.declarations message).answer ≡ Says frames
  pub said : bytes ≡ flat_map (λ frame. frame) frames
  pub next_is : next
      ≡ record talk { declarations = (reaction talk.declarations message).after }

-- what comes of a message once a session is set up
abbrev pub AsksNext : Message → Talk → Step → Talk → Type 0
AsksNext message talk (Ask asked) next =
    AsksWork message talk asked next ⊎ AsksDeclared message talk asked next
AsksNext message talk (Say bytes) next = SaysDeclared message talk bytes next
AsksNext message talk Ignore next = ⊥
AsksNext message talk (RefuseSetup code flags) next = ⊥
AsksNext message talk BadSetup next = ⊥
AsksNext message talk (BadMessage kind) next = ⊥

-- by the flags of the setup
abbrev pub LeadsBy : Option ℕ → Talk → Message → Step → Talk → Type 0
LeadsBy None talk message step next =
    SetsUp (setup_in talk.role talk.rolling message) talk step next
LeadsBy (Some flags) talk message step next = AsksNext message talk step next

-- a taken frame that brings a message
pub record MeetsMessage (talk : Talk) (frame : FrameValue) (step : Step) (next : Talk) :
    Type 0 where
  pub taken : is_taken talk frame ≡ true
  pub message : Message
  pub brought : Brings frame message
  pub leads : LeadsBy talk.flags talk message step next

-- a taken frame that brings none
pub record MeetsNoMessage (talk : Talk) (frame : FrameValue) (kind : ℕ) (next : Talk) :
    Type 0 where
  pub taken : is_taken talk frame ≡ true
  pub none : (message : Message) → Brings frame message → ⊥
  pub kind_told : kind ≡ frame.kind
  pub same : next ≡ talk

-- what a session makes of a frame, and what it knows then
abbrev pub Meets : Talk → FrameValue → Step → Talk → Type 0
Meets talk frame Ignore next = (is_taken talk frame ≡ false) × (next ≡ talk)
Meets talk frame (BadMessage kind) next = MeetsNoMessage talk frame kind next
Meets talk frame (Ask asked) next = MeetsMessage talk frame (Ask asked) next
Meets talk frame (Say bytes) next = MeetsMessage talk frame (Say bytes) next
Meets talk frame (RefuseSetup code flags) next =
    MeetsMessage talk frame (RefuseSetup code flags) next
Meets talk frame BadSetup next = MeetsMessage talk frame BadSetup next
