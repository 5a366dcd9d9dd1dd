-- Sessions and open channels once more, by places over the history from its front (this project's
-- own).
use Rattle.std.specs.Prelude.{IsTrue, ◌≡◌, ◌↔◌, ℕ, ◌+◌, ◌==◌, Bool, false, if◌then◌else◌, Some, List, [], ◌∷◌, ◌++◌, reverse}
use Rattle.std.specs.List.{AllByRecursion, list_any}
use Rattle.pool_history.specs.declared.events.Event.{Event}
use Rattle.pool_history.specs.declared.events.Event.TheVariants as event
use Rattle.pool_history.specs.declared.events.Role.{Role}
use Rattle.pool_history.specs.ByPlaces.{sets_from}
use Rattle.pool_history.specs.Channels.{OpenChannel, account_or, channels_of}
use Rattle.pool_history.specs.Sessions.{Entrance, entrance, enters, is_present, past_of, present}

-- a later Enter of the worker, or the Leave of the session
abbrev pub ends_session : ℕ → ℕ → Event → Bool
ends_session worker session (event.Enter entering role flags) = entering == worker
ends_session worker session (event.Leave leaving) = session == leaving
ends_session worker session (event.Start rules) = false
ends_session worker session (event.Template naming template) = false
ends_session worker session (event.Tip naming tip) = false
ends_session worker session (event.Open naming kind account class lead) = false
ends_session worker session (event.Name naming channel account) = false
ends_session worker session (event.Class naming channel class) = false
ends_session worker session (event.Close naming channel) = false
ends_session worker session (event.Credit naming channel job nonce ntime version extranonce) = false
ends_session worker session (event.Grant naming account fixed path) = false
ends_session worker session (event.Custom naming custom) = false

-- the Enter of a session: its number is that of the Enters before it
pub record HasEntered (history : List Event) (worker : ℕ) (role : Role)
    (flags session : ℕ) : Type 0 where
  pub before : List Event
  pub after : List Event
  pub parts : history ≡ before ++ event.Enter worker role flags ∷ after
  pub number : enters (past_of before) ≡ session

-- the same, with nothing after it that ends the session
pub record StandsEntered (history : List Event) (worker session : ℕ) : Type 0 where
  pub before : List Event
  pub role : Role
  pub flags : ℕ
  pub after : List Event
  pub parts : history ≡ before ++ event.Enter worker role flags ∷ after
  pub number : enters (past_of before) ≡ session
  pub stays : AllByRecursion (λ event. ends_session worker session event ≡ false) after

-- a session was entered as its Enter says
abbrev pub EntrancesByPlaces : Type 0
EntrancesByPlaces =
    (history : List Event) (session : ℕ) (entered : Entrance)
    → (entrance (past_of history) session ≡ Some entered)
    ↔ HasEntered history entered.worker entered.role entered.flags session

-- a worker's present session is that of its last Enter, unless it left since
abbrev pub PresentByPlaces : Type 0
PresentByPlaces =
    (history : List Event) (worker session : ℕ)
    → (present (past_of history) worker ≡ Some session) ↔ StandsEntered history worker session

-- a session is present where it is some worker's
abbrev pub PresentIsSomeWorkers : Type 0
PresentIsSomeWorkers =
    (history : List Event) (session : ℕ)
    → IsTrue (is_present (past_of history) session)
    ↔ ((worker : ℕ) × (present (past_of history) worker ≡ Some session))

-- a Close of the channel, or the Leave of its session
abbrev pub ends_channel : ℕ → ℕ → Event → Bool
ends_channel id session (event.Close closing channel) = id == channel
ends_channel id session (event.Leave leaving) = session == leaving
ends_channel id session (event.Start rules) = false
ends_channel id session (event.Enter worker role flags) = false
ends_channel id session (event.Template naming template) = false
ends_channel id session (event.Tip naming tip) = false
ends_channel id session (event.Open naming kind account class lead) = false
ends_channel id session (event.Name naming channel account) = false
ends_channel id session (event.Class naming channel class) = false
ends_channel id session (event.Credit naming channel job nonce ntime version extranonce) = false
ends_channel id session (event.Grant naming account fixed path) = false
ends_channel id session (event.Custom naming custom) = false

-- the account of the first Name of a channel that says one
abbrev pub account_named : ℕ → List Event → List ℕ
account_named id [] = []
account_named id (event.Name session channel account ∷ more) =
    if id == channel then account_or account (account_named id more) else account_named id more
account_named id (event ∷ more) = account_named id more

-- a channel as its Open says, with the account of its Name where the Open has none, and its classes
abbrev pub channel_from : ℕ → ℕ → Event → List Event → List OpenChannel
channel_from at opened (event.Open session kind account class lead) more =
    if list_any (ends_channel (opened + 1) session) more
    then []
    else record {
      id = opened + 1;
      session = session;
      kind = kind;
      account = account_or account (account_named (opened + 1) more);
      lead = lead;
      opening_class = class;
      sets = reverse (sets_from (at + 1) (opened + 1) (opened + 1) more);
    } ∷ []
channel_from at opened event more = []

-- how many more an event opens
abbrev pub opens_by : Event → ℕ
opens_by (event.Open session kind account class lead) = 1
opens_by event = 0

-- the channels that no later Close and no later Leave of their session ends, in the order of their
-- Opens
abbrev pub channels_from : ℕ → ℕ → List Event → List OpenChannel
channels_from at opened [] = []
channels_from at opened (event ∷ more) =
    channel_from at opened event more ++ channels_from (at + 1) (opened + opens_by event) more

-- those are the open channels of a history
abbrev pub ChannelsByPlaces : Type 0
ChannelsByPlaces =
    (history : List Event) → channels_of (past_of history) ≡ channels_from 0 0 history
