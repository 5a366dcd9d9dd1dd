-- Open channels (Stratum V2, "Channels"), told by their own moves.
-- Computed on a channel whose class is set before and after a tip (`Rows`).
use Rattle.std.specs.Prelude.{ℕ, ◌+◌, ◌^◌, ◌==◌, not, if◌then◌else◌, Option, List, [], ◌∷◌, ◌++◌, length, map, filter, find, nat_lt}
use Rattle.pool_history.specs.declared.events.Event.{Event}
use Rattle.pool_history.specs.declared.events.Event.TheVariants as event
use Rattle.pool_history.specs.declared.events.Kind.{Kind}

-- what channels are told of: events with their places
pub data ChannelMove : Type 0 where
  Opens : (at session : ℕ) (kind : Kind) (account : List ℕ) (class : ℕ) (lead : List ℕ)
      → ChannelMove
  Names : (channel : ℕ) (account : List ℕ) → ChannelMove
  Sets : (at channel class : ℕ) → ChannelMove
  Closes : (channel : ℕ) → ChannelMove
  Leaves : (session : ℕ) → ChannelMove

-- a class that was set, and its place
pub record ClassSet : Type 0 where
  pub at : ℕ
  pub class : ℕ

-- an open channel: the account is empty where there is none, and the last class that was set stands
-- first
pub record OpenChannel : Type 0 where
  pub id : ℕ
  pub session : ℕ
  pub kind : Kind
  pub account : List ℕ
  pub lead : List ℕ
  pub opening_class : ℕ
  pub sets : List ClassSet

-- how many were opened
abbrev pub opened : List ChannelMove → ℕ
opened [] = 0
opened (Opens at session kind account class lead ∷ older) = opened older + 1
opened (move ∷ older) = opened older

-- the first account stays
abbrev pub account_or : List ℕ → List ℕ → List ℕ
account_or [] name = name
account_or (byte ∷ bytes) name = byte ∷ bytes

-- the channel with this account, where it is the one that is named and has none
abbrev pub with_name : ℕ → List ℕ → OpenChannel → OpenChannel
with_name id account channel =
    if channel.id == id then record channel { account = account_or channel.account account }
    else channel

-- the channel with this class, where it is the one that is set
abbrev pub with_class : ℕ → ℕ → ℕ → OpenChannel → OpenChannel
with_class at id class channel =
    if channel.id == id
    then record channel { sets = record { at = at; class = class } ∷ channel.sets } else channel

-- the open channels in the order of their ids; an id is one more than the number of openings before
abbrev pub channels_told : List ChannelMove → List OpenChannel
channels_told [] = []
channels_told (Opens at session kind account class lead ∷ older) =
    channels_told older
    ++ record {
      id = opened older + 1;
      session = session;
      kind = kind;
      account = account;
      lead = lead;
      opening_class = class;
      sets = [];
    } ∷ []
channels_told (Names id account ∷ older) = map (with_name id account) (channels_told older)
channels_told (Sets at id class ∷ older) = map (with_class at id class) (channels_told older)
channels_told (Closes id ∷ older) = filter (λ channel. not (channel.id == id)) (channels_told older)
channels_told (Leaves session ∷ older) =
    filter (λ channel. not (channel.session == session)) (channels_told older)

-- the moves of a history, with the places of its events
abbrev pub channel_moves : List Event → List ChannelMove
channel_moves [] = []
channel_moves (event.Open session kind account class lead ∷ older) =
    Opens (length older) session kind account class lead ∷ channel_moves older
channel_moves (event.Name session channel account ∷ older) =
    Names channel account ∷ channel_moves older
channel_moves (event.Class session channel class ∷ older) =
    Sets (length older) channel class ∷ channel_moves older
channel_moves (event.Close session channel ∷ older) = Closes channel ∷ channel_moves older
channel_moves (event.Leave session ∷ older) = Leaves session ∷ channel_moves older
channel_moves (event.Start rules ∷ older) = channel_moves older
channel_moves (event.Enter worker role flags ∷ older) = channel_moves older
channel_moves (event.Template session template ∷ older) = channel_moves older
channel_moves (event.Tip session tip ∷ older) = channel_moves older
channel_moves (event.Credit session channel job nonce ntime version extranonce ∷ older) =
    channel_moves older
channel_moves (event.Grant session account fixed path ∷ older) = channel_moves older
channel_moves (event.Custom session custom ∷ older) = channel_moves older

-- the open channels of a history
abbrev pub channels_of : List Event → List OpenChannel
channels_of past = channels_told (channel_moves past)

-- the open channel with an id
abbrev pub channel_in : List OpenChannel → ℕ → Option OpenChannel
channel_in channels id = find (λ channel. channel.id == id) channels

-- the open channels of a session
abbrev pub channels_in : List OpenChannel → ℕ → List OpenChannel
channels_in channels session = filter (λ channel. channel.session == session) channels

-- a channel's class: the last that was set, or else that of its opening
abbrev pub last_class : List ClassSet → ℕ → ℕ
last_class [] opening = opening
last_class (set ∷ older) opening = set.class

abbrev pub present_class : OpenChannel → ℕ
present_class channel = last_class channel.sets channel.opening_class

-- the last class that was set before a place, or else that of the opening
abbrev pub class_before : ℕ → List ClassSet → ℕ → ℕ
class_before place [] opening = opening
class_before place (set ∷ older) opening =
    if nat_lt set.at place then set.class else class_before place older opening

-- the class at a job: the channel's last class that was set before the job's place
abbrev pub class_at : OpenChannel → ℕ → ℕ
class_at channel since = class_before since channel.sets channel.opening_class

-- a session's group of channels
abbrev pub group_id : ℕ → ℕ
group_id session = 2 ^ 31 + session
