-- What a table of open channels shows (this project's own).
use Rattle.std.specs.Prelude.{◌≡◌, ℕ, ◌-◌, ◌≤◌, ◌==◌, Bool, true, if◌then◌else◌, Option, None, Some, List, [], ◌∷◌, Vec, filter, length, map, nat_eq, not, vec_capacity, vec_len}
use Rattle.std.specs.List.{AllByRecursion}
use Rattle.std.specs.Map.{lookup, remove_entry}
use Rattle.std.specs.Option.{option_map}
use Rattle.std.specs.declared.alloc.Global.{Global}
use Rattle.pool_history.specs.declared.events.Kind.{Kind}
use Rattle.pool_history.specs.declared.spans.LiveSpan.{LiveSpan}
use Rattle.pool_history.specs.Channels.{ChannelMove, OpenChannel, account_or, channel_in, channels_told, class_at, last_class, opened, present_class}
use Rattle.history_laws.specs.Apart.{AreDisjoint}
use Rattle.history_laws.specs.Openings.{AreLeadsApart}
use Rattle.prefix_space.specs.HeldLeads.{is_held}
use Rattle.channels.specs.declared.channel.Channel.{Channel}
use Rattle.channels.specs.Cuts.{cut_sets}

-- the open channels in the order of their ids, and how many were opened
pub record ChannelTable : Type 0 where
  pub opened : ℕ
  pub open_channels : List OpenChannel
  -- so many openings need no memory where their sessions have room; and so much room sessions have,
  -- and channels for classes that are set
  pub opening_room : ℕ
  pub session_rooms : List (ℕ × ℕ)
  pub setting_rooms : List (ℕ × ℕ)

-- nothing changed but the room
pub record ShowsSameChannels (old new : ChannelTable) : Type 0 where
  pub opened_stays : new.opened ≡ old.opened
  pub channels_stay : new.open_channels ≡ old.open_channels

-- what is kept of an open channel
pub record KeptChannel : Type 0 where
  pub session : ℕ
  pub kind : Kind
  pub account : List ℕ
  pub lead : List ℕ
  pub opening_class : ℕ
  pub class : ℕ

-- what a channel has, all but the fact that its type carries
abbrev pub kept_of : Channel → KeptChannel
kept_of channel =
    record {
      session = channel.session;
      kind = channel.kind;
      account = channel.account;
      lead = channel.lead;
      opening_class = channel.opening_class;
      class = channel.class;
    }

-- an open channel as it is kept: with its present class
abbrev pub kept_channel : OpenChannel → KeptChannel
kept_channel channel =
    record {
      session = channel.session;
      kind = channel.kind;
      account = channel.account;
      lead = channel.lead;
      opening_class = channel.opening_class;
      class = present_class channel;
    }

-- a channel that is kept answers for one of a history: both are the same but for the classes that
-- were set, of which the present one is the same, and that at each place that may be asked for
pub record AnswersFor (is_asked : ℕ → Bool) (kept told : OpenChannel) : Type 0 where
  pub id_is : kept.id ≡ told.id
  pub kept_is : kept_channel kept ≡ kept_channel told
  pub class_is : (place : ℕ) → is_asked place ≡ true → class_at kept place ≡ class_at told place

-- so do channels, one by one
abbrev pub AllAnswerFor : (ℕ → Bool) → List OpenChannel → List OpenChannel → Type 0
AllAnswerFor is_asked [] [] = Unit {0}
AllAnswerFor is_asked [] (told ∷ later) = ⊥
AllAnswerFor is_asked (kept ∷ others) [] = ⊥
AllAnswerFor is_asked (kept ∷ others) (told ∷ later) =
    AnswersFor is_asked kept told × AllAnswerFor is_asked others later

-- a table was told these moves, where classes may be asked for at these places
pub record IsTold (is_asked : ℕ → Bool) (table : ChannelTable) (moves : List ChannelMove)
    : Type 0 where
  pub opened_are : table.opened ≡ opened moves
  pub channels_are : AllAnswerFor is_asked table.open_channels (channels_told moves)

-- a channel that is kept under its id
abbrev pub shown_channel : ℕ → Channel → OpenChannel
shown_channel id channel =
    record {
      id = id;
      session = channel.session;
      kind = channel.kind;
      account = channel.account;
      lead = channel.lead;
      opening_class = channel.opening_class;
      sets = channel.settings.sets;
    }

-- so many classes may be set for each channel without memory
abbrev pub rooms_of : List (ℕ × Channel) → List (ℕ × ℕ)
rooms_of entries = map (λ entry. (entry.0, entry.1.settings.room)) entries

-- a channel whose kept class is its present one
pub record HasItsClass (channel : Channel) : Type 0 where
  pub class_is : channel.class ≡ last_class channel.settings.sets channel.opening_class

-- the held leads are those of the entries, and none begins another
pub record HoldsLeads (held : List (List ℕ)) (entries : List (ℕ × Channel)) : Type 0 where
  pub leads : (lead : List ℕ)
      → is_held held lead ≡ is_held (map (λ entry. entry.1.lead) entries) lead
  pub apart : AreLeadsApart (map (λ entry. entry.1.lead) entries)

-- the tables fit each other: ids are of channels that were opened, classes are the present ones,
-- and the held leads are those of the open channels
pub record AreKept (opened : ℕ) (entries : List (ℕ × Channel)) (held : List (List ℕ))
    : Type 0 where
  pub ids : AllByRecursion (λ entry. entry.0 ≤ opened) entries
  pub classes : AllByRecursion (λ entry. HasItsClass entry.1) entries
  pub holds : HoldsLeads held entries

-- the entries, with the channel of an id changed
abbrev pub with_changed : (Channel → Channel) → ℕ → List (ℕ × Channel) → List (ℕ × Channel)
with_changed change id entries =
    map (λ entry. if id == entry.0 then (entry.0, change entry.1) else entry) entries

-- a channel as it is kept, with an account where it has none, with a class that is set at a place
-- while jobs are live within a span, and with room for so many classes that are set
abbrev pub named_channel : List ℕ → Channel → Channel
named_channel account channel =
    record channel { account = account_or channel.account account }

abbrev pub reclassed_channel : ℕ → ℕ → ℕ → LiveSpan → Channel → Channel
reclassed_channel room at class span channel =
    record channel {
      class = class;
      settings = record { sets = cut_sets at class span channel.settings.sets; room = room };
    }

abbrev pub roomed_channel : ℕ → Channel → Channel
roomed_channel room channel =
    record channel { settings = record { sets = channel.settings.sets; room = room } }

-- the entries without those with these ids
abbrev pub without_ids : List ℕ → List (ℕ × Channel) → List (ℕ × Channel)
without_ids [] entries = entries
without_ids (id ∷ ids) entries = remove_entry (nat_eq id) (without_ids ids entries)

-- the entries of other sessions
abbrev pub without_session : ℕ → List (ℕ × Channel) → List (ℕ × Channel)
without_session session entries = filter (λ entry. not (entry.1.session == session)) entries

-- a count that is kept, which is 0 where none is
abbrev pub count_kept : Option ℕ → ℕ
count_kept None = 0
count_kept (Some count) = count

-- the ids of a session's entries
abbrev pub own_ids : ℕ → List (ℕ × Channel) → List ℕ
own_ids session entries =
    map (λ entry. entry.0) (filter (λ entry. entry.1.session == session) entries)

-- the ids that are listed for a session, and for how many more there is room
abbrev pub ids_listed : Option (Vec ℕ Global) → List ℕ
ids_listed None = []
ids_listed (Some ids) = ids.items

abbrev pub room_of_list : Vec ℕ Global → ℕ
room_of_list ids = vec_capacity ids - vec_len ids

abbrev pub room_listed : Option (Vec ℕ Global) → ℕ
room_listed there = count_kept (option_map room_of_list there)

-- there is room for so many more channels of each session
abbrev pub list_rooms : List (ℕ × Vec ℕ Global) → List (ℕ × ℕ)
list_rooms lists = map (λ list. (list.0, room_of_list list.1)) lists

-- the lists are those of the sessions' channels, of which none has too many
pub record ListsChannels (lists : List (ℕ × Vec ℕ Global)) (entries : List (ℕ × Channel))
    : Type 0 where
  pub listed : (session : ℕ)
      → ids_listed (lookup (nat_eq session) lists) ≡ own_ids session entries
  pub few : (session : ℕ) → length (own_ids session entries) ≤ 1024

-- what is kept, where it is a session's, and its lead
abbrev pub channel_if_own : ℕ → Option Channel → Option Channel
channel_if_own session None = None
channel_if_own session (Some channel) = if channel.session == session then Some channel else None

abbrev pub lead_if_own : ℕ → Option Channel → Option (List ℕ)
lead_if_own session there = option_map (λ channel. channel.lead) (channel_if_own session there)

-- no twelve bytes are in the spaces of the open channels with two ids
abbrev pub AreSpacesApart : List OpenChannel → ℕ → ℕ → Type 0
AreSpacesApart channels a b =
    (one other : OpenChannel) → channel_in channels a ≡ Some one
    → channel_in channels b ≡ Some other
    → AreDisjoint one other
