-- What names, classes and closings do to the tables.
use Rattle.std.proofs.Common.{◌≡◌, ℕ, ◌+◌, ◌&&◌, Bool, true, false, not, Option, None, Some, List, ◌∷◌, ◌++◌, ◌<◌, ◌≤◌, ◌⊎◌, refl, ap, subst, sym, ◌∙◌}
use Rattle.std.proofs.Math.Dec.{eqb}
use Rattle.std.specs.Option.{option_map}
use Rattle.std.specs.Prelude.{is_some}
use Rattle.channels.specs.declared.channel.Channel.{Channel}
use Rattle.channels.specs.Tables.{AllAnswerFor, ChannelTable, IsTold, ShowsSameChannels, kept_channel, kept_of}
use Rattle.pool_tables.specs.GrantTables.{OtherEventsLeaveGrants, moves_grants}
use Rattle.pool_history.specs.declared.causes.Cause.TheVariants as cause
use Rattle.pool_history.specs.declared.events.Event.{Event}
use Rattle.pool_history.specs.declared.events.Event.TheVariants as event
use Rattle.pool_history.specs.declared.settings.Rules.{Rules}
use Rattle.pool_history.specs.Channels.{Closes, Names, OpenChannel, Sets, channel_in, channel_moves, channels_in, channels_of, present_class}
use Rattle.pool_history.specs.Conditions.{or_code}
use Rattle.pool_history.specs.Crediting.{bookings_of, headers}
use Rattle.pool_history.specs.Jobs.{job_moves}
use Rattle.pool_history.specs.Legal.{cause_of, is_class, may_become, may_get, may_mine, within}
use Rattle.pool_history.specs.Refusing.{own_channel}
use Rattle.pool_history.specs.Sessions.{rules_of}
use Rattle.pool_tables.specs.Tables.{OtherEventsLeaveSessions, moves_sessions}
use Rattle.template_jobs.specs.Told.{WasTold}
use Rattle.channels.proofs.Cuts.{AnswersIfAny, kept-same, none-same, own-answers}
use Rattle.channels.specs.Cuts.{IsAskedWithin}
use Rattle.history_laws.specs.AskedPlaces.{AreLiveWithin, is_asked_after}
use Rattle.history_laws.proofs.AskedPlaces.{asked-within}
use Rattle.history_laws.specs.KeptJobs.{KeptJobs}
use Rattle.pool_history.specs.declared.spans.LiveSpan.{LiveSpan}
use Rattle.template_jobs.specs.Tables.{kept_jobs}
use Rattle.ledger_replay.specs.Kept.{may_become_kept, may_get_kept}
use Rattle.ledger_replay.specs.Replays.{HasCause, ReplayTables, WereReplayed}
use Rattle.ledger_replay.specs.Shares.{WereBooked}
use Rattle.ledger_replay.proofs.Caused.{by_own, one-longer}

-- a session's open channel among those that the table shows
abbrev pub own_in : ReplayTables → ℕ → ℕ → Option OpenChannel
own_in t session channel = channel_in (channels_in t.channels.open_channels session) channel

own-answered : (t : ReplayTables) (past : List Event) (session channel : ℕ) → WereReplayed t past
    → AnswersIfAny (is_asked_after past) (own_in t session channel) (own_channel past session channel)
own-answered t past session channel was =
    own-answers (is_asked_after past) t.channels.open_channels (channels_of past) session channel was.channels_are.channels_are

own-kept : (t : ReplayTables) (past : List Event) (session channel : ℕ) (found : Option Channel) → WereReplayed t past
    → option_map kept_of found ≡ option_map kept_channel (own_in t session channel)
    → option_map kept_of found ≡ option_map kept_channel (own_channel past session channel)
own-kept t past session channel found was kept =
    kept ∙ kept-same (is_asked_after past) (own_in t session channel) (own_channel past session channel) (own-answered t past session channel was)

none-back : (asked : ℕ → Bool) (kept told : Option OpenChannel) → AnswersIfAny asked kept told → told ≡ None → kept ≡ None
none-back asked None told a none = refl
none-back asked (Some kept) None a none = absurd a
none-back asked (Some kept) (Some told) a none = cc

-- an event of channels alone
channel-moved : (t : ReplayTables) (new : ChannelTable) (past : List Event) (one : Event)
    → OtherEventsLeaveSessions → OtherEventsLeaveGrants → moves_sessions one ≡ false → moves_grants one ≡ false
    → rules_of (one ∷ past) ≡ rules_of past → job_moves (one ∷ past) ≡ job_moves past
    → bookings_of (one ∷ past) ≡ bookings_of past → headers (one ∷ past) ≡ headers past
    → WereReplayed t past → cause_of past one ≡ None → IsTold (is_asked_after (one ∷ past)) new (channel_moves (one ∷ past))
    → WereReplayed (record t { channels = new; events = t.events + 1 }) (one ∷ past)
channel-moved t new past one other_sessions other_grants no_session no_grant same_rules same_jobs same_credits same_headers was none told = record {
  legal = (was.legal, none);
  rules_are = same_rules ∙ was.rules_are;
  events_are = one-longer t.events one past was.events_are;
  sessions_are = other_sessions t.sessions past one no_session was.sessions_are;
  channels_are = told;
  jobs_are = subst (λ moves. WasTold t.jobs moves) (sym same_jobs) was.jobs_are;
  coinbases = was.coinbases;
  grants_are = other_grants t.grants past one no_grant was.grants_are;
  booked = subst (λ seen. WereBooked t.rules t.tally t.headers (bookings_of (one ∷ past)) seen) (sym same_headers)
      (subst (λ credits. WereBooked t.rules t.tally t.headers credits (headers past)) (sym same_credits) was.booked);
}

-- channels that are the same but for room
pub channels-same : (t : ReplayTables) (new : ChannelTable) (past : List Event) → WereReplayed t past → ShowsSameChannels t.channels new
    → WereReplayed (record t { channels = new }) past
channels-same t new past was same = record {
  legal = was.legal;
  rules_are = was.rules_are;
  events_are = was.events_are;
  sessions_are = was.sessions_are;
  channels_are = record {
    opened_are = same.opened_stays ∙ was.channels_are.opened_are;
    channels_are = subst (λ l. AllAnswerFor (is_asked_after past) l (channels_of past)) (sym same.channels_stay) was.channels_are.channels_are;
  };
  jobs_are = was.jobs_are;
  coinbases = was.coinbases;
  grants_are = was.grants_are;
  booked = was.booked;
}

is-there : (there : Option OpenChannel) → (there ≡ None → ⊥) → or_code (is_some there) cause.NotOpen None ≡ None
is-there None other = absurd (other refl)
is-there (Some channel) other = refl

-- a channel that is closed
pub close-taken : (t : ReplayTables) (new : ChannelTable) (past : List Event) (session channel : ℕ)
    → OtherEventsLeaveSessions → OtherEventsLeaveGrants → WereReplayed t past → None ≡ within may_mine past session None
    → (own_in t session channel ≡ None → ⊥)
    → IsTold (is_asked_after (event.Close session channel ∷ past)) new (Closes channel ∷ channel_moves past)
    → WereReplayed (record t { channels = new; events = t.events + 1 }) (event.Close session channel ∷ past)
close-taken t new past session channel other_sessions other_grants was may there told =
    channel-moved t new past (event.Close session channel) other_sessions other_grants refl refl refl refl refl refl was
    (by_own t past (event.Close session channel) may_mine session _ was refl may
    ∙ is-there (own_channel past session channel) (λ none. there (none-back (is_asked_after past) (own_in t session channel) (own_channel past session channel)
    (own-answered t past session channel was) none))) told

pub close-refused : (t : ReplayTables) (new : ChannelTable) (past : List Event) (session channel : ℕ)
    → WereReplayed t past → None ≡ within may_mine past session None → own_in t session channel ≡ None → new ≡ t.channels
    → HasCause past (event.Close session channel) cause.NotOpen × WereReplayed (record t { channels = new }) past
close-refused t new past session channel was may none same = (
  by_own t past (event.Close session channel) may_mine session _ was refl may
      ∙ ap (λ there. or_code (is_some there) cause.NotOpen None)
      (none-same (is_asked_after past) (own_in t session channel) (own_channel past session channel) (own-answered t past session channel was) none),
  subst (λ channels. WereReplayed (record t { channels = channels }) past) (sym same) was,
)

-- whether a channel may get an account, by what is kept of it
may_get-kept : (rules : Rules) (account : List ℕ) (there : Option OpenChannel) → may_get_kept rules account (option_map kept_channel there) ≡ may_get rules account there
may_get-kept rules account None = refl
may_get-kept rules account (Some channel) = refl

pub may_get-told : (t : ReplayTables) (past : List Event) (session channel : ℕ) (account : List ℕ) (found : Option Channel) (b : Bool)
    → WereReplayed t past → option_map kept_of found ≡ option_map kept_channel (own_in t session channel)
    → may_get_kept t.rules account (option_map kept_of found) ≡ b → may_get t.rules account (own_channel past session channel) ≡ b
may_get-told t past session channel account found b was kept is =
    sym (may_get-kept t.rules account (own_channel past session channel))
    ∙ ap (may_get_kept t.rules account) (sym (own-kept t past session channel found was kept)) ∙ is

pub name-taken : (t : ReplayTables) (new : ChannelTable) (past : List Event) (session channel : ℕ) (account : List ℕ)
    → OtherEventsLeaveSessions → OtherEventsLeaveGrants → WereReplayed t past → None ≡ within may_mine past session None
    → may_get t.rules account (own_channel past session channel) ≡ true
    → IsTold (is_asked_after (event.Name session channel account ∷ past)) new (Names channel account ∷ channel_moves past)
    → WereReplayed (record t { channels = new; events = t.events + 1 }) (event.Name session channel account ∷ past)
name-taken t new past session channel account other_sessions other_grants was may is told =
    channel-moved t new past (event.Name session channel account) other_sessions other_grants refl refl refl refl refl refl was
    (by_own t past (event.Name session channel account) may_mine session _ was refl may ∙ ap (λ b. or_code b cause.BadName None) is) told

pub name-refused : (t : ReplayTables) (past : List Event) (session channel : ℕ) (account : List ℕ)
    → WereReplayed t past → None ≡ within may_mine past session None → may_get t.rules account (own_channel past session channel) ≡ false
    → HasCause past (event.Name session channel account) cause.BadName × WereReplayed t past
name-refused t past session channel account was may is = (
  by_own t past (event.Name session channel account) may_mine session _ was refl may ∙ ap (λ b. or_code b cause.BadName None) is,
  was,
)

-- whether a channel's class may become another, which is in its range
may_become-kept : (rules : Rules) (class : ℕ) (there : Option OpenChannel) → is_class rules class ≡ true
    → may_become_kept class (option_map kept_channel there) ≡ may_become rules class there
may_become-kept rules class None is = refl
may_become-kept rules class (Some channel) is = ap (λ b. b && not (eqb class (present_class channel))) (sym is)

may_become-none : (rules : Rules) (class : ℕ) (there : Option OpenChannel) → is_class rules class ≡ false → may_become rules class there ≡ false
may_become-none rules class None is = refl
may_become-none rules class (Some channel) is = ap (λ b. b && not (eqb class (present_class channel))) is

pub may_become-told : (t : ReplayTables) (past : List Event) (session channel class : ℕ) (found : Option Channel) (b : Bool)
    → WereReplayed t past → is_class t.rules class ≡ true → option_map kept_of found ≡ option_map kept_channel (own_in t session channel)
    → may_become_kept class (option_map kept_of found) ≡ b → may_become t.rules class (own_channel past session channel) ≡ b
may_become-told t past session channel class found b was in_range kept is =
    sym (may_become-kept t.rules class (own_channel past session channel) in_range)
    ∙ ap (may_become_kept class) (sym (own-kept t past session channel found was kept)) ∙ is

pub class-taken : (t : ReplayTables) (new : ChannelTable) (past : List Event) (session channel class : ℕ)
    → OtherEventsLeaveSessions → OtherEventsLeaveGrants → WereReplayed t past → None ≡ within may_mine past session None
    → may_become t.rules class (own_channel past session channel) ≡ true
    → IsTold (is_asked_after (event.Class session channel class ∷ past)) new (Sets t.events channel class ∷ channel_moves past)
    → WereReplayed (record t { channels = new; events = t.events + 1 }) (event.Class session channel class ∷ past)
class-taken t new past session channel class other_sessions other_grants was may is told =
    channel-moved t new past (event.Class session channel class) other_sessions other_grants refl refl refl refl refl refl was
    (by_own t past (event.Class session channel class) may_mine session _ was refl may ∙ ap (λ b. or_code b cause.BadClass None) is)
    (subst (λ at. IsTold (is_asked_after (event.Class session channel class ∷ past)) new (Sets at channel class ∷ channel_moves past)) was.events_are told)

pub class-refused : (t : ReplayTables) (past : List Event) (session channel class : ℕ)
    → WereReplayed t past → None ≡ within may_mine past session None → may_become t.rules class (own_channel past session channel) ≡ false
    → HasCause past (event.Class session channel class) cause.BadClass × WereReplayed t past
class-refused t past session channel class was may is = (
  by_own t past (event.Class session channel class) may_mine session _ was refl may ∙ ap (λ b. or_code b cause.BadClass None) is,
  was,
)

pub class-out : (t : ReplayTables) (past : List Event) (session channel class : ℕ)
    → WereReplayed t past → None ≡ within may_mine past session None → is_class t.rules class ≡ false
    → HasCause past (event.Class session channel class) cause.BadClass × WereReplayed t past
class-out t past session channel class was may out_of =
    class-refused t past session channel class was may (may_become-none t.rules class (own_channel past session channel) out_of)

-- what is asked for when a class is set
pub class-asked : (t : ReplayTables) (past : List Event) (session channel class : ℕ) (span : LiveSpan) → WereReplayed t past
    → AreLiveWithin span ((kept_jobs t.jobs).live ++ (kept_jobs t.jobs).custom)
    → IsAskedWithin (is_asked_after (event.Class session channel class ∷ past)) span t.events
class-asked t past session channel class span was within place h =
    subst (λ n. ((span.oldest ≤ place) × (place ≤ span.newest)) ⊎ (n < place)) (sym was.events_are)
    (asked-within span past session channel class place
    (subst (λ (kept : KeptJobs). AreLiveWithin span (kept.live ++ kept.custom)) was.jobs_are within) h)
