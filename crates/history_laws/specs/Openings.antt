-- Open channels are as the rules allow (this project's own).
use Rattle.std.specs.Prelude.{IsTrue, ◌≡◌, ◌⊎◌, ◌<◌, ℕ, false, Some, List, [], ◌∷◌, ◌++◌, length}
use Rattle.std.specs.List.{AllByRecursion}
use Rattle.pool_history.specs.declared.events.Event.{Event}
use Rattle.pool_history.specs.declared.events.Event.TheVariants as event
use Rattle.pool_history.specs.declared.events.Kind.{Kind}
use Rattle.pool_history.specs.declared.settings.Rules.{Rules}
use Rattle.pool_history.specs.Accounts.{is_known}
use Rattle.pool_history.specs.Channels.{OpenChannel, channels_of, class_at, present_class}
use Rattle.pool_history.specs.Legal.{Legal, is_class, is_lead_length, is_nameless}
use Rattle.pool_history.specs.Refusing.{held_leads}
use Rattle.pool_history.specs.Sessions.{past_of, rules_of}
use Rattle.pool_history.specs.Spaces.{overlap}
use Rattle.history_laws.specs.Lowest.{IsLowestFree}

-- a channel that the rules allow: its lead is of bytes, as many as its kind may have, its class may
-- be a channel's now and before each place, and its account is known, or it is a V1 channel that
-- has none yet
pub record IsAllowed (rules : Rules) (channel : OpenChannel) : Type 0 where
  pub lead : IsTrue (is_lead_length channel.kind (length channel.lead))
  pub bytes : AllByRecursion (λ byte. byte < 256) channel.lead
  pub class : IsTrue (is_class rules (present_class channel))
  pub classes : (at : ℕ) → IsTrue (is_class rules (class_at channel at))
  pub account : IsTrue (is_known rules channel.account)
      ⊎ IsTrue (is_nameless channel.kind channel.account)

-- no lead of these begins another, at whatever places they stand
abbrev pub AreLeadsApart : List (List ℕ) → Type 0
AreLeadsApart [] = Unit {0}
AreLeadsApart (lead ∷ later) =
    AllByRecursion (λ other. overlap lead other ≡ false) later × AreLeadsApart later

-- each open channel is allowed, and their leads are apart
pub record ChannelsFit (rules : Rules) (past : List Event) : Type 0 where
  pub allowed : AllByRecursion (IsAllowed rules) (channels_of past)
  pub leads : AreLeadsApart (held_leads past)

-- so they are in each legal history
abbrev pub OpenChannelsFit : Type 0
OpenChannelsFit =
    (history : List Event) (rules : Rules) → Legal history → rules_of (past_of history) ≡ Some rules
    → ChannelsFit rules (past_of history)

-- each opening of a legal history has the lowest lead of its length that was free before it
abbrev pub OpeningsGetLowest : Type 0
OpeningsGetLowest =
    (before after : List Event) (session : ℕ) (kind : Kind) (account : List ℕ) (class : ℕ)
    (lead : List ℕ)
    → Legal (before ++ event.Open session kind account class lead ∷ after)
    → IsLowestFree (length lead) (held_leads (past_of before)) lead
