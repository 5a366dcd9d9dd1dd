-- The spaces of extranonces are disjoint (Stratum V2, "Extranonces"; which lead a channel gets is
-- this project's own).
use Rattle.std.specs.Prelude.{◌≡◌, ℕ, Some, List, [], ◌∷◌, ◌++◌, length}
use Rattle.std.specs.List.{AllByRecursion}
use Rattle.pool_base.specs.Lists.{Begins}
use Rattle.pool_history.specs.declared.events.Event.{Event}
use Rattle.pool_history.specs.Channels.{OpenChannel, channel_in, channels_of}
use Rattle.pool_history.specs.Legal.{Legal}
use Rattle.pool_history.specs.Sessions.{past_of}
use Rattle.pool_history.specs.Spaces.{InSpace}

-- no twelve bytes are in both spaces
abbrev pub AreDisjoint : OpenChannel → OpenChannel → Type 0
AreDisjoint a b =
    (extranonce : List ℕ) → InSpace a.kind a.lead extranonce → InSpace b.kind b.lead extranonce → ⊥

-- each channel's space is disjoint from those of all later ones
abbrev pub AreApart : List OpenChannel → Type 0
AreApart [] = Unit {0}
AreApart (channel ∷ later) = AllByRecursion (AreDisjoint channel) later × AreApart later

-- the spaces of two different open channels of these are disjoint, whether they are told apart by
-- their places or by their ids
pub record SpacesAreApart (channels : List OpenChannel) : Type 0 where
  pub by_place : AreApart channels
  pub by_id : (i j : ℕ) (a b : OpenChannel) → channel_in channels i ≡ Some a
      → channel_in channels j ≡ Some b → ¬ (i ≡ j) → AreDisjoint a b

-- so they are after each event of a legal history
abbrev pub SpacesAreDisjoint : Type 0
SpacesAreDisjoint =
    (before after : List Event) → Legal (before ++ after)
    → SpacesAreApart (channels_of (past_of before))

-- no twelve bytes begin with both leads
abbrev pub ShareNone : List ℕ → List ℕ → Type 0
ShareNone a b =
    (extranonce : List ℕ) → length extranonce ≡ 12 → Begins a extranonce → Begins b extranonce → ⊥
