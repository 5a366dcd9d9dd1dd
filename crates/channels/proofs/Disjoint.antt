-- Two different open channels search no space together.
use Rattle.std.proofs.Common.{◌≡◌, ℕ, false, Some, List, [], ◌∷◌}
use Rattle.std.specs.List.{AllByRecursion}
use Rattle.pool_history.specs.Channels.{OpenChannel, channel_in}
use Rattle.pool_history.specs.Spaces.{overlap}
use Rattle.history_laws.specs.Apart.{AreDisjoint}
use Rattle.history_laws.specs.Openings.{AreLeadsApart}
use Rattle.history_laws.proofs.Holding.{Apart, apart-disjoint, found-apart}
use Rattle.channels.specs.declared.channel.Channel.{Channel}
use Rattle.channels.proofs.Closings.{leads_of}
use Rattle.channels.proofs.Lookups.{shown_all}

-- leads that are apart are so as channels
pub shown-apart : (entries : List (ℕ × Channel)) → AreLeadsApart (leads_of entries) → Apart (shown_all entries)
shown-apart [] apart = tt
shown-apart (e ∷ entries) apart = (each entries apart.0, shown-apart entries apart.1) where
  each : (later : List (ℕ × Channel)) → AllByRecursion (λ other. overlap e.1.lead other ≡ false) (leads_of later)
      → AllByRecursion (λ d. overlap e.1.lead d.lead ≡ false) (shown_all later)
  each [] all = tt
  each (d ∷ later) all = (all.0, each later all.1)

pub shown-disjoint : (entries : List (ℕ × Channel)) → AreLeadsApart (leads_of entries) → (i j : ℕ) (a b : OpenChannel)
    → channel_in (shown_all entries) i ≡ Some a → channel_in (shown_all entries) j ≡ Some b → ¬ (i ≡ j) → AreDisjoint a b
shown-disjoint entries apart i j a b is-a is-b other =
    apart-disjoint a b (found-apart (shown_all entries) (shown-apart entries apart) i j a b is-a is-b other)
