-- The next lead of a length, and what opens with it (this project's own).
use Rattle.std.specs.Prelude.{ℕ, ◌&&◌, Bool, not, None, Result, List, [], ◌∷◌, length, map}
use Rattle.std.specs.Str.{bytes_eq}
use Rattle.channels.specs.Tables.{ChannelTable}
use Rattle.pool_history.specs.declared.events.Kind.{Kind}
use Rattle.pool_history.specs.declared.refusals.OpenError.{OpenError}
use Rattle.pool_history.specs.declared.refusals.OpenError.TheVariants as open_error
use Rattle.pool_history.specs.Conditions.{first_false}
use Rattle.pool_history.specs.Legal.{is_lead_length}
use Rattle.pool_history.specs.Refusing.{count_among, has_too_many_among, lead_unless}
use Rattle.pool_history.specs.Spaces.{lowest}

-- a session may open no more channels
abbrev pub is_full_for : ChannelTable → ℕ → Bool
is_full_for table session = has_too_many_among table.open_channels table.opened session

-- the lowest free lead of a length, for a session that may open one more channel
abbrev pub next_lead_on : ChannelTable → ℕ → ℕ → Result (List ℕ) OpenError
next_lead_on table session len =
    lead_unless
    (first_false
    ((
      not (is_full_for table session),
      open_error.TooManyChannels (count_among table.open_channels session) table.opened,
    ) ∷ []) None)
    (lowest len (map (λ channel. channel.lead) table.open_channels))

-- a lead is one of its kind, and just this one
abbrev pub is_said_lead : Kind → List ℕ → List ℕ → Bool
is_said_lead kind said lead = is_lead_length kind (length said) && bytes_eq said lead
