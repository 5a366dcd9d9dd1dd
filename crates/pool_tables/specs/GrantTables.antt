-- What a table of grants shows (this project's own).
use Rattle.std.specs.Prelude.{◌≡◌, ◌≢◌, ℕ, ◌+◌, ◌<◌, ◌≤◌, Bool, true, false, if◌then◌else◌, Option, None, Some, IsSome, List, [], ◌∷◌, length, nat_lt, nat_le, unwrap_or, slice_get}
use Rattle.std.specs.Str.{bytes_eq}
use Rattle.history_laws.specs.Limits.{customs}
use Rattle.pool_history.specs.declared.events.Event.{Event}
use Rattle.pool_history.specs.declared.events.Event.TheVariants as event
use Rattle.pool_history.specs.declared.refusals.GrantError.{GrantError}
use Rattle.pool_history.specs.declared.refusals.GrantError.TheVariants as grant
use Rattle.pool_history.specs.declared.settings.Rules.{Rules}
use Rattle.pool_history.specs.Accounts.{is_known}
use Rattle.pool_history.specs.Conditions.{first_false}
use Rattle.pool_history.specs.Refusing.{Granted, grant_of, granted_to, is_spent, most_entries, most_grants, token_of}
use Rattle.pool_history.specs.Sessions.{grants}

-- what each token was granted for, the first of which has the number 1; none where it is spent
pub record GrantTable : Type 0 where
  pub held : List (Option Granted)
  -- so many grants need no memory
  pub room : ℕ

-- how many tokens were granted
abbrev pub granted_count : GrantTable → ℕ
granted_count table = length table.held

-- what is held at a place
abbrev pub held_at : List (Option Granted) → ℕ → Option Granted
held_at held place = unwrap_or (slice_get held place) None

-- what is held for a token, the first having a number
abbrev pub held_from : ℕ → List (Option Granted) → List ℕ → Option Granted
held_from number [] token = None
held_from number (granted ∷ later) token =
    if bytes_eq token (token_of number) then granted else held_from (number + 1) later token

abbrev pub held_for : List (Option Granted) → List ℕ → Option Granted
held_for held token = held_from 1 held token

-- what was granted for a token that an account has still to spend
abbrev pub unspent_in : GrantTable → List ℕ → List ℕ → Option Granted
unspent_in table token account = granted_to account (held_for table.held token)

-- some account has still to spend a token
abbrev pub MaySpend : GrantTable → List ℕ → Type 0
MaySpend table token = IsSome (held_for table.held token)

-- how many tokens aren't spent
abbrev pub unspent_count : List (Option Granted) → ℕ
unspent_count [] = 0
unspent_count (None ∷ later) = unspent_count later
unspent_count (Some granted ∷ later) = unspent_count later + 1

-- nothing changed but the room
pub record ShowsSameGrants (old new : GrantTable) : Type 0 where
  pub held_stay : new.held ≡ old.held

-- what was granted for a token, unless it is spent
abbrev pub grant_unless_spent : List Event → List ℕ → Option Granted
grant_unless_spent past token = if is_spent past token then None else grant_of past token

-- a table shows the grants of a history, whose last event stands first
pub record ShowsGrants (table : GrantTable) (past : List Event) : Type 0 where
  pub count_is : granted_count table ≡ grants past
  -- each job of a miner's own spent one of them
  pub spent_are : customs past + unspent_count table.held ≡ grants past
  -- no token is spent before it is granted
  pub later_are : (number : ℕ) → grants past < number → number ≤ most_grants
      → is_spent past (token_of number) ≡ false
  pub held_are : (token : List ℕ) → held_for table.held token ≡ grant_unless_spent past token

-- so fewer jobs of miners' own were brought than tokens can be granted
abbrev pub HasOneToSpend : GrantTable → Type 0
HasOneToSpend table =
    (past : List Event) → ShowsGrants table past
    → (customs past < grants past) × (grants past ≤ most_grants)

-- a token is that of a place among so many, and of no place
abbrev pub HasPlace : List ℕ → ℕ → ℕ → Type 0
HasPlace token count place = (place < count) × (token ≡ token_of (place + 1))

abbrev pub HasNoPlace : List ℕ → ℕ → Type 0
HasNoPlace token count = (place : ℕ) → place < count → token ≢ token_of (place + 1)

-- an event by which a token is granted or spent
abbrev pub moves_grants : Event → Bool
moves_grants (event.Grant session account fixed path) = true
moves_grants (event.Custom session custom) = true
moves_grants event = false

-- any other leaves what is shown
abbrev pub OtherEventsLeaveGrants : Type 0
OtherEventsLeaveGrants =
    (table : GrantTable) (past : List Event) (event : Event) → moves_grants event ≡ false
    → ShowsGrants table past → ShowsGrants table (event ∷ past)

-- why a token isn't granted after so many others, for a path of so many entries
abbrev pub grant_refusal_after : Rules → ℕ → List ℕ → ℕ → Option GrantError
grant_refusal_after rules count account len =
    first_false
    ((is_known rules account, grant.UnknownUser)
    ∷ (nat_lt count most_grants, grant.TooManyGrants count)
    ∷ (nat_le len most_entries, grant.PathTooLong len)
    ∷ []) None
