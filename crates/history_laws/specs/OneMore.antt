-- What one more event does to what a history shows, for each of the twelve kinds of event (this
-- project's own).
use Rattle.std.specs.Prelude.{◌≡◌, ℕ, ◌+◌, ◌==◌, ◌||◌, Bool, if◌then◌else◌, not, Option, Some, List, [], ◌∷◌, ◌++◌, length, filter, map}
use Rattle.std.specs.Str.{bytes_eq}
use Rattle.pool_history.specs.declared.events.Event.{Event}
use Rattle.pool_history.specs.declared.events.Event.TheVariants as event
use Rattle.pool_history.specs.declared.settings.Rules.{Rules}
use Rattle.pool_history.specs.Channels.{OpenChannel, channels_of, with_name, with_class}
use Rattle.pool_history.specs.Crediting.{Booked, booked_in, booking, bookings_of, credit_share, found_list, headers}
use Rattle.pool_history.specs.Jobs.{Came, Tipped, Brought, Standing, after_move, jobs_of}
use Rattle.pool_history.specs.Judging.{rebuilt_header}
use Rattle.pool_history.specs.Refusing.{Granted, grant_of, is_spent, token_of}
use Rattle.pool_history.specs.Sessions.{Entrance, credits, enters, entrance, grants, opens, past_of, present, rules_of, script_of, templates, unless_left}

-- a Start is the rules where it is the first event
abbrev pub rules_after : ℕ → Event → Option Rules → Option Rules
rules_after at (event.Start rules) seen = if at == 0 then Some rules else seen
rules_after at event seen = seen

-- the rules after one more event
abbrev pub RulesOneMore : Type 0
RulesOneMore =
    (history : List Event) (event : Event) (seen : Option Rules) (at : ℕ)
    → rules_of (past_of history) ≡ seen → length history ≡ at
    → rules_of (past_of (history ++ event ∷ [])) ≡ rules_after at event seen

-- how many events of the counted kinds there are
pub record Counts : Type 0 where
  pub entered : ℕ
  pub opened : ℕ
  pub came : ℕ
  pub credited : ℕ
  pub granted : ℕ

-- the counts of a history
abbrev pub counts_of : List Event → Counts
counts_of past =
    record {
      entered = enters past;
      opened = opens past;
      came = templates past;
      credited = credits past;
      granted = grants past;
    }

-- an event of a counted kind is one more
abbrev pub counts_after : Event → Counts → Counts
counts_after (event.Enter worker role flags) seen = record seen { entered = seen.entered + 1 }
counts_after (event.Open session kind account class lead) seen =
    record seen { opened = seen.opened + 1 }
counts_after (event.Template session template) seen = record seen { came = seen.came + 1 }
counts_after (event.Credit session channel job nonce ntime version extranonce) seen =
    record seen { credited = seen.credited + 1 }
counts_after (event.Grant session account fixed path) seen =
    record seen { granted = seen.granted + 1 }
counts_after event seen = seen

-- the counts after one more event
abbrev pub CountsOneMore : Type 0
CountsOneMore =
    (history : List Event) (event : Event) (seen : Counts) → counts_of (past_of history) ≡ seen
    → counts_of (past_of (history ++ event ∷ [])) ≡ counts_after event seen

-- a worker's present session: an Enter begins one, and its Leave ends it
abbrev pub present_after : Event → ℕ → ℕ → Option ℕ → Option ℕ
present_after (event.Enter entering role flags) entered worker seen =
    if entering == worker then Some entered else seen
present_after (event.Leave session) entered worker seen = unless_left session seen
present_after event entered worker seen = seen

-- the present session after one more event
abbrev pub PresentOneMore : Type 0
PresentOneMore =
    (history : List Event) (event : Event) (entered worker : ℕ) (seen : Option ℕ)
    → enters (past_of history) ≡ entered → present (past_of history) worker ≡ seen
    → present (past_of (history ++ event ∷ [])) worker ≡ present_after event entered worker seen

-- what a session was entered with: an Enter's session is the number of Enters before
abbrev pub entrance_after : Event → ℕ → ℕ → Option Entrance → Option Entrance
entrance_after (event.Enter worker role flags) entered session seen =
    if entered == session then Some (record { worker = worker; role = role; flags = flags })
    else seen
entrance_after event entered session seen = seen

-- the entrance after one more event
abbrev pub EntrancesOneMore : Type 0
EntrancesOneMore =
    (history : List Event) (event : Event) (entered session : ℕ) (seen : Option Entrance)
    → enters (past_of history) ≡ entered
    → entrance (past_of history) session ≡ seen
    → entrance (past_of (history ++ event ∷ [])) session ≡ entrance_after event entered session seen

-- the jobs: a template, a tip or a miner's own job moves them, at its place
abbrev pub jobs_after : ℕ → Event → Standing → Standing
jobs_after at (event.Template session template) seen = after_move (Came at session template) seen
jobs_after at (event.Tip session tip) seen = after_move (Tipped at tip) seen
jobs_after at (event.Custom session custom) seen = after_move (Brought at custom) seen
jobs_after at event seen = seen

-- the jobs after one more event
abbrev pub JobsOneMore : Type 0
JobsOneMore =
    (history : List Event) (event : Event) (seen : Standing) (at : ℕ)
    → jobs_of (past_of history) ≡ seen → length history ≡ at
    → jobs_of (past_of (history ++ event ∷ [])) ≡ jobs_after at event seen

-- the open channels: an Open adds one, whose id is one more than the number of those before
abbrev pub channels_after : ℕ → ℕ → Event → List OpenChannel → List OpenChannel
channels_after at opened (event.Open session kind account class lead) seen =
    seen ++ record {
      id = opened + 1;
      session = session;
      kind = kind;
      account = account;
      lead = lead;
      opening_class = class;
      sets = [];
    } ∷ []
channels_after at opened (event.Name session channel account) seen =
    map (with_name channel account) seen
channels_after at opened (event.Class session channel class) seen =
    map (with_class at channel class) seen
channels_after at opened (event.Close session channel) seen =
    filter (λ c. not (c.id == channel)) seen
channels_after at opened (event.Leave session) seen = filter (λ c. not (c.session == session)) seen
channels_after at opened event seen = seen

-- the open channels after one more event
abbrev pub ChannelsOneMore : Type 0
ChannelsOneMore =
    (history : List Event) (event : Event) (seen : List OpenChannel) (at opened : ℕ)
    → channels_of (past_of history) ≡ seen → length history ≡ at
    → opens (past_of history) ≡ opened
    → channels_of (past_of (history ++ event ∷ [])) ≡ channels_after at opened event seen

-- the headers of all credits: a Credit adds its own, rebuilt by what the history before it shows
abbrev pub headers_after : List ℕ → Standing → List OpenChannel → Event → List (List ℕ)
    → List (List ℕ)
headers_after script standing channels
    (event.Credit session channel job nonce ntime version extranonce) seen =
    found_list (λ with. rebuilt_header script with
    (credit_share with channel job nonce ntime version extranonce))
    (booked_in standing channels channel job) ++ seen
headers_after script standing channels event seen = seen

-- what a history shows of the things that a credit is booked with
pub record Shows (history : List Event) (script : List ℕ) (standing : Standing)
    (channels : List OpenChannel) : Type 0 where
  pub script_is : script_of (past_of history) ≡ script
  pub jobs_are : jobs_of (past_of history) ≡ standing
  pub channels_are : channels_of (past_of history) ≡ channels

-- the headers after one more event
abbrev pub HeadersOneMore : Type 0
HeadersOneMore =
    (history : List Event) (event : Event) (script : List ℕ) (standing : Standing)
    (channels : List OpenChannel) (seen : List (List ℕ))
    → Shows history script standing channels → headers (past_of history) ≡ seen
    → headers (past_of (history ++ event ∷ [])) ≡ headers_after script standing channels event seen

-- the credits with their accounts, work and rewards: the last stands first
abbrev pub booked_after : List ℕ → Standing → List OpenChannel → Event → List Booked → List Booked
booked_after script standing channels
    (event.Credit session channel job nonce ntime version extranonce) seen =
    found_list (λ with. booking script
    (credit_share with channel job nonce ntime version extranonce) with)
    (booked_in standing channels channel job) ++ seen
booked_after script standing channels event seen = seen

-- the credits after one more event
abbrev pub CreditsOneMore : Type 0
CreditsOneMore =
    (history : List Event) (event : Event) (script : List ℕ) (standing : Standing)
    (channels : List OpenChannel) (seen : List Booked)
    → Shows history script standing channels → bookings_of (past_of history) ≡ seen
    → bookings_of (past_of (history ++ event ∷ []))
    ≡ booked_after script standing channels event seen

-- what was granted for a token: a Grant's number is one more than the number of those before
abbrev pub grant_after : Event → ℕ → List ℕ → Option Granted → Option Granted
grant_after (event.Grant session account fixed path) granted token seen =
    if bytes_eq token (token_of (granted + 1))
    then Some (record { account = account; fixed = fixed; path = path }) else seen
grant_after event granted token seen = seen

-- the grant of a token after one more event
abbrev pub GrantsOneMore : Type 0
GrantsOneMore =
    (history : List Event) (event : Event) (granted : ℕ) (token : List ℕ) (seen : Option Granted)
    → grants (past_of history) ≡ granted
    → grant_of (past_of history) token ≡ seen
    → grant_of (past_of (history ++ event ∷ [])) token ≡ grant_after event granted token seen

-- whether a token is spent: a miner's own job spends the one that it names
abbrev pub spent_after : Event → List ℕ → Bool → Bool
spent_after (event.Custom session custom) token seen = bytes_eq token custom.token || seen
spent_after event token seen = seen

-- whether a token is spent after one more event
abbrev pub SpendingOneMore : Type 0
SpendingOneMore =
    (history : List Event) (event : Event) (token : List ℕ) (seen : Bool)
    → is_spent (past_of history) token ≡ seen
    → is_spent (past_of (history ++ event ∷ [])) token ≡ spent_after event token seen
