-- Shares and the credits before them: which condition fails first, and what a credit is worth (this
-- project's own).
-- Computed on shares that each condition refuses, and on the headers kept over a tip (`Rows`,
-- `Settlements`); with hashes in `ledger_laws` (`WorkedSession`).
use Rattle.std.specs.Prelude.{ℕ, ◌^◌, Bool, not, if◌then◌else◌, Option, None, Some, Result, Ok, Err, List, [], ◌∷◌, ◌++◌, nat_lt}
use Rattle.std.specs.Option.{option_and_then, option_map}
use Rattle.std.specs.List.{list_any}
use Rattle.std.specs.Str.{bytes_eq}
use Rattle.block_header.specs.Hash.{dsha, meets}
use Rattle.block_header.specs.Target.{is_at_most}
use Rattle.coinbase.specs.Custom.{total}
use Rattle.coinbase.specs.Outputs.{outputs_of}
use Rattle.pool_history.specs.declared.events.Event.{Event}
use Rattle.pool_history.specs.declared.events.Event.TheVariants as event
use Rattle.pool_history.specs.declared.refusals.Failed.{Failed}
use Rattle.pool_history.specs.declared.refusals.Failed.TheVariants as failed
use Rattle.pool_history.specs.declared.settings.Rules.{Rules}
use Rattle.pool_history.specs.Channels.{OpenChannel, channel_in, channels_of, class_at}
use Rattle.pool_history.specs.Conditions.{first_false}
use Rattle.pool_history.specs.Jobs.{Source, FromTemplate, FromMiner, Standing, jobs_of, live_job}
use Rattle.pool_history.specs.Judging.{Share, Admitted, admission, is_standard, outputs_in, rebuilt_header}
use Rattle.pool_history.specs.Sessions.{credits, script_of}

-- the class at the job of a share: a later class doesn't change it
abbrev pub admitted_class : Admitted → ℕ
admitted_class share = class_at share.channel share.live_at

-- the work of a share
abbrev pub admitted_work : Admitted → ℕ
admitted_work share = 2 ^ admitted_class share

-- the fields of a credit as they are judged: it counts as standard where its channel is
abbrev pub credit_share : Admitted → ℕ → ℕ → ℕ → ℕ → ℕ → List ℕ → Share
credit_share where_booked channel job nonce ntime version extranonce = record {
  is_standard = is_standard where_booked.channel.kind;
  channel = channel;
  job = job;
  nonce = nonce;
  ntime = ntime;
  version = version;
  extranonce = extranonce;
}

-- the channel, the live job, since when that is live, and the tip of a credit, among these jobs and
-- channels
abbrev pub booked_in : Standing → List OpenChannel → ℕ → ℕ → Option Admitted
booked_in standing channels channel job = option_and_then
    (λ there. option_and_then
    (λ live. option_and_then
    (λ place. option_map
    (λ tip. record { channel = there; job = live; live_at = place; tip = tip })
    standing.tip) live.live_at) (live_job standing job)) (channel_in channels channel)

-- the same by the events before it
abbrev pub booked_with : List Event → ℕ → ℕ → Option Admitted
booked_with past channel job = booked_in (jobs_of past) (channels_of past) channel job

-- a list of what was found
abbrev pub found_list : {X Y : Type 0} → (X → Y) → Option X → List Y
found_list f (Some x) = f x ∷ []
found_list f None = []

-- the headers of all credits, each rebuilt by the events before it; a later tip drops none
abbrev pub headers : List Event → List (List ℕ)
headers [] = []
headers (event.Credit session channel job nonce ntime version extranonce ∷ older) =
    found_list (λ with. rebuilt_header (script_of older) with
    (credit_share with channel job nonce ntime version extranonce)) (booked_with older channel job)
    ++ headers older
headers (event.Start rules ∷ older) = headers older
headers (event.Enter worker role flags ∷ older) = headers older
headers (event.Template session template ∷ older) = headers older
headers (event.Tip session tip ∷ older) = headers older
headers (event.Open session kind account class lead ∷ older) = headers older
headers (event.Name session channel account ∷ older) = headers older
headers (event.Class session channel class ∷ older) = headers older
headers (event.Close session channel ∷ older) = headers older
headers (event.Leave session ∷ older) = headers older
headers (event.Grant session account fixed path ∷ older) = headers older
headers (event.Custom session custom ∷ older) = headers older

-- the last three conditions of a share and their codes, in order: its header's hash meets the class
-- at its job, no earlier credit has the header, and there are fewer credits than the limit
abbrev pub last_conditions : Rules → List Event → Admitted → List ℕ → List (Bool × Failed)
last_conditions rules past with header =
    (meets (dsha header) (admitted_class with), failed.Difficulty)
    ∷ (not (list_any (bytes_eq header) (headers past)), failed.Duplicate)
    ∷ (nat_lt (credits past) rules.credit_limit, failed.Full)
    ∷ []

-- the first of them that is false, for a share that met the first six
abbrev pub last_failed : Rules → List Event → Share → Result Admitted Failed → Option Failed
last_failed rules past share (Err code) = Some code
last_failed rules past share (Ok with) =
    first_false (last_conditions rules past with (rebuilt_header rules.pool_script with share)) None

-- the first of the nine conditions that is false, or none
abbrev pub first_failed : Rules → List Event → ℕ → Share → Option Failed
first_failed rules past session share =
    last_failed rules past share (admission rules past session share)

-- the reward of a job: what its template has left, or what its outputs pay
abbrev pub reward_of : Source → ℕ
reward_of (FromTemplate template) = template.coinbase_tx_value_remaining
reward_of (FromMiner custom) = total (outputs_in (outputs_of custom.coinbase_tx_outputs))

-- a credit is a block where its hash is at most the target of the last tip
abbrev pub is_block : List ℕ → Admitted → Share → Bool
is_block script with share = is_at_most (dsha (rebuilt_header script with share)) with.tip.target

-- a credit: the account, the work, and the reward where it is a block
pub record Booked : Type 0 where
  pub account : List ℕ
  pub work : ℕ
  pub reward : Option ℕ

-- what a share that is booked counts
abbrev pub booking : List ℕ → Share → Admitted → Booked
booking script share with = record {
  account = with.channel.account;
  work = admitted_work with;
  reward = if is_block script with share then Some (reward_of with.job.source) else None;
}

-- the credits of a history, the last first
abbrev pub bookings_of : List Event → List Booked
bookings_of [] = []
bookings_of (event.Credit session channel job nonce ntime version extranonce ∷ older) =
    found_list (λ with. booking (script_of older)
    (credit_share with channel job nonce ntime version extranonce) with)
    (booked_with older channel job) ++ bookings_of older
bookings_of (event.Start rules ∷ older) = bookings_of older
bookings_of (event.Enter worker role flags ∷ older) = bookings_of older
bookings_of (event.Template session template ∷ older) = bookings_of older
bookings_of (event.Tip session tip ∷ older) = bookings_of older
bookings_of (event.Open session kind account class lead ∷ older) = bookings_of older
bookings_of (event.Name session channel account ∷ older) = bookings_of older
bookings_of (event.Class session channel class ∷ older) = bookings_of older
bookings_of (event.Close session channel ∷ older) = bookings_of older
bookings_of (event.Leave session ∷ older) = bookings_of older
bookings_of (event.Grant session account fixed path ∷ older) = bookings_of older
bookings_of (event.Custom session custom ∷ older) = bookings_of older
