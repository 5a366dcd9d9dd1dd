-- Definitions that one might write and that are wrong: each gives another value on a worked example. The value that
-- is right stands in `Rows` and `Settlements`, under the name that is said here.
use Rattle.std.proofs.Common.{◌≡◌, ◌+◌, ◌-◌, ◌*◌, ◌/◌, ◌%◌, ◌^◌, ℕ, Bool, true, false, cond, ◌||◌, not, Option, None, Some, List, [], ◌∷◌, length, take, refl}
use Rattle.std.specs.Prelude.{nat_eq, nat_le, replicate, sum_by}
use Rattle.std.specs.List.{list_any, starts_with}
use Rattle.pool_history.specs.declared.events.Event.{Event}
use Rattle.pool_history.specs.declared.events.Event.TheVariants as event
use Rattle.pool_history.specs.declared.events.JobState.{JobState}
use Rattle.pool_history.specs.declared.events.JobState.TheVariants as state
use Rattle.pool_history.specs.declared.settings.Rules.{Rules}
use Rattle.pool_history.specs.declared.templates.TipData.{TipData}
use Rattle.pool_history.specs.Channels.{OpenChannel, channel_in, channels_of, present_class}
use Rattle.pool_history.specs.Crediting.{Booked, headers}
use Rattle.pool_history.specs.Jobs.{Job, Standing, has_number, jobs_of}
use Rattle.pool_history.specs.Settling.{Part, accounts_of, fee_of, parts_in_block, payment, payments_of, since_block, weight}
use Rattle.pool_history.specs.Spaces.{string_at}
use Rattle.pool_history.proofs.Given.{credits, rules, template_of, tip_of, tipped, opened}
use Rattle.pool_history.proofs.Rows.{after_next_tip, next_job, with_future}
use Rattle.pool_history.proofs.Settlements.{block, credit}

-- the class at a job taken as the channel's present one: 60 at the old job, which is 0 (`class_at_old_job`)
abbrev pub present_class_at : Option OpenChannel → ℕ
present_class_at None = 0
present_class_at (Some channel) = present_class channel

pub wrong-present_class : present_class_at (channel_in (channels_of next_job) 1) ≡ 60
wrong-present_class = refl

-- weights divided by the window: 50 of 1,000 for a weight of 5 in a window of 100, which is 555 (`pplns_100`)
abbrev pub amount_by_window : ℕ → ℕ → List ℕ → List Part → ℕ
amount_by_window window paid_out account parts = paid_out * weight account parts / window

pub wrong-divided_by_the_window : amount_by_window 100 1000 (0x61 ∷ []) (parts_in_block (Some 100) (block 0x62 2 1000 ∷ credit 0x61 1 ∷ credit 0x62 2 ∷ credit 0x61 4 ∷ [])) ≡ 50
wrong-divided_by_the_window = refl

-- the block's own credit left out: a has all of the 990, where it has 424 (`proportional_row`)
abbrev pub without_own : List Booked → List Part
without_own [] = []
without_own (block ∷ older) = since_block older

pub wrong-own_credit_left_out : (payment 990 (without_own (block 0x62 4 1000 ∷ credit 0x61 2 ∷ credit 0x61 1 ∷ [])) (0x61 ∷ [])).amount ≡ 990
wrong-own_credit_left_out = refl

-- stale jobs told as unknown: job 1 after the next tip, which is stale (`state-stale`)
abbrev pub state_without_stale : Standing → ℕ → JobState
state_without_stale standing number =
    cond (has_number number standing.future) state.Future
    (cond (has_number number standing.live || has_number number standing.custom) state.Live state.Unknown)

pub wrong-stale_as_unknown : state_without_stale (jobs_of after_next_tip) 1 ≡ state.Unknown
wrong-stale_as_unknown = refl

-- a lead that begins a held one counted as free: 00 beside 00000000, where the lowest is 01 (`lowest-beside_longer`)
abbrev pub is_free_of_shorter : List (List ℕ) → List ℕ → Bool
is_free_of_shorter held lead = not (list_any (λ other. starts_with nat_eq lead other) held)

pub wrong-prefix_of_held_is_free : is_free_of_shorter (replicate 4 0 ∷ []) (string_at 1 0) ≡ true
wrong-prefix_of_held_is_free = refl

-- the seventeenth future job dropping the newest: job 17 isn't there, which is future (`future-seventeen_newest`)
abbrev pub first_sixteen : List Job → List Job
first_sixteen jobs = take 16 jobs

pub wrong-newest_dropped : has_number 17 (first_sixteen (jobs_of (with_future 17 opened)).all) ≡ false
wrong-newest_dropped = refl

-- times compared with wrapping: 100 is in the window of a tip at the end of 32 bits, where it isn't (`failed-no_wrapping`)
abbrev pub is_in_wrapped_window : Rules → TipData → ℕ → Bool
is_in_wrapped_window rules tip ntime =
    nat_le tip.header_timestamp ntime || nat_le ntime ((tip.header_timestamp + rules.ntime_window) % 2 ^ 32)

pub wrong-wrapping : is_in_wrapped_window rules (record (tip_of 5 0x11) { header_timestamp = 0xffffffff }) 100 ≡ true
wrong-wrapping = refl

-- duplicates looked for among the credits since the last tip alone: there is none after the next tip, where one header
-- is kept (`headers_after_tip`, `headers_count`)
abbrev pub since_tip : List Event → List Event
since_tip [] = []
since_tip (event.Tip session tip ∷ older) = []
since_tip (e ∷ older) = e ∷ since_tip older

pub wrong-duplicates_since_tip : length (headers (since_tip (event.Tip 0 (tip_of 6 0x22) ∷ event.Template 0 (template_of 6 true) ∷ credits ∷ tipped))) ≡ 0
wrong-duplicates_since_tip = refl

-- the pool's part without the fee: 1 satoshi, where the pool has 11 (`proportional_row`)
abbrev pub pool_without_fee : ℕ → ℕ → List Booked → ℕ
pool_without_fee basis_points reward credits =
    reward - fee_of reward basis_points
    - sum_by (λ paid. paid.amount) (payments_of (reward - fee_of reward basis_points) (parts_in_block None credits) (accounts_of credits))

pub wrong-pool_without_fee : pool_without_fee 100 1000 (block 0x62 4 1000 ∷ credit 0x61 2 ∷ credit 0x61 1 ∷ []) ≡ 1
wrong-pool_without_fee = refl
