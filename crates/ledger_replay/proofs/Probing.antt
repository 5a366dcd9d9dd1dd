-- What a V1 opening tells of the next lead.
use Rattle.std.proofs.Common.{◌≡◌, ℕ, ◌+◌, ◌-◌, ◌≤◌, Bool, true, not, None, Result, Ok, Err, List, [], ◌∷◌, map, min, arith, refl, ap, sym, ◌∙◌}
use Rattle.std.proofs.lemmas.Bool.{le-leb}
use Rattle.std.specs.Prelude.{nat_le, replicate}
use Rattle.block_header.specs.Target as target
use Rattle.channels.specs.Plans.{opened_for, opening_on, opening_plan}
use Rattle.channels.specs.Tables.{ChannelTable}
use Rattle.pool_history.specs.declared.asking.OpenAsk.{OpenAsk}
use Rattle.pool_history.specs.declared.events.Kind.{Kind}
use Rattle.pool_history.specs.declared.events.Kind.TheVariants.{V1}
use Rattle.pool_history.specs.declared.refusals.OpenError.{OpenError}
use Rattle.pool_history.specs.declared.refusals.OpenError.TheVariants as open_error
use Rattle.pool_history.specs.declared.settings.Rules.{Rules}
use Rattle.pool_history.specs.Accounts.{account_of}
use Rattle.pool_history.specs.Conditions.{first_false, or_code}
use Rattle.pool_history.specs.Refusing.{class_of_target, count_among, has_too_many_among, lead_length, lead_unless, may_open, openable_among}
use Rattle.pool_history.specs.Spaces.{lowest}
use Rattle.ledger_replay.specs.Openings.{is_full_for, next_lead_on}

-- what opens, by the kind, the target and the size that are asked for
abbrev pub openable_by : Rules → ChannelTable → ℕ → List ℕ → Kind → List ℕ → ℕ → Result (List ℕ) OpenError
openable_by rules table session identity kind max size =
    lead_unless
    (first_false
    ((may_open rules kind (account_of identity), open_error.UnknownUser)
    ∷ (nat_le (class_of_target max) 60, open_error.TargetOutOfRange (class_of_target max))
    ∷ (nat_le size 11, open_error.SizeTooLarge size)
    ∷ (
      not (has_too_many_among table.open_channels table.opened session),
      open_error.TooManyChannels (count_among table.open_channels session) table.opened,
    )
    ∷ []) None)
    (lowest (lead_length kind size) (map (λ channel. channel.lead) table.open_channels))

-- a V1 channel with the largest target
abbrev pub openable_of_size : ChannelTable → ℕ → Bool → ℕ → ℕ → Result (List ℕ) OpenError
openable_of_size table session fits size len =
    lead_unless
    (or_code fits (open_error.SizeTooLarge size)
    (or_code (not (is_full_for table session)) (open_error.TooManyChannels (count_among table.open_channels session) table.opened) None))
    (lowest len (map (λ channel. channel.lead) table.open_channels))

largest-fits : nat_le (class_of_target (replicate 32 255)) 60 ≡ true
unfolding target.first_class
largest-fits = refl

probe-lead : (rules : Rules) (table : ChannelTable) (session len : ℕ) (ask : OpenAsk) → ask.kind ≡ V1 → ask.max_target ≡ replicate 32 255 → ask.min_size + len ≡ 12
    → 1 ≤ len → len ≤ 4 → openable_among rules table.open_channels table.opened session ask ≡ next_lead_on table session len
probe-lead rules table session len ask kind_is target_is size_is some most =
    ap (λ kind. openable_by rules table session ask.identity kind ask.max_target ask.min_size) kind_is
    ∙ ap (λ max. openable_by rules table session ask.identity V1 max ask.min_size) target_is
    ∙ ap (λ b. lead_unless (or_code b (open_error.TargetOutOfRange (class_of_target (replicate 32 255))) (first_false ((nat_le ask.min_size 11, open_error.SizeTooLarge ask.min_size) ∷ (not (is_full_for table session), open_error.TooManyChannels (count_among table.open_channels session) table.opened) ∷ []) None)) (lowest (min 4 (12 - ask.min_size)) (map (λ channel. channel.lead) table.open_channels))) largest-fits
    ∙ ap (λ b. openable_of_size table session b ask.min_size (min 4 (12 - ask.min_size))) (le-leb ask.min_size 11 (omega (arith, size_is, some)))
    ∙ ap (λ n. openable_of_size table session true ask.min_size n) same where
      same : min 4 (12 - ask.min_size) ≡ len
      same = omega (arith, size_is, most)

-- so its refusal is that of the next lead
pub probe-refused : (rules : Rules) (table : ChannelTable) (session len : ℕ) (ask : OpenAsk) (refusal : OpenError) → ask.kind ≡ V1 → ask.max_target ≡ replicate 32 255
    → ask.min_size + len ≡ 12 → 1 ≤ len → len ≤ 4 → Err refusal ≡ opening_plan session 0 ask (opening_on table rules session ask) → next_lead_on table session len ≡ Err refusal
probe-refused rules table session len ask refusal kind_is target_is size_is some most is =
    sym (probe-lead rules table session len ask kind_is target_is size_is some most)
    ∙ by_result (openable_among rules table.open_channels table.opened session ask) is where
      by_result : (r : Result (List ℕ) OpenError) → Err refusal ≡ opening_plan session 0 ask (opened_for table rules ask r) → r ≡ Err refusal
      by_result (Ok lead) same = cc
      by_result (Err e) same = sym cc
