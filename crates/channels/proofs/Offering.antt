-- What an opening gives, by what is kept.
use Rattle.std.proofs.Common.{◌≡◌, ℕ, ◌+◌, ◌^◌, Bool, true, false, not, Option, None, Some, List, Ok, Err, map, refl, ap, subst, sym, ◌∙◌}
use Rattle.std.specs.Prelude.{nat_le}
use Rattle.history_laws.proofs.Entrances.{none-some}
use Rattle.history_laws.proofs.Holding.{first_free-length}
use Rattle.pool_history.specs.declared.asking.OpenAsk.{OpenAsk}
use Rattle.pool_history.specs.declared.refusals.OpenError.{OpenError}
use Rattle.pool_history.specs.declared.refusals.OpenError.TheVariants as open_error
use Rattle.pool_history.specs.declared.settings.Rules.{Rules}
use Rattle.pool_history.specs.Accounts.{account_of}
use Rattle.pool_history.specs.Conditions.{first_false, found, or_code}
use Rattle.pool_history.specs.Refusing.{class_for, class_of_target, conditions_among, count_among, has_too_many_among, lead_among, lead_length, lead_unless, may_open}
use Rattle.pool_history.specs.Spaces.{lowest}
use Rattle.channels.specs.Plans.{IsNextOpening, opened_for, opening_on}
use Rattle.channels.specs.Tables.{ChannelTable}

-- why it is refused
abbrev pub refusal_on : ChannelTable → Rules → ℕ → OpenAsk → Option OpenError
refusal_on table rules session ask = first_false (conditions_among rules table.open_channels table.opened session ask) None

pub on-refusal : (table : ChannelTable) (rules : Rules) (session : ℕ) (ask : OpenAsk) (e : OpenError) → Some e ≡ refusal_on table rules session ask
    → Err e ≡ opening_on table rules session ask
on-refusal table rules session ask e is = ap (λ o. opened_for table rules ask (lead_unless o (lead_among table.open_channels ask))) is

-- that no lead is free
pub on-none : (table : ChannelTable) (rules : Rules) (session : ℕ) (ask : OpenAsk) → None ≡ refusal_on table rules session ask → lead_among table.open_channels ask ≡ None
    → Err open_error.NoSpace ≡ opening_on table rules session ask
on-none table rules session ask is lead =
    ap (λ l. opened_for table rules ask (found open_error.NoSpace l)) (sym lead)
    ∙ ap (λ o. opened_for table rules ask (lead_unless o (lead_among table.open_channels ask))) is

-- what it gives
pub on-lead : (table : ChannelTable) (rules : Rules) (session : ℕ) (ask : OpenAsk) (lead : List ℕ) (class : ℕ) → None ≡ refusal_on table rules session ask
    → lead_among table.open_channels ask ≡ Some lead → class ≡ class_for rules ask.max_target
    → Ok (record { channel = table.opened + 1; class = class; lead = lead }) ≡ opening_on table rules session ask
on-lead table rules session ask lead class is lead-is class-is =
    ap (λ n. Ok (record { channel = table.opened + 1; class = n; lead = lead })) class-is
    ∙ ap (λ l. opened_for table rules ask (found open_error.NoSpace l)) (sym lead-is)
    ∙ ap (λ o. opened_for table rules ask (lead_unless o (lead_among table.open_channels ask))) is

-- where nothing is refused each condition holds
or-none : {C : Type 0} (b : Bool) (code : C) (next : Option C) → None ≡ or_code b code next → (b ≡ true) × (None ≡ next)
or-none true code next is = (refl, is)
or-none false code next is = absurd (none-some is)

not-not : (b : Bool) → not b ≡ true → b ≡ false
not-not true is = sym is
not-not false is = refl

pub on-few : (table : ChannelTable) (rules : Rules) (session : ℕ) (ask : OpenAsk) → None ≡ refusal_on table rules session ask
    → has_too_many_among table.open_channels table.opened session ≡ false
on-few table rules session ask is =
    let count : Option OpenError =
    or_code (not (has_too_many_among table.open_channels table.opened session)) (open_error.TooManyChannels (count_among table.open_channels session) table.opened) None in
    let size : Option OpenError = or_code (nat_le ask.min_size 11) (open_error.SizeTooLarge ask.min_size) count in
    let class : Option OpenError =
    or_code (nat_le (class_of_target ask.max_target) 60) (open_error.TargetOutOfRange (class_of_target ask.max_target)) size in
    let after_user : None ≡ class = (or-none (may_open rules ask.kind (account_of ask.identity)) open_error.UnknownUser class is).1 in
    let after_class : None ≡ size = (or-none (nat_le (class_of_target ask.max_target) 60) (open_error.TargetOutOfRange (class_of_target ask.max_target)) size after_user).1 in
    let after_size : None ≡ count = (or-none (nat_le ask.min_size 11) (open_error.SizeTooLarge ask.min_size) count after_class).1 in
    not-not (has_too_many_among table.open_channels table.opened session)
    (or-none (not (has_too_many_among table.open_channels table.opened session)) (open_error.TooManyChannels (count_among table.open_channels session) table.opened) None after_size).0

pub on-next : (table : ChannelTable) (rules : Rules) (session : ℕ) (ask : OpenAsk) (lead : List ℕ) (class : ℕ) → None ≡ refusal_on table rules session ask
    → lead_among table.open_channels ask ≡ Some lead → IsNextOpening table session ask.kind (record { channel = table.opened + 1; class = class; lead = lead })
on-next table rules session ask lead class is lead-is =
    let len : ℕ = lead_length ask.kind ask.min_size in
    let leads : List (List ℕ) = map (λ c. c.lead) table.open_channels in
    record {
      few = on-few table rules session ask is;
      next = refl;
      lead_is = subst (λ n. lowest n leads ≡ Some lead) (sym (first_free-length len leads 0 (256 ^ len) lead lead-is)) lead-is;
      whole = λ is. first_free-length len leads 0 (256 ^ len) lead lead-is ∙ ap (λ k. lead_length k ask.min_size) is;
    }
