-- A miner's own job is refused by the tables as by the history that they show.
use Rattle.std.proofs.Common.{◌≡◌, ◌≢◌, ℕ, Bool, true, false, cond, not, None, Some, Option, Result, Ok, Err, List, [], ◌∷◌, length, refl, ap, sym, ◌∙◌}
use Rattle.std.specs.Option.{option_map}
use Rattle.std.specs.Prelude.{nat_le, IsOk}
use Rattle.coinbase.specs.Custom.{custom_assembly}
use Rattle.coinbase.specs.CustomRecipes.{RefusesOutputs}
use Rattle.coinbase.specs.Parts.{Parts}
use Rattle.coinbase.specs.declared.error.OutputsError.{OutputsError}
use Rattle.coinbase.specs.declared.error.OutputsError.TheVariants as outputs_error
use Rattle.pool_history.specs.declared.events.Event.{Event}
use Rattle.pool_history.specs.declared.refusals.CustomError.{CustomError}
use Rattle.pool_history.specs.declared.refusals.CustomError.TheVariants as custom_error
use Rattle.pool_history.specs.declared.templates.CustomData.{CustomData}
use Rattle.pool_history.specs.declared.templates.TipData.{TipData}
use Rattle.pool_history.specs.Channels.{OpenChannel}
use Rattle.pool_history.specs.Conditions.{first_false}
use Rattle.pool_history.specs.Jobs.{jobs_of}
use Rattle.pool_history.specs.Judging.{custom_terms}
use Rattle.pool_history.specs.Refusing.{Granted, grant_of, granted_to, is_bad_path, is_extended, is_other_tip, is_spent, on_channel, outputs_refusal, over_tip, unspent, with_token}
use Rattle.channels.specs.declared.channel.Channel.{Channel}
use Rattle.channels.specs.Tables.{KeptChannel, kept_channel, kept_of}
use Rattle.pool_tables.specs.OwnJobs.{refusal_before_coinbase, tip_refusal, token_refusal}
use Rattle.pool_tables.specs.GrantTables.{GrantTable, ShowsGrants, unspent_in}

-- what comes after conditions that hold
pub after_all : {C : Type 0} (conditions : List (Bool × C)) (after : Option C) → first_false conditions None ≡ None → first_false conditions after ≡ after
after_all [] after h = refl
after_all ((true, code) ∷ more) after h = after_all more after h
after_all ((false, code) ∷ more) after h = absurd cc

pub before_all : {C : Type 0} (conditions : List (Bool × C)) (after : Option C) (code : C) → first_false conditions None ≡ Some code
    → first_false conditions after ≡ Some code
before_all [] after code h = absurd cc
before_all ((true, c) ∷ more) after code h = before_all more after code h
before_all ((false, c) ∷ more) after code h = h

-- what a job needs over a tip
abbrev tip_conditions : Granted → TipData → CustomData → List (Bool × CustomError)
tip_conditions g tip offer =
    (not (is_other_tip tip offer), custom_error.StaleTip)
    ∷ (nat_le tip.header_timestamp offer.min_ntime, custom_error.EarlyTime tip.header_timestamp)
    ∷ (not (is_bad_path g offer.merkle_path), custom_error.BadPath (length offer.merkle_path))
    ∷ []

-- a job's refusal, where it isn't a lack of memory
pub coinbase_refused : (error : OutputsError) (told : Result (Parts × ℕ) OutputsError) → error ≢ outputs_error.Memory → RefusesOutputs error told
    → outputs_refusal told ≡ Some (custom_error.Coinbase error)
coinbase_refused outputs_error.Memory told not is = absurd (not refl)
coinbase_refused (outputs_error.ScriptTooLong n) told not is = ap outputs_refusal is
coinbase_refused (outputs_error.TooLong n) told not is = ap outputs_refusal is
coinbase_refused (outputs_error.BadOutputs at) told not is = ap outputs_refusal is
coinbase_refused outputs_error.NoOutputs told not is = ap outputs_refusal is
coinbase_refused (outputs_error.ForeignOutput index) told not is = ap outputs_refusal is
coinbase_refused (outputs_error.RewardTooLarge sum) told not is = ap outputs_refusal is

pub coinbase_made : (told : Result (Parts × ℕ) OutputsError) → IsOk told → outputs_refusal told ≡ None
coinbase_made (Ok parts) is = refl
coinbase_made (Err error) is = absurd cc

module _ (grants : GrantTable) (past : List Event) (shown : ShowsGrants grants past) (script : List ℕ)
    (tip : Option TipData) (same_tip : tip ≡ (jobs_of past).tip) where
  -- the grant that a channel's account has still to spend
  spent-or : (spent : Bool) (account : List ℕ) (g : Option Granted) → granted_to account (cond spent None g) ≡ cond spent None (granted_to account g)
  spent-or true account g = refl
  spent-or false account g = refl

  unspent_same : (token : List ℕ) (c : OpenChannel) (account : List ℕ) → account ≡ c.account
      → unspent_in grants token account ≡ unspent past token c
  unspent_same token c account paid =
      ap (granted_to account) (shown.held_are token)
      ∙ spent-or (is_spent past token) account (grant_of past token)
      ∙ ap (λ a. cond (is_spent past token) None (granted_to a (grant_of past token))) paid

  -- what is refused before the coinbase is refused, and what isn't has its coinbase looked at
  tip-none : (g : Granted) (seen : Option TipData) (offer : CustomData) → tip_refusal g seen offer ≡ None
      → over_tip script g offer seen ≡ outputs_refusal (custom_assembly (custom_terms offer) script)
  tip-none g None offer h = absurd cc
  tip-none g (Some tip) offer h = after_all (tip_conditions g tip offer) (outputs_refusal (custom_assembly (custom_terms offer) script)) h

  tip-some : (g : Granted) (seen : Option TipData) (offer : CustomData) (error : CustomError) → tip_refusal g seen offer ≡ Some error
      → over_tip script g offer seen ≡ Some error
  tip-some g None offer error h = h
  tip-some g (Some tip) offer error h = before_all (tip_conditions g tip offer) (outputs_refusal (custom_assembly (custom_terms offer) script)) error h

  token-none : (offer : CustomData) (o : Option Granted) → token_refusal o (jobs_of past).tip offer ≡ None
      → with_token script past offer o ≡ outputs_refusal (custom_assembly (custom_terms offer) script)
  token-none offer None h = absurd cc
  token-none offer (Some g) h = tip-none g (jobs_of past).tip offer h

  token-some : (offer : CustomData) (o : Option Granted) (error : CustomError) → token_refusal o (jobs_of past).tip offer ≡ Some error
      → with_token script past offer o ≡ Some error
  token-some offer None error h = h
  token-some offer (Some g) error h = tip-some g (jobs_of past).tip offer error h

  extended-none : (offer : CustomData) (b : Bool) (r s : Option CustomError) (after : Option CustomError) → (r ≡ None → s ≡ after)
      → cond b r (Some custom_error.NotOpen) ≡ None → cond b s (Some custom_error.NotOpen) ≡ after
  extended-none offer true r s after f h = f h
  extended-none offer false r s after f h = absurd cc

  extended-some : (b : Bool) (r s : Option CustomError) (error : CustomError) → (r ≡ Some error → s ≡ Some error)
      → cond b r (Some custom_error.NotOpen) ≡ Some error → cond b s (Some custom_error.NotOpen) ≡ Some error
  extended-some true r s error f h = f h
  extended-some false r s error f h = h

  by_kept : (offer : CustomData) (c : OpenChannel) (k : Channel) → kept_of k ≡ kept_channel c
      → refusal_before_coinbase (Some k) grants tip offer
      ≡ cond (is_extended c.kind) (token_refusal (unspent past offer.token c) (jobs_of past).tip offer) (Some custom_error.NotOpen)
  by_kept offer c k same =
      ap (λ kind. cond (is_extended kind) (token_refusal (unspent_in grants offer.token k.account) tip offer) (Some custom_error.NotOpen))
      (ap (λ (x : KeptChannel). x.kind) same)
      ∙ ap (λ g. cond (is_extended c.kind) (token_refusal g tip offer) (Some custom_error.NotOpen))
      (unspent_same offer.token c k.account (ap (λ (x : KeptChannel). x.account) same))
      ∙ ap (λ t. cond (is_extended c.kind) (token_refusal (unspent past offer.token c) t offer) (Some custom_error.NotOpen)) same_tip

  pub channel-none : (offer : CustomData) (o : Option OpenChannel) (k : Option Channel) → option_map kept_of k ≡ option_map kept_channel o
      → refusal_before_coinbase k grants tip offer ≡ None
      → on_channel script past offer o ≡ outputs_refusal (custom_assembly (custom_terms offer) script)
  channel-none offer None None same h = absurd cc
  channel-none offer None (Some k) same h = absurd cc
  channel-none offer (Some c) None same h = absurd cc
  channel-none offer (Some c) (Some k) same h =
      extended-none offer (is_extended c.kind) _ _ _ (token-none offer (unspent past offer.token c)) (sym (by_kept offer c k kept) ∙ h) where
        kept : kept_of k ≡ kept_channel c
        kept = cc

  pub channel-some : (offer : CustomData) (o : Option OpenChannel) (k : Option Channel) (error : CustomError) → option_map kept_of k ≡ option_map kept_channel o
      → refusal_before_coinbase k grants tip offer ≡ Some error
      → on_channel script past offer o ≡ Some error
  channel-some offer None None error same h = h
  channel-some offer None (Some k) error same h = absurd cc
  channel-some offer (Some c) None error same h = absurd cc
  channel-some offer (Some c) (Some k) error same h =
      extended-some (is_extended c.kind) _ _ error (token-some offer (unspent past offer.token c) error) (sym (by_kept offer c k kept) ∙ h) where
        kept : kept_of k ≡ kept_channel c
        kept = cc
