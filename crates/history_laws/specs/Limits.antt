-- The limits that a legal history keeps (this project's own).
use Rattle.std.specs.Prelude.{◌≡◌, ◌+◌, ◌^◌, ◌<◌, ◌≤◌, ℕ, Some, Ok, List, [], ◌∷◌, ◌++◌, length}
use Rattle.std.specs.List.{IsDistinct}
use Rattle.std.specs.Str.{bytes_eq}
use Rattle.coinbase.specs.Custom.{custom_assembly, total}
use Rattle.coinbase.specs.Outputs.{outputs_of}
use Rattle.coinbase.specs.Parts.{Parts}
use Rattle.coinbase.specs.declared.tx.TxOut.{TxOut}
use Rattle.pool_history.specs.declared.events.Event.{Event}
use Rattle.pool_history.specs.declared.events.Event.TheVariants as event
use Rattle.pool_history.specs.declared.settings.Rules.{Rules}
use Rattle.pool_history.specs.declared.templates.CustomData.{CustomData}
use Rattle.pool_history.specs.Crediting.{reward_of}
use Rattle.pool_history.specs.Jobs.{FromMiner, jobs_of}
use Rattle.pool_history.specs.Judging.{custom_terms}
use Rattle.pool_history.specs.Legal.{Legal}
use Rattle.pool_history.specs.Refusing.{Granted, grant_of, most_channels, most_enters, most_grants, most_opens, most_templates, open_count}
use Rattle.pool_history.specs.Sessions.{credits, enters, grants, opens, past_of, rules_of, templates}

-- how many Custom events there are
abbrev pub customs : List Event → ℕ
customs [] = 0
customs (event.Custom session custom ∷ older) = customs older + 1
customs (event ∷ older) = customs older

-- the counts are within their limits; there are no more jobs of miners' own than tokens, since each
-- spends one, and no other jobs but those of templates
pub record KeepsLimits (history : List Event) : Type 0 where
  pub entered : enters (past_of history) ≤ most_enters
  pub opened : opens (past_of history) ≤ most_opens
  pub came : templates (past_of history) ≤ most_templates
  pub granted : grants (past_of history) ≤ most_grants
  pub brought : customs (past_of history) ≤ grants (past_of history)
  pub per_session : (session : ℕ) → open_count (past_of history) session ≤ most_channels
  pub jobs : length (jobs_of (past_of history)).all
      ≡ templates (past_of history) + customs (past_of history)
  pub credited : (rules : Rules) → rules_of (past_of history) ≡ Some rules
      → credits (past_of history) ≤ rules.credit_limit

-- so they are in each legal history
abbrev pub LegalHistoriesKeepLimits : Type 0
LegalHistoriesKeepLimits = (history : List Event) → Legal history → KeepsLimits history

-- the tokens that Custom events name, the last of which stands first
abbrev pub spent_tokens : List Event → List (List ℕ)
spent_tokens [] = []
spent_tokens (event.Custom session custom ∷ older) = custom.token ∷ spent_tokens older
spent_tokens (event ∷ older) = spent_tokens older

-- no two Custom events name one token, and each names that of an earlier Grant
pub record SpendsTokens (history : List Event) : Type 0 where
  pub once : IsDistinct bytes_eq (spent_tokens (past_of history))
  pub granted : (before after : List Event) (session : ℕ) (custom : CustomData)
      → history ≡ before ++ event.Custom session custom ∷ after
      → (granted : Granted) × (grant_of (past_of before) custom.token ≡ Some granted)

-- so they do in each legal history
abbrev pub JobsSpendTokens : Type 0
JobsSpendTokens = (history : List Event) → Legal history → SpendsTokens history

-- a miner's own job that was accepted: its outputs are read, there is one at least, and its
-- coinbase is put together by the pool's script, to which the reward goes: all that they pay
-- together, which is below 2^40
pub record IsPaidJob (script : List ℕ) (custom : CustomData) : Type 0 where
  pub outputs : List TxOut
  pub read : outputs_of custom.coinbase_tx_outputs ≡ Ok outputs
  pub some : 1 ≤ length outputs
  pub parts : Parts
  pub assembled : custom_assembly (custom_terms custom) script ≡ Ok (parts, total outputs)
  pub reward : reward_of (FromMiner custom) ≡ total outputs
  pub small : total outputs < 2 ^ 40

-- so is each that a legal history brings
abbrev pub OwnJobsAreRead : Type 0
OwnJobsAreRead =
    (before after : List Event) (session : ℕ) (custom : CustomData) (rules : Rules)
    → Legal (before ++ event.Custom session custom ∷ after)
    → rules_of (past_of before) ≡ Some rules → IsPaidJob rules.pool_script custom
