-- The judging of a share by the rules of a history (this project's own).
use Rattle.std.specs.Prelude.{◌≡◌, ℕ, Bool, Option, None, Some, Ok, List}
use Rattle.pool_history.specs.declared.events.Event.{Event}
use Rattle.pool_history.specs.declared.refusals.Failed.{Failed}
use Rattle.pool_history.specs.declared.settings.Rules.{Rules}
use Rattle.pool_history.specs.Channels.{OpenChannel}
use Rattle.pool_history.specs.Crediting.{admitted_work, first_failed, reward_of}
use Rattle.pool_history.specs.Crediting as crediting
use Rattle.pool_history.specs.Judging.{Admitted, Share, admission, rebuilt_header}
use Rattle.pool_history.specs.Sessions.{rules_of}

-- the first condition that fails; without a Start there is none
abbrev pub failed_within : Option Rules → List Event → ℕ → Share → Option Failed
failed_within None past session share = None
failed_within (Some rules) past session share = first_failed rules past session share

-- a share passes: none of the nine conditions fails, and this is booked of it
pub record Passes (rules : Rules) (past : List Event) (session : ℕ) (share : Share)
    (header : List ℕ) (is_block : Bool) (work reward : ℕ) : Type 0 where
  pub with : Admitted
  pub admitted : admission rules past session share ≡ Ok with
  pub none : first_failed rules past session share ≡ None
  pub header_is : header ≡ rebuilt_header rules.pool_script with share
  pub block_is : is_block ≡ crediting.is_block rules.pool_script with share
  pub work_is : work ≡ admitted_work with
  pub reward_is : reward ≡ reward_of with.job.source

-- it passes by the rules of the history
pub record IsPassed (past : List Event) (session : ℕ) (share : Share) (header : List ℕ)
    (is_block : Bool) (work reward : ℕ) : Type 0 where
  pub rules : Rules
  pub are : rules_of past ≡ Some rules
  pub passes : Passes rules past session share header is_block work reward

-- a channel is there
pub record HasChannel (there : Option OpenChannel) : Type 0 where
  pub channel : OpenChannel
  pub is : there ≡ Some channel
