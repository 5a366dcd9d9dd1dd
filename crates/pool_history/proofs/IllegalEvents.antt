-- One illegal event for each cause that no hash decides.
use Rattle.std.proofs.Common.{◌≡◌, ℕ, true, false, Some, List, [], ◌∷◌, refl, zero, suc}
use Rattle.std.specs.Prelude.{replicate}
use Rattle.pool_history.specs.declared.causes.Cause.TheVariants as cause
use Rattle.pool_history.specs.declared.events.Event.{Event}
use Rattle.pool_history.specs.declared.events.Event.TheVariants as event
use Rattle.pool_history.specs.declared.events.Kind.TheVariants as kind
use Rattle.pool_history.specs.declared.events.Role.TheVariants as role
use Rattle.pool_history.specs.declared.refusals.Failed.TheVariants as failed
use Rattle.pool_history.specs.Legal.{cause_of}
use Rattle.pool_history.specs.Spaces.{first_free}
use Rattle.pool_history.proofs.Given.{rules, template_of, tip_of, start, enters, opens, comes, tips, credits, leaves, opened, templated, tipped}

-- a miner's and a feed's session
abbrev pub mining : List Event
mining = event.Enter 0 role.Miner 0 ∷ start ∷ []

abbrev pub feeding : List Event
feeding = event.Enter 0 role.Feed 0 ∷ start ∷ []

-- so many channels of one session
abbrev pub with_channels : ℕ → List Event
with_channels zero = mining
with_channels (suc n) = event.Open 0 kind.Extended (0x61 ∷ []) 0 (replicate 4 0) ∷ with_channels n

-- a credit with other fields
abbrev pub crediting : ℕ → ℕ → ℕ → ℕ → List ℕ → Event
crediting channel job ntime version extranonce = event.Credit 0 channel job 0 ntime version extranonce

pub cause_of-start_twice : cause_of (start ∷ []) (start) ≡ Some cause.BadStart
cause_of-start_twice = refl

pub cause_of-no_start : cause_of ([]) (enters) ≡ Some cause.BadStart
cause_of-no_start = refl

pub cause_of-fee_over_all : cause_of ([]) (event.Start (record rules { fee = 10001 })) ≡ Some cause.BadStart
cause_of-fee_over_all = refl

pub cause_of-window_of_none : cause_of ([]) (event.Start (record rules { window = Some 0 })) ≡ Some cause.BadStart
cause_of-window_of_none = refl

pub cause_of-user_twice : cause_of ([]) (event.Start (record rules { users = (0x61 ∷ []) ∷ (0x61 ∷ []) ∷ [] })) ≡ Some cause.BadStart
cause_of-user_twice = refl

pub cause_of-flag_8 : cause_of (start ∷ []) (event.Enter 0 role.Miner 8) ≡ Some cause.BadFlags
cause_of-flag_8 = refl

pub cause_of-rolling_not_allowed : cause_of (event.Start (record rules { version_rolling = false }) ∷ []) (event.Enter 0 role.Miner 4) ≡ Some cause.BadFlags
cause_of-rolling_not_allowed = refl

pub cause_of-never_entered : cause_of (start ∷ []) (leaves) ≡ Some cause.NoSession
cause_of-never_entered = refl

pub cause_of-left_before : cause_of (leaves ∷ mining) (leaves) ≡ Some cause.NoSession
cause_of-left_before = refl

pub cause_of-entered_again : cause_of (event.Enter 0 role.Miner 0 ∷ mining) (leaves) ≡ Some cause.NoSession
cause_of-entered_again = refl

pub cause_of-template_of_a_miner : cause_of (mining) (comes) ≡ Some cause.BadRole
cause_of-template_of_a_miner = refl

pub cause_of-tip_of_a_miner : cause_of (mining) (tips) ≡ Some cause.BadRole
cause_of-tip_of_a_miner = refl

pub cause_of-opening_of_a_feed : cause_of (feeding) (opens) ≡ Some cause.BadRole
cause_of-opening_of_a_feed = refl

pub cause_of-grant_without_flag : cause_of (mining) (event.Grant 0 (0x61 ∷ []) false []) ≡ Some cause.BadRole
cause_of-grant_without_flag = refl

pub cause_of-template_again : cause_of (templated) (comes) ≡ Some cause.BadTemplate
cause_of-template_again = refl

pub cause_of-live_before_a_tip : cause_of (feeding) (event.Template 0 (template_of 5 false)) ≡ Some cause.BadTemplate
cause_of-live_before_a_tip = refl

pub cause_of-no_template : cause_of (feeding) (tips) ≡ Some cause.BadTip
cause_of-no_template = refl

pub cause_of-tip_again : cause_of (tipped) (tips) ≡ Some cause.BadTip
cause_of-tip_again = refl

pub cause_of-account_with_blank : cause_of (mining) (event.Open 0 kind.Extended (0x61 ∷ 0x20 ∷ []) 0 (replicate 4 0)) ≡ Some cause.UnknownUser
cause_of-account_with_blank = refl

pub cause_of-account_of_v1 : cause_of (mining) (event.Open 0 kind.V1 (0x61 ∷ []) 0 (replicate 4 0)) ≡ Some cause.UnknownUser
cause_of-account_of_v1 = refl

pub cause_of-account_not_listed : cause_of (event.Enter 0 role.Miner 0 ∷ event.Start (record rules { users = (0x62 ∷ []) ∷ [] }) ∷ []) (opens) ≡ Some cause.UnknownUser
cause_of-account_not_listed = refl

pub cause_of-class_61 : cause_of (mining) (event.Open 0 kind.Extended (0x61 ∷ []) 61 (replicate 4 0)) ≡ Some cause.BadClass
cause_of-class_61 = refl

pub cause_of-class_below_least : cause_of (event.Enter 0 role.Miner 0 ∷ event.Start (record rules { least_class = 8 }) ∷ []) (opens) ≡ Some cause.BadClass
cause_of-class_below_least = refl

pub cause_of-channel_1025 : cause_of (with_channels 1024) (opens) ≡ Some cause.TooManyChannels
cause_of-channel_1025 = refl

pub cause_of-lead_not_lowest : cause_of (mining) (event.Open 0 kind.Extended (0x61 ∷ []) 0 (1 ∷ 0 ∷ 0 ∷ 0 ∷ [])) ≡ Some cause.BadLead
unfolding first_free
cause_of-lead_not_lowest = refl

pub cause_of-lead_too_short : cause_of (mining) (event.Open 0 kind.Standard (0x61 ∷ []) 0 (0 ∷ [])) ≡ Some cause.BadLead
cause_of-lead_too_short = refl

pub cause_of-lead_held : cause_of (opened) (opens) ≡ Some cause.BadLead
unfolding first_free
cause_of-lead_held = refl

pub cause_of-lead_inside_held : cause_of (opened) (event.Open 0 kind.Extended (0x61 ∷ []) 0 (0 ∷ [])) ≡ Some cause.BadLead
unfolding first_free
cause_of-lead_inside_held = refl

pub cause_of-name_of_extended : cause_of (opened) (event.Name 0 1 (0x61 ∷ [])) ≡ Some cause.BadName
cause_of-name_of_extended = refl

pub cause_of-name_twice : cause_of (event.Name 0 1 (0x61 ∷ []) ∷ event.Open 0 kind.V1 [] 0 (replicate 4 0) ∷ mining) (event.Name 0 1 (0x62 ∷ [])) ≡ Some cause.BadName
cause_of-name_twice = refl

pub cause_of-class_as_before : cause_of (opened) (event.Class 0 1 0) ≡ Some cause.BadClass
cause_of-class_as_before = refl

pub cause_of-class_of_no_channel : cause_of (opened) (event.Class 0 2 1) ≡ Some cause.BadClass
cause_of-class_of_no_channel = refl

pub cause_of-close_no_channel : cause_of (opened) (event.Close 0 2) ≡ Some cause.NotOpen
cause_of-close_no_channel = refl

pub cause_of-close_twice : cause_of (event.Close 0 1 ∷ opened) (event.Close 0 1) ≡ Some cause.NotOpen
cause_of-close_twice = refl

pub cause_of-share_of_no_channel : cause_of (tipped) (crediting 2 1 1000000 0x20000000 (replicate 8 0)) ≡ Some (cause.Share failed.Channel)
cause_of-share_of_no_channel = refl

pub cause_of-share_with_7_bytes : cause_of (tipped) (crediting 1 1 1000000 0x20000000 (replicate 7 0)) ≡ Some (cause.Share failed.ExtranonceSize)
cause_of-share_with_7_bytes = refl

pub cause_of-share_of_no_job : cause_of (tipped) (crediting 1 2 1000000 0x20000000 (replicate 8 0)) ≡ Some (cause.Share failed.Job)
cause_of-share_of_no_job = refl

pub cause_of-share_of_future_job : cause_of (templated) (credits) ≡ Some (cause.Share failed.Job)
cause_of-share_of_future_job = refl

pub cause_of-share_of_stale_job : cause_of (event.Tip 0 (tip_of 6 0x22) ∷ event.Template 0 (template_of 6 true) ∷ tipped) (credits) ≡ Some (cause.Share failed.Stale)
cause_of-share_of_stale_job = refl

pub cause_of-share_of_other_version : cause_of (tipped) (crediting 1 1 1000000 0x20000001 (replicate 8 0)) ≡ Some (cause.Share failed.Version)
cause_of-share_of_other_version = refl

pub cause_of-share_too_early : cause_of (tipped) (crediting 1 1 999999 0x20000000 (replicate 8 0)) ≡ Some (cause.Share failed.Ntime)
cause_of-share_too_early = refl
