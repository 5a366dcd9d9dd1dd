-- What an answer on a legal history says is in the ranges that its types keep, where these are
-- narrower than a number (Stratum V2, "Data Types Mapping"; the limits of classes, sessions and
-- scripts are this project's own).
use Rattle.std.specs.Prelude.{◌≤◌, ◌<◌, ◌^◌, ℕ, List, length, ◌≡◌, Bool, true, false}
use Rattle.coinbase.specs.declared.error.AssemblyError.{AssemblyError}
use Rattle.coinbase.specs.declared.error.AssemblyError.TheVariants as assembly
use Rattle.coinbase.specs.declared.error.OutputsError.{OutputsError}
use Rattle.coinbase.specs.declared.error.OutputsError.TheVariants as outputs
use Rattle.pool_history.specs.declared.refusals.CustomError.{CustomError}
use Rattle.pool_history.specs.declared.refusals.CustomError.TheVariants as custom
use Rattle.pool_history.specs.declared.refusals.JobError.{JobError}
use Rattle.pool_history.specs.declared.refusals.JobError.TheVariants as job
use Rattle.pool_history.specs.declared.refusals.NameError.{NameError}
use Rattle.pool_history.specs.declared.refusals.NameError.TheVariants as name
use Rattle.pool_history.specs.declared.refusals.OpenError.{OpenError}
use Rattle.pool_history.specs.declared.refusals.OpenError.TheVariants as open_error
use Rattle.std.specs.List.{AllByRecursion}
use Rattle.pool_history.specs.declared.asking.Request.{Request}
use Rattle.pool_history.specs.declared.events.Event.{Event}
use Rattle.pool_history.specs.declared.replies.Opened.{Opened}
use Rattle.pool_history.specs.declared.replies.Reply.{Reply}
use Rattle.pool_history.specs.declared.replies.Reply.TheVariants as reply
use Rattle.pool_history.specs.Answering.{Answer}
use Rattle.pool_history.specs.Headers.{IsBriefing}
use Rattle.pool_history.specs.Legal.{Legal}
use Rattle.pool_history.specs.Telling.{NoteFits}

-- a class that has a target, and a lead of one to four bytes
pub record OpenedFits (opened : Opened) : Type 0 where
  pub class : opened.class ≤ 60
  pub some : 1 ≤ length opened.lead
  pub most : length opened.lead ≤ 4

-- a script of 1 to 100 bytes
pub record ScriptFits (script : List ℕ) : Type 0 where
  pub some : 1 ≤ length script
  pub short : length script ≤ 100

-- the refusals that are for lack of memory
abbrev pub assembly_wants_memory : AssemblyError → Bool
assembly_wants_memory (assembly.ScriptTooLong length) = false
assembly_wants_memory (assembly.BadOutputs at) = false
assembly_wants_memory (assembly.CountDiffers said found) = false
assembly_wants_memory (assembly.RewardTooLarge reward) = false
assembly_wants_memory (assembly.TooLong length) = false
assembly_wants_memory assembly.Memory = true

abbrev pub outputs_want_memory : OutputsError → Bool
outputs_want_memory (outputs.ScriptTooLong length) = false
outputs_want_memory (outputs.TooLong length) = false
outputs_want_memory (outputs.BadOutputs at) = false
outputs_want_memory outputs.NoOutputs = false
outputs_want_memory (outputs.ForeignOutput index) = false
outputs_want_memory (outputs.RewardTooLarge reward) = false
outputs_want_memory outputs.Memory = true

abbrev pub job_wants_memory : JobError → Bool
job_wants_memory (job.TooMany count) = false
job_wants_memory (job.TemplateKnown template) = false
job_wants_memory job.NoTip = false
job_wants_memory (job.UnknownTemplate template) = false
job_wants_memory (job.Coinbase error) = assembly_wants_memory error
job_wants_memory job.Memory = true

abbrev pub open_wants_memory : OpenError → Bool
open_wants_memory open_error.UnknownUser = false
open_wants_memory (open_error.TargetOutOfRange class) = false
open_wants_memory (open_error.SizeTooLarge size) = false
open_wants_memory (open_error.TooManyChannels held opened) = false
open_wants_memory open_error.NoSpace = false
open_wants_memory open_error.Memory = true

abbrev pub name_wants_memory : NameError → Bool
name_wants_memory name.NotOpen = false
name_wants_memory name.UnknownUser = false
name_wants_memory name.OtherAccount = false
name_wants_memory name.Memory = true

abbrev pub custom_wants_memory : CustomError → Bool
custom_wants_memory custom.NotOpen = false
custom_wants_memory custom.BadToken = false
custom_wants_memory custom.StaleTip = false
custom_wants_memory (custom.EarlyTime least) = false
custom_wants_memory (custom.BadPath entries) = false
custom_wants_memory (custom.Coinbase error) = outputs_want_memory error

-- what a reply says is of the types that keep it, and no refusal is a lack of memory
abbrev pub ReplyFits : Reply → Type 0
ReplyFits (reply.Entered session) = session < 2 ^ 22
ReplyFits (reply.PoolFull most) = Unit {0}
ReplyFits reply.NoSession = Unit {0}
ReplyFits reply.Left = Unit {0}
ReplyFits (reply.Job number) = Unit {0}
ReplyFits (reply.TemplateRefused error) = job_wants_memory error ≡ false
ReplyFits (reply.Opened opened) = OpenedFits opened
ReplyFits (reply.OpenRefused error) = open_wants_memory error ≡ false
ReplyFits reply.Named = Unit {0}
ReplyFits (reply.NameRefused error) = name_wants_memory error ≡ false
ReplyFits (reply.Target channel class) = class ≤ 60
ReplyFits (reply.UpdateRefused error) = Unit {0}
ReplyFits reply.Closed = Unit {0}
ReplyFits reply.NotOpen = Unit {0}
ReplyFits (reply.Brief brief) = IsBriefing brief.kind brief.lead
ReplyFits (reply.Credited work) = Unit {0}
ReplyFits (reply.Refused code) = Unit {0}
ReplyFits (reply.News until notes) = AllByRecursion NoteFits notes
ReplyFits (reply.Granted number script) = ScriptFits script
ReplyFits (reply.GrantRefused error) = Unit {0}
ReplyFits (reply.CustomJob number) = Unit {0}
ReplyFits (reply.CustomRefused error) = custom_wants_memory error ≡ false

-- so it is of each answer on a legal history
abbrev pub AnswersFit : Type 0
AnswersFit =
    (history : List Event) (worker : ℕ) (asked : Request) (events : List Event) (answer : Reply)
    → Legal history → Answer history worker asked events answer
    → ReplyFits answer
