-- Worked answers: accounts, classes, closing, briefs and polls.
use Rattle.std.proofs.Common.{true, ◌≡◌, ◌++◌, List, [], ◌∷◌, refl, lit≤}
use Rattle.std.specs.Prelude.{replicate}
use Rattle.block_header.specs.Target.{first_class}
use Rattle.coinbase.specs.Compact.{compact}
use Rattle.pool_history.specs.declared.asking.Request.TheVariants as request
use Rattle.pool_history.specs.declared.events.Event.{Event}
use Rattle.pool_history.specs.declared.events.Event.TheVariants as event
use Rattle.pool_history.specs.declared.events.Kind.TheVariants as kind
use Rattle.pool_history.specs.declared.events.Role.TheVariants as role
use Rattle.pool_history.specs.declared.refusals.Failed.TheVariants as failed
use Rattle.pool_history.specs.declared.refusals.JobError.TheVariants as job
use Rattle.pool_history.specs.declared.refusals.NameError.TheVariants as name
use Rattle.pool_history.specs.declared.refusals.UpdateError.TheVariants as update
use Rattle.pool_history.specs.declared.replies.Reply.TheVariants as reply
use Rattle.pool_history.specs.declared.shares.Submission.{Submission}
use Rattle.pool_history.specs.Answering.{with_event, step, without_event}
use Rattle.pool_history.proofs.Given.{leaves, rules, start, enters, template_of, tip_of, opened, templated, tipped}

-- a V1 channel, which has no account yet
abbrev pub v1_opened : List Event
v1_opened = event.Open 0 kind.V1 [] 0 (replicate 4 0) ∷ enters ∷ start ∷ []

-- it gets the account of its user, without what stands behind the point, once
pub step-name : step v1_opened 0 (request.Name 1 (0x61 ∷ 0x2e ∷ 0x72 ∷ [])) ≡ with_event (event.Name 0 1 (0x61 ∷ [])) reply.Named
step-name = refl

pub step-name_again : step (event.Name 0 1 (0x61 ∷ []) ∷ v1_opened) 0 (request.Name 1 (0x61 ∷ [])) ≡ without_event reply.Named
step-name_again = refl

pub step-name_other : step (event.Name 0 1 (0x61 ∷ []) ∷ v1_opened) 0 (request.Name 1 (0x62 ∷ [])) ≡ without_event (reply.NameRefused name.OtherAccount)
step-name_other = refl

pub step-name_unknown : step v1_opened 0 (request.Name 1 (0x20 ∷ [])) ≡ without_event (reply.NameRefused name.UnknownUser)
step-name_unknown = refl

pub step-name_no_channel : step v1_opened 0 (request.Name 2 (0x61 ∷ [])) ≡ without_event (reply.NameRefused name.NotOpen)
step-name_no_channel = refl

-- a class that is another, one that is as before, one that is raised to the least, and one that is out of range
pub step-update : step opened 0 (request.Update 1 (replicate 24 0xff ++ 0x0f ∷ replicate 7 0)) ≡ with_event (event.Class 0 1 60) (reply.Target 1 60)
unfolding first_class
step-update = refl

pub step-update_same : step opened 0 (request.Update 1 (replicate 32 0xff)) ≡ without_event (reply.Target 1 0)
unfolding first_class
step-update_same = refl

pub step-update_raised : step (event.Open 0 kind.Extended (0x61 ∷ []) 9 (replicate 4 0) ∷ enters ∷ event.Start (record rules { least_class = 8 }) ∷ []) 0 (request.Update 1 (replicate 32 0xff))
    ≡ with_event (event.Class 0 1 8) (reply.Target 1 8)
unfolding first_class
step-update_raised = refl

pub step-update_out_of_range : step opened 0 (request.Update 1 (replicate 24 0xff ++ 7 ∷ replicate 7 0)) ≡ without_event (reply.UpdateRefused (update.TargetOutOfRange 61))
unfolding first_class
step-update_out_of_range = refl

pub step-update_no_channel : step opened 0 (request.Update 2 (replicate 32 0xff)) ≡ without_event (reply.UpdateRefused update.NotOpen)
step-update_no_channel = refl

-- a channel is closed once
pub step-close : step opened 0 (request.Close 1) ≡ with_event (event.Close 0 1) reply.Closed
step-close = refl

pub step-close_again : step (event.Close 0 1 ∷ opened) 0 (request.Close 1) ≡ without_event reply.NotOpen
step-close_again = refl

-- templates and tips that are refused
pub step-template_known : step templated 0 (request.Template (template_of 5 true)) ≡ without_event (reply.TemplateRefused (job.TemplateKnown 5))
step-template_known = refl

pub step-tip_unknown : step templated 0 (request.Tip (tip_of 6 0x11)) ≡ without_event (reply.TemplateRefused (job.UnknownTemplate 6))
step-tip_unknown = refl

-- a worker without a session, one that left, a miner that sends a template, a feed that opens none
pub step-no_session : step opened 1 (request.Close 1) ≡ without_event reply.NoSession
step-no_session = refl

pub step-left : step (leaves ∷ opened) 0 (request.Close 1) ≡ without_event reply.NoSession
step-left = refl

pub step-miners_template : step (event.Enter 0 role.Miner 0 ∷ start ∷ []) 0 (request.Template (template_of 5 true)) ≡ without_event reply.NoSession
step-miners_template = refl

pub step-feeds_close : step (event.Enter 0 role.Feed 0 ∷ start ∷ []) 0 (request.Close 1) ≡ without_event reply.NoSession
step-feeds_close = refl

-- a session keeps the flags that the rules allow, and has the number of those before it
pub step-enter_flags : step (enters ∷ start ∷ []) 1 (request.Enter role.Miner 0xffffffff) ≡ with_event (event.Enter 1 role.Miner 7) (reply.Entered 1)
step-enter_flags = refl

-- a share of eight bytes, as it is submitted
abbrev pub submission : Submission
submission = record {
  kind = kind.Extended;
  channel = 1;
  sequence = 9;
  job = 1;
  nonce = 0;
  ntime = 1000000;
  version = 0x20000000;
  extranonce = replicate 32 0;
  extranonce_len = 8;
  extranonce_fits = lit≤ tt;
}

-- what its header is made of: the job's parts, the tip, and the channel's lead; one of the first six conditions refuses it
pub step-brief : step tipped 0 (request.Brief submission) ≡ without_event (reply.Brief (record {
  prefix = (0x02 ∷ 0x00 ∷ 0x00 ∷ 0x00 ∷ 0x01 ∷ []) ++ replicate 32 0x00 ++ (0xff ∷ 0xff ∷ 0xff ∷ 0xff ∷ 0x0e ∷ 0x51 ∷ 0x51 ∷ []);
  suffix = (0xff ∷ 0xff ∷ 0xff ∷ 0xff ∷ 0x01 ∷ 0xe8 ∷ 0x03 ∷ []) ++ replicate 6 0x00 ++ (0x01 ∷ 0x51 ∷ 0x00 ∷ 0x00 ∷ 0x00 ∷ 0x00 ∷ []);
  path = [];
  prev_hash = replicate 32 0x11;
  nbits = 0x207fffff;
  lead = replicate 4 0;
  kind = kind.Extended;
}))
unfolding compact
step-brief = refl

pub step-brief_late : step tipped 0 (request.Brief (record submission { ntime = 1000601 })) ≡ without_event (reply.Refused failed.Ntime)
step-brief_late = refl

pub step-brief_future : step templated 0 (request.Brief submission) ≡ without_event (reply.Refused failed.Job)
step-brief_future = refl

-- what is past the end is no news
pub step-poll_past_the_end : step tipped 0 (request.Poll 99) ≡ without_event (reply.News 5 [])
step-poll_past_the_end = refl
