-- What a session is told of events (Stratum V2, "NewExtendedMiningJob", "NewMiningJob",
-- "SetNewPrevHash" and "SubmitSolution"; when it is owed is this project's own).
-- Computed on openings, templates and tips to channels and groups (`NewsRows`), and on blocks
-- (`RecordRows`, `WorkedSession` of `ledger_laws`).
use Rattle.std.specs.Prelude.{ℕ, ◌+◌, ◌==◌, ◌&&◌, Bool, true, false, if◌then◌else◌, Option, None, Some, List, [], ◌∷◌, ◌++◌, length, map, nat_le}
use Rattle.std.specs.Int.{bit_at}
use Rattle.std.specs.List.{flat_map, list_any}
use Rattle.block_header.specs.Hash.{dsha}
use Rattle.block_header.specs.Root.{root}
use Rattle.coinbase.specs.Parts.{coin, whole}
use Rattle.pool_history.specs.declared.events.Event.{Event}
use Rattle.pool_history.specs.declared.events.Event.TheVariants as event
use Rattle.pool_history.specs.declared.settings.Rules.{Rules}
use Rattle.pool_history.specs.declared.telling.Note.{Note}
use Rattle.pool_history.specs.declared.telling.Note.TheVariants as note
use Rattle.pool_history.specs.declared.templates.TipData.{TipData}
use Rattle.pool_history.specs.Channels.{OpenChannel, channel_in, channels_in, channels_of, group_id}
use Rattle.pool_history.specs.Crediting.{booked_with, credit_share, is_block, found_list}
use Rattle.pool_history.specs.Headers.{extranonce_prefix}
use Rattle.pool_history.specs.Jobs.{Source, FromTemplate, FromMiner, Job, Standing, jobs_of, last_of, newest}
use Rattle.pool_history.specs.Judging.{Admitted, Share, is_standard, job_parts, path_of, version_of}
use Rattle.pool_history.specs.Sessions.{flags_of, opens, rules_of}

-- whom a message is for: a channel that rolls, a standard one, or the group of a session
pub data Audience : Type 0 where
  Rolling : (channel : ℕ) → Audience
  Single : (channel : OpenChannel) → Audience
  Group : (group : ℕ) → Audience

-- the id that a message is sent on
abbrev pub id_of : Audience → ℕ
id_of (Rolling channel) = channel
id_of (Single channel) = channel.id
id_of (Group group) = group

-- a channel is told by itself
abbrev pub alone : OpenChannel → Audience
alone channel = if is_standard channel.kind then Single channel else Rolling channel.id

-- the standard channels are told as a group
abbrev pub without_single : OpenChannel → List Audience
without_single channel = if is_standard channel.kind then [] else Rolling channel.id ∷ []

-- a session's channels by their ids: standard jobs are told one by one where the setup requires
-- them (Stratum V2, REQUIRES_STANDARD_JOBS), and else to the group, after the others
abbrev pub audience_of : ℕ → Bool → List OpenChannel → List Audience
audience_of session true channels = map alone channels
audience_of session false channels =
    flat_map without_single channels
    ++ (if list_any (λ channel. is_standard channel.kind) channels
    then Group (group_id session) ∷ [] else [])

-- the audience in a session
abbrev pub audience : List Event → ℕ → List Audience
audience past session =
    audience_of session (bit_at (flags_of past session) 0 == 1)
    (channels_in (channels_of past) session)

-- the root of a standard channel's job: its prefix is the whole extranonce
abbrev pub root_for : List ℕ → OpenChannel → Job → List ℕ
root_for script channel job =
    root (dsha (coin (job_parts job.source script) (extranonce_prefix channel.kind channel.lead)))
    (path_of job.source)

-- a job as it is told, with a least time where it is live
abbrev pub job_note : Rules → Option ℕ → Job → Audience → Note
job_note rules min_ntime job (Single channel) =
    note.Standard channel.id job.number min_ntime (version_of job.source)
    (root_for rules.pool_script channel job)
job_note rules min_ntime job (Rolling channel) =
    note.Extended channel job.number min_ntime (version_of job.source) rules.version_rolling
    (path_of job.source)
    (job_parts job.source rules.pool_script).prefix (job_parts job.source rules.pool_script).suffix
job_note rules min_ntime job (Group group) =
    note.Extended group job.number min_ntime (version_of job.source) rules.version_rolling
    (path_of job.source)
    (job_parts job.source rules.pool_script).prefix (job_parts job.source rules.pool_script).suffix

-- a tip as it is told, with the job that it made live
abbrev pub tip_note : TipData → Job → Audience → Note
tip_note tip job to =
    note.PrevHash (id_of to) job.number tip.prev_hash tip.header_timestamp tip.nbits

-- the newest live job and the tip, for a channel that was opened
abbrev pub present_notes : Rules → Option Job → Option TipData → Audience → List Note
present_notes rules (Some job) (Some tip) to = job_note rules None job to ∷ tip_note tip job to ∷ []
present_notes rules job tip to = []

-- its own opening: the newest live job with the tip, then each future job
abbrev pub opening_notes : Rules → Standing → Option OpenChannel → List Note
opening_notes rules standing None = []
opening_notes rules standing (Some channel) =
    present_notes rules (newest standing) standing.tip (alone channel)
    ++ map (λ job. job_note rules None job (alone channel)) standing.future

-- the least time of a job that is live: the tip's
abbrev pub live_ntime : Bool → Option TipData → Option ℕ
live_ntime true tip = None
live_ntime false None = None
live_ntime false (Some tip) = Some tip.header_timestamp

-- a job, for each channel
abbrev pub told_of : Rules → Option ℕ → List Audience → Option Job → List Note
told_of rules min_ntime to None = []
told_of rules min_ntime to (Some job) = map (job_note rules min_ntime job) to

-- a tip and the job that it made live, for each channel
abbrev pub tip_notes : TipData → List Audience → Option Job → List Note
tip_notes tip to None = []
tip_notes tip to (Some job) = map (tip_note tip job) to

-- a block's solution: the whole coinbase, and the header's fields
abbrev pub solution : List ℕ → ℕ → Share → Admitted → Note
solution script template share with =
    note.Solution template share.version share.ntime share.nonce
    (whole (job_parts with.job.source script)
    (extranonce_prefix with.channel.kind with.channel.lead ++ share.extranonce))

-- a credit owes it where it is a block of a template's job, to the session that sent the template
abbrev pub solution_by : List ℕ → ℕ → Share → Admitted → Source → List Note
solution_by script session share with (FromTemplate template) =
    if with.job.session == session && is_block script with share
    then solution script template.template_id share with ∷ [] else []
solution_by script session share with (FromMiner custom) = []

abbrev pub solution_notes : List ℕ → ℕ → Share → Admitted → List Note
solution_notes script session share with = solution_by script session share with with.job.source

-- what a session is owed for an event, by the events before it and the event
abbrev pub owed_notes_by : Rules → Event → List Event → ℕ → List Note
owed_notes_by rules (event.Open opening kind account class lead) older session =
    if opening == session
    then opening_notes rules (jobs_of older)
    (channel_in (channels_of (event.Open opening kind account class lead ∷ older))
    (opens older + 1))
    else []
owed_notes_by rules (event.Template feed template) older session =
    told_of rules (live_ntime template.future_template (jobs_of older).tip) (audience older session)
    (last_of (jobs_of (event.Template feed template ∷ older)).all)
owed_notes_by rules (event.Tip feed tip) older session =
    tip_notes tip (audience older session) (newest (jobs_of (event.Tip feed tip ∷ older)))
owed_notes_by rules (event.Credit crediting channel job nonce ntime version extranonce) older session =
    flat_map (λ notes. notes)
    (found_list (λ with. solution_notes rules.pool_script session
    (credit_share with channel job nonce ntime version extranonce) with)
    (booked_with older channel job))
owed_notes_by rules (event.Start other) older session = []
owed_notes_by rules (event.Enter worker role flags) older session = []
owed_notes_by rules (event.Name naming channel account) older session = []
owed_notes_by rules (event.Class setting channel class) older session = []
owed_notes_by rules (event.Close closing channel) older session = []
owed_notes_by rules (event.Leave leaving) older session = []
owed_notes_by rules (event.Grant asking account fixed path) older session = []
owed_notes_by rules (event.Custom bringing custom) older session = []

-- the same by the rules of the history
abbrev pub owed_notes : Option Rules → Event → List Event → ℕ → List Note
owed_notes None event older session = []
owed_notes (Some rules) event older session = owed_notes_by rules event older session

-- the news of a session since a place, event by event
abbrev pub news : ℕ → List Event → ℕ → List Note
news from [] session = []
news from (event ∷ older) session =
    if nat_le from (length older)
    then news from older session ++ owed_notes (rules_of (event ∷ older)) event older session else []
