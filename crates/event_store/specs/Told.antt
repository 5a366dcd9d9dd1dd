-- What is told of an event from what is kept (this project's own). That it is what is owed for the
-- event is proved.
use Rattle.std.specs.Prelude.{◌≡◌, ℕ, ◌-◌, ◌==◌, ◌&&◌, Bool, false, not, if◌then◌else◌, Option, None, Some, List, [], ◌∷◌, ◌++◌, drop, filter, map, nat_lt, slice_get, take}
use Rattle.std.specs.Int.{bit_at}
use Rattle.coinbase.specs.Coin.{template_parts}
use Rattle.coinbase.specs.Parts.{whole}
use Rattle.pool_history.specs.declared.events.Event.{Event}
use Rattle.pool_history.specs.declared.events.Event.TheVariants as event
use Rattle.pool_history.specs.declared.events.Kind.TheVariants.{Standard}
use Rattle.pool_history.specs.declared.settings.Rules.{Rules}
use Rattle.pool_history.specs.declared.telling.Note.{Note}
use Rattle.pool_history.specs.declared.telling.Note.TheVariants as note
use Rattle.pool_history.specs.declared.templates.TemplateData.{TemplateData}
use Rattle.pool_history.specs.declared.templates.TipData.{TipData}
use Rattle.pool_history.specs.Channels.{OpenChannel}
use Rattle.pool_history.specs.Headers.{extranonce_prefix}
use Rattle.pool_history.specs.Jobs.{Job, template_job}
use Rattle.pool_history.specs.Judging.{template_terms}
use Rattle.pool_history.specs.News.{Audience, Group, Rolling, Single, alone, audience_of, id_of, job_note}
use Rattle.pool_history.specs.Refusing.{coinbase_refusal}
use Rattle.coinbase.specs.Coin.{template_assembly}
use Rattle.event_store.specs.declared.audience.Heard.{Heard}
use Rattle.event_store.specs.declared.audience.Heard.TheVariants as heard
use Rattle.event_store.specs.declared.marks.FutureMark.{FutureMark}
use Rattle.event_store.specs.declared.marks.JobMark.{JobMark}
use Rattle.event_store.specs.declared.marks.JobPlace.{JobPlace}
use Rattle.event_store.specs.declared.marks.OpeningMark.{OpeningMark}
use Rattle.event_store.specs.declared.marks.SessionMark.{SessionMark}
use Rattle.event_store.specs.declared.marks.TipMark.{TipMark}
use Rattle.event_store.specs.Index.{IndexParts}
use Rattle.event_store.specs.Listening.{Listening}

-- a channel without what no note says of it
abbrev pub channel_by : Listening → OpenChannel
channel_by listener = record {
  id = listener.id;
  session = 0;
  kind = listener.kind;
  account = [];
  lead = listener.lead;
  opening_class = 0;
  sets = [];
}

-- a place comes before another; none does where there is none
abbrev pub is_before : Option ℕ → ℕ → Bool
is_before None place = false
is_before (Some at) place = nat_lt at place

-- a session's channel was opened before a place, and not closed before it
abbrev pub listens_at : ℕ → ℕ → OpeningMark → Bool
listens_at session place mark =
    mark.session == session && nat_lt mark.at place && not (is_before mark.closed place)

-- the channels of a session that are open at a place
abbrev pub listeners_in : List OpeningMark → ℕ → ℕ → List Listening
listeners_in openings session place =
    map (λ mark. mark.listener) (filter (listens_at session place) openings)

-- the flags of a session at a place: none before it was entered
abbrev pub flags_at : ℕ → Option SessionMark → ℕ
flags_at place None = 0
flags_at place (Some mark) = if nat_lt mark.at place then mark.flags else 0

-- whether a session had left at a place
abbrev pub has_left_at : ℕ → Option SessionMark → Bool
has_left_at place None = false
has_left_at place (Some mark) = is_before mark.left place

-- the channels that a session hears news for at a place: none where it had left
abbrev pub listeners_at : IndexParts → ℕ → ℕ → List Listening
listeners_at index session place =
    if has_left_at place (slice_get index.sessions session) then []
    else listeners_in index.openings session place

-- whom a session is told for at a place
abbrev pub audience_at : IndexParts → ℕ → ℕ → List Audience
audience_at index session place =
    audience_of session (bit_at (flags_at place (slice_get index.sessions session)) 0 == 1)
    (map channel_by (listeners_at index session place))

-- whom a message is for, as the definitions say it
abbrev pub heard_as : Heard → Audience
heard_as (heard.Rolling id) = Rolling id
heard_as (heard.Single channel) =
    Single (channel_by (record { id = channel.id; kind = Standard; lead = channel.lead }))
heard_as (heard.Group id) = Group id

-- a template's job as it is told
abbrev pub told_job : ℕ → TemplateData → Job
told_job number template = template_job number 0 0 template

-- a tip as it is told, with the number of the job that it made live
abbrev pub prev_hash_note : TipData → ℕ → Audience → Note
prev_hash_note tip number to =
    note.PrevHash (id_of to) number tip.prev_hash tip.header_timestamp tip.nbits

-- the template of an event
abbrev pub event_template : Option Event → Option TemplateData
event_template None = None
event_template (Some (event.Template session template)) = Some template
event_template (Some event) = None

-- the tip of an event
abbrev pub event_tip : Option Event → Option TipData
event_tip None = None
event_tip (Some (event.Tip session tip)) = Some tip
event_tip (Some event) = None

-- a future job, where its event is a template
abbrev pub future_told : Rules → Audience → ℕ → Option TemplateData → List Note
future_told rules to number None = []
future_told rules to number (Some template) =
    job_note rules None (told_job number template) to ∷ []

-- each future job, in their order
abbrev pub futures_told : Rules → List Event → Audience → List FutureMark → List Note
futures_told rules events to [] = []
futures_told rules events to (mark ∷ marks) =
    future_told rules to mark.job.number (event_template (slice_get events mark.job.at))
    ++ futures_told rules events to marks

-- a live job and the tip, where their events are a template and a tip
abbrev pub live_told : Rules → Audience → ℕ → Option TemplateData → Option TipData → List Note
live_told rules to number (Some template) (Some tip) =
    job_note rules None (told_job number template) to ∷ prev_hash_note tip number to ∷ []
live_told rules to number template tip = []

-- the newest live job with the tip, where there are both
abbrev pub present_told : Rules → List Event → Audience → Option JobPlace → Option TipMark
    → List Note
present_told rules events to (Some job) (Some tip) =
    live_told rules to job.number (event_template (slice_get events job.at))
    (event_tip (slice_get events tip.at))
present_told rules events to job tip = []

-- what a channel is told when it is opened
abbrev pub opening_told : Rules → List Event → IndexParts → OpeningMark → List Note
opening_told rules events index mark =
    present_told rules events (alone (channel_by mark.listener)) mark.live mark.tip
    ++ futures_told rules events (alone (channel_by mark.listener))
    (drop mark.first_future (take mark.end_future index.futures))

-- the same of an opening's mark, where there is one
abbrev pub marked_opening_told : Rules → List Event → IndexParts → Option OpeningMark → List Note
marked_opening_told rules events index None = []
marked_opening_told rules events index (Some mark) = opening_told rules events index mark

-- a template's job, for each of the audience
abbrev pub job_told : Rules → TemplateData → Option JobMark → List Audience → List Note
job_told rules template None to = []
job_told rules template (Some mark) to =
    map (job_note rules mark.min_ntime (told_job mark.number template)) to

-- a tip, for each of the audience: nothing where it made no job live
abbrev pub tip_told : TipData → ℕ → List Audience → List Note
tip_told tip number to = if number == 0 then [] else map (prev_hash_note tip number) to

-- the fields of a credit that its solution says
pub record Solved : Type 0 where
  pub version : ℕ
  pub ntime : ℕ
  pub nonce : ℕ
  pub extranonce : List ℕ

-- a block's solution
abbrev pub solution_note : List ℕ → TemplateData → Solved → Listening → Note
solution_note script template solved listener =
    note.Solution template.template_id solved.version solved.ntime solved.nonce
    (whole (template_parts (template_terms template) script)
    (extranonce_prefix listener.kind listener.lead ++ solved.extranonce))

-- a session sent the template of an event
abbrev pub is_sent_by : ℕ → Option Event → Bool
is_sent_by session None = false
is_sent_by session (Some (event.Template feed template)) = feed == session
is_sent_by session (Some event) = false

-- the solution of a template's job on an opening's channel
abbrev pub solution_to : List ℕ → Solved → Option TemplateData → Option OpeningMark → List Note
solution_to script solved (Some template) (Some mark) =
    solution_note script template solved mark.listener ∷ []
solution_to script solved template mark = []

-- it is owed of a template's job alone, to the session that sent it
abbrev pub solution_from : List ℕ → ℕ → Solved → Option Event → Option OpeningMark → List Note
solution_from script session solved source opening =
    if is_sent_by session source then solution_to script solved (event_template source) opening
    else []

-- the event of a job's mark
abbrev pub marked_event : List Event → Option JobMark → Option Event
marked_event events None = None
marked_event events (Some mark) = slice_get events mark.at

-- a credit's solution, by the marks of its job and its channel
abbrev pub solution_told : Rules → List Event → IndexParts → ℕ → ℕ → ℕ → Solved → List Note
solution_told rules events index session channel job solved =
    solution_from rules.pool_script session solved
    (marked_event events (slice_get index.jobs (job - 1)))
    (slice_get index.openings (channel - 1))

-- what a session is told of an event at a place, which has this detail
abbrev pub event_told : Rules → List Event → IndexParts → ℕ → ℕ → ℕ → Event → List Note
event_told rules events index session place detail
    (event.Open opening kind account class lead) =
    if opening == session
    then marked_opening_told rules events index (slice_get index.openings detail) else []
event_told rules events index session place detail (event.Template feed template) =
    job_told rules template (slice_get index.jobs detail) (audience_at index session place)
event_told rules events index session place detail (event.Tip feed tip) =
    tip_told tip detail (audience_at index session place)
event_told rules events index session place detail
    (event.Credit crediting channel job nonce ntime version extranonce) =
    if detail == 1
    then solution_told rules events index session channel job (record {
      version = version;
      ntime = ntime;
      nonce = nonce;
      extranonce = extranonce;
    }) else []
event_told rules events index session place detail (event.Start other) = []
event_told rules events index session place detail (event.Enter worker role flags) = []
event_told rules events index session place detail (event.Name naming channel account) = []
event_told rules events index session place detail (event.Class setting channel class) = []
event_told rules events index session place detail (event.Close closing channel) = []
event_told rules events index session place detail (event.Leave leaving) = []
event_told rules events index session place detail (event.Grant asking account fixed path) = []
event_told rules events index session place detail (event.Custom bringing custom) = []

-- a template's coinbase is put together by the pool's script
abbrev pub IsAccepted : List ℕ → TemplateData → Type 0
IsAccepted script template =
    coinbase_refusal (template_assembly (template_terms template) script) ≡ None
