-- What is kept beside the events, so that the news of an event are told without a walk over the
-- events before it (this project's own). That it says of the events what they say is proved.
use Rattle.std.specs.Prelude.{ℕ, ◌+◌, ◌-◌, ◌==◌, Bool, true, false, if◌then◌else◌, Option, None, Some, List, [], ◌∷◌, ◌++◌, drop, find, length, max, slice_get, slice_set}
use Rattle.std.specs.Option.{option_map, option_or}
use Rattle.pool_history.specs.declared.events.Event.{Event}
use Rattle.pool_history.specs.declared.events.Event.TheVariants as event
use Rattle.pool_history.specs.declared.events.Kind.{Kind}
use Rattle.pool_history.specs.declared.templates.TemplateData.{TemplateData}
use Rattle.pool_history.specs.declared.templates.TipData.{TipData}
use Rattle.event_store.specs.declared.marks.FutureMark.{FutureMark}
use Rattle.event_store.specs.declared.marks.JobMark.{JobMark}
use Rattle.event_store.specs.declared.marks.JobPlace.{JobPlace}
use Rattle.event_store.specs.declared.marks.OpeningMark.{OpeningMark}
use Rattle.event_store.specs.declared.marks.SessionMark.{SessionMark}
use Rattle.event_store.specs.declared.marks.TipMark.{TipMark}
use Rattle.event_store.specs.Blocks.{is_block_event}

-- a mark for each job by its number, for each future template, for each channel by its id and for
-- each session by its number; then the newest live job, the last tip, and which of the future
-- templates are still of the future: those from a place on
pub record IndexParts : Type 0 where
  pub jobs : List JobMark
  pub futures : List FutureMark
  pub openings : List OpeningMark
  pub sessions : List SessionMark
  pub live : Option JobPlace
  pub tip : Option TipMark
  pub first_future : ℕ

-- the same, and so many events need no memory
pub record KeptIndex : Type 0 where
  pub parts : IndexParts
  pub room : ℕ

-- no mark, and no job
abbrev pub empty_index : IndexParts
empty_index = record {
  jobs = [];
  futures = [];
  openings = [];
  sessions = [];
  live = None;
  tip = None;
  first_future = 0;
}

-- a list with this element changed, which was found at a place
abbrev pub changed_from : {X : Type 0} → (X → X) → List X → ℕ → Option X → List X
changed_from f xs at None = xs
changed_from f xs at (Some x) = slice_set xs at (f x)

-- a list with the element at a place changed, where it has one
abbrev pub changed : {X : Type 0} → (X → X) → List X → ℕ → List X
changed f xs at = changed_from f xs at (slice_get xs at)

-- a session begins
abbrev pub with_entered : ℕ → ℕ → IndexParts → IndexParts
with_entered at flags index =
    record index {
      sessions = index.sessions
          ++ record { at = at; flags = flags; last = None; left = None } ∷ [];
    }

-- it ends: the first time counts
abbrev pub with_left : ℕ → ℕ → IndexParts → IndexParts
with_left at session index =
    record index {
      sessions = changed (λ mark. record mark { left = option_or mark.left (Some at) })
          index.sessions session;
    }

-- the time of the last tip
abbrev pub last_ntime : Option TipMark → Option ℕ
last_ntime tip = option_map (λ mark. mark.ntime) tip

-- the least time of a template's job: none where it is of the future
abbrev pub marked_ntime : Bool → Option TipMark → Option ℕ
marked_ntime true tip = None
marked_ntime false tip = last_ntime tip

-- a template's job, which is of the future, or the newest live one
abbrev pub with_job : Bool → ℕ → JobPlace → IndexParts → IndexParts
with_job future id job index =
    record index {
      futures = if future then index.futures ++ record { job = job; template_id = id } ∷ []
          else index.futures;
      first_future = if future then max index.first_future ((length index.futures + 1) - 16)
          else index.first_future;
      live = if future then index.live else Some job;
    }

-- a job's mark
abbrev pub with_mark : JobMark → IndexParts → IndexParts
with_mark mark index = record index { jobs = index.jobs ++ mark ∷ [] }

-- a template comes: its job has the next number, and the time of the last tip where it is live
abbrev pub with_came : ℕ → TemplateData → IndexParts → IndexParts
with_came at template index =
    with_mark
    (record {
      number = length index.jobs + 1;
      at = at;
      min_ntime = marked_ntime template.future_template index.tip;
    })
    (with_job template.future_template template.template_id
    (record { number = length index.jobs + 1; at = at }) index)

-- the templates that are of the future
abbrev pub futures_now : IndexParts → List FutureMark
futures_now index = drop index.first_future index.futures

-- a tip makes the job of its template live, and no template is of the future any more
abbrev pub with_tipped : ℕ → TipData → IndexParts → IndexParts
with_tipped at tip index =
    record index {
      live = option_map (λ mark. mark.job)
          (find (λ mark. mark.template_id == tip.template_id) (futures_now index));
      tip = Some (record { at = at; ntime = tip.header_timestamp });
      first_future = length index.futures;
    }

-- a miner's own job has a number
abbrev pub with_brought : ℕ → IndexParts → IndexParts
with_brought at index =
    with_mark (record { number = length index.jobs + 1; at = at; min_ntime = None }) index

-- the session's opening before
abbrev pub last_opening : Option SessionMark → Option ℕ
last_opening None = None
last_opening (Some mark) = mark.last

-- a channel is opened, while these jobs stand so
abbrev pub with_opened : ℕ → ℕ → Kind → List ℕ → IndexParts → IndexParts
with_opened at session kind lead index =
    record index {
      openings = index.openings
          ++ record {
            listener = record { id = length index.openings + 1; kind = kind; lead = lead };
            session = session;
            at = at;
            before = last_opening (slice_get index.sessions session);
            closed = None;
            live = index.live;
            tip = index.tip;
            first_future = index.first_future;
            end_future = length index.futures;
          } ∷ [];
      sessions = changed (λ mark. record mark { last = Some (length index.openings) })
          index.sessions session;
    }

-- a channel is closed: the first time counts
abbrev pub with_closed : ℕ → ℕ → IndexParts → IndexParts
with_closed at channel index =
    record index {
      openings = changed (λ mark. record mark { closed = option_or mark.closed (Some at) })
          index.openings (channel - 1);
    }

-- one more event
abbrev pub index_after : ℕ → Event → IndexParts → IndexParts
index_after at (event.Enter worker role flags) index = with_entered at flags index
index_after at (event.Template session template) index = with_came at template index
index_after at (event.Tip session tip) index = with_tipped at tip index
index_after at (event.Open session kind account class lead) index =
    with_opened at session kind lead index
index_after at (event.Close session channel) index = with_closed at channel index
index_after at (event.Leave session) index = with_left at session index
index_after at (event.Custom session custom) index = with_brought at index
index_after at (event.Start rules) index = index
index_after at (event.Name session channel account) index = index
index_after at (event.Class session channel class) index = index
index_after at (event.Credit session channel job nonce ntime version extranonce) index = index
index_after at (event.Grant session account fixed path) index = index

-- the number of a job, or 0
abbrev pub live_number : Option JobPlace → ℕ
live_number None = 0
live_number (Some job) = job.number

-- a number for each event: of a template the place of its job's mark, of a tip the number of the
-- job that it made live, of an opening the place of its mark, and 1 of a credit that is a block
abbrev pub detail_after : Bool → Event → IndexParts → IndexParts → ℕ
detail_after is_block (event.Template session template) before after = length before.jobs
detail_after is_block (event.Tip session tip) before after = live_number after.live
detail_after is_block (event.Open session kind account class lead) before after =
    length before.openings
detail_after is_block (event.Credit session channel job nonce ntime version extranonce) before
    after = if is_block then 1 else 0
detail_after is_block (event.Start rules) before after = 0
detail_after is_block (event.Enter worker role flags) before after = 0
detail_after is_block (event.Name session channel account) before after = 0
detail_after is_block (event.Class session channel class) before after = 0
detail_after is_block (event.Close session channel) before after = 0
detail_after is_block (event.Leave session) before after = 0
detail_after is_block (event.Grant session account fixed path) before after = 0
detail_after is_block (event.Custom session custom) before after = 0

-- the marks of a history
abbrev pub index_of : List Event → IndexParts
index_of [] = empty_index
index_of (event ∷ older) = index_after (length older) event (index_of older)

-- the details of a history, in the order of its events
abbrev pub details_of : List Event → List ℕ
details_of [] = []
details_of (event ∷ older) =
    details_of older
    ++ detail_after (is_block_event older event) event (index_of older) (index_of (event ∷ older))
    ∷ []
