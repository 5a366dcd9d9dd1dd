-- What is told of an event from what is kept is what is owed for it.
use Rattle.std.proofs.Common.{◌⊎◌, inl, inr, ◌≡◌, ℕ, zero, suc, ◌+◌, ◌-◌, ◌≤◌, Bool, true, false, cond, ◌&&◌, ◌||◌, Option, None, Some, List, [], ◌∷◌, ◌++◌, length, map, drop, take, refl, ap, subst, sym, ◌∙◌, arith, append_assoc}
use Rattle.std.proofs.Math.Dec.{eqb}
use Rattle.std.proofs.lemmas.Bool.{eq-eqb, eqb-true, ne_eqb}
use Rattle.std.proofs.lemmas.List.{append-nil}
use Rattle.std.specs.Prelude.{find, slice_get}
use Rattle.std.specs.Int.{bit_at}
use Rattle.std.specs.List.{AllByRecursion, flat_map, list_any}
use Rattle.std.specs.Option.{option_map, option_map_or}
use Rattle.pool_history.specs.declared.events.Event.{Event}
use Rattle.pool_history.specs.declared.events.Event.TheVariants as event
use Rattle.pool_history.specs.declared.events.Kind.{Kind}
use Rattle.pool_history.specs.declared.settings.Rules.{Rules}
use Rattle.pool_history.specs.declared.telling.Note.{Note}
use Rattle.pool_history.specs.declared.telling.Note.TheVariants as note
use Rattle.pool_history.specs.declared.templates.CustomData.{CustomData}
use Rattle.pool_history.specs.declared.templates.TemplateData.{TemplateData}
use Rattle.pool_history.specs.declared.templates.TipData.{TipData}
use Rattle.pool_history.specs.Channels.{OpenChannel, channel_in, channel_moves, channels_in, channels_of, group_id, opened}
use Rattle.pool_history.specs.Crediting.{booked_with, credit_share, found_list, is_block}
use Rattle.pool_history.specs.Jobs.{FromMiner, FromTemplate, Job, jobs_of, last_of, newest, template_job}
use Rattle.coinbase.specs.Parts.{whole}
use Rattle.pool_history.specs.Headers.{extranonce_prefix}
use Rattle.pool_history.specs.Judging.{Admitted, Share, is_standard, job_parts}
use Rattle.pool_history.specs.Legal.{LegalPast}
use Rattle.pool_history.proofs.PlacesOfJobs.{map-end}
use Rattle.pool_history.specs.News.{Audience, Group, Rolling, Single, alone, audience, audience_of, job_note, live_ntime, opening_notes, owed_notes_by, present_notes, solution, solution_by, solution_notes, tip_note, tip_notes, told_of, without_single}
use Rattle.pool_history.specs.Sessions.{flags_of, opens, rules_of, script_in, script_of}
use Rattle.history_laws.proofs.Crediting.{WasFound, booked-found}
use Rattle.history_laws.proofs.Entrances.{none-some, some-same}
use Rattle.history_laws.proofs.Keeping.{channels-numbered, find-passes}
use Rattle.history_laws.proofs.Living.{In, find-in, in-append}
use Rattle.history_laws.proofs.NotesFit.{last-end, last-in}
use Rattle.history_laws.proofs.Stepping.{opened-opens}
use Rattle.event_store.specs.declared.marks.JobMark.{JobMark}
use Rattle.event_store.specs.declared.marks.OpeningMark.{OpeningMark}
use Rattle.event_store.specs.declared.marks.TipMark.{TipMark}
use Rattle.event_store.specs.Blocks.{is_block_event}
use Rattle.event_store.specs.Index.{IndexParts, detail_after, futures_now, index_of, last_opening, marked_ntime, live_number}
use Rattle.event_store.specs.Told.{audience_at, channel_by, event_template, event_told, future_told, futures_told, job_told, listeners_at, live_told, marked_event, marked_opening_told, present_told, prev_hash_note, solution_from, solution_note, solution_to, solution_told, tip_told, told_job, Solved, event_tip}
use Rattle.event_store.proofs.Entered.{flags-now}
use Rattle.event_store.proofs.Later.{GrowsTo, audience-later, front-get, grows-later, unclosed}
use Rattle.event_store.proofs.Listened.{HasMark, listening_of, listeners-now, marked-channel, open-tags, openings-length}
use Rattle.event_store.proofs.Changed.{get-end, map-length}
use Rattle.event_store.proofs.Sourced.{HasJobMark, IsMiners, IsTemplates, IsTipMark, all-of-template, came-jobs, event-later, events_of, future_mark, future-marks, jobs-length, knows-jobs, newest-mark, ntime-mark, place_of, tip-mark}

-- a channel without what no note says of it
abbrev pub plain : OpenChannel → OpenChannel
plain channel = channel_by (listening_of channel)

-- a message that says the same of it
abbrev pub SaysSame : (Audience → Note) → Type 0
SaysSame f = (channel : OpenChannel) → f (Single (plain channel)) ≡ f (Single channel)

alone-same : (f : Audience → Note) → SaysSame f → (channel : OpenChannel) → f (alone (plain channel)) ≡ f (alone channel)
alone-same f same channel = by (is_standard channel.kind) where
  by : (b : Bool) → f (cond b (Single (plain channel)) (Rolling channel.id)) ≡ f (cond b (Single channel) (Rolling channel.id))
  by true = same channel
  by false = refl

plain-alone : (f : Audience → Note) → SaysSame f → (channels : List OpenChannel) → map f (map alone (map channel_by (map listening_of channels))) ≡ map f (map alone channels)
plain-alone f same [] = refl
plain-alone f same (channel ∷ channels) =
    ap (λ y. y ∷ map f (map alone (map channel_by (map listening_of channels)))) (alone-same f same channel)
    ∙ ap (λ l. f (alone channel) ∷ l) (plain-alone f same channels)

plain-rolling : (channels : List OpenChannel) → flat_map without_single (map channel_by (map listening_of channels)) ≡ flat_map without_single channels
plain-rolling [] = refl
plain-rolling (channel ∷ channels) = ap (λ l. without_single channel ++ l) (plain-rolling channels)

plain-any : (channels : List OpenChannel)
    → list_any (λ channel. is_standard channel.kind) (map channel_by (map listening_of channels)) ≡ list_any (λ channel. is_standard channel.kind) channels
plain-any [] = refl
plain-any (channel ∷ channels) = ap (λ b. is_standard channel.kind || b) (plain-any channels)

plain-audience : (f : Audience → Note) → SaysSame f → (session : ℕ) (one_by_one : Bool) (channels : List OpenChannel)
    → map f (audience_of session one_by_one (map channel_by (map listening_of channels))) ≡ map f (audience_of session one_by_one channels)
plain-audience f same session true channels = plain-alone f same channels
plain-audience f same session false channels =
    ap (map f)
    (ap (λ l. l ++ audience_group session (list_any (λ channel. is_standard channel.kind) (map channel_by (map listening_of channels)))) (plain-rolling channels)
    ∙ ap (λ b. flat_map without_single channels ++ audience_group session b) (plain-any channels)) where
      audience_group : ℕ → Bool → List Audience
      audience_group session b = cond b (Group (group_id session) ∷ []) []

-- whom a session is told for after some events
audience-now : (f : Audience → Note) → SaysSame f → (older : List Event) (session : ℕ) → LegalPast older
    → map f (audience_at (index_of older) session (length older)) ≡ map f (audience older session)
audience-now f same older session l =
    ap (λ n. map f (audience_of session (eqb (bit_at n 0) 1) (map channel_by (listeners_at (index_of older) session (length older))))) (flags-now older session)
    ∙ ap (λ c. map f (audience_of session (eqb (bit_at (flags_of older session) 0) 1) (map channel_by c))) (listeners-now older session l)
    ∙ plain-audience f same session (eqb (bit_at (flags_of older session) 0) 1) (channels_in (channels_of older) session)

audience-then : (f : Audience → Note) → SaysSame f → (later : List Event) (e : Event) (older : List Event) (session : ℕ) → LegalPast older
    → map f (audience_at (index_of (later ++ e ∷ older)) session (length older)) ≡ map f (audience older session)
audience-then f same later e older session l =
    ap (λ past. map f (audience_at (index_of past) session (length older))) (sym (append_assoc later (e ∷ []) older))
    ∙ ap (map f) (audience-later (later ++ e ∷ []) older session)
    ∙ audience-now f same older session l

-- a note says of a job no more than its number and what it is made from
job-note-same : (rules : Rules) (min_ntime : Option ℕ) (job : Job) (template : TemplateData) → job.source ≡ FromTemplate template → (to : Audience)
    → job_note rules min_ntime (told_job job.number template) to ≡ job_note rules min_ntime job to
job-note-same rules min_ntime job template is (Single channel) =
    ap (λ s. job_note rules min_ntime (record { number = job.number; session = 0; at = 0; live_at = None; source = s }) (Single channel)) (sym is)
job-note-same rules min_ntime job template is (Rolling channel) =
    ap (λ s. job_note rules min_ntime (record { number = job.number; session = 0; at = 0; live_at = None; source = s }) (Rolling channel)) (sym is)
job-note-same rules min_ntime job template is (Group group) =
    ap (λ s. job_note rules min_ntime (record { number = job.number; session = 0; at = 0; live_at = None; source = s }) (Group group)) (sym is)

map-agree : {X Y : Type 0} (f g : X → Y) → ((x : X) → f x ≡ g x) → (xs : List X) → map f xs ≡ map g xs
map-agree f g same [] = refl
map-agree f g same (x ∷ xs) = ap (λ y. y ∷ map f xs) (same x) ∙ ap (λ l. g x ∷ l) (map-agree f g same xs)

-- a template
template-told : (rules : Rules) (later : List Event) (feed : ℕ) (template : TemplateData) (older : List Event) (session : ℕ)
    → LegalPast older
    → job_told rules template
    (slice_get (index_of (later ++ event.Template feed template ∷ older)).jobs (length (index_of older).jobs))
    (audience_at (index_of (later ++ event.Template feed template ∷ older)) session (length older))
    ≡ owed_notes_by rules (event.Template feed template) older session
template-told rules later feed template older session l =
    let e : Event = event.Template feed template in
    let index : IndexParts = index_of older in
    let all : IndexParts = index_of (later ++ e ∷ older) in
    let mark : JobMark = record { number = length index.jobs + 1; at = length older; min_ntime = marked_ntime template.future_template index.tip } in
    let job : Job = template_job (length (jobs_of older).all + 1) (length older) feed template in
    let there : slice_get (index_of (e ∷ older)).jobs (length index.jobs) ≡ Some mark =
    ap (λ l. slice_get l (length index.jobs)) (came-jobs (length older) template index) ∙ get-end index.jobs mark [] in
    ap (λ o. job_told rules template o (audience_at all session (length older)))
    (front-get (index_of (e ∷ older)).jobs all.jobs (length index.jobs) mark (grows-later later (e ∷ older)).jobs there)
    ∙ ap (λ m. map (job_note rules m (told_job (length index.jobs + 1) template)) (audience_at all session (length older)))
    (ntime-mark older template.future_template index.tip (jobs_of older).tip (tip-mark older))
    ∙ ap (λ n. map (job_note rules (live_ntime template.future_template (jobs_of older).tip) (told_job (n + 1) template)) (audience_at all session (length older)))
    (jobs-length older)
    ∙ map-agree _ (job_note rules (live_ntime template.future_template (jobs_of older).tip) job)
    (job-note-same rules (live_ntime template.future_template (jobs_of older).tip) job template refl) (audience_at all session (length older))
    ∙ audience-then (job_note rules (live_ntime template.future_template (jobs_of older).tip) job) (λ channel. refl) later e older session l
    ∙ ap (told_of rules (live_ntime template.future_template (jobs_of older).tip) (audience older session))
    (sym (ap last_of (all-of-template job template.future_template (jobs_of older)) ∙ last-end (jobs_of older).all job))

-- a tip
tip-some : (tip : TipData) (job : Job) (to : List Audience) → 1 ≤ job.number → tip_told tip job.number to ≡ map (tip_note tip job) to
tip-some tip job to some = ap (λ b. cond b [] (map (prev_hash_note tip job.number) to)) (ne_eqb job.number 0 (λ none. omega (arith, none, some)))

tip-told : (rules : Rules) (later : List Event) (feed : ℕ) (tip : TipData) (older : List Event) (session : ℕ) → LegalPast older
    → tip_told tip (live_number (index_of (event.Tip feed tip ∷ older)).live) (audience_at (index_of (later ++ event.Tip feed tip ∷ older)) session (length older))
    ≡ owed_notes_by rules (event.Tip feed tip) older session
tip-told rules later feed tip older session l =
    ap (λ o. tip_told tip (live_number o) to) (sym (newest-mark (event.Tip feed tip ∷ older)))
    ∙ by (newest (jobs_of (event.Tip feed tip ∷ older))) refl where
      to : List Audience
      to = audience_at (index_of (later ++ event.Tip feed tip ∷ older)) session (length older)

      by : (o : Option Job) → newest (jobs_of (event.Tip feed tip ∷ older)) ≡ o
          → tip_told tip (live_number (option_map place_of o)) (audience_at (index_of (later ++ event.Tip feed tip ∷ older)) session (length older))
          ≡ tip_notes tip (audience older session) o
      by None is = refl
      by (Some job) is =
          let t : IsTemplates (event.Tip feed tip ∷ older) (index_of (event.Tip feed tip ∷ older)).jobs job =
          (knows-jobs (event.Tip feed tip ∷ older)).live job (last-in (jobs_of (event.Tip feed tip ∷ older)).live job is) in
          tip-some tip job (audience_at (index_of (later ++ event.Tip feed tip ∷ older)) session (length older)) t.marked.some
          ∙ audience-then (tip_note tip job) (λ channel. refl) later (event.Tip feed tip) older session l

-- the events of a job
template-there : (later past : List Event) (jobs : List JobMark) (job : Job) → (t : IsTemplates past jobs job)
    → event_template (slice_get (events_of (later ++ past)) job.at) ≡ Some t.template
template-there later past jobs job t = ap event_template (event-later later past job.at _ t.there)

futures-told : (rules : Rules) (later past : List Event) (jobs : List JobMark) (to : Audience) (future : List Job)
    → ((j : Job) → In j future → IsTemplates past jobs j)
    → futures_told rules (events_of (later ++ past)) to (map future_mark future) ≡ map (λ job. job_note rules None job to) future
futures-told rules later past jobs to [] h = refl
futures-told rules later past jobs to (job ∷ future) h =
    let t : IsTemplates past jobs job = h job (inl refl) in
    ap (λ o. future_told rules to job.number o ++ futures_told rules (events_of (later ++ past)) to (map future_mark future))
    (template-there later past jobs job t)
    ∙ ap (λ n. n ∷ futures_told rules (events_of (later ++ past)) to (map future_mark future)) (job-note-same rules None job t.template t.source_is to)
    ∙ ap (λ l. job_note rules None job to ∷ l) (futures-told rules later past jobs to future (λ j i. h j (inr i)))

present-told : (rules : Rules) (later past : List Event) (jobs : List JobMark) (to : Audience) (job : Option Job) (mark : Option TipMark) (tip : Option TipData)
    → ((j : Job) → job ≡ Some j → IsTemplates past jobs j) → IsTipMark past mark tip
    → present_told rules (events_of (later ++ past)) to (option_map place_of job) mark ≡ present_notes rules job tip to
present-told rules later past jobs to None None None h t = refl
present-told rules later past jobs to None None (Some tip) h t = refl
present-told rules later past jobs to None (Some mark) None h t = refl
present-told rules later past jobs to None (Some mark) (Some tip) h t = refl
present-told rules later past jobs to (Some job) None None h t = refl
present-told rules later past jobs to (Some job) None (Some tip) h t = elim t [ ]
present-told rules later past jobs to (Some job) (Some mark) None h t = elim t [ ]
present-told rules later past jobs to (Some job) (Some mark) (Some tip) h t =
    let k : IsTemplates past jobs job = h job refl in
    let there : event_tip (slice_get (events_of (later ++ past)) mark.at) ≡ Some tip = ap event_tip (event-later later past mark.at _ t.0.1) in
    ap (λ o. live_told rules to job.number o (event_tip (slice_get (events_of (later ++ past)) mark.at))) (template-there later past jobs job k)
    ∙ ap (live_told rules to job.number (Some k.template)) there
    ∙ ap (λ n. n ∷ prev_hash_note tip job.number to ∷ []) (job-note-same rules None job k.template k.source_is to)

-- an opening
get-unclosed : (rules : Rules) (events : List Event) (index : IndexParts) (xs : List OpeningMark) (k : ℕ)
    → marked_opening_told rules events index (slice_get xs k) ≡ marked_opening_told rules events index (slice_get (map unclosed xs) k)
get-unclosed rules events index [] k = refl
get-unclosed rules events index (x ∷ xs) zero = refl
get-unclosed rules events index (x ∷ xs) (suc k) = get-unclosed rules events index xs k

find-none-below : (n : ℕ) (channels : List OpenChannel) (new : OpenChannel) → ((c : OpenChannel) → In c channels → c.id ≤ n) → new.id ≡ n + 1
    → find (λ c. eqb c.id (n + 1)) (channels ++ new ∷ []) ≡ Some new
find-none-below n [] new h is = ap (λ b. cond b (Some new) None) (eq-eqb new.id (n + 1) is)
find-none-below n (c ∷ channels) new h is =
    let low : c.id ≤ n = h c (inl refl) in
    ap (λ b. cond b (Some c) (find (λ c. eqb c.id (n + 1)) (channels ++ new ∷ []))) (ne_eqb c.id (n + 1) (λ same. omega (arith, same, low)))
    ∙ find-none-below n channels new (λ d i. h d (inr i)) is

all-in : {X : Type 0} (P : X → Type 0) (xs : List X) (x : X) → AllByRecursion P xs → In x xs → P x
all-in P [] x a i = elim i [ ]
all-in P (y ∷ xs) x a (inl e) = subst P (sym e) a.0
all-in P (y ∷ xs) x a (inr i) = all-in P xs x a.1 i

alone-map : (f : Job → Audience → Note) → ((job : Job) → SaysSame (f job)) → (channel : OpenChannel) (jobs : List Job)
    → map (λ job. f job (alone (plain channel))) jobs ≡ map (λ job. f job (alone channel)) jobs
alone-map f same channel jobs = map-agree (λ job. f job (alone (plain channel))) (λ job. f job (alone channel)) (λ job. alone-same (f job) (same job) channel) jobs

alone-present : (rules : Rules) (job : Option Job) (tip : Option TipData) (channel : OpenChannel)
    → present_notes rules job tip (alone (plain channel)) ≡ present_notes rules job tip (alone channel)
alone-present rules (Some job) (Some tip) channel =
    ap (λ n. n ∷ tip_note tip job (alone (plain channel)) ∷ []) (alone-same (job_note rules None job) (λ c. refl) channel)
    ∙ ap (λ n. job_note rules None job (alone channel) ∷ n ∷ []) (alone-same (tip_note tip job) (λ c. refl) channel)
alone-present rules (Some job) None channel = refl
alone-present rules None (Some tip) channel = refl
alone-present rules None None channel = refl

take-front : {X : Type 0} (xs ys : List X) → take (length xs) (xs ++ ys) ≡ xs
take-front [] ys = refl
take-front (x ∷ xs) ys = ap (λ l. x ∷ l) (take-front xs ys)

-- the channel that an Open opens
abbrev new_channel : List Event → ℕ → Kind → List ℕ → ℕ → List ℕ → OpenChannel
new_channel older opening k account class lead = record {
  id = opened (channel_moves older) + 1;
  session = opening;
  kind = k;
  account = account;
  lead = lead;
  opening_class = class;
  sets = [];
}

opened-found : (older : List Event) (opening : ℕ) (k : Kind) (account : List ℕ) (class : ℕ) (lead : List ℕ)
    → channel_in (channels_of (event.Open opening k account class lead ∷ older)) (opens older + 1) ≡ Some (new_channel older opening k account class lead)
opened-found older opening k account class lead =
    find-none-below (opens older) (channels_of older) (new_channel older opening k account class lead)
    (λ c i. all-in (λ d. d.id ≤ opens older) (channels_of older) c (channels-numbered older).most i)
    (ap (λ n. n + 1) (opened-opens older))

opening-shown : (rules : Rules) (later older : List Event) (opening : ℕ) (k : Kind) (account : List ℕ) (class : ℕ) (lead : List ℕ) (all : IndexParts)
    → GrowsTo (index_of (event.Open opening k account class lead ∷ older)) all
    → marked_opening_told rules (events_of (later ++ older)) all (slice_get all.openings (length (index_of older).openings))
    ≡ opening_notes rules (jobs_of older) (Some (new_channel older opening k account class lead))
opening-shown rules later older opening k account class lead all g =
    get-unclosed rules events all all.openings (length index.openings)
    ∙ ap (marked_opening_told rules events all) there
    ∙ ap (λ l. present_told rules events to index.live index.tip ++ futures_told rules events to (drop index.first_future l)) futures
    ∙ ap (λ n. present_told rules events (alone (channel_by (record { id = n + 1; kind = k; lead = lead }))) index.live index.tip
    ++ futures_told rules events (alone (channel_by (record { id = n + 1; kind = k; lead = lead }))) (futures_now index))
    (openings-length older ∙ sym (opened-opens older))
    ∙ ap (λ o. present_told rules events (alone (plain new)) o index.tip ++ futures_told rules events (alone (plain new)) (futures_now index)) (sym (newest-mark older))
    ∙ ap (λ l. l ++ futures_told rules events (alone (plain new)) (futures_now index))
    (present-told rules later older index.jobs (alone (plain new)) (newest (jobs_of older)) index.tip (jobs_of older).tip
    (λ j is. (knows-jobs older).live j (last-in (jobs_of older).live j is)) (tip-mark older)
    ∙ alone-present rules (newest (jobs_of older)) (jobs_of older).tip new)
    ∙ ap (λ l. present_notes rules (newest (jobs_of older)) (jobs_of older).tip (alone new) ++ l)
    (ap (futures_told rules events (alone (plain new))) (sym (future-marks older))
    ∙ futures-told rules later older index.jobs (alone (plain new)) (jobs_of older).future (knows-jobs older).future
    ∙ alone-map (job_note rules None) (λ job c. refl) new (jobs_of older).future) where
      index : IndexParts
      index = index_of older

      events : List Event
      events = events_of (later ++ older)

      new : OpenChannel
      new = new_channel older opening k account class lead

      to : Audience
      to = alone (channel_by (record { id = length (index_of older).openings + 1; kind = k; lead = lead }))

      mark : OpeningMark
      mark = record {
        listener = record { id = length (index_of older).openings + 1; kind = k; lead = lead };
        session = opening;
        at = length older;
        before = last_opening (slice_get (index_of older).sessions opening);
        closed = None;
        live = (index_of older).live;
        tip = (index_of older).tip;
        first_future = (index_of older).first_future;
        end_future = length (index_of older).futures;
      }

      there : slice_get (map unclosed all.openings) (length (index_of older).openings) ≡ Some mark
      there =
          front-get (map unclosed ((index_of older).openings ++ mark ∷ [])) (map unclosed all.openings) (length (index_of older).openings) mark g.openings
          (ap (λ l. slice_get l (length (index_of older).openings)) (map-end unclosed (index_of older).openings mark)
          ∙ ap (slice_get (map unclosed (index_of older).openings ++ mark ∷ [])) (sym (map-length unclosed (index_of older).openings))
          ∙ get-end (map unclosed (index_of older).openings) mark [])

      futures : take (length (index_of older).futures) all.futures ≡ (index_of older).futures
      futures = ap (take (length (index_of older).futures)) g.futures.joined ∙ take-front (index_of older).futures g.futures.more

opening-told : (rules : Rules) (later : List Event) (opening : ℕ) (k : Kind) (account : List ℕ) (class : ℕ) (lead : List ℕ) (older : List Event) (session : ℕ)
    → cond (eqb opening session)
    (marked_opening_told rules (events_of (later ++ event.Open opening k account class lead ∷ older)) (index_of (later ++ event.Open opening k account class lead ∷ older))
    (slice_get (index_of (later ++ event.Open opening k account class lead ∷ older)).openings (length (index_of older).openings))) []
    ≡ owed_notes_by rules (event.Open opening k account class lead) older session
opening-told rules later opening k account class lead older session =
    let e : Event = event.Open opening k account class lead in
    let all : IndexParts = index_of (later ++ e ∷ older) in
    ap (λ l. cond (eqb opening session) l [])
    (ap (λ past. marked_opening_told rules (events_of past) all (slice_get all.openings (length (index_of older).openings))) (sym (append_assoc later (e ∷ []) older))
    ∙ opening-shown rules (later ++ e ∷ []) older opening k account class lead all (grows-later later (e ∷ older))
    ∙ sym (ap (opening_notes rules (jobs_of older)) (opened-found older opening k account class lead)))

-- a solution
solution-unclosed : (script : List ℕ) (template : TemplateData) (solved : Solved) (xs : List OpeningMark) (k : ℕ)
    → solution_to script solved (Some template) (slice_get xs k) ≡ solution_to script solved (Some template) (slice_get (map unclosed xs) k)
solution-unclosed script template solved [] k = refl
solution-unclosed script template solved (x ∷ xs) zero = refl
solution-unclosed script template solved (x ∷ xs) (suc k) = solution-unclosed script template solved xs k

pub get-map : {X Y : Type 0} (f : X → Y) (xs : List X) (k : ℕ) (x : X) → slice_get xs k ≡ Some x → slice_get (map f xs) k ≡ Some (f x)
get-map f [] k x is = absurd (none-some is)
get-map f (y ∷ xs) zero x is = ap (λ z. Some (f z)) (some-same is)
get-map f (y ∷ xs) (suc k) x is = get-map f xs k x is

-- the event of a job that is live
marked-source : (later older : List Event) (all : IndexParts) (job : Job) (number : ℕ) (x : Event) → GrowsTo (index_of older) all → HasJobMark (index_of older).jobs job
    → job.number ≡ number → slice_get (events_of older) job.at ≡ Some x
    → marked_event (events_of (later ++ older)) (slice_get all.jobs (number - 1)) ≡ Some x
marked-source later older all job number x g m is there =
    ap (λ n. marked_event (events_of (later ++ older)) (slice_get all.jobs (n - 1))) (sym is)
    ∙ ap (marked_event (events_of (later ++ older))) (front-get (index_of older).jobs all.jobs (job.number - 1) m.mark g.jobs m.there)
    ∙ ap (slice_get (events_of (later ++ older))) m.at_is ∙ event-later later older job.at x there

and-true : (b : Bool) → (b && true) ≡ b
and-true true = refl
and-true false = refl

and-false : (b : Bool) → (b && false) ≡ false
and-false true = refl
and-false false = refl

abbrev solved_by : Share → Solved
solved_by share = record { version = share.version; ntime = share.ntime; nonce = share.nonce; extranonce = share.extranonce }

template-solved : (script : List ℕ) (later older : List Event) (all : IndexParts) (session : ℕ) (share : Share) (with : Admitted)
    → GrowsTo (index_of older) all → HasMark (index_of older) with.channel → with.job.number ≡ share.job → with.channel.id ≡ share.channel
    → (t : IsTemplates older (index_of older).jobs with.job)
    → solution_from script session (solved_by share) (marked_event (events_of (later ++ older)) (slice_get all.jobs (share.job - 1)))
    (slice_get all.openings (share.channel - 1))
    ≡ cond (eqb with.job.session session) (solution script t.template.template_id share with ∷ []) []
template-solved script later older all session share with g h number id t =
    ap (λ o. solution_from script session (solved_by share) o (slice_get all.openings (share.channel - 1)))
    (marked-source later older all with.job share.job _ g t.marked number t.there)
    ∙ ap (λ l. cond (eqb with.job.session session) l []) (solution-unclosed script t.template (solved_by share) all.openings (share.channel - 1))
    ∙ ap (λ o. cond (eqb with.job.session session) (solution_to script (solved_by share) (Some t.template) o) [])
    (front-get (map unclosed (index_of older).openings) (map unclosed all.openings) (share.channel - 1) (unclosed h.mark) g.openings
    (get-map unclosed (index_of older).openings (share.channel - 1) h.mark
    (ap (λ n. slice_get (index_of older).openings (n - 1)) (sym id) ∙ h.there)))
    ∙ ap (λ l. cond (eqb with.job.session session) (solution_note script t.template (solved_by share) l ∷ []) []) (sym (ap (λ tag. tag.listener) h.is))
    ∙ ap (λ s. cond (eqb with.job.session session) (note.Solution t.template.template_id share.version share.ntime share.nonce
    (whole (job_parts s script) (extranonce_prefix with.channel.kind with.channel.lead ++ share.extranonce)) ∷ []) []) (sym t.source_is)

solved-by-template : (script : List ℕ) (session : ℕ) (share : Share) (with : Admitted) (template : TemplateData) → with.job.source ≡ FromTemplate template
    → solution_notes script session share with
    ≡ cond (eqb with.job.session session && is_block script with share) (solution script template.template_id share with ∷ []) []
solved-by-template script session share with template is = ap (solution_by script session share with) is

solved-by-miner : (script : List ℕ) (session : ℕ) (share : Share) (with : Admitted) (custom : CustomData) → with.job.source ≡ FromMiner custom
    → solution_notes script session share with ≡ []
solved-by-miner script session share with custom is = ap (solution_by script session share with) is

block-solved : (script : List ℕ) (later older : List Event) (all : IndexParts) (session : ℕ) (share : Share) (with : Admitted)
    → GrowsTo (index_of older) all → HasMark (index_of older) with.channel → with.job.number ≡ share.job → with.channel.id ≡ share.channel
    → IsTemplates older (index_of older).jobs with.job ⊎ IsMiners older (index_of older).jobs with.job → (block : Bool) → is_block script with share ≡ block
    → cond (eqb (cond block 1 0) 1) (solution_from script session (solved_by share)
    (marked_event (events_of (later ++ older)) (slice_get all.jobs (share.job - 1))) (slice_get all.openings (share.channel - 1))) []
    ≡ solution_notes script session share with
block-solved script later older all session share with g h number id (inl t) true is =
    template-solved script later older all session share with g h number id t
    ∙ ap (λ b. cond b (solution script t.template.template_id share with ∷ []) []) (sym (and-true (eqb with.job.session session)))
    ∙ ap (λ b. cond (eqb with.job.session session && b) (solution script t.template.template_id share with ∷ []) []) (sym is)
    ∙ sym (solved-by-template script session share with t.template t.source_is)
block-solved script later older all session share with g h number id (inl t) false is =
    ap (λ b. cond b (solution script t.template.template_id share with ∷ []) []) (sym (and-false (eqb with.job.session session)))
    ∙ ap (λ b. cond (eqb with.job.session session && b) (solution script t.template.template_id share with ∷ []) []) (sym is)
    ∙ sym (solved-by-template script session share with t.template t.source_is)
block-solved script later older all session share with g h number id (inr m) true is =
    ap (λ o. solution_from script session (solved_by share) o (slice_get all.openings (share.channel - 1)))
    (marked-source later older all with.job share.job _ g m.marked number m.there)
    ∙ sym (solved-by-miner script session share with m.custom m.source_is)
block-solved script later older all session share with g h number id (inr m) false is = sym (solved-by-miner script session share with m.custom m.source_is)

-- a credit
credit-told : (rules : Rules) (later : List Event) (crediting channel job nonce ntime version : ℕ) (extranonce : List ℕ) (older : List Event) (all : IndexParts) (session : ℕ)
    → LegalPast older → rules_of older ≡ Some rules → GrowsTo (index_of older) all
    → cond (eqb (cond (is_block_event older (event.Credit crediting channel job nonce ntime version extranonce)) 1 0) 1)
    (solution_told rules (events_of (later ++ older)) all session channel job
    (record { version = version; ntime = ntime; nonce = nonce; extranonce = extranonce })) []
    ≡ owed_notes_by rules (event.Credit crediting channel job nonce ntime version extranonce) older session
credit-told rules later crediting channel job nonce ntime version extranonce older all session l are g = by (booked_with older channel job) refl where
  e : Event
  e = event.Credit crediting channel job nonce ntime version extranonce

  by : (o : Option Admitted) → booked_with older channel job ≡ o
      → cond (eqb (cond (is_block_event older (event.Credit crediting channel job nonce ntime version extranonce)) 1 0) 1)
      (solution_told rules (events_of (later ++ older)) all session channel job
      (record { version = version; ntime = ntime; nonce = nonce; extranonce = extranonce })) []
      ≡ owed_notes_by rules (event.Credit crediting channel job nonce ntime version extranonce) older session
  by None is =
      ap (λ o. cond (eqb (cond (option_map_or (λ with. is_block (script_of older) with (credit_share with channel job nonce ntime version extranonce)) o false) 1 0) 1)
      (solution_told rules (events_of (later ++ older)) all session channel job
      (record { version = version; ntime = ntime; nonce = nonce; extranonce = extranonce })) []) is
      ∙ sym (ap (λ o. flat_map (λ notes. notes)
      (found_list (λ with. solution_notes rules.pool_script session (credit_share with channel job nonce ntime version extranonce) with) o)) is)
  by (Some with) is =
      let share : Share = credit_share with channel job nonce ntime version extranonce in
      let found : WasFound older channel job with = booked-found older channel job with is in
      let there : In with.channel (channels_of older) = find-in (λ c. eqb c.id channel) (channels_of older) with.channel found.channel_is in
      let id : with.channel.id ≡ channel =
      eqb-true with.channel.id channel (find-passes (λ c. eqb c.id channel) (channels_of older) with.channel found.channel_is) in
      let jobs : List Job = (jobs_of older).live ++ (jobs_of older).custom in
      let number : with.job.number ≡ job = eqb-true with.job.number job (find-passes (λ j. eqb j.number job) jobs with.job found.job_is) in
      ap (λ o. cond (eqb (cond (option_map_or (λ with. is_block (script_of older) with (credit_share with channel job nonce ntime version extranonce)) o false) 1 0) 1)
      (solution_told rules (events_of (later ++ older)) all session channel job
      (record { version = version; ntime = ntime; nonce = nonce; extranonce = extranonce })) []) is
      ∙ ap (λ s. cond (eqb (cond (is_block (script_in s) with share) 1 0) 1)
      (solution_told rules (events_of (later ++ older)) all session channel job
      (record { version = version; ntime = ntime; nonce = nonce; extranonce = extranonce })) []) are
      ∙ block-solved rules.pool_script later older all session share with g (marked-channel older with.channel (open-tags older l) there) number id
      (of_part with.job (in-append with.job (jobs_of older).live (jobs_of older).custom (find-in (λ j. eqb j.number job) jobs with.job found.job_is)))
      (is_block rules.pool_script with share) refl
      ∙ sym (append-nil (solution_notes rules.pool_script session share with))
      ∙ sym (ap (λ o. flat_map (λ notes. notes)
      (found_list (λ with. solution_notes rules.pool_script session (credit_share with channel job nonce ntime version extranonce) with) o)) is) where
        of_part : (j : Job) → In j (jobs_of older).live ⊎ In j (jobs_of older).custom
            → IsTemplates older (index_of older).jobs j ⊎ IsMiners older (index_of older).jobs j
        of_part j (inl i) = inl ((knows-jobs older).live j i)
        of_part j (inr i) = inr ((knows-jobs older).custom j i)

-- one event
pub told-is-owed : (rules : Rules) (later : List Event) (e : Event) (older : List Event) (session : ℕ) → LegalPast older → rules_of older ≡ Some rules
    → event_told rules (events_of (later ++ e ∷ older)) (index_of (later ++ e ∷ older)) session (length older)
    (detail_after (is_block_event older e) e (index_of older) (index_of (e ∷ older))) e
    ≡ owed_notes_by rules e older session
told-is-owed rules later (event.Open opening k account class lead) older session l are = opening-told rules later opening k account class lead older session
told-is-owed rules later (event.Template feed template) older session l are = template-told rules later feed template older session l
told-is-owed rules later (event.Tip feed tip) older session l are = tip-told rules later feed tip older session l
told-is-owed rules later (event.Credit crediting channel job nonce ntime version extranonce) older session l are =
    let e : Event = event.Credit crediting channel job nonce ntime version extranonce in
    ap (λ past. cond (eqb (cond (is_block_event older e) 1 0) 1)
    (solution_told rules (events_of past) (index_of (later ++ e ∷ older)) session channel job
    (record { version = version; ntime = ntime; nonce = nonce; extranonce = extranonce })) []) (sym (append_assoc later (e ∷ []) older))
    ∙ credit-told rules (later ++ e ∷ []) crediting channel job nonce ntime version extranonce older (index_of (later ++ e ∷ older)) session l are
    (grows-later later (e ∷ older))
told-is-owed rules later e older session l are = refl
