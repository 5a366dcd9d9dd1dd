-- What a legal history gives to the telling of its events, and what is told of one is owed for it.
use Rattle.std.proofs.Common.{◌⊎◌, inl, inr, ◌≡◌, ℕ, zero, suc, ◌+◌, ◌-◌, ◌≤◌, ◌^◌, Bool, true, false, cond, ◌||◌, not, is_some, Option, None, Some, List, [], ◌∷◌, ◌++◌, length, map, reverse, take, refl, ap, subst, sym, ◌∙◌, arith, append_assoc}
use Rattle.std.proofs.lemmas.List.{length-reverse, reverse-reverse}
use Rattle.std.specs.Prelude.{nat_lt, slice_get}
use Rattle.std.specs.List.{AllByRecursion}
use Rattle.coinbase.specs.Coin.{template_assembly}
use Rattle.pool_history.specs.declared.causes.Cause.TheVariants as cause
use Rattle.pool_history.specs.declared.events.Event.{Event}
use Rattle.pool_history.specs.declared.events.Event.TheVariants as event
use Rattle.pool_history.specs.declared.refusals.JobError.TheVariants as job_error
use Rattle.pool_history.specs.declared.settings.Rules.{Rules}
use Rattle.pool_history.specs.declared.templates.TemplateData.{TemplateData}
use Rattle.pool_history.specs.Channels.{channels_of}
use Rattle.pool_history.specs.Headers.{rolled_length}
use Rattle.pool_history.specs.Jobs.{Job, jobs_of}
use Rattle.pool_history.specs.Judging.{Admitted, template_terms}
use Rattle.pool_history.specs.Legal.{Legal, LegalPast, cause_of, may_feed, refused_as}
use Rattle.pool_history.specs.News.{owed_notes}
use Rattle.pool_history.specs.Refusing.{coinbase_refusal, is_template_known, most_templates, template_refusal}
use Rattle.pool_history.specs.Sessions.{enters, past_of, rules_of, templates}
use Rattle.pool_history.proofs.PlacesOfClasses.{all-end, all-weaken}
use Rattle.history_laws.specs.Legality.{Starts}
use Rattle.history_laws.specs.Fitting.{ScriptFits}
use Rattle.history_laws.specs.Limits.{KeepsLimits}
use Rattle.history_laws.specs.News.{owed_at}
use Rattle.history_laws.proofs.Causes.{IsUncaused, provided-both, uncaused, within-next}
use Rattle.history_laws.proofs.Crediting.{IsGoodCredit, WasFound, admission-booked, booked-found, good_credit, judged_share}
use Rattle.history_laws.proofs.Entrances.{none-some, some-same}
use Rattle.history_laws.proofs.JobsFit.{refused-none}
use Rattle.history_laws.proofs.Keeping.{find-passes}
use Rattle.history_laws.proofs.Legalities.{legal_starts, none_caused, past-append, past-cons, prefixes_legal, rules-older}
use Rattle.history_laws.proofs.Living.{In, find-in, length-one}
use Rattle.history_laws.proofs.NotesFit.{admission-rolls}
use Rattle.history_laws.proofs.Ranges.{script-range}
use Rattle.history_laws.proofs.Spending.{limits-kept}
use Rattle.std.proofs.Math.Dec.{eqb}
use Rattle.std.proofs.lemmas.Bool.{eqb-true}
use Rattle.event_store.specs.declared.marks.FutureMark.{FutureMark}
use Rattle.event_store.specs.declared.marks.OpeningMark.{OpeningMark}
use Rattle.event_store.specs.Index.{IndexParts, details_of, index_of}
use Rattle.event_store.specs.Telling.{CanTell, HasFutures, RollsItsBytes}
use Rattle.event_store.specs.Told.{IsAccepted, event_template, event_told}
use Rattle.event_store.proofs.Chained.{marks-chained}
use Rattle.event_store.proofs.Changed.{all-changed}
use Rattle.event_store.proofs.Entered.{sessions-length}
use Rattle.event_store.proofs.Later.{GrowsTo, detail-at, front-get, grows-later, unclosed}
use Rattle.event_store.proofs.Listened.{HasMark, marked-channel, open-tags}
use Rattle.event_store.proofs.Owed.{get-map, told-is-owed}
use Rattle.event_store.proofs.Sourced.{futures-within}

-- a history at a place
pub record IsSplit (events : List Event) (at : ℕ) (e : Event) : Type 0 where
  pub before : List Event
  pub after : List Event
  pub joined : events ≡ before ++ e ∷ after
  pub place : length before ≡ at

pub split-at : (events : List Event) (at : ℕ) (e : Event) → slice_get events at ≡ Some e → IsSplit events at e
split-at [] at e is = absurd (none-some is)
split-at (x ∷ events) zero e is = record {
  before = [];
  after = events;
  joined = ap (λ y. y ∷ events) (some-same is);
  place = refl;
}
split-at (x ∷ events) (suc at) e is =
    let s : IsSplit events at e = split-at events at e is in
    record {
      before = x ∷ s.before;
      after = s.after;
      joined = ap (λ l. x ∷ l) s.joined;
      place = ap suc s.place;
    }

pub past-split : (before : List Event) (e : Event) (after : List Event) → past_of (before ++ e ∷ after) ≡ past_of after ++ e ∷ past_of before
past-split before e after =
    past-append before (e ∷ after) ∙ ap (λ l. l ++ past_of before) (past-cons e after) ∙ append_assoc (past_of after) (e ∷ []) (past_of before)

-- the rules stay
rules-stay : (later older : List Event) (rules : Rules) → rules_of older ≡ Some rules → rules_of (later ++ older) ≡ Some rules
rules-stay [] older rules are = are
rules-stay (e ∷ later) older rules are = by (later ++ older) (rules-stay later older rules are) where
  by : (past : List Event) → rules_of past ≡ Some rules → rules_of (e ∷ past) ≡ Some rules
  by [] none = absurd (none-some none)
  by (x ∷ past) some = rules-older e x past ∙ some

front-rules : (before : List Event) (e : Event) (after : List Event) (old rules : Rules) → rules_of (past_of before) ≡ Some old
    → rules_of (past_of (before ++ e ∷ after)) ≡ Some rules → old ≡ rules
front-rules before e after old rules were are =
    some-same (sym (ap rules_of (past-split before e after)
    ∙ ap rules_of (sym (append_assoc (past_of after) (e ∷ []) (past_of before)))
    ∙ rules-stay (past_of after ++ e ∷ []) (past_of before) old were) ∙ are)

-- an event at a place has no cause
at-uncaused : (events : List Event) (at : ℕ) (e : Event) → Legal events → (s : IsSplit events at e) → cause_of (past_of s.before) e ≡ None
at-uncaused events at e l s = none_caused events l s.before e s.after s.joined

-- a template was accepted
accepted-at : (events : List Event) (rules : Rules) (at feed : ℕ) (template : TemplateData) → Legal events → rules_of (past_of events) ≡ Some rules
    → slice_get events at ≡ Some (event.Template feed template) → IsAccepted rules.pool_script template
accepted-at events rules at feed template l are is =
    let s : IsSplit events at (event.Template feed template) = split-at events at (event.Template feed template) is in
    let past : List Event = past_of s.before in
    let u : IsUncaused past (event.Template feed template) =
    uncaused past (event.Template feed template) refl (at-uncaused events at (event.Template feed template) l s) in
    let same : u.rules ≡ rules =
    front-rules s.before (event.Template feed template) s.after u.rules rules u.are_rules (subst (λ h. rules_of (past_of h) ≡ Some rules) s.joined are) in
    let none : template_refusal u.rules.pool_script past template ≡ None =
    refused-none cause.BadTemplate (template_refusal u.rules.pool_script past template)
    (within-next may_feed past feed (refused_as cause.BadTemplate (template_refusal u.rules.pool_script past template)) u.none) in
    let jobs : List Job = (jobs_of past).future ++ (jobs_of past).live in
    let a = provided-both (nat_lt (templates past) most_templates) (job_error.TooMany (templates past)) _ none in
    let b = provided-both (not (is_template_known jobs template.template_id)) (job_error.TemplateKnown template.template_id) _ a.1 in
    let c = provided-both (template.future_template || is_some (jobs_of past).tip) job_error.NoTip _ b.1 in
    subst (λ r. coinbase_refusal (template_assembly (template_terms template) r.pool_script) ≡ None) same c.1

template-accepted : (events : List Event) (rules : Rules) (at : ℕ) (template : TemplateData) → Legal events → rules_of (past_of events) ≡ Some rules
    → event_template (slice_get events at) ≡ Some template → IsAccepted rules.pool_script template
template-accepted events rules at template l are is = by (slice_get events at) refl is where
  by : (o : Option Event) → slice_get events at ≡ o → event_template o ≡ Some template → IsAccepted rules.pool_script template
  by None none h = absurd (none-some h)
  by (Some (event.Template feed there)) found h =
      accepted-at events rules at feed template l are (found ∙ ap (λ t. Some (event.Template feed t)) (some-same h))
  by (Some e) found h = absurd (none-some h)

-- the future templates of an opening are kept
futures-more : (xs : List FutureMark) (x : FutureMark) (future : Bool) (openings : List OpeningMark)
    → AllByRecursion (HasFutures (length xs)) openings → AllByRecursion (HasFutures (length (cond future (xs ++ x ∷ []) xs))) openings
futures-more xs x true openings a =
    all-weaken (HasFutures (length xs)) (HasFutures (length (xs ++ x ∷ [])))
    (λ mark h. record {
      in_order = h.in_order;
      within =
          let one : length (xs ++ x ∷ []) ≡ length xs + 1 = length-one xs x in
          let few : mark.end_future ≤ length xs = h.within in
          omega (arith, one, few);
    }) openings a
futures-more xs x false openings a = a

openings-futures : (past : List Event) → AllByRecursion (HasFutures (length (index_of past).futures)) (index_of past).openings
openings-futures [] = tt
openings-futures (event.Template session template ∷ older) =
    futures-more (index_of older).futures _ template.future_template (index_of older).openings (openings-futures older)
openings-futures (event.Open session kind account class lead ∷ older) =
    all-end (HasFutures (length (index_of older).futures)) (index_of older).openings _ (openings-futures older)
    (record { in_order = futures-within older; within = omega arith })
openings-futures (event.Close session channel ∷ older) =
    all-changed (HasFutures (length (index_of older).futures)) _ (λ mark h. record { in_order = h.in_order; within = h.within }) (index_of older).openings _ (openings-futures older)
openings-futures (e ∷ older) = openings-futures older

-- so the telling has what it takes
pub can-tell : (events : List Event) (rules : Rules) → Legal events → rules_of (past_of events) ≡ Some rules → CanTell rules events (index_of (past_of events))
can-tell events rules l are = record {
  script = by_start (legal_starts events l);
  accepted = λ at template is. template-accepted events rules at template l are is;
  chained = marks-chained (past_of events) l;
  few =
      let limits : KeepsLimits events = limits-kept events l in
      let some : length (index_of (past_of events)).sessions ≡ enters (past_of events) = sessions-length (past_of events) in
      let most : enters (past_of events) ≤ 2 ^ 22 = limits.entered in
      omega (arith, some, most);
  futures = openings-futures (past_of events);
} where
  by_start : (events ≡ []) ⊎ Starts events → ScriptFits rules.pool_script
  by_start (inl none) = absurd (none-some (sym (ap (λ h. rules_of (past_of h)) none) ∙ are))
  by_start (inr s) =
      let same : s.rules ≡ rules = some-same (sym s.are_rules ∙ are) in
      let r : (1 ≤ length s.rules.pool_script) × (length s.rules.pool_script ≤ 100) = script-range s.rules s.in_range in
      subst (λ r. ScriptFits r.pool_script) same (record { some = r.0; short = r.1 })

-- a credit has the bytes that its channel rolls
credit-rolls : (later older : List Event) (crediting channel job nonce ntime version : ℕ) (extranonce : List ℕ) (all : IndexParts) → GrowsTo (index_of older) all
    → LegalPast older → cause_of older (event.Credit crediting channel job nonce ntime version extranonce) ≡ None
    → RollsItsBytes all (event.Credit crediting channel job nonce ntime version extranonce)
credit-rolls later older crediting channel job nonce ntime version extranonce all g l n mark is =
    let share = judged_share older channel job nonce ntime version extranonce in
    let good : IsGoodCredit older crediting share = good_credit older crediting channel job nonce ntime version extranonce n in
    let with : Admitted = good.good.with in
    let found : WasFound older channel job with = booked-found older channel job with (admission-booked good.rules older crediting share with good.good.is_admitted) in
    let there : In with.channel (channels_of older) = find-in (λ c. eqb c.id channel) (channels_of older) with.channel found.channel_is in
    let id : with.channel.id ≡ channel = eqb-true with.channel.id channel (find-passes (λ c. eqb c.id channel) (channels_of older) with.channel found.channel_is) in
    let h : HasMark (index_of older) with.channel = marked-channel older with.channel (open-tags older l) there in
    let old : slice_get (map unclosed all.openings) (channel - 1) ≡ Some (unclosed h.mark) =
    front-get (map unclosed (index_of older).openings) (map unclosed all.openings) (channel - 1) (unclosed h.mark) g.openings
    (get-map unclosed (index_of older).openings (channel - 1) h.mark (ap (λ m. slice_get (index_of older).openings (m - 1)) (sym id) ∙ h.there)) in
    let same : unclosed mark ≡ unclosed h.mark = some-same (sym (get-map unclosed all.openings (channel - 1) mark is) ∙ old) in
    admission-rolls good.rules older crediting share with good.good.is_admitted
    ∙ ap (λ tag. rolled_length tag.listener.kind tag.listener.lead) h.is
    ∙ sym (ap (λ (m : OpeningMark). rolled_length m.listener.kind m.listener.lead) same)

event-rolls : (later : List Event) (e : Event) (older : List Event) → LegalPast older → cause_of older e ≡ None → RollsItsBytes (index_of (later ++ e ∷ older)) e
event-rolls later (event.Credit crediting channel job nonce ntime version extranonce) older l n =
    let e : Event = event.Credit crediting channel job nonce ntime version extranonce in
    credit-rolls later older crediting channel job nonce ntime version extranonce (index_of (later ++ e ∷ older)) (grows-later later (e ∷ older)) l n
event-rolls later e older l n = tt

pub rolls-at : (events : List Event) (at : ℕ) (e : Event) → Legal events → slice_get events at ≡ Some e → RollsItsBytes (index_of (past_of events)) e
rolls-at events at e l is =
    let s : IsSplit events at e = split-at events at e is in
    subst (λ past. RollsItsBytes (index_of past) e) (sym (ap past_of s.joined ∙ past-split s.before e s.after))
    (event-rolls (past_of s.after) e (past_of s.before) (prefixes_legal s.before (e ∷ s.after) (subst Legal s.joined l)) (at-uncaused events at e l s))

-- the first event owes nothing, and is told nothing
first-told : (rules : Rules) (events : List Event) (index : IndexParts) (e : Event) (session detail : ℕ) (o : Option Rules) → cause_of [] e ≡ None
    → event_told rules events index session 0 detail e ≡ owed_notes o e [] session
first-told rules events index (event.Start first) session detail None n = refl
first-told rules events index (event.Start first) session detail (Some r) n = refl
first-told rules events index e session detail o n = absurd (none-some (sym n))

pub take-split : (before after : List Event) → take (length before) (before ++ after) ≡ before
take-split [] after = refl
take-split (x ∷ before) after = ap (λ l. x ∷ l) (take-split before after)

-- the place of an event in a history, by its past
at-place : (events : List Event) (at : ℕ) (e : Event) → (s : IsSplit events at e) → length (past_of s.before) ≡ at
at-place events at e s = length-reverse s.before ∙ s.place

detail-is : (events : List Event) (at detail : ℕ) (e : Event) → (s : IsSplit events at e) → slice_get (details_of (past_of events)) at ≡ Some detail
    → slice_get (details_of (past_of s.after ++ e ∷ past_of s.before)) (length (past_of s.before)) ≡ Some detail
detail-is events at detail e s is =
    ap (λ n. slice_get (details_of (past_of s.after ++ e ∷ past_of s.before)) n) (at-place events at e s)
    ∙ ap (λ past. slice_get (details_of past) at) (sym (ap past_of s.joined ∙ past-split s.before e s.after)) ∙ is

-- what is told of an event is what is owed for it
pub told-at : (events : List Event) (rules : Rules) (at detail : ℕ) (e : Event) (session : ℕ) → Legal events → rules_of (past_of events) ≡ Some rules
    → slice_get events at ≡ Some e → slice_get (details_of (past_of events)) at ≡ Some detail
    → event_told rules events (index_of (past_of events)) session at detail e ≡ owed_at (take at events) e session
told-at events rules at detail e session l are is detailed = by_front (legal_starts s.before front) ∙ ap (λ h. owed_at h e session) (sym taken) where
  s : IsSplit events at e
  s = split-at events at e is

  front : Legal s.before
  front = prefixes_legal s.before (e ∷ s.after) (subst Legal s.joined l)

  taken : take at events ≡ s.before
  taken = ap (λ n. take n events) (sym s.place) ∙ ap (take (length s.before)) s.joined ∙ take-split s.before (e ∷ s.after)

  past_is : past_of events ≡ past_of s.after ++ e ∷ past_of s.before
  past_is = ap past_of s.joined ∙ past-split s.before e s.after

  by_front : (s.before ≡ []) ⊎ Starts s.before → event_told rules events (index_of (past_of events)) session at detail e ≡ owed_at s.before e session
  by_front (inl none) =
      ap (λ n. event_told rules events (index_of (past_of events)) session n detail e) (sym s.place ∙ ap length none)
      ∙ first-told rules events (index_of (past_of events)) e session detail (rules_of (e ∷ [])) (subst (λ h. cause_of (past_of h) e ≡ None) none (at-uncaused events at e l s))
      ∙ ap (λ h. owed_at h e session) (sym none)
  by_front (inr st) =
      let same : st.rules ≡ rules =
      front-rules s.before e s.after st.rules rules st.are_rules (subst (λ h. rules_of (past_of h) ≡ Some rules) s.joined are) in
      let ruled : rules_of (past_of s.before) ≡ Some rules = st.are_rules ∙ ap Some same in
      ap (λ h. event_told rules h (index_of (past_of events)) session at detail e) (sym (reverse-reverse events))
      ∙ ap (λ past. event_told rules (reverse past) (index_of past) session at detail e) past_is
      ∙ ap (λ n. event_told rules (reverse (past_of s.after ++ e ∷ past_of s.before)) (index_of (past_of s.after ++ e ∷ past_of s.before)) session n detail e)
      (sym (at-place events at e s))
      ∙ ap (λ d. event_told rules (reverse (past_of s.after ++ e ∷ past_of s.before)) (index_of (past_of s.after ++ e ∷ past_of s.before)) session (length (past_of s.before)) d e)
      (some-same (sym (detail-is events at detail e s detailed) ∙ detail-at (past_of s.after) e (past_of s.before)))
      ∙ told-is-owed rules (past_of s.after) e (past_of s.before) session front ruled
      ∙ ap (λ o. owed_notes o e (past_of s.before) session) (sym (rules-stay (e ∷ []) (past_of s.before) rules ruled))
