-- A legal event can be marked, and its marks are those of the history with it.
use Rattle.std.proofs.Common.{◌≡◌, ℕ, ◌+◌, ◌-◌, ◌<◌, ◌≤◌, ◌^◌, Bool, List, [], ◌∷◌, ◌++◌, length, ap, sym, ◌∙◌, arith}
use Rattle.std.proofs.lemmas.Bool.{and_parts}
use Rattle.std.proofs.lemmas.List.{length-reverse}
use Rattle.pool_history.specs.declared.events.Event.{Event}
use Rattle.pool_history.specs.declared.events.Event.TheVariants as event
use Rattle.pool_history.specs.declared.events.Kind.{Kind}
use Rattle.pool_history.specs.declared.settings.Rules.{Rules}
use Rattle.pool_history.specs.Jobs.{jobs_of}
use Rattle.pool_history.specs.Legal.{Legal, is_just, is_lead_length}
use Rattle.pool_history.specs.Refusing.{held_leads}
use Rattle.pool_history.specs.Sessions.{grants, opens, past_of, templates}
use Rattle.pool_history.specs.Spaces.{lowest}
use Rattle.history_laws.specs.Limits.{KeepsLimits, customs}
use Rattle.history_laws.proofs.Causes.{IsOpening, legal_opening}
use Rattle.history_laws.proofs.ChannelsFit.{briefing-lead, lead-few}
use Rattle.history_laws.proofs.Legalities.{one_more_legal, past-one}
use Rattle.history_laws.proofs.Living.{length-one}
use Rattle.history_laws.proofs.Spending.{limits-kept}
use Rattle.event_store.specs.Blocks.{is_block_event}
use Rattle.event_store.specs.Index.{IndexParts, detail_after, details_of, index_after, index_of}
use Rattle.event_store.specs.Kept.{IsKeptHistory}
use Rattle.event_store.specs.Marking.{CanMark, CanMarkOpening}
use Rattle.event_store.specs.Places.{common_place, common_places}
use Rattle.event_store.proofs.Listened.{openings-length}
use Rattle.event_store.proofs.Sourced.{jobs-length}

jobs-few : (events : List Event) → Legal events → length (index_of (past_of events)).jobs < 2 ^ 32 - 1
jobs-few events l =
    let limits : KeepsLimits events = limits-kept events l in
    let same : length (index_of (past_of events)).jobs ≡ length (jobs_of (past_of events)).all = jobs-length (past_of events) in
    let all : length (jobs_of (past_of events)).all ≡ templates (past_of events) + customs (past_of events) = limits.jobs in
    let came : templates (past_of events) ≤ 2 ^ 20 = limits.came in
    let granted : grants (past_of events) ≤ 2 ^ 18 = limits.granted in
    let brought : customs (past_of events) ≤ grants (past_of events) = limits.brought in
    omega (arith, same, all, came, granted, brought)

openings-few : (events : List Event) → Legal events → length (index_of (past_of events)).openings < 2 ^ 32 - 1
openings-few events l =
    let limits : KeepsLimits events = limits-kept events l in
    let same : length (index_of (past_of events)).openings ≡ opens (past_of events) = openings-length (past_of events) in
    let opened : opens (past_of events) ≤ 2 ^ 22 = limits.opened in
    omega (arith, same, opened)

can-mark-opening : (events : List Event) (session : ℕ) (k : Kind) (account : List ℕ) (class : ℕ) (lead : List ℕ)
    → Legal (events ++ event.Open session k account class lead ∷ []) → CanMarkOpening (index_of (past_of events)) k lead
can-mark-opening events session k account class lead l =
    let parts = (one_more_legal events (event.Open session k account class lead)).0 l in
    let o : (rules : Rules) × IsOpening rules (past_of events) session k account class lead = legal_opening (past_of events) session k account class lead parts.1 in
    let fits = (and_parts (is_lead_length k (length lead)) (is_just lead (lowest (length lead) (held_leads (past_of events)))) o.1.next).0 in
    record {
      few = openings-few events parts.0;
      some = (lead-few k lead fits).0;
      most = (lead-few k lead fits).1;
      whole = briefing-lead k lead fits;
    }

-- a legal event
pub can-mark : (events : List Event) (e : Event) → Legal (events ++ e ∷ []) → CanMark (index_of (past_of events)) e
can-mark events (event.Template session template) l = jobs-few events ((one_more_legal events (event.Template session template)).0 l).0
can-mark events (event.Custom session custom) l = jobs-few events ((one_more_legal events (event.Custom session custom)).0 l).0
can-mark events (event.Open session k account class lead) l = can-mark-opening events session k account class lead l
can-mark events e l = tt

-- the history with it
pub kept-more : (events : List Event) (details : List ℕ) (index after : IndexParts) (common listed : List ℕ) (e : Event) (block : Bool) (detail : ℕ)
    → IsKeptHistory events details index common
    → Legal (events ++ e ∷ []) → length events + 1 < 2 ^ 62 → block ≡ is_block_event (past_of events) e
    → after ≡ index_after (length events) e index → detail ≡ detail_after block e index after
    → listed ≡ common ++ common_place block e (length events)
    → IsKeptHistory (events ++ e ∷ []) (details ++ detail ∷ []) after listed
kept-more events details index after common listed e block detail k l few is after_is detail_is listed_is =
    let one : length (events ++ e ∷ []) ≡ length events + 1 = length-one events e in
    let marked : after ≡ index_of (e ∷ past_of events) =
    after_is ∙ ap (λ n. index_after n e index) (sym (length-reverse events)) ∙ ap (index_after (length (past_of events)) e) k.marked in
    let detailed : detail ≡ detail_after (is_block_event (past_of events) e) e (index_of (past_of events)) (index_of (e ∷ past_of events)) =
    detail_is ∙ ap (λ b. detail_after b e index after) is ∙ ap (λ i. detail_after (is_block_event (past_of events) e) e i after) k.marked
    ∙ ap (detail_after (is_block_event (past_of events) e) e (index_of (past_of events))) marked in
    record {
      legal = l;
      started = omega (arith, one);
      few = omega (arith, one, few);
      detailed =
          ap (λ d. d ++ detail ∷ []) k.detailed ∙ ap (λ d. details_of (past_of events) ++ d ∷ []) detailed ∙ sym (ap details_of (past-one events e));
      marked = marked ∙ sym (ap index_of (past-one events e));
      listed =
          listed_is ∙ ap (λ l. l ++ common_place block e (length events)) k.listed
          ∙ ap (λ b. common_places (past_of events) ++ common_place b e (length events)) is
          ∙ ap (λ n. common_places (past_of events) ++ common_place (is_block_event (past_of events) e) e n) (sym (length-reverse events))
          ∙ sym (ap common_places (past-one events e));
    }
