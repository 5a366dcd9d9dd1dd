-- The leads of open channels have lengths of their kinds.
use Rattle.std.proofs.Common.{◌≡◌, ℕ, ◌+◌, ◌≤◌, true, not, Some, List, [], ◌∷◌, length, arith}
use Rattle.std.proofs.Math.Dec.{eqb}
use Rattle.std.proofs.lemmas.Bool.{and_parts, cond_both, eqb-true, leb-true}
use Rattle.std.specs.Prelude.{nat_le}
use Rattle.std.specs.List.{AllByRecursion}
use Rattle.pool_history.specs.declared.events.Event.{Event}
use Rattle.pool_history.specs.declared.events.Event.TheVariants as event
use Rattle.pool_history.specs.declared.events.Kind.{Kind}
use Rattle.pool_history.specs.declared.events.Kind.TheVariants as kind
use Rattle.pool_history.specs.declared.settings.Rules.{Rules}
use Rattle.pool_history.specs.Channels.{OpenChannel, account_or, channel_in, channel_moves, channels_of, with_name, opened, with_class}
use Rattle.pool_history.specs.Headers.{IsBriefing}
use Rattle.pool_history.specs.Legal.{LegalPast, is_just, is_lead_length}
use Rattle.pool_history.specs.Refusing.{held_leads}
use Rattle.pool_history.specs.Spaces.{lowest}
use Rattle.pool_history.proofs.PlacesOfClasses.{all-end, all-filter, all-map}
use Rattle.history_laws.proofs.Causes.{IsOpening, legal_opening}
use Rattle.history_laws.proofs.Holding.{all-find}

-- a lead has a length of its channel's kind
abbrev pub HasLead : OpenChannel → Type 0
HasLead c = is_lead_length c.kind (length c.lead) ≡ true

pub named-has_lead : (id : ℕ) (account : List ℕ) (c : OpenChannel) → HasLead c → HasLead (with_name id account c)
named-has_lead id account c h =
    cond_both (eqb c.id id) (record c { account = account_or c.account account }) c HasLead (λ t. h) (λ f. h)

pub reclassed-has_lead : (at id class : ℕ) (c : OpenChannel) → HasLead c → HasLead (with_class at id class c)
reclassed-has_lead at id class c h =
    cond_both (eqb c.id id) (record c { sets = record { at = at; class = class } ∷ c.sets }) c HasLead (λ t. h) (λ f. h)

pub channels-have_leads : (past : List Event) → LegalPast past → AllByRecursion HasLead (channels_of past)
channels-have_leads [] l = tt
channels-have_leads (event.Open session k account class lead ∷ older) l =
    let o : (rules : Rules) × IsOpening rules older session k account class lead = legal_opening older session k account class lead l.1 in
    all-end HasLead (channels_of older)
    (record { id = opened (channel_moves older) + 1; session = session; kind = k; account = account; lead = lead; opening_class = class; sets = [] })
    (channels-have_leads older l.0)
    (and_parts (is_lead_length k (length lead)) (is_just lead (lowest (length lead) (held_leads older))) o.1.next).0
channels-have_leads (event.Name session id account ∷ older) l =
    all-map HasLead HasLead (with_name id account) (named-has_lead id account) (channels_of older) (channels-have_leads older l.0)
channels-have_leads (event.Class session id class ∷ older) l =
    all-map HasLead HasLead (with_class (length older) id class) (reclassed-has_lead (length older) id class) (channels_of older) (channels-have_leads older l.0)
channels-have_leads (event.Close session id ∷ older) l = all-filter HasLead (λ c. not (eqb c.id id)) (channels_of older) (channels-have_leads older l.0)
channels-have_leads (event.Leave session ∷ older) l =
    all-filter HasLead (λ c. not (eqb c.session session)) (channels_of older) (channels-have_leads older l.0)
channels-have_leads (e ∷ older) l = channels-have_leads older l.0

-- an open channel's
pub open-has_lead : (past : List Event) (id : ℕ) (c : OpenChannel) → LegalPast past → channel_in (channels_of past) id ≡ Some c → HasLead c
open-has_lead past id c l found = all-find HasLead (λ d. eqb d.id id) (channels_of past) c (channels-have_leads past l) found

-- so a standard channel's has four bytes, and no other more
pub briefing-lead : (k : Kind) (lead : List ℕ) → is_lead_length k (length lead) ≡ true → IsBriefing k lead
briefing-lead kind.Standard lead h = record { standard = λ same. eqb-true (length lead) 4 h }
briefing-lead kind.Extended lead h = record { standard = λ same. cc }
briefing-lead kind.V1 lead h = record { standard = λ same. cc }

pub lead-few : (k : Kind) (lead : List ℕ) → is_lead_length k (length lead) ≡ true → (1 ≤ length lead) × (length lead ≤ 4)
lead-few kind.Standard lead h = let four : length lead ≡ 4 = eqb-true (length lead) 4 h in (omega (arith, four), omega (arith, four))
lead-few kind.Extended lead h =
    let p : (nat_le 1 (length lead) ≡ true) × (nat_le (length lead) 4 ≡ true) = and_parts (nat_le 1 (length lead)) (nat_le (length lead) 4) h in
    (leb-true 1 (length lead) p.0, leb-true (length lead) 4 p.1)
lead-few kind.V1 lead h =
    let p : (nat_le 1 (length lead) ≡ true) × (nat_le (length lead) 4 ≡ true) = and_parts (nat_le 1 (length lead)) (nat_le (length lead) 4) h in
    (leb-true 1 (length lead) p.0, leb-true (length lead) 4 p.1)
