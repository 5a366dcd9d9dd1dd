-- The open channels of a legal history are as its rules allow.
use Rattle.std.proofs.Common.{◌⊎◌, inl, inr, ◌≡◌, ℕ, ◌+◌, true, false, not, Option, None, Some, List, [], ◌∷◌, ◌++◌, length, map, refl, subst, sym, ◌∙◌}
use Rattle.std.proofs.Math.Dec.{eqb}
use Rattle.std.proofs.lemmas.Bool.{and_parts, cond_both, false≢true}
use Rattle.std.specs.Prelude.{nat_lt}
use Rattle.std.specs.List.{AllByRecursion}
use Rattle.pool_history.specs.declared.causes.Cause.TheVariants as cause
use Rattle.pool_history.specs.declared.events.Event.{Event}
use Rattle.pool_history.specs.declared.events.Event.TheVariants as event
use Rattle.pool_history.specs.declared.events.Kind.{Kind}
use Rattle.pool_history.specs.declared.events.Kind.TheVariants as kind
use Rattle.pool_history.specs.declared.settings.Rules.{Rules}
use Rattle.pool_history.specs.Accounts.{is_known}
use Rattle.pool_history.specs.Channels.{OpenChannel, account_or, channel_moves, channels_of, class_before, with_name, opened, with_class}
use Rattle.pool_history.specs.Conditions.{or_code}
use Rattle.pool_history.specs.Legal.{LegalPast, cause_by, cause_of, is_class, is_lead_length, is_just, is_nameless, is_next_lead, is_opening_account, may_become, may_get, may_mine}
use Rattle.pool_history.specs.Refusing.{held_leads, own_channel}
use Rattle.pool_history.specs.Sessions.{past_of, rules_of}
use Rattle.pool_history.specs.Spaces.{lowest, overlap}
use Rattle.pool_history.proofs.PlacesOfClasses.{all-end, all-filter, all-map}
use Rattle.history_laws.specs.Lowest.{IsLowestFree}
use Rattle.history_laws.specs.Openings.{AreLeadsApart, IsAllowed, OpenChannelsFit, OpeningsGetLowest}
use Rattle.history_laws.proofs.Causes.{IsOpening, IsUncaused, legal_opening, opening_of, provided-both, uncaused, within-next}
use Rattle.history_laws.proofs.Entrances.{some-same}
use Rattle.history_laws.proofs.Holding.{Apart, channels-apart, just-some}
use Rattle.history_laws.proofs.Legalities.{none_caused, rules-older}
use Rattle.history_laws.proofs.Lowest.{found-lowest}

-- what an Open, a Name and a Class of a legal history say, by the rules
pub rules-opening : (rules : Rules) (past : List Event) (session : ℕ) (k : Kind) (account : List ℕ) (class : ℕ) (lead : List ℕ) → rules_of past ≡ Some rules
    → cause_of past (event.Open session k account class lead) ≡ None → IsOpening rules past session k account class lead
rules-opening rules past session k account class lead are n =
    let u : IsUncaused past (event.Open session k account class lead) = uncaused past (event.Open session k account class lead) refl n in
    opening_of rules past session k account class lead
    (subst (λ r. cause_by r past (event.Open session k account class lead) ≡ None) (some-same (sym u.are_rules ∙ are)) u.none)

pub name-known : (rules : Rules) (past : List Event) (session id : ℕ) (account : List ℕ) → rules_of past ≡ Some rules
    → cause_of past (event.Name session id account) ≡ None → is_known rules account ≡ true
name-known rules past session id account are n =
    let u : IsUncaused past (event.Name session id account) = uncaused past (event.Name session id account) refl n in
    subst (λ r. is_known r account ≡ true) (some-same (sym u.are_rules ∙ are))
    (by_channel u.rules (own_channel past session id)
    (provided-both (may_get u.rules account (own_channel past session id)) cause.BadName None
    (within-next may_mine past session (or_code (may_get u.rules account (own_channel past session id)) cause.BadName None) u.none)).0) where
      by_channel : (rules : Rules) (o : Option OpenChannel) → may_get rules account o ≡ true → is_known rules account ≡ true
      by_channel rules None h = absurd (false≢true h)
      by_channel rules (Some c) h = (and_parts (is_nameless c.kind c.account) (is_known rules account) h).1

pub class-allowed : (rules : Rules) (past : List Event) (session id class : ℕ) → rules_of past ≡ Some rules
    → cause_of past (event.Class session id class) ≡ None → is_class rules class ≡ true
class-allowed rules past session id class are n =
    let u : IsUncaused past (event.Class session id class) = uncaused past (event.Class session id class) refl n in
    subst (λ r. is_class r class ≡ true) (some-same (sym u.are_rules ∙ are))
    (by_channel u.rules (own_channel past session id)
    (provided-both (may_become u.rules class (own_channel past session id)) cause.BadClass None
    (within-next may_mine past session (or_code (may_become u.rules class (own_channel past session id)) cause.BadClass None) u.none)).0) where
      by_channel : (rules : Rules) (o : Option OpenChannel) → may_become rules class o ≡ true → is_class rules class ≡ true
      by_channel rules None h = absurd (false≢true h)
      by_channel rules (Some c) h = (and_parts (is_class rules class) _ h).0

-- the account of an opening
pub opening-account : (rules : Rules) (k : Kind) (account : List ℕ) → is_opening_account rules k account ≡ true
    → (is_known rules account ≡ true) ⊎ (is_nameless k account ≡ true)
opening-account rules kind.Standard account h = inl h
opening-account rules kind.Extended account h = inl h
opening-account rules kind.V1 account h = inr h

pub or-known : (rules : Rules) (k : Kind) (account name : List ℕ) → is_known rules name ≡ true → (is_known rules account ≡ true) ⊎ (is_nameless k account ≡ true)
    → (is_known rules (account_or account name) ≡ true) ⊎ (is_nameless k (account_or account name) ≡ true)
or-known rules k [] name known before = inl known
or-known rules k (x ∷ account) name known before = before

-- the lead of an opening is the lowest that is free
pub next-lowest : (past : List Event) (k : Kind) (lead : List ℕ) → is_next_lead past k lead ≡ true → IsLowestFree (length lead) (held_leads past) lead
next-lowest past k lead next =
    found-lowest (length lead) (held_leads past) lead
    (just-some lead (lowest (length lead) (held_leads past))
    (and_parts (is_lead_length k (length lead)) (is_just lead (lowest (length lead) (held_leads past))) next).1)

pub openings-lowest : OpeningsGetLowest
openings-lowest before after session k account class lead l =
    let o : (rules : Rules) × IsOpening rules (past_of before) session k account class lead =
    legal_opening (past_of before) session k account class lead
    (none_caused (before ++ event.Open session k account class lead ∷ after) l before (event.Open session k account class lead) after refl) in
    next-lowest (past_of before) k lead o.1.next

-- what is opened, named and set is allowed
pub opened-allowed : (rules : Rules) (past : List Event) (session id : ℕ) (k : Kind) (account : List ℕ) (class : ℕ) (lead : List ℕ)
    → IsOpening rules past session k account class lead
    → IsAllowed rules (record { id = id; session = session; kind = k; account = account; lead = lead; opening_class = class; sets = [] })
opened-allowed rules past session id k account class lead o = record {
  lead = (and_parts (is_lead_length k (length lead)) (is_just lead (lowest (length lead) (held_leads past))) o.next).0;
  bytes = (next-lowest past k lead o.next).is_string.each;
  class = o.in_range;
  classes = λ at. o.in_range;
  account = opening-account rules k account o.account_said;
}

pub named-allowed : (rules : Rules) (id : ℕ) (account : List ℕ) (c : OpenChannel) → is_known rules account ≡ true → IsAllowed rules c → IsAllowed rules (with_name id account c)
named-allowed rules id account c known a =
    cond_both (eqb c.id id) (record c { account = account_or c.account account }) c (IsAllowed rules)
    (λ t. record { lead = a.lead; bytes = a.bytes; class = a.class; classes = a.classes; account = or-known rules c.kind c.account account known a.account }) (λ f. a)

pub reclassed-allowed : (rules : Rules) (at id class : ℕ) (c : OpenChannel) → is_class rules class ≡ true → IsAllowed rules c → IsAllowed rules (with_class at id class c)
reclassed-allowed rules at id class c may a =
    cond_both (eqb c.id id) (record c { sets = record { at = at; class = class } ∷ c.sets }) c (IsAllowed rules)
    (λ t. record {
      lead = a.lead;
      bytes = a.bytes;
      class = may;
      classes = λ place.
          cond_both (nat_lt at place) class (class_before place c.sets c.opening_class) (λ n. is_class rules n ≡ true) (λ before. may) (λ later. a.classes place);
      account = a.account;
    }) (λ f. a)

pub channels-allowed : (past : List Event) (rules : Rules) → LegalPast past → rules_of past ≡ Some rules → AllByRecursion (IsAllowed rules) (channels_of past)
channels-allowed [] rules l are = tt
channels-allowed (event.Start first ∷ []) rules l are = tt
channels-allowed (event.Start first ∷ x ∷ older) rules l are = channels-allowed (x ∷ older) rules l.0 (sym (rules-older (event.Start first) x older) ∙ are)
channels-allowed (event.Open session k account class lead ∷ older) rules l are =
    all-end (IsAllowed rules) (channels_of older)
    (record { id = opened (channel_moves older) + 1; session = session; kind = k; account = account; lead = lead; opening_class = class; sets = [] })
    (channels-allowed older rules l.0 are)
    (opened-allowed rules older session (opened (channel_moves older) + 1) k account class lead
    (rules-opening rules older session k account class lead are l.1))
channels-allowed (event.Name session id account ∷ older) rules l are =
    let known : is_known rules account ≡ true = name-known rules older session id account are l.1 in
    all-map (IsAllowed rules) (IsAllowed rules) (with_name id account) (λ c a. named-allowed rules id account c known a) (channels_of older)
    (channels-allowed older rules l.0 are)
channels-allowed (event.Class session id class ∷ older) rules l are =
    let may : is_class rules class ≡ true = class-allowed rules older session id class are l.1 in
    all-map (IsAllowed rules) (IsAllowed rules) (with_class (length older) id class) (λ c a. reclassed-allowed rules (length older) id class c may a)
    (channels_of older) (channels-allowed older rules l.0 are)
channels-allowed (event.Close session id ∷ older) rules l are =
    all-filter (IsAllowed rules) (λ c. not (eqb c.id id)) (channels_of older) (channels-allowed older rules l.0 are)
channels-allowed (event.Leave session ∷ older) rules l are =
    all-filter (IsAllowed rules) (λ c. not (eqb c.session session)) (channels_of older) (channels-allowed older rules l.0 are)
channels-allowed (e ∷ older) rules l are = channels-allowed older rules l.0 are

-- the leads of channels that are apart
pub all-leads : (lead : List ℕ) (cs : List OpenChannel) → AllByRecursion (λ c. overlap lead c.lead ≡ false) cs
    → AllByRecursion (λ other. overlap lead other ≡ false) (map (λ c. c.lead) cs)
all-leads lead [] a = tt
all-leads lead (c ∷ cs) a = (a.0, all-leads lead cs a.1)

pub leads-apart : (cs : List OpenChannel) → Apart cs → AreLeadsApart (map (λ c. c.lead) cs)
leads-apart [] a = tt
leads-apart (c ∷ cs) a = (all-leads c.lead cs a.0, leads-apart cs a.1)

pub channels-fit : OpenChannelsFit
channels-fit h rules l are = record {
  allowed = channels-allowed (past_of h) rules l are;
  leads = leads-apart (channels_of (past_of h)) (channels-apart (past_of h) l);
}
