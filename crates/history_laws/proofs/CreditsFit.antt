-- What the credits of a legal history count is in its ranges.
use Rattle.std.proofs.Common.{◌⊎◌, inl, inr, ◌≡◌, ℕ, ◌+◌, ◌++◌, ◌<◌, ◌≤◌, ◌^◌, Bool, true, false, cond, ◌&&◌, ◌||◌, not, Option, None, Some, List, [], ◌∷◌, length, refl, subst, sym, ◌∙◌, arith}
use Rattle.std.proofs.Math.Dec.{eqb}
use Rattle.std.proofs.Math.Nat.{one-le-pow, pow-le-pow_right}
use Rattle.std.proofs.lemmas.Bool.{and_parts, cond_both, false≢true, leb-true, ltb-true}
use Rattle.std.specs.Prelude.{nat_eq, nat_le, nat_lt}
use Rattle.std.specs.List.{AllByRecursion, list_all, list_any}
use Rattle.std.specs.Str.{bytes_eq}
use Rattle.pool_history.specs.declared.causes.Cause.TheVariants as cause
use Rattle.pool_history.specs.declared.events.Event.{Event}
use Rattle.pool_history.specs.declared.events.Event.TheVariants as event
use Rattle.pool_history.specs.declared.events.Kind.{Kind}
use Rattle.pool_history.specs.declared.events.Kind.TheVariants as kind
use Rattle.pool_history.specs.declared.settings.Rules.{Rules}
use Rattle.pool_history.specs.Accounts.{is_account, is_empty, is_known, is_visible}
use Rattle.pool_history.specs.Channels.{OpenChannel, account_or, channel_in, channel_moves, channels_of, class_at, class_before, with_name, opened, with_class}
use Rattle.pool_history.specs.Crediting.{bookings_of, booking, admitted_class, is_block, reward_of}
use Rattle.pool_history.specs.Jobs.{FromMiner, FromTemplate, Source, jobs_of}
use Rattle.pool_history.specs.Judging.{Admitted, Share, agree, has_account, is_standard}
use Rattle.pool_history.specs.Conditions.{or_code}
use Rattle.pool_history.specs.Legal.{LegalPast, cause_of, is_class, is_nameless, is_opening_account, may_become, may_get, may_mine}
use Rattle.pool_history.specs.Refusing.{own_channel}
use Rattle.pool_history.specs.Sessions.{past_of}
use Rattle.pool_history.proofs.PlacesOfClasses.{all-end, all-filter, all-map}
use Rattle.history_laws.specs.Credited.{BookedFits, CreditsFit}
use Rattle.history_laws.proofs.Answering.{HasChannel, admission-channel}
use Rattle.history_laws.proofs.Causes.{IsOpening, IsUncaused, legal_opening, provided-both, uncaused, within-next}
use Rattle.history_laws.proofs.Crediting.{Adds, IsGoodCredit, admission-booked, booked-channel, credit-adds, good_credit, judged_share}
use Rattle.history_laws.proofs.Entrances.{none-some, some-same}
use Rattle.history_laws.proofs.Holding.{all-find}
use Rattle.history_laws.proofs.JobsFit.{IsMiners, TemplateFits, jobs-fit}
use Rattle.history_laws.proofs.Living.{In, find-in}
use Rattle.history_laws.proofs.NotesFit.{alive-fits, booked-job}

-- a channel's account is short, and its class at each place has a target
pub record IsSized (c : OpenChannel) : Type 0 where
  pub account : length c.account ≤ 255
  pub class : (at : ℕ) → class_at c at ≤ 60

-- a known account is short
pub known-short : (rules : Rules) (account : List ℕ) → is_known rules account ≡ true → length account ≤ 255
known-short rules account h =
    let a = and_parts (is_account account) (is_empty rules.users || list_any (bytes_eq account) rules.users) h in
    let b = and_parts (nat_le 1 (length account) && nat_le (length account) 255) (list_all is_visible account) a.0 in
    leb-true (length account) 255 (and_parts (nat_le 1 (length account)) (nat_le (length account) 255) b.0).1

pub opening-short : (rules : Rules) (k : Kind) (account : List ℕ) → is_opening_account rules k account ≡ true → length account ≤ 255
opening-short rules kind.Standard account h = known-short rules account h
opening-short rules kind.Extended account h = known-short rules account h
opening-short rules kind.V1 [] h = omega arith
opening-short rules kind.V1 (x ∷ account) h = absurd (false≢true h)

pub class-most : (rules : Rules) (class : ℕ) → is_class rules class ≡ true → class ≤ 60
class-most rules class h = leb-true class 60 (and_parts (nat_le rules.least_class class) (nat_le class 60) h).1

-- an accepted Name and an accepted Class
pub legal-name : (past : List Event) (session id : ℕ) (account : List ℕ) → cause_of past (event.Name session id account) ≡ None → length account ≤ 255
legal-name past session id account n =
    let u : IsUncaused past (event.Name session id account) = uncaused past (event.Name session id account) refl n in
    by_channel u.rules (own_channel past session id)
    (provided-both (may_get u.rules account (own_channel past session id)) cause.BadName None
    (within-next may_mine past session (or_code (may_get u.rules account (own_channel past session id)) cause.BadName None) u.none)).0 where
      by_channel : (rules : Rules) (o : Option OpenChannel) → may_get rules account o ≡ true → length account ≤ 255
      by_channel rules None h = absurd (false≢true h)
      by_channel rules (Some c) h = known-short rules account (and_parts (is_nameless c.kind c.account) (is_known rules account) h).1

pub legal-class : (past : List Event) (session id class : ℕ) → cause_of past (event.Class session id class) ≡ None → class ≤ 60
legal-class past session id class n =
    let u : IsUncaused past (event.Class session id class) = uncaused past (event.Class session id class) refl n in
    by_channel u.rules (own_channel past session id)
    (provided-both (may_become u.rules class (own_channel past session id)) cause.BadClass None
    (within-next may_mine past session (or_code (may_become u.rules class (own_channel past session id)) cause.BadClass None) u.none)).0 where
      by_channel : (rules : Rules) (o : Option OpenChannel) → may_become rules class o ≡ true → class ≤ 60
      by_channel rules None h = absurd (false≢true h)
      by_channel rules (Some c) h = class-most rules class (and_parts (is_class rules class) _ h).0

-- a named channel, and one with another class
pub or-short : (account name : List ℕ) → length account ≤ 255 → length name ≤ 255 → length (account_or account name) ≤ 255
or-short [] name a b = b
or-short (x ∷ account) name a b = a

pub named-sized : (id : ℕ) (account : List ℕ) (c : OpenChannel) → length account ≤ 255 → IsSized c → IsSized (with_name id account c)
named-sized id account c short s =
    cond_both (eqb c.id id) (record c { account = account_or c.account account }) c IsSized
    (λ t. record { account = or-short c.account account s.account short; class = s.class }) (λ f. s)

pub reclassed-sized : (at id class : ℕ) (c : OpenChannel) → class ≤ 60 → IsSized c → IsSized (with_class at id class c)
reclassed-sized at id class c most s =
    cond_both (eqb c.id id) (record c { sets = record { at = at; class = class } ∷ c.sets }) c IsSized
    (λ t. record {
      account = s.account;
      class = λ place.
          cond_both (nat_lt at place) class (class_before place c.sets c.opening_class) (λ n. n ≤ 60) (λ before. most) (λ later. s.class place);
    }) (λ f. s)

pub channels-sized : (past : List Event) → LegalPast past → AllByRecursion IsSized (channels_of past)
channels-sized [] l = tt
channels-sized (event.Open session k account class lead ∷ older) l =
    let o : (rules : Rules) × IsOpening rules older session k account class lead = legal_opening older session k account class lead l.1 in
    all-end IsSized (channels_of older)
    (record { id = opened (channel_moves older) + 1; session = session; kind = k; account = account; lead = lead; opening_class = class; sets = [] })
    (channels-sized older l.0)
    (record { account = opening-short o.0 k account o.1.account_said; class = λ at. class-most o.0 class o.1.in_range })
channels-sized (event.Name session id account ∷ older) l =
    let short : length account ≤ 255 = legal-name older session id account l.1 in
    all-map IsSized IsSized (with_name id account) (λ c s. named-sized id account c short s) (channels_of older) (channels-sized older l.0)
channels-sized (event.Class session id class ∷ older) l =
    let most : class ≤ 60 = legal-class older session id class l.1 in
    all-map IsSized IsSized (with_class (length older) id class) (λ c s. reclassed-sized (length older) id class c most s) (channels_of older) (channels-sized older l.0)
channels-sized (event.Close session id ∷ older) l = all-filter IsSized (λ c. not (eqb c.id id)) (channels_of older) (channels-sized older l.0)
channels-sized (event.Leave session ∷ older) l = all-filter IsSized (λ c. not (eqb c.session session)) (channels_of older) (channels-sized older l.0)
channels-sized (e ∷ older) l = channels-sized older l.0

-- the work of a class that has a target
pub work-least : (class : ℕ) → 1 ≤ 2 ^ class
work-least class = one-le-pow class 2 (omega arith)

pub work-most : (class : ℕ) → class ≤ 60 → 2 ^ class ≤ 2 ^ 60
work-most class few = let some : 0 < 2 = omega arith in pow-le-pow_right some few

-- a job's reward
pub source-pays : (script : List ℕ) (source : Source) → TemplateFits script source ⊎ IsMiners script source → reward_of source < 2 ^ 40
source-pays script (FromTemplate template) (inl f) = f.1
source-pays script (FromTemplate template) (inr m) = elim m [ ]
source-pays script (FromMiner custom) (inl f) = elim f [ ]
source-pays script (FromMiner custom) (inr m) = subst (λ n. n < 2 ^ 40) (sym m.reward) m.small

pub block-pays : (b : Bool) (pays reward : ℕ) → pays < 2 ^ 40 → cond b (Some pays) None ≡ Some reward → reward < 2 ^ 40
block-pays true pays reward few is = let same : pays ≡ reward = some-same is in omega (arith, same, few)
block-pays false pays reward few is = absurd (none-some is)

pub credit-fits : (past : List Event) (session channel job nonce ntime version : ℕ) (extranonce : List ℕ) → LegalPast past
    → (g : IsGoodCredit past session (judged_share past channel job nonce ntime version extranonce))
    → BookedFits (booking g.rules.pool_script (judged_share past channel job nonce ntime version extranonce) g.good.with)
credit-fits past session channel job nonce ntime version extranonce l g =
    let share : Share = judged_share past channel job nonce ntime version extranonce in
    let with : Admitted = g.good.with in
    let h : HasChannel past session share = admission-channel g.rules past session share with g.good.is_admitted in
    let is = admission-booked g.rules past session share with g.good.is_admitted in
    let there : channel_in (channels_of past) channel ≡ Some with.channel = booked-channel past channel job with is in
    let same : h.channel ≡ with.channel = some-same (sym h.is_open ∙ there) in
    let sized : IsSized with.channel = all-find IsSized (λ d. eqb d.id channel) (channels_of past) with.channel (channels-sized past l) there in
    let served : has_account h.channel ≡ true =
    (and_parts (nat_eq h.channel.session session) (has_account h.channel)
    (and_parts (nat_eq h.channel.session session && has_account h.channel) (agree (is_standard h.channel.kind) share.is_standard) h.serves).0).1 in
    let alive : In with.job ((jobs_of past).live ++ (jobs_of past).custom) =
    find-in (λ j. eqb j.number job) ((jobs_of past).live ++ (jobs_of past).custom) with.job (booked-job past channel job with is) in
    let pays : reward_of with.job.source < 2 ^ 40 =
    source-pays g.rules.pool_script with.job.source (alive-fits g.rules.pool_script (jobs_of past) with.job (jobs-fit past g.rules l g.are_rules) alive) in
    record {
      some = subst (λ c. 1 ≤ length c.account) same (let few : 0 < length h.channel.account = ltb-true 0 (length h.channel.account) served in omega (arith, few));
      short = sized.account;
      least = work-least (admitted_class with);
      most = work-most (admitted_class with) (sized.class with.live_at);
      reward = λ reward told. block-pays (is_block g.rules.pool_script with share) (reward_of with.job.source) reward pays told;
    }

pub credits-fit-past : (past : List Event) → LegalPast past → AllByRecursion BookedFits (bookings_of past)
credits-fit-past [] l = tt
credits-fit-past (event.Credit session channel job nonce ntime version extranonce ∷ older) l =
    let g : IsGoodCredit older session (judged_share older channel job nonce ntime version extranonce) =
    good_credit older session channel job nonce ntime version extranonce l.1 in
    let a : Adds older session (judged_share older channel job nonce ntime version extranonce) (event.Credit session channel job nonce ntime version extranonce) g =
    credit-adds older session channel job nonce ntime version extranonce g in
    subst (AllByRecursion BookedFits) (sym a.counts)
    (credit-fits older session channel job nonce ntime version extranonce l.0 g, credits-fit-past older l.0)
credits-fit-past (e ∷ older) l = credits-fit-past older l.0

pub credits-fit : CreditsFit
credits-fit h l = credits-fit-past (past_of h) l
