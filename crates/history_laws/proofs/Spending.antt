-- The tokens that jobs of miners' own spend, the channels that a session has open, and how many jobs there are.
use Rattle.std.proofs.Common.{◌≡◌, ℕ, ◌+◌, ◌<◌, ◌≤◌, Bool, true, false, cond, not, None, List, [], ◌∷◌, ◌++◌, length, map, refl, ap, subst, sym, ◌∙◌, arith}
use Rattle.std.proofs.Math.Dec.{eqb}
use Rattle.std.proofs.lemmas.Bool.{cond_both, eqb-true, leb-false, not-true, or_parts}
use Rattle.std.specs.Prelude.{filter, nat_le}
use Rattle.std.specs.List.{AllByRecursion, IsDistinct}
use Rattle.std.specs.Str.{bytes_eq}
use Rattle.pool_history.specs.declared.events.Event.{Event}
use Rattle.pool_history.specs.declared.events.Event.TheVariants as event
use Rattle.pool_history.specs.declared.events.Kind.{Kind}
use Rattle.pool_history.specs.declared.settings.Rules.{Rules}
use Rattle.pool_history.specs.Channels.{OpenChannel, account_or, channel_moves, channels_of, with_name, opened, with_class}
use Rattle.pool_history.specs.Jobs.{Job, Standing, jobs_of, with_template, template_job}
use Rattle.pool_history.specs.Legal.{LegalPast, cause_of}
use Rattle.pool_history.specs.Refusing.{has_too_many, is_spent, most_channels, most_opens, open_count}
use Rattle.pool_history.specs.Sessions.{opens, past_of, templates}
use Rattle.history_laws.specs.Limits.{JobsSpendTokens, LegalHistoriesKeepLimits, customs, spent_tokens}
use Rattle.history_laws.proofs.Causes.{IsOpening, legal_opening}
use Rattle.history_laws.proofs.Counted.{Spends, brought-most, brought-spends, came-most, credited-most, entered-most, granted-most, opened-most}
use Rattle.history_laws.proofs.Legalities.{none_caused}
use Rattle.history_laws.proofs.Living.{length-one}

-- a token that isn't spent is none of those that were
pub unspent-none : (past : List Event) (token : List ℕ) → is_spent past token ≡ false → AllByRecursion (λ other. bytes_eq token other ≡ false) (spent_tokens past)
unspent-none [] token fresh = tt
unspent-none (event.Custom session custom ∷ older) token fresh =
    let parts : (bytes_eq token custom.token ≡ false) × (is_spent older token ≡ false) =
    or_parts (bytes_eq token custom.token) (is_spent older token) fresh in
    (parts.0, unspent-none older token parts.1)
unspent-none (e ∷ older) token fresh = unspent-none older token fresh

pub spent-distinct : (past : List Event) → LegalPast past → IsDistinct bytes_eq (spent_tokens past)
unfolding IsDistinct
spent-distinct [] l = tt
spent-distinct (event.Custom session custom ∷ older) l =
    (unspent-none older custom.token (brought-spends older session custom l.1).fresh, spent-distinct older l.0)
spent-distinct (e ∷ older) l = spent-distinct older l.0

pub tokens-spent_once : JobsSpendTokens
tokens-spent_once h l = record {
  once = spent-distinct (past_of h) l;
  granted = λ before after session custom parts.
      let s : Spends (past_of before) custom.token = brought-spends (past_of before) session custom (none_caused h l before (event.Custom session custom) after parts) in
      (s.granted, s.found);
}

-- how many channels are a session's
abbrev pub is_of : ℕ → OpenChannel → Bool
is_of session c = eqb c.session session

abbrev pub count_of : ℕ → List OpenChannel → ℕ
count_of session cs = length (filter (is_of session) cs)

pub count-cons : (session : ℕ) (c : OpenChannel) (cs : List OpenChannel) → count_of session (c ∷ cs) ≡ cond (is_of session c) 1 0 + count_of session cs
count-cons session c cs =
    cond_both (is_of session c) (c ∷ filter (is_of session) cs) (filter (is_of session) cs)
    (λ l. length l ≡ cond (is_of session c) 1 0 + count_of session cs)
    (λ t. rw t (omega arith)) (λ f. rw f (omega arith))

-- a name and a class leave the session
pub named-session : (id : ℕ) (account : List ℕ) (c : OpenChannel) → (with_name id account c).session ≡ c.session
named-session id account c =
    cond_both (eqb c.id id) (record c { account = account_or c.account account }) c (λ d. d.session ≡ c.session) (λ t. refl) (λ f. refl)

pub reclassed-session : (at id class : ℕ) (c : OpenChannel) → (with_class at id class c).session ≡ c.session
reclassed-session at id class c =
    cond_both (eqb c.id id) (record c { sets = record { at = at; class = class } ∷ c.sets }) c (λ d. d.session ≡ c.session) (λ t. refl) (λ f. refl)

pub count-map : (session : ℕ) (f : OpenChannel → OpenChannel) → ((c : OpenChannel) → (f c).session ≡ c.session) → (cs : List OpenChannel)
    → count_of session (map f cs) ≡ count_of session cs
count-map session f kept [] = refl
count-map session f kept (c ∷ cs) =
    count-cons session (f c) (map f cs) ∙ ap (λ s. cond (eqb s session) 1 0 + count_of session (map f cs)) (kept c)
    ∙ ap (λ n. cond (is_of session c) 1 0 + n) (count-map session f kept cs) ∙ sym (count-cons session c cs)

pub count-filter : (session : ℕ) (p : OpenChannel → Bool) (cs : List OpenChannel) → count_of session (filter p cs) ≤ count_of session cs
count-filter session p [] = omega arith
count-filter session p (c ∷ cs) =
    let deeper : count_of session (filter p cs) ≤ count_of session cs = count-filter session p cs in
    let whole : count_of session (c ∷ cs) ≡ cond (is_of session c) 1 0 + count_of session cs = count-cons session c cs in
    let front : count_of session (c ∷ filter p cs) ≡ cond (is_of session c) 1 0 + count_of session (filter p cs) = count-cons session c (filter p cs) in
    cond_both (p c) (c ∷ filter p cs) (filter p cs) (λ l. count_of session l ≤ count_of session (c ∷ cs))
    (λ t. omega (arith, deeper, whole, front)) (λ f. omega (arith, deeper, whole))

pub count-end : (session : ℕ) (cs : List OpenChannel) (new : OpenChannel)
    → count_of session (cs ++ new ∷ []) ≡ count_of session cs + cond (is_of session new) 1 0
count-end session [] new = let one : count_of session (new ∷ []) ≡ cond (is_of session new) 1 0 + count_of session [] = count-cons session new [] in omega (arith, one)
count-end session (c ∷ cs) new =
    let deeper : count_of session (cs ++ new ∷ []) ≡ count_of session cs + cond (is_of session new) 1 0 = count-end session cs new in
    let whole : count_of session (c ∷ cs) ≡ cond (is_of session c) 1 0 + count_of session cs = count-cons session c cs in
    let longer : count_of session (c ∷ cs ++ new ∷ []) ≡ cond (is_of session c) 1 0 + count_of session (cs ++ new ∷ []) = count-cons session c (cs ++ new ∷ []) in
    omega (arith, deeper, whole, longer)

-- the session of an opening has fewer than it may have
pub opener-few : (past : List Event) (session : ℕ) (k : Kind) (account : List ℕ) (class : ℕ) (lead : List ℕ)
    → cause_of past (event.Open session k account class lead) ≡ None → open_count past session < most_channels
opener-few past session k account class lead n =
    let o : (rules : Rules) × IsOpening rules past session k account class lead = legal_opening past session k account class lead n in
    leb-false most_channels (open_count past session)
    (or_parts (nat_le most_channels (open_count past session)) (nat_le most_opens (opens past)) (not-true (has_too_many past session) o.1.few)).0

pub one-more-few : (session opener : ℕ) (count : ℕ) → count ≤ most_channels → (opener ≡ session → count < most_channels)
    → count + cond (eqb opener session) 1 0 ≤ most_channels
one-more-few session opener count most few =
    cond_both (eqb opener session) 1 0 (λ n. count + n ≤ most_channels)
    (λ t. let f : count < most_channels = few (eqb-true opener session t) in omega (arith, f)) (λ f. omega (arith, most))

pub open-most : (past : List Event) → LegalPast past → (session : ℕ) → open_count past session ≤ most_channels
open-most [] l session = omega arith
open-most (event.Open opener k account class lead ∷ older) l session =
    let new : OpenChannel =
    record { id = opened (channel_moves older) + 1; session = opener; kind = k; account = account; lead = lead; opening_class = class; sets = [] } in
    let grown : count_of session (channels_of older ++ new ∷ []) ≡ count_of session (channels_of older) + cond (eqb opener session) 1 0 =
    count-end session (channels_of older) new in
    let few : count_of session (channels_of older) + cond (eqb opener session) 1 0 ≤ most_channels =
    one-more-few session opener (open_count older session) (open-most older l.0 session)
    (λ same. let f : open_count older opener < most_channels = opener-few older opener k account class lead l.1 in subst (λ s. open_count older s < most_channels) same f) in
    omega (arith, grown, few)
open-most (event.Name s id account ∷ older) l session =
    let same : count_of session (map (with_name id account) (channels_of older)) ≡ count_of session (channels_of older) =
    count-map session (with_name id account) (named-session id account) (channels_of older) in
    let few : open_count older session ≤ most_channels = open-most older l.0 session in
    omega (arith, same, few)
open-most (event.Class s id class ∷ older) l session =
    let same : count_of session (map (with_class (length older) id class) (channels_of older)) ≡ count_of session (channels_of older) =
    count-map session (with_class (length older) id class) (reclassed-session (length older) id class) (channels_of older) in
    let few : open_count older session ≤ most_channels = open-most older l.0 session in
    omega (arith, same, few)
open-most (event.Close s id ∷ older) l session =
    let less : count_of session (filter (λ c. not (eqb c.id id)) (channels_of older)) ≤ count_of session (channels_of older) =
    count-filter session (λ c. not (eqb c.id id)) (channels_of older) in
    let few : open_count older session ≤ most_channels = open-most older l.0 session in
    omega (arith, less, few)
open-most (event.Leave left ∷ older) l session =
    let less : count_of session (filter (λ c. not (eqb c.session left)) (channels_of older)) ≤ count_of session (channels_of older) =
    count-filter session (λ c. not (eqb c.session left)) (channels_of older) in
    let few : open_count older session ≤ most_channels = open-most older l.0 session in
    omega (arith, less, few)
open-most (e ∷ older) l session = open-most older l.0 session

-- each template and each job of a miner's own is one more job
pub more-of_template : (s : Standing) (job : Job) (future : Bool) → length (with_template job future s).all ≡ length s.all + 1
more-of_template s job true = length-one s.all job
more-of_template s job false = length-one s.all job

pub jobs-counted : (past : List Event) → length (jobs_of past).all ≡ templates past + customs past
jobs-counted [] = refl
jobs-counted (event.Template session template ∷ older) =
    let s : Standing = jobs_of older in
    let deeper : length (jobs_of older).all ≡ templates older + customs older = jobs-counted older in
    let more : length (jobs_of (event.Template session template ∷ older)).all ≡ length (jobs_of older).all + 1 =
    more-of_template s (template_job (length s.all + 1) (length older) session template) template.future_template in
    omega (arith, deeper, more)
jobs-counted (event.Custom session custom ∷ older) =
    let deeper : length (jobs_of older).all ≡ templates older + customs older = jobs-counted older in
    let more : length (jobs_of (event.Custom session custom ∷ older)).all ≡ length (jobs_of older).all + 1 = length-one (jobs_of older).all _ in
    omega (arith, deeper, more)
jobs-counted (e ∷ older) = jobs-counted older

-- all limits
pub limits-kept : LegalHistoriesKeepLimits
limits-kept h l = record {
  entered = entered-most (past_of h) l;
  opened = opened-most (past_of h) l;
  came = came-most (past_of h) l;
  granted = granted-most (past_of h) l;
  brought = brought-most (past_of h) l;
  per_session = open-most (past_of h) l;
  jobs = jobs-counted (past_of h);
  credited = λ rules are. credited-most (past_of h) rules l are;
}
