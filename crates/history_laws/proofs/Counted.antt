-- The limits of a legal history.
use Rattle.std.proofs.Common.{◌⊎◌, inl, inr, ◌≡◌, ℕ, ◌+◌, ◌<◌, ◌≤◌, Bool, true, false, ◌||◌, Option, None, Some, List, [], ◌∷◌, length, refl, ap, subst, sym, ◌∙◌, arith}
use Rattle.std.proofs.Math.Dec.{eqb}
use Rattle.std.proofs.lemmas.Bool.{cond_both, eqb-true, false≢true, leb-false, ltb-true, not-true, or_cases, or_left, or_parts, or_right}
use Rattle.std.proofs.lemmas.Map.Steps.{length-le_from_distinct_below}
use Rattle.std.proofs.lemmas.Slice.Eq.{bytes_eq-Decides}
use Rattle.std.specs.Prelude.{nat_le, nat_lt}
use Rattle.std.specs.List.{IsDistinct, list_any, AllByRecursion}
use Rattle.std.specs.Str.{bytes_eq}
use Rattle.pool_history.specs.declared.causes.Cause.TheVariants as cause
use Rattle.pool_history.specs.declared.events.Event.{Event}
use Rattle.pool_history.specs.declared.events.Event.TheVariants as event
use Rattle.pool_history.specs.declared.refusals.CustomError.TheVariants as custom
use Rattle.pool_history.specs.declared.refusals.GrantError.{GrantError}
use Rattle.pool_history.specs.declared.refusals.GrantError.TheVariants as grant
use Rattle.pool_history.specs.declared.refusals.JobError.TheVariants as job_error
use Rattle.pool_history.specs.declared.settings.Rules.{Rules}
use Rattle.pool_history.specs.declared.templates.CustomData.{CustomData}
use Rattle.pool_history.specs.Accounts.{is_known}
use Rattle.pool_history.specs.Channels.{OpenChannel}
use Rattle.pool_history.specs.Conditions.{or_code}
use Rattle.pool_history.specs.Legal.{LegalPast, are_acceptable, cause_of, custom_cause, may_feed, grant_cause, refused_as, may_select_work}
use Rattle.pool_history.specs.Refusing.{Granted, custom_refusal, grant_of, grant_refusal, granted_to, is_extended, is_spent, most_enters, most_grants, most_opens, most_templates, on_channel, open_count, own_channel, template_refusal, token_of, unspent, with_token, has_too_many, most_channels}
use Rattle.pool_history.specs.Sessions.{credits, enters, grants, opens, rules_of, templates}
use Rattle.history_laws.specs.Limits.{customs}
use Rattle.history_laws.proofs.Causes.{IsOpening, IsUncaused, legal_opening, provided-both, uncaused, within-next}
use Rattle.history_laws.proofs.Crediting.{IsGoodCredit, good_credit, judged_share}
use Rattle.history_laws.proofs.Entrances.{none-some, some-same}
use Rattle.history_laws.proofs.JobsFit.{custom-none, refused-none}
use Rattle.history_laws.proofs.Legalities.{rules-older, some-none}
use Rattle.pool_history.specs.declared.events.Role.{Role}
use Rattle.pool_history.specs.declared.templates.TemplateData.{TemplateData}
use Rattle.pool_history.specs.declared.events.Kind.{Kind}

-- an accepted Enter, Template and Grant
pub entered-few : (past : List Event) (worker : ℕ) (role : Role) (flags : ℕ)
    → cause_of past (event.Enter worker role flags) ≡ None → enters past < most_enters
entered-few past worker role flags n =
    let u : IsUncaused past (event.Enter worker role flags) = uncaused past (event.Enter worker role flags) refl n in
    ltb-true (enters past) most_enters
    (provided-both (nat_lt (enters past) most_enters) cause.PoolFull (or_code (are_acceptable u.rules flags) cause.BadFlags None) u.none).0

pub came-few : (past : List Event) (session : ℕ) (template : TemplateData)
    → cause_of past (event.Template session template) ≡ None → templates past < most_templates
came-few past session template n =
    let u : IsUncaused past (event.Template session template) = uncaused past (event.Template session template) refl n in
    let none : template_refusal u.rules.pool_script past template ≡ None =
    refused-none cause.BadTemplate (template_refusal u.rules.pool_script past template)
    (within-next may_feed past session (refused_as cause.BadTemplate (template_refusal u.rules.pool_script past template)) u.none) in
    ltb-true (templates past) most_templates (provided-both (nat_lt (templates past) most_templates) (job_error.TooMany (templates past)) _ none).0

pub grant-none : (o : Option GrantError) → grant_cause o ≡ None → o ≡ None
grant-none None n = refl
grant-none (Some grant.UnknownUser) n = absurd (some-none n)
grant-none (Some (grant.TooManyGrants count)) n = absurd (some-none n)
grant-none (Some (grant.PathTooLong entries)) n = absurd (some-none n)

pub granted-few : (past : List Event) (session : ℕ) (account : List ℕ) (fixed : Bool) (path : List (List ℕ))
    → cause_of past (event.Grant session account fixed path) ≡ None → grants past < most_grants
granted-few past session account fixed path n =
    let u : IsUncaused past (event.Grant session account fixed path) = uncaused past (event.Grant session account fixed path) refl n in
    let none : grant_refusal u.rules past account path ≡ None =
    grant-none (grant_refusal u.rules past account path) (within-next may_select_work past session (grant_cause (grant_refusal u.rules past account path)) u.none) in
    let more = provided-both (is_known u.rules account) grant.UnknownUser _ none in
    ltb-true (grants past) most_grants (provided-both (nat_lt (grants past) most_grants) (grant.TooManyGrants (grants past)) _ more.1).0

pub opened-few : (past : List Event) (session : ℕ) (k : Kind) (account : List ℕ) (class : ℕ) (lead : List ℕ)
    → cause_of past (event.Open session k account class lead) ≡ None → opens past < most_opens
opened-few past session k account class lead n =
    let o : (rules : Rules) × IsOpening rules past session k account class lead = legal_opening past session k account class lead n in
    leb-false most_opens (opens past)
    (or_parts (nat_le most_channels (open_count past session)) (nat_le most_opens (opens past))
    (not-true (has_too_many past session) o.1.few)).1

-- an accepted Credit
pub credited-few : (past : List Event) (rules : Rules) (session channel job nonce ntime version : ℕ) (extranonce : List ℕ) → rules_of past ≡ Some rules
    → cause_of past (event.Credit session channel job nonce ntime version extranonce) ≡ None → credits past < rules.credit_limit
credited-few past rules session channel job nonce ntime version extranonce are n =
    let g : IsGoodCredit past session (judged_share past channel job nonce ntime version extranonce) =
    good_credit past session channel job nonce ntime version extranonce n in
    subst (λ r. credits past < r.credit_limit) (some-same (sym g.are_rules ∙ are)) (ltb-true (credits past) g.rules.credit_limit g.good.room)

-- an accepted job of a miner's own spends a token that was granted and is not spent yet
pub record Spends (past : List Event) (token : List ℕ) : Type 0 where
  pub granted : Granted
  pub fresh : is_spent past token ≡ false
  pub found : grant_of past token ≡ Some granted

pub granted_to-some : (account : List ℕ) (o : Option Granted) (g : Granted) → granted_to account o ≡ Some g → o ≡ Some g
granted_to-some account None g is = absurd (none-some is)
granted_to-some account (Some granted) g is =
    cond_both (bytes_eq granted.account account) (Some granted) None (λ o. o ≡ Some g → Some granted ≡ Some g) (λ t same. same) (λ f none. absurd (none-some none)) is

pub unspent-spends : (past : List Event) (token : List ℕ) (channel : OpenChannel) (g : Granted) → unspent past token channel ≡ Some g → Spends past token
unspent-spends past token channel g is =
    cond_both (is_spent past token) None (granted_to channel.account (grant_of past token))
    (λ o. o ≡ Some g → Spends past token)
    (λ t none. absurd (none-some none))
    (λ f found. record { granted = g; fresh = f; found = granted_to-some channel.account (grant_of past token) g found }) is

pub channel-spends : (script : List ℕ) (past : List Event) (offer : CustomData) (o : Option OpenChannel) → on_channel script past offer o ≡ None → Spends past offer.token
channel-spends script past offer None n = absurd (some-none n)
channel-spends script past offer (Some channel) n =
    cond_both (is_extended channel.kind) (with_token script past offer (unspent past offer.token channel)) (Some custom.NotOpen)
    (λ r. r ≡ None → Spends past offer.token)
    (λ t with. by_token (unspent past offer.token channel) refl with) (λ f none. absurd (some-none none)) n where
      by_token : (o : Option Granted) → unspent past offer.token channel ≡ o → with_token script past offer o ≡ None → Spends past offer.token
      by_token None is n = absurd (some-none n)
      by_token (Some g) is n = unspent-spends past offer.token channel g is

pub brought-spends : (past : List Event) (session : ℕ) (offer : CustomData) → cause_of past (event.Custom session offer) ≡ None → Spends past offer.token
brought-spends past session offer n =
    let u : IsUncaused past (event.Custom session offer) = uncaused past (event.Custom session offer) refl n in
    channel-spends u.rules.pool_script past offer (own_channel past session offer.channel_id)
    (custom-none (custom_refusal u.rules.pool_script past session offer)
    (within-next may_select_work past session (custom_cause (custom_refusal u.rules.pool_script past session offer)) u.none))

-- a token that was granted is that of a Grant's number
pub record IsNumber (past : List Event) (token : List ℕ) : Type 0 where
  pub number : ℕ
  pub below : number < grants past
  pub spelled : token ≡ token_of (number + 1)

pub grant-number : (past : List Event) (token : List ℕ) (g : Granted) → grant_of past token ≡ Some g → IsNumber past token
grant-number [] token g is = absurd (none-some is)
grant-number (event.Grant session account fixed path ∷ older) token g is =
    cond_both (bytes_eq token (token_of (grants older + 1))) (Some (record { account = account; fixed = fixed; path = path })) (grant_of older token)
    (λ o. o ≡ Some g → IsNumber (event.Grant session account fixed path ∷ older) token)
    (λ same found. record { number = grants older; below = omega arith; spelled = (bytes_eq-Decides token (token_of (grants older + 1))).0 same })
    (λ other found.
    let i : IsNumber older token = grant-number older token g found in
    let b : i.number < grants older = i.below in
    record { number = i.number; below = omega (arith, b); spelled = i.spelled }) is
grant-number (e ∷ older) token g is = let i : IsNumber older token = grant-number older token g is in record { number = i.number; below = i.below; spelled = i.spelled }

-- the numbers of the tokens that are spent: one for each job of a miner's own, and none twice
pub record Spent (past : List Event) : Type 0 where
  pub numbers : List ℕ
  pub counted : length numbers ≡ customs past
  pub distinct : IsDistinct eqb numbers
  pub below : (q : ℕ) → list_any (eqb q) numbers ≡ true → q < grants past
  pub spent : (q : ℕ) → list_any (eqb q) numbers ≡ true → is_spent past (token_of (q + 1)) ≡ true

-- none of a list is a number that it hasn't
pub none-of : (q : ℕ) (xs : List ℕ) → list_any (eqb q) xs ≡ false → AllByRecursion (λ y. eqb q y ≡ false) xs
none-of q [] h = tt
none-of q (x ∷ xs) h = let p : (eqb q x ≡ false) × (list_any (eqb q) xs ≡ false) = or_parts (eqb q x) (list_any (eqb q) xs) h in (p.0, none-of q xs p.1)

pub not_in : (b : Bool) → (b ≡ true → ⊥) → b ≡ false
not_in true h = absurd (h refl)
not_in false h = refl

pub one-more-spent : (older : List Event) (session : ℕ) (offer : CustomData) → Spends older offer.token → Spent older → Spent (event.Custom session offer ∷ older)
unfolding IsDistinct
one-more-spent older session offer t s =
    let i : IsNumber older offer.token = grant-number older offer.token t.granted t.found in
    let fresh : list_any (eqb i.number) s.numbers ≡ false =
    not_in (list_any (eqb i.number) s.numbers)
    (λ there. false≢true (sym t.fresh ∙ ap (is_spent older) i.spelled ∙ s.spent i.number there)) in
    record {
      numbers = i.number ∷ s.numbers;
      counted = let c : length s.numbers ≡ customs older = s.counted in omega (arith, c);
      distinct = (none-of i.number s.numbers fresh, s.distinct);
      below = λ q h. below_of i q (or_cases (eqb q i.number) (list_any (eqb q) s.numbers) h);
      spent = λ q h. spent_of i q (or_cases (eqb q i.number) (list_any (eqb q) s.numbers) h);
    } where
      below_of : (i : IsNumber older offer.token) (q : ℕ) → (eqb q i.number ≡ true) ⊎ (list_any (eqb q) s.numbers ≡ true) → q < grants older
      below_of i q (inl same) = let e : q ≡ i.number = eqb-true q i.number same in let b : i.number < grants older = i.below in omega (arith, e, b)
      below_of i q (inr there) = s.below q there

      spent_of : (i : IsNumber older offer.token) (q : ℕ) → (eqb q i.number ≡ true) ⊎ (list_any (eqb q) s.numbers ≡ true)
          → bytes_eq (token_of (q + 1)) offer.token || is_spent older (token_of (q + 1)) ≡ true
      spent_of i q (inl same) =
          or_left (bytes_eq (token_of (q + 1)) offer.token) (is_spent older (token_of (q + 1)))
          ((bytes_eq-Decides (token_of (q + 1)) offer.token).1 (ap (λ n. token_of (n + 1)) (eqb-true q i.number same) ∙ sym i.spelled))
      spent_of i q (inr there) = or_right (bytes_eq (token_of (q + 1)) offer.token) (is_spent older (token_of (q + 1))) (s.spent q there)

pub tokens-spent : (past : List Event) → LegalPast past → Spent past
unfolding IsDistinct
tokens-spent [] l = record { numbers = []; counted = refl; distinct = tt; below = λ q h. absurd (false≢true h); spent = λ q h. absurd (false≢true h) }
tokens-spent (event.Custom session offer ∷ older) l = one-more-spent older session offer (brought-spends older session offer l.1) (tokens-spent older l.0)
tokens-spent (event.Grant session account fixed path ∷ older) l =
    let s : Spent older = tokens-spent older l.0 in
    record {
      numbers = s.numbers;
      counted = s.counted;
      distinct = s.distinct;
      below = λ q h. let b : q < grants older = s.below q h in omega (arith, b);
      spent = s.spent;
    }
tokens-spent (e ∷ older) l =
    let s : Spent older = tokens-spent older l.0 in
    record { numbers = s.numbers; counted = s.counted; distinct = s.distinct; below = s.below; spent = s.spent }

pub brought-most : (past : List Event) → LegalPast past → customs past ≤ grants past
brought-most past l =
    let s : Spent past = tokens-spent past l in
    let most : length s.numbers ≤ grants past = length-le_from_distinct_below s.numbers (grants past) s.distinct s.below in
    let c : length s.numbers ≡ customs past = s.counted in
    omega (arith, most, c)

-- the other counts
pub entered-most : (past : List Event) → LegalPast past → enters past ≤ most_enters
entered-most [] l = omega arith
entered-most (event.Enter worker role flags ∷ older) l = let f : enters older < most_enters = entered-few older worker role flags l.1 in omega (arith, f)
entered-most (e ∷ older) l = entered-most older l.0

pub opened-most : (past : List Event) → LegalPast past → opens past ≤ most_opens
opened-most [] l = omega arith
opened-most (event.Open session k account class lead ∷ older) l = let f : opens older < most_opens = opened-few older session k account class lead l.1 in omega (arith, f)
opened-most (e ∷ older) l = opened-most older l.0

pub came-most : (past : List Event) → LegalPast past → templates past ≤ most_templates
came-most [] l = omega arith
came-most (event.Template session template ∷ older) l = let f : templates older < most_templates = came-few older session template l.1 in omega (arith, f)
came-most (e ∷ older) l = came-most older l.0

pub granted-most : (past : List Event) → LegalPast past → grants past ≤ most_grants
granted-most [] l = omega arith
granted-most (event.Grant session account fixed path ∷ older) l = let f : grants older < most_grants = granted-few older session account fixed path l.1 in omega (arith, f)
granted-most (e ∷ older) l = granted-most older l.0

pub credited-most : (past : List Event) (rules : Rules) → LegalPast past → rules_of past ≡ Some rules → credits past ≤ rules.credit_limit
credited-most [] rules l are = omega arith
credited-most (event.Start first ∷ []) rules l are = omega arith
credited-most (event.Start first ∷ x ∷ older) rules l are = credited-most (x ∷ older) rules l.0 (sym (rules-older (event.Start first) x older) ∙ are)
credited-most (event.Credit session channel job nonce ntime version extranonce ∷ older) rules l are =
    let f : credits older < rules.credit_limit = credited-few older rules session channel job nonce ntime version extranonce are l.1 in omega (arith, f)
credited-most (e ∷ older) rules l are = credited-most older rules l.0 are
