-- An event that is neither common nor an opening of a session owes the session nothing.
use Rattle.std.proofs.Common.{inl, ◌≡◌, ℕ, suc, ◌+◌, ◌<◌, ◌≤◌, Bool, true, false, cond, ◌&&◌, Option, None, Some, List, [], ◌∷◌, ◌++◌, length, map, take, refl, ap, subst, sym, ◌∙◌, arith}
use Rattle.std.proofs.Math.Dec.{eqb}
use Rattle.std.proofs.lemmas.Bool.{eq-eqb, eqb-true, le-leb}
use Rattle.std.proofs.lemmas.List.{append-nil, length-reverse, map-append}
use Rattle.std.proofs.lemmas.List.Elements.{filter-append}
use Rattle.std.specs.Prelude.{filter, nat_le, slice_get}
use Rattle.std.specs.List.{AllByRecursion, flat_map}
use Rattle.std.specs.Option.{option_map_or, option_or}
use Rattle.pool_history.specs.declared.events.Event.{Event}
use Rattle.pool_history.specs.declared.events.Event.TheVariants as event
use Rattle.pool_history.specs.declared.events.Kind.{Kind}
use Rattle.pool_history.specs.declared.settings.Rules.{Rules}
use Rattle.pool_history.specs.Crediting.{booked_with, credit_share, found_list, is_block}
use Rattle.pool_history.specs.Channels.{channel_in, channels_of}
use Rattle.pool_history.specs.Jobs.{FromMiner, FromTemplate, Source, jobs_of}
use Rattle.pool_history.specs.Judging.{Admitted, Share}
use Rattle.pool_history.specs.News.{opening_notes, owed_notes, owed_notes_by, solution, solution_by, solution_notes}
use Rattle.pool_history.specs.Sessions.{opens, past_of, rules_of, script_in, script_of}
use Rattle.pool_history.proofs.PlacesOfClasses.{all-end, all-filter, all-weaken}
use Rattle.pool_history.proofs.PlacesOfJobs.{map-end}
use Rattle.history_laws.specs.News.{owed_at}
use Rattle.history_laws.proofs.Entrances.{none-some}
use Rattle.history_laws.proofs.Legalities.{rules-older}
use Rattle.history_laws.proofs.Living.{In, in-left, in-right}
use Rattle.event_store.specs.declared.marks.OpeningMark.{OpeningMark}
use Rattle.event_store.specs.Blocks.{is_block_event}
use Rattle.event_store.specs.Index.{IndexParts, index_after, index_of}
use Rattle.event_store.specs.Places.{AreRisingFrom, OpeningsRise, common_place, common_places, is_common, is_own_since, openings_since}
use Rattle.event_store.specs.Telling.{owed_in}
use Rattle.event_store.proofs.Able.{IsSplit, past-split, split-at, take-split}
use Rattle.event_store.proofs.Changed.{filter-changed, map-changed}
use Rattle.event_store.proofs.Listened.{IsOpeningWithin, openings-within}
use Rattle.event_store.proofs.Rising.{rising-end}

-- the places rise, and are those of events
pub common-within : (past : List Event) → AllByRecursion (λ at. at < length past) (common_places past)
common-within [] = tt
common-within (e ∷ older) =
    by (all-weaken (λ at. at < length older) (λ at. at < suc (length older)) (λ at less. omega (arith, less)) (common_places older) (common-within older))
    (is_common (is_block_event older e) e) where
      by : AllByRecursion (λ at. at < suc (length older)) (common_places older) → (b : Bool) → AllByRecursion (λ at. at < suc (length older)) (common_places older ++ cond b (length older ∷ []) [])
      by before true = all-end (λ at. at < suc (length older)) (common_places older) (length older) before (omega arith)
      by before false = subst (AllByRecursion (λ at. at < suc (length older))) (sym (append-nil (common_places older))) before

pub common-rise : (past : List Event) → AreRisingFrom 0 (common_places past)
common-rise [] = tt
common-rise (e ∷ older) = by (common-rise older) (is_common (is_block_event older e) e) where
  by : AreRisingFrom 0 (common_places older) → (b : Bool) → AreRisingFrom 0 (common_places older ++ cond b (length older ∷ []) [])
  by before true = rising-end 0 (length older) (common_places older) (omega arith) (common-within older) before
  by before false = subst (AreRisingFrom 0) (sym (append-nil (common_places older))) before

all-places : (n : ℕ) (marks : List OpeningMark) → AllByRecursion (IsOpeningWithin n) marks → AllByRecursion (λ at. at < n) (map (λ mark. mark.at) marks)
all-places n [] a = tt
all-places n (mark ∷ marks) a = (a.0.opened, all-places n marks a.1)

pub openings-rise : (past : List Event) → OpeningsRise (index_of past).openings
openings-rise [] = tt
openings-rise (event.Open session kind account class lead ∷ older) =
    subst (AreRisingFrom 0) (sym (map-end (λ mark. mark.at) (index_of older).openings _))
    (rising-end 0 (length older) (map (λ mark. mark.at) (index_of older).openings) (omega arith)
    (all-places (length older) (index_of older).openings (openings-within older)) (openings-rise older))
openings-rise (event.Close session channel ∷ older) =
    subst (AreRisingFrom 0)
    (sym (map-changed (λ mark. mark.at) (λ mark. record mark { closed = option_or mark.closed (Some (length older)) }) (λ mark. refl) (index_of older).openings _))
    (openings-rise older)
openings-rise (e ∷ older) = openings-rise older

pub own-within : (past : List Event) (session from : ℕ) → AllByRecursion (λ at. at < length past) (openings_since (index_of past).openings session from)
own-within past session from =
    all-places (length past) (filter (is_own_since session from) (index_of past).openings)
    (all-filter (IsOpeningWithin (length past)) (is_own_since session from) (index_of past).openings (openings-within past))

-- a common event is among them
common-listed : (later : List Event) (e : Event) (older : List Event) → is_common (is_block_event older e) e ≡ true → In (length older) (common_places (later ++ e ∷ older))
common-listed [] e older is =
    in-right (length older) (common_places older) (common_place (is_block_event older e) e (length older))
    (subst (λ b. In (length older) (cond b (length older ∷ []) [])) (sym is) (inl refl))
common-listed (l ∷ later) e older is =
    in-left (length older) (common_places (later ++ e ∷ older)) (common_place (is_block_event (later ++ e ∷ older) l) l (length (later ++ e ∷ older)))
    (common-listed later e older is)

-- and so is an opening of the session
since-append : (session from : ℕ) (xs ys : List OpeningMark) → openings_since (xs ++ ys) session from ≡ openings_since xs session from ++ openings_since ys session from
since-append session from xs ys =
    ap (map (λ mark. mark.at)) (filter-append (is_own_since session from) xs ys)
    ∙ map-append (λ mark. mark.at) (filter (is_own_since session from) xs) (filter (is_own_since session from) ys)

opening-stays : (l : Event) (n q session from : ℕ) (index : IndexParts) → In q (openings_since index.openings session from)
    → In q (openings_since (index_after n l index).openings session from)
opening-stays (event.Open opening kind account class lead) n q session from index i =
    subst (In q) (sym (since-append session from index.openings (_ ∷ []))) (in-left q (openings_since index.openings session from) _ i)
opening-stays (event.Close closing channel) n q session from index i =
    subst (In q) (sym (filter-changed (is_own_since session from) (λ mark. mark.at) _ (λ mark. refl) (λ mark. refl) index.openings _)) i
opening-stays l n q session from index i = i

last-listed : (session from : ℕ) (xs : List OpeningMark) (mark : OpeningMark) → is_own_since session from mark ≡ true → In mark.at (openings_since (xs ++ mark ∷ []) session from)
last-listed session from xs mark is =
    subst (In mark.at) (sym (since-append session from xs (mark ∷ [])))
    (in-right mark.at (openings_since xs session from) (openings_since (mark ∷ []) session from)
    (subst (λ b. In mark.at (map (λ (mark : OpeningMark). mark.at) (cond b (mark ∷ []) []))) (sym is) (inl refl)))

opening-listed : (later : List Event) (opening : ℕ) (kind : Kind) (account : List ℕ) (class : ℕ) (lead : List ℕ) (older : List Event) (session from : ℕ)
    → opening ≡ session → from ≤ length older
    → In (length older) (openings_since (index_of (later ++ event.Open opening kind account class lead ∷ older)).openings session from)
opening-listed [] opening kind account class lead older session from own high =
    last-listed session from (index_of older).openings _ (ap (λ b. b && nat_le from (length older)) (eq-eqb opening session own) ∙ le-leb from (length older) high)
opening-listed (l ∷ later) opening kind account class lead older session from own high =
    opening-stays l (length (later ++ event.Open opening kind account class lead ∷ older)) (length older) session from
    (index_of (later ++ event.Open opening kind account class lead ∷ older))
    (opening-listed later opening kind account class lead older session from own high)

-- a credit that is no block owes nothing
and-no : (b : Bool) → (b && false) ≡ false
and-no true = refl
and-no false = refl

unsolved-by : (script : List ℕ) (session : ℕ) (share : Share) (with : Admitted) (source : Source) → is_block script with share ≡ false
    → solution_by script session share with source ≡ []
unsolved-by script session share with (FromTemplate template) none =
    ap (λ b. cond (eqb with.job.session session && b) (solution script template.template_id share with ∷ []) []) none
    ∙ ap (λ b. cond b (solution script template.template_id share with ∷ []) []) (and-no (eqb with.job.session session))
unsolved-by script session share with (FromMiner custom) none = refl

credit-unowed : (rules : Rules) (crediting channel job nonce ntime version : ℕ) (extranonce : List ℕ) (older : List Event) (session : ℕ)
    → rules_of older ≡ Some rules → is_block_event older (event.Credit crediting channel job nonce ntime version extranonce) ≡ false
    → owed_notes_by rules (event.Credit crediting channel job nonce ntime version extranonce) older session ≡ []
credit-unowed rules crediting channel job nonce ntime version extranonce older session are none = by (booked_with older channel job) none where
  by : (o : Option Admitted)
      → option_map_or (λ with. is_block (script_of older) with (credit_share with channel job nonce ntime version extranonce)) o false ≡ false
      → flat_map (λ notes. notes)
      (found_list (λ with. solution_notes rules.pool_script session (credit_share with channel job nonce ntime version extranonce) with) o) ≡ []
  by None none = refl
  by (Some with) none =
      ap (λ l. l ++ [])
      (unsolved-by rules.pool_script session (credit_share with channel job nonce ntime version extranonce) with with.job.source
      (sym (ap (λ o. is_block (script_in o) with (credit_share with channel job nonce ntime version extranonce)) are) ∙ none))

-- by the rules of the history
owed-none : (o : Option Rules) (e : Event) (older : List Event) (session : ℕ) → ((rules : Rules) → o ≡ Some rules → owed_notes_by rules e older session ≡ []) → owed_notes o e older session ≡ []
owed-none None e older session h = refl
owed-none (Some rules) e older session h = h rules refl

unowed : (later : List Event) (e : Event) (older : List Event) (session from : ℕ) → from ≤ length older
    → (In (length older) (common_places (later ++ e ∷ older)) → ⊥)
    → (In (length older) (openings_since (index_of (later ++ e ∷ older)).openings session from) → ⊥)
    → owed_notes (rules_of (e ∷ older)) e older session ≡ []
unowed later (event.Open opening kind account class lead) older session from high common own =
    owed-none (rules_of (event.Open opening kind account class lead ∷ older)) (event.Open opening kind account class lead) older session
    (λ rules are. by rules (eqb opening session) refl) where
      by : (rules : Rules) (b : Bool) → eqb opening session ≡ b → owed_notes_by rules (event.Open opening kind account class lead) older session ≡ []
      by rules true is = absurd (own (opening-listed later opening kind account class lead older session from (eqb-true opening session is) high))
      by rules false is = ap (λ b. cond b (opening_notes rules (jobs_of older) (channel_in (channels_of (event.Open opening kind account class lead ∷ older)) (opens older + 1))) []) is
unowed later (event.Template feed template) older session from high common own =
    absurd (common (common-listed later (event.Template feed template) older refl))
unowed later (event.Tip feed tip) older session from high common own =
    absurd (common (common-listed later (event.Tip feed tip) older refl))
unowed later (event.Credit crediting channel job nonce ntime version extranonce) older session from high common own =
    by (is_block_event older (event.Credit crediting channel job nonce ntime version extranonce)) refl where
      e : Event
      e = event.Credit crediting channel job nonce ntime version extranonce

      older_rules : (past : List Event) (rules : Rules) → rules_of (event.Credit crediting channel job nonce ntime version extranonce ∷ past) ≡ Some rules → rules_of past ≡ Some rules
      older_rules [] rules are = absurd (none-some are)
      older_rules (x ∷ past) rules are = sym (rules-older (event.Credit crediting channel job nonce ntime version extranonce) x past) ∙ are

      by : (b : Bool) → is_block_event older (event.Credit crediting channel job nonce ntime version extranonce) ≡ b
          → owed_notes (rules_of (event.Credit crediting channel job nonce ntime version extranonce ∷ older)) (event.Credit crediting channel job nonce ntime version extranonce) older session ≡ []
      by true is = absurd (common (common-listed later e older is))
      by false is =
          owed-none (rules_of (e ∷ older)) e older session
          (λ rules are. credit-unowed rules crediting channel job nonce ntime version extranonce older session (older_rules older rules are) is)
unowed later e older session from high common own = owed-none (rules_of (e ∷ older)) e older session (λ rules are. refl)

-- at a place of a history
pub unowed-at : (events : List Event) (at : ℕ) (e : Event) (session from : ℕ) → slice_get events at ≡ Some e → from ≤ at
    → (In at (common_places (past_of events)) → ⊥) → (In at (openings_since (index_of (past_of events)).openings session from) → ⊥)
    → owed_in events at session (slice_get events at) ≡ []
unowed-at events at e session from is high common own =
    let s : IsSplit events at e = split-at events at e is in
    let taken : take at events ≡ s.before = ap (λ n. take n events) (sym s.place) ∙ ap (take (length s.before)) s.joined ∙ take-split s.before (e ∷ s.after) in
    let past_is : past_of events ≡ past_of s.after ++ e ∷ past_of s.before = ap past_of s.joined ∙ past-split s.before e s.after in
    let place : length (past_of s.before) ≡ at = length-reverse s.before ∙ s.place in
    ap (owed_in events at session) is ∙ ap (λ h. owed_at h e session) taken
    ∙ unowed (past_of s.after) e (past_of s.before) session from (omega (arith, high, place))
    (λ i. common (subst (λ n. In n (common_places (past_of events))) place
    (subst (λ past. In (length (past_of s.before)) (common_places past)) (sym past_is) i)))
    (λ i. own (subst (λ n. In n (openings_since (index_of (past_of events)).openings session from)) place
    (subst (λ past. In (length (past_of s.before)) (openings_since (index_of past).openings session from)) (sym past_is) i)))
