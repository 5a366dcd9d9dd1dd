-- Channels whose older settings were forgotten answer for those of the moves.
use Rattle.std.proofs.Common.{◌≡◌, inl, inr, ℕ, suc, ◌<◌, ◌≤◌, ◌⊎◌, Bool, true, false, cond, ◌&&◌, ◌||◌, not, Option, None, Some, List, [], ◌∷◌, ◌++◌, filter, length, map, refl, ap, subst, sym, ◌∙◌, arith}
use Rattle.std.proofs.Math.Dec.{eqb}
use Rattle.std.proofs.lemmas.Bool.{false≢true, leb-true, le-ltb, lt-ltb, ltb-true}
use Rattle.std.specs.Prelude.{nat_le, nat_lt}
use Rattle.std.specs.Option.{option_map}
use Rattle.std.specs.Str.{bytes_eq}
use Rattle.history_laws.proofs.Entrances as entrances
use Rattle.history_laws.proofs.Legalities.{some-none}
use Rattle.pool_history.specs.declared.asking.OpenAsk.{OpenAsk}
use Rattle.pool_history.specs.declared.refusals.NameError.{NameError}
use Rattle.pool_history.specs.declared.refusals.NameError.TheVariants as name
use Rattle.pool_history.specs.declared.refusals.OpenError.{OpenError}
use Rattle.pool_history.specs.declared.refusals.OpenError.TheVariants as open_error
use Rattle.pool_history.specs.declared.settings.Rules.{Rules}
use Rattle.pool_history.specs.declared.spans.LiveSpan.{LiveSpan}
use Rattle.pool_history.specs.Accounts.{account_of, is_empty, is_known}
use Rattle.pool_history.specs.Channels.{ChannelMove, ClassSet, OpenChannel, account_or, channel_in, channels_in, channels_told, class_at, class_before, last_class, present_class, with_class, with_name}
use Rattle.pool_history.specs.Conditions.{first_false, unless_refusal}
use Rattle.pool_history.specs.Refusing.{class_of_target, conditions_among, count_among, has_too_many_among, lead_among, lead_length, lead_unless, may_open, most_channels, most_opens, nameable, openable_among}
use Rattle.pool_history.specs.Spaces.{lowest}
use Rattle.channels.specs.Cuts.{IsAskedWithin, asked_since, cut_sets, with_cut, without_unasked}
use Rattle.channels.specs.Plans.{completion_of}
use Rattle.channels.specs.Tables.{AllAnswerFor, AnswersFor, ChannelTable, IsTold, KeptChannel, kept_channel}

-- where no place before one is asked for, the older sets go
since : (oldest place opening : ℕ) (sets : List ClassSet) → oldest ≤ place → class_before place (asked_since oldest sets) opening ≡ class_before place sets opening
since oldest place opening [] within = refl
since oldest place opening (set ∷ older) within = by_test (nat_lt set.at oldest) refl (since oldest place opening older within) where
  by_test : (t : Bool) → nat_lt set.at oldest ≡ t → class_before place (asked_since oldest older) opening ≡ class_before place older opening
      → class_before place (cond t (set ∷ []) (set ∷ asked_since oldest older)) opening ≡ cond (nat_lt set.at place) set.class (class_before place older opening)
  by_test true is rest =
      let before : set.at < oldest = ltb-true set.at oldest is in
      let test : nat_lt set.at place ≡ true = lt-ltb set.at place (omega (arith, before, within)) in
      ap (λ b. cond b set.class opening) test ∙ sym (ap (λ b. cond b set.class (class_before place older opening)) test)
  by_test false is rest = ap (λ n. cond (nat_lt set.at place) set.class n) rest

-- where no place behind it is asked for, the last set goes
without : (newest place opening : ℕ) (sets : List ClassSet) → place ≤ newest → class_before place (without_unasked newest sets) opening ≡ class_before place sets opening
without newest place opening [] within = refl
without newest place opening (set ∷ older) within = by_test (nat_le newest set.at) refl where
  by_test : (t : Bool) → nat_le newest set.at ≡ t
      → class_before place (cond t older (set ∷ older)) opening ≡ cond (nat_lt set.at place) set.class (class_before place older opening)
  by_test true is =
      let behind : newest ≤ set.at = leb-true newest set.at is in
      sym (ap (λ b. cond b set.class (class_before place older opening)) (le-ltb set.at place (omega (arith, behind, within))))
  by_test false is = refl

-- the last set is kept
first-kept : (oldest place opening : ℕ) (set : ClassSet) (older : List ClassSet) → nat_lt set.at place ≡ true → class_before place (asked_since oldest (set ∷ older)) opening ≡ set.class
first-kept oldest place opening set older is = by_test (nat_lt set.at oldest) where
  by_test : (t : Bool) → class_before place (cond t (set ∷ []) (set ∷ asked_since oldest older)) opening ≡ set.class
  by_test true = ap (λ b. cond b set.class opening) is
  by_test false = ap (λ b. cond b set.class (class_before place (asked_since oldest older) opening)) is

-- the sets that are cut have the same class at each place that is asked for
cut-same : (at class place opening : ℕ) (span : LiveSpan) (sets : List ClassSet) → ((span.oldest ≤ place) × (place ≤ span.newest)) ⊎ (at < place)
    → class_before place (cut_sets at class span sets) opening ≡ cond (nat_lt at place) class (class_before place sets opening)
cut-same at class place opening span sets (inl within) =
    since span.oldest place opening (record { at = at; class = class } ∷ without_unasked span.newest sets) within.0
    ∙ ap (λ n. cond (nat_lt at place) class n) (without span.newest place opening sets within.1)
cut-same at class place opening span sets (inr behind) =
    first-kept span.oldest place opening (record { at = at; class = class }) (without_unasked span.newest sets) (lt-ltb at place behind)
    ∙ sym (ap (λ b. cond b class (class_before place sets opening)) (lt-ltb at place behind))

-- and the class that is set is the present one
pub last-cut : (at class opening : ℕ) (span : LiveSpan) (sets : List ClassSet) → last_class (cut_sets at class span sets) opening ≡ class
last-cut at class opening span sets = by_test (nat_lt at span.oldest) where
  by_test : (t : Bool)
      → last_class (cond t (record { at = at; class = class } ∷ []) (record { at = at; class = class } ∷ asked_since span.oldest (without_unasked span.newest sets))) opening
      ≡ class
  by_test true = refl
  by_test false = refl

-- a channel answers for itself, and for the same one
pub answers-self : (asked : ℕ → Bool) (channel : OpenChannel) → AnswersFor asked channel channel
answers-self asked channel = record { id_is = refl; kept_is = refl; class_is = λ place is. refl }

pub all-as : (asked : ℕ → Bool) (kept given told : List OpenChannel) → kept ≡ given → AllAnswerFor asked given told → AllAnswerFor asked kept told
all-as asked kept given told same all = subst (λ l. AllAnswerFor asked l told) (sym same) all

-- what is done with each
pub all-mapped : (asked : ℕ → Bool) (f g : OpenChannel → OpenChannel) → ((k t : OpenChannel) → AnswersFor asked k t → AnswersFor asked (f k) (g t))
    → (kept told : List OpenChannel) → AllAnswerFor asked kept told → AllAnswerFor asked (map f kept) (map g told)
all-mapped asked f g each [] [] all = tt
all-mapped asked f g each [] (t ∷ told) all = absurd all
all-mapped asked f g each (k ∷ kept) [] all = absurd all
all-mapped asked f g each (k ∷ kept) (t ∷ told) all = (each k t all.0, all-mapped asked f g each kept told all.1)

-- those that pass
pub all-filtered : (asked : ℕ → Bool) (p : OpenChannel → Bool) → ((k t : OpenChannel) → AnswersFor asked k t → p k ≡ p t) → (kept told : List OpenChannel)
    → AllAnswerFor asked kept told → AllAnswerFor asked (filter p kept) (filter p told)
all-filtered asked p same [] [] all = tt
all-filtered asked p same [] (t ∷ told) all = absurd all
all-filtered asked p same (k ∷ kept) [] all = absurd all
all-filtered asked p same (k ∷ kept) (t ∷ told) all = by_tests (p k) (p t) (same k t all.0) (all-filtered asked p same kept told all.1) where
  by_tests : (a b : Bool) → a ≡ b → AllAnswerFor asked (filter p kept) (filter p told)
      → AllAnswerFor asked (cond a (k ∷ filter p kept) (filter p kept)) (cond b (t ∷ filter p told) (filter p told))
  by_tests true true is rest = (all.0, rest)
  by_tests true false is rest = absurd (false≢true (sym is))
  by_tests false true is rest = absurd (false≢true is)
  by_tests false false is rest = rest

-- and one more
pub all-joined : (asked : ℕ → Bool) (kept told : List OpenChannel) (k t : OpenChannel) → AllAnswerFor asked kept told → AnswersFor asked k t
    → AllAnswerFor asked (kept ++ k ∷ []) (told ++ t ∷ [])
all-joined asked [] [] k t all one = (one, tt)
all-joined asked [] (other ∷ told) k t all one = absurd all
all-joined asked (other ∷ kept) [] k t all one = absurd all
all-joined asked (first ∷ kept) (other ∷ told) k t all one = (all.0, all-joined asked kept told k t all.1 one)

-- a channel with a name
pub named-answers : (asked : ℕ → Bool) (id : ℕ) (account : List ℕ) (k t : OpenChannel) → AnswersFor asked k t → AnswersFor asked (with_name id account k) (with_name id account t)
named-answers asked id account k t one = by_tests (eqb k.id id) (eqb t.id id) (ap (λ n. eqb n id) one.id_is) where
  by_tests : (a b : Bool) → a ≡ b
      → AnswersFor asked (cond a (record k { account = account_or k.account account }) k) (cond b (record t { account = account_or t.account account }) t)
  by_tests true true is = record {
    id_is = one.id_is;
    kept_is = ap {A = KeptChannel} (λ c. record c { account = account_or c.account account }) one.kept_is;
    class_is = one.class_is;
  }
  by_tests true false is = absurd (false≢true (sym is))
  by_tests false true is = absurd (false≢true is)
  by_tests false false is = one

-- a channel whose sets are cut answers for the one whose class is set
pub cut-answers : (asked : ℕ → Bool) (at id class : ℕ) (span : LiveSpan) → IsAskedWithin asked span at → (k t : OpenChannel) → AnswersFor asked k t
    → AnswersFor asked (with_cut at id class span k) (with_class at id class t)
cut-answers asked at id class span within k t one = by_tests (eqb k.id id) (eqb t.id id) (ap (λ n. eqb n id) one.id_is) where
  by_tests : (a b : Bool) → a ≡ b
      → AnswersFor asked (cond a (record k { sets = cut_sets at class span k.sets }) k) (cond b (record t { sets = record { at = at; class = class } ∷ t.sets }) t)
  by_tests true true is = record {
    id_is = one.id_is;
    kept_is =
        ap (λ n. record (kept_channel k) { class = n }) (last-cut at class k.opening_class span k.sets)
        ∙ ap {A = KeptChannel} (λ c. record c { class = class }) one.kept_is;
    class_is = λ place wanted.
        cut-same at class place k.opening_class span k.sets (within place wanted)
        ∙ ap (λ n. cond (nat_lt at place) class n) (one.class_is place wanted);
  }
  by_tests true false is = absurd (false≢true (sym is))
  by_tests false true is = absurd (false≢true is)
  by_tests false false is = one

-- where less is asked for
all-weaker : (asked fewer : ℕ → Bool) → ((place : ℕ) → fewer place ≡ true → asked place ≡ true) → (kept told : List OpenChannel)
    → AllAnswerFor asked kept told → AllAnswerFor fewer kept told
all-weaker asked fewer each [] [] all = tt
all-weaker asked fewer each [] (t ∷ told) all = absurd all
all-weaker asked fewer each (k ∷ kept) [] all = absurd all
all-weaker asked fewer each (k ∷ kept) (t ∷ told) all = (
  record { id_is = all.0.id_is; kept_is = all.0.kept_is; class_is = λ place is. all.0.class_is place (each place is) },
  all-weaker asked fewer each kept told all.1,
)

pub told-weaker : (asked fewer : ℕ → Bool) (table : ChannelTable) (moves : List ChannelMove) → ((place : ℕ) → fewer place ≡ true → asked place ≡ true)
    → IsTold asked table moves → IsTold fewer table moves
told-weaker asked fewer table moves each told = record {
  opened_are = told.opened_are;
  channels_are = all-weaker asked fewer each table.open_channels (channels_told moves) told.channels_are;
}

-- one answers for the other, or there is none
abbrev pub AnswersIfAny : (ℕ → Bool) → Option OpenChannel → Option OpenChannel → Type 0
AnswersIfAny asked None None = Unit {0}
AnswersIfAny asked None (Some told) = ⊥
AnswersIfAny asked (Some kept) None = ⊥
AnswersIfAny asked (Some kept) (Some told) = AnswersFor asked kept told

pub in-answers : (asked : ℕ → Bool) (kept told : List OpenChannel) (id : ℕ) → AllAnswerFor asked kept told → AnswersIfAny asked (channel_in kept id) (channel_in told id)
in-answers asked [] [] id all = tt
in-answers asked [] (t ∷ told) id all = absurd all
in-answers asked (k ∷ kept) [] id all = absurd all
in-answers asked (k ∷ kept) (t ∷ told) id all =
    by_tests (eqb k.id id) (eqb t.id id) (ap (λ n. eqb n id) all.0.id_is) (in-answers asked kept told id all.1) where
      by_tests : (a b : Bool) → a ≡ b → AnswersIfAny asked (channel_in kept id) (channel_in told id)
          → AnswersIfAny asked (cond a (Some k) (channel_in kept id)) (cond b (Some t) (channel_in told id))
      by_tests true true is rest = all.0
      by_tests true false is rest = absurd (false≢true (sym is))
      by_tests false true is rest = absurd (false≢true is)
      by_tests false false is rest = rest

-- those of a session
own-all : (asked : ℕ → Bool) (kept told : List OpenChannel) (session : ℕ) → AllAnswerFor asked kept told
    → AllAnswerFor asked (channels_in kept session) (channels_in told session)
own-all asked kept told session all =
    all-filtered asked (λ c. eqb c.session session) (λ k t one. ap (λ c. eqb c.session session) one.kept_is) kept told all

pub own-answers : (asked : ℕ → Bool) (kept told : List OpenChannel) (session id : ℕ) → AllAnswerFor asked kept told
    → AnswersIfAny asked (channel_in (channels_in kept session) id) (channel_in (channels_in told session) id)
own-answers asked kept told session id all =
    in-answers asked (channels_in kept session) (channels_in told session) id (own-all asked kept told session all)

pub kept-same : (asked : ℕ → Bool) (kept told : Option OpenChannel) → AnswersIfAny asked kept told → option_map kept_channel kept ≡ option_map kept_channel told
kept-same asked None None any = refl
kept-same asked None (Some t) any = absurd any
kept-same asked (Some k) None any = absurd any
kept-same asked (Some k) (Some t) any = ap (λ c. Some c) any.kept_is

pub present-same : (asked : ℕ → Bool) (kept told : Option OpenChannel) → AnswersIfAny asked kept told → option_map present_class kept ≡ option_map present_class told
present-same asked None None any = refl
present-same asked None (Some t) any = absurd any
present-same asked (Some k) None any = absurd any
present-same asked (Some k) (Some t) any = ap (λ c. Some c.class) any.kept_is

pub class-same : (asked : ℕ → Bool) (kept told : Option OpenChannel) (place : ℕ) → asked place ≡ true → AnswersIfAny asked kept told
    → option_map (λ c. class_at c place) kept ≡ option_map (λ c. class_at c place) told
class-same asked None None place is any = refl
class-same asked None (Some t) place is any = absurd any
class-same asked (Some k) None place is any = absurd any
class-same asked (Some k) (Some t) place is any = ap (λ n. Some n) (any.class_is place is)

pub none-same : (asked : ℕ → Bool) (kept told : Option OpenChannel) → AnswersIfAny asked kept told → kept ≡ None → told ≡ None
none-same asked None None any is = refl
none-same asked None (Some t) any is = absurd any
none-same asked (Some k) None any is = refl
none-same asked (Some k) (Some t) any is = absurd (some-none is)

pub some-same : (asked : ℕ → Bool) (kept told : Option OpenChannel) → AnswersIfAny asked kept told → (k : OpenChannel) → kept ≡ Some k
    → (t : OpenChannel) × (told ≡ Some t) × AnswersFor asked k t
some-same asked None told any k is = absurd (entrances.none-some is)
some-same asked (Some other) None any k is = absurd any
some-same asked (Some other) (Some t) any k is = (t, refl, subst (λ c. AnswersFor asked c t) (entrances.some-same is) any)

pub some-back : (asked : ℕ → Bool) (kept told : Option OpenChannel) → AnswersIfAny asked kept told → (t : OpenChannel) → told ≡ Some t
    → (k : OpenChannel) × (kept ≡ Some k) × AnswersFor asked k t
some-back asked kept None any t is = absurd (entrances.none-some is)
some-back asked None (Some other) any t is = absurd any
some-back asked (Some k) (Some other) any t is = (k, refl, subst (λ c. AnswersFor asked k c) (entrances.some-same is) any)

-- there are as many
length-same : (asked : ℕ → Bool) (kept told : List OpenChannel) → AllAnswerFor asked kept told → length kept ≡ length told
length-same asked [] [] all = refl
length-same asked [] (t ∷ told) all = absurd all
length-same asked (k ∷ kept) [] all = absurd all
length-same asked (k ∷ kept) (t ∷ told) all = ap suc (length-same asked kept told all.1)

pub count-same : (asked : ℕ → Bool) (kept told : List OpenChannel) (session : ℕ) → AllAnswerFor asked kept told → count_among kept session ≡ count_among told session
count-same asked kept told session all =
    length-same asked (channels_in kept session) (channels_in told session) (own-all asked kept told session all)

pub full-same : (asked : ℕ → Bool) (kept told : List OpenChannel) (n session : ℕ) → AllAnswerFor asked kept told
    → has_too_many_among kept n session ≡ has_too_many_among told n session
full-same asked kept told n session all = ap (λ count. nat_le most_channels count || nat_le most_opens n) (count-same asked kept told session all)

pub leads-same : (asked : ℕ → Bool) (kept told : List OpenChannel) → AllAnswerFor asked kept told → map (λ channel. channel.lead) kept ≡ map (λ channel. channel.lead) told
leads-same asked [] [] all = refl
leads-same asked [] (t ∷ told) all = absurd all
leads-same asked (k ∷ kept) [] all = absurd all
leads-same asked (k ∷ kept) (t ∷ told) all =
    ap (λ c. c.lead ∷ map (λ channel. channel.lead) kept) all.0.kept_is ∙ ap (λ l. t.lead ∷ l) (leads-same asked kept told all.1)

-- why an opening is refused, by how many channels the session has
abbrev refusal_by : Rules → ℕ → ℕ → OpenAsk → Option OpenError
refusal_by rules count n ask =
    first_false
    ((may_open rules ask.kind (account_of ask.identity), open_error.UnknownUser)
    ∷ (nat_le (class_of_target ask.max_target) 60, open_error.TargetOutOfRange (class_of_target ask.max_target))
    ∷ (nat_le ask.min_size 11, open_error.SizeTooLarge ask.min_size)
    ∷ (not (nat_le most_channels count || nat_le most_opens n), open_error.TooManyChannels count n)
    ∷ []) None

pub openable-same : (asked : ℕ → Bool) (kept told : List OpenChannel) (rules : Rules) (n session : ℕ) (ask : OpenAsk) → AllAnswerFor asked kept told
    → openable_among rules kept n session ask ≡ openable_among rules told n session ask
openable-same asked kept told rules n session ask all =
    ap (λ count. lead_unless (refusal_by rules count n ask) (lead_among kept ask)) (count-same asked kept told session all)
    ∙ ap (λ leads. lead_unless (first_false (conditions_among rules told n session ask) None) (lowest (lead_length ask.kind ask.min_size) leads))
    (leads-same asked kept told all)

-- whether a channel is named is by its account
abbrev naming_by : Rules → List ℕ → List ℕ → Option NameError
naming_by rules account own =
    first_false
    ((is_known rules account, name.UnknownUser)
    ∷ (not (not (is_empty own) && not (bytes_eq own account)), name.OtherAccount)
    ∷ []) None

pub nameable-same : (asked : ℕ → Bool) (kept told : Option OpenChannel) (rules : Rules) (account : List ℕ) → AnswersIfAny asked kept told
    → completion_of (nameable rules account kept) ≡ completion_of (nameable rules account told)
nameable-same asked None None rules account any = refl
nameable-same asked None (Some t) rules account any = absurd any
nameable-same asked (Some k) None rules account any = absurd any
nameable-same asked (Some k) (Some t) rules account any =
    by_refusal (naming_by rules account k.account) ∙ ap (λ c. completion_of (unless_refusal (naming_by rules account c.account) t)) any.kept_is where
      by_refusal : (refusal : Option NameError) → completion_of (unless_refusal refusal k) ≡ completion_of (unless_refusal refusal t)
      by_refusal None = refl
      by_refusal (Some e) = refl
