-- Submissions that wait stand in the order of their numbers, so those that a verdict is about are found
-- without going over the others.
use Rattle.std.proofs.Common.{◌≡◌, ℕ, zero, suc, ◌+◌, ◌<◌, ◌≤◌, ◌==◌, Bool, true, false, not, Option, None, Some, List, [], ◌∷◌, ◌++◌, length, get_or, filter, refl, ap, sym, subst, ◌∙◌, inl, inr, arith}
use Rattle.std.proofs.lemmas.Bool.{cases_Bool, eq-eqb, leb-false, lt-leb, lt-ltb, ltb-false, ltb-true, ne_eqb}
use Rattle.std.specs.List.{AllWithin, remove}
use Rattle.std.specs.List.Sorted.{IsPartitionedBy}
use Rattle.std.specs.Option.{OnSome, option_to_list}
use Rattle.std.specs.Prelude.{nat_le, nat_lt}
use Rattle.proxy_core.specs.Verdicts.{is_about, said_by}
use Rattle.proxy_core.specs.Waiting.{AreRising, AnswersRising, HasTaken, IsOfNumber, StayRising, TakesNumber, is_about_first, is_of_first}
use Rattle.proxy_core.specs.declared.waiting.Verdict.{Verdict}
use Rattle.proxy_core.specs.declared.waiting.Verdict.TheVariants as verdict
use Rattle.proxy_rules.specs.State.{Miner, SentOn}
use Rattle.proxy_rules.specs.Miners.{at_caller, with_line}
use Rattle.proxy_rules.specs.Steps.{said_each}

-- ---- changes

pub rising-lower : (least lower : ℕ) (list : List SentOn) (next : ℕ) → lower ≤ least → AreRising least list next → AreRising lower list next
rising-lower least lower [] next low rising = omega (arith, low, rising)
rising-lower least lower (sent ∷ list) next low rising = (let first : least ≤ sent.number = rising.0 in omega (arith, first, low), rising.1)

pub rising-more : (least : ℕ) (list : List SentOn) (next : ℕ) (sent : SentOn) → sent.number ≡ next → AreRising least list next
    → AreRising least (list ++ sent ∷ []) (next + 1)
rising-more least [] next sent is rising = (omega (arith, is, rising), omega (arith, is))
rising-more least (first ∷ list) next sent is rising = (rising.0, rising-more (first.number + 1) list next sent is rising.1)

pub rising-filter : (test : SentOn → Bool) (least : ℕ) (list : List SentOn) (next : ℕ) → AreRising least list next → AreRising least (filter test list) next
rising-filter test least [] next rising = rising
rising-filter test least (sent ∷ list) next rising = elim (cases_Bool (test sent)) [
  | inl passes ↦ rw passes (rising.0, rising-filter test (sent.number + 1) list next rising.1)
  | inr fails ↦
      rw fails (rising-lower (sent.number + 1) least (filter test list) next (let first : least ≤ sent.number = rising.0 in omega (arith, first))
      (rising-filter test (sent.number + 1) list next rising.1))
]

-- ---- those up to a number

none-up_to : (number least : ℕ) (list : List SentOn) (next : ℕ) → number < least → AreRising least list next
    → (filter (λ sent. nat_le sent.number number) list ≡ []) × (filter (λ sent. not (nat_le sent.number number)) list ≡ list)
none-up_to number least [] next low rising = (refl, refl)
none-up_to number least (sent ∷ list) next low rising =
    let first : least ≤ sent.number = rising.0 in
    let rest = none-up_to number (sent.number + 1) list next (omega (arith, first, low)) rising.1 in
    let above : nat_le sent.number number ≡ false = lt-leb sent.number number (omega (arith, first, low)) in
    rw above (rest.0, ap (λ more. sent ∷ more) rest.1)

-- ---- the one with a number

all-above : (least : ℕ) (list : List SentOn) (next k : ℕ) (d : SentOn) → AreRising least list next → k < length list → least ≤ (get_or list k d).number
all-above least [] next k d rising within = absurd (omega (arith, within))
all-above least (sent ∷ list) next zero d rising within = rising.0
all-above least (sent ∷ list) next (suc k) d rising within =
    let first : least ≤ sent.number = rising.0 in
    let more : sent.number + 1 ≤ (get_or list k d).number = all-above (sent.number + 1) list next k d rising.1 (omega (arith, within)) in
    omega (arith, first, more)

rising-at : (least : ℕ) (list : List SentOn) (next i j : ℕ) (d : SentOn) → AreRising least list next → i ≤ j → j < length list
    → (get_or list i d).number ≤ (get_or list j d).number
rising-at least [] next i j d rising order within = absurd (omega (arith, within))
rising-at least (sent ∷ list) next zero zero d rising order within = omega arith
rising-at least (sent ∷ list) next zero (suc j) d rising order within =
    let above : sent.number + 1 ≤ (get_or list j d).number = all-above (sent.number + 1) list next j d rising.1 (omega (arith, within)) in
    omega (arith, above)
rising-at least (sent ∷ list) next (suc i) zero d rising order within = absurd (omega (arith, order))
rising-at least (sent ∷ list) next (suc i) (suc j) d rising order within =
    rising-at (sent.number + 1) list next i j d rising.1 (omega (arith, order)) (omega (arith, within))

pub rising-parted : (number least : ℕ) (list : List SentOn) (next : ℕ) → AreRising least list next → IsPartitionedBy (λ sent. nat_lt sent.number number) list
rising-parted number least list next rising i j d order within lower =
    let few : (get_or list i d).number ≤ (get_or list j d).number = rising-at least list next i j d rising order within in
    let low : (get_or list j d).number < number = ltb-true (get_or list j d).number number lower in
    lt-ltb (get_or list i d).number number (omega (arith, few, low))

none-of : (number least : ℕ) (list : List SentOn) (next : ℕ) → number < least → AreRising least list next
    → (filter (λ sent. sent.number == number) list ≡ []) × (filter (λ sent. not (sent.number == number)) list ≡ list)
none-of number least [] next low rising = (refl, refl)
none-of number least (sent ∷ list) next low rising =
    let first : least ≤ sent.number = rising.0 in
    let rest = none-of number (sent.number + 1) list next (omega (arith, first, low)) rising.1 in
    let other : (sent.number == number) ≡ false = ne_eqb sent.number number (λ same. omega (arith, first, low, same)) in
    rw other (rest.0, ap (λ more. sent ∷ more) rest.1)

-- those with lower numbers are others
abbrev AreLower : ℕ → List SentOn → ℕ → Type 0
AreLower number list at = AllWithin (λ sent. nat_lt sent.number number ≡ true) list 0 at

abbrev AreNotLower : ℕ → List SentOn → ℕ → Type 0
AreNotLower number list at = AllWithin (λ sent. nat_lt sent.number number ≡ false) list at (length list)

lower_other : (number : ℕ) (sent : SentOn) → nat_lt sent.number number ≡ true → (sent.number == number) ≡ false
lower_other number sent lower =
    let below : sent.number < number = ltb-true sent.number number lower in
    ne_eqb sent.number number (λ same. omega (arith, below, same))

pub found_at : (number at least : ℕ) (list : List SentOn) (next : ℕ) (found : SentOn) → AreRising least list next → AreLower number list at
    → at < length list → get_or list at found ≡ found → found.number ≡ number
    → (filter (λ sent. sent.number == number) list ≡ found ∷ []) × (filter (λ sent. not (sent.number == number)) list ≡ remove list at)
found_at number at least [] next found rising low within is own = absurd (omega (arith, within))
found_at number zero least (sent ∷ list) next found rising low within is own =
    let same : sent.number ≡ number = ap (λ (s : SentOn). s.number) is ∙ own in
    let here : (sent.number == number) ≡ true = eq-eqb sent.number number same in
    let rest = none-of number (sent.number + 1) list next (omega (arith, same)) rising.1 in
    rw here (ap (λ more. sent ∷ more) rest.0 ∙ ap (λ (s : SentOn). s ∷ []) is, rest.1)
found_at number (suc at) least (sent ∷ list) next found rising low within is own =
    let other = lower_other number sent (low 0 sent (omega arith) (omega arith)) in
    let rest = found_at number at (sent.number + 1) list next found rising.1 (λ k d from to. low (suc k) d (omega arith) (omega (arith, to)))
    (omega (arith, within)) is own in
    rw other (rest.0, ap (λ more. sent ∷ more) rest.1)

pub none_at : (number at least : ℕ) (list : List SentOn) (next : ℕ) → AreRising least list next → AreLower number list at → AreNotLower number list at
    → at ≤ length list → ((d : SentOn) → at < length list → (get_or list at d).number ≡ number → ⊥)
    → (filter (λ sent. sent.number == number) list ≡ []) × (filter (λ sent. not (sent.number == number)) list ≡ list)
none_at number at least [] next rising low high within differs = (refl, refl)
none_at number zero least (sent ∷ list) next rising low high within differs =
    let least_one : number ≤ sent.number = ltb-false sent.number number (high 0 sent (omega arith) (omega arith)) in
    let not_it : sent.number ≡ number → ⊥ = differs sent (omega arith) in
    let other : (sent.number == number) ≡ false = ne_eqb sent.number number not_it in
    let rest = none-of number (sent.number + 1) list next (omega (arith, least_one)) rising.1 in
    rw other (rest.0, ap (λ more. sent ∷ more) rest.1)
none_at number (suc at) least (sent ∷ list) next rising low high within differs =
    let other = lower_other number sent (low 0 sent (omega arith) (omega arith)) in
    let rest = none_at number at (sent.number + 1) list next rising.1 (λ k d from to. low (suc k) d (omega arith) (omega (arith, to)))
    (λ k d from to. high (suc k) d (omega (arith, from)) (omega (arith, to))) (omega (arith, within))
    (λ d inside. differs d (omega (arith, inside))) in
    rw other (rest.0, ap (λ more. sent ∷ more) rest.1)

pub has_taken : (number at : ℕ) (list new : List SentOn) (next : ℕ) (result : Option SentOn) (found : SentOn) → AreRising 0 list next → AreLower number list at
    → at < length list → ((d : SentOn) → found ≡ get_or list at d) → found.number ≡ number → result ≡ Some found → OnSome result (new ≡ remove list at)
    → HasTaken number list result new
has_taken number at list new next None found rising low within is own some removed = absurd (cc)
has_taken number at list new next (Some taken) found rising low within is own some removed =
    let parts = found_at number at 0 list next found rising low within (sym (is found)) own in
    record { taken = ap option_to_list some ∙ sym parts.0; rest = removed ∙ sym parts.1 }

pub has_none : (number at : ℕ) (list : List SentOn) (next : ℕ) → AreRising 0 list next → AreLower number list at → AreNotLower number list at
    → at ≤ length list → ((d : SentOn) → at < length list → (get_or list at d).number ≡ number → ⊥) → HasTaken number list None list
has_none number at list next rising low high within differs =
    let parts = none_at number at 0 list next rising low high within differs in
    record { taken = sym parts.0; rest = sym parts.1 }

pub taken_rising : (number : ℕ) (old : List SentOn) (result : Option SentOn) (new : List SentOn) → TakesNumber number old result new → StayRising old new
taken_rising number old result new takes next rising =
    let taken = takes next rising in
    subst (λ (list : List SentOn). AreRising 0 list next) (sym taken.rest) (rising-filter (λ sent. not (sent.number == number)) 0 old next rising)

-- ---- verdicts

-- none waits that a verdict is about, where the first isn't one
pub none_about : (v : Verdict) (least : ℕ) (list : List SentOn) (next : ℕ) → is_of_first v ≡ true → AreRising least list next → is_about_first v list ≡ false
    → (filter (is_about v) list ≡ []) × (filter (λ sent. not (is_about v sent)) list ≡ list)
none_about (verdict.UpTo number) least [] next of rising first = (refl, refl)
none_about (verdict.UpTo number) least (sent ∷ list) next of rising first =
    let above : number < sent.number = leb-false sent.number number first in
    let rest = none-up_to number (sent.number + 1) list next (omega (arith, above)) rising.1 in
    rw first (rest.0, ap (λ more. sent ∷ more) rest.1)
none_about (verdict.Refused number code) least list next of rising first = absurd (cc)
none_about verdict.Lost least [] next of rising first = (refl, refl)
none_about verdict.Lost least (sent ∷ list) next of rising first = absurd (cc)

popped_rising : (least : ℕ) (result : Option SentOn) (old new : List SentOn) (next : ℕ) → old ≡ option_to_list result ++ new → AreRising least old next
    → AreRising least new next
popped_rising least None old new next is rising = subst (λ (list : List SentOn). AreRising least list next) is rising
popped_rising least (Some sent) old new next is rising =
    let all : AreRising least (sent ∷ new) next = subst (λ (list : List SentOn). AreRising least list next) is rising in
    rising-lower (sent.number + 1) least new next (let first : least ≤ sent.number = all.0 in omega (arith, first)) all.1

pub popped_stay : (result : Option SentOn) (old new : List SentOn) → old ≡ option_to_list result ++ new → StayRising old new
popped_stay result old new is next rising = popped_rising 0 result old new next is rising

-- one that a verdict is about leaves
pub popped_rest : (v : Verdict) (sent : SentOn) (old new : List SentOn) → old ≡ sent ∷ new → is_about v sent ≡ true
    → filter (λ other. not (is_about v other)) new ≡ filter (λ other. not (is_about v other)) old
popped_rest v sent old new is about =
    let one : filter (λ other. not (is_about v other)) (sent ∷ new) ≡ filter (λ other. not (is_about v other)) new = rw about refl in
    sym one ∙ ap (filter (λ other. not (is_about v other))) (sym is)

pub popped_said : (v : Verdict) (sent : SentOn) (old new : List SentOn) (before after : List Miner) → old ≡ sent ∷ new → is_about v sent ≡ true
    → after ≡ at_caller sent.caller (with_line (said_by v sent.id)) before
    → said_each (said_by v) (filter (is_about v) new) after ≡ said_each (said_by v) (filter (is_about v) old) before
popped_said v sent old new before after is about said =
    let one : filter (is_about v) (sent ∷ new) ≡ sent ∷ filter (is_about v) new = rw about refl in
    ap (said_each (said_by v) (filter (is_about v) new)) said
    ∙ ap (λ list. said_each (said_by v) list before) (sym one ∙ ap (filter (is_about v)) (sym is))

-- all are answered where none is left that a verdict is about
pub all_answered : (v : Verdict) (old new : List SentOn) (before after : List Miner) → is_of_first v ≡ true → StayRising old new → is_about_first v new ≡ false
    → filter (λ sent. not (is_about v sent)) new ≡ filter (λ sent. not (is_about v sent)) old
    → said_each (said_by v) (filter (is_about v) new) after ≡ said_each (said_by v) (filter (is_about v) old) before
    → AnswersRising v old before new after
all_answered v old new before after of stay none rest said next rising =
    let left = none_about v 0 new next of (stay next rising) none in
    record {
      rest = sym left.1 ∙ rest;
      said = ap (λ list. said_each (said_by v) list after) (sym left.0) ∙ said;
    }

filter_same : (test other : SentOn → Bool) (list : List SentOn) → ((sent : SentOn) → test sent ≡ other sent) → filter test list ≡ filter other list
filter_same test other [] same = refl
filter_same test other (sent ∷ list) same = elim (cases_Bool (other sent)) [
  | inl passes ↦
      let too : test sent ≡ true = same sent ∙ passes in
      rw (too, passes) (ap (λ more. sent ∷ more) (filter_same test other list same))
  | inr fails ↦
      let too : test sent ≡ false = same sent ∙ fails in
      rw (too, fails) (filter_same test other list same)
]

-- the one of a number is answered
pub one_answered : (v : Verdict) (number : ℕ) (old : List SentOn) (result : Option SentOn) (new : List SentOn) (before after : List Miner)
    → IsOfNumber number v → TakesNumber number old result new → after ≡ said_each (said_by v) (option_to_list result) before
    → AnswersRising v old before new after
one_answered v number old result new before after of takes said next rising =
    let taken = takes next rising in
    record {
      rest = taken.rest ∙ filter_same (λ sent. not (sent.number == number)) (λ sent. not (is_about v sent)) old (λ sent. ap not (sym (of sent)));
      said = said ∙ ap (λ list. said_each (said_by v) list before)
          (taken.taken ∙ filter_same (λ sent. sent.number == number) (is_about v) old (λ sent. sym (of sent)));
    }
