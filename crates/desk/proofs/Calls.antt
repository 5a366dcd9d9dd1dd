-- Calls of a pass, one after the other.
use Rattle.std.proofs.Common.{◌≡◌, ℕ, ◌+◌, ◌≤◌, Bool, List, [], ◌∷◌, ◌++◌, Result, Ok, Err, length, refl, sym, ap, subst, ◌∙◌, append_assoc, append-nil, arith}
use Rattle.std.proofs.lemmas.List.{length-append}
use Rattle.pool_base.specs.Lists.{Begins}
use Rattle.pool_base.specs.Calls.{Call, GoodCalls, IsOutcome, RiseFrom}
use Rattle.desk.specs.Passes.{FrontsRise, IsAnswered, IsSamePass, MakesCall, Progress}
use Rattle.desk.specs.Plays.{outcome_of}
use Rattle.desk.proofs.Fronts.{begins-itself, begins-more, begins-trans}
use Rattle.desk.specs.Calling.{AddsCalls, CallsDesk, IsAsked}

begins_length : {E : Type 0} (front whole : List E) → Begins front whole → length front ≤ length whole
begins_length {E} front whole begins =
    let e = length-append front begins.0 in
    let f = ap (λ (l : List E). length l) begins.1 in
    omega arith

rise_later : {E Q R F : Type 0} (known between now : ℕ) (calls : List (Call E Q R F)) → known ≤ between → RiseFrom between calls now → RiseFrom known calls now
rise_later known between now [] later rise = omega (arith, later, rise)
rise_later known between now (call ∷ calls) later rise = ((let r = rise.0 in omega (arith, later, r)), rise.1)

rise_both : {E Q R F : Type 0} (a b c : ℕ) (xs ys : List (Call E Q R F)) → RiseFrom a xs b → RiseFrom b ys c → RiseFrom a (xs ++ ys) c
rise_both a b c [] ys first then = rise_later a b c ys first then
rise_both a b c (x ∷ xs) ys first then = (first.0, rise_both (x.number + 1) b c xs ys first.1 then)

fronts_later : {E Q R F : Type 0} (reached between now : ℕ) (calls : List (Call E Q R F)) → reached ≤ between → FrontsRise between calls now → FrontsRise reached calls now
fronts_later reached between now [] later rise = omega (arith, later, rise)
fronts_later reached between now (call ∷ calls) later rise = ((let r = rise.0 in omega (arith, later, r)), rise.1)

fronts_both : {E Q R F : Type 0} (a b c : ℕ) (xs ys : List (Call E Q R F)) → FrontsRise a xs b → FrontsRise b ys c → FrontsRise a (xs ++ ys) c
fronts_both a b c [] ys first then = fronts_later a b c ys first then
fronts_both a b c (x ∷ xs) ys first then = (first.0, fronts_both (x.front + length x.added) b c xs ys first.1 then)

module _ {E Q R F : Type 0} (answers : List E → ℕ → Q → List E → R → Type 0) (wants_memory : F → Bool) where
  -- calls that were good are good where more was seen
  good_later : (seen later : List E) (calls : List (Call E Q R F)) → Begins seen later → GoodCalls answers wants_memory seen calls → GoodCalls answers wants_memory later calls
  good_later seen later [] begins good = tt
  good_later seen later (call ∷ calls) begins good =
      let first = good.0 in (
        record {
          before = first.before;
          after = first.after ++ begins.0;
          stands = sym begins.1 ∙ ap (λ (l : List E). l ++ begins.0) first.stands ∙ append_assoc (first.before ++ call.added) first.after begins.0;
          at_front = first.at_front;
          outcome = first.outcome;
        },
        good_later seen later calls begins good.1,
      )

  good_both : (seen : List E) (xs ys : List (Call E Q R F)) → GoodCalls answers wants_memory seen xs → GoodCalls answers wants_memory seen ys → GoodCalls answers wants_memory seen (xs ++ ys)
  good_both seen [] ys first then = then
  good_both seen (x ∷ xs) ys first then = (first.0, good_both seen xs ys first.1 then)

  -- no calls, one call, and calls after calls
  pub goes_none : (pass : Progress E Q R F) → AddsCalls answers wants_memory pass [] pass
  goes_none pass = record {
    calls_are = sym (append-nil pass.calls);
    seen = begins-itself pass.seen;
    good = tt;
    numbers = omega arith;
    fronts = omega arith;
    same = (refl, refl);
  }

  pub goes_one : (old new : Progress E Q R F) (call : Call E Q R F) → CallsDesk answers wants_memory old call new → AddsCalls answers wants_memory old (call ∷ []) new
  goes_one old new call made =
      let reached : length new.seen ≡ call.front + length call.added =
      ap (λ (l : List E). length l) made.seen ∙ length-append made.events call.added ∙ ap (λ n. n + length call.added) made.at_front in
      record {
        calls_are = made.calls;
        seen = subst (λ (l : List E). Begins old.seen l) (sym made.seen) (begins-more old.seen made.events call.added made.seen_before);
        good = (
          record {
            before = made.events;
            after = [];
            stands = made.seen ∙ sym (append-nil (made.events ++ call.added));
            at_front = made.at_front;
            outcome = made.ended;
          },
          tt,
        );
        numbers = (made.number, (let k = made.known in omega (arith, k)));
        fronts = ((let b = begins_length old.seen made.events made.seen_before in let a = made.at_front in omega (arith, b, a)), omega (arith, reached));
        same = made.same;
      }

  pub goes_both : (a b c : Progress E Q R F) (xs ys : List (Call E Q R F)) → AddsCalls answers wants_memory a xs b → AddsCalls answers wants_memory b ys c
      → AddsCalls answers wants_memory a (xs ++ ys) c
  goes_both a b c xs ys first then = record {
    calls_are = then.calls_are ∙ ap (λ (l : List (Call E Q R F)). l ++ ys) first.calls_are ∙ append_assoc a.calls xs ys;
    seen = begins-trans a.seen b.seen c.seen first.seen then.seen;
    good = good_both c.seen xs ys (good_later b.seen c.seen xs then.seen first.good) then.good;
    numbers = rise_both a.known b.known c.known xs ys first.numbers then.numbers;
    fronts = fronts_both (length a.seen) (length b.seen) (length c.seen) xs ys first.fronts then.fronts;
    same = (then.same.0 ∙ first.same.0, then.same.1 ∙ first.same.1);
  }

  -- what a desk says of a call
  calls_desk : {old new : Progress E Q R F} {front : ℕ} {asked : Q} {result : Result R F} → (made : MakesCall answers wants_memory old new front asked (outcome_of result))
      → IsSamePass old new → IsAsked answers wants_memory old asked result new
  calls_desk made same = record {
    call = made.call;
    worker_is = made.worker;
    asked_is = made.asked_is;
    outcome_is = made.outcome_is;
    calls = record {
      events = made.events;
      at_front = made.at_front ∙ sym made.front_is;
      seen_before = made.seen_before;
      ended = subst (λ o. IsOutcome answers wants_memory made.events made.call o) (sym made.outcome_is) made.ends;
      seen = made.seen;
      calls = made.calls;
      number = made.number;
      known = made.known;
      same = same;
    };
  }

  pub asked_ok : (old new : Progress E Q R F) (asked : Q) (answered : ℕ × R) → IsAnswered answers wants_memory old new asked (Ok answered) → IsSamePass old new
      → IsAsked answers wants_memory old asked (Ok answered.1) new
  asked_ok old new asked answered made same = calls_desk {result = Ok answered.1} made same

  pub asked_err : (old new : Progress E Q R F) (asked : Q) (failed : ℕ × F) → IsAnswered answers wants_memory old new asked (Err failed) → IsSamePass old new
      → IsAsked answers wants_memory old asked (Err failed.1) new
  asked_err old new asked failed made same = calls_desk {result = Err failed.1} made same
