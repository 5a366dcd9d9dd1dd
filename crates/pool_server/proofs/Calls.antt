-- Calls of a pass.
use Rattle.std.proofs.Common.{◌≡◌, ℕ, ◌+◌, ◌≤◌, List, [], ◌∷◌, ◌++◌, Result, length, refl, sym, ap, subst, ◌∙◌, append_assoc, append-nil, arith}
use Rattle.std.proofs.lemmas.List.{length-append, length-take-le}
use Rattle.pool_base.specs.Calls.{RiseFrom}
use Rattle.desk.specs.Passes.{FrontsRise, MakesCall}
use Rattle.desk.proofs.Fronts.{begins-itself, begins-more, begins-trans}
use Rattle.pool_base.specs.Lists.{Begins}
use Rattle.pool_history.specs.declared.asking.Request.{Request}
use Rattle.pool_history.specs.declared.asking.Request.TheVariants as request
use Rattle.pool_history.specs.declared.events.Event.{Event}
use Rattle.pool_history.specs.declared.refusals.BookError.{BookError}
use Rattle.pool_history.specs.declared.replies.Reply.{Reply}
use Rattle.pool_history.specs.declared.replies.Reply.TheVariants as reply
use Rattle.pool_history.specs.Answering.{Answer}
use Rattle.pool_history.specs.Calls.{GoodPoolCalls, IsGoodPoolCall, PoolCall, wants_memory}
use Rattle.history_laws.specs.Answered.{BriefsRoll}
use Rattle.ledger_records.specs.Requests.{IsWellFormedRequest}
use Rattle.v2_sessions.specs.Answerers.{Acts, RollsAsBriefed, outcome_of}
use Rattle.pool_server.specs.Calling.{AddsCalls, CallsDesk, PoolPass, faults_after, faults_through}

-- a call stands in all that its pass has seen later
stands : (old : PoolPass) (call : PoolCall) (middle : PoolPass) (seen : List Event) → CallsDesk old call middle → Begins middle.seen seen → IsGoodPoolCall seen call
stands old call middle seen made later = record {
  before = made.events;
  after = later.0;
  stands = sym later.1 ∙ ap (λ (l : List Event). l ++ later.0) made.seen;
  at_front = made.at_front;
  outcome = made.ended;
}

begins_length : (front whole : List Event) → Begins front whole → length front ≤ length whole
begins_length front whole begins =
    let e = length-append front begins.0 in
    let f = ap (λ (l : List Event). length l) begins.1 in
    omega arith

pub goes_on : (old new : PoolPass) (calls : List PoolCall) → Acts CallsDesk old calls new → AddsCalls old calls new
goes_on old new [] acts =
    rw acts
    (record { calls_are = sym (append-nil old.calls); seen = begins-itself old.seen; good = tt; numbers = omega arith; fronts = omega arith; same = (refl, refl) })
goes_on old new (call ∷ calls) acts =
    let middle = acts.0 in
    let first = acts.1 in
    let rest = goes_on middle new calls acts.2 in
    let reached : length middle.seen ≡ call.front + length call.added = ap (λ (l : List Event). length l) first.seen ∙ length-append first.events call.added ∙ ap (λ n. n + length call.added) first.at_front in
    record {
      calls_are = rest.calls_are ∙ ap (λ (l : List PoolCall). l ++ calls) first.calls ∙ append_assoc old.calls (call ∷ []) calls;
      seen = begins-trans old.seen middle.seen new.seen
          (subst (λ (l : List Event). Begins old.seen l) (sym first.seen) (begins-more old.seen first.events call.added first.seen_before)) rest.seen;
      good = (stands old call middle new.seen first rest.seen, rest.good);
      numbers = (first.number, subst (λ n. RiseFrom n calls new.known) first.known rest.numbers);
      fronts = (
        (let b = begins_length old.seen first.events first.seen_before in let a = first.at_front in omega arith),
        subst (λ n. FrontsRise n calls (length new.seen)) reached rest.fronts,
      );
      same = (rest.same.0 ∙ first.same.0, rest.same.1 ∙ first.same.1);
    }

-- calls that were good are good where more was seen
good_later : (seen later : List Event) (calls : List PoolCall) → Begins seen later → GoodPoolCalls seen calls → GoodPoolCalls later calls
good_later seen later [] begins good = tt
good_later seen later (call ∷ calls) begins good =
    let first = good.0 in (
      record {
        before = first.before;
        after = first.after ++ begins.0;
        stands = sym begins.1 ∙ ap (λ (l : List Event). l ++ begins.0) first.stands ∙ append_assoc (first.before ++ call.added) first.after begins.0;
        at_front = first.at_front;
        outcome = first.outcome;
      },
      good_later seen later calls begins good.1,
    )

good_both : (seen : List Event) (xs ys : List PoolCall) → GoodPoolCalls seen xs → GoodPoolCalls seen ys → GoodPoolCalls seen (xs ++ ys)
good_both seen [] ys first then = then
good_both seen (x ∷ xs) ys first then = (first.0, good_both seen xs ys first.1 then)

rise_later : (known between now : ℕ) (calls : List PoolCall) → known ≤ between → RiseFrom between calls now → RiseFrom known calls now
rise_later known between now [] later rise = omega (arith, later, rise)
rise_later known between now (call ∷ calls) later rise = ((let r = rise.0 in omega (arith, later, r)), rise.1)

rise_both : (a b c : ℕ) (xs ys : List PoolCall) → RiseFrom a xs b → RiseFrom b ys c → RiseFrom a (xs ++ ys) c
rise_both a b c [] ys first then = rise_later a b c ys first then
rise_both a b c (x ∷ xs) ys first then = (first.0, rise_both (x.number + 1) b c xs ys first.1 then)

fronts_later : (reached between now : ℕ) (calls : List PoolCall) → reached ≤ between → FrontsRise between calls now → FrontsRise reached calls now
fronts_later reached between now [] later rise = omega (arith, later, rise)
fronts_later reached between now (call ∷ calls) later rise = ((let r = rise.0 in omega (arith, later, r)), rise.1)

fronts_both : (a b c : ℕ) (xs ys : List PoolCall) → FrontsRise a xs b → FrontsRise b ys c → FrontsRise a (xs ++ ys) c
fronts_both a b c [] ys first then = fronts_later a b c ys first then
fronts_both a b c (x ∷ xs) ys first then = (first.0, fronts_both (x.front + length x.added) b c xs ys first.1 then)

-- no calls, and calls after calls
pub goes_none : (pass : PoolPass) → AddsCalls pass [] pass
goes_none pass = goes_on pass pass [] refl

pub goes_both : (a b c : PoolPass) (xs ys : List PoolCall) → AddsCalls a xs b → AddsCalls b ys c → AddsCalls a (xs ++ ys) c
goes_both a b c xs ys first then = record {
  calls_are = then.calls_are ∙ ap (λ (l : List PoolCall). l ++ ys) first.calls_are ∙ append_assoc a.calls xs ys;
  seen = begins-trans a.seen b.seen c.seen first.seen then.seen;
  good = good_both c.seen xs ys (good_later b.seen c.seen xs then.seen first.good) then.good;
  numbers = rise_both a.known b.known c.known xs ys first.numbers then.numbers;
  fronts = fronts_both (length a.seen) (length b.seen) (length c.seen) xs ys first.fronts then.fronts;
  same = (then.same.0 ∙ first.same.0, then.same.1 ∙ first.same.1);
}

pub faults_both : (count : ℕ) (xs ys : List PoolCall) → faults_through count (xs ++ ys) ≡ faults_through (faults_through count xs) ys
faults_both count [] ys = refl
faults_both count (x ∷ xs) ys = faults_both (faults_after count x.outcome) xs ys

-- a share that is briefed rolls as many bytes as its channel
pub rolls : (old new : PoolPass) (front : ℕ) (asked : Request) (outcome : Result Reply BookError) → BriefsRoll → IsWellFormedRequest asked
    → MakesCall Answer wants_memory old new front asked (outcome_of outcome) → RollsAsBriefed asked outcome
rolls old new front asked outcome roll fits made sub brief asks is =
    let sent = rw asks at fits in
    let ends = rw is at made.ends in
    let told : Answer made.events made.call.worker (request.Brief sub) made.call.added (reply.Brief brief) = rw (← asks, ← made.asked_is) ends in
    let whole : sub.extranonce_len ≤ length sub.extranonce = omega (arith, sent.extranonce, sub.extranonce_fits) in
    sym (length-take-le sub.extranonce_len sub.extranonce whole) ∙ roll made.events made.call.worker sub made.call.added brief told
