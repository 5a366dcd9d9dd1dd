-- What a worker did goes on by one answer of its door or by more.
use Rattle.std.proofs.Common.{◌≡◌, ℕ, ◌+◌, ◌-◌, ◌<◌, List, [], ◌∷◌, ◌++◌, Option, Some, None, Ok, Err, map, refl, sym, ap, subst, ◌∙◌, append_assoc, append-nil, arith}
use Rattle.std.proofs.lemmas.List.{map-append}
use Rattle.pool_network.specs.declared.door.Arrival.{Arrival}
use Rattle.pool_network.specs.declared.door.Came.TheVariants as came
use Rattle.pool_network.specs.Doors.{AnswersSo, ComesNext, back_with}
use Rattle.pool_network.specs.Seen.{DoorSeen, LinkSeen}
use Rattle.pool_io.specs.Outside.{CountsFailure}
use Rattle.door_threads.specs.declared.working.DoorEnd.{DoorEnd}
use Rattle.door_threads.specs.declared.working.DoorEnd.TheVariants as end
use Rattle.door_threads.specs.Asking.{DoorAnswer, AsksDoorOnce, Attends, AttendsOn, BackWith, ComesOn, Deals, DealsOnce, IsWelcomed, IsWorked, ServesEach, StopsBy, Somebody, Nobody, WaitsOn, arrival_of, is_failed_end, links_in}

links_both : (xs ys : List DoorAnswer) → links_in (xs ++ ys) ≡ links_in xs ++ links_in ys
links_both [] ys = refl
links_both (Nobody ∷ xs) ys = links_both xs ys
links_both (Somebody before after ∷ xs) ys = ap (λ (l : List LinkSeen). after ∷ l) (links_both xs ys)

serves_both : {S : Type 0} (serves : S → LinkSeen → LinkSeen → S → Type 0) (a b c : S) (xs ys : List DoorAnswer) → ServesEach serves a xs b → ServesEach serves b ys c
    → ServesEach serves a (xs ++ ys) c
serves_both {S} serves a b c [] ys first then = subst (λ (s : S). ServesEach serves s ys c) first then
serves_both serves a b c (Nobody ∷ xs) ys first then = serves_both serves a b c xs ys first then
serves_both serves a b c (Somebody before after ∷ xs) ys first then = (first.0, first.1, serves_both serves first.0 b c xs ys first.2 then)

waits_both : (door_turns a b c : ℕ) (xs ys : List DoorAnswer) → WaitsOn door_turns a xs b → WaitsOn door_turns b ys c → WaitsOn door_turns a (xs ++ ys) c
waits_both door_turns a b c [] ys first then = rw first at then
waits_both door_turns a b c (Nobody ∷ xs) ys first then = (first.0, waits_both door_turns (a - 1) b c xs ys first.1 then)
waits_both door_turns a b c (Somebody before after ∷ xs) ys first then = (first.0, waits_both door_turns door_turns b c xs ys first.1 then)

comes_both : (a b c : Option (List (Arrival LinkSeen))) (xs ys : List DoorAnswer) → ComesOn a b xs → ComesOn b c ys → ComesOn a c (xs ++ ys)
comes_both None b c xs ys first then = rw first at then
comes_both (Some told) b c xs ys first then =
    let more = rw first.1 at then in (
      more.0,
      more.1,
      first.2 ∙ ap (λ (l : List (Arrival LinkSeen)). map arrival_of xs ++ l) more.2 ∙ sym (append_assoc (map arrival_of xs) (map arrival_of ys) more.0)
          ∙ ap (λ (l : List (Arrival LinkSeen)). l ++ more.0) (sym (map-append arrival_of xs ys)),
    )

back_both : (a b c : Option (List LinkSeen)) (xs ys : List DoorAnswer) → BackWith a b xs → BackWith b c ys → BackWith a c (xs ++ ys)
back_both None b c xs ys first then = rw first at then
back_both (Some links) b c xs ys first then =
    let more = rw first at then in
    more ∙ ap (λ (l : List LinkSeen). Some l) (append_assoc links (links_in xs) (links_in ys) ∙ ap (λ (l : List LinkSeen). links ++ l) (sym (links_both xs ys)))

comes_none : (told : Option (List (Arrival LinkSeen))) → ComesOn told told []
comes_none None = refl
comes_none (Some arrivals) = (arrivals, refl, refl)

back_none : (back : Option (List LinkSeen)) → BackWith back back []
back_none None = refl
back_none (Some links) = ap (λ (l : List LinkSeen). Some l) (sym (append-nil links))

deals_both : (before between after : DoorSeen) (xs ys : List DoorAnswer) → Deals before xs between → Deals between ys after → Deals before (xs ++ ys) after
deals_both before between after [] ys first then = subst (λ (d : DoorSeen). Deals d ys after) first then
deals_both before between after (x ∷ xs) ys first then = (first.0, first.1, deals_both first.0 between after xs ys first.2 then)

once_unfailed : (before after : DoorSeen) (answer : DoorAnswer) → DealsOnce before answer after → after.faults ≡ before.faults
once_unfailed before after Nobody deals = deals.counts
once_unfailed before after (Somebody link back) deals = deals.2.faults ∙ deals.1.counts

-- no failure was among the answers
unfailed : (before after : DoorSeen) (answers : List DoorAnswer) → Deals before answers after → after.faults ≡ before.faults
unfailed before after [] deals = ap (λ (d : DoorSeen). d.faults) deals
unfailed before after (answer ∷ answers) deals = unfailed deals.0 after answers deals.2 ∙ once_unfailed before deals.0 answer deals.1

stops_counted : (now : ℕ) (last after : DoorSeen) (reason : DoorEnd) → StopsBy now last after reason → CountsFailure (is_failed_end reason) last.faults after.faults
stops_counted now last after end.IdleOut stops = ap (λ (d : DoorSeen). d.faults) stops.1
stops_counted now last after end.Closed stops = stops.1.counts
stops_counted now last after end.Failed stops = stops.1.counts
stops_counted now last after end.Memory stops = stops.1.counts

-- the count before all of it rose just where it stopped by a failure
counts_through : (now : ℕ) (before last after : DoorSeen) (answers : List DoorAnswer) (reason : DoorEnd) → Deals before answers last → StopsBy now last after reason
    → CountsFailure (is_failed_end reason) before.faults after.faults
counts_through now before last after answers reason deals stops =
    subst (λ n. CountsFailure (is_failed_end reason) n after.faults) (unfailed before last answers deals) (stops_counted now last after reason stops)

attends_both : (door_turns a b c : ℕ) (before between after : DoorSeen) (xs ys : List DoorAnswer) → Attends door_turns a b before between xs
    → Attends door_turns b c between after ys → Attends door_turns a c before after (xs ++ ys)
attends_both door_turns a b c before between after xs ys first then = record {
  waits = waits_both door_turns a b c xs ys first.waits then.waits;
  deals = deals_both before between after xs ys first.deals then.deals;
  comes = comes_both before.coming between.coming after.coming xs ys first.comes then.comes;
  back = back_both before.back between.back after.back xs ys first.back then.back;
  out = then.out ∙ first.out;
}

-- nobody came
comes_waited : (a b : Option (List (Arrival LinkSeen))) → ComesNext a b came.Idle → ComesOn a b (Nobody ∷ [])
comes_waited None b next = next
comes_waited (Some told) b next = next

-- somebody came
comes_visited : (link back : LinkSeen) (a b : Option (List (Arrival LinkSeen))) → ComesNext a b (came.Caller link) → ComesOn a b (Somebody link back ∷ [])
comes_visited link back None b next = next
comes_visited link back (Some told) b next = next

module _ {S : Type 0} (serves : S → LinkSeen → LinkSeen → S → Type 0) (door_turns : ℕ) where
  -- nothing was asked
  pub on_none : (turns : ℕ) (door : DoorSeen) (server : S) → AttendsOn serves door_turns turns turns door door server server
  on_none turns door server = record {
    answers = [];
    attends = record { waits = refl; deals = refl; comes = comes_none door.coming; back = back_none door.back; out = refl };
    served = refl;
  }

  -- what was done, and then more
  on_both : {a b c : ℕ} {before between after : DoorSeen} {old middle new : S} → AttendsOn serves door_turns a b before between old middle
      → AttendsOn serves door_turns b c between after middle new → AttendsOn serves door_turns a c before after old new
  on_both {a = a} {b = b} {c = c} {before = before} {between = between} {after = after} {old = old} {middle = middle} {new = new} first then =
      let xs = first.answers in
      let ys = then.answers in
      record {
        answers = xs ++ ys;
        attends = attends_both door_turns a b c before between after xs ys first.attends then.attends;
        served = serves_both serves old middle new xs ys first.served then.served;
      }

  module _ (turns : ℕ) where
    pub on_waited : (before after : DoorSeen) (server : S) → 0 < turns → AnswersSo before after came.Idle → AttendsOn serves door_turns turns (turns - 1) before after server server
    on_waited before after server some so = record {
      answers = Nobody ∷ [];
      attends = record {
        waits = (some, refl);
        deals = (after, so, refl);
        comes = comes_waited before.coming after.coming so.comes;
        back = so.back ∙ back_none before.back;
        out = so.out;
      };
      served = refl;
    }

    pub on_visited : (before between after : DoorSeen) (link : LinkSeen) (old new : S) → 0 < turns → AnswersSo before between (came.Caller link)
        → IsWelcomed serves link between after old new → AttendsOn serves door_turns turns door_turns before after old new
    on_visited before between after link old new some so welcomed =
        let back = welcomed.link_back in
        record {
          answers = Somebody link back ∷ [];
          attends = record {
            waits = (some, refl);
            deals = (after, (between, so, welcomed.back), refl);
            comes = comes_visited link back before.coming after.coming (rw welcomed.back.coming so.comes);
            back = welcomed.back.back ∙ ap (λ b. back_with b back) so.back;
            out = (let was = welcomed.back.out in let lent = so.out in omega (arith, was, lent));
          };
          served = (new, welcomed.served, refl);
        }

module _ {S : Type 0} {serves : S → LinkSeen → LinkSeen → S → Type 0} {door_turns a b : ℕ} {before between after : DoorSeen} {old middle new : S} where
  -- the door was asked once more
  pub on_next : {left : ℕ} → AttendsOn serves door_turns a b before between old middle → AsksDoorOnce serves door_turns b between after middle new (Ok left)
      → AttendsOn serves door_turns a left before after old new
  on_next {left = left} so_far next =
      on_both serves door_turns so_far
      (subst (λ n. AttendsOn serves door_turns b n between after middle new) next.next.0
      (subst (λ (d : DoorSeen). AttendsOn serves door_turns b next.now between d middle new) (sym next.next.2) next.attends))

-- and for the last time
pub worked : {S : Type 0} {serves : S → LinkSeen → LinkSeen → S → Type 0} {door_turns b : ℕ} {before between after : DoorSeen} {old middle new : S} {reason : DoorEnd}
    → AttendsOn serves door_turns door_turns b before between old middle → AsksDoorOnce serves door_turns b between after middle new (Err reason)
    → IsWorked serves door_turns before after old new reason
worked {serves = serves} {door_turns = door_turns} {before = before} {after = after} {reason = reason} so_far next =
    let all = on_both serves door_turns so_far next.attends in
    record {
      answers = all.answers;
      asked = record {
        now = next.now;
        last = next.last;
        attends = all.attends;
        stops = next.next;
        counts = counts_through next.now before next.last after all.answers reason all.attends.deals next.next;
      };
      served = all.served;
    }
