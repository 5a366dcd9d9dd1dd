-- Miners that were served one after the other were all served by calls of one pass.
use Rattle.std.proofs.Common.{◌≡◌, ℕ, List, [], ◌∷◌, ◌++◌, map, refl, sym, ap, subst, ◌∙◌}
use Rattle.pool_network.specs.Seen.{DoorSeen, LinkSeen}
use Rattle.door_threads.specs.declared.working.DoorEnd.{DoorEnd}
use Rattle.door_threads.specs.Asking.{DoorAnswer, IsAsked, Nobody, ServesEach, Somebody}
use Rattle.door_threads.specs.Asking as door
use Rattle.proxy_server.specs.Calls.{ProxyCall}
use Rattle.proxy_server.specs.Calling.{ProxyPass}
use Rattle.proxy_server.specs.Shifts.{AreMiners, IsMinersShift, MinerAsked, MinersServing, ServesMinerAt, Visited, Waited, answer_of}
use Rattle.proxy_server.specs.Visits.{CallsByPass}
use Rattle.proxy_server.proofs.Calls.{by_both, by_none}

-- so many answers, with the miners who came
record Miners (idle_turns : ℕ) (old : ProxyPass) (answers : List DoorAnswer) (new : ProxyPass) : Type 0 where
  asked : List MinerAsked
  same : map answer_of asked ≡ answers
  miners : AreMiners idle_turns old.calls asked new.calls
  calls : List ProxyCall
  by_pass : CallsByPass old calls new

module _ {S N P : Type 0} (at : S → MinersServing) (name : S → N) (pass_name : S → P) where
  -- one caller was served by whoever serves from here
  abbrev Serves : S → LinkSeen → LinkSeen → S → Type 0
  Serves old before after new = (name new ≡ name old) × (pass_name new ≡ pass_name old) × ServesMinerAt (at old) before after (at new)

  miners_each : (old new : S) (answers : List DoorAnswer) → ServesEach Serves old answers new
      → Miners (at old).idle_turns (at old).pass answers (at new).pass × (name new ≡ name old) × (pass_name new ≡ pass_name old)
  miners_each old new [] each = (
    subst (λ (s : S). Miners (at old).idle_turns (at old).pass [] (at s).pass) (sym each)
        (record { asked = []; same = refl; miners = refl; calls = []; by_pass = by_none (at old).pass }),
    ap name each,
    ap pass_name each,
  )
  miners_each old new (Nobody ∷ answers) each =
      let rest = miners_each old new answers each in (
        record {
          asked = Waited ∷ rest.0.asked;
          same = ap (λ (l : List DoorAnswer). Nobody ∷ l) rest.0.same;
          miners = rest.0.miners;
          calls = rest.0.calls;
          by_pass = rest.0.by_pass;
        },
        rest.1,
        rest.2,
      )
  miners_each old new (Somebody before after ∷ answers) each =
      let middle = each.0 in
      let first = each.1 in
      let one = first.2 in
      let rest = miners_each middle new answers each.2 in
      let later = subst (λ (n : ℕ). Miners n (at middle).pass answers (at new).pass) one.same rest.0 in (
        record {
          asked = Visited (record { before = before; after = after; ended = one.ended }) ∷ later.asked;
          same = ap (λ (l : List DoorAnswer). Somebody before after ∷ l) later.same;
          miners = ((at middle).pass.calls, one.served.visit, later.miners);
          calls = one.served.calls ++ later.calls;
          by_pass = by_both (at old).pass (at middle).pass (at new).pass one.served.calls later.calls one.served.by_pass later.by_pass;
        },
        rest.1 ∙ first.0,
        rest.2 ∙ first.1,
      )

  pub names_stay : {door_turns : ℕ} {before after : DoorSeen} {reason : DoorEnd} (old new : S) → door.IsWorked Serves door_turns before after old new reason
      → (name new ≡ name old) × (pass_name new ≡ pass_name old)
  names_stay old new worked =
      let each = miners_each old new worked.answers worked.served in
      (each.1, each.2)

  -- so a door that was asked up to its end had a worker's shift
  pub shift_of : {door_turns : ℕ} {before after : DoorSeen} {reason : DoorEnd} (old new : S) → door.IsWorked Serves door_turns before after old new reason
      → IsMinersShift (at old).idle_turns door_turns before after (at old).pass (at new).pass reason
  shift_of {door_turns = door_turns} {before = before} {after = after} {reason = reason} old new worked =
      let miners = (miners_each old new worked.answers worked.served).0 in
      record {
        answers = miners.asked;
        miners = miners.miners;
        asked = subst (λ (l : List DoorAnswer). IsAsked door_turns before after l reason) (sym miners.same) worked.asked;
        calls = miners.calls;
        by_pass = miners.by_pass;
      }
