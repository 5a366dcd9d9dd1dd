-- Worked calls of two workers: the one enters, the other enters and leaves, and the first finds its session present.
use Rattle.std.proofs.Common.{List, [], ◌∷◌, refl, arith}
use Rattle.std.proofs.lemmas.List.Sorted.{IsPermutation-cons}
use Rattle.pool_base.specs.Calls.{Parted, Replied}
use Rattle.pool_history.specs.declared.asking.Request.TheVariants as request
use Rattle.pool_history.specs.declared.events.Event.{Event}
use Rattle.pool_history.specs.declared.events.Event.TheVariants as event
use Rattle.pool_history.specs.declared.events.Role.TheVariants as role
use Rattle.pool_history.specs.declared.replies.Reply.TheVariants as reply
use Rattle.pool_history.specs.Calls.{GoodPoolCalls, PoolCall}
use Rattle.pool_history.proofs.Given.{start}
use Rattle.pool_promises.specs.Presence.{FindsPresent, MakeHistory}
use Rattle.pool_promises.proofs.Lists.{changed_places}
use Rattle.pool_promises.proofs.Present.{stay-present}

-- the history that the calls made
abbrev made : List Event
made = start ∷ event.Enter 1 role.Miner 0 ∷ event.Enter 2 role.Miner 0 ∷ event.Leave 1 ∷ []

abbrev entering : PoolCall
entering = record {
  worker = 1;
  number = 0;
  front = 1;
  faults_before = 0;
  faults_after = 0;
  asked = request.Enter role.Miner 0;
  outcome = Replied (reply.Entered 0);
  added = event.Enter 1 role.Miner 0 ∷ [];
}

abbrev other_entering : PoolCall
other_entering = record {
  worker = 2;
  number = 1;
  front = 2;
  faults_before = 0;
  faults_after = 0;
  asked = request.Enter role.Miner 0;
  outcome = Replied (reply.Entered 1);
  added = event.Enter 2 role.Miner 0 ∷ [];
}

abbrev other_leaving : PoolCall
other_leaving = record {
  worker = 2;
  number = 2;
  front = 3;
  faults_before = 0;
  faults_after = 0;
  asked = request.Leave;
  outcome = Replied reply.Left;
  added = event.Leave 1 ∷ [];
}

abbrev polling : PoolCall
polling = record {
  worker = 1;
  number = 3;
  front = 4;
  faults_before = 0;
  faults_after = 0;
  asked = request.Poll 4;
  outcome = Replied (reply.News 4 []);
  added = [];
}

-- in the order of their numbers they part the history behind its Start
parted : Parted (start ∷ []) made 0 0 (entering ∷ polling ∷ other_entering ∷ other_leaving ∷ [])
parted = record {
  ordered = entering ∷ other_entering ∷ other_leaving ∷ polling ∷ [];
  same =
      IsPermutation-cons entering (other_entering ∷ other_leaving ∷ polling ∷ []) (polling ∷ other_entering ∷ other_leaving ∷ [])
      (changed_places (other_entering ∷ other_leaving ∷ []) (polling ∷ []));
  parts = (
    refl,
    refl,
    omega arith,
    omega arith,
    (refl, refl, omega arith, omega arith, (refl, refl, omega arith, omega arith, (refl, refl, omega arith, omega arith, (refl, omega arith)))),
  );
}

good : GoodPoolCalls made (entering ∷ polling ∷ other_entering ∷ other_leaving ∷ [])
good = (
  record {
    before = start ∷ [];
    after = event.Enter 2 role.Miner 0 ∷ event.Leave 1 ∷ [];
    stands = refl;
    at_front = refl;
    outcome = record { events_are = refl; reply_is = refl };
  },
  (
    record { before = made; after = []; stands = refl; at_front = refl; outcome = record { events_are = refl; reply_is = refl } },
    (
      record {
        before = start ∷ event.Enter 1 role.Miner 0 ∷ [];
        after = event.Leave 1 ∷ [];
        stands = refl;
        at_front = refl;
        outcome = record { events_are = refl; reply_is = refl };
      },
      (
        record {
          before = start ∷ event.Enter 1 role.Miner 0 ∷ event.Enter 2 role.Miner 0 ∷ [];
          after = [];
          stands = refl;
          at_front = refl;
          outcome = record { events_are = refl; reply_is = refl };
        },
        tt,
      ),
    ),
  ),
)

make : MakeHistory (start ∷ []) made 0 0 1 (entering ∷ polling ∷ []) (other_entering ∷ other_leaving ∷ [])
make = record {
  parted = parted;
  good = good;
  known = 4;
  rise = (omega arith, (omega arith, omega arith));
  others_are = (λ same. omega (arith, same), (λ same. omega (arith, same), tt));
}

-- so the poll finds session 0 present
pub found : FindsPresent made 1 role.Miner 0 0 polling
found =
    (stay-present (start ∷ []) made 0 0 [] (polling ∷ []) [] (other_entering ∷ other_leaving ∷ []) entering role.Miner 0 0 make
    (record { asked = refl; entered = refl }) tt).0
