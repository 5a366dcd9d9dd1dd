-- Worked calls: a session that enters and opens a channel, with a fault and a poll between.
use Rattle.std.proofs.Common.{List, [], ◌∷◌, refl, arith}
use Rattle.std.specs.Prelude.{replicate}
use Rattle.pool_history.specs.declared.asking.Request.TheVariants as request
use Rattle.pool_history.specs.declared.events.Event.{Event}
use Rattle.pool_history.specs.declared.events.Kind.TheVariants as kind
use Rattle.pool_history.specs.declared.events.Role.TheVariants as role
use Rattle.pool_history.specs.declared.replies.Reply.TheVariants as reply
use Rattle.pool_base.specs.Calls.{PartsFrom, Replied, Faulted}
use Rattle.pool_history.specs.Calls.{GoodPoolCalls, PoolCall}
use Rattle.pool_history.specs.declared.refusals.BookError.TheVariants.{KeeperFault}
use Rattle.pool_history.specs.Spaces.{first_free}
use Rattle.pool_history.proofs.Given.{extended_rolls, start, enters, opens}

-- the history that the calls made
abbrev pub made : List Event
made = start ∷ enters ∷ opens ∷ []

-- the first call enters, the second fails when its record is to be kept, the third polls, and the fourth opens
abbrev pub entering : PoolCall
entering = record {
  worker = 0;
  number = 0;
  front = 1;
  faults_before = 0;
  faults_after = 0;
  asked = request.Enter role.Solo 0;
  outcome = Replied (reply.Entered 0);
  added = enters ∷ [];
}

abbrev pub failing : PoolCall
failing = record {
  worker = 0;
  number = 1;
  front = 2;
  faults_before = 0;
  faults_after = 1;
  asked = request.Leave;
  outcome = Faulted KeeperFault;
  added = [];
}

abbrev pub polling : PoolCall
polling = record {
  worker = 0;
  number = 2;
  front = 2;
  faults_before = 1;
  faults_after = 1;
  asked = request.Poll 2;
  outcome = Replied (reply.News 2 []);
  added = [];
}

abbrev pub opening : PoolCall
opening = record {
  worker = 0;
  number = 3;
  front = 2;
  faults_before = 1;
  faults_after = 1;
  asked = request.Open (record { kind = kind.Extended; identity = 0x61 ∷ []; max_target = replicate 32 0xff; min_size = 8; standard_rolls_none = extended_rolls 8 });
  outcome = Replied (reply.Opened (record { channel = 1; class = 0; lead = replicate 4 0 }));
  added = opens ∷ [];
}

abbrev pub calls : List PoolCall
calls = entering ∷ failing ∷ polling ∷ opening ∷ []

-- each has the reply of the answer at its front, or a count of faults that rose, and its events stand there
pub calls-good : GoodPoolCalls made calls
unfolding first_free Rattle.block_header.specs.Target.first_class
calls-good = (
  record {
    before = start ∷ [];
    after = opens ∷ [];
    stands = refl;
    at_front = refl;
    outcome = record { events_are = refl; reply_is = refl };
  },
  (
    record { before = start ∷ enters ∷ []; after = opens ∷ []; stands = refl; at_front = refl; outcome = (refl, λ counted. omega arith) },
    (
      record {
        before = start ∷ enters ∷ [];
        after = opens ∷ [];
        stands = refl;
        at_front = refl;
        outcome = record { events_are = refl; reply_is = refl };
      },
      (
        record {
          before = start ∷ enters ∷ [];
          after = [];
          stands = refl;
          at_front = refl;
          outcome = record { events_are = refl; reply_is = refl };
        },
        tt,
      ),
    ),
  ),
)

-- one after the other they part the history behind its first event
pub calls-part : PartsFrom (start ∷ []) 0 0 made 1 calls
calls-part = (
  refl,
  refl,
  omega arith,
  omega arith,
  (refl, refl, omega arith, omega arith, (refl, refl, omega arith, omega arith, (refl, refl, omega arith, omega arith, (refl, omega arith)))),
)

-- a call that stands at an older front than the one before it parts none
pub late_front : PartsFrom (start ∷ []) 0 0 made 1 (entering ∷ record polling { front = 1; number = 1; faults_before = 0 } ∷ []) → ⊥
late_front p = omega (arith, p.4.0)
