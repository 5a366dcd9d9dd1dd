-- The worked session's block with its hashes computed: it is one of a legal history, and a statement about such blocks
-- that it refutes.
use Rattle.std.proofs.Common.{◌≡◌, ℕ, ◌+◌, ◌-◌, ◌<◌, sum_by, None, Some, List, [], ◌∷◌, refl, arith}
use Rattle.sha2.specs.Sha256.{sha256, digest_bytes, hash_after, compress, rounds, schedule, first_words}
use Rattle.coinbase.specs.Compact.{compact}
use Rattle.pool_history.specs.declared.events.Event.{Event}
use Rattle.pool_history.specs.declared.settings.Rules.{Rules}
use Rattle.pool_history.specs.Crediting.{Booked, bookings_of}
use Rattle.pool_history.specs.Legal.{Legal, cause_of}
use Rattle.pool_history.specs.Sessions.{past_of}
use Rattle.pool_history.specs.Settling.{settlement}
use Rattle.pool_history.proofs.Given.{comes, credits, enters, opens, rules, session, share, start, tipped, tips}
use Rattle.pool_history.proofs.SessionS.{cause_of-start, cause_of-enters, cause_of-opens, cause_of-comes, cause_of-tips, cause_of-leaves}
use Rattle.history_laws.specs.Credited.{IsBookedAfter}
use Rattle.payout_laws.specs.Conservation.{IsBlockOf}

-- the session is legal
pub credit_has_no_cause : cause_of tipped credits ≡ None
unfolding sha256 digest_bytes hash_after compress rounds schedule first_words compact
credit_has_no_cause = refl

pub session_is_legal : Legal session
session_is_legal =
    (((((((tt, cause_of-start), cause_of-enters), cause_of-opens), cause_of-comes), cause_of-tips), credit_has_no_cause), cause_of-leaves)

-- its credit was booked after the events before it
pub credit_is_booked : IsBookedAfter (start ∷ enters ∷ opens ∷ comes ∷ tips ∷ []) 0 share credits
unfolding sha256 digest_bytes hash_after compress rounds schedule first_words compact
credit_is_booked = record {
  rules = rules;
  with = _;
  are_rules = refl;
  is_admitted = refl;
  is_booked = refl;
  meets_its_class = refl;
  header = refl;
  counts = refl;
}

-- and is a block of the session
abbrev pub block_credit : Booked
block_credit = record { account = 0x61 ∷ []; work = 1; reward = Some 1000 }

pub booked_of_session : bookings_of (past_of session) ≡ block_credit ∷ []
unfolding sha256 digest_bytes hash_after compress rounds schedule first_words compact
booked_of_session = refl

pub block_of_session : IsBlockOf session rules block_credit [] 1000
block_of_session = record { rules_are = refl; newer = []; stands = booked_of_session; rewarded = refl }

-- its one account is paid 990 of 1,000, and the pool's part is the fee
pub settlement_of_session : settlement rules.window rules.fee 1000 (block_credit ∷ [])
    ≡ record { fee = 10; payments = record { account = 0x61 ∷ []; weight = 1; amount = 990 } ∷ []; pool = 10 }
settlement_of_session = refl

-- of a legal history's block too the pool's part without the fee makes no whole
abbrev pub LegalWholeWithoutTheFee : Type 0
LegalWholeWithoutTheFee =
    (history : List Event) (rules : Rules) (credit : Booked) (older : List Booked) (reward : ℕ)
    → Legal history → IsBlockOf history rules credit older reward
    → sum_by (λ paid. paid.amount) (settlement rules.window rules.fee reward (credit ∷ older)).payments
    + ((settlement rules.window rules.fee reward (credit ∷ older)).pool - (settlement rules.window rules.fee reward (credit ∷ older)).fee)
    ≡ reward

pub not_legal_whole_without_the_fee : LegalWholeWithoutTheFee → ⊥
not_legal_whole_without_the_fee law = differ 990 (omega arith) (law session rules block_credit [] 1000 session_is_legal block_of_session) where
  differ : (n : ℕ) → n < 1000 → n ≡ 1000 → ⊥
  differ n less e = omega (arith, less, e)
