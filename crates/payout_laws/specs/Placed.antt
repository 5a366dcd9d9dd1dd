-- Which credits of a legal history are blocks (this project's own).
use Rattle.std.specs.Prelude.{IsTrue, ◌↔◌, ℕ, List, ◌∷◌, ◌++◌}
use Rattle.pool_history.specs.declared.events.Event.{Event}
use Rattle.pool_history.specs.declared.events.Event.TheVariants as event
use Rattle.pool_history.specs.Crediting.{bookings_of, booking, is_block, reward_of}
use Rattle.pool_history.specs.Judging.{Share}
use Rattle.pool_history.specs.Legal.{Legal}
use Rattle.pool_history.specs.Sessions.{past_of}
use Rattle.history_laws.specs.Credited.{IsBookedAfter, share_in}
use Rattle.payout_laws.specs.Conservation.{IsBlockOf}

-- a credit was booked after the events before it; its hash is at most the target of the tip that it
-- was booked with exactly where it is a block of the whole history, with the reward of its job and
-- the credits before it
pub record IsBlockByPlace (before after : List Event) (session : ℕ) (share : Share)
    (credit : Event) : Type 0 where
  pub was : IsBookedAfter before session share credit
  pub exactly : IsTrue (is_block was.rules.pool_script was.with share)
      ↔ IsBlockOf (before ++ credit ∷ after) was.rules
      (booking was.rules.pool_script share was.with) (bookings_of (past_of before))
      (reward_of was.with.job.source)

-- so it is with each credit of a legal history
abbrev pub BlocksByPlaces : Type 0
BlocksByPlaces =
    (before after : List Event) (session channel job nonce ntime version : ℕ) (extranonce : List ℕ)
    → Legal (before ++ event.Credit session channel job nonce ntime version extranonce ∷ after)
    → IsBlockByPlace before after session
    (share_in before channel job nonce ntime version extranonce)
    (event.Credit session channel job nonce ntime version extranonce)
