-- What the credits of a legal history are (this project's own).
use Rattle.std.specs.Prelude.{◌<◌, ◌≤◌, ◌^◌, ◌≡◌, ℕ, Some, Ok, List, [], ◌∷◌, ◌++◌, length, IsTrue}
use Rattle.std.specs.List.{AllByRecursion, list_any}
use Rattle.std.specs.Str.{bytes_eq}
use Rattle.block_header.specs.Hash.{dsha, meets}
use Rattle.pool_history.specs.declared.events.Event.{Event}
use Rattle.pool_history.specs.declared.events.Event.TheVariants as event
use Rattle.pool_history.specs.declared.settings.Rules.{Rules}
use Rattle.pool_history.specs.Accounts.{are_distinct}
use Rattle.pool_history.specs.Channels.{channel_in, channels_of}
use Rattle.pool_history.specs.Crediting.{Booked, bookings_of, booked_with, booking, admitted_class, headers}
use Rattle.pool_history.specs.Judging.{Admitted, Share, admission, rebuilt_header}
use Rattle.pool_history.specs.Legal.{Legal, is_standard_in}
use Rattle.pool_history.specs.Sessions.{credits, past_of, rules_of}

-- a credit as it is judged
abbrev pub share_in : List Event → ℕ → ℕ → ℕ → ℕ → ℕ → List ℕ → Share
share_in history channel job nonce ntime version extranonce = record {
  is_standard = is_standard_in (channel_in (channels_of (past_of history)) channel);
  channel = channel;
  job = job;
  nonce = nonce;
  ntime = ntime;
  version = version;
  extranonce = extranonce;
}

-- a share that was booked after a history was admitted there, with what it is booked with; the hash
-- of its header meets its class; its header is added to those of the earlier credits, and its
-- account, work and reward to theirs
pub record IsBookedAfter (history : List Event) (session : ℕ) (share : Share)
    (credit : Event) : Type 0 where
  pub rules : Rules
  pub with : Admitted
  pub are_rules : rules_of (past_of history) ≡ Some rules
  pub is_admitted : admission rules (past_of history) session share ≡ Ok with
  pub is_booked : booked_with (past_of history) share.channel share.job ≡ Some with
  pub meets_its_class : IsTrue
      (meets (dsha (rebuilt_header rules.pool_script with share)) (admitted_class with))
  pub header : headers (past_of (history ++ credit ∷ []))
      ≡ rebuilt_header rules.pool_script with share ∷ headers (past_of history)
  pub counts : bookings_of (past_of (history ++ credit ∷ []))
      ≡ booking rules.pool_script share with ∷ bookings_of (past_of history)

-- so each credit of a legal history was
abbrev pub CreditsAreBooked : Type 0
CreditsAreBooked =
    (history : List Event) (session channel job nonce ntime version : ℕ) (extranonce : List ℕ)
    → Legal (history ++ event.Credit session channel job nonce ntime version extranonce ∷ [])
    → IsBookedAfter history session (share_in history channel job nonce ntime version extranonce)
    (event.Credit session channel job nonce ntime version extranonce)

-- the header of a Credit, with what it was booked with, is among those that no later share may have
pub record HasItsHeader (before after : List Event) (session : ℕ) (share : Share)
    (credit : Event) : Type 0 where
  pub was : IsBookedAfter before session share credit
  pub among : IsTrue
      (list_any (bytes_eq (rebuilt_header was.rules.pool_script was.with share))
      (headers (past_of (before ++ credit ∷ after))))

-- so is that of each Credit of a legal history
abbrev pub CreditsHaveHeaders : Type 0
CreditsHaveHeaders =
    (before after : List Event) (session channel job nonce ntime version : ℕ) (extranonce : List ℕ)
    → Legal (before ++ event.Credit session channel job nonce ntime version extranonce ∷ after)
    → HasItsHeader before after session (share_in before channel job nonce ntime version extranonce)
    (event.Credit session channel job nonce ntime version extranonce)

-- in a legal history each credit has its header, its account, work and reward, and no header stands
-- twice: a share is credited once
pub record AreCounted (history : List Event) : Type 0 where
  pub headers_counted : length (headers (past_of history)) ≡ credits (past_of history)
  pub credits_counted : length (bookings_of (past_of history)) ≡ credits (past_of history)
  pub distinct : IsTrue (are_distinct (headers (past_of history)))

-- so they are in each legal history
abbrev pub NoShareTwice : Type 0
NoShareTwice = (history : List Event) → Legal history → AreCounted history

-- what a credit counts is in its ranges: an account of 1 to 255 bytes, a work of 1 to 2^60, and a
-- reward below 2^40
pub record BookedFits (credit : Booked) : Type 0 where
  pub some : 1 ≤ length credit.account
  pub short : length credit.account ≤ 255
  pub least : 1 ≤ credit.work
  pub most : credit.work ≤ 2 ^ 60
  pub reward : (reward : ℕ) → credit.reward ≡ Some reward → reward < 2 ^ 40

-- so it is of each credit of a legal history
abbrev pub CreditsFit : Type 0
CreditsFit =
    (history : List Event) → Legal history
    → AllByRecursion BookedFits (bookings_of (past_of history))
