-- What a replay was told of shares, and how it takes one more (this project's own).
use Rattle.std.specs.Prelude.{◌≡◌, ℕ, if◌then◌else◌, None, Some, Result, Ok, Err, List, ◌∷◌}
use Rattle.payouts.specs.Tallies.{Remembers, Weighing}
use Rattle.payouts.specs.Totals.{HasSums}
use Rattle.pool_history.specs.declared.causes.Cause.TheVariants as cause
use Rattle.pool_history.specs.declared.events.Event.{Event}
use Rattle.pool_history.specs.declared.events.Event.TheVariants as event
use Rattle.pool_history.specs.declared.settings.Rules.{Rules}
use Rattle.pool_history.specs.Channels.{channel_in, channels_of}
use Rattle.pool_history.specs.Crediting.{Booked, bookings_of, first_failed}
use Rattle.pool_history.specs.Crediting as crediting
use Rattle.pool_history.specs.Judging.{Admitted, Share, admission, rebuilt_header}
use Rattle.pool_history.specs.Legal.{LegalPast, is_standard_in}
use Rattle.pool_history.specs.Sessions.{credits, rules_of}
use Rattle.channels.specs.Tables.{ChannelTable}
use Rattle.pool_tables.specs.Admission.{ShowsShares}
use Rattle.pool_tables.specs.Headers.{HeaderSet, ShowsHeaders}
use Rattle.pool_tables.specs.Passing.{IsBookedAs}
use Rattle.pool_tables.specs.declared.passing.Passed.{Passed}
use Rattle.template_jobs.specs.Tables.{JobTable}
use Rattle.ledger_replay.specs.declared.error.ReplayError.{ReplayError}
use Rattle.ledger_replay.specs.declared.error.ReplayError.TheVariants as error
use Rattle.ledger_replay.specs.declared.share_events.Credited.{Credited}
use Rattle.ledger_replay.specs.declared.share_events.Unbooked.{Unbooked}
use Rattle.ledger_replay.specs.declared.share_events.Unbooked.TheVariants as unbooked

-- a tally and headers were told these credits and their headers, the last of which stand first
pub record WereBooked (rules : Rules) (tally : Weighing) (set : HeaderSet) (credits : List Booked)
    (headers : List (List ℕ)) : Type 0 where
  pub window_is : tally.window ≡ rules.window
  pub tally_is : Remembers tally credits
  pub sums_are : HasSums tally rules.fee credits
  pub headers_are : ShowsHeaders set headers

-- what a share is judged by shows legal events, the last of which stands first
pub record JudgesAfter (rules : Rules) (channels : ChannelTable) (jobs : JobTable)
    (tally : Weighing) (set : HeaderSet) (past : List Event) : Type 0 where
  pub legal : LegalPast past
  pub rules_are : rules_of past ≡ Some rules
  pub shown : ShowsShares channels jobs past
  pub booked : WereBooked rules tally set (bookings_of past) (crediting.headers past)

-- the event of a share that was credited
abbrev pub credit_event : ℕ → Credited → Event
credit_event session share =
    event.Credit session share.channel share.job share.nonce share.ntime share.version
    share.extranonce.now

-- the share as it is judged: standard where its channel is
abbrev pub share_after : List Event → Credited → Share
share_after past share = record {
  is_standard = is_standard_in (channel_in (channels_of past) share.channel);
  channel = share.channel;
  job = share.job;
  nonce = share.nonce;
  ntime = share.ntime;
  version = share.version;
  extranonce = share.extranonce.now;
}

-- the tables show a history, and so many of its shares were credited, with these headers
pub record ShowsCredits (rules : Rules) (channels : ChannelTable) (jobs : JobTable)
    (set : HeaderSet) (count : ℕ) (past : List Event) : Type 0 where
  pub rules_are : rules_of past ≡ Some rules
  pub shown : ShowsShares channels jobs past
  pub headers_are : ShowsHeaders set (crediting.headers past)
  pub count_is : count ≡ credits past

-- a share meets the nine conditions, and this is booked of it for an account
pub record IsPassed (rules : Rules) (past : List Event) (session : ℕ) (share : Share)
    (account : List ℕ) (passed : Passed) : Type 0 where
  pub none : first_failed rules past session share ≡ None
  pub with : Admitted
  pub admitted : admission rules past session share ≡ Ok with
  pub account_is : account ≡ with.channel.account
  pub booked : IsBookedAs with (rebuilt_header rules.pool_script with share) passed

-- what is booked of a share, as a credit for an account
abbrev pub booked_for : List ℕ → Passed → Booked
booked_for account passed = record {
  account = account;
  work = passed.work;
  reward = if passed.is_block then Some passed.reward else None;
}

-- whatever credits a tally and headers were told before, they were now told this one; by a block
-- its fee was that of the rules
abbrev pub BooksPassed : Weighing → HeaderSet → Weighing → HeaderSet → List ℕ → Passed → ℕ → Type 0
BooksPassed old set new set' account passed fee =
    (rules : Rules) (credits : List Booked) (headers : List (List ℕ)) → fee ≡ rules.fee
    → WereBooked rules old set credits headers
    → WereBooked rules new set' (booked_for account passed ∷ credits) (passed.header ∷ headers)

-- they were told no other
abbrev pub BooksNothing : Weighing → HeaderSet → Weighing → HeaderSet → Type 0
BooksNothing old set new set' =
    (rules : Rules) (credits : List Booked) (headers : List (List ℕ))
    → WereBooked rules old set credits headers → WereBooked rules new set' credits headers

-- the tally and the headers were told the events
abbrev pub WereBookedBy : Rules → Weighing → HeaderSet → List Event → Type 0
WereBookedBy rules tally set past =
    WereBooked rules tally set (bookings_of past) (crediting.headers past)

-- a share was booked where no condition fails; or the first that fails is told, or memory ran out,
-- and nothing was booked
abbrev pub BooksShare :
    Rules → Weighing → HeaderSet → List Event → ℕ → Credited → Result Unit Unbooked → Type 0
BooksShare rules tally set past session share (Ok done) =
    (first_failed rules past session (share_after past share) ≡ None)
    × WereBookedBy rules tally set (credit_event session share ∷ past)
BooksShare rules tally set past session share (Err (unbooked.Failed code)) =
    (first_failed rules past session (share_after past share) ≡ Some code)
    × WereBookedBy rules tally set past
BooksShare rules tally set past session share (Err unbooked.Memory) =
    WereBookedBy rules tally set past

-- what an unbooked share is called
abbrev pub share_error_of : Unbooked → ReplayError
share_error_of (unbooked.Failed code) = error.Illegal (cause.Share code)
share_error_of unbooked.Memory = error.Memory
