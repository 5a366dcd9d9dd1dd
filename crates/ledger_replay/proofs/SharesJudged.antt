-- What the tables say of a share.
use Rattle.std.proofs.Common.{◌≡◌, ℕ, ◌+◌, ◌<◌, ◌≤◌, ◌^◌, Bool, true, cond, None, Some, Option, Result, Ok, Err, List, ◌∷◌, refl, ap, sym, subst, ◌∙◌, arith}
use Rattle.std.specs.Option.{option_map}
use Rattle.channels.specs.Histories.{TablesShowHistories}
use Rattle.channels.specs.Tables.{AllAnswerFor, kept_channel}
use Rattle.history_laws.proofs.Crediting.{Adds, IsGood, IsGoodCredit, credit-adds, credits-counted, good_by}
use Rattle.pool_history.specs.declared.events.Event.{Event}
use Rattle.pool_history.specs.declared.refusals.Failed.{Failed}
use Rattle.pool_history.specs.declared.settings.Rules.{Rules}
use Rattle.pool_history.specs.declared.shares.Submission.{Submission}
use Rattle.pool_history.specs.Channels.{OpenChannel, channel_in, channels_of}
use Rattle.pool_history.specs.Conditions.{first_false}
use Rattle.pool_history.specs.Crediting.{bookings_of, booking, first_failed, headers, last_conditions, last_failed, reward_of, admitted_work}
use Rattle.pool_history.specs.Headers.{Briefing}
use Rattle.pool_history.specs.Judging.{Admitted, Share, admission, briefing_of, rebuilt_header, share_of}
use Rattle.pool_history.specs.Legal.{is_standard_in}
use Rattle.pool_history.specs.Sessions.{rules_of, script_in, script_of}
use Rattle.share_headers.specs.Submitted.{SubmittedIsRebuilt, submitted_header}
use Rattle.pool_tables.proofs.Ranges.{window_and_limit}
use Rattle.pool_tables.specs.Headers.{HeaderSet}
use Rattle.pool_tables.specs.Passing.{IsBookedAs, Passes}
use Rattle.pool_tables.specs.declared.passing.Passed.{Passed}
use Rattle.payouts.specs.Tallies.{Weighing}
use Rattle.template_jobs.specs.Tables.{HasCoinbases, JobTable}
use Rattle.channels.specs.Tables.{ChannelTable}
use Rattle.channels.proofs.Cuts.{in-answers, kept-same}
use Rattle.history_laws.specs.AskedPlaces.{is_asked_after}
use Rattle.ledger_replay.specs.declared.share_events.Credited.{Credited}
use Rattle.ledger_replay.specs.Kept.{is_standard_kept}
use Rattle.ledger_replay.specs.Replays.{ReplayTables, WereReplayed}
use Rattle.ledger_replay.specs.Shares.{IsPassed, JudgesAfter, ShowsCredits, WereBooked, WereBookedBy, booked_for, credit_event, share_after}

-- what the tables of a replay show of shares
pub judges-after : (t : ReplayTables) (past : List Event) → TablesShowHistories → WereReplayed t past
    → JudgesAfter t.rules t.channels t.jobs t.tally t.headers past
judges-after t past shown was = record {
  legal = was.legal;
  rules_are = was.rules_are;
  shown = record {
    channels_are = (shown (is_asked_after past) t.channels past was.channels_are).channels_are;
    jobs_are = was.jobs_are;
    coinbases = subst (λ (s : List ℕ). HasCoinbases s t.jobs) (sym (ap script_in was.rules_are)) was.coinbases;
  };
  booked = was.booked;
}

-- so many shares were credited as the tally was told
pub shows-credits : (rules : Rules) (channels : ChannelTable) (jobs : JobTable) (tally : Weighing) (set : HeaderSet) (past : List Event) (count : ℕ)
    → count ≡ tally.pushes → JudgesAfter rules channels jobs tally set past → ShowsCredits rules channels jobs set count past
shows-credits rules channels jobs tally set past count counted after = record {
  rules_are = after.rules_are;
  shown = after.shown;
  headers_are = after.booked.headers_are;
  count_is = counted ∙ after.booked.tally_is.pushes_are ∙ (credits-counted past after.legal).of_credits;
}

-- the header of a submission is the one that the history rebuilds
pub header-rebuilt : SubmittedIsRebuilt → (rules : Rules) (past : List Event) (sub : Submission) (with : Admitted) (parts : Briefing) (header : List ℕ)
    → rules_of past ≡ Some rules → parts ≡ briefing_of (script_of past) with.channel with.job.source with.tip → header ≡ submitted_header parts sub
    → header ≡ rebuilt_header rules.pool_script with (share_of sub)
header-rebuilt law rules past sub with parts header are given made =
    made ∙ ap (λ (p : Briefing). submitted_header p sub) given ∙ law (script_of past) with sub
    ∙ ap (λ (o : Option Rules). rebuilt_header (script_in o) with (share_of sub)) are

module _ (rules : Rules) (past : List Event) (session : ℕ) (share : Share) where
  -- a share that is refused early, or late, or passes
  pub refused-early : (code : Failed) → admission rules past session share ≡ Err code → first_failed rules past session share ≡ Some code
  refused-early code h = ap (last_failed rules past share) h

  judged : (with : Admitted) (header : List ℕ) (code : Option Failed) → admission rules past session share ≡ Ok with
      → header ≡ rebuilt_header rules.pool_script with share → first_false (last_conditions rules past with header) None ≡ code
      → first_failed rules past session share ≡ code
  judged with header code admitted rebuilt late =
      ap (last_failed rules past share) admitted ∙ ap (λ h. first_false (last_conditions rules past with h) None) (sym rebuilt) ∙ late

  pub refused-late : (with : Admitted) (header : List ℕ) (code : Failed) → admission rules past session share ≡ Ok with
      → header ≡ rebuilt_header rules.pool_script with share → Passes rules past with header (Err code) → first_failed rules past session share ≡ Some code
  refused-late with header code admitted rebuilt late = judged with header (Some code) admitted rebuilt late

  pub passed : (with : Admitted) (header account : List ℕ) (p : Passed) → admission rules past session share ≡ Ok with
      → header ≡ rebuilt_header rules.pool_script with share → Passes rules past with header (Ok p) → account ≡ with.channel.account
      → IsPassed rules past session share account p
  passed with header account p admitted rebuilt passes paid = record {
    none = judged with header None admitted rebuilt passes.0;
    with = with;
    admitted = admitted;
    account_is = paid;
    booked = subst (λ h. IsBookedAs with h p) rebuilt passes.1;
  }

-- what is kept of a channel says whether it is standard
standard-kept : (there : Option OpenChannel) → is_standard_kept (option_map kept_channel there) ≡ is_standard_in there
standard-kept None = refl
standard-kept (Some channel) = refl

pub standard-shown : (channels : ChannelTable) (past : List Event) (channel : ℕ) (b : Bool) (o : Option Rattle.channels.specs.Tables.KeptChannel)
    → AllAnswerFor (is_asked_after past) channels.open_channels (channels_of past) → b ≡ is_standard_kept o → o ≡ option_map kept_channel (channel_in channels.open_channels channel)
    → b ≡ is_standard_in (channel_in (channels_of past) channel)
standard-shown channels past channel b o shown is same =
    is ∙ ap is_standard_kept (same ∙ kept-same (is_asked_after past) (channel_in channels.open_channels channel) (channel_in (channels_of past) channel)
    (in-answers (is_asked_after past) channels.open_channels (channels_of past) channel shown))
    ∙ standard-kept (channel_in (channels_of past) channel)

-- a share that passed has room for its credit in a tally
pub few-pushes : (rules : Rules) (pushes count : ℕ) → Rattle.pool_history.specs.Accounts.are_in_range rules ≡ true → count ≡ pushes
    → count < rules.credit_limit → pushes + 1 < 2 ^ 24
few-pushes rules pushes count range same less =
    let most : rules.credit_limit ≤ 16777215 = (window_and_limit rules range).1 in
    omega (arith, less, most, same)

-- a share that passed is booked by its event
pub booked-share : (rules : Rules) (past : List Event) (session : ℕ) (share : Credited) (account : List ℕ) (p : Passed) (tally : Weighing) (set : HeaderSet)
    → rules_of past ≡ Some rules → IsPassed rules past session (share_after past share) account p
    → WereBooked rules tally set (booked_for account p ∷ bookings_of past) (p.header ∷ headers past)
    → WereBookedBy rules tally set (credit_event session share ∷ past)
booked-share rules past session share account p tally set are passes booked =
    subst (λ c. WereBooked rules tally set c (headers (credit_event session share ∷ past))) (sym credit)
    (subst (λ h. WereBooked rules tally set (booked_for account p ∷ bookings_of past) h) (sym header) booked) where
      judged_as : Share
      judged_as = share_after past share

      good : IsGood rules past session judged_as
      good = good_by rules past session judged_as (admission rules past session judged_as) refl passes.none

      is_good : IsGoodCredit past session judged_as
      is_good = record { rules = rules; are_rules = are; good = good }

      adds : Adds past session judged_as (credit_event session share) is_good
      adds = credit-adds past session share.channel share.job share.nonce share.ntime share.version share.extranonce.now is_good

      same : good.with ≡ passes.with
      same = ok-same (sym good.is_admitted ∙ passes.admitted) where
        ok-same : {x y : Admitted} → ◌≡◌ {A = Result Admitted Failed} (Ok x) (Ok y) → x ≡ y
        ok-same e = cc

      header : headers (credit_event session share ∷ past) ≡ p.header ∷ headers past
      header =
          adds.header ∙ ap (λ w. rebuilt_header rules.pool_script w judged_as ∷ headers past) same
          ∙ ap (λ h. h ∷ headers past) (sym passes.booked.header_is)

      as_booked : booked_for account p ≡ booking rules.pool_script judged_as passes.with
      as_booked =
          ap (λ a. record { account = a; work = p.work; reward = cond p.is_block (Some p.reward) None }) passes.account_is
          ∙ ap (λ n. record { account = passes.with.channel.account; work = n; reward = cond p.is_block (Some p.reward) None }) passes.booked.work_is
          ∙ ap (λ r. record { account = passes.with.channel.account; work = admitted_work passes.with; reward = cond p.is_block (Some r) None })
          passes.booked.reward_is
          ∙ ap (λ b. record {
            account = passes.with.channel.account;
            work = admitted_work passes.with;
            reward = cond b (Some (reward_of passes.with.job.source)) None;
          }) passes.booked.block_is

      credit : bookings_of (credit_event session share ∷ past) ≡ booked_for account p ∷ bookings_of past
      credit =
          adds.counts ∙ ap (λ w. booking rules.pool_script judged_as w ∷ bookings_of past) same
          ∙ ap (λ b. b ∷ bookings_of past) (sym as_booked)
