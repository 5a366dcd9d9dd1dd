-- Shares are judged, briefed and booked as the history answers.
use Rattle.std.proofs.Common.{◌≡◌, ◌↔◌, ℕ, ◌+◌, ◌≤◌, ◌<◌, ◌^◌, Bool, true, false, cond, None, Some, Option, Result, Ok, Err, List, [], ◌∷◌, ◌++◌, length, take, refl, ap, sym, subst, ◌∙◌, arith}
use Rattle.std.specs.Option.{option_map, option_map_or}
use Rattle.std.specs.Prelude.{is_some, IfErr, IfOk, IsTrue}
use Rattle.block_header.specs.Hash.{dsha}
use Rattle.block_header.specs.Target.{is_at_most}
use Rattle.pool_history.specs.declared.asking.Request.TheVariants as request
use Rattle.pool_history.specs.declared.events.Event.{Event}
use Rattle.pool_history.specs.declared.events.Event.TheVariants as event
use Rattle.pool_history.specs.declared.refusals.Failed.{Failed}
use Rattle.pool_history.specs.declared.replies.Reply.TheVariants as reply
use Rattle.pool_history.specs.declared.settings.Rules.{Rules}
use Rattle.pool_history.specs.declared.shares.Checked.{Checked}
use Rattle.pool_history.specs.declared.shares.Submission.{Submission}
use Rattle.pool_history.specs.Answering.{Effect, briefing, committing, crediting, step_in, unless_refused, with_event, without_event}
use Rattle.pool_history.specs.Conditions.{first_false}
use Rattle.pool_history.specs.Crediting.{Booked, admitted_class, admitted_work, booked_with, booking, bookings_of, credit_share, first_failed, found_list, headers, is_block, last_conditions, last_failed, reward_of}
use Rattle.pool_history.specs.Headers.{Briefing}
use Rattle.pool_history.specs.Judging.{Admitted, Share, admission, briefing_of, rebuilt_header, share_of}
use Rattle.pool_history.specs.Sessions.{credits, rules_of, script_in, script_of}
use Rattle.history_laws.specs.Answered.{credit_of}
use Rattle.std.proofs.lemmas.Bool.{ltb-true}
use Rattle.history_laws.proofs.Crediting.{admission-booked, booked-found, credits-counted, good_by}
use Rattle.history_laws.proofs.Legalities.{some-same}
use Rattle.history_laws.proofs.Ranges.{legal-rules}
use Rattle.payout_laws.proofs.Ranges.{pays_from}
use Rattle.history_laws.specs.AskedPlaces.{is_asked_after}
use Rattle.channels.proofs.Cuts.{in-answers, some-back}
use Rattle.channels.specs.Histories.{TablesShowHistories}
use Rattle.channels.specs.Tables.{AnswersFor, KeptChannel}
use Rattle.pool_history.specs.Channels.{OpenChannel, channel_in, channels_of}
use Rattle.pool_tables.proofs.Ranges.{window_and_limit}
use Rattle.event_store.specs.Blocks.{is_block_event}
use Rattle.payouts.specs.Plans.{BlockPlan, IsPlanOf, Planning}
use Rattle.payouts.specs.Plans as tallies
use Rattle.payouts.specs.Tallies.{Weighing}
use Rattle.share_headers.specs.Submitted.{SubmittedIsRebuilt, submitted_header}
use Rattle.pool_tables.specs.Headers.{HeaderSet}
use Rattle.pool_tables.specs.Passing as passing
use Rattle.pool_tables.specs.declared.passing.Passed.{Passed}
use Rattle.share_ledger.specs.declared.planning.Change.TheVariants as change
use Rattle.share_ledger.specs.declared.planning.Crediting.{Crediting}
use Rattle.share_ledger.specs.declared.planning.Step.TheVariants as step
use Rattle.share_ledger.specs.Planning.{BooksShare, HasFee, IsStepWithin, past_in, planned_credit, step_within}
use Rattle.share_ledger.specs.Shares.{HasChannel, IsPassed, Passes, failed_within}
use Rattle.share_ledger.specs.Tables.{AreTables, LedgerTables}
use Rattle.share_ledger.proofs.Within.{within_by}

-- two truths that imply each other are the same
pub same_truth : (a b : Bool) → (IsTrue a → IsTrue b) → (IsTrue b → IsTrue a) → a ≡ b
same_truth true b f g = sym (f refl)
same_truth false true f g = g refl
same_truth false false f g = refl

-- commits, by the rules of the history
commit-passed : (rules : Rules) (past : List Event) (session : ℕ) (checked : Checked) (header : List ℕ) (block : Bool) (work reward : ℕ)
    → Passes rules past session (share_of checked.sub) header block work reward
    → step_in rules past session (request.Commit checked) ≡ with_event (credit_of session (share_of checked.sub)) (reply.Credited work)
commit-passed rules past session checked header block work reward p =
    ap (committing rules past session (share_of checked.sub)) p.admitted
    ∙ ap (λ o. unless_refused reply.Refused o (crediting session (share_of checked.sub) p.with))
    (ap (last_failed rules past (share_of checked.sub)) (sym p.admitted) ∙ p.none)
    ∙ ap (λ w. with_event (credit_of session (share_of checked.sub)) (reply.Credited w)) (sym p.work_is)

pub commit-made : (past : List Event) (session : ℕ) (checked : Checked) (header : List ℕ) (block : Bool) (work reward : ℕ)
    → IsPassed past session (share_of checked.sub) header block work reward
    → step_within (rules_of past) past session (request.Commit checked) ≡ with_event (credit_of session (share_of checked.sub)) (reply.Credited work)
commit-made past session checked header block work reward p =
    subst (λ (o : Option Rules). step_within o past session (request.Commit checked)
    ≡ with_event (credit_of session (share_of checked.sub)) (reply.Credited work)) (sym p.are)
    (commit-passed p.rules past session checked header block work reward p.passes)

commit_by : (rules : Rules) (past : List Event) (session : ℕ) (checked : Checked) (code : Failed) (r : Result Admitted Failed)
    → Some code ≡ last_failed rules past (share_of checked.sub) r
    → committing rules past session (share_of checked.sub) r ≡ without_event (reply.Refused code)
commit_by rules past session checked code (Err c) h = ap (λ o. without_event (reply.Refused o)) (some-same (sym h))
commit_by rules past session checked code (Ok with) h =
    ap (λ o. unless_refused reply.Refused o (crediting session (share_of checked.sub) with)) (sym h)

commit_within : (o : Option Rules) (past : List Event) (session : ℕ) (checked : Checked) (code : Failed)
    → Some code ≡ failed_within o past session (share_of checked.sub)
    → step_within o past session (request.Commit checked) ≡ without_event (reply.Refused code)
commit_within None past session checked code h = absurd cc
commit_within (Some rules) past session checked code h =
    commit_by rules past session checked code (admission rules past session (share_of checked.sub)) h

pub commit-refused : (past : List Event) (session : ℕ) (checked : Checked) (code : Failed)
    → Some code ≡ failed_within (rules_of past) past session (share_of checked.sub)
    → step_within (rules_of past) past session (request.Commit checked) ≡ without_event (reply.Refused code)
commit-refused past session checked code h = commit_within (rules_of past) past session checked code h

-- what passed by the rules that were read passed by the tables as they are shown
pub as_passed : (old shown : LedgerTables) → old ≡ shown → (session : ℕ) (share : Share) (rules : Rules) → rules_of (past_in old) ≡ Some rules
    → (r : Result Passed Failed) → IfOk r (λ p. Passes rules (past_in old) session share p.header p.is_block p.work p.reward)
    → IfOk r (λ p. IsPassed (past_in shown) session share p.header p.is_block p.work p.reward)
as_passed old shown same session share rules are (Err code) passes = tt
as_passed old shown same session share rules are (Ok p) passes =
    subst (λ (t : LedgerTables). IsPassed (past_in t) session share p.header p.is_block p.work p.reward) same
    (record { rules = rules; are = are; passes = passes })

module _ (old : LedgerTables) (is : AreTables old) (session : ℕ) (rules : Rules) (are : rules_of (past_in old) ≡ Some rules) where
  -- what passed by the tables as they are shown passed by the rules that were read
  pub passed_by : (shown : LedgerTables) → old ≡ shown → (share : Share) (header : List ℕ) (block : Bool) (work reward : ℕ)
      → IsPassed (past_in shown) session share header block work reward → Passes rules (past_in old) session share header block work reward
  passed_by shown same share header block work reward p =
      let q : IsPassed (past_in old) session share header block work reward =
      subst (λ (t : LedgerTables). IsPassed (past_in t) session share header block work reward) (sym same) p in
      subst (λ r. Passes r (past_in old) session share header block work reward) (some-same (sym q.are ∙ are)) q.passes

  -- by the rules that were read
  pub failed_by : (share : Share) (code : Option Failed) → code ≡ first_failed rules (past_in old) session share
      → code ≡ failed_within (rules_of (past_in old)) (past_in old) session share
  failed_by share code h = subst (λ (o : Option Rules). code ≡ failed_within o (past_in old) session share) (sym are) h

  pub refused_early : (share : Share) (code : Failed) → admission rules (past_in old) session share ≡ Err code
      → Some code ≡ first_failed rules (past_in old) session share
  refused_early share code h = ap (last_failed rules (past_in old) share) (sym h)

  pub credits_counted : old.tally.pushes ≡ credits (past_in old)
  credits_counted = is.told.tally_is.pushes_are ∙ (credits-counted (past_in old) is.kept.legal).of_credits

  pub header_rebuilt : SubmittedIsRebuilt → (sub : Submission) (with : Admitted) (parts : Briefing) (header : List ℕ)
      → parts ≡ briefing_of (script_of (past_in old)) with.channel with.job.source with.tip → header ≡ submitted_header parts sub
      → header ≡ rebuilt_header rules.pool_script with (share_of sub)
  header_rebuilt law sub with parts header given made =
      made ∙ ap (λ (p : Briefing). submitted_header p sub) given ∙ law (script_of (past_in old)) with sub
      ∙ ap (λ (o : Option Rules). rebuilt_header (script_in o) with (share_of sub)) are

  pub judged : (share : Share) (with : Admitted) (header : List ℕ) (code : Option Failed) → admission rules (past_in old) session share ≡ Ok with
      → header ≡ rebuilt_header rules.pool_script with share → code ≡ first_false (last_conditions rules (past_in old) with header) None
      → code ≡ first_failed rules (past_in old) session share
  judged share with header code admitted rebuilt late =
      late ∙ ap (λ h. first_false (last_conditions rules (past_in old) with h) None) rebuilt ∙ ap (last_failed rules (past_in old) share) (sym admitted)

  -- briefs
  pub brief-made : (sub : Submission) (with : Admitted) (brief : Briefing) → admission rules (past_in old) session (share_of sub) ≡ Ok with
      → brief ≡ briefing_of (script_of (past_in old)) with.channel with.job.source with.tip
      → IsStepWithin old old session (request.Brief sub) (step.Answer (reply.Brief brief))
  brief-made sub with brief admitted given =
      within_by old is rules are session (request.Brief sub) old (step.Answer (reply.Brief brief))
      (ap (briefing rules) admitted
      ∙ ap (λ b. without_event (reply.Brief b))
      (sym (given ∙ ap (λ (o : Option Rules). briefing_of (script_in o) with.channel with.job.source with.tip) are)))

  pub brief-refused : (sub : Submission) (code : Failed) → admission rules (past_in old) session (share_of sub) ≡ Err code
      → IsStepWithin old old session (request.Brief sub) (step.Answer (reply.Refused code))
  brief-refused sub code refused =
      within_by old is rules are session (request.Brief sub) old (step.Answer (reply.Refused code)) (ap (briefing rules) refused)

  -- a share that passes
  pub passed : (share : Share) (with : Admitted) (header : List ℕ) (block : Bool) (work reward : ℕ) → admission rules (past_in old) session share ≡ Ok with
      → header ≡ rebuilt_header rules.pool_script with share → None ≡ first_false (last_conditions rules (past_in old) with header) None
      → block ≡ is_at_most (dsha header) with.tip.target → work ≡ admitted_work with → reward ≡ reward_of with.job.source
      → Passes rules (past_in old) session share header block work reward
  passed share with header block work reward admitted rebuilt late blocked worked rewarded = record {
    with = with;
    admitted = admitted;
    none = sym (judged share with header None admitted rebuilt late);
    header_is = rebuilt;
    block_is = blocked ∙ ap (λ h. is_at_most (dsha h) with.tip.target) rebuilt;
    work_is = worked;
    reward_is = rewarded;
  }

  -- whatever was found of a share by its header
  pub passed_all : (share : Share) (with : Admitted) (header : List ℕ) (r : Result Passed Failed) → admission rules (past_in old) session share ≡ Ok with
      → header ≡ rebuilt_header rules.pool_script with share → passing.Passes rules (past_in old) with header r
      → IfOk r (λ p. Passes rules (past_in old) session share p.header p.is_block p.work p.reward)
  passed_all share with header (Err code) admitted rebuilt passes = tt
  passed_all share with header (Ok p) admitted rebuilt passes =
      subst (λ h. Passes rules (past_in old) session share h p.is_block p.work p.reward) (sym passes.1.header_is)
      (passed share with header p.is_block p.work p.reward admitted rebuilt (sym passes.0) passes.1.block_is passes.1.work_is passes.1.reward_is)

  pub failed_all : (share : Share) (with : Admitted) (header : List ℕ) (r : Result Passed Failed) → admission rules (past_in old) session share ≡ Ok with
      → header ≡ rebuilt_header rules.pool_script with share → passing.Passes rules (past_in old) with header r
      → IfErr r (λ code. Some code ≡ failed_within (rules_of (past_in old)) (past_in old) session share)
  failed_all share with header (Ok p) admitted rebuilt passes = tt
  failed_all share with header (Err code) admitted rebuilt passes =
      failed_by share (Some code) (judged share with header (Some code) admitted rebuilt (sym passes))

  -- its account has room in the tally
  pub few_pushes : (share : Share) (header : List ℕ) (block : Bool) (work reward : ℕ) → Passes rules (past_in old) session share header block work reward
      → old.tally.pushes + 1 < 2 ^ 24
  few_pushes share header block work reward p =
      let good = good_by rules (past_in old) session share (admission rules (past_in old) session share) refl p.none in
      let less : credits (past_in old) < rules.credit_limit = ltb-true (credits (past_in old)) rules.credit_limit good.room in
      let most : rules.credit_limit ≤ 16777215 = (window_and_limit rules (legal-rules (past_in old) rules is.kept.legal are)).1 in
      let counted : old.tally.pushes ≡ credits (past_in old) = credits_counted in
      omega (arith, less, most, counted)

  pub low_fee : rules.fee ≤ 10000
  low_fee = (pays_from rules (legal-rules (past_in old) rules is.kept.legal are)).fee

  -- a planned block, where the credit is one
  planned_reward : (block : Option BlockPlan) (b : Bool) (reward fee : ℕ)
      → option_map {U = ℕ × ℕ} (λ (planned : BlockPlan). (planned.reward, planned.fee)) block ≡ cond b (Some (reward, fee)) None
      → option_map (λ (planned : BlockPlan). planned.reward) block ≡ cond b (Some reward) None
  planned_reward None true reward fee h = absurd cc
  planned_reward None false reward fee h = refl
  planned_reward (Some block) true reward fee h = ap Some (ap (λ (p : ℕ × ℕ). p.0) (both h)) where
    both : ◌≡◌ {A = Option (ℕ × ℕ)} (Some (block.reward, block.fee)) (Some (reward, fee)) → ◌≡◌ {A = ℕ × ℕ} (block.reward, block.fee) (reward, fee)
    both e = cc
  planned_reward (Some block) false reward fee h = absurd cc

  planned_fee : (block : Option BlockPlan) (b : Bool) (reward : ℕ)
      → option_map {U = ℕ × ℕ} (λ (planned : BlockPlan). (planned.reward, planned.fee)) block ≡ cond b (Some (reward, rules.fee)) None → HasFee block (past_in old)
  planned_fee None b reward h = tt
  planned_fee (Some block) true reward h =
      λ other others. ap (λ (p : ℕ × ℕ). p.1) (both h) ∙ ap (λ (r : Rules). r.fee) (some-same (sym are ∙ others)) where
        both : ◌≡◌ {A = Option (ℕ × ℕ)} (Some (block.reward, block.fee)) (Some (reward, rules.fee)) → ◌≡◌ {A = ℕ × ℕ} (block.reward, block.fee) (reward, rules.fee)
        both e = cc
  planned_fee (Some block) false reward h = absurd cc

  -- its channel is open
  there : TablesShowHistories → (share : Share) (with : Admitted) → admission rules (past_in old) session share ≡ Ok with
      → (kept : OpenChannel) × (channel_in old.channels.open_channels share.channel ≡ Some kept)
      × AnswersFor (is_asked_after (past_in old)) kept with.channel
  there shown share with admitted =
      some-back (is_asked_after (past_in old)) (channel_in old.channels.open_channels share.channel) (channel_in (channels_of (past_in old)) share.channel)
      (in-answers (is_asked_after (past_in old)) old.channels.open_channels (channels_of (past_in old)) share.channel
      (shown (is_asked_after (past_in old)) old.channels (past_in old) is.told.channels_are).channels_are) with.channel
      (booked-found (past_in old) share.channel share.job with (admission-booked rules (past_in old) session share with admitted)).channel_is

  pub has_account : TablesShowHistories → (share : Share) (header : List ℕ) (block : Bool) (work reward : ℕ)
      → Passes rules (past_in old) session share header block work reward → HasChannel (channel_in old.channels.open_channels share.channel)
  has_account shown share header block work reward p =
      let kept = there shown share p.with p.admitted in record { channel = kept.0; is = kept.1 }

  -- the share that passed is booked
  pub booked : TablesShowHistories → (tally : Weighing) (set : HeaderSet) (share : Share) (header : List ℕ) (block : Bool) (work reward : ℕ)
      (plan : Planning) (account : List ℕ) → Passes rules (past_in old) session share header block work reward
      → option_map (λ (shown : OpenChannel). shown.account) (channel_in old.channels.open_channels share.channel) ≡ Some account
      → IsPlanOf account work (cond block (Some (reward, rules.fee)) None) plan → tallies.Fits tally plan → 1 ≤ set.room
      → BooksShare (record old { tally = tally; headers = set }) (credit_of session share) plan header block
  booked shown tally set share header block work reward plan account p paid planned fits room =
      let script : script_of (past_in old) ≡ rules.pool_script = ap script_in are in
      let with : Admitted = p.with in
      let found : booked_with (past_in old) share.channel share.job ≡ Some with = admission-booked rules (past_in old) session share with p.admitted in
      let block_is : block ≡ is_block (script_of (past_in old)) with share = p.block_is ∙ ap (λ s. is_block s with share) (sym script) in
      let account_is : account ≡ with.channel.account =
      let kept = there shown share with p.admitted in
      some-same (sym paid ∙ ap (option_map (λ (c : OpenChannel). c.account)) kept.1) ∙ ap (λ (c : KeptChannel). c.account) kept.2.kept_is in
      let credit : planned_credit plan ≡ booking (script_of (past_in old)) share with =
      ap (λ a. record { account = a; work = plan.work; reward = option_map (λ (b : BlockPlan). b.reward) plan.block }) (planned.account_is ∙ account_is)
      ∙ ap (λ w. record { account = with.channel.account; work = w; reward = option_map (λ (b : BlockPlan). b.reward) plan.block }) (planned.work_is ∙ p.work_is)
      ∙ ap (λ r. record { account = with.channel.account; work = admitted_work with; reward = r })
      (planned_reward plan.block block reward rules.fee planned.block_is
      ∙ ap (λ r. cond block (Some r) None) p.reward_is ∙ ap (λ b. cond b (Some (reward_of with.job.source)) None) block_is) in
      record {
        session = session;
        channel = share.channel;
        job = share.job;
        nonce = share.nonce;
        ntime = share.ntime;
        version = share.version;
        extranonce = share.extranonce;
        is = refl;
        books = ap (λ o. found_list (λ (w : Admitted). booking (script_of (past_in old))
            (credit_share w share.channel share.job share.nonce share.ntime share.version share.extranonce) w) o ++ bookings_of (past_in old)) found
            ∙ ap (λ (b : Booked). b ∷ bookings_of (past_in old)) (sym credit);
        adds = ap (λ o. found_list (λ (w : Admitted). rebuilt_header (script_of (past_in old)) w
            (credit_share w share.channel share.job share.nonce share.ntime share.version share.extranonce)) o ++ headers (past_in old)) found
            ∙ ap (λ h. h ∷ headers (past_in old)) (ap (λ s. rebuilt_header s with share) script ∙ sym p.header_is);
        block = block_is
            ∙ sym (ap (λ o. option_map_or (λ (w : Admitted). is_block (script_of (past_in old)) w
            (credit_share w share.channel share.job share.nonce share.ntime share.version share.extranonce)) o false) found);
        fee = planned_fee plan.block block reward planned.block_is;
        fits = fits;
        room = room;
      }
