-- What the tables of a book say of its history.
use Rattle.std.proofs.Common.{◌≡◌, ℕ, ◌+◌, ◌<◌, ◌≤◌, ◌^◌, Bool, true, None, Some, Option, List, [], ◌∷◌, length, map, refl, ap, sym, subst, ◌∙◌, arith}
use Rattle.std.proofs.lemmas.List.{length-reverse}
use Rattle.std.specs.List.{list_any}
use Rattle.std.specs.Prelude.{IfOk, Result, Ok, Err}
use Rattle.std.specs.Str.{bytes_eq}
use Rattle.pool_history.specs.Crediting.{Booked}
use Rattle.payouts.specs.Tallies.{DiffersInRoom, Remembers, Weighing}
use Rattle.payouts.specs.Totals.{HasSums}
use Rattle.pool_tables.specs.Headers.{HeaderSet}
use Rattle.pool_history.specs.declared.asking.Request.{Request}
use Rattle.pool_history.specs.declared.events.Event.{Event}
use Rattle.pool_history.specs.declared.settings.Rules.{Rules}
use Rattle.pool_history.specs.declared.templates.TipData.{TipData}
use Rattle.pool_history.specs.Accounts.{are_in_range}
use Rattle.pool_history.specs.declared.replies.Reply.{Reply}
use Rattle.pool_history.specs.Answering.{Effect, step_in, with_event, without_event}
use Rattle.pool_history.specs.Channels.{OpenChannel, channels_of}
use Rattle.pool_history.specs.Jobs.{Job, jobs_of}
use Rattle.pool_history.specs.Sessions.{past_of, rules_of, script_in, script_of}
use Rattle.history_laws.specs.AskedPlaces.{is_asked_after}
use Rattle.history_laws.specs.KeptJobs.{KeptJobs, kept_jobs_of}
use Rattle.history_laws.proofs.Legalities.{some-same}
use Rattle.history_laws.proofs.Ranges.{least-range, legal-rules, script-range}
use Rattle.channels.specs.Histories.{TablesShowHistories}
use Rattle.template_jobs.specs.Tables.{kept_jobs}
use Rattle.pool_tables.specs.Admission.{ShowsShares}
use Rattle.share_ledger.specs.Planning.{Changes, IsStep, IsStepWithin, past_in, step_within}
use Rattle.share_ledger.specs.declared.planning.Change.{Change}
use Rattle.share_ledger.specs.Tables.{AreTables, LedgerTables, WereTold}
use Rattle.share_ledger.specs.declared.planning.Step.{Step}

module _ (old : LedgerTables) (is : AreTables old) where
  -- a step by the rules of the history
  pub within : (session : ℕ) (asked : Request) (new : LedgerTables) (st : Step)
      → IsStep new (step_in is.rules (past_in old) session asked) st → IsStepWithin old new session asked st
  within session asked new st h =
      subst (λ (o : Option Rules). IsStep new (step_within o (past_in old) session asked) st) (sym is.told.are_rules) h

  -- the rules that were read are those of the history, and in their ranges
  pub rules_same : (rules : Rules) → rules_of (past_in old) ≡ Some rules → is.rules ≡ rules
  rules_same rules e = some-same (sym is.told.are_rules ∙ e)

  pub script_same : script_of (past_in old) ≡ is.rules.pool_script
  script_same = ap script_in is.told.are_rules

  pub ranged : are_in_range is.rules ≡ true
  ranged = legal-rules (past_in old) is.rules is.kept.legal is.told.are_rules

  pub ranged_as : (rules : Rules) → rules_of (past_in old) ≡ Some rules → are_in_range rules ≡ true
  ranged_as rules e = legal-rules (past_in old) rules is.kept.legal e

  pub script_some : (rules : Rules) → rules_of (past_in old) ≡ Some rules → 1 ≤ length rules.pool_script
  script_some rules e = (script-range rules (ranged_as rules e)).0

  pub script_short : (rules : Rules) → rules_of (past_in old) ≡ Some rules → length rules.pool_script ≤ 100
  script_short rules e = (script-range rules (ranged_as rules e)).1

  pub least_class : (rules : Rules) → rules_of (past_in old) ≡ Some rules → rules.least_class ≤ 60
  least_class rules e = least-range rules (ranged_as rules e)

  -- how many jobs there were
  pub counted_jobs : old.jobs.count ≡ length (jobs_of (past_in old)).all
  counted_jobs = ap (λ (kept : KeptJobs). kept.count) is.told.jobs_are

  pub tip_same : old.jobs.tip ≡ (jobs_of (past_in old)).tip
  tip_same = ap (λ (kept : KeptJobs). kept.tip) is.told.jobs_are

  pub future_same : (kept_jobs old.jobs).future ≡ (jobs_of (past_in old)).future
  future_same = ap (λ (kept : KeptJobs). kept.future) is.told.jobs_are

  -- what is judged by
  pub shows_shares : TablesShowHistories → ShowsShares old.channels old.jobs (past_in old)
  shows_shares shown = record {
    channels_are = (shown (is_asked_after (past_in old)) old.channels (past_in old) is.told.channels_are).channels_are;
    jobs_are = is.told.jobs_are;
    coinbases = subst (λ (s : List ℕ). Rattle.template_jobs.specs.Tables.HasCoinbases s old.jobs) (sym script_same) is.told.coinbases;
  }

  -- the same by rules that were read
  pub within_by : (rules : Rules) → rules_of (past_in old) ≡ Some rules → (session : ℕ) (asked : Request) (new : LedgerTables) (st : Step)
      → IsStep new (step_in rules (past_in old) session asked) st → IsStepWithin old new session asked st
  within_by rules are session asked new st h =
      subst (λ (o : Option Rules). IsStep new (step_within o (past_in old) session asked) st) (sym are) h

  pub at_past : length (past_in old) ≡ length old.history.events
  at_past = length-reverse old.history.events

-- what is there at no value isn't there
pub not_some : {X : Type 0} (o : Option X) → ((x : X) → o ≡ Some x → ⊥) → o ≡ None
not_some None never = refl
not_some (Some x) never = absurd (never x refl)

-- what was planned by tables as they were is planned by them as they are shown
pub still : (old shown : LedgerTables) (session : ℕ) (asked : Request) (answer : Reply) → old ≡ shown
    → step_within (rules_of (past_in old)) (past_in old) session asked ≡ without_event answer
    → step_within (rules_of (past_in shown)) (past_in shown) session asked ≡ without_event answer
still old shown session asked answer same h =
    subst (λ (t : LedgerTables). step_within (rules_of (past_in t)) (past_in t) session asked ≡ without_event answer) same h

-- so is a step that may lack memory
pub if_made : {E : Type 0} (old shown new : LedgerTables) (session : ℕ) (asked : Request) (made : Result Step E) (st : Step) → old ≡ shown
    → IfOk made (λ (m : Step). m ≡ st) → IsStepWithin old new session asked st → IfOk made (IsStepWithin shown new session asked)
if_made old shown new session asked (Err e) st same h is = tt
if_made old shown new session asked (Ok m) st same h is =
    subst (λ (t : LedgerTables). IsStepWithin t new session asked m) same (subst (λ (s : Step). IsStepWithin old new session asked s) (sym h) is)

pub moved : (old shown new : LedgerTables) (session : ℕ) (asked : Request) (e : Event) (c : Change) (answer : Reply) → old ≡ shown
    → (step_within (rules_of (past_in old)) (past_in old) session asked ≡ with_event e answer) × Changes new e c
    → (step_within (rules_of (past_in shown)) (past_in shown) session asked ≡ with_event e answer) × Changes new e c
moved old shown new session asked e c answer same h =
    (subst (λ (t : LedgerTables). step_within (rules_of (past_in t)) (past_in t) session asked ≡ with_event e answer) same h.0, h.1)

-- a tally that has more room was told the same
pub remembers_same : (old new : Weighing) (credits : List Booked) → DiffersInRoom old new → Remembers old credits → Remembers new credits
remembers_same old new credits same told =
    subst (λ (t : Weighing). Remembers t credits) (sym same)
    (record {
      accounts_are = told.accounts_are;
      weights_are = told.weights_are;
      pushes_are = told.pushes_are;
      unsettled_is = told.unsettled_is;
    })

pub sums_same : (old new : Weighing) (fee : ℕ) (credits : List Booked) → DiffersInRoom old new → HasSums old fee credits → HasSums new fee credits
sums_same old new fee credits same sums =
    subst (λ (t : Weighing). HasSums t fee credits) (sym same)
    (record { works_are = sums.works_are; balances_are = sums.balances_are; pool_is = sums.pool_is; blocks_are = sums.blocks_are })

-- the tables are still those of the events where the tally and the headers have more room
pub roomy : (old : LedgerTables) (tally : Weighing) (set : HeaderSet) → AreTables old → DiffersInRoom old.tally tally → set.kept ≡ old.headers.kept
    → AreTables (record old { tally = tally; headers = set })
roomy old tally set is same kept = record {
  kept = is.kept;
  rules = is.rules;
  told = record {
    are_rules = is.told.are_rules;
    sessions_are = is.told.sessions_are;
    channels_are = is.told.channels_are;
    jobs_are = is.told.jobs_are;
    coinbases = is.told.coinbases;
    grants_are = is.told.grants_are;
    window_is = ap (λ (t : Weighing). t.window) same ∙ is.told.window_is;
    tally_is = remembers_same old.tally tally _ same is.told.tally_is;
    sums_are = sums_same old.tally tally _ _ same is.told.sums_are;
    headers_are = record { among = λ header. ap (list_any (bytes_eq header)) kept ∙ is.told.headers_are.among header };
  };
}
