-- One more job, or a tip: what the table keeps is what is kept of the jobs after one more move.
use Rattle.std.proofs.Common.{◌≡◌, ℕ, ◌+◌, ◌-◌, ◌<◌, ◌≤◌, ◌^◌, Bool, true, false, if◌then◌else◌, Option, None, Some, List, [], ◌∷◌, ◌++◌, length, map, refl, ap, sym, subst, ◌∙◌, arith}
use Rattle.std.proofs.lemmas.List.{length-map, map-append}
use Rattle.std.specs.List.{AllByRecursion}
use Rattle.coinbase.specs.Parts.{Parts}
use Rattle.history_laws.specs.KeptJobs.{OwnJob, keeping_template}
use Rattle.history_laws.proofs.Holding.{all-find}
use Rattle.history_laws.proofs.NotesFit.{all-append}
use Rattle.pool_history.specs.declared.templates.CustomData.{CustomData}
use Rattle.pool_history.specs.declared.spans.LiveSpan.{LiveSpan}
use Rattle.pool_history.specs.declared.templates.TipData.{TipData}
use Rattle.pool_history.specs.Jobs.{Came, Brought, FromMiner, FromTemplate, Job, Source, Tipped, has_template, last}
use Rattle.pool_history.specs.Judging.{job_parts}
use Rattle.template_jobs.specs.declared.origin.Shelf.TheVariants as shelf
use Rattle.template_jobs.specs.HeldJobs.{HasCoinbase, HeldJob, as_job, shelf_if, shelf_of}
use Rattle.template_jobs.specs.Lists.{of_template, turned_live, without_surplus}
use Rattle.template_jobs.specs.Plans.{IsPlannedAs, PlannedJob, move_of}
use Rattle.template_jobs.specs.Tables.{AppliesPlan, IsSameButRoom, IsWithinLimits, JobTable, TakesMove, kept_jobs, templates_of}
use Rattle.template_jobs.specs.Owners.{own_job}
use Rattle.template_jobs.specs.Spans.{widened_by}
use Rattle.template_jobs.specs.declared.owner.Owner.{Owner}
use Rattle.template_jobs.proofs.Mapped.{future_in-map, last-map, live-map}
use Rattle.template_jobs.proofs.Parts.{all-drop, all-left, all-right}
use Rattle.template_jobs.proofs.Surplus.{all-within, sixteen-map}

-- a job of a plan
abbrev pub joining : ℕ → ℕ → ℕ → Option ℕ → Source → Parts → HeldJob
joining number session at live_at source coinbase = record { number = number; session = session; at = at; live_at = live_at; source = source; coinbase = coinbase }

is-future : (b : Bool) → shelf_if b ≡ shelf.Future → b ≡ true
is-future true e = refl
is-future false e = absurd cc

is-ready : (b : Bool) → shelf_if b ≡ shelf.Live → b ≡ false
is-ready false e = refl
is-ready true e = absurd cc

-- the limits of each list
pub few-future : (table : JobTable) (source : Source) → shelf_of source ≡ shelf.Future → IsWithinLimits table source → templates_of table < 2 ^ 20
few-future table (FromTemplate template) place few = few
few-future table (FromMiner custom) place few = absurd cc

pub few-live : (table : JobTable) (source : Source) → shelf_of source ≡ shelf.Live → IsWithinLimits table source → templates_of table < 2 ^ 20
few-live table (FromTemplate template) place few = few
few-live table (FromMiner custom) place few = absurd cc

template-shelf : (b : Bool) (channel : ℕ) → shelf_if b ≡ shelf.Own channel → ⊥
template-shelf true channel e = cc
template-shelf false channel e = cc

pub few-own : (table : JobTable) (source : Source) (channel : ℕ) → shelf_of source ≡ shelf.Own channel → IsWithinLimits table source → length table.own < 2 ^ 18
few-own table (FromTemplate template) channel place few = absurd (template-shelf template.future_template channel place)
few-own table (FromMiner custom) channel place few = few

-- the parts of a table that has one job more fit each other
pub counted-template : (table : JobTable) (count templates : ℕ) (owners : List Owner) → count - length (map own_job owners) ≡ templates_of table
    → count ≡ templates + length owners → templates_of table < 2 ^ 20 → templates + 1 ≤ 2 ^ 20
counted-template table count templates owners seen counted few = omega (arith, seen, counted, few, length-map owners own_job)

pub all-last : (P : HeldJob → Type 0) (most : ℕ) (jobs : List HeldJob) (job : HeldJob) → AllByRecursion P jobs → P job → AllByRecursion P (last most (jobs ++ job ∷ []))
all-last P most jobs job all one = all-drop P (length (jobs ++ job ∷ []) - most) (jobs ++ job ∷ []) (all-append P jobs (job ∷ []) all (one, tt))

all-three : (P : HeldJob → Type 0) (a b c : List HeldJob) → AllByRecursion P a → AllByRecursion P b → AllByRecursion P c → AllByRecursion P (a ++ b ++ c)
all-three P a b c x y z = all-append P (a ++ b) c (all-append P a b x y) z

joined-last : (most : ℕ) (jobs : List HeldJob) (job : HeldJob) → map as_job (last most (jobs ++ job ∷ [])) ≡ last most (map as_job jobs ++ as_job job ∷ [])
joined-last most jobs job = sym (last-map as_job most (jobs ++ job ∷ [])) ∙ ap (last most) (map-append as_job jobs (job ∷ []))

module _ (script : List ℕ) (old : JobTable) (room session at : ℕ) (coinbase : Parts) where
  joined-future : (source : Source) → shelf_of source ≡ shelf.Future → coinbase ≡ job_parts source script
      → TakesMove script (move_of session at source) old
      (record { count = old.count + 1; own = old.own; future = last 16 (old.future ++ joining (old.count + 1) session at None source coinbase ∷ []); live = old.live; custom = old.custom; tip = old.tip; span = old.span; room = room })
  joined-future (FromMiner custom) place is = absurd cc
  joined-future (FromTemplate template) place is =
      let job : HeldJob = joining (old.count + 1) session at None (FromTemplate template) coinbase in
      record {
        kept = subst (λ b. record (kept_jobs old) { count = old.count + 1; future = map as_job (last 16 (old.future ++ job ∷ [])) } ≡ keeping_template (as_job job) b (kept_jobs old))
            (sym (is-future template.future_template place))
            (ap (λ l. record (kept_jobs old) { count = old.count + 1; future = l }) (joined-last 16 old.future job));
        spans = subst (λ b. old.span ≡ (if b then old.span else widened_by at old.span)) (sym (is-future template.future_template place)) refl;
        coinbases = λ all. all-three (HasCoinbase script) (last 16 (old.future ++ job ∷ [])) old.live old.custom
            (all-last (HasCoinbase script) 16 old.future job (all-left (HasCoinbase script) old.future old.live (all-left (HasCoinbase script) (old.future ++ old.live) old.custom all)) is)
            (all-right (HasCoinbase script) old.future old.live (all-left (HasCoinbase script) (old.future ++ old.live) old.custom all))
            (all-right (HasCoinbase script) (old.future ++ old.live) old.custom all);
      }

  joined-live : (source : Source) → shelf_of source ≡ shelf.Live → coinbase ≡ job_parts source script
      → TakesMove script (move_of session at source) old
      (record { count = old.count + 1; own = old.own; future = old.future; live = last 64 (old.live ++ joining (old.count + 1) session at (Some at) source coinbase ∷ []); custom = old.custom; tip = old.tip; span = widened_by at old.span; room = room })
  joined-live (FromMiner custom) place is = absurd cc
  joined-live (FromTemplate template) place is =
      let job : HeldJob = joining (old.count + 1) session at (Some at) (FromTemplate template) coinbase in
      record {
        kept = subst (λ b. record (kept_jobs old) { count = old.count + 1; live = map as_job (last 64 (old.live ++ job ∷ [])) } ≡ keeping_template (as_job (joining (old.count + 1) session at None (FromTemplate template) coinbase)) b (kept_jobs old))
            (sym (is-ready template.future_template place))
            (ap (λ l. record (kept_jobs old) { count = old.count + 1; live = l }) (joined-last 64 old.live job));
        spans = subst (λ b. widened_by at old.span ≡ (if b then old.span else widened_by at old.span)) (sym (is-ready template.future_template place)) refl;
        coinbases = λ all. all-three (HasCoinbase script) old.future (last 64 (old.live ++ job ∷ [])) old.custom
            (all-left (HasCoinbase script) old.future old.live (all-left (HasCoinbase script) (old.future ++ old.live) old.custom all))
            (all-last (HasCoinbase script) 64 old.live job (all-right (HasCoinbase script) old.future old.live (all-left (HasCoinbase script) (old.future ++ old.live) old.custom all)) is)
            (all-right (HasCoinbase script) (old.future ++ old.live) old.custom all);
      }

  own-shelf : (a b : ℕ) → shelf.Own a ≡ shelf.Own b → a ≡ b
  own-shelf a b e = cc

  joined-custom : (channel : ℕ) (custom : CustomData) → custom.channel_id ≡ channel → coinbase ≡ job_parts (FromMiner custom) script
      → TakesMove script (Brought at custom) old
      (record {
        count = old.count + 1;
        own = old.own ++ record { number = old.count + 1; channel = channel } ∷ [];
        future = old.future;
        live = old.live;
        custom = without_surplus channel (old.custom ++ joining (old.count + 1) 0 at (Some at) (FromMiner custom) coinbase ∷ []);
        tip = old.tip;
        span = widened_by at old.span;
        room = room;
      })
  joined-custom channel custom same is =
      let job : HeldJob = joining (old.count + 1) 0 at (Some at) (FromMiner custom) coinbase in
      subst (λ n. TakesMove script (Brought at custom) old
      (record {
        count = old.count + 1;
        own = old.own ++ record { number = old.count + 1; channel = n } ∷ [];
        future = old.future;
        live = old.live;
        custom = without_surplus n (old.custom ++ job ∷ []);
        tip = old.tip;
        span = widened_by at old.span;
        room = room;
      })) same
      (record {
        kept = ap (λ l. record (kept_jobs old) { count = old.count + 1; own = old.own ++ record { number = old.count + 1; channel = custom.channel_id } ∷ []; custom = l })
            (sym (sixteen-map custom.channel_id (old.custom ++ job ∷ [])) ∙ ap (Rattle.pool_history.specs.Jobs.at_most_sixteen custom.channel_id) (map-append as_job old.custom (job ∷ [])));
        spans = refl;
        coinbases = λ all. all-three (HasCoinbase script) old.future old.live (without_surplus custom.channel_id (old.custom ++ job ∷ []))
            (all-left (HasCoinbase script) old.future old.live (all-left (HasCoinbase script) (old.future ++ old.live) old.custom all))
            (all-right (HasCoinbase script) old.future old.live (all-left (HasCoinbase script) (old.future ++ old.live) old.custom all))
            (all-within (HasCoinbase script) custom.channel_id (old.custom ++ job ∷ [])
            (all-append (HasCoinbase script) old.custom (job ∷ []) (all-right (HasCoinbase script) (old.future ++ old.live) old.custom all) (is, tt)));
      })

  joined-own : (channel : ℕ) (source : Source) → shelf_of source ≡ shelf.Own channel → coinbase ≡ job_parts source script
      → TakesMove script (move_of session at source) old
      (record {
        count = old.count + 1;
        own = old.own ++ record { number = old.count + 1; channel = channel } ∷ [];
        future = old.future;
        live = old.live;
        custom = without_surplus channel (old.custom ++ joining (old.count + 1) 0 at (Some at) source coinbase ∷ []);
        tip = old.tip;
        span = widened_by at old.span;
        room = room;
      })
  joined-own channel (FromMiner custom) place is = joined-custom channel custom (own-shelf custom.channel_id channel place) is
  joined-own channel (FromTemplate template) place is = absurd (template-shelf template.future_template channel place)

  -- the same of a plan and of what was put
  pub joins-future : (shown : JobTable) (source : Source) (jobs : List HeldJob) → old ≡ shown → shelf_of source ≡ shelf.Future
      → jobs ≡ last 16 (old.future ++ joining (old.count + 1) session at None source coinbase ∷ []) → coinbase ≡ job_parts source script
      → TakesMove script (move_of session at source) shown
      (record { count = old.count + 1; own = old.own; future = jobs; live = old.live; custom = old.custom; tip = old.tip; span = old.span; room = room })
  joins-future shown source jobs same place are is =
      subst (λ (table : JobTable). TakesMove script (move_of session at source) table
      (record { count = old.count + 1; own = old.own; future = jobs; live = old.live; custom = old.custom; tip = old.tip; span = old.span; room = room })) same
      (subst (λ l. TakesMove script (move_of session at source) old
      (record { count = old.count + 1; own = old.own; future = l; live = old.live; custom = old.custom; tip = old.tip; span = old.span; room = room }))
      (sym are) (joined-future source place is))

  pub joins-live : (shown : JobTable) (source : Source) (span : LiveSpan) (jobs : List HeldJob) → old ≡ shown → shelf_of source ≡ shelf.Live
      → span ≡ widened_by at old.span → jobs ≡ last 64 (old.live ++ joining (old.count + 1) session at (Some at) source coinbase ∷ []) → coinbase ≡ job_parts source script
      → TakesMove script (move_of session at source) shown
      (record { count = old.count + 1; own = old.own; future = old.future; live = jobs; custom = old.custom; tip = old.tip; span = span; room = room })
  joins-live shown source span jobs same place wide are is =
      subst (λ (table : JobTable). TakesMove script (move_of session at source) table
      (record { count = old.count + 1; own = old.own; future = old.future; live = jobs; custom = old.custom; tip = old.tip; span = span; room = room })) same
      (subst (λ l. TakesMove script (move_of session at source) old
      (record { count = old.count + 1; own = old.own; future = old.future; live = l; custom = old.custom; tip = old.tip; span = span; room = room }))
      (sym are)
      (subst (λ s. TakesMove script (move_of session at source) old
      (record {
        count = old.count + 1;
        own = old.own;
        future = old.future;
        live = last 64 (old.live ++ joining (old.count + 1) session at (Some at) source coinbase ∷ []);
        custom = old.custom;
        tip = old.tip;
        span = s;
        room = room;
      }))
      (sym wide) (joined-live source place is)))

  pub joins-own : (shown : JobTable) (channel : ℕ) (source : Source) (span : LiveSpan) (jobs : List HeldJob) (own : List OwnJob) → old ≡ shown → shelf_of source ≡ shelf.Own channel
      → span ≡ widened_by at old.span
      → jobs ≡ without_surplus channel (old.custom ++ joining (old.count + 1) 0 at (Some at) source coinbase ∷ [])
      → own ≡ old.own ++ record { number = old.count + 1; channel = channel } ∷ [] → coinbase ≡ job_parts source script
      → TakesMove script (move_of session at source) shown
      (record { count = old.count + 1; own = own; future = old.future; live = old.live; custom = jobs; tip = old.tip; span = span; room = room })
  joins-own shown channel source span jobs own same place wide are owners is =
      subst (λ (table : JobTable). TakesMove script (move_of session at source) table
      (record { count = old.count + 1; own = own; future = old.future; live = old.live; custom = jobs; tip = old.tip; span = span; room = room })) same
      (subst (λ l. TakesMove script (move_of session at source) old
      (record { count = old.count + 1; own = own; future = old.future; live = old.live; custom = l; tip = old.tip; span = span; room = room })) (sym are)
      (subst (λ o. TakesMove script (move_of session at source) old
      (record {
        count = old.count + 1;
        own = o;
        future = old.future;
        live = old.live;
        custom = without_surplus channel (old.custom ++ joining (old.count + 1) 0 at (Some at) source coinbase ∷ []);
        tip = old.tip;
        span = span;
        room = room;
      })) (sym owners)
      (subst (λ s. TakesMove script (move_of session at source) old
      (record {
        count = old.count + 1;
        own = old.own ++ record { number = old.count + 1; channel = channel } ∷ [];
        future = old.future;
        live = old.live;
        custom = without_surplus channel (old.custom ++ joining (old.count + 1) 0 at (Some at) source coinbase ∷ []);
        tip = old.tip;
        span = s;
        room = room;
      })) (sym wide) (joined-own channel source place is))))

-- a tip
turned-all : (P : HeldJob → Type 0) (at : ℕ) (o : Option HeldJob) → ((job : HeldJob) → o ≡ Some job → P (record job { live_at = Some at })) → AllByRecursion P (turned_live at o)
turned-all P at None all = tt
turned-all P at (Some job) all = (all job refl, tt)

tipped : (script : List ℕ) (old : JobTable) (room at : ℕ) (tip : TipData)
    → TakesMove script (Tipped at tip) old
    (record { count = old.count; own = old.own; future = []; live = turned_live at (of_template tip.template_id old.future); custom = []; tip = Some tip; span = record { oldest = at; newest = at }; room = room })
tipped script old room at tip = record {
  kept = ap (λ l. record (kept_jobs old) { future = []; live = l; custom = []; tip = Some tip })
      (sym (live-map at (of_template tip.template_id old.future)) ∙ ap (Rattle.pool_history.specs.Jobs.made_live at) (sym (future_in-map old.future tip.template_id)));
  spans = refl;
  coinbases = λ all. all-three (HasCoinbase script) [] (turned_live at (of_template tip.template_id old.future)) [] tt
      (turned-all (HasCoinbase script) at (of_template tip.template_id old.future)
      (λ job found. all-find (HasCoinbase script) (λ (held : HeldJob). has_template tip.template_id held.source) old.future job
      (all-left (HasCoinbase script) old.future old.live (all-left (HasCoinbase script) (old.future ++ old.live) old.custom all)) found)) tt;
}

pub takes-tip : (script : List ℕ) (shown old : JobTable) (room at : ℕ) (span : LiveSpan) (tip : TipData) (future live custom : List HeldJob) → shown ≡ old
    → span ≡ record { oldest = at; newest = at }
    → future ≡ [] → live ≡ turned_live at (of_template tip.template_id shown.future) → custom ≡ []
    → TakesMove script (Tipped at tip) old
    (record { count = shown.count; own = shown.own; future = future; live = live; custom = custom; tip = Some tip; span = span; room = room })
takes-tip script shown old room at span tip future live custom same is a b c =
    subst (λ (table : JobTable). TakesMove script (Tipped at tip) table (record { count = shown.count; own = shown.own; future = future; live = live; custom = custom; tip = Some tip; span = span; room = room })) same
    (subst (λ l. TakesMove script (Tipped at tip) shown (record { count = shown.count; own = shown.own; future = l; live = live; custom = custom; tip = Some tip; span = span; room = room })) (sym a)
    (subst (λ l. TakesMove script (Tipped at tip) shown (record { count = shown.count; own = shown.own; future = []; live = l; custom = custom; tip = Some tip; span = span; room = room })) (sym b)
    (subst (λ l. TakesMove script (Tipped at tip) shown (record { count = shown.count; own = shown.own; future = []; live = turned_live at (of_template tip.template_id shown.future); custom = l; tip = Some tip; span = span; room = room })) (sym c)
    (subst (λ s. TakesMove script (Tipped at tip) shown
    (record { count = shown.count; own = shown.own; future = []; live = turned_live at (of_template tip.template_id shown.future); custom = []; tip = Some tip; span = s; room = room })) (sym is)
    (tipped script shown room at tip)))))

-- a plan is applied to a table that is as it was, but for its room
pub takes-plan : (script : List ℕ) (session at : ℕ) (source : Source) (plan : PlannedJob) (old planned new : JobTable)
    → IsPlannedAs session at source script plan → IsSameButRoom old planned → AppliesPlan plan planned new
    → TakesMove script (move_of session at source) old new
takes-plan script session at source plan old planned new is same applies =
    let taken : TakesMove script (move_of plan.session plan.at plan.source) planned new = applies script (is.coinbase_is ∙ ap (λ s. job_parts s script) (sym is.source_is)) in
    let roomy : TakesMove script (move_of plan.session plan.at plan.source) (record planned { room = old.room }) new = record { kept = taken.kept; spans = taken.spans; coinbases = taken.coinbases } in
    subst (λ (table : JobTable). TakesMove script (move_of session at source) table new) same
    (subst (λ s. TakesMove script (move_of s at source) (record planned { room = old.room }) new) is.session_is
    (subst (λ a. TakesMove script (move_of plan.session a source) (record planned { room = old.room }) new) is.at_is
    (subst (λ s. TakesMove script (move_of plan.session plan.at s) (record planned { room = old.room }) new) is.source_is roomy)))
