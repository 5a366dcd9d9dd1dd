-- The jobs that are kept whole: those that are future or live (this project's own).
use Rattle.std.specs.Prelude.{◌≡◌, ℕ, Bool, true, false, Option, None, Some, List}
use Rattle.coinbase.specs.Parts.{Parts}
use Rattle.pool_history.specs.Jobs.{FromMiner, FromTemplate, Job, Source}
use Rattle.pool_history.specs.Judging.{job_parts}
use Rattle.template_jobs.specs.declared.origin.Origin.{Origin}
use Rattle.template_jobs.specs.declared.origin.Origin.TheVariants as origin
use Rattle.template_jobs.specs.declared.origin.Shelf.{Shelf}
use Rattle.template_jobs.specs.declared.origin.Shelf.TheVariants as shelf

-- what a job is made from
abbrev pub source_of : Origin → Source
source_of (origin.Template template) = FromTemplate template
source_of (origin.Miner custom) = FromMiner custom

-- what a job is made from, and its coinbase
pub record JobContent : Type 0 where
  pub source : Source
  pub coinbase : Parts

-- it is made from this, with the pool's script
pub record IsContentOf (source : Source) (script : List ℕ) (content : JobContent) : Type 0 where
  pub source_is : content.source ≡ source
  pub coinbase_is : content.coinbase ≡ job_parts source script

-- a job that is kept whole: its number, the session that sent its template (0 for a miner's own),
-- the place of its event, the place since which it is live, and what it consists of
pub record HeldJob : Type 0 where
  pub number : ℕ
  pub session : ℕ
  pub at : ℕ
  pub live_at : Option ℕ
  pub source : Source
  pub coinbase : Parts

-- the job that is kept
abbrev pub as_job : HeldJob → Job
as_job held = record {
  number = held.number;
  session = held.session;
  at = held.at;
  live_at = held.live_at;
  source = held.source;
}

-- the id of a job's template, 0 for a miner's own
abbrev pub template_id_of : Source → ℕ
template_id_of (FromTemplate template) = template.template_id
template_id_of (FromMiner custom) = 0

-- the channel that a miner's own job is for, and the least time that it says
abbrev pub channel_of : Source → Option ℕ
channel_of (FromTemplate template) = None
channel_of (FromMiner custom) = Some custom.channel_id

abbrev pub own_min_ntime : Source → Option ℕ
own_min_ntime (FromTemplate template) = None
own_min_ntime (FromMiner custom) = Some custom.min_ntime

-- a job's coinbase is that of what it is made from, with the pool's script
abbrev pub HasCoinbase : List ℕ → HeldJob → Type 0
HasCoinbase script held = held.coinbase ≡ job_parts held.source script

-- the list that a job joins
abbrev pub shelf_if : Bool → Shelf
shelf_if true = shelf.Future
shelf_if false = shelf.Live

abbrev pub shelf_of : Source → Shelf
shelf_of (FromTemplate template) = shelf_if template.future_template
shelf_of (FromMiner custom) = shelf.Own custom.channel_id
