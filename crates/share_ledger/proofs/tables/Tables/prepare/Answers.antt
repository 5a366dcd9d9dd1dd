use Rattle.std.proofs.Common.{sym, ◌∙◌, ◌≡◌, ap, subst}
use Rattle.event_store.specs.Kept.{KeptHistory}
use Rattle.share_ledger.proofs.Answering.{prepared_ready, prepared_step}
use Rattle.share_ledger.proofs.tables.Tables.prepare.Goals as goal

pub returns : goal.returns
returns c =
    record {
      same = ap (λ (k : KeptHistory). k.events) c.plan.ensures.same ∙ c.reserve.ensures.same;
      step = prepared_step c.args.self.now c.reserve.new.self c.plan.new.self c.args.worker c.args.request c.plan.result c.reserve.ensures.same
          c.plan.ensures.step;
      ready = prepared_ready c.args.self.now c.reserve.new.self c.plan.new.self c.args.worker c.args.request c.plan.result
          c.answers_can_be_kept.ensures c.are_kept.ensures.kept c.ranges.worker.fits c.request_fits.ensures c.reserve.ensures.same
          c.in_ok-reserve.ensures.room c.plan.ensures.same c.plan.ensures.step;
    }
