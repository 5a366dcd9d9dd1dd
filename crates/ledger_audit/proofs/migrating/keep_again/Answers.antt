use Rattle.std.proofs.Common.{◌∙◌, ap, inl, refl}
use Rattle.ledger_audit.proofs.migrating.keep_again.Goals as goal

pub returns-in-Ok-kept-clause-row : goal.returns-in-Ok-kept-clause-row
returns-in-Ok-kept-clause-row g c = inl (record {
  given = g.H.Host.seen c.open_keeper.new.self;
  keeper_given = g.H.K.Keeper.seen c.in-Ok.keeper;
  keeper_back = g.H.K.Keeper.seen c.append_ledger-kept.new.keeper;
  opened = record {
    streams = c.in-Ok.ensures.stays ∙ ap (λ n. record (g.H.Host.seen c.args.host.now).streams { faults = n }) c.in-Ok.ensures.counts;
    openings = c.in-Ok.ensures.called;
    unused = c.in-Ok.ensures.empty;
    new_file = c.in-Ok.ensures.new;
    unfailed = c.in-Ok.ensures.fresh;
    untold = c.in-Ok.ensures.untold;
  };
  streams = c.done_keeper.ensures.streams;
  openings = c.done_keeper.ensures.back;
  result = c.append_ledger-kept.result;
  kept = c.append_ledger-kept.ensures.kept;
  counts = rw c.in-Ok.ensures.fresh at c.append_ledger-kept.ensures.counts;
  answers = rw c.in-Ok-kept.is c.put_count.ensures;
})

pub returns-in-Err-kept-clause-row : goal.returns-in-Err-kept-clause-row
returns-in-Err-kept-clause-row g c = inl (record {
  given = g.H.Host.seen c.open_keeper.new.self;
  keeper_given = g.H.K.Keeper.seen c.in-Ok.keeper;
  keeper_back = g.H.K.Keeper.seen c.append_ledger-kept.new.keeper;
  opened = record {
    streams = c.in-Ok.ensures.stays ∙ ap (λ n. record (g.H.Host.seen c.args.host.now).streams { faults = n }) c.in-Ok.ensures.counts;
    openings = c.in-Ok.ensures.called;
    unused = c.in-Ok.ensures.empty;
    new_file = c.in-Ok.ensures.new;
    unfailed = c.in-Ok.ensures.fresh;
    untold = c.in-Ok.ensures.untold;
  };
  streams = c.done_keeper.ensures.streams;
  openings = c.done_keeper.ensures.back;
  result = c.append_ledger-kept.result;
  kept = c.append_ledger-kept.ensures.kept;
  counts = rw c.in-Ok.ensures.fresh at c.append_ledger-kept.ensures.counts;
  answers = rw c.in-Err-kept.is (c.keeper_status.ensures, refl);
})
