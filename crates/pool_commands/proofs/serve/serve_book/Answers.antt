use Rattle.std.proofs.Common.{[], inl, inr, refl}
use Rattle.share_ledger.proofs.Recovering.{untold-recovers}
use Rattle.pool_history.specs.declared.refusals.BookError.TheVariants as fault
use Rattle.pool_commands.specs.Serving.{reached_seen}
use Rattle.pool_commands.proofs.serve.serve_book.Goals as goal

pub returns-in-Ok-new-clause-row : goal.returns-in-Ok-new-clause-row
returns-in-Ok-new-clause-row g c = inl (record {
  begun = c.in-Ok-new.book;
  reached = reached_seen c.serve_on_network-reached.result;
  begins = c.in-Ok-new.ensures.ok;
  kept = c.in-Ok-new.ensures.kept;
  unfailed = c.in-Ok-new.ensures.counts;
  serves = rw (c.text-feed.ensures.value, c.text-address.ensures.value, c.in-Ok.ensures) at c.serve_on_network-reached.ensures.served;
  finishes = c.finish.ensures.row;
})

pub returns-clause-row : goal.returns-clause-row
returns-clause-row g c = inr (record {
  cause = c.in-Err.cause;
  keeper_back = g.H.K.Keeper.seen c.in-Err.keeper;
  records = c.in-Err.ensures.refused;
  counts = c.in-Err.ensures.fault;
  back = record { streams = c.done_keeper-in-Err.ensures.streams; openings = c.done_keeper-in-Err.ensures.back };
  network = refl;
  answered = c.start_status-in-Err.ensures;
})

-- there was no memory for the terms
pub returns-in_default-clause-row : goal.returns-in_default-clause-row
returns-in_default-clause-row g c = inr (record {
  cause = fault.Memory;
  keeper_back = g.H.K.Keeper.seen c.args.keeper;
  records = refl;
  counts = refl;
  back = record { streams = c.done_keeper.ensures.streams; openings = c.done_keeper.ensures.back };
  network = refl;
  answered = c.start_status.ensures;
})

-- a host's keeper doesn't tell what is there for good
pub new-requires-clause-recovers : goal.new-requires-clause-recovers
new-requires-clause-recovers g c =
    untold-recovers [] (g.H.K.Keeper.seen c.args.keeper) (g.H.K.Keeper.may_find c.args.keeper) c.requires.untold
