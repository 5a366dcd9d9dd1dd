use Rattle.pool_commands.proofs.serve.finish.Goals as goal

pub returns-in-Ran-clause-row : goal.returns-in-Ran-clause-row
returns-in-Ran-clause-row g c = rw c.in-Ran.is (
  c.print_report-printed.result,
  c.served_status.ensures,
  record {
    middle = g.H.Host.seen c.print_report-printed.new.host;
    prints = c.print_report-printed.ensures;
    back = record {
      streams = c.done_keeper.ensures.streams;
      openings = rw (← c.into_parts-keeper.ensures.keeper) c.done_keeper.ensures.back;
    };
  },
)
