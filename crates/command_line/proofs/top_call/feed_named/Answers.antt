use Rattle.command_line.proofs.top_call.feed_named.Goals as goal

pub returns-clause-row : goal.returns-clause-row
returns-clause-row g c = (
  record {
    script = c.text-script_name.result.now;
    address = c.text-address_text.result.now;
    spelled = rw (c.text-script_name.ensures, c.text-address_text.ensures) c.in-Some.ensures.found;
  },
  c.feed.ensures.row,
)
