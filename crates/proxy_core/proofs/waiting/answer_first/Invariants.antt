use Rattle.std.proofs.Common.{◌≡◌, not, length}
use Rattle.std.specs.List.{filter}
use Rattle.proxy_core.specs.Verdicts.{is_about, said_by}
use Rattle.proxy_core.specs.Waiting.{StayRising}
use Rattle.proxy_rules.specs.Steps.{said_each}
use Rattle.proxy_core.proofs.waiting.answer_first.Given as goal

abbrev pub invariant-loop-sent : goal.invariant-loop-sent
invariant-loop-sent l = record {
  rising : StayRising l.fn.waiting.items l.waiting.items;
  rest : filter (λ sent. not (is_about l.verdict sent)) l.waiting.items ≡ filter (λ sent. not (is_about l.verdict sent)) l.fn.waiting.items;
  said : said_each (said_by l.verdict) (filter (is_about l.verdict) l.waiting.items) l.miners.items
      ≡ said_each (said_by l.verdict) (filter (is_about l.verdict) l.fn.waiting.items) l.fn.miners.items;
}

abbrev pub decreases-loop-sent : goal.decreases-loop-sent
decreases-loop-sent l = length l.waiting.items
