use Rattle.std.proofs.Common.{◌≡◌, List, subst, ◌∙◌}
use Rattle.proxy_rules.specs.State.{SentOn}
use Rattle.proxy_core.specs.Waiting.{AnswersRising}
use Rattle.proxy_core.proofs.Rising.{all_answered, popped_rest, popped_said, popped_stay}
use Rattle.proxy_core.proofs.waiting.answer_first.Goals as goal

pub loop-sent-preserved : goal.loop-sent-preserved
loop-sent-preserved c = record {
  rising = λ next rising. popped_stay c.pop_about.result c.loop-sent.waiting.items c.pop_about.new.waiting.items c.pop_about.ensures.popped next
      (c.loop-sent.invariant.rising next rising);
  rest = popped_rest c.args.verdict.now c.in-Some.sent c.loop-sent.waiting.items c.pop_about.new.waiting.items c.in-Some.ensures.popped c.in-Some.ensures.about
      ∙ c.loop-sent.invariant.rest;
  said = popped_said c.args.verdict.now c.in-Some.sent c.loop-sent.waiting.items c.pop_about.new.waiting.items c.loop-sent.miners.items c.say.new.miners.items
      c.in-Some.ensures.popped c.in-Some.ensures.about c.in_ok-say.ensures ∙ c.loop-sent.invariant.said;
}

pub returns-in_err-say-clause-rising : goal.returns-in_err-say-clause-rising
returns-in_err-say-clause-rising c = λ next rising.
    popped_stay c.pop_about.result c.loop-sent.waiting.items c.pop_about.new.waiting.items c.pop_about.ensures.popped next (c.loop-sent.invariant.rising next rising)

pub returns-clause-answers : goal.returns-clause-answers
returns-clause-answers c =
    let same : c.loop-sent.waiting.items ≡ c.pop_about.new.waiting.items = c.in_default.ensures.popped in
    subst (λ (left : List SentOn). AnswersRising c.args.verdict.now c.args.waiting.now.items c.args.miners.now.items left c.loop-sent.miners.items) same
    (all_answered c.args.verdict.now c.args.waiting.now.items c.loop-sent.waiting.items c.args.miners.now.items c.loop-sent.miners.items c.requires
    c.loop-sent.invariant.rising c.in_default.ensures.none c.loop-sent.invariant.rest c.loop-sent.invariant.said)
