use Rattle.std.proofs.Common.{◌≡◌, ℕ, IfOk, ap, map, subst, ◌∙◌}
use Rattle.v1_translate.specs.Heard.{Tipped}
use Rattle.proxy_rules.specs.Jobs.{future_told, job_told, only, without}
use Rattle.proxy_rules.specs.Miners.{told_all}
use Rattle.proxy_core.proofs.Held.{over_told}
use Rattle.proxy_core.proofs.subscribing.tell_over.Goals as goal

pub returns : goal.returns
returns c =
    let Others : ℕ → Type 0 = λ n. IfOk c.tell_others.result (λ done. c.tell_others.new.miner
    ≡ told_all c.args.terms.now (map job_told (without n c.args.held.now)) c.tell.new.self) in
    over_told c.tell_others.result c.args.terms.now (map future_told (only c.args.tip.now.job c.args.held.now))
    (map job_told (without c.args.tip.now.job c.args.held.now)) (Tipped c.args.tip.now) _ c.args.miner.now c.tell_future.new.miner c.tell.new.self
    c.tell_others.new.miner
    (c.in_ok-tell_future.ensures ∙ ap (λ n. told_all c.args.terms.now (map future_told (only n c.args.held.now)) c.args.miner.now) c.job-number.ensures)
    c.message.ensures c.in_ok-tell.ensures (subst Others c.job-number.ensures c.tell_others.ensures)
