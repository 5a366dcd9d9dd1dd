use Rattle.std.proofs.Common.{ap, length, take, ◌∙◌}
use Rattle.ledger_replay.specs.Shares.{share_after}
use Rattle.ledger_replay.proofs.share_events.submission_of.Goals as goal

pub returns : goal.returns
returns c past standard =
    ap (λ b. record (share_after past c.args.share.now) { is_standard = b; extranonce = take (length c.args.share.now.extranonce.now) c.padded.result }) standard
    ∙ ap (λ e. record (share_after past c.args.share.now) { extranonce = e }) c.padded.ensures
