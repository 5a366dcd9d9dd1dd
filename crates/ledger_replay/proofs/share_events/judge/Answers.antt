use Rattle.std.proofs.Common.{ap, ◌∙◌}
use Rattle.channels.specs.Tables.{KeptChannel}
use Rattle.pool_history.specs.Judging.{share_of}
use Rattle.pool_history.specs.Sessions.{script_of}
use Rattle.ledger_replay.proofs.SharesJudged.{header-rebuilt, passed, refused-early, refused-late}
use Rattle.ledger_replay.proofs.share_events.judge.Goals as goal

pub returns-in-Err-clause-refused : goal.returns-in-Err-clause-refused
returns-in-Err-clause-refused c past shows =
    refused-early c.args.rules.now past c.args.session (share_of c.args.sub.now) c.in-Err.code (c.in-Err.ensures.refused past shows.shown)

pub returns-in-Ok-pass-clause-passed : goal.returns-in-Ok-pass-clause-passed
returns-in-Ok-pass-clause-passed c past shows =
    let found = c.in-Ok.ensures.admitted past shows.shown in
    let rebuilt = header-rebuilt c.checked_headers_are_rebuilt.ensures c.args.rules.now past c.args.sub.now found.0 c.parts.result c.header_of.result.0
    shows.rules_are (c.parts.ensures.given (script_of past) found.0 found.2) c.header_of.ensures.header in
    passed c.args.rules.now past c.args.session (share_of c.args.sub.now) found.0 c.header_of.result.0 c.text.result.now c.in-Ok-pass.passed
    found.1 rebuilt (c.in-Ok-pass.ensures.passes (script_of past) past found.0 found.2 shows.headers_are shows.count_is)
    (c.text.ensures.value ∙ ap (λ (k : KeptChannel). k.account) found.2.channel_is)

pub returns-in-Err-pass-clause-refused : goal.returns-in-Err-pass-clause-refused
returns-in-Err-pass-clause-refused c past shows =
    let found = c.in-Ok.ensures.admitted past shows.shown in
    let rebuilt = header-rebuilt c.checked_headers_are_rebuilt.ensures c.args.rules.now past c.args.sub.now found.0 c.parts.result c.header_of.result.0
    shows.rules_are (c.parts.ensures.given (script_of past) found.0 found.2) c.header_of.ensures.header in
    refused-late c.args.rules.now past c.args.session (share_of c.args.sub.now) found.0 c.header_of.result.0 c.in-Err-pass.code
    found.1 rebuilt (c.in-Err-pass.ensures.passes (script_of past) past found.0 found.2 shows.headers_are shows.count_is)
