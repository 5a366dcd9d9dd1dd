use Rattle.std.proofs.Common.{refl}
use Rattle.pool_history.specs.Judging.{share_of}
use Rattle.pool_history.specs.Sessions.{script_of}
use Rattle.pool_tables.specs.Admission.{admitted_on, mined_on}
use Rattle.pool_tables.proofs.Admitting.{admitted, admitted-as, refused-channel, refused-mined, refused-rolled, told-for}
use Rattle.pool_tables.proofs.admission.admit.Goals as goal

pub returns-in-Err-clause-refused : goal.returns-in-Err-clause-refused
returns-in-Err-clause-refused c past shows =
    refused-channel c.args.channels.now c.args.jobs.now past shows c.args.rules.now c.args.session (share_of c.args.sub.now) c.in-Err.code
    c.in-Err.ensures.refused

pub returns-in-Err-mined_job-clause-refused : goal.returns-in-Err-mined_job-clause-refused
returns-in-Err-mined_job-clause-refused c past shows =
    let found = c.in-Ok.ensures.found in
    refused-mined c.args.channels.now c.args.jobs.now past shows c.args.rules.now c.args.session (share_of c.args.sub.now) found.0 c.in-Err-mined_job.code
    found.1 c.in-Err-mined_job.ensures.refused

pub returns-in-Some-clause-refused : goal.returns-in-Some-clause-refused
returns-in-Some-clause-refused c past shows =
    let found = c.in-Ok.ensures.found in
    refused-rolled c.args.channels.now c.args.jobs.now past shows c.args.rules.now c.args.session (share_of c.args.sub.now) found.0 _ c.in-Some.code
    found.1 c.in-Ok-mined_job.ensures.found c.in-Some.ensures.some

pub returns-clause-admitted : goal.returns-clause-admitted
returns-clause-admitted c past shows =
    let found = c.in-Ok.ensures.found in
    let told = told-for c.args.channels.now c.args.jobs.now past shows c.args.rules.now c.args.session (share_of c.args.sub.now) found.0 found.1 in (
      admitted_on told.told (mined_on c.in-Ok-mined_job.mined.job.now c.in-Ok-mined_job.mined.live_at c.in-Ok-mined_job.mined.tip.now),
      admitted c.args.channels.now c.args.jobs.now past shows c.args.rules.now c.args.session (share_of c.args.sub.now) told.told _
          told.is c.in-Ok-mined_job.ensures.found (c.in_default.ensures.none refl),
      admitted-as c.args.channels.now c.args.jobs.now past shows c.args.rules.now c.args.session (share_of c.args.sub.now) found.0 told.told
          c.in-Ok.channel.now c.in-Ok-mined_job.mined.job.now c.in-Ok-mined_job.mined.live_at c.in-Ok-mined_job.mined.tip.now c.in-Some-class_at.class
          found.1 told.answers found.2 c.in-Ok-mined_job.ensures.found (c.in-Ok-mined_job.ensures.coinbase (script_of past) shows.coinbases) c.in-Some-class_at.ensures,
    )
