-- What messages bring of jobs.
use Rattle.mining_msgs.specs.declared.jobs.SetNewPrevHash.{SetNewPrevHash}
use Rattle.mining_msgs.specs.declared.jobs.NewExtendedMiningJob.{NewExtendedMiningJob}
use Rattle.v1_translate.specs.Heard.{ToldJob, ToldTip}

-- a job's own part
abbrev pub job_in : NewExtendedMiningJob → ToldJob
job_in m =
    record {
      number = m.job_id;
      version = m.version;
      path = m.merkle_path.items.now;
      prefix = m.coinbase_tx_prefix.now;
      suffix = m.coinbase_tx_suffix.now;
    }

abbrev pub tip_in : SetNewPrevHash → ToldTip
tip_in m =
    record {
      job = m.job_id;
      prev_hash = m.prev_hash;
      min_ntime = m.min_ntime;
      nbits = m.nbits;
    }
