-- How a miner goes on from frame to frame (this project's own).
use Rattle.std.specs.Prelude.{ℕ, ◌+◌, ◌^◌, ◌==◌, ◌&&◌, ◌||◌, Bool, true, false, if◌then◌else◌, nat_le, is_some, is_none, Option, None, Some, List, [], ◌∷◌, ◌++◌, reverse, find}
use Rattle.mining_msgs.specs.declared.jobs.NewMiningJob.{NewMiningJob}
use Rattle.mining_msgs.specs.declared.jobs.SetNewPrevHash.{SetNewPrevHash}
use Rattle.test_miner.specs.declared.course.MinerEnd.TheVariants.{Mined, Ended}
use Rattle.test_miner.specs.declared.notice.Notice.{Notice}
use Rattle.test_miner.specs.declared.notice.Notice.TheVariants.{SetUp, Refused, Opened, Job, Tip, Credited, Rejected, NoMessage, Other}
use Rattle.test_miner.specs.declared.trying.CurrentJob.{CurrentJob}
use Rattle.test_miner.specs.declared.trying.MinedShare.{MinedShare}
use Rattle.test_miner.specs.declared.trying.Try.{Try}
use Rattle.test_miner.specs.States.{MinerState}
use Rattle.test_miner.specs.Trying.{first_meeting}

-- a miner that has heard nothing
abbrev pub new_state : ℕ → MinerState
new_state wanted = record {
  is_set_up = false;
  channel = None;
  jobs = [];
  tip = None;
  current = None;
  next_try = None;
  submitted = 0;
  waiting = None;
  credited = 0;
  wanted = wanted;
  end = None;
}

-- it is this number
abbrev pub is_number : ℕ → Option ℕ → Bool
is_number number None = false
is_number number (Some other) = other == number

-- the run ends, where it hasn't ended before
abbrev pub cut_off : MinerState → MinerState
cut_off state =
    if is_none state.end then record state { end = Some (Ended state.credited) } else state

-- the connection is accepted, with version 2 alone
abbrev pub set_up : ℕ → MinerState → MinerState
set_up version state = if version == 2 then record state { is_set_up = true } else cut_off state

-- the request 1 has opened the channel; the first one counts
abbrev pub open_channel : ℕ → ℕ → MinerState → MinerState
open_channel request channel state =
    if state.is_set_up && (request == 1 && is_none state.channel)
    then record state { channel = Some channel }
    else state

-- the tries begin on a job, on a tip, from a time on
abbrev pub with_current : NewMiningJob → SetNewPrevHash → ℕ → MinerState → MinerState
with_current job tip min_ntime state = record state {
  current = Some (record {
    job = job;
    prev_hash = tip.prev_hash;
    nbits = tip.nbits;
    min_ntime = min_ntime;
  });
  next_try = Some (record { ntime = min_ntime; nonce = 0 });
}

-- a job with a time is the current one from now on, where there is a tip
abbrev pub with_job : Option ℕ → Option SetNewPrevHash → NewMiningJob → MinerState → MinerState
with_job (Some min_ntime) (Some tip) job state = with_current job tip min_ntime state
with_job (Some min_ntime) None job state = state
with_job None tip job state = state

-- a job of the channel was sent
abbrev pub job_taken : NewMiningJob → MinerState → MinerState
job_taken job state =
    if is_number job.channel_id state.channel
    then with_job job.min_ntime state.tip job (record state { jobs = state.jobs ++ job ∷ [] })
    else state

-- the last job with this id
abbrev pub job_named : ℕ → List NewMiningJob → Option NewMiningJob
job_named id jobs = find (λ job. job.job_id == id) (reverse jobs)

-- the job that a tip names is the current one from now on; where it wasn't sent, there is none
abbrev pub with_named : Option NewMiningJob → SetNewPrevHash → MinerState → MinerState
with_named (Some job) tip state = with_current job tip tip.min_ntime state
with_named None tip state = record state { current = None; next_try = None }

-- a tip of the channel was sent
abbrev pub tip_taken : SetNewPrevHash → MinerState → MinerState
tip_taken tip state =
    if is_number tip.channel_id state.channel
    then with_named (job_named tip.job_id state.jobs) tip (record state { tip = Some tip })
    else state

-- the submission that waits has this number and is the channel's
abbrev pub is_answered : ℕ → ℕ → MinerState → Bool
is_answered channel number state =
    is_number channel state.channel && is_number number state.waiting

-- one more is credited; with the last one that is wanted the run ends
abbrev pub credited_once : MinerState → MinerState
credited_once state = record state {
  waiting = None;
  credited = state.credited + 1;
  end = if state.credited + 1 == state.wanted then Some (Mined (state.credited + 1)) else state.end;
}

-- a submission is credited
abbrev pub credit : ℕ → ℕ → MinerState → MinerState
credit channel number state =
    if is_answered channel number state then credited_once state else state

-- a submission is refused
abbrev pub reject : ℕ → ℕ → MinerState → MinerState
reject channel number state =
    if is_answered channel number state then record state { waiting = None } else state

-- what a frame says is heard
abbrev pub hear_next : Notice → MinerState → MinerState
hear_next (SetUp version) state = set_up version state
hear_next Refused state = cut_off state
hear_next (Opened request channel) state = open_channel request channel state
hear_next (Job job) state = job_taken job state
hear_next (Tip tip) state = tip_taken tip state
hear_next (Credited channel number) state = credit channel number state
hear_next (Rejected channel number) state = reject channel number state
hear_next NoMessage state = cut_off state
hear_next Other state = state

-- the same; after the end nothing is heard
abbrev pub hear : Notice → MinerState → MinerState
hear notice state = if is_some state.end then state else hear_next notice state

-- the job to make tries on: the current one, where no submission waits and a number is left
abbrev pub due : MinerState → Option CurrentJob
due state =
    if is_some state.end || (is_some state.waiting || nat_le (2 ^ 32) state.submitted) then None
    else state.current

-- the share that was found
abbrev pub share_at : CurrentJob → Option Try → ℕ → Option MinedShare
share_at current None number = None
share_at current (Some at) number = Some (record { job = current; at = at; number = number })

-- the state after tries: a share that was found waits
abbrev pub with_tries : Option Try → Option Try → MinerState → MinerState
with_tries None next state = record state { next_try = next }
with_tries (Some at) next state = record state {
  next_try = next;
  waiting = Some state.submitted;
  submitted = state.submitted + 1;
}

-- tries on a job that is due
abbrev pub share_on : Option CurrentJob → ℕ → ℕ → MinerState → Option MinedShare
share_on None class tries state = None
share_on (Some current) class tries state =
    share_at current (first_meeting class current tries state.next_try).found state.submitted

abbrev pub tried_on : Option CurrentJob → ℕ → ℕ → MinerState → MinerState
tried_on None class tries state = state
tried_on (Some current) class tries state =
    let made = first_meeting class current tries state.next_try in
    with_tries made.found made.next state

-- the share that the next tries find, and the state behind them
abbrev pub share_found : ℕ → ℕ → MinerState → Option MinedShare
share_found class tries state = share_on (due state) class tries state

abbrev pub tries_made : ℕ → ℕ → MinerState → MinerState
tries_made class tries state = tried_on (due state) class tries state
