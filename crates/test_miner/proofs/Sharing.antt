-- What stays true of a miner and of its shares from frame to frame and from turn to turn.
use Rattle.std.proofs.Common.{◌≡◌, ℕ, zero, suc, ◌+◌, ◌≤◌, ◌^◌, ◌==◌, Bool, true, false, if◌then◌else◌, Option, None, Some, List, [], ◌∷◌, ◌++◌, length, refl, sym, ap, ◌∙◌, subst, arith}
use Rattle.std.specs.Prelude.{◌&&◌, ◌||◌, is_none, is_some, nat_le}
use Rattle.std.proofs.lemmas.Bool.{eqb-true, leb-true}
use Rattle.block_header.specs.Hash.{dsha, meets, zero_bits}
use Rattle.sv2_frames.specs.declared.running.RunEnd.{RunEnd}
use Rattle.sv2_frames.specs.declared.running.RunEnd.TheVariants.{Done, Stopped, TooLong}
use Rattle.sv2_frames.specs.Framing.{FrameValue}
use Rattle.mining_msgs.specs.declared.jobs.NewMiningJob.{NewMiningJob}
use Rattle.mining_msgs.specs.declared.jobs.SetNewPrevHash.{SetNewPrevHash}
use Rattle.test_miner.specs.declared.course.MinerEnd.{MinerEnd}
use Rattle.test_miner.specs.declared.course.MinerEnd.TheVariants.{Mined, Ended}
use Rattle.test_miner.specs.declared.miner.MinerTask.{MinerTask}
use Rattle.test_miner.specs.declared.notice.Notice.{Notice}
use Rattle.test_miner.specs.declared.notice.Notice.TheVariants.{SetUp, Refused, Opened, Job, Tip, Credited, Rejected, NoMessage, Other}
use Rattle.test_miner.specs.declared.trying.CurrentJob.{CurrentJob}
use Rattle.test_miner.specs.declared.trying.MinedShare.{MinedShare}
use Rattle.test_miner.specs.declared.trying.Try.{Try}
use Rattle.test_miner.specs.Bounds.{tries_a_turn}
use Rattle.test_miner.specs.Courses.{credit, credited_once, cut_off, due, hear, hear_next, is_number, job_named, job_taken, open_channel, reject, set_up, share_at, share_on, tip_taken, tried_on, with_job, with_named, with_tries}
use Rattle.test_miner.specs.Hearings.{Hearing, Frames, NoMore, hear_all}
use Rattle.test_miner.specs.Laws.{Answered, AreNumbered, EndsTellCredits, MeetClass, OneShareWaits, SharesAreNumbered, SharesMeetClass, TellsCredits, answered, answered_by, answered_by_all, is_among, shares, waits_too, with_share, without}
use Rattle.test_miner.specs.Miners.{after, closed, next, share_in}
use Rattle.test_miner.specs.Notices.{notice_in}
use Rattle.test_miner.specs.States.{MinerState}
use Rattle.test_miner.specs.Trying.{first_meeting, following, header_tried, is_met}

-- the tries find what meets the class
abbrev FoundMeets : ℕ → CurrentJob → Option Try → Type 0
FoundMeets class current None = Unit {0}
FoundMeets class current (Some at) = is_met class current at ≡ true

found_meets : (class : ℕ) (current : CurrentJob) (tries : ℕ) (from : Option Try) → FoundMeets class current (first_meeting class current tries from).found
unfolding first_meeting
found_meets class current zero from = tt
found_meets class current (suc tries) None = tt
found_meets class current (suc tries) (Some at) =
    by_test (is_met class current at) refl (found_meets class current tries (following at))
  where
    by_test : (met : Bool) → is_met class current at ≡ met → FoundMeets class current (first_meeting class current tries (following at)).found
        → FoundMeets class current (if met then record { found = Some at; next = following at } else first_meeting class current tries (following at)).found
    by_test true is later = is
    by_test false is later = later

-- what a share that was found is
share_meets : (class : ℕ) (current : CurrentJob) (found : Option Try) (number : ℕ) (older : List MinedShare) → FoundMeets class current found → MeetClass class older
    → MeetClass class (with_share (share_at current found number) older)
share_meets class current None number older meets rest = rest
share_meets class current (Some at) number older meets rest = (le_from (zero_bits (dsha (header_tried current at))) class meets, rest)
  where
    le_from : (m n : ℕ) → nat_le n m ≡ true → n ≤ m
    le_from m n is = leb-true n m is

shares_meet_on : (job : Option CurrentJob) (class tries : ℕ) (state : MinerState) (older : List MinedShare) → MeetClass class older
    → MeetClass class (with_share (share_on job class tries state) older)
shares_meet_on None class tries state older rest = rest
shares_meet_on (Some current) class tries state older rest =
    share_meets class current (first_meeting class current tries state.next_try).found state.submitted older (found_meets class current tries state.next_try) rest

shares_meet_in : (task : MinerTask) (end : RunEnd) (state : MinerState) (older : List MinedShare) → MeetClass task.class older
    → MeetClass task.class (with_share (share_in task end state) older)
shares_meet_in task Done state older rest = shares_meet_on (due state) task.class tries_a_turn state older rest
shares_meet_in task Stopped state older rest = rest
shares_meet_in task (TooLong len) state older rest = rest

pub meet_class : SharesMeetClass
meet_class task [] = tt
meet_class task (Frames frames end ∷ past) = shares_meet_in task end (hear_all frames (after task past)) (shares task past) (meet_class task past)
meet_class task (NoMore rest ∷ past) = meet_class task past

-- the numbers that wait
abbrev waiting_numbers : Option ℕ → List ℕ
waiting_numbers None = []
waiting_numbers (Some number) = number ∷ []

-- an end tells the credits of the state
abbrev TellsState : Option MinerEnd → ℕ → ℕ → Type 0
TellsState None credited wanted = Unit {0}
TellsState (Some (Mined count)) credited wanted = (count ≡ wanted) × (credited ≡ count)
TellsState (Some (Ended count)) credited wanted = credited ≡ count

-- what a state knows of the answers
record Knows (state : MinerState) (answers : Answered) (submitted wanted : ℕ) : Type 0 where
  waits : answers.waits ≡ waiting_numbers state.waiting
  credited : length answers.credited ≡ state.credited
  ends : TellsState state.end state.credited wanted
  submitted_so : state.submitted ≡ submitted
  wanted_so : state.wanted ≡ wanted

-- nothing changes but what isn't said here
record SameSoFar (old new : MinerState) : Type 0 where
  waiting : new.waiting ≡ old.waiting
  credits : new.credited ≡ old.credited
  submits : new.submitted ≡ old.submitted
  wants : new.wanted ≡ old.wanted
  ends : new.end ≡ old.end

same_state : (state : MinerState) → SameSoFar state state
same_state state = record { waiting = refl; credits = refl; submits = refl; wants = refl; ends = refl }

same_by : (b : Bool) (old x y : MinerState) → SameSoFar old x → SameSoFar old y → SameSoFar old (if b then x else y)
same_by true old x y first second = first
same_by false old x y first second = second

knows_same : (old new : MinerState) (answers : Answered) (submitted wanted : ℕ) → Knows old answers submitted wanted → SameSoFar old new → Knows new answers submitted wanted
knows_same old new answers submitted wanted knows same = record {
  waits = knows.waits ∙ sym (ap (λ (w : Option ℕ). waiting_numbers w) same.waiting);
  credited = knows.credited ∙ sym same.credits;
  ends = rw (same.ends, same.credits) knows.ends;
  submitted_so = same.submits ∙ knows.submitted_so;
  wanted_so = same.wants ∙ knows.wanted_so;
}

same_named : (named : Option NewMiningJob) (tip : SetNewPrevHash) (old : MinerState) → SameSoFar old (with_named named tip (record old { tip = Some tip }))
same_named None tip old = record { waiting = refl; credits = refl; submits = refl; wants = refl; ends = refl }
same_named (Some job) tip old = record { waiting = refl; credits = refl; submits = refl; wants = refl; ends = refl }

same_job : (min_ntime : Option ℕ) (tip : Option SetNewPrevHash) (job : NewMiningJob) (jobs : List NewMiningJob) (old : MinerState)
    → SameSoFar old (with_job min_ntime tip job (record old { jobs = jobs }))
same_job None tip job jobs old = record { waiting = refl; credits = refl; submits = refl; wants = refl; ends = refl }
same_job (Some min_ntime) None job jobs old = record { waiting = refl; credits = refl; submits = refl; wants = refl; ends = refl }
same_job (Some min_ntime) (Some tip) job jobs old = record { waiting = refl; credits = refl; submits = refl; wants = refl; ends = refl }

-- an end before the count
knows_cut : (state : MinerState) (answers : Answered) (submitted wanted : ℕ) → Knows state answers submitted wanted → Knows (cut_off state) answers submitted wanted
knows_cut state answers submitted wanted knows = by_end state.end refl
  where
    by_end : (end : Option MinerEnd) → state.end ≡ end
        → Knows (if is_none end then record state { end = Some (Ended state.credited) } else state) answers submitted wanted
    by_end None is = record { waits = knows.waits; credited = knows.credited; ends = refl; submitted_so = knows.submitted_so; wanted_so = knows.wanted_so }
    by_end (Some end) is = knows

knows_set_up : (version : ℕ) (state : MinerState) (answers : Answered) (submitted wanted : ℕ) → Knows state answers submitted wanted → Knows (set_up version state) answers submitted wanted
knows_set_up version state answers submitted wanted knows = by_version (version == 2)
  where
    by_version : (is_two : Bool) → Knows (if is_two then record state { is_set_up = true } else cut_off state) answers submitted wanted
    by_version true = record { waits = knows.waits; credited = knows.credited; ends = knows.ends; submitted_so = knows.submitted_so; wanted_so = knows.wanted_so }
    by_version false = knows_cut state answers submitted wanted knows

-- a number waits where it is the one that waits
among_waiting : (number : ℕ) (waiting : Option ℕ) → is_among number (waiting_numbers waiting) ≡ is_number number waiting
among_waiting number None = refl
among_waiting number (Some other) = by_same (other == number)
  where
    by_same : (same : Bool) → (same || false) ≡ same
    by_same true = refl
    by_same false = refl

none_waits : (number : ℕ) (waiting : Option ℕ) → is_number number waiting ≡ true → without number (waiting_numbers waiting) ≡ []
none_waits number None is = refl
none_waits number (Some other) is = rw is refl

still_waits : (number : ℕ) (waiting : Option ℕ) → is_number number waiting ≡ false → without number (waiting_numbers waiting) ≡ waiting_numbers waiting
still_waits number None is = refl
still_waits number (Some other) is = rw is refl

-- a Success of the channel
knows_credit : (channel number : ℕ) (state : MinerState) (answers : Answered) (submitted wanted : ℕ) → state.end ≡ None → Knows state answers submitted wanted
    → Knows (credit channel number state) (answered_by (Credited channel number) state answers) submitted wanted
knows_credit channel number state answers submitted wanted unended knows =
    by_channel (is_number channel state.channel) (is_among number answers.waits) (is_number number state.waiting) refl
    (ap (λ (w : List ℕ). is_among number w) knows.waits ∙ among_waiting number state.waiting)
  where
    by_wanted : (last : Bool) → (state.credited + 1 == state.wanted) ≡ last → TellsState (if last then Some (Mined (state.credited + 1)) else state.end) (state.credited + 1) wanted
    by_wanted true is = (eqb-true (state.credited + 1) state.wanted is ∙ knows.wanted_so, refl)
    by_wanted false is = rw unended tt

    by_channel : (own among waits : Bool) → is_number number state.waiting ≡ waits → among ≡ waits
        → Knows (if own && waits then credited_once state else state)
        (if own then (if among then record { waits = without number answers.waits; credited = number ∷ answers.credited } else answers) else answers) submitted wanted
    by_channel false among waits is same = knows
    by_channel true true true is same = record {
      waits = ap (λ (w : List ℕ). without number w) knows.waits ∙ none_waits number state.waiting is;
      credited = omega (arith, knows.credited);
      ends = by_wanted (state.credited + 1 == state.wanted) refl;
      submitted_so = knows.submitted_so;
      wanted_so = knows.wanted_so;
    }
    by_channel true false false is same = knows
    by_channel true true false is same = absurd cc
    by_channel true false true is same = absurd cc

-- an Error of the channel
knows_reject : (channel number : ℕ) (state : MinerState) (answers : Answered) (submitted wanted : ℕ) → Knows state answers submitted wanted
    → Knows (reject channel number state) (answered_by (Rejected channel number) state answers) submitted wanted
knows_reject channel number state answers submitted wanted knows =
    by_channel (is_number channel state.channel) (is_number number state.waiting) refl
  where
    by_channel : (own waits : Bool) → is_number number state.waiting ≡ waits
        → Knows (if own && waits then record state { waiting = None } else state) (if own then record answers { waits = without number answers.waits } else answers) submitted wanted
    by_channel false waits is = knows
    by_channel true true is = record {
      waits = ap (λ (w : List ℕ). without number w) knows.waits ∙ none_waits number state.waiting is;
      credited = knows.credited;
      ends = knows.ends;
      submitted_so = knows.submitted_so;
      wanted_so = knows.wanted_so;
    }
    by_channel true false is = record {
      waits = ap (λ (w : List ℕ). without number w) knows.waits ∙ still_waits number state.waiting is;
      credited = knows.credited;
      ends = knows.ends;
      submitted_so = knows.submitted_so;
      wanted_so = knows.wanted_so;
    }

-- a notice before the end
knows_next : (notice : Notice) (state : MinerState) (answers : Answered) (submitted wanted : ℕ) → state.end ≡ None → Knows state answers submitted wanted
    → Knows (hear_next notice state) (answered_by notice state answers) submitted wanted
knows_next (SetUp version) state answers submitted wanted unended knows = knows_set_up version state answers submitted wanted knows
knows_next Refused state answers submitted wanted unended knows = knows_cut state answers submitted wanted knows
knows_next (Opened request channel) state answers submitted wanted unended knows =
    knows_same state (open_channel request channel state) answers submitted wanted knows
    (same_by (state.is_set_up && (request == 1 && is_none state.channel)) state (record state { channel = Some channel }) state
    (record { waiting = refl; credits = refl; submits = refl; wants = refl; ends = refl }) (same_state state))
knows_next (Job job) state answers submitted wanted unended knows =
    knows_same state (job_taken job state) answers submitted wanted knows
    (same_by (is_number job.channel_id state.channel) state (with_job job.min_ntime state.tip job (record state { jobs = state.jobs ++ job ∷ [] })) state
    (same_job job.min_ntime state.tip job (state.jobs ++ job ∷ []) state) (same_state state))
knows_next (Tip tip) state answers submitted wanted unended knows =
    knows_same state (tip_taken tip state) answers submitted wanted knows
    (same_by (is_number tip.channel_id state.channel) state (with_named (job_named tip.job_id state.jobs) tip (record state { tip = Some tip })) state
    (same_named (job_named tip.job_id state.jobs) tip state) (same_state state))
knows_next (Credited channel number) state answers submitted wanted unended knows = knows_credit channel number state answers submitted wanted unended knows
knows_next (Rejected channel number) state answers submitted wanted unended knows = knows_reject channel number state answers submitted wanted knows
knows_next NoMessage state answers submitted wanted unended knows = knows_cut state answers submitted wanted knows
knows_next Other state answers submitted wanted unended knows = knows

knows_hear : (notice : Notice) (state : MinerState) (answers : Answered) (submitted wanted : ℕ) → Knows state answers submitted wanted
    → Knows (hear notice state) (if is_some state.end then answers else answered_by notice state answers) submitted wanted
knows_hear notice state answers submitted wanted knows = by_end state.end refl
  where
    by_end : (end : Option MinerEnd) → state.end ≡ end
        → Knows (if is_some end then state else hear_next notice state) (if is_some end then answers else answered_by notice state answers) submitted wanted
    by_end None unended = knows_next notice state answers submitted wanted unended knows
    by_end (Some end) ended = knows

knows_all : (frames : List FrameValue) (state : MinerState) (answers : Answered) (submitted wanted : ℕ) → Knows state answers submitted wanted
    → Knows (hear_all frames state) (answered_by_all frames state answers) submitted wanted
knows_all [] state answers submitted wanted knows = knows
knows_all (frame ∷ frames) state answers submitted wanted knows =
    knows_all frames (hear (notice_in frame) state) (if is_some state.end then answers else answered_by (notice_in frame) state answers) submitted wanted
    (knows_hear (notice_in frame) state answers submitted wanted knows)

-- tries are made where no submission waits
due_free : (state : MinerState) (current : CurrentJob) → due state ≡ Some current → state.waiting ≡ None
due_free state current is = by_tests (is_some state.end) state.waiting (nat_le (2 ^ 32) state.submitted) is
  where
    by_tests : (ended : Bool) (waiting : Option ℕ) (full : Bool) → (if ended || (is_some waiting || full) then None else state.current) ≡ Some current → waiting ≡ None
    by_tests true waiting full is = absurd cc
    by_tests false None full is = refl
    by_tests false (Some number) full is = absurd cc

-- tries that found something, or nothing
knows_tried : (current : CurrentJob) (found next : Option Try) (state : MinerState) (answers : Answered) (older : List MinedShare) (wanted : ℕ) → state.waiting ≡ None
    → Knows state answers (length older) wanted
    → Knows (with_tries found next state) (waits_too (share_at current found state.submitted) answers) (length (with_share (share_at current found state.submitted) older)) wanted
knows_tried current None next state answers older wanted free knows =
    record { waits = knows.waits; credited = knows.credited; ends = knows.ends; submitted_so = knows.submitted_so; wanted_so = knows.wanted_so }
knows_tried current (Some at) next state answers older wanted free knows = record {
  waits = ap (λ (w : List ℕ). state.submitted ∷ w) (knows.waits ∙ ap (λ (w : Option ℕ). waiting_numbers w) free);
  credited = knows.credited;
  ends = knows.ends;
  submitted_so = omega (arith, knows.submitted_so);
  wanted_so = knows.wanted_so;
}

knows_tried_on : (job : Option CurrentJob) (class tries : ℕ) (state : MinerState) (answers : Answered) (older : List MinedShare) (wanted : ℕ) → due state ≡ job
    → Knows state answers (length older) wanted
    → Knows (tried_on job class tries state) (waits_too (share_on job class tries state) answers) (length (with_share (share_on job class tries state) older)) wanted
knows_tried_on None class tries state answers older wanted is knows = knows
knows_tried_on (Some current) class tries state answers older wanted is knows =
    let made = first_meeting class current tries state.next_try in
    knows_tried current made.found made.next state answers older wanted (due_free state current is) knows

knows_closed : (task : MinerTask) (end : RunEnd) (state : MinerState) (answers : Answered) (older : List MinedShare) → Knows state answers (length older) task.count
    → Knows (closed task end state) (waits_too (share_in task end state) answers) (length (with_share (share_in task end state) older)) task.count
knows_closed task Done state answers older knows = knows_tried_on (due state) task.class tries_a_turn state answers older task.count refl knows
knows_closed task Stopped state answers older knows = knows
knows_closed task (TooLong len) state answers older knows = knows_cut state answers (length older) task.count knows

knows_after : (task : MinerTask) (past : List Hearing) → Knows (after task past) (answered task past) (length (shares task past)) task.count
knows_after task [] = record { waits = refl; credited = refl; ends = tt; submitted_so = refl; wanted_so = refl }
knows_after task (Frames frames end ∷ past) =
    knows_closed task end (hear_all frames (after task past)) (answered_by_all frames (after task past) (answered task past)) (shares task past)
    (knows_all frames (after task past) (answered task past) (length (shares task past)) task.count (knows_after task past))
knows_after task (NoMore rest ∷ past) = knows_cut (after task past) (answered task past) (length (shares task past)) task.count (knows_after task past)

-- the laws
one_number : (waiting : Option ℕ) → length (waiting_numbers waiting) ≤ 1
one_number None = omega arith
one_number (Some number) = omega arith

pub one_waits : OneShareWaits
one_waits task past = rw (knows_after task past).waits (one_number (after task past).waiting)

numbered_on : (job : Option CurrentJob) (class tries : ℕ) (state : MinerState) (older : List MinedShare) → state.submitted ≡ length older → AreNumbered older
    → AreNumbered (with_share (share_on job class tries state) older)
numbered_on None class tries state older submitted rest = rest
numbered_on (Some current) class tries state older submitted rest = by_found (first_meeting class current tries state.next_try).found
  where
    by_found : (found : Option Try) → AreNumbered (with_share (share_at current found state.submitted) older)
    by_found None = rest
    by_found (Some at) = (submitted, rest)

numbered_in : (task : MinerTask) (end : RunEnd) (state : MinerState) (older : List MinedShare) → state.submitted ≡ length older → AreNumbered older
    → AreNumbered (with_share (share_in task end state) older)
numbered_in task Done state older submitted rest = numbered_on (due state) task.class tries_a_turn state older submitted rest
numbered_in task Stopped state older submitted rest = rest
numbered_in task (TooLong len) state older submitted rest = rest

pub numbered : SharesAreNumbered
numbered task [] = tt
numbered task (Frames frames end ∷ past) =
    let knows = knows_all frames (after task past) (answered task past) (length (shares task past)) task.count (knows_after task past) in
    numbered_in task end (hear_all frames (after task past)) (shares task past) knows.submitted_so (numbered task past)
numbered task (NoMore rest ∷ past) = numbered task past

tells : (task : MinerTask) (end : Option MinerEnd) (counted credited wanted : ℕ) → counted ≡ credited → wanted ≡ task.count → TellsState end credited wanted → TellsCredits task counted end
tells task None counted credited wanted counts wants told = tt
tells task (Some (Mined count)) counted credited wanted counts wants told = (told.0 ∙ wants, counts ∙ told.1)
tells task (Some (Ended count)) counted credited wanted counts wants told = counts ∙ told

pub ends_tell : EndsTellCredits
ends_tell task past =
    let knows = knows_after task past in
    tells task (after task past).end (length (answered task past).credited) (after task past).credited (after task past).wanted knows.credited knows.wanted_so
    (subst (λ (w : ℕ). TellsState (after task past).end (after task past).credited w) (sym knows.wanted_so) knows.ends)
