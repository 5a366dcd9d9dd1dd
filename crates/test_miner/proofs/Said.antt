-- What a miner says are its setup, its opening and its shares.
use Rattle.std.proofs.Common.{◌≡◌, ℕ, ◌==◌, Bool, true, false, if◌then◌else◌, Option, None, Some, List, [], ◌∷◌, ◌++◌, append_assoc, append-nil, reverse, refl, sym, ap, ◌∙◌, subst, ◌⊎◌, inl, inr}
use Rattle.std.specs.List.{flat_map}
use Rattle.std.specs.Prelude.{◌&&◌, is_none, is_some}
use Rattle.std.proofs.lemmas.List.{reverse-append}
use Rattle.std.proofs.lemmas.List.Concat.{flat_map-append}
use Rattle.sv2_frames.specs.declared.running.RunEnd.{RunEnd}
use Rattle.sv2_frames.specs.declared.running.RunEnd.TheVariants.{Done, Stopped, TooLong}
use Rattle.sv2_frames.specs.Framing.{FrameValue}
use Rattle.mining_msgs.specs.declared.jobs.NewMiningJob.{NewMiningJob}
use Rattle.mining_msgs.specs.declared.jobs.SetNewPrevHash.{SetNewPrevHash}
use Rattle.test_miner.specs.declared.course.MinerEnd.TheVariants.{Ended}
use Rattle.test_miner.specs.declared.miner.MinerTask.{MinerTask}
use Rattle.test_miner.specs.declared.notice.Notice.{Notice}
use Rattle.test_miner.specs.declared.notice.Notice.TheVariants.{SetUp, Refused, Opened, Job, Tip, Credited, Rejected, NoMessage, Other}
use Rattle.test_miner.specs.declared.trying.CurrentJob.{CurrentJob}
use Rattle.test_miner.specs.declared.trying.MinedShare.{MinedShare}
use Rattle.test_miner.specs.declared.trying.Try.{Try}
use Rattle.test_miner.specs.Bounds.{tries_a_turn}
use Rattle.test_miner.specs.Courses.{credited_once, cut_off, due, hear, hear_next, is_answered, is_number, job_named, set_up, share_on, tried_on, with_job, with_named, with_tries}
use Rattle.test_miner.specs.Hearings.{Hearing, Frames, NoMore, hear_all}
use Rattle.test_miner.specs.Laws.{MinerSaysShares, shares, with_share}
use Rattle.test_miner.specs.Miners.{after, closed, opening_said, said, share_in, share_said}
use Rattle.test_miner.specs.Notices.{notice_in}
use Rattle.test_miner.specs.Saying.{opening_frame, setup_frame, share_bytes, share_frame}
use Rattle.test_miner.specs.States.{MinerState}
use Rattle.test_miner.specs.Trying.{first_meeting}

-- once the connection is accepted it stays so
up_by : (b : Bool) (x y : MinerState) → x.is_set_up ≡ true → y.is_set_up ≡ true → (if b then x else y).is_set_up ≡ true
up_by true x y first second = first
up_by false x y first second = second

up_cut : (state : MinerState) → state.is_set_up ≡ true → (cut_off state).is_set_up ≡ true
up_cut state up = up_by (is_none state.end) (record state { end = Some (Ended state.credited) }) state up up

up_named : (named : Option NewMiningJob) (tip : SetNewPrevHash) (state : MinerState) → state.is_set_up ≡ true → (with_named named tip state).is_set_up ≡ true
up_named (Some job) tip state up = up
up_named None tip state up = up

up_job : (min_ntime : Option ℕ) (tip : Option SetNewPrevHash) (job : NewMiningJob) (state : MinerState) → state.is_set_up ≡ true
    → (with_job min_ntime tip job state).is_set_up ≡ true
up_job (Some min_ntime) (Some tip) job state up = up
up_job (Some min_ntime) None job state up = up
up_job None tip job state up = up

up_next : (notice : Notice) (state : MinerState) → state.is_set_up ≡ true → (hear_next notice state).is_set_up ≡ true
up_next (SetUp version) state up = up_by (version == 2) (record state { is_set_up = true }) (cut_off state) refl (up_cut state up)
up_next Refused state up = up_cut state up
up_next (Opened request channel) state up =
    up_by (state.is_set_up && (request == 1 && is_none state.channel)) (record state { channel = Some channel }) state up up
up_next (Job job) state up =
    let taken = record state { jobs = state.jobs ++ job ∷ [] } in
    up_by (is_number job.channel_id state.channel) (with_job job.min_ntime state.tip job taken) state (up_job job.min_ntime state.tip job taken up) up
up_next (Tip tip) state up =
    let named = job_named tip.job_id state.jobs in
    up_by (is_number tip.channel_id state.channel) (with_named named tip (record state { tip = Some tip })) state
    (up_named named tip (record state { tip = Some tip }) up) up
up_next (Credited channel number) state up = up_by (is_answered channel number state) (credited_once state) state up up
up_next (Rejected channel number) state up = up_by (is_answered channel number state) (record state { waiting = None }) state up up
up_next NoMessage state up = up_cut state up
up_next Other state up = up

up_hear : (notice : Notice) (state : MinerState) → state.is_set_up ≡ true → (hear notice state).is_set_up ≡ true
up_hear notice state up = up_by (is_some state.end) state (hear_next notice state) up (up_next notice state up)

up_all : (frames : List FrameValue) (state : MinerState) → state.is_set_up ≡ true → (hear_all frames state).is_set_up ≡ true
up_all [] state up = up
up_all (frame ∷ frames) state up = up_all frames (hear (notice_in frame) state) (up_hear (notice_in frame) state up)

-- before that there is neither a channel nor a job
record IsIdle (state : MinerState) : Type 0 where
  channel : state.channel ≡ None
  current : state.current ≡ None

abbrev IsSound : MinerState → Type 0
IsSound state = (state.is_set_up ≡ true) ⊎ IsIdle state

sound_by : (b : Bool) (x y : MinerState) → IsSound x → IsSound y → IsSound (if b then x else y)
sound_by true x y first second = first
sound_by false x y first second = second

sound_cut : (state : MinerState) → IsSound state → IsSound (cut_off state)
sound_cut state sound = sound_by (is_none state.end) (record state { end = Some (Ended state.credited) }) state ended sound
  where
    ended : IsSound (record state { end = Some (Ended state.credited) })
    ended = elim sound [
      | inl up ↦ inl up
      | inr idle ↦ inr (record { channel = idle.channel; current = idle.current })
    ]

-- what is said of a channel says nothing where there is none
unheard : (channel : ℕ) (own : Option ℕ) (x y : MinerState) → own ≡ None → IsSound y → IsSound (if is_number channel own then x else y)
unheard channel None x y none sound = sound
unheard channel (Some other) x y none sound = absurd (let wrong : Some other ≡ None = none in cc)

unanswered : (channel number : ℕ) (own waiting : Option ℕ) (x y : MinerState) → own ≡ None → IsSound y
    → IsSound (if is_number channel own && is_number number waiting then x else y)
unanswered channel number None waiting x y none sound = sound
unanswered channel number (Some other) waiting x y none sound = absurd (let wrong : Some other ≡ None = none in cc)

sound_next : (notice : Notice) (state : MinerState) → IsIdle state → IsSound (hear_next notice state)
sound_next (SetUp version) state idle = sound_by (version == 2) (record state { is_set_up = true }) (cut_off state) (inl refl) (sound_cut state (inr idle))
sound_next Refused state idle = sound_cut state (inr idle)
sound_next (Opened request channel) state idle = by state.is_set_up refl
  where
    by : (up : Bool) → state.is_set_up ≡ up → IsSound (if up && (request == 1 && is_none state.channel) then record state { channel = Some channel } else state)
    by true is = sound_by (request == 1 && is_none state.channel) (record state { channel = Some channel }) state (inl is) (inl is)
    by false is = inr idle
sound_next (Job job) state idle =
    unheard job.channel_id state.channel (with_job job.min_ntime state.tip job (record state { jobs = state.jobs ++ job ∷ [] })) state idle.channel (inr idle)
sound_next (Tip tip) state idle =
    unheard tip.channel_id state.channel (with_named (job_named tip.job_id state.jobs) tip (record state { tip = Some tip })) state idle.channel (inr idle)
sound_next (Credited channel number) state idle = unanswered channel number state.channel state.waiting (credited_once state) state idle.channel (inr idle)
sound_next (Rejected channel number) state idle =
    unanswered channel number state.channel state.waiting (record state { waiting = None }) state idle.channel (inr idle)
sound_next NoMessage state idle = sound_cut state (inr idle)
sound_next Other state idle = inr idle

sound_hear : (notice : Notice) (state : MinerState) → IsSound state → IsSound (hear notice state)
sound_hear notice state (inl up) = inl (up_hear notice state up)
sound_hear notice state (inr idle) = sound_by (is_some state.end) state (hear_next notice state) (inr idle) (sound_next notice state idle)

sound_all : (frames : List FrameValue) (state : MinerState) → IsSound state → IsSound (hear_all frames state)
sound_all [] state sound = sound
sound_all (frame ∷ frames) state sound = sound_all frames (hear (notice_in frame) state) (sound_hear (notice_in frame) state sound)

-- tries change neither
same_tries : (found next : Option Try) (state : MinerState) → (with_tries found next state).is_set_up ≡ state.is_set_up
same_tries None next state = refl
same_tries (Some at) next state = refl

sound_tries : (found next : Option Try) (state : MinerState) → IsSound state → IsSound (with_tries found next state)
sound_tries None next state (inl up) = inl up
sound_tries None next state (inr idle) = inr (record { channel = idle.channel; current = idle.current })
sound_tries (Some at) next state (inl up) = inl up
sound_tries (Some at) next state (inr idle) = inr (record { channel = idle.channel; current = idle.current })

same_tried : (job : Option CurrentJob) (class tries : ℕ) (state : MinerState) → (tried_on job class tries state).is_set_up ≡ state.is_set_up
same_tried None class tries state = refl
same_tried (Some current) class tries state =
    let made = first_meeting class current tries state.next_try in same_tries made.found made.next state

sound_tried : (job : Option CurrentJob) (class tries : ℕ) (state : MinerState) → IsSound state → IsSound (tried_on job class tries state)
sound_tried None class tries state sound = sound
sound_tried (Some current) class tries state sound =
    let made = first_meeting class current tries state.next_try in sound_tries made.found made.next state sound

same_by : (b : Bool) (x y : MinerState) → x.is_set_up ≡ y.is_set_up → (if b then x else y).is_set_up ≡ y.is_set_up
same_by true x y same = same
same_by false x y same = refl

same_cut : (state : MinerState) → (cut_off state).is_set_up ≡ state.is_set_up
same_cut state = same_by (is_none state.end) (record state { end = Some (Ended state.credited) }) state refl

same_closed : (task : MinerTask) (end : RunEnd) (state : MinerState) → (closed task end state).is_set_up ≡ state.is_set_up
same_closed task Done state = same_tried (due state) task.class tries_a_turn state
same_closed task Stopped state = refl
same_closed task (TooLong len) state = same_cut state

sound_closed : (task : MinerTask) (end : RunEnd) (state : MinerState) → IsSound state → IsSound (closed task end state)
sound_closed task Done state sound = sound_tried (due state) task.class tries_a_turn state sound
sound_closed task Stopped state sound = sound
sound_closed task (TooLong len) state sound = sound_cut state sound

sound_after : (task : MinerTask) (past : List Hearing) → IsSound (after task past)
sound_after task [] = inr (record { channel = refl; current = refl })
sound_after task (Frames frames end ∷ past) =
    sound_closed task end (hear_all frames (after task past)) (sound_all frames (after task past) (sound_after task past))
sound_after task (NoMore rest ∷ past) = sound_cut (after task past) (sound_after task past)

-- so there is no share before the connection is accepted
none_due : (b : Bool) (current : Option CurrentJob) → current ≡ None → (if b then None else current) ≡ None
none_due true current none = refl
none_due false current none = none

none_found : (job : Option CurrentJob) (class tries : ℕ) (state : MinerState) → job ≡ None → share_on job class tries state ≡ None
none_found None class tries state none = refl
none_found (Some current) class tries state none = absurd (let wrong : Some current ≡ None = none in cc)

none_in : (task : MinerTask) (end : RunEnd) (state : MinerState) → IsIdle state → share_in task end state ≡ None
none_in task Done state idle = none_found (due state) task.class tries_a_turn state (none_due _ state.current idle.current)
none_in task Stopped state idle = refl
none_in task (TooLong len) state idle = refl

before : (frames : List FrameValue) (state : MinerState) → (hear_all frames state).is_set_up ≡ false → state.is_set_up ≡ false
before frames state down = by state.is_set_up refl
  where
    by : (up : Bool) → state.is_set_up ≡ up → up ≡ false
    by false is = refl
    by true is = absurd (let wrong : true ≡ false = sym (up_all frames state is) ∙ down in cc)

no_shares : (task : MinerTask) (past : List Hearing) → (after task past).is_set_up ≡ false → shares task past ≡ []
no_shares task [] down = refl
no_shares task (NoMore rest ∷ past) down = no_shares task past (sym (same_cut (after task past)) ∙ down)
no_shares task (Frames frames end ∷ past) down =
    let heard = hear_all frames (after task past) in
    let low : heard.is_set_up ≡ false = sym (same_closed task end heard) ∙ down in
    let older : shares task past ≡ [] = no_shares task past (before frames (after task past) low) in
    let none : share_in task end heard ≡ None = elim (sound_all frames (after task past) (sound_after task past)) [
      | inl up ↦ absurd (let wrong : true ≡ false = sym up ∙ low in cc)
      | inr idle ↦ none_in task end heard idle
    ] in
    ap (λ found. with_share found (shares task past)) none ∙ older

-- the frames of shares, with one more
one_more : (found : Option MinedShare) (older : List MinedShare)
    → flat_map share_frame (reverse (with_share found older)) ≡ flat_map share_frame (reverse older) ++ share_bytes found
one_more None older = sym (append-nil (flat_map share_frame (reverse older)))
one_more (Some share) older =
    ap (flat_map share_frame) (reverse-append (share ∷ []) older) ∙ flat_map-append share_frame (reverse older) (share ∷ []) ∙ ap (λ frame. flat_map share_frame (reverse older) ++ frame) (append-nil (share_frame share))

-- one turn more
joined : (task : MinerTask) (old new : Bool) (before front later words : List ℕ) → before ≡ setup_frame ++ (opening_said task false old ++ front)
    → later ≡ front ++ words → (old ≡ true → new ≡ true) → (old ≡ false → front ≡ [])
    → before ++ (opening_said task old new ++ words) ≡ setup_frame ++ (opening_said task false new ++ later)
joined task true false before front later words is more stays none = absurd (let wrong : false ≡ true = stays refl in cc)
joined task true true before front later words is more stays none =
    let opening = opening_frame task.user task.class in
    ap (λ l. l ++ words) is ∙ append_assoc setup_frame (opening ++ front) words
    ∙ ap (λ l. setup_frame ++ l) (append_assoc opening front words) ∙ ap (λ l. setup_frame ++ (opening ++ l)) (sym more)
joined task false false before front later words is more stays none =
    ap (λ l. l ++ words) is ∙ append_assoc setup_frame front words ∙ ap (λ l. setup_frame ++ l) (sym more)
joined task false true before front later words is more stays none =
    let opening = opening_frame task.user task.class in
    let alone : later ≡ words = more ∙ ap (λ l. l ++ words) (none refl) in
    ap (λ l. l ++ (opening ++ words)) (is ∙ ap (λ l. setup_frame ++ l) (none refl) ∙ append-nil setup_frame)
    ∙ ap (λ l. setup_frame ++ (opening ++ l)) (sym alone)

pub says_shares : MinerSaysShares
says_shares task [] = sym (append-nil setup_frame)
says_shares task (NoMore rest ∷ past) =
    append-nil (said task past) ∙ says_shares task past
    ∙ ap (λ up. setup_frame ++ (opening_said task false up ++ flat_map share_frame (reverse (shares task past)))) (sym (same_cut (after task past)))
says_shares task (Frames frames end ∷ past) =
    let old = after task past in
    let heard = hear_all frames old in
    joined task old.is_set_up heard.is_set_up (said task past) (flat_map share_frame (reverse (shares task past)))
    (flat_map share_frame (reverse (with_share (share_in task end heard) (shares task past)))) (share_said task end heard) (says_shares task past)
    (one_more (share_in task end heard) (shares task past)) (up_all frames old)
    (λ down. ap (λ (l : List MinedShare). flat_map share_frame (reverse l)) (no_shares task past down))
    ∙ ap (λ up. setup_frame ++ (opening_said task false up ++ flat_map share_frame (reverse (with_share (share_in task end heard) (shares task past)))))
    (sym (same_closed task end heard))
