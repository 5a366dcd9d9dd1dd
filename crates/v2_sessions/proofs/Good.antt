-- Good input leads to no end that blames it.
use Rattle.std.proofs.Common.{◌≡◌, ℕ, ◌<◌, ◌^◌, ◌%◌, ◌/◌, ◌++◌, Bool, true, false, List, [], ◌∷◌, Option, None, Some, length, map, refl, sym, ap, subst, ◌∙◌, append_assoc, append-nil, arith, inl, inr, suc, zero, ◌-◌}
use Rattle.std.proofs.lemmas.List.{append_cancel_left}
use Rattle.std.proofs.Math.Dec.{eqb-suc-zero}
use Rattle.std.specs.List.{flat_map}
use Rattle.std.specs.Prelude.{if◌then◌else◌}
use Rattle.pool_base.specs.Calls.{Outcome, Replied, Faulted}
use Rattle.pool_io.specs.declared.sink.SinkFailed.{SinkFailed}
use Rattle.pool_io.specs.declared.sink.SinkFailed.TheVariants as sink
use Rattle.pool_io.specs.declared.turn.Turn.{Turn}
use Rattle.pool_io.specs.Steps.{BringsSteps, bytes_in, steps_of}
use Rattle.pool_io.proofs.Stepping.{bytes_in-append, bytes_in-map}
use Rattle.pool_network.specs.Seen.{LinkSeen}
use Rattle.sv2_frames.specs.Framing.{FrameValue, frame_bytes, header_of}
use Rattle.sv2_frames.specs.Holding.{IsCut}
use Rattle.sv2_frames.specs.Stream.{stream_of}
use Rattle.sv2_frames.proofs.Fronts.{frames_agree}
use Rattle.pool_history.specs.declared.events.Role.{Role}
use Rattle.pool_history.specs.declared.refusals.BookError.{BookError}
use Rattle.pool_history.specs.declared.refusals.BookError.TheVariants as fault
use Rattle.pool_history.specs.declared.replies.Reply.{Reply}
use Rattle.pool_history.specs.declared.replies.Reply.TheVariants as reply
use Rattle.pool_history.specs.Calls.{PoolCall}
use Rattle.pool_history.specs.Headers.{Briefing}
use Rattle.session_steps.specs.declared.manner.Manner.{Manner}
use Rattle.session_steps.specs.declared.about.About.{About}
use Rattle.session_steps.specs.declared.about.About.TheVariants as topic
use Rattle.session_steps.specs.declared.ends.SessionEnd.{SessionEnd}
use Rattle.session_steps.specs.declared.ends.SessionEnd.TheVariants as end
use Rattle.session_steps.specs.declared.meeting.Step.{Step}
use Rattle.session_steps.specs.declared.meeting.Step.TheVariants as step
use Rattle.session_steps.specs.Meeting.{AsksNext, LeadsBy, Meets}
use Rattle.session_steps.specs.States.{State, Stage, Asking, Committing, Greeting, Leaving, Over, Polling, Reading, Refusing, Saying, Put, answered_stage, briefed_stage, end_stage, end_after_fault, fault_end, input_end, most_payload, new_state, news_stage, next_stage, put_stage}
use Rattle.session_steps.specs.Steps as steps
use Rattle.session_steps.specs.Steps.{CanOverrun, Follows, Met, SessionStep, Called, after_asking, after_booking, after_call, after_news, after_step, end_after, met_stage, turns_in}
use Rattle.session_steps.specs.Taken.{is_taken}
use Rattle.session_steps.specs.Talks.{Talk}
use Rattle.v2_sessions.specs.Good.{AreGood, IsGoodEnd, IsGoodInput, IsWithinLimit, talk_of}
use Rattle.v2_sessions.specs.Running.{TakesAll, has_ended}
use Rattle.v2_sessions.specs.Sessions.{IsSession}
use Rattle.v2_sessions.proofs.Quiet.{IsQuietEnd, IsQuietStage, asking_quiet, booking_quiet, polling_quiet, quiet_fault, quiet_news, quiet_put}

-- no step of a good session refuses a setup, or ends it for what came
abbrev pub IsGoodStage : Stage → Type 0
IsGoodStage (Refusing code flags) = ⊥
IsGoodStage (Leaving reason) = IsGoodEnd reason
IsGoodStage (Over reason) = IsGoodEnd reason
IsGoodStage _ = Unit {0}

good_end : (entered : Bool) (reason : SessionEnd) → IsGoodEnd reason → IsGoodStage (end_stage entered reason)
good_end true reason good = good
good_end false reason good = good

-- an end that no input brings blames none
quiet_good : (reason : SessionEnd) → IsQuietEnd reason → IsGoodEnd reason
quiet_good end.IdleOut quiet = tt
quiet_good end.BytesOut quiet = tt
quiet_good end.PoolFull quiet = tt
quiet_good end.ReadFault quiet = tt
quiet_good end.WriteFault quiet = tt
quiet_good end.LedgerFault quiet = tt
quiet_good end.Memory quiet = tt
quiet_good end.Done quiet = absurd quiet
quiet_good (end.CutFrame count) quiet = absurd quiet
quiet_good (end.TooLong len) quiet = absurd quiet
quiet_good end.BadSetup quiet = absurd quiet
quiet_good (end.BadMessage kind) quiet = absurd quiet
quiet_good end.LineTooLong quiet = absurd quiet

good_stage : (stage : Stage) → IsQuietStage stage → IsGoodStage stage
good_stage (Leaving reason) quiet = quiet_good reason quiet
good_stage (Over reason) quiet = quiet_good reason quiet
good_stage (Refusing code flags) quiet = absurd quiet
good_stage (Saying bytes) quiet = tt
good_stage Greeting quiet = tt
good_stage Reading quiet = tt
good_stage (Asking asked) quiet = tt
good_stage (Committing brief) quiet = tt
good_stage Polling quiet = tt

good_left : (reason : SessionEnd) (cause : BookError) → IsGoodEnd reason → IsGoodEnd (end_after_fault reason cause)
good_left end.Done cause good = quiet_good (fault_end cause) (quiet_fault cause)
good_left (end.CutFrame count) cause good = good
good_left (end.TooLong len) cause good = good
good_left end.BadSetup cause good = good
good_left (end.BadMessage kind) cause good = good
good_left end.LineTooLong cause good = good
good_left end.IdleOut cause good = good
good_left end.BytesOut cause good = good
good_left end.PoolFull cause good = good
good_left end.ReadFault cause good = good
good_left end.WriteFault cause good = good
good_left end.LedgerFault cause good = good
good_left end.Memory cause good = good

-- what a call leaves of a session, and that it is good still
pub record StaysGood (old new : State) : Type 0 where
  pub unmet : new.unmet ≡ old.unmet
  pub role : new.talk.role ≡ old.talk.role
  pub rolling : new.talk.rolling ≡ old.talk.rolling
  pub declares : new.talk.declares ≡ old.talk.declares
  pub flags : new.talk.flags ≡ old.talk.flags
  pub stage : IsGoodStage new.stage

stays_at : (s : State) (stage : Stage) → IsGoodStage stage → StaysGood s (steps.at_stage stage s)
stays_at s stage good = record { unmet = refl; role = refl; rolling = refl; declares = refl; flags = refl; stage = good }

asking_stays : (s : State) (front : ℕ) (outcome : Outcome Reply BookError) (put : Put) → StaysGood s (after_asking s front outcome put)
asking_stays s front (Faulted cause) put =
    stays_at s (end_stage s.entered (fault_end cause)) (good_stage (end_stage s.entered (fault_end cause)) (asking_quiet s front (Faulted cause) put))
asking_stays s front (Replied answer) put = record {
  unmet = refl;
  role = refl;
  rolling = refl;
  declares = refl;
  flags = refl;
  stage = good_stage (after_asking s front (Replied answer) put).stage (asking_quiet s front (Replied answer) put);
}

booking_stays : (s : State) (outcome : Outcome Reply BookError) (put : Put) → StaysGood s (after_booking s outcome put)
booking_stays s (Faulted cause) put =
    stays_at s (end_stage s.entered (fault_end cause)) (good_stage (end_stage s.entered (fault_end cause)) (booking_quiet s (Faulted cause) put))
booking_stays s (Replied answer) put =
    stays_at s (put_stage put.fault s.entered (news_stage s.entered s.idles))
    (good_stage (put_stage put.fault s.entered (news_stage s.entered s.idles)) (booking_quiet s (Replied answer) put))

news_stays : (s : State) (outcome : Outcome Reply BookError) (put : Put) → StaysGood s (after_news s outcome put)
news_stays s (Faulted cause) put =
    stays_at s (end_stage s.entered (fault_end cause)) (good_stage (end_stage s.entered (fault_end cause)) (polling_quiet s (Faulted cause) put))
news_stays s (Replied answer) put = record {
  unmet = refl;
  role = refl;
  rolling = refl;
  declares = refl;
  flags = refl;
  stage = good_stage (after_news s (Replied answer) put).stage (polling_quiet s (Replied answer) put);
}

left_good : (reason : SessionEnd) (outcome : Outcome Reply BookError) → IsGoodEnd reason → IsGoodEnd (end_after reason outcome)
left_good reason (Replied answer) good = good
left_good reason (Faulted cause) good = good_left reason cause good

call_stays : (stage : Stage) (s : State) (call : PoolCall) (put : Put) → s.stage ≡ stage → IsGoodStage stage → StaysGood s (after_call stage s call put)
call_stays (Asking asked) s call put is good = asking_stays s call.front call.outcome put
call_stays (Committing brief) s call put is good = booking_stays s call.outcome put
call_stays Polling s call put is good = news_stays s call.outcome put
call_stays (Leaving reason) s call put is good = stays_at s (Over (end_after reason call.outcome)) (left_good reason call.outcome good)
call_stays Greeting s call put is good = record { unmet = refl; role = refl; rolling = refl; declares = refl; flags = refl; stage = rw is tt }
call_stays Reading s call put is good = record { unmet = refl; role = refl; rolling = refl; declares = refl; flags = refl; stage = rw is tt }
call_stays (Refusing code flags) s call put is good = absurd good
call_stays (Saying bytes) s call put is good = record { unmet = refl; role = refl; rolling = refl; declares = refl; flags = refl; stage = rw is tt }
call_stays (Over reason) s call put is good = record { unmet = refl; role = refl; rolling = refl; declares = refl; flags = refl; stage = rw is good }

-- whether a frame is taken is by the role and the flags
taken_at : (talk : Talk) (flags : Option ℕ) (frame : FrameValue) → talk.flags ≡ flags → is_taken talk frame ≡ is_taken (talk_of talk.role talk.rolling talk.declares flags) frame
taken_at talk flags frame is = ap (λ f. is_taken (talk_of talk.role talk.rolling talk.declares f) frame) is

-- a good frame is met, and those behind it are good for what the session then knows
pub met_good : (flags : Option ℕ) (talk next : Talk) (entered : Bool) (frame : FrameValue) (frames : List FrameValue) (made : Step) → talk.flags ≡ flags → Meets talk frame made next
    → AreGood talk.role talk.rolling talk.declares flags (frame ∷ frames) → AreGood next.role next.rolling next.declares next.flags frames × IsGoodStage (met_stage entered made)
met_good None talk next entered frame frames step.Ignore is meets good =
    elim good.1 [
      | inl ignored ↦ (rw (meets.1, is) ignored.1, tt)
      | inr setup ↦ let both : true ≡ false = sym setup.1.taken ∙ sym (taken_at talk None frame is) ∙ meets.0 in cc
    ]
met_good None talk next entered frame frames (step.Ask asked) is meets good =
    elim good.1 [
      | inl ignored ↦ let both : true ≡ false = sym meets.taken ∙ taken_at talk None frame is ∙ ignored.0 in cc
      | inr setup ↦
          let leads = rw is at meets.leads in
          let sets = rw (setup.1.accepted meets.message meets.brought) at leads in
          (rw sets.1 setup.2, tt)
    ]
met_good None talk next entered frame frames (step.RefuseSetup code flags) is meets good =
    elim good.1 [
      | inl ignored ↦ let both : true ≡ false = sym meets.taken ∙ taken_at talk None frame is ∙ ignored.0 in cc
      | inr setup ↦
          let leads = rw is at meets.leads in
          let sets = rw (setup.1.accepted meets.message meets.brought) at leads in
          let other = sets.0 in
          cc
    ]
met_good None talk next entered frame frames (step.Say bytes) is meets good =
    elim good.1 [
      | inl ignored ↦ let both : true ≡ false = sym meets.taken ∙ taken_at talk None frame is ∙ ignored.0 in cc
      | inr setup ↦
          let leads = rw is at meets.leads in
          let sets = rw (setup.1.accepted meets.message meets.brought) at leads in
          let other = sets.0 in
          cc
    ]
met_good None talk next entered frame frames step.BadSetup is meets good =
    elim good.1 [
      | inl ignored ↦ let both : true ≡ false = sym meets.taken ∙ taken_at talk None frame is ∙ ignored.0 in cc
      | inr setup ↦
          let leads = rw is at meets.leads in
          let sets = rw (setup.1.accepted meets.message meets.brought) at leads in
          let other = sets.0 in
          cc
    ]
met_good None talk next entered frame frames (step.BadMessage kind) is meets good =
    elim good.1 [
      | inl ignored ↦ let both : true ≡ false = sym meets.taken ∙ taken_at talk None frame is ∙ ignored.0 in cc
      | inr setup ↦ absurd (meets.none setup.1.message setup.1.brought)
    ]
met_good (Some flags) talk next entered frame frames step.Ignore is meets good = (rw (meets.1, is) good.2, tt)
met_good (Some flags) talk next entered frame frames (step.Ask asked) is meets good =
    let leads : AsksNext meets.message talk (step.Ask asked) next = subst (λ f. LeadsBy f talk meets.message (step.Ask asked) next) is meets.leads in
    elim leads [
      | inl work ↦ (rw (ap (λ t. t.role) work.2, ap (λ t. t.rolling) work.2, ap (λ t. t.declares) work.2, ap (λ t. t.flags) work.2 ∙ is) good.2, tt)
      | inr declared ↦
          (rw (ap (λ t. t.role) declared.next_is, ap (λ t. t.rolling) declared.next_is, ap (λ t. t.declares) declared.next_is, ap (λ t. t.flags) declared.next_is ∙ is) good.2, tt)
    ]
met_good (Some flags) talk next entered frame frames (step.Say bytes) is meets good =
    let says : AsksNext meets.message talk (step.Say bytes) next = subst (λ f. LeadsBy f talk meets.message (step.Say bytes) next) is meets.leads in
    (rw (ap (λ t. t.role) says.next_is, ap (λ t. t.rolling) says.next_is, ap (λ t. t.declares) says.next_is, ap (λ t. t.flags) says.next_is ∙ is) good.2, tt)
met_good (Some flags) talk next entered frame frames (step.RefuseSetup code more) is meets good = absurd (rw is at meets.leads)
met_good (Some flags) talk next entered frame frames step.BadSetup is meets good = absurd (rw is at meets.leads)
met_good (Some flags) talk next entered frame frames (step.BadMessage kind) is meets good =
    elim good.1 [
      | inl ignored ↦ let both : true ≡ false = sym meets.taken ∙ taken_at talk (Some flags) frame is ∙ ignored in cc
      | inr message ↦ absurd (meets.none message.0 message.1)
    ]

head_within : (role : Role) (rolling declares : Bool) (flags : Option ℕ) (frame : FrameValue) (frames : List FrameValue) → AreGood role rolling declares flags (frame ∷ frames) → IsWithinLimit declares frame
head_within role rolling declares None frame frames good = good.0
head_within role rolling declares (Some flags) frame frames good = good.0

-- two headers that begin the same bytes say one length
header_agrees : (e k n e' k' n' : ℕ) (x y : List ℕ) → n < 2 ^ 24 → n' < 2 ^ 24 → header_of e k n ++ x ≡ header_of e' k' n' ++ y → n ≡ n'
header_agrees e k n e' k' n' x y fits fits' same =
    let low : n % 256 ≡ n' % 256 = cc in
    let middle : n / 256 % 256 ≡ n' / 256 % 256 = cc in
    let high : n / 65536 % 256 ≡ n' / 65536 % 256 = cc in
    omega arith

none_right : (xs ys : List ℕ) → xs ++ ys ≡ [] → ys ≡ []
none_right [] ys none = none
none_right (x ∷ xs) ys none = cc

-- whole frames are no front of a frame but the empty one
whole_end : (role : Role) (rolling declares : Bool) (flags : Option ℕ) (unmet : List ℕ) (frames : List FrameValue) → unmet ≡ flat_map frame_bytes frames → IsCut unmet
    → AreGood role rolling declares flags frames → IsGoodEnd (input_end unmet)
whole_end role rolling declares flags unmet [] is cut good = rw is tt
whole_end role rolling declares flags unmet (f ∷ fs) is cut good =
    let within = head_within role rolling declares flags f fs good in
    let same : frame_bytes f ++ (flat_map frame_bytes fs ++ cut.missing) ≡ frame_bytes cut.frame ++ [] =
    sym (append_assoc (frame_bytes f) (flat_map frame_bytes fs) cut.missing) ∙ ap (λ l. l ++ cut.missing) (sym is) ∙ cut.whole ∙ sym (append-nil (frame_bytes cut.frame)) in
    let agree = frames_agree f.ext f.kind cut.frame.ext cut.frame.kind f.payload cut.frame.payload (flat_map frame_bytes fs ++ cut.missing) [] within.0 cut.fits same in
    absurd (cut.some (none_right (flat_map frame_bytes fs) cut.missing agree.3))

-- a session that is ending takes nothing more
abbrev IsEnding : Stage → Type 0
IsEnding (Leaving reason) = Unit {0}
IsEnding (Over reason) = Unit {0}
IsEnding _ = ⊥

ending : (entered : Bool) (reason : SessionEnd) → IsEnding (end_stage entered reason)
ending true reason = tt
ending false reason = tt

not_reading : (stage : Stage) → IsEnding stage → stage ≡ Reading → ⊥
not_reading stage ends is = rw is at ends

call_ends : (stage : Stage) (s : State) (call : PoolCall) (put : Put) → IsEnding stage → steps.CanCall stage s call put → IsEnding (after_call stage s call put).stage
call_ends (Leaving reason) s call put ends can = tt
call_ends (Over reason) s call put ends can = absurd can
call_ends Greeting s call put ends can = absurd ends
call_ends Reading s call put ends can = absurd ends
call_ends (Refusing code flags) s call put ends can = absurd ends
call_ends (Saying bytes) s call put ends can = absurd ends
call_ends (Asking asked) s call put ends can = absurd ends
call_ends (Committing brief) s call put ends can = absurd ends
call_ends Polling s call put ends can = absurd ends

not_greeting : (stage : Stage) → IsEnding stage → stage ≡ Greeting → ⊥
not_greeting stage ends is = rw is at ends

not_refusing : (stage : Stage) (put : Put) → IsEnding stage → steps.Refuses stage put → ⊥
not_refusing (Refusing code flags) put ends refuses = ends
not_refusing (Saying bytes) put ends refuses = refuses
not_refusing Greeting put ends refuses = refuses
not_refusing Reading put ends refuses = refuses
not_refusing (Asking asked) put ends refuses = refuses
not_refusing (Committing brief) put ends refuses = refuses
not_refusing Polling put ends refuses = refuses
not_refusing (Leaving reason) put ends refuses = refuses
not_refusing (Over reason) put ends refuses = refuses

not_saying : (stage : Stage) (put : Put) → IsEnding stage → steps.Says stage put → ⊥
not_saying (Saying bytes) put ends says = ends
not_saying (Refusing code flags) put ends says = says
not_saying Greeting put ends says = says
not_saying Reading put ends says = says
not_saying (Asking asked) put ends says = says
not_saying (Committing brief) put ends says = says
not_saying Polling put ends says = says
not_saying (Leaving reason) put ends says = says
not_saying (Over reason) put ends says = says

not_starving : (stage : Stage) → IsEnding stage → steps.CanStarve stage → ⊥
not_starving Greeting ends can = ends
not_starving Reading ends can = ends
not_starving (Refusing code flags) ends can = can
not_starving (Saying bytes) ends can = can
not_starving (Asking asked) ends can = can
not_starving (Committing brief) ends can = can
not_starving Polling ends can = can
not_starving (Leaving reason) ends can = can
not_starving (Over reason) ends can = can

no_more : (worker : ℕ) (s t : State) (xs : List SessionStep) → IsEnding s.stage → Follows worker s xs t → turns_in xs ≡ []
no_more worker s t [] ends follows = refl
no_more worker s t (steps.Called call put ∷ xs) ends follows =
    no_more worker (after_step s (steps.Called call put)) t xs (call_ends s.stage s call put ends follows.0.1) follows.1
no_more worker s t (steps.Greeted put ∷ xs) ends follows = absurd (not_greeting s.stage ends follows.0.0)
no_more worker s t (steps.Took bytes ∷ xs) ends follows = absurd (not_reading s.stage ends follows.0.can.waiting.reading)
no_more worker s t (steps.Framed met ∷ xs) ends follows = absurd (not_reading s.stage ends follows.0.reading)
no_more worker s t (steps.Refused put ∷ xs) ends follows = absurd (not_refusing s.stage put ends follows.0)
no_more worker s t (steps.Said put ∷ xs) ends follows = absurd (not_saying s.stage put ends follows.0)
no_more worker s t (steps.Overran len ∷ xs) ends follows = absurd (not_reading s.stage ends follows.0.reading)
no_more worker s t (steps.Idled ∷ xs) ends follows = absurd (not_reading s.stage ends follows.0.waiting.reading)
no_more worker s t (steps.Ended ∷ xs) ends follows = absurd (not_reading s.stage ends follows.0.waiting.reading)
no_more worker s t (steps.Missed ∷ xs) ends follows = absurd (not_reading s.stage ends follows.0.waiting.reading)
no_more worker s t (steps.Starved ∷ xs) ends follows = absurd (not_starving s.stage ends follows.0)
no_more worker s t (steps.Spent ∷ xs) ends follows = absurd (not_reading s.stage ends follows.0.0.reading)

refuses_none : (stage : Stage) (put : Put) → IsGoodStage stage → steps.Refuses stage put → ⊥
refuses_none (Refusing code flags) put good refuses = good
refuses_none (Saying bytes) put good refuses = refuses
refuses_none Greeting put good refuses = refuses
refuses_none Reading put good refuses = refuses
refuses_none (Asking asked) put good refuses = refuses
refuses_none (Committing brief) put good refuses = refuses
refuses_none Polling put good refuses = refuses
refuses_none (Leaving reason) put good refuses = refuses
refuses_none (Over reason) put good refuses = refuses

overran_none : (role : Role) (rolling : Bool) (flags : Option ℕ) (s : State) (len : ℕ) (frames : List FrameValue) (behind : List ℕ) → CanOverrun s len
    → s.unmet ++ behind ≡ flat_map frame_bytes frames → AreGood role rolling s.talk.declares flags frames → ⊥
overran_none role rolling flags s len [] behind can flow good =
    let no_header : (header_of can.begins.ext can.begins.kind len ++ can.begins.more) ++ behind ≡ [] = ap (λ l. l ++ behind) (sym can.begins.header) ∙ flow in
    cc
overran_none role rolling flags s len (f ∷ fs) behind can flow good =
    let within = head_within role rolling s.talk.declares flags f fs good in
    let same : header_of can.begins.ext can.begins.kind len ++ (can.begins.more ++ behind) ≡ header_of f.ext f.kind (length f.payload) ++ (f.payload ++ flat_map frame_bytes fs) =
    sym (append_assoc (header_of can.begins.ext can.begins.kind len) can.begins.more behind) ∙ ap (λ l. l ++ behind) (sym can.begins.header) ∙ flow
    ∙ append_assoc (header_of f.ext f.kind (length f.payload)) f.payload (flat_map frame_bytes fs) in
    let agree = header_agrees can.begins.ext can.begins.kind len f.ext f.kind (length f.payload) (can.begins.more ++ behind) (f.payload ++ flat_map frame_bytes fs) can.begins.length_fits within.0.length_fits same in
    omega (arith, agree, can.begins.over, within.1)

abbrev frame_with : ℕ → ℕ → List ℕ → FrameValue
frame_with ext kind payload = record { ext = ext; kind = kind; payload = payload }

frame_is : (x y : FrameValue) → x.ext ≡ y.ext → x.kind ≡ y.kind → x.payload ≡ y.payload → x ≡ y
frame_is x y ext kind payload =
    ap (λ e. frame_with e x.kind x.payload) ext ∙ ap (λ k. frame_with y.ext k x.payload) kind ∙ ap (frame_with y.ext y.kind) payload

-- every step of a good session leads to a good stage
module _ (worker : ℕ) (left : List ℕ) where
  good_on : (s t : State) (xs : List SessionStep) (frames : List FrameValue) → Follows worker s xs t
      → s.unmet ++ (bytes_in (turns_in xs) ++ left) ≡ flat_map frame_bytes frames → (has_ended xs ≡ true → left ≡ [])
      → AreGood s.talk.role s.talk.rolling s.talk.declares s.talk.flags frames → IsGoodStage s.stage → IsGoodStage t.stage
  good_on s t [] frames follows flow ended good stage = rw follows stage
  good_on s t (steps.Greeted put ∷ xs) frames follows flow ended good stage =
      good_on (after_step s (steps.Greeted put)) t xs frames follows.1 flow ended good
      (good_stage (put_stage put.fault s.entered Reading) (quiet_put put.fault s.entered Reading tt))
  good_on s t (steps.Took bytes ∷ xs) frames follows flow ended good stage =
      let b = bytes_in (turns_in xs) in
      good_on (after_step s (steps.Took bytes)) t xs frames follows.1
      (append_assoc s.unmet bytes (b ++ left) ∙ ap (λ l. s.unmet ++ l) (sym (append_assoc bytes b left))
      ∙ ap (λ l. s.unmet ++ (l ++ left)) (sym (bytes_in-append (map Some bytes) (turns_in xs) ∙ ap (λ l. l ++ b) (bytes_in-map bytes))) ∙ flow)
      ended good stage
  good_on s t (steps.Framed met ∷ xs) [] follows flow ended good stage =
      let b = bytes_in (turns_in xs) in
      let no_frame : (frame_bytes met.frame ++ met.rest) ++ (b ++ left) ≡ [] = ap (λ l. l ++ (b ++ left)) (sym follows.0.whole) ∙ flow in
      cc
  good_on s t (steps.Framed met ∷ xs) (f ∷ fs) follows flow ended good stage =
      let b = bytes_in (turns_in xs) in
      let same : frame_bytes met.frame ++ (met.rest ++ (b ++ left)) ≡ frame_bytes f ++ flat_map frame_bytes fs =
      sym (append_assoc (frame_bytes met.frame) met.rest (b ++ left)) ∙ ap (λ l. l ++ (b ++ left)) (sym follows.0.whole) ∙ flow in
      let within = head_within s.talk.role s.talk.rolling s.talk.declares s.talk.flags f fs good in
      let agree = frames_agree met.frame.ext met.frame.kind f.ext f.kind met.frame.payload f.payload (met.rest ++ (b ++ left)) (flat_map frame_bytes fs) follows.0.fits within.0 same in
      let is : met.frame ≡ f = frame_is met.frame f agree.0 agree.1 agree.2 in
      let next = met_good s.talk.flags s.talk met.talk s.entered f fs met.step refl (rw is at follows.0.meets) good in
      good_on (after_step s (steps.Framed met)) t xs fs follows.1 agree.3 ended next.0 next.1
  good_on s t (steps.Refused put ∷ xs) frames follows flow ended good stage = absurd (refuses_none s.stage put stage follows.0)
  good_on s t (steps.Said put ∷ xs) frames follows flow ended good stage =
      good_on (after_step s (steps.Said put)) t xs frames follows.1 flow ended good
      (good_stage (put_stage put.fault s.entered Reading) (quiet_put put.fault s.entered Reading tt))
  good_on s t (steps.Overran len ∷ xs) frames follows flow ended good stage =
      absurd (overran_none s.talk.role s.talk.rolling s.talk.flags s len frames (bytes_in (turns_in xs) ++ left) follows.0 flow good)
  good_on s t (steps.Idled ∷ xs) frames follows flow ended good stage =
      good_on (after_step s steps.Idled) t xs frames follows.1 flow ended good
      (good_stage (news_stage s.entered (s.idles - 1)) (quiet_news s.entered (s.idles - 1)))
  good_on s t (steps.Ended ∷ xs) frames follows flow ended good stage =
      let none = no_more worker (after_step s steps.Ended) t xs (ending s.entered (input_end s.unmet)) follows.1 in
      let all : bytes_in (turns_in xs) ++ left ≡ [] = ap (λ l. bytes_in l ++ left) none ∙ ended refl in
      let whole : s.unmet ≡ flat_map frame_bytes frames = sym (append-nil s.unmet) ∙ ap (λ l. s.unmet ++ l) (sym all) ∙ flow in
      good_on (after_step s steps.Ended) t xs frames follows.1 flow (λ later. ended refl) good
      (good_end s.entered (input_end s.unmet) (whole_end s.talk.role s.talk.rolling s.talk.declares s.talk.flags s.unmet frames whole follows.0.waiting.cut good))
  good_on s t (steps.Missed ∷ xs) frames follows flow ended good stage =
      good_on (after_step s steps.Missed) t xs frames follows.1 flow ended good (good_end s.entered end.ReadFault tt)
  good_on s t (steps.Starved ∷ xs) frames follows flow ended good stage =
      good_on (after_step s steps.Starved) t xs frames follows.1 flow ended good (good_end s.entered end.Memory tt)
  good_on s t (steps.Spent ∷ xs) frames follows flow ended good stage =
      good_on (after_step s steps.Spent) t xs frames follows.1 flow ended good (good_end s.entered end.BytesOut tt)
  good_on s t (steps.Called call put ∷ xs) frames follows flow ended good stage =
      let stays = call_stays s.stage s call put refl stage in
      good_on (after_step s (steps.Called call put)) t xs frames follows.1
      (ap (λ l. l ++ (bytes_in (turns_in xs) ++ left)) stays.unmet ∙ flow) ended
      (rw (stays.role, stays.rolling, stays.declares, stays.flags) good) stays.stage

-- good input leads to no end that blames it
pub ends_good : (worker : ℕ) (manner : Manner) (last : State) (xs : List SessionStep) (reason : SessionEnd) (frames : List FrameValue) (left : List ℕ)
    → Follows worker (new_state manner) xs last → last.stage ≡ Over reason → bytes_in (turns_in xs) ++ left ≡ stream_of frames []
    → (has_ended xs ≡ true → left ≡ []) → AreGood manner.role manner.rolling manner.declares None frames → IsGoodEnd reason
ends_good worker manner last xs reason frames left follows over whole ended good =
    let stage = good_on worker left (new_state manner) last xs frames follows (whole ∙ append-nil (flat_map frame_bytes frames)) ended good tt in
    rw over at stage

-- what is left of the turns that were told
module _ (told : List Turn) (now : Option (List Turn)) (xs : List SessionStep) (brought : BringsSteps (Some told) now (turns_in xs)) where
  pub left_over : List ℕ
  left_over = bytes_in (steps_of brought.0)

  pub whole_told : (frames : List FrameValue) → bytes_in (steps_of told) ≡ stream_of frames [] → bytes_in (turns_in xs) ++ left_over ≡ stream_of frames []
  unfolding left_over
  whole_told frames whole = sym (ap bytes_in brought.2 ∙ bytes_in-append (turns_in xs) (steps_of brought.0)) ∙ whole

  pub none_left : (ended : Bool) → ended ≡ true → TakesAll ended (Some told) (turns_in xs) → left_over ≡ []
  unfolding left_over
  none_left true is all =
      let nil : steps_of brought.0 ≡ [] = append_cancel_left (turns_in xs) (steps_of brought.0) [] (sym brought.2 ∙ all ∙ sym (append-nil (turns_in xs))) in
      ap bytes_in nil
  none_left false is all = cc

pub session_good : {A : Type 0} {worker : A → ℕ} {does : A → PoolCall → A → Type 0} {manner : Manner} {l l' : LinkSeen} {a a' : A} {reason : SessionEnd}
    → IsSession worker does manner l l' a a' reason → (told : List Turn) → l.source.left ≡ Some told → IsGoodInput manner told → IsGoodEnd reason
session_good {worker = worker} {manner = manner} {l = l} {l' = l'} {a = a} {reason = reason} session told is input =
    let runs = session.runs in
    let brought = rw is at runs.took in
    let all = rw is at runs.ended in
    ends_good (worker a) manner session.last runs.steps reason input.frames (left_over told l'.source.left runs.steps brought) runs.follows session.over
    (whole_told told l'.source.left runs.steps brought input.frames input.whole)
    (λ ended. none_left told l'.source.left runs.steps brought (has_ended runs.steps) ended all) input.good
