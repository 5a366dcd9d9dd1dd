-- A session on a link ends well where no count rose, no limit was reached and few had entered.
use Rattle.std.proofs.Common.{◌≡◌, ℕ, ◌<◌, List, [], ◌∷◌, Option, Some, refl, sym, ap, subst, ◌∙◌}
use Rattle.pool_base.specs.Calls.{Outcome, Replied, Faulted}
use Rattle.pool_io.specs.declared.turn.Turn.{Turn}
use Rattle.pool_io.specs.Outside.{AddsBytes, CountsFailure}
use Rattle.pool_io.specs.Steps.{BringsSteps}
use Rattle.pool_network.specs.Seen.{LinkSeen}
use Rattle.pool_history.specs.declared.refusals.BookError.{BookError}
use Rattle.pool_history.specs.declared.refusals.BookError.TheVariants as fault
use Rattle.pool_history.specs.declared.replies.Reply.{Reply}
use Rattle.pool_history.specs.Calls.{PoolCall, has_keeper_failed}
use Rattle.session_steps.specs.declared.ends.SessionEnd.{SessionEnd}
use Rattle.session_steps.specs.declared.manner.Manner.{Manner}
use Rattle.session_steps.specs.Steps.{turns_in}
use Rattle.v2_sessions.specs.Causes.{is_read_end, is_write_end}
use Rattle.v2_sessions.specs.Good.{IsGoodEnd}
use Rattle.v2_sessions.specs.Running.{TakesAll}
use Rattle.v2_sessions.specs.Ends.{has_turned_away, has_unkept}
use Rattle.v2_sessions.proofs.Filling.{few_let_in}
use Rattle.v2_sessions.proofs.Rising.{CountsThrough}
use Rattle.v2_sessions.proofs.Whole.{unhindered_well, unstopped_well}
use Rattle.v1_translate.specs.State.{Terms}
use Rattle.pool_sessions.specs.Courses.{Course, IsCourse, IsGoodSpeech, bytes_on, calls_on, has_ended_on, turns_on}
use Rattle.pool_sessions.proofs.Framing.{course_shows, frame_calls, frame_steps, frame_turns}
use Rattle.pool_server.specs.Calling.{faults_after, faults_through}
use Rattle.pool_server.specs.Visits.{Asking, AsksByPass, IsVisit, ServesGoodLink, ServesLink, Visit, failures_at}

counts_after : (count : ℕ) (outcome : Outcome Reply BookError) → CountsFailure (has_keeper_failed outcome) count (faults_after count outcome)
counts_after count (Replied answer) = refl
counts_after count (Faulted fault.KeeperFault) = refl
counts_after count (Faulted fault.Memory) = refl

-- the count of a pass goes through its calls
through_pass : (count : ℕ) (calls : List PoolCall) → CountsThrough count calls (faults_through count calls)
through_pass count [] = refl
through_pass count (call ∷ calls) =
    (faults_after count call.outcome, counts_after count call.outcome, through_pass (faults_after count call.outcome) calls)

-- a visit, but for that it is complete
pub record IsPlainVisit (terms : Terms) (manner : Manner) (worker : ℕ) (visit : Visit) : Type 0 where
  pub is_course : IsCourse worker terms manner visit.course visit.reason
  pub took : BringsSteps visit.before.source.left visit.after.source.left (turns_on visit.course)
  pub ended : TakesAll (has_ended_on visit.course) visit.before.source.left (turns_on visit.course)
  pub put : AddsBytes visit.before.sink.held visit.after.sink.held (bytes_on visit.course)
  pub reads : CountsFailure (is_read_end visit.reason) visit.before.source.faults visit.after.source.faults
  pub writes : CountsFailure (is_write_end visit.reason) visit.before.sink.faults visit.after.sink.faults

-- a course took what its session of frames would take
brought_frames : (turns left : Option (List Turn)) (told : List Turn) (course : Course) → turns ≡ Some told → BringsSteps turns left (turns_on course)
    → BringsSteps (Some told) left (turns_in (frame_steps course))
brought_frames turns left told course is brought =
    subst (BringsSteps (Some told) left) (sym (frame_turns course)) (subst (λ t. BringsSteps t left (turns_on course)) is brought)

whole_visit : {terms : Terms} {manner : Manner} {worker : ℕ} (visit : Visit) → 0 < manner.idle_turns → IsPlainVisit terms manner worker visit
    → ((turns : List Turn) → visit.before.source.left ≡ Some turns → IsGoodSpeech manner turns → IsGoodEnd visit.reason) → IsVisit terms manner worker visit
whole_visit {terms = terms} {manner = manner} {worker = worker} visit waits plain good = record {
  is_course = plain.is_course;
  took = plain.took;
  ended = plain.ended;
  put = plain.put;
  reads = plain.reads;
  writes = plain.writes;
  complete = λ free.
      unstopped_well manner.idle_turns (frame_steps visit.course) visit.reason free.turns visit.after.source.left
      (course_shows worker terms manner visit.course visit.reason waits plain.is_course)
      (brought_frames visit.before.source.left visit.after.source.left free.turns visit.course free.told plain.took)
      (ap has_turned_away (frame_calls visit.course) ∙ free.let_in) (good free.turns free.told free.good)
      visit.before.source.faults visit.after.source.faults visit.before.sink.faults visit.after.sink.faults
      plain.reads plain.writes free.within free.read free.written (ap has_unkept (frame_calls visit.course) ∙ free.kept);
}

module _ {terms : Terms} {manner : Manner} {before after : LinkSeen} {old new : Asking} {reason : SessionEnd} (course : Course) (waits : 0 < manner.idle_turns)
    (visit : IsPlainVisit terms manner old.pass.worker (record {
      before = before;
      after = after;
      course = course;
      reason = reason;
    })) (asks : AsksByPass old (calls_on course) new)
    (good : (turns : List Turn) → before.source.left ≡ Some turns → IsGoodSpeech manner turns → IsGoodEnd reason) where
  served_well : ServesGoodLink manner before after old new reason
  served_well turns is input free few =
      unhindered_well manner.idle_turns (frame_steps course) reason turns after.source.left
      (course_shows old.pass.worker terms manner course reason waits visit.is_course)
      (brought_frames before.source.left after.source.left turns course is visit.took)
      (ap has_turned_away (frame_calls course) ∙ few_let_in new.pass.seen (calls_on course) asks.goes_on.good few) (good turns is input)
      (failures_at before old) (failures_at after new) visit.reads visit.writes
      (subst (λ calls. CountsThrough old.faults calls new.faults) (sym (frame_calls course))
      (subst (λ n. CountsThrough old.faults (calls_on course) n) (sym asks.faults) (through_pass old.faults (calls_on course)))) free

  pub serves_link : ServesLink terms manner before after old new reason
  serves_link = record { course = course; visit = whole_visit _ waits visit good; asks = asks; complete = served_well }
