-- Where steps lead: a session from its greeting to each of its ends.
use Rattle.std.proofs.Common.{◌≡◌, ℕ, Bool, true, false, None, Some, List, [], ◌∷◌, refl}
use Rattle.pool_base.specs.Calls.{Replied, Faulted}
use Rattle.pool_io.specs.declared.sink.SinkFailed.TheVariants as sink
use Rattle.pool_history.specs.declared.asking.Request.{Request}
use Rattle.pool_history.specs.declared.asking.Request.TheVariants as request
use Rattle.pool_history.specs.declared.events.Role.TheVariants as role
use Rattle.pool_history.specs.declared.refusals.BookError.{BookError}
use Rattle.pool_history.specs.declared.refusals.BookError.TheVariants as fault
use Rattle.pool_history.specs.declared.replies.Reply.{Reply}
use Rattle.pool_history.specs.declared.replies.Reply.TheVariants as reply
use Rattle.pool_history.specs.Calls.{PoolCall}
use Rattle.pool_history.specs.Headers.{Briefing}
use Rattle.session_steps.specs.declared.about.About.TheVariants as topic
use Rattle.session_steps.specs.declared.ends.SessionEnd.TheVariants as end
use Rattle.session_steps.specs.declared.meeting.SetupCode.TheVariants as code
use Rattle.session_steps.specs.declared.meeting.Step.{Step}
use Rattle.session_steps.specs.declared.meeting.Step.TheVariants as step
use Rattle.session_steps.specs.States.{State, Stage, Reading, Refusing, Saying, Asking, Committing, Polling, Leaving, Over, Put, new_state, nothing_put}
use Rattle.session_steps.specs.Steps.{Met, Greeted, Took, Framed, Refused, Said, Overran, Idled, Ended, Missed, Starved, Spent, Called, after_step}
use Rattle.session_steps.proofs.WorkedFrames.{asked, sub}

-- nothing could be put
abbrev pub unput : Put
unput = record { bytes = []; fault = Some sink.Failed }

-- a call that was replied to, and one that failed
abbrev pub replied : Request → ℕ → Reply → PoolCall
replied asks front answer = record {
  worker = 0;
  number = 0;
  front = front;
  faults_before = 0;
  faults_after = 0;
  asked = asks;
  outcome = Replied answer;
  added = [];
}

abbrev pub faulted : Request → BookError → PoolCall
faulted asks cause = record {
  worker = 0;
  number = 0;
  front = 5;
  faults_before = 0;
  faults_after = 1;
  asked = asks;
  outcome = Faulted cause;
  added = [];
}

-- a session at a stage, that entered or not, waits for so many Idle turns more of three, and has these bytes unmet
abbrev pub standing : Stage → Bool → ℕ → List ℕ → State
standing stage entered idles unmet = record {
  talk = asked topic.Nothing;
  stage = stage;
  entered = entered;
  cursor = 2;
  idle_turns = 3;
  idles = idles;
  bytes = 100;
  unmet = unmet;
}

-- a frame that was met, with what the session made of it
abbrev pub met : Step → Met
met made = record {
  frame = record { ext = 0; kind = 0x71; payload = [] };
  rest = [];
  step = made;
  talk = asked topic.Nothing;
}

-- the greeting
pub greeted : (after_step (new_state (record { role = role.Solo; rolling = true; declares = false; idle_turns = 3 })) (Greeted nothing_put)).stage ≡ Reading
greeted = refl

pub greeting_failed : (after_step (new_state (record { role = role.Feed; rolling = true; declares = false; idle_turns = 3 })) (Greeted unput)).stage ≡ Over end.WriteFault
greeting_failed = refl

-- bytes come behind those that aren't met, and the Idle turns count anew
pub bytes_come : after_step (standing Reading true 1 (7 ∷ [])) (Took (8 ∷ 9 ∷ [])) ≡ record (standing Reading true 3 (7 ∷ 8 ∷ 9 ∷ [])) { bytes = 98 }
bytes_come = refl

-- at an Idle turn a session that entered asks for its news, and another waits on
pub idle_polls : after_step (standing Reading true 3 []) Idled ≡ standing Polling true 2 []
idle_polls = refl

pub idle_waits : after_step (standing Reading false 3 []) Idled ≡ standing Reading false 2 []
idle_waits = refl

-- the last Idle turn ends it, once its poll is done
pub last_idle : (after_step (standing Reading false 1 []) Idled).stage ≡ Over end.IdleOut
last_idle = refl

pub last_idle_polls : (after_step (standing Reading true 1 []) Idled).stage ≡ Polling
last_idle_polls = refl

pub last_poll : (after_step (standing Polling true 0 []) (Called (replied (request.Poll 2) 5 (reply.News 5 [])) nothing_put)).stage ≡ Leaving end.IdleOut
last_poll = refl

-- an Enter enters it, and its news come from behind the Enter on
pub entered : after_step (standing (Asking (request.Enter role.Solo 0)) false 3 []) (Called (replied (request.Enter role.Solo 0) 6 (reply.Entered 0)) nothing_put)
    ≡ record (standing Polling true 3 []) { cursor = 7 }
entered = refl

pub full : (after_step (standing (Asking (request.Enter role.Solo 0)) false 3 []) (Called (replied (request.Enter role.Solo 0) 6 (reply.PoolFull 4194304)) nothing_put)).stage
    ≡ Over end.PoolFull
full = refl

-- each later answer is followed by the news, which go on where they ended
pub answered : (after_step (standing (Asking (request.Close 1)) true 3 []) (Called (replied (request.Close 1) 6 reply.Closed) nothing_put)).stage ≡ Polling
answered = refl

pub news_go_on : after_step (standing Polling true 3 []) (Called (replied (request.Poll 2) 9 (reply.News 9 [])) nothing_put) ≡ record (standing Reading true 3 []) { cursor = 9 }
news_go_on = refl

-- a share that was briefed is booked, and another reply to it is followed by the news
pub briefed : (brief : Briefing) → (after_step (record (standing (Asking (request.Brief sub)) true 3 []) { talk = asked (topic.Share sub) })
    (Called (replied (request.Brief sub) 6 (reply.Brief brief)) nothing_put)).stage ≡ Committing brief
briefed brief = refl

-- a put that failed, and a call that failed, end it
pub answer_unput : (after_step (standing (Asking (request.Close 1)) true 3 []) (Called (replied (request.Close 1) 6 reply.Closed) unput)).stage ≡ Leaving end.WriteFault
answer_unput = refl

pub news_unput : (after_step (standing Polling true 3 []) (Called (replied (request.Poll 2) 9 (reply.News 9 [])) unput)).stage ≡ Leaving end.WriteFault
news_unput = refl

pub call_failed : (after_step (standing (Asking (request.Close 1)) true 3 []) (Called (faulted (request.Close 1) fault.KeeperFault) nothing_put)).stage ≡ Leaving end.LedgerFault
call_failed = refl

-- the input ends between two frames, and inside of one
pub done : (after_step (standing Reading true 3 []) Ended).stage ≡ Leaving end.Done
done = refl

pub done_before_setup : (after_step (standing Reading false 3 []) Ended).stage ≡ Over end.Done
done_before_setup = refl

pub cut : (after_step (standing Reading true 3 (0 ∷ 0 ∷ 0x18 ∷ [])) Ended).stage ≡ Leaving (end.CutFrame 3)
cut = refl

-- what else ends it
pub too_long : (after_step (standing Reading true 3 []) (Overran 262145)).stage ≡ Leaving (end.TooLong 262145)
too_long = refl

pub take_failed : (after_step (standing Reading true 3 []) Missed).stage ≡ Leaving end.ReadFault
take_failed = refl

pub memory_wanted : (after_step (standing Reading true 3 []) Starved).stage ≡ Leaving end.Memory
memory_wanted = refl

pub bytes_spent : (after_step (standing Reading true 3 []) Spent).stage ≡ Leaving end.BytesOut
bytes_spent = refl

pub bad_message : (after_step (standing Reading true 3 []) (Framed (met (step.BadMessage 0x71)))).stage ≡ Leaving (end.BadMessage 0x71)
bad_message = refl

pub setup_refused : (after_step (standing Reading false 3 []) (Framed (met (step.RefuseSetup code.Version 0)))).stage ≡ Refusing code.Version 0
setup_refused = refl

pub refusal_put : (after_step (standing (Refusing code.Version 0) false 3 []) (Refused nothing_put)).stage ≡ Over end.BadSetup
refusal_put = refl

pub refusal_unput : (after_step (standing (Refusing code.Version 0) false 3 []) (Refused unput)).stage ≡ Over end.WriteFault
refusal_unput = refl

-- bytes that are said without a request, after which the next turn is taken
pub says : (after_step (standing Reading true 3 []) (Framed (met (step.Say (1 ∷ 2 ∷ []))))).stage ≡ Saying (1 ∷ 2 ∷ [])
says = refl

pub said : (after_step (standing (Saying (1 ∷ 2 ∷ [])) true 3 []) (Said (record { bytes = 1 ∷ 2 ∷ []; fault = None }))).stage ≡ Reading
said = refl

pub unsaid : (after_step (standing (Saying (1 ∷ 2 ∷ [])) true 3 []) (Said unput)).stage ≡ Leaving end.WriteFault
unsaid = refl

-- a session that leaves is over; a leaving that failed is the end of one that was done, and of no other
pub left : (after_step (standing (Leaving end.Done) true 3 []) (Called (replied request.Leave 6 reply.Left) nothing_put)).stage ≡ Over end.Done
left = refl

pub leave_failed : (after_step (standing (Leaving end.Done) true 3 []) (Called (faulted request.Leave fault.KeeperFault) nothing_put)).stage ≡ Over end.LedgerFault
leave_failed = refl

pub leave_failed_later : (after_step (standing (Leaving end.IdleOut) true 3 []) (Called (faulted request.Leave fault.KeeperFault) nothing_put)).stage ≡ Over end.IdleOut
leave_failed_later = refl
