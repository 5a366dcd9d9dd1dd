-- That each share that a session of frames met was answered (Stratum V2, "SubmitShares.Success" and
-- "SubmitShares.Error"; that each is answered by itself is this project's own).
use Rattle.std.specs.Prelude.{◌≡◌, ℕ, true, Some, List, [], ◌∷◌, ◌++◌}
use Rattle.std.specs.List.{AllByRecursion, flat_map}
use Rattle.pool_base.specs.Calls.{Outcome, Replied}
use Rattle.pool_history.specs.declared.asking.Request.{Request}
use Rattle.pool_history.specs.declared.asking.Request.TheVariants as request
use Rattle.pool_history.specs.declared.events.Event.{Event}
use Rattle.pool_history.specs.declared.refusals.BookError.{BookError}
use Rattle.pool_history.specs.declared.replies.Reply.{Reply}
use Rattle.pool_history.specs.declared.replies.Reply.TheVariants as reply
use Rattle.pool_history.specs.declared.settings.Rules.{Rules}
use Rattle.pool_history.specs.declared.shares.Submission.{Submission}
use Rattle.pool_history.specs.Calls.{PoolCall}
use Rattle.pool_history.specs.Codes.{share_code}
use Rattle.pool_history.specs.Sessions.{mines, past_of, rules_of}
use Rattle.session_steps.specs.declared.about.About.TheVariants as topic
use Rattle.session_steps.specs.declared.manner.Manner.{Manner}
use Rattle.session_steps.specs.declared.meeting.Step.{Step}
use Rattle.session_steps.specs.declared.meeting.Step.TheVariants as step
use Rattle.session_steps.specs.Answers.{credit_frames, share_error_frames}
use Rattle.session_steps.specs.States.{State, Reading, IsPutOf, new_state}
use Rattle.session_steps.specs.Steps.{SessionStep, Called, Framed, Follows, bytes_of_frames, calls_in}
use Rattle.pool_promises.specs.Presence.{MakeHistory}

-- the share of a frame that a session met: what it asks for is the share's brief
abbrev pub share_asked : Step → List Submission
share_asked (step.Ask (request.Brief sub)) = sub ∷ []
share_asked _ = []

abbrev pub share_in : SessionStep → List Submission
share_in (Framed met) = share_asked met.step
share_in _ = []

abbrev pub shares_in : List SessionStep → List Submission
shares_in steps = flat_map share_in steps

-- the share that a call's reply answers: one that is refused before its header is hashed, or one that is
-- credited or refused when it is to be booked
abbrev pub share_answered : Request → Outcome Reply BookError → List Submission
share_answered (request.Brief sub) (Replied (reply.Refused failed)) = sub ∷ []
share_answered (request.Commit checked) (Replied (reply.Credited work)) = checked.sub ∷ []
share_answered (request.Commit checked) (Replied (reply.Refused failed)) = checked.sub ∷ []
share_answered _ _ = []

abbrev pub answered_in : SessionStep → List Submission
answered_in (Called call put) = share_answered call.asked call.outcome
answered_in _ = []

abbrev pub shares_answered_in : List SessionStep → List Submission
shares_answered_in steps = flat_map answered_in steps

-- its frame: one SubmitShares.Success with its channel, its sequence number and its work, or one
-- SubmitShares.Error with its channel, its sequence number and the code of what refused it
abbrev pub share_frames : Submission → Outcome Reply BookError → List (List ℕ)
share_frames sub (Replied (reply.Credited work)) = credit_frames (topic.Share sub) work
share_frames sub (Replied (reply.Refused failed)) =
    share_error_frames (topic.Share sub) (share_code failed)
share_frames sub _ = []

-- where a call's reply answers a share, its frame is what was put of it, or a front of that where the put
-- failed, which ends the session
abbrev pub PutsShare : SessionStep → Type 0
PutsShare (Called call put) =
    (sub : Submission) → share_answered call.asked call.outcome ≡ sub ∷ []
    → IsPutOf (bytes_of_frames (share_frames sub call.outcome)) put
PutsShare _ = Unit {0}

-- the pool replies to a share's brief with the brief or a refusal, and to its booking with its work or a
-- refusal; or the call is a fault, which its counts show, or memory ran out
abbrev pub IsShareReply : Request → Outcome Reply BookError → Type 0
IsShareReply (request.Brief sub) (Replied (reply.Brief brief)) = Unit {0}
IsShareReply (request.Brief sub) (Replied (reply.Refused failed)) = Unit {0}
IsShareReply (request.Brief sub) (Replied _) = ⊥
IsShareReply (request.Commit checked) (Replied (reply.Credited work)) = Unit {0}
IsShareReply (request.Commit checked) (Replied (reply.Refused failed)) = Unit {0}
IsShareReply (request.Commit checked) (Replied _) = ⊥
IsShareReply _ _ = Unit {0}

abbrev pub AnswersShareCall : PoolCall → Type 0
AnswersShareCall call = IsShareReply call.asked call.outcome

-- each share that a session of frames met was answered, by itself
pub record AnswersShares (worker : ℕ) (manner : Manner) (steps : List SessionStep) : Type 0 where
  pub calls : AllByRecursion AnswersShareCall (calls_in steps)
  -- whenever the next frame is waited for, the shares that were met are just those that were answered, in
  -- their order
  pub shares : (front back : List SessionStep) (reached : State) → steps ≡ front ++ back
      → Follows worker (new_state manner) front reached → reached.stage ≡ Reading
      → shares_in front ≡ shares_answered_in front
  pub puts : AllByRecursion PutsShare steps

-- steps of a miner's session, over or not, whose calls stand in a row among its worker's, on a history that
-- had rules at the start
abbrev pub FrameSessionsAreAnswered : Type 0
FrameSessionsAreAnswered =
    (start history : List Event) (least most worker : ℕ) (earlier later others : List PoolCall)
    (manner : Manner) (steps : List SessionStep) (last : State) (rules : Rules)
    → rules_of (past_of start) ≡ Some rules → mines manner.role ≡ true
    → Follows worker (new_state manner) steps last
    → MakeHistory start history least most worker (earlier ++ (calls_in steps ++ later)) others
    → AnswersShares worker manner steps
