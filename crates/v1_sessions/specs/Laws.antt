-- What holds of each session of lines (this project's own).
use Rattle.std.specs.Prelude.{◌≡◌, ℕ, Bool, Option, None, Some, List, [], ◌∷◌, ◌++◌, reverse}
use Rattle.std.specs.List.{AllByRecursion, flat_map}
use Rattle.serde_json.specs.Data.{Data}
use Rattle.pool_base.specs.Calls.{Outcome, Replied, Faulted}
use Rattle.pool_io.specs.Steps.{bytes_in}
use Rattle.pool_history.specs.declared.asking.Request.{Request}
use Rattle.pool_history.specs.declared.asking.Request.TheVariants as request
use Rattle.pool_history.specs.declared.refusals.BookError.{BookError}
use Rattle.pool_history.specs.declared.replies.Reply.{Reply}
use Rattle.pool_history.specs.declared.replies.Reply.TheVariants as reply
use Rattle.pool_history.specs.Calls.{PoolCall}
use Rattle.v1_lines.specs.Lines.{line_bytes}
use Rattle.session_steps.specs.declared.manner.Manner.{Manner}
use Rattle.session_steps.specs.States.{Reading}
use Rattle.v1_translate.specs.Heard as v1
use Rattle.v1_translate.specs.Laws.{answered_in, how_many, requests_in}
use Rattle.v1_translate.specs.Sessions.{said_after, state_after}
use Rattle.v1_translate.specs.State.{Terms}
use Rattle.v1_sessions.specs.Requests.{LineRequest}
use Rattle.v1_sessions.specs.States.{LineState, lines_said, new_line_state}
use Rattle.v1_sessions.specs.Steps.{Called, Follows, Heard, LineStep, after_step, bytes_of, calls_of, put_of, turns_of}
use Rattle.v1_sessions.specs.Told.{heard_of}

-- the lines that were heard
abbrev pub line_in : LineStep → List (List ℕ)
line_in (Heard line rest wish put) = line ∷ []
line_in _ = []

abbrev pub lines_in : List LineStep → List (List ℕ)
lines_in steps = flat_map line_in steps

-- all that a session heard: its lines, and what the answers of its calls told, in their order
abbrev pub heard_by_call : Option LineRequest → LineState → Outcome Reply BookError → List v1.Heard
heard_by_call (Some wish) s outcome = []
heard_by_call None s (Faulted cause) = []
heard_by_call None s (Replied answer) = heard_of s.pool.stage s.pool.talk.about answer

abbrev pub heard_in : LineState → LineStep → List v1.Heard
heard_in s (Heard line rest wish put) = v1.Line line ∷ []
heard_in s (Called call put) = heard_by_call s.next s call.outcome
heard_in s _ = []

abbrev pub all_heard : Terms → LineState → List LineStep → List v1.Heard
all_heard terms s [] = []
all_heard terms s (step ∷ steps) =
    heard_in s step ++ all_heard terms (after_step terms s step) steps

-- however the bytes came, those that were taken are the lines that were heard, each with its end, and
-- then what isn't heard
abbrev pub TakenIsHeard : Type 0
TakenIsHeard =
    (worker : ℕ) (terms : Terms) (manner : Manner) (steps : List LineStep) (last : LineState)
    → Follows worker terms (new_line_state manner) steps last
    → bytes_in (turns_of steps) ≡ line_bytes (lines_in steps) ++ last.pool.unmet

-- what a session knows is the fold over all that it heard
abbrev pub SessionsAreFolds : Type 0
SessionsAreFolds =
    (worker : ℕ) (terms : Terms) (manner : Manner) (steps : List LineStep) (last : LineState)
    → Follows worker terms (new_line_state manner) steps last
    → last.v1 ≡ state_after terms (reverse (all_heard terms (new_line_state manner) steps))

-- no put failed
abbrev pub ArePut : List LineStep → Type 0
ArePut [] = Unit {0}
ArePut (step ∷ steps) = ((put_of step).fault ≡ None) × ArePut steps

-- and what it put is the lines of what it says to that
abbrev pub SaidIsPut : Type 0
SaidIsPut =
    (worker : ℕ) (terms : Terms) (manner : Manner) (steps : List LineStep) (last : LineState)
    → Follows worker terms (new_line_state manner) steps last → ArePut steps
    → bytes_of steps
    ≡ lines_said (said_after terms (reverse (all_heard terms (new_line_state manner) steps)))

-- ---- answers

-- a reply to this request, and not that there is no session
abbrev pub IsReplyTo : Request → Reply → Type 0
IsReplyTo (request.Enter role flags) (reply.Entered session) = Unit {0}
IsReplyTo (request.Enter role flags) (reply.PoolFull most) = Unit {0}
IsReplyTo (request.Open ask) (reply.Opened opened) = Unit {0}
IsReplyTo (request.Open ask) (reply.OpenRefused error) = Unit {0}
IsReplyTo (request.Name channel identity) reply.Named = Unit {0}
IsReplyTo (request.Name channel identity) (reply.NameRefused error) = Unit {0}
IsReplyTo (request.Update channel target) (reply.Target there class) = Unit {0}
IsReplyTo (request.Update channel target) (reply.UpdateRefused error) = Unit {0}
IsReplyTo (request.Brief sub) (reply.Brief brief) = Unit {0}
IsReplyTo (request.Brief sub) (reply.Refused failed) = Unit {0}
IsReplyTo (request.Commit checked) (reply.Credited work) = Unit {0}
IsReplyTo (request.Commit checked) (reply.Refused failed) = Unit {0}
IsReplyTo (request.Poll from) (reply.News at notes) = Unit {0}
IsReplyTo request.Leave reply.Left = Unit {0}
IsReplyTo _ _ = ⊥

-- a call was answered so, or by a fault
abbrev pub IsAnsweredBy : Request → Outcome Reply BookError → Type 0
IsAnsweredBy asked (Replied answer) = IsReplyTo asked answer
IsAnsweredBy asked (Faulted cause) = Unit {0}

abbrev pub IsAnswered : PoolCall → Type 0
IsAnswered call = IsAnsweredBy call.asked call.outcome

-- where each call was, each id is answered just as often as it was asked, whenever the next line is
-- waited for
abbrev pub RequestsAreAnswered : Type 0
RequestsAreAnswered =
    (worker : ℕ) (terms : Terms) (manner : Manner) (steps : List LineStep) (last : LineState)
    → Follows worker terms (new_line_state manner) steps last
    → AllByRecursion IsAnswered (calls_of steps) → last.pool.stage ≡ Reading
    → (test : Data → Bool)
    → how_many test
    (answered_in (said_after terms (reverse (all_heard terms (new_line_state manner) steps))))
    ≡ how_many test (requests_in (reverse (all_heard terms (new_line_state manner) steps)))
