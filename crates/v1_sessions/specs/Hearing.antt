-- What is heard, told and asked, part by part (this project's own).
use Rattle.std.specs.Prelude.{◌≡◌, ℕ, ◌++◌, Option, Some, IfSome, OnOk, Result, Ok, Err, List, option_map}
use Rattle.std.specs.declared.alloc.AllocError.{AllocError}
use Rattle.pool_io.specs.declared.sink.SinkFailed.{SinkFailed}
use Rattle.pool_network.specs.Seen.{LinkSeen}
use Rattle.pool_history.specs.declared.asking.Request.TheVariants as request
use Rattle.pool_history.specs.declared.refusals.BookError.{BookError}
use Rattle.pool_history.specs.declared.replies.Reply.{Reply}
use Rattle.pool_history.specs.declared.replies.Reply.TheVariants as reply
use Rattle.pool_history.specs.Calls.{PoolCall}
use Rattle.v2_sessions.specs.declared.acting.Acted.{Acted}
use Rattle.v2_sessions.specs.declared.conversation.AfterReply.{AfterReply}
use Rattle.v2_sessions.specs.declared.conversation.AfterReply.TheVariants as after
use Rattle.v2_sessions.specs.Answerers.{MakesCall}
use Rattle.v2_sessions.specs.Links.{PutsOut, fault_of}
use Rattle.v2_sessions.specs.Meeting.{LeadsTo}
use Rattle.v2_sessions.specs.Standing.{Intake}
use Rattle.session_steps.specs.declared.about.About.TheVariants as topic
use Rattle.session_steps.specs.declared.ends.SessionEnd.{SessionEnd}
use Rattle.session_steps.specs.declared.ends.SessionEnd.TheVariants as end
use Rattle.session_steps.specs.States.{Stage, answered_stage, fault_end, put_stage}
use Rattle.session_steps.specs.Steps.{bytes_of_frames}
use Rattle.v1_translate.specs.Lines.{line_reaction}
use Rattle.v1_translate.specs.State.{Terms, V1State}
use Rattle.v1_sessions.specs.declared.asking.Wish.{Wish}
use Rattle.v1_sessions.specs.declared.conversation.LineConversation.{LineConversation}
use Rattle.v1_sessions.specs.declared.telling.Telling.{Telling}
use Rattle.v1_sessions.specs.Asking.{IsWish, heard_by, wish_request}
use Rattle.v1_sessions.specs.Running.{RunsLines}
use Rattle.v1_sessions.specs.Standing.{LeadsOn, conversation_after, line_state}
use Rattle.v1_sessions.specs.Requests.{IsRequestFor}
use Rattle.v1_sessions.specs.States.{LineState, lines_after, lines_said, v1_after}

-- all that a reply tells was told, and the lines were put, or a front of them
pub record TellsAll (terms : Terms) (telling : Telling) (old : LineConversation) (answer : Reply)
    (link : LinkSeen) (result : Result Unit SinkFailed) (new : LineConversation)
    (link' : LinkSeen) : Type 0 where
  pub puts : PutsOut
      (bytes_of_frames (lines_after terms old.v1 (heard_by telling old.session.about answer)))
      (fault_of result) link link'
  pub told : OnOk result
      (new.v1 ≡ v1_after terms old.v1 (heard_by telling old.session.about answer))
  pub same : new ≡ record old { v1 = new.v1 }

-- what stands where a session isn't over
abbrev pub IfGoesOn : AfterReply → Type 0 → Type 0
IfGoesOn (after.End reason) stands = Unit {0}
IfGoesOn _ stands = stands

-- a reply is heard and answered
pub record HearsReply (terms : Terms) (telling : Telling) (old : LineConversation) (front : ℕ)
    (answer : Reply) (link link' : LinkSeen) (next : AfterReply) (new : LineConversation) :
    Type 0 where
  pub fault : Option SinkFailed
  pub put : PutsOut
      (bytes_of_frames (lines_after terms old.v1 (heard_by telling old.session.about answer)))
      fault link link'
  pub told : IfGoesOn next
      (new.v1 ≡ v1_after terms old.v1 (heard_by telling old.session.about answer))
  pub same : new ≡ record (conversation_after old front answer) { v1 = new.v1 }
  pub leads : (idles : ℕ) → LeadsTo next new.session.about new.entered idles
      (put_stage fault new.entered
      (answered_stage new.session.about new.entered idles answer))

-- a request is made, and leads to a stage
pub record Asks {A : Type 0} (worker : A → ℕ) (does : A → PoolCall → A → Type 0)
    (terms : Terms) (from : LineState) (intake : Intake) (new : LineConversation)
    (next : AfterReply) (link link' : LinkSeen) (acting acting' : A) : Type 0 where
  pub stage : Stage
  pub leads : LeadsTo next new.session.about new.entered intake.idles stage
  pub v1 : V1State
  pub v1_is : IfGoesOn next (v1 ≡ new.v1)
  pub runs : RunsLines worker does terms from
      (record (line_state stage intake new) { v1 = v1 }) link link' acting acting'

-- it is set up without flags
abbrev pub set_up : LineConversation → LineConversation
set_up c =
    record c { session = record c.session { flags = Some 0; about = topic.Nothing } }

-- what became of an Enter
abbrev pub enter_result : Result Reply BookError → Result Unit SessionEnd
enter_result (Err cause) = Err (fault_end cause)
enter_result (Ok (reply.PoolFull most)) = Err end.PoolFull
enter_result (Ok _) = Ok tt

abbrev pub entered_so : LineConversation → ℕ → Result Reply BookError → LineConversation
entered_so c front (Err cause) = c
entered_so c front (Ok answer) = conversation_after c front answer

pub record EntersFor {A : Type 0} (worker : A → ℕ) (does : A → PoolCall → A → Type 0)
    (old new : LineConversation) (result : Result Unit SessionEnd) (acting acting' : A) :
    Type 0 where
  pub acted : Acted
  pub called : MakesCall worker does acting (request.Enter old.session.role 0) acted acting'
  pub ends : result ≡ enter_result acted.outcome
  pub new_is : new ≡ entered_so (set_up old) acted.front acted.outcome

-- a line was answered, and asks this
pub record SaysWish (terms : Terms) (line : List ℕ) (old new : LineConversation)
    (before after : List ℕ) (wish : Option Wish) : Type 0 where
  pub state : new.v1 ≡ (line_reaction terms old.v1 line).after
  pub lines : after ≡ before ++ lines_said (line_reaction terms old.v1 line).says
  pub asks : IsRequestFor (line_reaction terms old.v1 line).after.channel
      (line_reaction terms old.v1 line).asks (option_map wish_request wish)
  pub wishes : IfSome wish IsWish

abbrev pub SaysTo : Terms → List ℕ → LineConversation → LineConversation → List ℕ → List ℕ
    → Result (Option Wish) AllocError → Type 0
SaysTo terms line old new before after (Ok wish) =
    (new ≡ record old { v1 = new.v1 }) × SaysWish terms line old new before after wish
SaysTo terms line old new before after (Err error) = new ≡ record old { v1 = new.v1 }

-- a line was heard: it isn't unmet any more, unless the session is over
pub record HearsOneLine {A : Type 0} (worker : A → ℕ) (does : A → PoolCall → A → Type 0)
    (terms : Terms) (from : LineState) (stage : Stage) (kept : Intake) (new : LineConversation)
    (result : Result Unit SessionEnd) (link link' : LinkSeen) (acting acting' : A) : Type 0 where
  pub intake : Intake
  pub kept_is : OnOk result (intake ≡ kept)
  pub leads : LeadsOn worker does terms from stage intake new result link link' acting acting'
