-- The moves of a session, by what its code did.
use Rattle.std.proofs.Common.{◌≡◌, ℕ, ◌<◌, Bool, true, false, List, [], Option, Some, None, Result, Ok, Err, refl, sym, ap, subst, ◌∙◌, arith, suc, zero}
use Rattle.std.proofs.Math.Dec.{eqb-suc-zero}
use Rattle.std.specs.Prelude.{if◌then◌else◌}
use Rattle.pool_base.specs.Calls.{Replied}
use Rattle.pool_io.specs.declared.sink.SinkFailed.{SinkFailed}
use Rattle.pool_io.specs.declared.sink.SinkFailed.TheVariants as sink
use Rattle.pool_io.proofs.Puts.{Adds-none}
use Rattle.pool_network.specs.Seen.{LinkSeen}
use Rattle.pool_history.specs.declared.asking.Request.{Request}
use Rattle.pool_history.specs.declared.asking.Request.TheVariants as request
use Rattle.pool_history.specs.declared.refusals.BookError.{BookError}
use Rattle.pool_history.specs.declared.replies.Reply.{Reply}
use Rattle.pool_history.specs.declared.replies.Reply.TheVariants as reply
use Rattle.pool_history.specs.Calls.{PoolCall}
use Rattle.pool_history.specs.Headers.{Briefing}
use Rattle.session_steps.specs.declared.about.About.{About}
use Rattle.session_steps.specs.declared.about.About.TheVariants as topic
use Rattle.session_steps.specs.declared.ends.SessionEnd.{SessionEnd}
use Rattle.session_steps.specs.declared.ends.SessionEnd.TheVariants as end
use Rattle.session_steps.specs.Answers.{answer_frames}
use Rattle.session_steps.specs.States.{State, Stage, Asking, Committing, Over, Polling, Reading, Put, answered_stage, briefed_stage, cursor_after, cursor_behind, end_stage, entered_after, failed_end, fault_end, is_booked, news_stage, next_stage, nothing_put, put_stage}
use Rattle.session_steps.specs.Steps.{Books, PutsAnswer, PutsHeard, after_asking, after_booking, after_news, bytes_of_frames, end_after}
use Rattle.session_steps.specs.Talks.{Talk, heard}
use Rattle.v2_sessions.specs.declared.acting.Acted.{Acted}
use Rattle.v2_sessions.specs.declared.conversation.Conversation.{Conversation}
use Rattle.v2_sessions.specs.declared.conversation.AfterReply.{AfterReply}
use Rattle.v2_sessions.specs.declared.conversation.AfterReply.TheVariants as after
use Rattle.v2_sessions.specs.Answerers.{MakesCall, outcome_of}
use Rattle.v2_sessions.specs.Links.{PutsOut}
use Rattle.v2_sessions.specs.Meeting.{Hears, IsAfterAnswer, LeadsTo, Leaves}
use Rattle.v2_sessions.specs.Running.{Runs}
use Rattle.v2_sessions.specs.Standing.{Intake, stage_or, state_at}
use Rattle.v2_sessions.proofs.Chains.{runs_ask, runs_call, runs_none}

abbrev pub put_end : Option SinkFailed → Result Unit SessionEnd
put_end None = Ok tt
put_end (Some cause) = Err (failed_end cause)

-- a put that failed ends a session, and else it goes on
pub put_stage_or : (fault : Option SinkFailed) (entered : Bool) (stage : Stage) → stage_or stage entered (put_end fault) ≡ put_stage fault entered stage
put_stage_or None entered stage = refl
put_stage_or (Some sink.Failed) entered stage = refl
put_stage_or (Some sink.Memory) entered stage = refl

-- how a call ended, by what became of the request
outcome_at : {A : Type 0} {worker : A → ℕ} {does : A → PoolCall → A → Type 0} {a a' : A} {asked : Request} {acted : Acted} (outcome : Result Reply BookError)
    → (made : MakesCall worker does a asked acted a') → acted.outcome ≡ outcome → made.call.outcome ≡ outcome_of outcome
outcome_at outcome made is = made.outcome_is ∙ ap outcome_of is

module _ {A : Type 0} {worker : A → ℕ} {does : A → PoolCall → A → Type 0} {l : LinkSeen} {a a' : A} {acted : Acted} (intake : Intake) (old : Conversation) where
  pub poll_faulted : (cause : BookError) → MakesCall worker does a (request.Poll old.cursor) acted a' → acted.outcome ≡ Err cause
      → Runs worker does (state_at Polling intake old) (state_at (end_stage old.entered (fault_end cause)) intake old) l l a a'
  poll_faulted cause made is =
      let s = state_at Polling intake old in
      let outcome = outcome_at (Err cause) made is in
      runs_ask made
      (made.asked_is, subst (λ o. PutsAnswer s.talk o nothing_put) (sym outcome) refl)
      (sym (ap (λ o. after_news s o nothing_put) outcome))

  pub book_faulted : (brief : Briefing) (booking : Request) (cause : BookError) → Books old.session.about brief booking → MakesCall worker does a booking acted a' → acted.outcome ≡ Err cause
      → Runs worker does (state_at (Committing brief) intake old) (state_at (end_stage old.entered (fault_end cause)) intake old) l l a a'
  book_faulted brief booking cause books made is =
      let s = state_at (Committing brief) intake old in
      let outcome = outcome_at (Err cause) made is in
      runs_ask made
      (subst (λ asked. Books old.session.about brief asked) (sym made.asked_is) books, subst (λ o. PutsAnswer s.talk o nothing_put) (sym outcome) refl)
      (sym (ap (λ o. after_booking s o nothing_put) outcome))

  pub ask_faulted : (asked : Request) (cause : BookError) → MakesCall worker does a asked acted a' → acted.outcome ≡ Err cause
      → Runs worker does (state_at (Asking asked) intake old) (state_at (end_stage old.entered (fault_end cause)) intake old) l l a a'
  ask_faulted asked cause made is =
      let s = state_at (Asking asked) intake old in
      let outcome = outcome_at (Err cause) made is in
      runs_ask made
      (made.asked_is, subst (λ o. PutsHeard s.talk o nothing_put) (sym outcome) refl)
      (sym (ap (λ o. after_asking s made.call.front o nothing_put) outcome))

module _ {A : Type 0} {worker : A → ℕ} {does : A → PoolCall → A → Type 0} {l l' : LinkSeen} {a a' : A} {acted : Acted} (intake : Intake) (old : Conversation) where
  pub poll_answered : (answer : Reply) (fault : Option SinkFailed) (cursor : ℕ) → MakesCall worker does a (request.Poll old.cursor) acted a' → acted.outcome ≡ Ok answer
      → PutsOut (bytes_of_frames (answer_frames old.session answer)) fault l l' → cursor ≡ cursor_after old.cursor answer
      → Runs worker does (state_at Polling intake old)
      (state_at (stage_or (next_stage old.entered intake.idles) old.entered (put_end fault)) intake (record old { cursor = cursor })) l l' a a'
  poll_answered answer fault cursor made is puts told =
      let s = state_at Polling intake old in
      let put : Put = record { bytes = puts.bytes; fault = fault } in
      let outcome = outcome_at (Ok answer) made is in
      runs_call made (bytes_of_frames (answer_frames old.session answer)) fault puts
      (made.asked_is, subst (λ o. PutsAnswer s.talk o put) (sym outcome) puts.front)
      (ap (λ stage. state_at stage intake (record old { cursor = cursor })) (put_stage_or fault old.entered (next_stage old.entered intake.idles))
      ∙ ap (λ n. state_at (put_stage fault old.entered (next_stage old.entered intake.idles)) intake (record old { cursor = n })) told
      ∙ sym (ap (λ o. after_news s o put) outcome))

  pub book_answered : (brief : Briefing) (booking : Request) (answer : Reply) (fault : Option SinkFailed) → Books old.session.about brief booking → MakesCall worker does a booking acted a'
      → acted.outcome ≡ Ok answer → PutsOut (bytes_of_frames (answer_frames old.session answer)) fault l l'
      → Runs worker does (state_at (Committing brief) intake old)
      (state_at (stage_or (news_stage old.entered intake.idles) old.entered (put_end fault)) intake old) l l' a a'
  book_answered brief booking answer fault books made is puts =
      let s = state_at (Committing brief) intake old in
      let put : Put = record { bytes = puts.bytes; fault = fault } in
      let outcome = outcome_at (Ok answer) made is in
      runs_call made (bytes_of_frames (answer_frames old.session answer)) fault puts
      (subst (λ asked. Books old.session.about brief asked) (sym made.asked_is) books, subst (λ o. PutsAnswer s.talk o put) (sym outcome) puts.front)
      (ap (λ stage. state_at stage intake old) (put_stage_or fault old.entered (news_stage old.entered intake.idles)) ∙ sym (ap (λ o. after_booking s o put) outcome))

  pub ask_answered : (asked : Request) (answer : Reply) (next : AfterReply) (new : Conversation) → MakesCall worker does a asked acted a' → acted.outcome ≡ Ok answer
      → (hears : Hears old acted.front answer l l' next new)
      → (stage : Stage) × LeadsTo next new.session.about new.entered intake.idles stage
      × Runs worker does (state_at (Asking asked) intake old) (state_at stage intake new) l l' a a'
  ask_answered asked answer next new made is hears =
      let s = state_at (Asking asked) intake old in
      let put : Put = record { bytes = hears.put.bytes; fault = hears.fault } in
      let outcome = outcome_at (Ok answer) made is in
      let stage = put_stage hears.fault new.entered (answered_stage new.session.about new.entered intake.idles answer) in (
        stage,
        hears.leads intake.idles,
        runs_call made (bytes_of_frames (answer_frames (heard old.session answer) answer)) hears.fault hears.put
            (made.asked_is, subst (λ o. PutsHeard s.talk o put) (sym outcome) hears.put.front)
            (hears_state old new answer hears.fault made.call.front acted.front (sym made.front_is) hears.talk hears.entered hears.cursor put
            ∙ sym (ap (λ o. after_asking s made.call.front o put) outcome)),
      )
    where
      hears_state : (c d : Conversation) (answer : Reply) (fault : Option SinkFailed) (front told : ℕ) → told ≡ front → d.session ≡ heard c.session answer
          → d.entered ≡ entered_after c.entered answer → d.cursor ≡ cursor_behind c.cursor told answer → (put : Put)
          → state_at (put_stage put.fault d.entered (answered_stage d.session.about d.entered intake.idles answer)) intake d
          ≡ after_asking (state_at (Asking asked) intake c) front (Replied answer) put
      hears_state c d answer fault front told same talk entered cursor put = rw (talk, entered, cursor, same) refl

-- a share that is booked with its brief was briefed
pub booked_stage : (about : About) (brief : Briefing) (asked : Request) (stage : Stage) → Books about brief asked → briefed_stage about brief stage ≡ Committing brief
booked_stage (topic.Share sub) brief asked stage books = refl
booked_stage topic.Nothing brief asked stage books = absurd books
booked_stage (topic.Opening request_id kind) brief asked stage books = absurd books
booked_stage (topic.Channel channel) brief asked stage books = absurd books
booked_stage (topic.Token request_id) brief asked stage books = absurd books
booked_stage (topic.OwnJob channel request_id) brief asked stage books = absurd books
booked_stage (topic.Declared request_id) brief asked stage books = absurd books

unbooked_stage : (about : About) (brief : Briefing) (stage : Stage) → is_booked about (reply.Brief brief) ≡ false → briefed_stage about brief stage ≡ stage
unbooked_stage (topic.Share sub) brief stage booked = cc
unbooked_stage topic.Nothing brief stage booked = refl
unbooked_stage (topic.Opening request_id kind) brief stage booked = refl
unbooked_stage (topic.Channel channel) brief stage booked = refl
unbooked_stage (topic.Token request_id) brief stage booked = refl
unbooked_stage (topic.OwnJob channel request_id) brief stage booked = refl
unbooked_stage (topic.Declared request_id) brief stage booked = refl

-- an answer that was put leads to the news, or to the end of the session
pub answered_leads : (answer : Reply) (next : AfterReply) (about : About) (entered : Bool) (idles : ℕ) → is_booked about answer ≡ false → IsAfterAnswer answer next
    → LeadsTo next about entered idles (answered_stage about entered idles answer)
answered_leads (reply.PoolFull most) next about entered idles booked is = rw is refl
answered_leads (reply.Brief brief) next about entered idles booked is = rw is (unbooked_stage about brief (news_stage entered idles) booked)
answered_leads _ next about entered idles booked is = rw is refl

pub failed_leads : (cause : SinkFailed) (entered : Bool) (stage : Stage) → put_stage (Some cause) entered stage ≡ end_stage entered (failed_end cause)
failed_leads sink.Failed entered stage = refl
failed_leads sink.Memory entered stage = refl

-- nothing was put, and nothing had to be
pub puts_none : {l : LinkSeen} (whole : List ℕ) → whole ≡ [] → PutsOut whole None l l
puts_none {l = l} whole none = record {
  bytes = [];
  front = sym none;
  added = Adds-none l.sink.held;
  source = refl;
  writes = refl;
}

-- memory ran out for what was to be put
pub puts_wanted : {l : LinkSeen} (whole : List ℕ) → PutsOut whole (Some sink.Memory) l l
puts_wanted {l = l} whole = record {
  bytes = [];
  front = (whole, refl);
  added = Adds-none l.sink.held;
  source = refl;
  writes = refl;
}

-- a share that was briefed is answered with no frame
pub brief_frames : (talk : Talk) (answer : Reply) (brief : Briefing) → answer ≡ reply.Brief brief → bytes_of_frames (answer_frames talk answer) ≡ []
brief_frames talk answer brief is = rw is refl

pub briefed_leads : (answer : Reply) (brief : Briefing) (booking : Request) (about : About) (entered : Bool) (idles : ℕ) → answer ≡ reply.Brief brief → Books about brief booking
    → LeadsTo (after.Book booking) about entered idles (answered_stage about entered idles answer)
briefed_leads answer brief booking about entered idles is books =
    (brief, books, ap (answered_stage about entered idles) is ∙ booked_stage about brief booking (news_stage entered idles) books)

module _ {A : Type 0} {worker : A → ℕ} {does : A → PoolCall → A → Type 0} {l : LinkSeen} {a a' : A} (intake : Intake) (c : Conversation) where
  -- the leaving, where it entered
  left_at : (entered : Bool) (reason last : SessionEnd) → Leaves worker does entered reason a last a'
      → Runs worker does (state_at (end_stage entered reason) intake c) (state_at (Over last) intake c) l l a a'
  left_at true reason last leaves =
      runs_ask leaves.called (leaves.called.asked_is, refl)
      (ap (λ e. state_at (Over e) intake c) (leaves.ends ∙ sym (ap (end_after reason) leaves.called.outcome_is)))
  left_at false reason last leaves = rw leaves.1 (runs_none (ap (λ e. state_at (Over e) intake c) leaves.0))

  pub left_runs : (reason last : SessionEnd) → Leaves worker does c.entered reason a last a'
      → Runs worker does (state_at (end_stage c.entered reason) intake c) (state_at (Over last) intake c) l l a a'
  left_runs reason last leaves = left_at c.entered reason last leaves

-- a session that entered is told its news
pub news_polls : {A : Type 0} {worker : A → ℕ} {does : A → PoolCall → A → Type 0} {l l' : LinkSeen} {a a' : A} (intake : Intake) (old : Conversation) (t : State)
    → old.entered ≡ true → Runs worker does (state_at Polling intake old) t l l' a a'
    → Runs worker does (state_at (news_stage old.entered intake.idles) intake old) t l l' a a'
news_polls {worker = worker} {does = does} {l = l} {l' = l'} {a = a} {a' = a'} intake old t entered runs =
    subst (λ b. Runs worker does (state_at (news_stage b intake.idles) intake old) t l l' a a') (sym entered) runs

-- and one that didn't has none
pub news_none : {A : Type 0} {worker : A → ℕ} {does : A → PoolCall → A → Type 0} {l : LinkSeen} {a : A} (intake : Intake) (old : Conversation)
    → old.entered ≡ false
    → Runs worker does (state_at (news_stage old.entered intake.idles) intake old) (state_at (next_stage old.entered intake.idles) intake old) l l a a
news_none intake old entered = runs_none (ap (λ stage. state_at stage intake old) (same_stage old.entered entered))
  where
    same_stage : (b : Bool) → b ≡ false → next_stage b intake.idles ≡ news_stage b intake.idles
    same_stage false is = refl
    same_stage true is = cc

-- the next turn is taken, where no limit was reached
pub next_reads : (entered : Bool) (idles : ℕ) → 0 < idles → next_stage entered idles ≡ Reading
next_reads entered zero some = absurd (omega (arith, some))
next_reads entered (suc n) some = ap (λ b. if b then end_stage entered end.IdleOut else Reading) (eqb-suc-zero n)
