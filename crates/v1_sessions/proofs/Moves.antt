-- The moves of a session of lines, by what its code did.
use Rattle.std.proofs.Common.{◌≡◌, ℕ, ◌-◌, ◌<◌, ◌++◌, ◌∷◌, Bool, true, false, List, [], Option, Some, None, Result, Ok, Err, map, refl, sym, ap, subst, ◌∙◌}
use Rattle.std.specs.Prelude.{◌==◌, is_some, if◌then◌else◌, IfOk, IfSome, OnOk, option_map}
use Rattle.std.specs.declared.alloc.AllocError.{AllocError}
use Rattle.pool_base.specs.Calls.{Outcome, Replied, Faulted}
use Rattle.pool_io.specs.Seen.{SinkSeen}
use Rattle.pool_io.specs.declared.source.Took.TheVariants as took
use Rattle.pool_io.proofs.Stepping.{brought_idle, brought_none}
use Rattle.pool_io.specs.declared.sink.SinkFailed.{SinkFailed}
use Rattle.pool_network.specs.Seen.{LinkSeen}
use Rattle.pool_history.specs.declared.asking.Request.{Request}
use Rattle.pool_history.specs.declared.asking.Request.TheVariants as request
use Rattle.pool_history.specs.declared.refusals.BookError.{BookError}
use Rattle.pool_history.specs.declared.replies.Reply.{Reply}
use Rattle.pool_history.specs.declared.replies.Reply.TheVariants as reply
use Rattle.pool_history.specs.declared.shares.Submission.{Submission}
use Rattle.pool_history.specs.Calls.{PoolCall}
use Rattle.pool_history.specs.Headers.{Briefing}
use Rattle.v1_lines.specs.Lines.{IsLineText}
use Rattle.line_turns.specs.Hearing.{CanTakeTurn, GoesOnOr, Hearing, after_idle, intake_at, with_idle}
use Rattle.link_turns.specs.declared.waiting.Waiting.{Waiting}
use Rattle.link_turns.specs.Waits.{TakesOf}
use Rattle.pool_io.proofs.Puts.{Adds-none}
use Rattle.session_steps.specs.declared.manner.Manner.{Manner}
use Rattle.session_steps.specs.declared.about.About.{About}
use Rattle.session_steps.specs.declared.about.About.TheVariants as topic
use Rattle.session_steps.specs.declared.ends.SessionEnd.{SessionEnd}
use Rattle.session_steps.specs.declared.ends.SessionEnd.TheVariants as end
use Rattle.session_steps.specs.States.{Stage, Asking, Committing, IsPutBy, Leaving, Over, Polling, Put, Reading, answered_stage, cursor_after, cursor_behind, end_stage, entered_after, failed_end, fault_end, news_stage, next_stage, nothing_put, put_stage}
use Rattle.session_steps.specs.Steps.{Books, after_asking, after_booking, after_news, bytes_of_frames, end_after}
use Rattle.session_steps.specs.Talks.{Talk, heard, new_talk}
use Rattle.v2_sessions.specs.declared.acting.Acted.{Acted}
use Rattle.v2_sessions.specs.declared.conversation.AfterReply.{AfterReply}
use Rattle.v2_sessions.specs.declared.conversation.AfterReply.TheVariants as after
use Rattle.v2_sessions.specs.Answerers.{MakesCall, outcome_of}
use Rattle.v2_sessions.specs.Links.{PutsOut}
use Rattle.v2_sessions.specs.Meeting.{LeadsTo, Leaves}
use Rattle.v2_sessions.specs.Standing.{Intake}
use Rattle.v2_sessions.proofs.Moves.{briefed_leads, next_reads, put_end, put_stage_or, puts_none}
use Rattle.v1_translate.specs.Heard.{Message}
use Rattle.v1_translate.specs.Lines.{line_reaction}
use Rattle.v1_translate.specs.State.{Terms, V1State, start}
use Rattle.v1_translate.specs.declared.asking.V1Ask.{V1Ask}
use Rattle.v1_translate.specs.Saying.{Says, asking_of}
use Rattle.v1_sessions.specs.Requests.{IsRequestFor, LineRequest}
use Rattle.v1_sessions.specs.Running.{IsRestOfLines, RunsLines}
use Rattle.v1_sessions.specs.States.{LineState, after_entering, asks_now, begun_lines, enters_now, lines_after, sends, unless_failed, v1_after, v1_told}
use Rattle.v1_sessions.specs.Steps as steps
use Rattle.v1_sessions.specs.Steps.{CanCall, CanHear, Heard, PutsTold, Starved, after_step}
use Rattle.v1_sessions.specs.Told.{heard_of, told_in}
use Rattle.v1_sessions.specs.Chains.{runs_ask, runs_call, runs_none, runs_on, runs_put, runs_quiet, runs_step}
use Rattle.v1_sessions.proofs.Lines.{with_lines_is}
use Rattle.v1_sessions.specs.declared.asking.Wish.{Wish}
use Rattle.v1_sessions.specs.declared.conversation.LineConversation.{LineConversation}
use Rattle.v1_sessions.specs.declared.telling.Telling.{Telling}
use Rattle.v1_sessions.specs.declared.telling.Telling.TheVariants as tellings
use Rattle.v1_sessions.specs.Asking.{IsAnsweredSo, IsWish, heard_by, wish_request}
use Rattle.v1_sessions.specs.SessionLaws.{goes, over}
use Rattle.v1_sessions.specs.Hearing.{Asks, EntersFor, HearsOneLine, HearsReply, IfGoesOn, SaysTo, SaysWish, entered_so, enter_result, set_up}
use Rattle.v1_sessions.specs.Moments.{IsServed, moment_at}
use Rattle.v1_sessions.specs.Standing.{LeadsOn, asks_about, conversation_after, line_state}

-- ---- what a call leads to

outcome_at : {A : Type 0} {worker : A → ℕ} {does : A → PoolCall → A → Type 0} {a a' : A} {asked : Request} {acted : Acted} (outcome : Result Reply BookError)
    → (made : MakesCall worker does a asked acted a') → acted.outcome ≡ outcome → made.call.outcome ≡ outcome_of outcome
outcome_at outcome made is = made.outcome_is ∙ ap outcome_of is

module _ {A : Type 0} {worker : A → ℕ} {does : A → PoolCall → A → Type 0} {l : LinkSeen} {a a' : A} {acted : Acted} (terms : Terms) (intake : Intake) (old : LineConversation) where
  pub poll_faulted : (stage : Stage) (cause : BookError) → MakesCall worker does a (request.Poll old.cursor) acted a' → acted.outcome ≡ Err cause
      → LeadsOn worker does terms (line_state Polling intake old) stage intake old (Err (fault_end cause)) l l a a'
  poll_faulted stage cause made is =
      let s = line_state Polling intake old in
      let outcome = outcome_at (Err cause) made is in
      record {
        v1 = old.v1;
        v1_is = tt;
        runs = runs_ask made
            (record { of_worker = made.worker_is; requests = made.asked_is; puts = subst (λ o. PutsTold terms None s o nothing_put) (sym outcome) refl; leaves = tt; waits = tt })
            (sym (ap (λ o. record s { pool = after_news s.pool o nothing_put; v1 = v1_told terms s o }) outcome));
      }

  pub book_faulted : (stage : Stage) (brief : Briefing) (booking : Request) (cause : BookError) → Books old.session.about brief booking → MakesCall worker does a booking acted a'
      → acted.outcome ≡ Err cause → LeadsOn worker does terms (line_state (Committing brief) intake old) stage intake old (Err (fault_end cause)) l l a a'
  book_faulted stage brief booking cause books made is =
      let s = line_state (Committing brief) intake old in
      let outcome = outcome_at (Err cause) made is in
      record {
        v1 = old.v1;
        v1_is = tt;
        runs = runs_ask made
            (record {
              of_worker = made.worker_is;
              requests = subst (λ asked. Books old.session.about brief asked) (sym made.asked_is) books;
              puts = subst (λ o. PutsTold terms None s o nothing_put) (sym outcome) refl;
              leaves = tt;
              waits = tt;
            })
            (sym (ap (λ o. record s { pool = after_booking s.pool o nothing_put; v1 = v1_told terms s o }) outcome));
      }

  pub ask_faulted : (asked : Request) (cause : BookError) → MakesCall worker does a asked acted a' → acted.outcome ≡ Err cause
      → Asks worker does terms (line_state (Asking asked) intake old) intake old (after.End (fault_end cause)) l l a a'
  ask_faulted asked cause made is =
      let s = line_state (Asking asked) intake old in
      let outcome = outcome_at (Err cause) made is in
      record {
        stage = end_stage old.entered (fault_end cause);
        leads = refl;
        v1 = old.v1;
        v1_is = tt;
        runs = runs_ask made
            (record { of_worker = made.worker_is; requests = made.asked_is; puts = subst (λ o. PutsTold terms None s o nothing_put) (sym outcome) refl; leaves = tt; waits = tt })
            (sym (ap (λ o. record s { pool = after_asking s.pool made.call.front o nothing_put; v1 = v1_told terms s o }) outcome));
      }

-- what is known once the messages of an answer are told
abbrev pub messages : Terms → LineConversation → Reply → V1State
messages terms old answer = v1_after terms old.v1 (map Message (told_in old.session.about answer))

module _ {A : Type 0} {worker : A → ℕ} {does : A → PoolCall → A → Type 0} {l l' : LinkSeen} {a a' : A} {acted : Acted} (terms : Terms) (intake : Intake) (old new : LineConversation)
    (answer : Reply) (fault : Option SinkFailed) (result : Result Unit SessionEnd) (ends : result ≡ put_end fault) where
  pub poll_told : MakesCall worker does a (request.Poll old.cursor) acted a' → acted.outcome ≡ Ok answer
      → PutsOut (bytes_of_frames (lines_after terms old.v1 (map Message (told_in old.session.about answer)))) fault l l'
      → new.session ≡ old.session → new.entered ≡ old.entered → new.cursor ≡ cursor_after old.cursor answer → OnOk result (messages terms old answer ≡ new.v1)
      → LeadsOn worker does terms (line_state Polling intake old) (next_stage new.entered intake.idles) intake new result l l' a a'
  poll_told made is puts talk entered cursor v1_is =
      let s = line_state Polling intake old in
      let put : Put = record { bytes = puts.bytes; fault = fault } in
      let outcome = outcome_at (Ok answer) made is in
      record {
        v1 = messages terms old answer;
        v1_is = v1_is;
        runs = runs_call made (bytes_of_frames (lines_after terms old.v1 (map Message (told_in old.session.about answer)))) fault puts
            (record { of_worker = made.worker_is; requests = made.asked_is; puts = subst (λ o. PutsTold terms None s o put) (sym outcome) puts.front; leaves = tt; waits = tt })
            (rw (talk, entered, cursor, ends)
            (ap (λ stage. record (line_state stage intake (record old { cursor = cursor_after old.cursor answer })) { v1 = messages terms old answer })
            (put_stage_or fault old.entered (next_stage old.entered intake.idles))
            ∙ sym (ap (λ o. record s { pool = after_news s.pool o put; v1 = v1_told terms s o }) outcome)));
      }

  pub book_told : (brief : Briefing) (booking : Request) → Books old.session.about brief booking → MakesCall worker does a booking acted a' → acted.outcome ≡ Ok answer
      → PutsOut (bytes_of_frames (lines_after terms old.v1 (map Message (told_in old.session.about answer)))) fault l l'
      → new.session ≡ old.session → new.entered ≡ old.entered → new.cursor ≡ old.cursor → OnOk result (messages terms old answer ≡ new.v1)
      → LeadsOn worker does terms (line_state (Committing brief) intake old) (news_stage new.entered intake.idles) intake new result l l' a a'
  book_told brief booking books made is puts talk entered cursor v1_is =
      let s = line_state (Committing brief) intake old in
      let put : Put = record { bytes = puts.bytes; fault = fault } in
      let outcome = outcome_at (Ok answer) made is in
      record {
        v1 = messages terms old answer;
        v1_is = v1_is;
        runs = runs_call made (bytes_of_frames (lines_after terms old.v1 (map Message (told_in old.session.about answer)))) fault puts
            (record {
              of_worker = made.worker_is;
              requests = subst (λ asked. Books old.session.about brief asked) (sym made.asked_is) books;
              puts = subst (λ o. PutsTold terms None s o put) (sym outcome) puts.front;
              leaves = tt;
              waits = tt;
            })
            (rw (talk, entered, cursor, ends)
            (ap (λ stage. record (line_state stage intake old) { v1 = messages terms old answer }) (put_stage_or fault old.entered (news_stage old.entered intake.idles))
            ∙ sym (ap (λ o. record s { pool = after_booking s.pool o put; v1 = v1_told terms s o }) outcome)));
      }

if_on : (next : AfterReply) (v w : V1State) → IfGoesOn next (w ≡ v) → IfGoesOn next (v ≡ w)
if_on (after.Book booking) v w is = sym is
if_on after.Poll v w is = sym is
if_on (after.End reason) v w is = tt

-- a request is answered
pub ask_told : {A : Type 0} {worker : A → ℕ} {does : A → PoolCall → A → Type 0} {l l' : LinkSeen} {a a' : A} {acted : Acted} (terms : Terms) (telling : Telling) (intake : Intake)
    (old new : LineConversation) (asked : Request) (answer : Reply) (next : AfterReply) → MakesCall worker does a asked acted a' → acted.outcome ≡ Ok answer
    → IsAnsweredSo telling asked old.session.about → HearsReply terms telling old acted.front answer l l' next new
    → Asks worker does terms (line_state (Asking asked) intake old) intake new next l l' a a'
ask_told {l = l} {l' = l'} {acted = acted} terms telling intake old new asked answer next made is answered hears =
    let s = line_state (Asking asked) intake old in
    let put : Put = record { bytes = hears.put.bytes; fault = hears.fault } in
    let outcome = outcome_at (Ok answer) made is in
    let heard_so = answered.heard old.session.about answer in
    let whole = bytes_of_frames (lines_after terms old.v1 (heard_by telling old.session.about answer)) in
    record {
      stage = put_stage hears.fault new.entered (answered_stage new.session.about new.entered intake.idles answer);
      leads = hears.leads intake.idles;
      v1 = v1_after terms old.v1 (heard_by telling old.session.about answer);
      v1_is = if_on next (v1_after terms old.v1 (heard_by telling old.session.about answer)) new.v1 hears.told;
      runs = runs_call made whole hears.fault hears.put
          (record {
            of_worker = made.worker_is;
            requests = made.asked_is;
            puts = subst (λ o. PutsTold terms None s o put) (sym outcome) (rw heard_so hears.put.front);
            leaves = tt;
            waits = tt;
          })
          (hears_state hears.fault made.call.front (sym made.front_is) put
          (v1_after terms old.v1 (heard_by telling old.session.about answer)) (ap (v1_after terms old.v1) (sym heard_so))
          ∙ sym (ap (λ o. record s { pool = after_asking s.pool made.call.front o put; v1 = v1_told terms s o }) outcome));
    }
  where
    hears_state : (fault : Option SinkFailed) (front : ℕ) → acted.front ≡ front → (put : Put) (v1 : V1State)
        → v1 ≡ v1_after terms old.v1 (heard_of (Asking asked) old.session.about answer)
        → record (line_state (put_stage put.fault new.entered (answered_stage new.session.about new.entered intake.idles answer)) intake new) { v1 = v1 }
        ≡ record (line_state (Asking asked) intake old) {
          pool = after_asking (line_state (Asking asked) intake old).pool front (Replied answer) put;
          v1 = v1_after terms old.v1 (heard_of (Asking asked) old.session.about answer);
        }
    hears_state fault front same put v1 v1_is =
        let talk : new.session ≡ heard old.session answer = ap (λ (c : LineConversation). c.session) hears.same in
        let entered : new.entered ≡ entered_after old.entered answer = ap (λ (c : LineConversation). c.entered) hears.same in
        let cursor : new.cursor ≡ cursor_behind old.cursor acted.front answer = ap (λ (c : LineConversation). c.cursor) hears.same in
        rw (talk, entered, cursor, same, v1_is) refl

-- ---- moves that go on

module _ {A : Type 0} {worker : A → ℕ} {does : A → PoolCall → A → Type 0} (terms : Terms) (intake : Intake) where
  pub leads_on : {l l' l'' : LinkSeen} {a a' a'' : A} {from : LineState} {stage stage' : Stage} {middle new : LineConversation} {result : Result Unit SessionEnd}
      → LeadsOn worker does terms from stage intake middle (Ok tt) l l' a a' → LeadsOn worker does terms (line_state stage intake middle) stage' intake new result l' l'' a' a''
      → LeadsOn worker does terms from stage' intake new result l l'' a a''
  leads_on first more = record { v1 = more.v1; v1_is = more.v1_is; runs = runs_on (rw first.v1_is at first.runs) more.runs }

  -- a session that entered is told its news, one that didn't has none
  pub news_polls : {l l' : LinkSeen} {a a' : A} {stage : Stage} (old : LineConversation) {new : LineConversation} {result : Result Unit SessionEnd} → old.entered ≡ true
      → LeadsOn worker does terms (line_state Polling intake old) stage intake new result l l' a a'
      → LeadsOn worker does terms (line_state (news_stage old.entered intake.idles) intake old) stage intake new result l l' a a'
  news_polls {l} {l'} {a} {a'} {stage} old {new} {result} entered leads =
      subst (λ b. LeadsOn worker does terms (line_state (news_stage b intake.idles) intake old) stage intake new result l l' a a') (sym entered) leads

  pub news_none : {l : LinkSeen} {a : A} (old : LineConversation) → old.entered ≡ false
      → LeadsOn worker does terms (line_state (news_stage old.entered intake.idles) intake old) (next_stage old.entered intake.idles) intake old (Ok tt) l l a a
  news_none old entered = record {
    v1 = old.v1;
    v1_is = refl;
    runs = runs_none (ap (λ stage. line_state stage intake old) (same_stage old.entered entered));
  }
    where
      same_stage : (b : Bool) → b ≡ false → next_stage b intake.idles ≡ news_stage b intake.idles
      same_stage false is = refl
      same_stage true is = cc

  -- a request that led to an end, to the news or to a booking
  pub asks_end : {l l' : LinkSeen} {a a' : A} {from : LineState} (stage : Stage) {new : LineConversation} (reason : SessionEnd)
      → Asks worker does terms from intake new (after.End reason) l l' a a' → LeadsOn worker does terms from stage intake new (Err reason) l l' a a'
  asks_end stage reason asks = record { v1 = asks.v1; v1_is = tt; runs = rw asks.leads at asks.runs }

  pub asks_poll : {l l' l'' : LinkSeen} {a a' a'' : A} {from : LineState} {stage : Stage} {middle new : LineConversation} {result : Result Unit SessionEnd}
      → Asks worker does terms from intake middle after.Poll l l' a a'
      → LeadsOn worker does terms (line_state (news_stage middle.entered intake.idles) intake middle) stage intake new result l' l'' a' a''
      → LeadsOn worker does terms from stage intake new result l l'' a a''
  asks_poll asks more = record { v1 = more.v1; v1_is = more.v1_is; runs = runs_on (rw (asks.leads, asks.v1_is) at asks.runs) more.runs }

  pub asks_booking : {l l' l'' : LinkSeen} {a a' a'' : A} {from : LineState} {stage : Stage} {middle new : LineConversation} {booking : Request} {result : Result Unit SessionEnd}
      → (asks : Asks worker does terms from intake middle (after.Book booking) l l' a a')
      → LeadsOn worker does terms (line_state (Committing asks.leads.0) intake middle) stage intake new result l' l'' a' a''
      → LeadsOn worker does terms from stage intake new result l l'' a a''
  asks_booking asks more = record { v1 = more.v1; v1_is = more.v1_is; runs = runs_on (rw (asks.leads.2, asks.v1_is) at asks.runs) more.runs }

-- ---- what is heard

shares_alone : (about : About) (telling : Telling) (answer : Reply) (brief : Briefing) (asked : Request) → ((sub : Submission) → about ≡ topic.Share sub → telling ≡ tellings.Messages)
    → answer ≡ reply.Brief brief → Books about brief asked → heard_by telling about answer ≡ []
shares_alone (topic.Share sub) telling answer brief asked alone is books = rw (alone sub refl, is) refl
shares_alone topic.Nothing telling answer brief asked alone is books = absurd books
shares_alone (topic.Opening request_id kind) telling answer brief asked alone is books = absurd books
shares_alone (topic.Channel channel) telling answer brief asked alone is books = absurd books
shares_alone (topic.Token request_id) telling answer brief asked alone is books = absurd books
shares_alone (topic.OwnJob channel request_id) telling answer brief asked alone is books = absurd books
shares_alone (topic.Declared request_id) telling answer brief asked alone is books = absurd books

-- a share that was briefed says nothing
pub briefed_hears : {l : LinkSeen} (terms : Terms) (telling : Telling) (old new : LineConversation) (front : ℕ) (answer : Reply) (brief : Briefing) (booking : Request)
    → ((sub : Submission) → old.session.about ≡ topic.Share sub → telling ≡ tellings.Messages) → answer ≡ reply.Brief brief → Books old.session.about brief booking
    → new.session ≡ heard old.session answer → new.entered ≡ entered_after old.entered answer → new.cursor ≡ cursor_behind old.cursor front answer → new.v1 ≡ old.v1
    → new ≡ record (conversation_after old front answer) { v1 = new.v1 }
    → HearsReply terms telling old front answer l l (after.Book booking) new
briefed_hears terms telling old new front answer brief booking alone is books talk entered cursor v1 same =
    let none = shares_alone old.session.about telling answer brief booking alone is books in
    let topic_is : new.session.about ≡ old.session.about = ap (λ (t : Talk). t.about) talk in
    record {
      fault = None;
      put = puts_none (bytes_of_frames (lines_after terms old.v1 (heard_by telling old.session.about answer))) (ap (λ h. bytes_of_frames (lines_after terms old.v1 h)) none);
      told = v1 ∙ sym (ap (v1_after terms old.v1) none);
      same = same;
      leads = λ idles. briefed_leads answer brief booking new.session.about new.entered idles is (rw topic_is books);
    }

-- an answer that was told leads on
pub told_hears : {l l' : LinkSeen} (terms : Terms) (telling : Telling) (old new : LineConversation) (front : ℕ) (answer : Reply) (next : AfterReply) (fault : Option SinkFailed)
    → PutsOut (bytes_of_frames (lines_after terms old.v1 (heard_by telling old.session.about answer))) fault l l'
    → IfGoesOn next (new.v1 ≡ v1_after terms old.v1 (heard_by telling old.session.about answer)) → new ≡ record (conversation_after old front answer) { v1 = new.v1 }
    → ((idles : ℕ) → LeadsTo next new.session.about new.entered idles (put_stage fault new.entered (answered_stage new.session.about new.entered idles answer)))
    → HearsReply terms telling old front answer l l' next new
told_hears terms telling old new front answer next fault puts told same leads = record { fault = fault; put = puts; told = told; same = same; leads = leads }

pub goes_on : (next : AfterReply) (P : Type 0) → P → IfGoesOn next P
goes_on (after.Book booking) P p = p
goes_on after.Poll P p = p
goes_on (after.End reason) P p = tt

-- what is told by an answer about a share is a message
pub messages_alone : (telling : Telling) (asked : Request) (about : About) → IsAnsweredSo telling asked about → (sub : Submission) → about ≡ topic.Share sub → telling ≡ tellings.Messages
messages_alone tellings.Messages asked about answered sub is = refl
messages_alone tellings.Name asked about answered sub is =
    let briefs = answered.as_told sub is in
    let none = rw briefs at answered.heard about reply.Left in cc

-- ---- entering

-- the session enters, and this is asked then
abbrev pub entering : Intake → LineConversation → LineRequest → LineState
entering intake old wish = record (line_state Reading intake old) { pool = enters_now (line_state Reading intake old).pool; next = Some wish }

sends_at : (b : Bool) (now later : LineState) → b ≡ false → (if b then now else later) ≡ later
sends_at false now later is = refl
sends_at true now later is = cc

sends_now : (b : Bool) (now later : LineState) → b ≡ true → (if b then now else later) ≡ now
sends_now true now later is = refl
sends_now false now later is = cc

pub enters_first : (intake : Intake) (old : LineConversation) (wish : LineRequest) → is_some old.session.flags ≡ false → sends (Some wish) (line_state Reading intake old) ≡ entering intake old wish
enters_first intake old wish outside =
    sends_at (is_some old.session.flags) (record (line_state Reading intake old) { pool = asks_now wish (line_state Reading intake old).pool }) (entering intake old wish) outside

pub asks_at_once : (intake : Intake) (old : LineConversation) (wish : LineRequest) → is_some old.session.flags ≡ true
    → sends (Some wish) (line_state Reading intake old) ≡ line_state (Asking wish.request) intake (asks_about wish.about old)
asks_at_once intake old wish inside =
    sends_now (is_some old.session.flags) (record (line_state Reading intake old) { pool = asks_now wish (line_state Reading intake old).pool }) (entering intake old wish) inside

module _ (intake : Intake) (old : LineConversation) (wish : LineRequest) where
  entered_is : (answer : Reply) (told front : ℕ) → told ≡ front → Ok tt ≡ enter_result (Ok answer)
      → line_state (Asking wish.request) intake (asks_about wish.about (entered_so (set_up old) told (Ok answer))) ≡ after_entering wish (entering intake old wish) front (Replied answer)
  entered_is (reply.PoolFull most) told front same ends = cc
  entered_is (reply.Entered session) told front same ends =
      ap (λ n. line_state (Asking wish.request) intake (asks_about wish.about (entered_so (set_up old) n (Ok (reply.Entered session))))) same
  entered_is _ told front same ends = refl

module _ {A : Type 0} {worker : A → ℕ} {does : A → PoolCall → A → Type 0} {l : LinkSeen} {a a' : A} (terms : Terms) (intake : Intake) (old : LineConversation) (wish : LineRequest) where
  -- there is no place, or the call failed
  enter_over : {acted : Acted} (outcome : Result Reply BookError) (made : MakesCall worker does a (request.Enter old.session.role 0) acted a') → acted.outcome ≡ outcome
      → (stage : Stage) (reason : SessionEnd) → Err reason ≡ enter_result outcome
      → LeadsOn worker does terms (entering intake old wish) stage intake (entered_so (set_up old) acted.front outcome) (Err reason) l l a a'
  enter_over {acted} (Err cause) made is stage reason ends =
      let reason_is : reason ≡ fault_end cause = cc in
      let outcome = outcome_at (Err cause) made is in
      record {
        v1 = old.v1;
        v1_is = tt;
        runs = runs_ask made (record { of_worker = made.worker_is; requests = made.asked_is; puts = refl; leaves = tt; waits = tt })
            (rw reason_is (sym (ap (after_entering wish (entering intake old wish) made.call.front) outcome)));
      }
  enter_over {acted} (Ok (reply.PoolFull most)) made is stage reason ends =
      let reason_is : reason ≡ end.PoolFull = cc in
      let outcome = outcome_at (Ok (reply.PoolFull most)) made is in
      record {
        v1 = old.v1;
        v1_is = tt;
        runs = runs_ask made (record { of_worker = made.worker_is; requests = made.asked_is; puts = refl; leaves = tt; waits = tt })
            (rw reason_is (sym (ap (after_entering wish (entering intake old wish) made.call.front) outcome)));
      }
  enter_over (Ok _) made is stage reason ends = cc

  enter_in : {acted : Acted} (answer : Reply) (made : MakesCall worker does a (request.Enter old.session.role 0) acted a') → acted.outcome ≡ Ok answer
      → Ok tt ≡ enter_result (Ok answer)
      → RunsLines worker does terms (entering intake old wish) (line_state (Asking wish.request) intake (asks_about wish.about (entered_so (set_up old) acted.front (Ok answer)))) l l a a'
  enter_in {acted} answer made is ends =
      runs_ask made (record { of_worker = made.worker_is; requests = made.asked_is; puts = refl; leaves = tt; waits = tt })
      (entered_is intake old wish answer acted.front made.call.front (sym made.front_is) ends ∙ sym (ap (after_entering wish (entering intake old wish) made.call.front) (outcome_at (Ok answer) made is)))

  enter_on : {acted : Acted} (outcome : Result Reply BookError) (made : MakesCall worker does a (request.Enter old.session.role 0) acted a') → acted.outcome ≡ outcome
      → Ok tt ≡ enter_result outcome
      → RunsLines worker does terms (entering intake old wish) (line_state (Asking wish.request) intake (asks_about wish.about (entered_so (set_up old) acted.front outcome))) l l a a'
  enter_on (Err cause) made is ends = cc
  enter_on {acted} (Ok answer) made is ends = enter_in answer made is ends

  pub entering_ends : (new : LineConversation) (stage : Stage) (reason : SessionEnd) → EntersFor worker does old new (Err reason) a a'
      → LeadsOn worker does terms (entering intake old wish) stage intake new (Err reason) l l a a'
  entering_ends new stage reason enters = rw enters.new_is (enter_over enters.acted.outcome enters.called refl stage reason enters.ends)

  pub entering_leads : (new : LineConversation) → EntersFor worker does old new (Ok tt) a a'
      → RunsLines worker does terms (entering intake old wish) (line_state (Asking wish.request) intake (asks_about wish.about new)) l l a a'
  entering_leads new enters = rw enters.new_is (enter_on enters.acted.outcome enters.called refl enters.ends)

-- what stands in any case
pub on_any : (intake : Intake) (result : Result Unit SessionEnd) → OnOk result (intake ≡ intake)
on_any intake (Ok _) = refl
on_any intake (Err _) = tt

-- ---- a line

-- behind a line
abbrev pub behind : Intake → List ℕ → LineConversation → LineState
behind before rest new = line_state Reading (record before { unmet = rest }) new

pub says_same : (terms : Terms) (line : List ℕ) (old new : LineConversation) (before after : List ℕ) (result : Result (Option Wish) AllocError) → SaysTo terms line old new before after result
    → new ≡ record old { v1 = new.v1 }
says_same terms line old new before after (Ok wish) says = says.0
says_same terms line old new before after (Err error) says = says

pub says_to : (terms : Terms) (line : List ℕ) (old : LineConversation) (v1 : V1State) (before after : List ℕ) (ask : V1Ask) (channel : Option ℕ) (result : Result (Option Wish) AllocError)
    → Says (line_reaction terms old.v1 line) v1 before after → asking_of ask ≡ (line_reaction terms old.v1 line).asks → channel ≡ v1.channel
    → IfOk result (λ wish. IsRequestFor channel (asking_of ask) (option_map wish_request wish)) → IfOk result (λ wish. IfSome wish IsWish)
    → SaysTo terms line old (record old { v1 = v1 }) before after result
says_to terms line old v1 before after ask channel (Ok wish) says asks of request wishes = (
  refl,
  record {
    state = says.state;
    lines = says.lines ∙ with_lines_is before (line_reaction terms old.v1 line).says;
    asks = rw (of ∙ ap (λ (v : V1State). v.channel) says.state, asks) at request;
    wishes = wishes;
  },
)
says_to terms line old v1 before after ask channel (Err error) says asks of request wishes = refl

module _ {A : Type 0} {worker : A → ℕ} {does : A → PoolCall → A → Type 0} {a : A} (terms : Terms) (old new : LineConversation) (same : new ≡ record old { v1 = new.v1 }) where
  -- memory ran out
  pub line_starves : {l : LinkSeen} (before : Intake) (stage : Stage) → LeadsOn worker does terms (line_state Reading before old) stage before new (Err end.Memory) l l a a
  line_starves before stage =
      let talk : new.session ≡ old.session = ap (λ (c : LineConversation). c.session) same in
      let entered : new.entered ≡ old.entered = ap (λ (c : LineConversation). c.entered) same in
      let cursor : new.cursor ≡ old.cursor = ap (λ (c : LineConversation). c.cursor) same in
      record {
        v1 = old.v1;
        v1_is = tt;
        runs = runs_quiet Starved refl (rw (talk, entered, cursor) refl) refl refl refl refl (λ n. refl);
      }

  module _ {l l' : LinkSeen} (before : Intake) (line rest lines : List ℕ) (text : IsLineText line) (unmet : before.unmet ≡ line ++ 10 ∷ rest) (wish : Option Wish)
      (says : SaysWish terms line old new [] lines wish) where
    line_runs : (fault : Option SinkFailed) → PutsOut lines fault l l'
        → RunsLines worker does terms (line_state Reading before old) (unless_failed fault (behind before rest new) (sends (option_map wish_request wish) (behind before rest new))) l l' a a
    line_runs fault puts =
        let r = line_reaction terms old.v1 line in
        let talk : new.session ≡ old.session = ap (λ (c : LineConversation). c.session) same in
        let entered : new.entered ≡ old.entered = ap (λ (c : LineConversation). c.entered) same in
        let cursor : new.cursor ≡ old.cursor = ap (λ (c : LineConversation). c.cursor) same in
        runs_put (Heard line rest (option_map wish_request wish) (record { bytes = puts.bytes; fault = fault })) lines fault puts
        (record {
          reading = refl;
          whole = unmet;
          text = text;
          puts = subst (λ w. IsPutBy fault w puts.bytes) says.lines puts.front;
          asks = says.asks;
        })
        (rw (talk, entered, cursor, says.state) refl) refl refl refl refl (λ n. refl)

    pub line_unput : (stage : Stage) (cause : SinkFailed) → PutsOut lines (Some cause) l l'
        → LeadsOn worker does terms (line_state Reading before old) stage (record before { unmet = rest }) new (Err (failed_end cause)) l l' a a
    line_unput stage cause puts = record { v1 = new.v1; v1_is = tt; runs = line_runs (Some cause) puts }

    -- it asks nothing
    pub line_alone : wish ≡ None → PutsOut lines None l l' → HearsOneLine worker does terms (line_state Reading before old) Reading (record before { unmet = rest }) new (Ok tt) l l' a a
    line_alone nothing puts = record {
      intake = record before { unmet = rest };
      kept_is = refl;
      leads = record {
        v1 = new.v1;
        v1_is = refl;
        runs = subst (λ w. RunsLines worker does terms (line_state Reading before old) (sends (option_map wish_request w) (behind before rest new)) l l' a a) nothing (line_runs None puts);
      };
    }

    -- or something
    pub line_sent : {l'' : LinkSeen} {a' : A} (asked : Wish) → wish ≡ Some asked → 0 < before.idles → PutsOut lines None l l' → (last : LineConversation) (result : Result Unit SessionEnd)
        → LeadsOn worker does terms (sends (Some (wish_request asked)) (behind before rest new)) (next_stage last.entered before.idles) (record before { unmet = rest }) last result l' l'' a a'
        → HearsOneLine worker does terms (line_state Reading before old) Reading (record before { unmet = rest }) last result l l'' a a'
    line_sent {l''} {a'} asked is some puts last result sent =
        let leads = subst (λ s. LeadsOn worker does terms (sends (Some (wish_request asked)) (behind before rest new)) s (record before { unmet = rest }) last result l' l'' a a')
        (next_reads last.entered before.idles some) sent in
        record {
          intake = record before { unmet = rest };
          kept_is = on_any (record before { unmet = rest }) result;
          leads = record {
            v1 = leads.v1;
            v1_is = leads.v1_is;
            runs = runs_on
                (subst (λ w. RunsLines worker does terms (line_state Reading before old) (sends (option_map wish_request w) (behind before rest new)) l l' a a) is (line_runs None puts))
                leads.runs;
          };
        }

-- ---- who hears lines

module _ {A T N : Type 0} (worker : A → ℕ) (does : A → PoolCall → A → Type 0) (terms_of : T → Terms) (conversation_of : T → LineConversation) (acting_of : T → A) (name_of : T → N)
    (old new : T) (terms_same : terms_of new ≡ terms_of old) (name_same : name_of new ≡ name_of old) (l l' : LinkSeen) where
  abbrev gone : Hearing T → Hearing T → Type 0
  gone = goes worker does terms_of conversation_of acting_of name_of

  abbrev done : Hearing T → SessionEnd → Hearing T → Type 0
  done = over worker does terms_of conversation_of acting_of name_of

  abbrev led : Intake → Stage → Intake → Result Unit SessionEnd → Type 0
  led before stage kept result =
      LeadsOn worker does (terms_of old) (line_state Reading before (conversation_of old)) stage kept (conversation_of new) result l l' (acting_of old) (acting_of new)

  abbrev heard_so : Intake → Intake → Result Unit SessionEnd → Type 0
  heard_so before kept result = GoesOnOr gone done (record { intake = before; talker = old; link = l }) result (record { intake = kept; talker = new; link = l' })

  pub line_hears : (before kept : Intake) (result : Result Unit SessionEnd) → led before Reading kept result → heard_so before kept result
  line_hears before kept (Ok _) leads = (name_same, record { same = terms_same; runs = rw leads.v1_is at leads.runs })
  line_hears before kept (Err reason) leads = (name_same, record { same = terms_same; v1 = leads.v1; runs = leads.runs })

  -- the news of an Idle turn come before the limit
  idle_at : (b : Bool) (before kept : Intake) → led before (if b then end_stage (conversation_of new).entered end.IdleOut else Reading) kept (Ok tt)
      → heard_so before kept (if b then Err end.IdleOut else Ok tt)
  idle_at false before kept leads = line_hears before kept (Ok tt) leads
  idle_at true before kept leads = (name_same, record { same = terms_same; v1 = leads.v1; runs = leads.runs })

  pub idle_hears : (before kept : Intake) (n : ℕ) (result : Result Unit SessionEnd) → led before (next_stage (conversation_of new).entered n) kept result
      → heard_so before kept (after_idle n result)
  idle_hears before kept n (Ok _) leads = idle_at (n == 0) before kept leads
  idle_hears before kept n (Err reason) leads = (name_same, record { same = terms_same; v1 = leads.v1; runs = leads.runs })

-- an Idle turn that came, and what it led to
pub idle_leads : {A : Type 0} {worker : A → ℕ} {does : A → PoolCall → A → Type 0} {first l l' : LinkSeen} {a a' : A} {stage : Stage} (terms : Terms) (before : Intake) (buffer : List ℕ)
    (old new : LineConversation) (result : Result Unit SessionEnd) → CanTakeTurn before → TakesOf took.Idle buffer first l
    → LeadsOn worker does terms (line_state (news_stage old.entered (before.idles - 1)) (with_idle before) old) stage (with_idle before) new result l l' a a'
    → LeadsOn worker does terms (line_state Reading before old) stage (with_idle before) new result first l' a a'
idle_leads {first = first} {l = l} terms before buffer old new result can takes leads = record {
  v1 = leads.v1;
  v1_is = leads.v1_is;
  runs = runs_on
      (runs_step steps.Idled (record { waiting = record { reading = refl; text = can.text }; some = can.some }) refl
      (brought_idle first.source.left first.source.left l.source.left [] buffer (brought_none first.source.left) takes.turns) tt
      (rw (ap (λ (s : SinkSeen). s.held) takes.sink) (Adds-none first.sink.held)) takes.counts (ap (λ (s : SinkSeen). s.faults) takes.sink) refl refl)
      leads.runs;
}

-- ---- the leaving

abbrev pub with_v1 : Intake → LineConversation → V1State → Stage → LineState
with_v1 intake c v1 stage = record (line_state stage intake c) { v1 = v1 }

module _ (terms : Terms) (intake : Intake) (c : LineConversation) (v1 : V1State) where
  nothing_said : (reason : SessionEnd) (outcome : Outcome Reply BookError) → PutsTold terms None (with_v1 intake c v1 (Leaving reason)) outcome nothing_put
  nothing_said reason (Replied answer) = refl
  nothing_said reason (Faulted cause) = refl

  nothing_told : (reason : SessionEnd) (outcome : Outcome Reply BookError) → v1_told terms (with_v1 intake c v1 (Leaving reason)) outcome ≡ v1
  nothing_told reason (Replied answer) = refl
  nothing_told reason (Faulted cause) = refl

module _ {A : Type 0} {worker : A → ℕ} {does : A → PoolCall → A → Type 0} {l : LinkSeen} {a a' : A} (terms : Terms) (intake : Intake) (c : LineConversation) (v1 : V1State) where
  left_at : (entered : Bool) (reason last : SessionEnd) → Leaves worker does entered reason a last a'
      → RunsLines worker does terms (with_v1 intake c v1 (end_stage entered reason)) (with_v1 intake c v1 (Over last)) l l a a'
  left_at true reason last leaves =
      let called = leaves.called in
      runs_ask called
      (record { of_worker = called.worker_is; requests = called.asked_is; puts = nothing_said terms intake c v1 reason called.call.outcome; leaves = refl; waits = tt })
      (ap (λ e. with_v1 intake c v1 (Over e)) (leaves.ends ∙ sym (ap (end_after reason) called.outcome_is))
      ∙ ap (λ v. record (with_v1 intake c v1 (Over (end_after reason called.call.outcome))) { v1 = v }) (sym (nothing_told terms intake c v1 reason called.call.outcome)))
  left_at false reason last leaves = rw leaves.1 (runs_none (ap (λ e. with_v1 intake c v1 (Over e)) leaves.0))

  pub left_runs : (reason last : SessionEnd) → Leaves worker does c.entered reason a last a'
      → RunsLines worker does terms (with_v1 intake c v1 (end_stage c.entered reason)) (with_v1 intake c v1 (Over last)) l l a a'
  left_runs reason last leaves = left_at c.entered reason last leaves

-- a session to which these bytes came first
pub begun_is : (c : LineConversation) (manner : Manner) (waiting : Waiting) (piece : List ℕ) → c.session ≡ new_talk manner.role manner.rolling manner.declares → c.v1 ≡ start → c.entered ≡ false → c.cursor ≡ 0
    → line_state Reading (intake_at waiting piece) c ≡ begun_lines manner waiting piece
begun_is c manner waiting piece talk v1 entered cursor = rw (talk, v1, entered, cursor) refl

-- it was served from there, over whoever answers
pub rest_of_lines : {A : Type 0} (worker : A → ℕ) (does : A → PoolCall → A → Type 0) {l l' : LinkSeen} {a a' a'' : A} {reason : SessionEnd} (terms : Terms) (c : LineConversation) (manner : Manner)
    (waiting : Waiting) (piece : List ℕ) → line_state Reading (intake_at waiting piece) c ≡ begun_lines manner waiting piece
    → IsServed worker does (moment_at (intake_at waiting piece) terms c a l) reason a' l' → a'' ≡ a'
    → IsRestOfLines worker does terms (begun_lines manner waiting piece) l l' a a'' reason
rest_of_lines worker does terms c manner waiting piece begins served same =
    rw same (record { last = served.last; over = served.over; runs = runs_on (runs_none begins) served.runs })
