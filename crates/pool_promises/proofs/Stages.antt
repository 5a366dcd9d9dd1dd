-- The stages at which nothing is asked for a frame, and which calls lead to them.
use Rattle.std.proofs.Common.{◌≡◌, ℕ, Bool, true, false, Option, None, Some, refl, sym, subst, suc, zero}
use Rattle.std.proofs.Math.Dec.{eqb-suc-zero}
use Rattle.std.specs.Prelude.{if◌then◌else◌}
use Rattle.pool_base.specs.Calls.{Outcome, Replied, Faulted}
use Rattle.pool_io.specs.declared.sink.SinkFailed.{SinkFailed}
use Rattle.pool_io.specs.declared.sink.SinkFailed.TheVariants as sink
use Rattle.pool_history.specs.declared.asking.Request.{Request}
use Rattle.pool_history.specs.declared.asking.Request.TheVariants as request
use Rattle.pool_history.specs.declared.refusals.BookError.{BookError}
use Rattle.pool_history.specs.declared.replies.Reply.{Reply}
use Rattle.pool_history.specs.declared.replies.Reply.TheVariants as reply
use Rattle.pool_history.specs.Headers.{Briefing}
use Rattle.session_steps.specs.declared.about.About.{About}
use Rattle.session_steps.specs.declared.about.About.TheVariants as topic
use Rattle.session_steps.specs.declared.ends.SessionEnd.{SessionEnd}
use Rattle.session_steps.specs.declared.ends.SessionEnd.TheVariants as end
use Rattle.session_steps.specs.States.{State, Stage, Asking, Reading, Put, answered_stage, briefed_stage, end_stage, fault_end, news_stage, next_stage, put_stage}
use Rattle.session_steps.specs.Steps.{Books, after_booking, after_news}
use Rattle.pool_promises.specs.Moves.{is_heard}

abbrev pub IsQuiet : Stage → Type 0
IsQuiet (Asking asked) = ⊥
IsQuiet _ = Unit {0}

pub ended_quiet : (entered : Bool) (reason : SessionEnd) → IsQuiet (end_stage entered reason)
ended_quiet true reason = tt
ended_quiet false reason = tt

pub put_quiet : (failed : Option SinkFailed) (entered : Bool) (stage : Stage) → IsQuiet stage → IsQuiet (put_stage failed entered stage)
put_quiet None entered stage quiet = quiet
put_quiet (Some sink.Failed) entered stage quiet = ended_quiet entered end.WriteFault
put_quiet (Some sink.Memory) entered stage quiet = ended_quiet entered end.Memory

pub next_quiet : (entered : Bool) (idles : ℕ) → IsQuiet (next_stage entered idles)
next_quiet entered zero = ended_quiet entered end.IdleOut
next_quiet entered (suc n) =
    subst (λ b. IsQuiet (if b then end_stage entered end.IdleOut else Reading)) (sym (eqb-suc-zero n)) tt

pub news_quiet : (entered : Bool) (idles : ℕ) → IsQuiet (news_stage entered idles)
news_quiet true idles = tt
news_quiet false idles = next_quiet false idles

briefed_quiet : (about : About) (brief : Briefing) (stage : Stage) → IsQuiet stage → IsQuiet (briefed_stage about brief stage)
briefed_quiet (topic.Share sub) brief stage quiet = tt
briefed_quiet topic.Nothing brief stage quiet = quiet
briefed_quiet (topic.Opening request_id kind) brief stage quiet = quiet
briefed_quiet (topic.Channel channel) brief stage quiet = quiet
briefed_quiet (topic.Token request_id) brief stage quiet = quiet
briefed_quiet (topic.OwnJob channel request_id) brief stage quiet = quiet
briefed_quiet (topic.Declared request_id) brief stage quiet = quiet

pub answered_quiet : (about : About) (entered : Bool) (idles : ℕ) (answer : Reply) → IsQuiet (answered_stage about entered idles answer)
answered_quiet about entered idles (reply.PoolFull most) = ended_quiet entered end.PoolFull
answered_quiet about entered idles (reply.Brief brief) = briefed_quiet about brief (news_stage entered idles) (news_quiet entered idles)
answered_quiet about entered idles _ = news_quiet entered idles

-- what a session knows stays, and nothing is asked for a frame
pub record StaysQuiet (old new : State) : Type 0 where
  pub talk : new.talk ≡ old.talk
  pub stage : IsQuiet new.stage

pub booking_quiet : (s : State) (outcome : Outcome Reply BookError) (put : Put) → StaysQuiet s (after_booking s outcome put)
booking_quiet s (Faulted cause) put = record { talk = refl; stage = ended_quiet s.entered (fault_end cause) }
booking_quiet s (Replied answer) put =
    record { talk = refl; stage = put_quiet put.fault s.entered (news_stage s.entered s.idles) (news_quiet s.entered s.idles) }

pub told_quiet : (s : State) (outcome : Outcome Reply BookError) (put : Put) → StaysQuiet s (after_news s outcome put)
told_quiet s (Faulted cause) put = record { talk = refl; stage = ended_quiet s.entered (fault_end cause) }
told_quiet s (Replied answer) put =
    record { talk = refl; stage = put_quiet put.fault s.entered (next_stage s.entered s.idles) (next_quiet s.entered s.idles) }

-- a share that is booked was no frame's request
pub books_unheard : (about : About) (brief : Briefing) (asked : Request) → Books about brief asked → is_heard asked ≡ false
books_unheard (topic.Share sub) brief (request.Commit checked) books = refl
books_unheard (topic.Share sub) brief _ books = absurd books
books_unheard topic.Nothing brief asked books = absurd books
books_unheard (topic.Opening request_id kind) brief asked books = absurd books
books_unheard (topic.Channel channel) brief asked books = absurd books
books_unheard (topic.Token request_id) brief asked books = absurd books
books_unheard (topic.OwnJob channel request_id) brief asked books = absurd books
books_unheard (topic.Declared request_id) brief asked books = absurd books
