-- Ends that no input brings: those of limits, of calls and of puts.
use Rattle.std.proofs.Common.{ℕ, Bool, true, false, Option, None, Some, ap, suc, zero}
use Rattle.std.proofs.Math.Dec.{eqb-suc-zero}
use Rattle.std.specs.Prelude.{if◌then◌else◌}
use Rattle.pool_base.specs.Calls.{Outcome, Replied, Faulted}
use Rattle.pool_io.specs.declared.sink.SinkFailed.{SinkFailed}
use Rattle.pool_io.specs.declared.sink.SinkFailed.TheVariants as sink
use Rattle.pool_history.specs.declared.refusals.BookError.{BookError}
use Rattle.pool_history.specs.declared.refusals.BookError.TheVariants as fault
use Rattle.pool_history.specs.declared.replies.Reply.{Reply}
use Rattle.pool_history.specs.declared.replies.Reply.TheVariants as reply
use Rattle.pool_history.specs.Headers.{Briefing}
use Rattle.session_steps.specs.declared.about.About.{About}
use Rattle.session_steps.specs.declared.about.About.TheVariants as topic
use Rattle.session_steps.specs.declared.ends.SessionEnd.{SessionEnd}
use Rattle.session_steps.specs.declared.ends.SessionEnd.TheVariants as end
use Rattle.session_steps.specs.States.{State, Stage, Asking, Committing, Greeting, Leaving, Over, Polling, Reading, Refusing, Saying, Put, answered_stage, briefed_stage, end_stage, fault_end, hears, news_stage, next_stage, put_stage}
use Rattle.session_steps.specs.Steps.{after_asking, after_booking, after_news}

abbrev pub IsQuietEnd : SessionEnd → Type 0
IsQuietEnd end.IdleOut = Unit {0}
IsQuietEnd end.BytesOut = Unit {0}
IsQuietEnd end.PoolFull = Unit {0}
IsQuietEnd end.ReadFault = Unit {0}
IsQuietEnd end.WriteFault = Unit {0}
IsQuietEnd end.LedgerFault = Unit {0}
IsQuietEnd end.Memory = Unit {0}
IsQuietEnd _ = ⊥

abbrev pub IsQuietStage : Stage → Type 0
IsQuietStage (Refusing code flags) = ⊥
IsQuietStage (Leaving reason) = IsQuietEnd reason
IsQuietStage (Over reason) = IsQuietEnd reason
IsQuietStage _ = Unit {0}

pub quiet_end : (entered : Bool) (reason : SessionEnd) → IsQuietEnd reason → IsQuietStage (end_stage entered reason)
quiet_end true reason quiet = quiet
quiet_end false reason quiet = quiet

pub quiet_next : (entered : Bool) (idles : ℕ) → IsQuietStage (next_stage entered idles)
quiet_next entered zero = quiet_end entered end.IdleOut tt
quiet_next entered (suc n) = rw (ap (λ b. if b then end_stage entered end.IdleOut else Reading) (eqb-suc-zero n)) tt

pub quiet_news : (entered : Bool) (idles : ℕ) → IsQuietStage (news_stage entered idles)
quiet_news true idles = tt
quiet_news false idles = quiet_next false idles

pub quiet_put : (fault : Option SinkFailed) (entered : Bool) (stage : Stage) → IsQuietStage stage → IsQuietStage (put_stage fault entered stage)
quiet_put None entered stage quiet = quiet
quiet_put (Some sink.Failed) entered stage quiet = quiet_end entered end.WriteFault tt
quiet_put (Some sink.Memory) entered stage quiet = quiet_end entered end.Memory tt

pub quiet_fault : (cause : BookError) → IsQuietEnd (fault_end cause)
quiet_fault fault.KeeperFault = tt
quiet_fault fault.Memory = tt

quiet_briefed : (about : About) (brief : Briefing) (stage : Stage) → IsQuietStage stage → IsQuietStage (briefed_stage about brief stage)
quiet_briefed (topic.Share sub) brief stage quiet = tt
quiet_briefed topic.Nothing brief stage quiet = quiet
quiet_briefed (topic.Opening request_id kind) brief stage quiet = quiet
quiet_briefed (topic.Channel channel) brief stage quiet = quiet
quiet_briefed (topic.Token request_id) brief stage quiet = quiet
quiet_briefed (topic.OwnJob channel request_id) brief stage quiet = quiet
quiet_briefed (topic.Declared request_id) brief stage quiet = quiet

quiet_answered : (about : About) (entered : Bool) (idles : ℕ) (answer : Reply) → IsQuietStage (answered_stage about entered idles answer)
quiet_answered about entered idles (reply.PoolFull most) = quiet_end entered end.PoolFull tt
quiet_answered about entered idles (reply.Brief brief) = quiet_briefed about brief (news_stage entered idles) (quiet_news entered idles)
quiet_answered about entered idles _ = quiet_news entered idles

-- what a call leaves
pub asking_quiet : (s : State) (front : ℕ) (outcome : Outcome Reply BookError) (put : Put) → IsQuietStage (after_asking s front outcome put).stage
asking_quiet s front (Faulted cause) put = quiet_end s.entered (fault_end cause) (quiet_fault cause)
asking_quiet s front (Replied answer) put =
    let h = hears s front answer in
    quiet_put put.fault h.entered (answered_stage h.talk.about h.entered h.idles answer) (quiet_answered h.talk.about h.entered h.idles answer)

pub booking_quiet : (s : State) (outcome : Outcome Reply BookError) (put : Put) → IsQuietStage (after_booking s outcome put).stage
booking_quiet s (Faulted cause) put = quiet_end s.entered (fault_end cause) (quiet_fault cause)
booking_quiet s (Replied answer) put = quiet_put put.fault s.entered (news_stage s.entered s.idles) (quiet_news s.entered s.idles)

pub polling_quiet : (s : State) (outcome : Outcome Reply BookError) (put : Put) → IsQuietStage (after_news s outcome put).stage
polling_quiet s (Faulted cause) put = quiet_end s.entered (fault_end cause) (quiet_fault cause)
polling_quiet s (Replied answer) put = quiet_put put.fault s.entered (next_stage s.entered s.idles) (quiet_next s.entered s.idles)
