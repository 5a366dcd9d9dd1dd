-- Where a session stands within its limits, and what its ends come from.
use Rattle.std.proofs.Common.{◌≡◌, ℕ, ◌+◌, ◌-◌, ◌<◌, ◌≤◌, ◌||◌, Bool, true, false, List, [], ◌∷◌, ◌++◌, Option, None, Some, length, map, refl, sym, ap, subst, ◌∙◌, append_assoc, append-nil, length-append, arith, suc, zero}
use Rattle.std.proofs.Math.Dec.{eqb-suc-zero}
use Rattle.std.proofs.lemmas.Grind.{flat_map-append}
use Rattle.std.proofs.lemmas.List.Folds.{list_any-append}
use Rattle.std.specs.List.{list_any}
use Rattle.std.specs.Prelude.{if◌then◌else◌}
use Rattle.pool_base.specs.Calls.{Outcome, Replied, Faulted}
use Rattle.pool_io.specs.declared.sink.SinkFailed.{SinkFailed}
use Rattle.pool_io.specs.declared.sink.SinkFailed.TheVariants as sink
use Rattle.pool_io.specs.Steps.{Bounds, IsBytesOut, IsFree, IsFreeBefore, IsIdleOut, bytes_in, idles_after}
use Rattle.pool_io.proofs.Stepping.{bytes_in-idle, bytes_in-more, free_bytes, free_idle, idles_after-idle, idles_after-more, within_limits}
use Rattle.pool_history.specs.declared.refusals.BookError.{BookError}
use Rattle.pool_history.specs.declared.refusals.BookError.TheVariants as fault
use Rattle.pool_history.specs.declared.replies.Reply.{Reply}
use Rattle.pool_history.specs.declared.replies.Reply.TheVariants as reply
use Rattle.pool_history.specs.Calls.{PoolCall, blames_keeper, has_keeper_failed}
use Rattle.pool_history.specs.Headers.{Briefing}
use Rattle.session_steps.specs.declared.manner.Manner.{Manner}
use Rattle.session_steps.specs.declared.about.About.{About}
use Rattle.session_steps.specs.declared.about.About.TheVariants as topic
use Rattle.session_steps.specs.declared.ends.SessionEnd.{SessionEnd}
use Rattle.session_steps.specs.declared.ends.SessionEnd.TheVariants as end
use Rattle.session_steps.specs.declared.meeting.Step.{Step}
use Rattle.session_steps.specs.declared.meeting.Step.TheVariants as step
use Rattle.session_steps.specs.States.{State, Stage, Asking, Committing, Greeting, Leaving, Over, Polling, Reading, Refusing, Saying, Put, answered_stage, briefed_stage, end_stage, fault_end, hears, input_end, new_state, news_stage, next_stage, put_stage}
use Rattle.session_steps.specs.Steps as steps
use Rattle.session_steps.specs.Steps.{CanCall, CanStep, Follows, Says, SessionStep, after_asking, after_booking, after_call, after_news, after_step, call_in, calls_in, end_after, met_stage, put_in, turn_in, turns_in}
use Rattle.v2_sessions.specs.Ends.{has_missed, has_turned_away, has_unkept, has_unwritten, is_full, is_missed, is_turned_away, is_unwritten, session_bounds}

-- what an end says of the steps that led to it
abbrev pub EndShows : Bounds → List SessionStep → SessionEnd → Type 0
EndShows bounds done end.IdleOut = IsIdleOut bounds (turns_in done)
EndShows bounds done end.BytesOut = IsBytesOut bounds (turns_in done)
EndShows bounds done end.PoolFull = has_turned_away (calls_in done) ≡ true
EndShows bounds done end.LedgerFault = has_unkept (calls_in done) ≡ true
EndShows bounds done end.ReadFault = has_missed done ≡ true
EndShows bounds done end.WriteFault = has_unwritten done ≡ true
EndShows bounds done _ = Unit {0}

-- and a stage: before an end, more Idle turns are waited for, but at a Poll
abbrev pub StageShows : Bounds → List SessionStep → ℕ → Stage → Type 0
StageShows bounds done idles (Leaving reason) = EndShows bounds done reason
StageShows bounds done idles (Over reason) = EndShows bounds done reason
StageShows bounds done idles Polling = Unit {0}
StageShows bounds done idles _ = 0 < idles

-- where steps led to: what is still waited for and what came are the limits
pub record Stands (bounds : Bounds) (done : List SessionStep) (s : State) : Type 0 where
  pub turns : s.idle_turns ≡ bounds.idle_turns
  pub idles : s.idles + idles_after 0 (turns_in done) ≡ bounds.idle_turns
  pub bytes : s.bytes + length (bytes_in (turns_in done)) ≡ bounds.bytes
  pub before : IsFreeBefore bounds (turns_in done)
  pub stage : StageShows bounds done s.idles s.stage

turns_in-more : (done : List SessionStep) (x : SessionStep) → turns_in (done ++ x ∷ []) ≡ turns_in done ++ turn_in x
turns_in-more done x = flat_map-append turn_in done (x ∷ []) ∙ ap (λ l. turns_in done ++ l) (append-nil (turn_in x))

pub turns_quiet : (done : List SessionStep) (x : SessionStep) → turn_in x ≡ [] → turns_in (done ++ x ∷ []) ≡ turns_in done
turns_quiet done x quiet = turns_in-more done x ∙ ap (λ l. turns_in done ++ l) quiet ∙ append-nil (turns_in done)

calls_in-more : (done : List SessionStep) (x : SessionStep) → calls_in (done ++ x ∷ []) ≡ calls_in done ++ call_in x
calls_in-more done x = flat_map-append call_in done (x ∷ []) ∙ ap (λ l. calls_in done ++ l) (append-nil (call_in x))

or_true : (b : Bool) → (b || true) ≡ true
or_true true = refl
or_true false = refl

pub any_more : {A : Type 0} (p : A → Bool) (xs ys : List A) → list_any p xs ≡ true → list_any p (xs ++ ys) ≡ true
any_more p xs ys some = list_any-append p xs ys ∙ ap (λ b. b || list_any p ys) some

pub any_last : {A : Type 0} (p : A → Bool) (xs : List A) (y : A) → p y ≡ true → list_any p (xs ++ y ∷ []) ≡ true
any_last p xs y some = list_any-append p xs (y ∷ []) ∙ ap (λ b. list_any p xs || (b || false)) some ∙ or_true (list_any p xs)

-- one step more
module _ (bounds : Bounds) (done : List SessionStep) (x : SessionStep) where
  -- what an end says stays, where the step takes no turn
  shows_more : turn_in x ≡ [] → (reason : SessionEnd) → EndShows bounds done reason → EndShows bounds (done ++ x ∷ []) reason
  shows_more quiet end.IdleOut shows = subst (IsIdleOut bounds) (sym (turns_quiet done x quiet)) shows
  shows_more quiet end.BytesOut shows = subst (IsBytesOut bounds) (sym (turns_quiet done x quiet)) shows
  shows_more quiet end.PoolFull shows =
      ap has_turned_away (calls_in-more done x) ∙ any_more (λ call. is_turned_away call.outcome) (calls_in done) (call_in x) shows
  shows_more quiet end.LedgerFault shows =
      ap has_unkept (calls_in-more done x) ∙ any_more (λ call. has_keeper_failed call.outcome) (calls_in done) (call_in x) shows
  shows_more quiet end.ReadFault shows = any_more is_missed done (x ∷ []) shows
  shows_more quiet end.WriteFault shows = any_more (λ step. is_unwritten (put_in step).fault) done (x ∷ []) shows
  shows_more quiet end.Done shows = tt
  shows_more quiet (end.CutFrame count) shows = tt
  shows_more quiet (end.TooLong len) shows = tt
  shows_more quiet end.BadSetup shows = tt
  shows_more quiet (end.BadMessage kind) shows = tt
  shows_more quiet end.LineTooLong shows = tt
  shows_more quiet end.Memory shows = tt

  -- a put that failed, in this step
  pub unwritten_now : (put_in x).fault ≡ Some sink.Failed → has_unwritten (done ++ x ∷ []) ≡ true
  unwritten_now failed = any_last (λ step. is_unwritten (put_in step).fault) done x (ap is_unwritten failed)

-- the calls, with one more
module _ (done : List SessionStep) (call : PoolCall) (put : Put) where
  pub unkept_now : (cause : BookError) → call.outcome ≡ Faulted cause → blames_keeper cause ≡ true → has_unkept (calls_in (done ++ steps.Called call put ∷ [])) ≡ true
  unkept_now cause is keepers =
      ap has_unkept (calls_in-more done (steps.Called call put))
      ∙ any_last (λ c. has_keeper_failed c.outcome) (calls_in done) call (ap has_keeper_failed is ∙ keepers)

  pub turned_away_now : (answer : Reply) → call.outcome ≡ Replied answer → is_full answer ≡ true → has_turned_away (calls_in (done ++ steps.Called call put ∷ [])) ≡ true
  turned_away_now answer is full =
      ap has_turned_away (calls_in-more done (steps.Called call put))
      ∙ any_last (λ c. is_turned_away c.outcome) (calls_in done) call (ap is_turned_away is ∙ full)

-- which stages say what
module _ (bounds : Bounds) (done : List SessionStep) (idles : ℕ) where
  pub ended_shows : (entered : Bool) (reason : SessionEnd) → EndShows bounds done reason → StageShows bounds done idles (end_stage entered reason)
  ended_shows true reason shows = shows
  ended_shows false reason shows = shows

  pub put_shows : (failed : Option SinkFailed) (entered : Bool) (stage : Stage) → (failed ≡ Some sink.Failed → has_unwritten done ≡ true)
      → StageShows bounds done idles stage → StageShows bounds done idles (put_stage failed entered stage)
  put_shows None entered stage unwritten shows = shows
  put_shows (Some sink.Failed) entered stage unwritten shows = ended_shows entered end.WriteFault (unwritten refl)
  put_shows (Some sink.Memory) entered stage unwritten shows = ended_shows entered end.Memory tt

  pub fault_shows : (cause : BookError) → (blames_keeper cause ≡ true → has_unkept (calls_in done) ≡ true) → EndShows bounds done (fault_end cause)
  fault_shows fault.KeeperFault unkept = unkept refl
  fault_shows fault.Memory unkept = tt

  pub input_shows : (unmet : List ℕ) → EndShows bounds done (input_end unmet)
  input_shows [] = tt
  input_shows (byte ∷ bytes) = tt

  met_shows : (entered : Bool) (made : Step) → 0 < idles → StageShows bounds done idles (met_stage entered made)
  met_shows entered step.Ignore waits = waits
  met_shows entered (step.Ask asked) waits = waits
  met_shows entered (step.Say bytes) waits = waits
  met_shows entered (step.RefuseSetup code flags) waits = waits
  met_shows entered step.BadSetup waits = ended_shows entered end.BadSetup tt
  met_shows entered (step.BadMessage kind) waits = ended_shows entered (end.BadMessage kind) tt

next_shows : (bounds : Bounds) (done : List SessionStep) (idles : ℕ) (entered : Bool) → idles + idles_after 0 (turns_in done) ≡ bounds.idle_turns
    → StageShows bounds done idles (next_stage entered idles)
next_shows bounds done zero entered sum = ended_shows bounds done zero entered end.IdleOut (omega (arith, sum))
next_shows bounds done (suc n) entered sum =
    subst (λ b. StageShows bounds done (suc n) (if b then end_stage entered end.IdleOut else Reading)) (sym (eqb-suc-zero n)) (omega arith)

news_shows : (bounds : Bounds) (done : List SessionStep) (idles : ℕ) (entered : Bool) → idles + idles_after 0 (turns_in done) ≡ bounds.idle_turns
    → StageShows bounds done idles (news_stage entered idles)
news_shows bounds done idles true sum = tt
news_shows bounds done idles false sum = next_shows bounds done idles false sum

module _ (bounds : Bounds) (done : List SessionStep) (idles : ℕ) (sum : idles + idles_after 0 (turns_in done) ≡ bounds.idle_turns) where
  briefed_shows : (about : About) (brief : Briefing) (stage : Stage) → 0 < idles → StageShows bounds done idles stage → StageShows bounds done idles (briefed_stage about brief stage)
  briefed_shows (topic.Share sub) brief stage waits shows = waits
  briefed_shows topic.Nothing brief stage waits shows = shows
  briefed_shows (topic.Opening request_id kind) brief stage waits shows = shows
  briefed_shows (topic.Channel channel) brief stage waits shows = shows
  briefed_shows (topic.Token request_id) brief stage waits shows = shows
  briefed_shows (topic.OwnJob channel request_id) brief stage waits shows = shows
  briefed_shows (topic.Declared request_id) brief stage waits shows = shows

  answered_shows : (about : About) (entered : Bool) (answer : Reply) → 0 < idles → (is_full answer ≡ true → has_turned_away (calls_in done) ≡ true)
      → StageShows bounds done idles (answered_stage about entered idles answer)
  answered_shows about entered (reply.PoolFull most) waits full = ended_shows bounds done idles entered end.PoolFull (full refl)
  answered_shows about entered (reply.Brief brief) waits full =
      briefed_shows about brief (news_stage entered idles) waits (news_shows bounds done idles entered sum)
  answered_shows about entered _ waits full = news_shows bounds done idles entered sum

-- what a call leaves of what is waited for
pub record StaysWithin (old new : State) : Type 0 where
  pub turns : new.idle_turns ≡ old.idle_turns
  pub idles : new.idles ≡ old.idles
  pub bytes : new.bytes ≡ old.bytes

within_same : (s : State) → StaysWithin s s
within_same s = record { turns = refl; idles = refl; bytes = refl }

asking_within : (s : State) (front : ℕ) (outcome : Outcome Reply BookError) (put : Put) → StaysWithin s (after_asking s front outcome put)
asking_within s front (Replied answer) put = record { turns = refl; idles = refl; bytes = refl }
asking_within s front (Faulted cause) put = record { turns = refl; idles = refl; bytes = refl }

booking_within : (s : State) (outcome : Outcome Reply BookError) (put : Put) → StaysWithin s (after_booking s outcome put)
booking_within s (Replied answer) put = record { turns = refl; idles = refl; bytes = refl }
booking_within s (Faulted cause) put = record { turns = refl; idles = refl; bytes = refl }

news_within : (s : State) (outcome : Outcome Reply BookError) (put : Put) → StaysWithin s (after_news s outcome put)
news_within s (Replied answer) put = record { turns = refl; idles = refl; bytes = refl }
news_within s (Faulted cause) put = record { turns = refl; idles = refl; bytes = refl }

pub call_within : (stage : Stage) (s : State) (call : PoolCall) (put : Put) → StaysWithin s (after_call stage s call put)
call_within (Asking asked) s call put = asking_within s call.front call.outcome put
call_within (Committing brief) s call put = booking_within s call.outcome put
call_within Polling s call put = news_within s call.outcome put
call_within (Leaving reason) s call put = record { turns = refl; idles = refl; bytes = refl }
call_within Greeting s call put = within_same s
call_within Reading s call put = within_same s
call_within (Refusing code flags) s call put = within_same s
call_within (Saying bytes) s call put = within_same s
call_within (Over reason) s call put = within_same s

-- what the stage after a call says
module _ (bounds : Bounds) (done : List SessionStep) (s : State) (call : PoolCall) (put : Put)
    (sum : s.idles + idles_after 0 (turns_in (done ++ steps.Called call put ∷ [])) ≡ bounds.idle_turns) where
  pub asking_shows : (outcome : Outcome Reply BookError) → call.outcome ≡ outcome → 0 < s.idles → StageShows bounds (done ++ steps.Called call put ∷ []) s.idles (after_asking s call.front outcome put).stage
  asking_shows (Replied answer) is waits =
      let h = hears s call.front answer in
      put_shows bounds (done ++ steps.Called call put ∷ []) s.idles put.fault h.entered (answered_stage h.talk.about h.entered h.idles answer) (unwritten_now bounds done (steps.Called call put))
      (answered_shows bounds (done ++ steps.Called call put ∷ []) s.idles sum h.talk.about h.entered answer waits (turned_away_now done call put answer is))
  asking_shows (Faulted cause) is waits =
      ended_shows bounds (done ++ steps.Called call put ∷ []) s.idles s.entered (fault_end cause) (fault_shows bounds (done ++ steps.Called call put ∷ []) s.idles cause (unkept_now done call put cause is))

  pub booking_shows : (outcome : Outcome Reply BookError) → call.outcome ≡ outcome → StageShows bounds (done ++ steps.Called call put ∷ []) s.idles (after_booking s outcome put).stage
  booking_shows (Replied answer) is =
      put_shows bounds (done ++ steps.Called call put ∷ []) s.idles put.fault s.entered (news_stage s.entered s.idles) (unwritten_now bounds done (steps.Called call put))
      (news_shows bounds (done ++ steps.Called call put ∷ []) s.idles s.entered sum)
  booking_shows (Faulted cause) is =
      ended_shows bounds (done ++ steps.Called call put ∷ []) s.idles s.entered (fault_end cause) (fault_shows bounds (done ++ steps.Called call put ∷ []) s.idles cause (unkept_now done call put cause is))

  pub told_shows : (outcome : Outcome Reply BookError) → call.outcome ≡ outcome → StageShows bounds (done ++ steps.Called call put ∷ []) s.idles (after_news s outcome put).stage
  told_shows (Replied answer) is =
      put_shows bounds (done ++ steps.Called call put ∷ []) s.idles put.fault s.entered (next_stage s.entered s.idles) (unwritten_now bounds done (steps.Called call put))
      (next_shows bounds (done ++ steps.Called call put ∷ []) s.idles s.entered sum)
  told_shows (Faulted cause) is =
      ended_shows bounds (done ++ steps.Called call put ∷ []) s.idles s.entered (fault_end cause) (fault_shows bounds (done ++ steps.Called call put ∷ []) s.idles cause (unkept_now done call put cause is))

  pub left_shows : (reason : SessionEnd) (outcome : Outcome Reply BookError) → call.outcome ≡ outcome → EndShows bounds done reason → EndShows bounds (done ++ steps.Called call put ∷ []) (end_after reason outcome)
  left_shows reason (Replied answer) is shows = shows_more bounds done (steps.Called call put) refl reason shows
  left_shows end.Done (Faulted cause) is shows = fault_shows bounds (done ++ steps.Called call put ∷ []) s.idles cause (unkept_now done call put cause is)
  left_shows (end.CutFrame count) (Faulted cause) is shows = tt
  left_shows (end.TooLong len) (Faulted cause) is shows = tt
  left_shows end.BadSetup (Faulted cause) is shows = tt
  left_shows (end.BadMessage kind) (Faulted cause) is shows = tt
  left_shows end.LineTooLong (Faulted cause) is shows = tt
  left_shows end.IdleOut (Faulted cause) is shows = shows_more bounds done (steps.Called call put) refl end.IdleOut shows
  left_shows end.BytesOut (Faulted cause) is shows = shows_more bounds done (steps.Called call put) refl end.BytesOut shows
  left_shows end.PoolFull (Faulted cause) is shows = shows_more bounds done (steps.Called call put) refl end.PoolFull shows
  left_shows end.ReadFault (Faulted cause) is shows = shows_more bounds done (steps.Called call put) refl end.ReadFault shows
  left_shows end.WriteFault (Faulted cause) is shows = shows_more bounds done (steps.Called call put) refl end.WriteFault shows
  left_shows end.LedgerFault (Faulted cause) is shows = shows_more bounds done (steps.Called call put) refl end.LedgerFault shows
  left_shows end.Memory (Faulted cause) is shows = tt

  call_shows : (stage : Stage) → CanCall stage s call put → StageShows bounds done s.idles stage → StageShows bounds (done ++ steps.Called call put ∷ []) s.idles (after_call stage s call put).stage
  call_shows (Asking asked) can shows = asking_shows call.outcome refl shows
  call_shows (Committing brief) can shows = booking_shows call.outcome refl
  call_shows Polling can shows = told_shows call.outcome refl
  call_shows (Leaving reason) can shows = left_shows reason call.outcome refl shows
  call_shows Greeting can shows = absurd can
  call_shows Reading can shows = absurd can
  call_shows (Refusing code flags) can shows = absurd can
  call_shows (Saying bytes) can shows = absurd can
  call_shows (Over reason) can shows = absurd can

module _ (bounds : Bounds) (done : List SessionStep) (s : State) (stands : Stands bounds done s) where
  -- a step that takes no turn
  pub quiet : (x : SessionStep) (t : State) → turn_in x ≡ [] → StaysWithin s t → StageShows bounds (done ++ x ∷ []) s.idles t.stage → Stands bounds (done ++ x ∷ []) t
  quiet x t none same shows =
      let turns_same = turns_quiet done x none in
      record {
        turns = same.turns ∙ stands.turns;
        idles = ap (λ i. i + idles_after 0 (turns_in (done ++ x ∷ []))) same.idles ∙ ap (λ l. s.idles + idles_after 0 l) turns_same ∙ stands.idles;
        bytes = ap (λ b. b + length (bytes_in (turns_in (done ++ x ∷ [])))) same.bytes ∙ ap (λ l. s.bytes + length (bytes_in l)) turns_same ∙ stands.bytes;
        before = subst (IsFreeBefore bounds) (sym turns_same) stands.before;
        stage = subst (λ i. StageShows bounds (done ++ x ∷ []) i t.stage) (sym same.idles) shows;
      }

  -- the stage alone changes
  pub at : (x : SessionStep) (stage : Stage) → turn_in x ≡ [] → StageShows bounds (done ++ x ∷ []) s.idles stage → Stands bounds (done ++ x ∷ []) (steps.at_stage stage s)
  at x stage none shows = quiet x (steps.at_stage stage s) none (record { turns = refl; idles = refl; bytes = refl }) shows

  pub waits : (stage : Stage) → s.stage ≡ stage → StageShows bounds done s.idles stage
  waits stage is = subst (StageShows bounds done s.idles) is stands.stage

  -- no limit was reached where a turn is taken
  free : 0 < s.idles → 0 < s.bytes → IsFree bounds (turns_in done)
  free more some = (
    stands.before,
    within_limits bounds (turns_in done) (omega (arith, stands.idles)) (omega (arith, stands.bytes)),
  )

  pub took_stands : 0 < bounds.idle_turns → (bytes : List ℕ) → s.stage ≡ Reading → 0 < s.bytes → 0 < length bytes → length bytes ≤ s.bytes
      → Stands bounds (done ++ steps.Took bytes ∷ []) (after_step s (steps.Took bytes))
  took_stands positive bytes reading room some within =
      let x = steps.Took bytes in
      let ts = turns_in done in
      let more : 0 < s.idles = waits Reading reading in
      let turns_are : turns_in (done ++ x ∷ []) ≡ ts ++ map Some bytes = turns_in-more done x in
      let sum : length (bytes_in (ts ++ map Some bytes)) ≡ length (bytes_in ts) + length bytes =
      ap length (bytes_in-more ts bytes) ∙ length-append (bytes_in ts) bytes in
      let shown : 0 < s.idle_turns = subst (λ n. 0 < n) (sym stands.turns) positive in
      record {
        turns = stands.turns;
        idles = ap (λ l. s.idle_turns + idles_after 0 l) turns_are ∙ omega (arith, idles_after-more ts bytes some, stands.turns);
        bytes = ap (λ l. (s.bytes - length bytes) + length (bytes_in l)) turns_are ∙ omega (arith, sum, within, stands.bytes);
        before = subst (IsFreeBefore bounds) (sym turns_are) (free_bytes bounds ts (free more room) bytes positive (omega (arith, within, stands.bytes)));
        stage = subst (StageShows bounds (done ++ x ∷ []) s.idle_turns) (sym reading) shown;
      }

  pub idled_stands : s.stage ≡ Reading → 0 < s.bytes → Stands bounds (done ++ steps.Idled ∷ []) (after_step s steps.Idled)
  idled_stands reading room =
      let x = steps.Idled in
      let ts = turns_in done in
      let more : 0 < s.idles = waits Reading reading in
      let turns_are : turns_in (done ++ x ∷ []) ≡ ts ++ None ∷ [] = turns_in-more done x in
      let sum : (s.idles - 1) + idles_after 0 (turns_in (done ++ x ∷ [])) ≡ bounds.idle_turns =
      ap (λ l. (s.idles - 1) + idles_after 0 l) turns_are ∙ omega (arith, idles_after-idle ts, more, stands.idles) in
      record {
        turns = stands.turns;
        idles = sum;
        bytes = ap (λ l. s.bytes + length (bytes_in l)) turns_are ∙ ap (λ l. s.bytes + length l) (bytes_in-idle ts) ∙ stands.bytes;
        before = subst (IsFreeBefore bounds) (sym turns_are) (free_idle bounds ts (free more room));
        stage = news_shows bounds (done ++ x ∷ []) (s.idles - 1) s.entered sum;
      }

  says_waits : (stage : Stage) (put : Put) → Says stage put → s.stage ≡ stage → 0 < s.idles
  says_waits (Saying bytes) put says is = waits (Saying bytes) is
  says_waits (Refusing code flags) put says is = absurd says
  says_waits Greeting put says is = absurd says
  says_waits Reading put says is = absurd says
  says_waits (Asking asked) put says is = absurd says
  says_waits (Committing brief) put says is = absurd says
  says_waits Polling put says is = absurd says
  says_waits (Leaving reason) put says is = absurd says
  says_waits (Over reason) put says is = absurd says

  step_stands : (worker : ℕ) (x : SessionStep) → 0 < bounds.idle_turns → CanStep worker s x → Stands bounds (done ++ x ∷ []) (after_step s x)
  step_stands worker (steps.Greeted put) positive can =
      let x = steps.Greeted put in
      at x (put_stage put.fault s.entered Reading) refl
      (put_shows bounds (done ++ x ∷ []) s.idles put.fault s.entered Reading (unwritten_now bounds done x) (waits Greeting can.0))
  step_stands worker (steps.Took bytes) positive can = took_stands positive bytes can.can.waiting.reading can.can.some can.some can.within
  step_stands worker (steps.Framed met) positive can =
      let x = steps.Framed met in
      quiet x (after_step s x) refl (record { turns = refl; idles = refl; bytes = refl })
      (met_shows bounds (done ++ x ∷ []) s.idles s.entered met.step (waits Reading can.reading))
  step_stands worker (steps.Refused put) positive can =
      let x = steps.Refused put in
      at x (put_stage put.fault s.entered (end_stage s.entered end.BadSetup)) refl
      (put_shows bounds (done ++ x ∷ []) s.idles put.fault s.entered (end_stage s.entered end.BadSetup) (unwritten_now bounds done x)
      (ended_shows bounds (done ++ x ∷ []) s.idles s.entered end.BadSetup tt))
  step_stands worker (steps.Said put) positive can =
      let x = steps.Said put in
      at x (put_stage put.fault s.entered Reading) refl
      (put_shows bounds (done ++ x ∷ []) s.idles put.fault s.entered Reading (unwritten_now bounds done x) (says_waits s.stage put can refl))
  step_stands worker (steps.Overran len) positive can =
      let x = steps.Overran len in
      at x (end_stage s.entered (end.TooLong len)) refl (ended_shows bounds (done ++ x ∷ []) s.idles s.entered (end.TooLong len) tt)
  step_stands worker steps.Idled positive can = idled_stands can.waiting.reading can.some
  step_stands worker steps.Ended positive can =
      let x = steps.Ended in
      at x (end_stage s.entered (input_end s.unmet)) refl
      (ended_shows bounds (done ++ x ∷ []) s.idles s.entered (input_end s.unmet) (input_shows bounds (done ++ x ∷ []) s.idles s.unmet))
  step_stands worker steps.Missed positive can =
      let x = steps.Missed in
      at x (end_stage s.entered end.ReadFault) refl
      (ended_shows bounds (done ++ x ∷ []) s.idles s.entered end.ReadFault (any_last is_missed done x refl))
  step_stands worker steps.Starved positive can =
      let x = steps.Starved in
      at x (end_stage s.entered end.Memory) refl (ended_shows bounds (done ++ x ∷ []) s.idles s.entered end.Memory tt)
  step_stands worker steps.Spent positive can =
      let x = steps.Spent in
      at x (end_stage s.entered end.BytesOut) refl
      (ended_shows bounds (done ++ x ∷ []) s.idles s.entered end.BytesOut
      (subst (IsBytesOut bounds) (sym (turns_quiet done x refl)) (omega (arith, can.1, stands.bytes))))
  step_stands worker (steps.Called call put) positive can =
      let x = steps.Called call put in
      let sum : s.idles + idles_after 0 (turns_in (done ++ x ∷ [])) ≡ bounds.idle_turns = ap (λ l. s.idles + idles_after 0 l) (turns_quiet done x refl) ∙ stands.idles in
      quiet x (after_step s x) refl (call_within s.stage s call put)
      (call_shows bounds done s call put sum s.stage can.1 stands.stage)

stands_on : (bounds : Bounds) (worker : ℕ) (s t : State) (done xs : List SessionStep) → 0 < bounds.idle_turns → Stands bounds done s → Follows worker s xs t → Stands bounds (done ++ xs) t
stands_on bounds worker s t done [] positive stands follows = rw (follows, append-nil done) stands
stands_on bounds worker s t done (x ∷ xs) positive stands follows =
    subst (λ l. Stands bounds l t) (append_assoc done (x ∷ []) xs)
    (stands_on bounds worker (after_step s x) t (done ++ x ∷ []) xs positive (step_stands bounds done s stands worker x positive follows.0) follows.1)

-- nothing was taken
pub free_before_none : (bounds : Bounds) → IsFreeBefore bounds []
free_before_none bounds [] x rest split at = cc
free_before_none bounds (y ∷ front) x rest split at = cc

pub begins_stand : (manner : Manner) → 0 < manner.idle_turns → Stands (session_bounds manner.idle_turns) [] (new_state manner)
begins_stand manner positive = record {
  turns = refl;
  idles = omega arith;
  bytes = refl;
  before = free_before_none (session_bounds manner.idle_turns);
  stage = positive;
}

-- what a session's last state says of all steps
session_stands : (worker : ℕ) (manner : Manner) (xs : List SessionStep) (last : State) → 0 < manner.idle_turns
    → Follows worker (new_state manner) xs last → Stands (session_bounds manner.idle_turns) xs last
session_stands worker manner xs last positive follows =
    stands_on (session_bounds manner.idle_turns) worker (new_state manner) last [] xs positive (begins_stand manner positive) follows

pub ends_show : (worker : ℕ) (manner : Manner) (xs : List SessionStep) (last : State) (reason : SessionEnd) → 0 < manner.idle_turns
    → Follows worker (new_state manner) xs last → last.stage ≡ Over reason → EndShows (session_bounds manner.idle_turns) xs reason
ends_show worker manner xs last reason positive follows over =
    subst (StageShows (session_bounds manner.idle_turns) xs last.idles) over (session_stands worker manner xs last positive follows).stage

pub limits_last : (worker : ℕ) (manner : Manner) (xs : List SessionStep) (last : State) → 0 < manner.idle_turns
    → Follows worker (new_state manner) xs last → IsFreeBefore (session_bounds manner.idle_turns) (turns_in xs)
limits_last worker manner xs last positive follows = (session_stands worker manner xs last positive follows).before
