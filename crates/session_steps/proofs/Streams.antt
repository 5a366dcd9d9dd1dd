-- The bytes that a session took are the frames that it met, and then what isn't met.
use Rattle.std.proofs.Common.{◌≡◌, ℕ, Bool, Option, None, inl, inr, List, [], ◌∷◌, ◌++◌, Some, sym, ap, subst, ◌∙◌, refl, append_assoc, append-nil}
use Rattle.std.specs.Prelude.{map}
use Rattle.std.specs.List.{AllByRecursion, flat_map}
use Rattle.pool_base.specs.Calls.{Outcome, Replied, Faulted}
use Rattle.pool_io.specs.Steps.{bytes_in}
use Rattle.pool_io.proofs.Stepping.{bytes_in-append, bytes_in-map}
use Rattle.pool_history.specs.declared.refusals.BookError.{BookError}
use Rattle.pool_history.specs.declared.replies.Reply.{Reply}
use Rattle.pool_history.specs.Calls.{PoolCall}
use Rattle.sv2_frames.specs.Framing.{FrameValue, IsFrame, frame_bytes}
use Rattle.sv2_frames.specs.Stream.{AreWithin, stream_of}
use Rattle.sv2_messages.specs.Messages.{Message}
use Rattle.session_steps.specs.declared.meeting.Step.{Step}
use Rattle.session_steps.specs.declared.meeting.Step.TheVariants as step
use Rattle.session_steps.specs.Laws.{MetAreFrames, TakenIsMet}
use Rattle.session_steps.specs.Meeting.{AsksNext, LeadsBy, Meets, SetsUp}
use Rattle.session_steps.specs.Setups as setups
use Rattle.session_steps.specs.Setups.{Setup, Accepted, Unsuited, setup_in}
use Rattle.session_steps.specs.States.{State, Stage, Greeting, Reading, Refusing, Saying, Asking, Committing, Polling, Leaving, Over, Put, most_payload, new_state}
use Rattle.session_steps.specs.Steps.{CanStep, Follows, SessionStep, Greeted, Took, Framed, Refused, Said, Overran, Idled, Ended, Missed, Starved, Spent, Called, after_asking, after_booking, after_call, after_news, after_step, frames_in, turns_in}
use Rattle.session_steps.specs.Talks.{Talk}

asking_unmet : (s : State) (front : ℕ) (outcome : Outcome Reply BookError) (put : Put) → (after_asking s front outcome put).unmet ≡ s.unmet
asking_unmet s front (Replied answer) put = refl
asking_unmet s front (Faulted cause) put = refl

booking_unmet : (s : State) (outcome : Outcome Reply BookError) (put : Put) → (after_booking s outcome put).unmet ≡ s.unmet
booking_unmet s (Replied answer) put = refl
booking_unmet s (Faulted cause) put = refl

news_unmet : (s : State) (outcome : Outcome Reply BookError) (put : Put) → (after_news s outcome put).unmet ≡ s.unmet
news_unmet s (Replied answer) put = refl
news_unmet s (Faulted cause) put = refl

pub call_unmet : (stage : Stage) (s : State) (call : PoolCall) (put : Put) → (after_call stage s call put).unmet ≡ s.unmet
call_unmet (Asking asked) s call put = asking_unmet s call.front call.outcome put
call_unmet (Committing brief) s call put = booking_unmet s call.outcome put
call_unmet Polling s call put = news_unmet s call.outcome put
call_unmet (Leaving reason) s call put = refl
call_unmet Greeting s call put = refl
call_unmet Reading s call put = refl
call_unmet (Refusing code flags) s call put = refl
call_unmet (Saying bytes) s call put = refl
call_unmet (Over reason) s call put = refl

taken_from : (worker : ℕ) (s t : State) (steps : List SessionStep) → Follows worker s steps t
    → s.unmet ++ bytes_in (turns_in steps) ≡ stream_of (frames_in steps) t.unmet
taken_from worker s t [] follows = append-nil s.unmet ∙ sym (ap (λ u. u.unmet) follows)
taken_from worker s t (Took bytes ∷ xs) follows =
    ap (λ b. s.unmet ++ b) (bytes_in-append (map Some bytes) (turns_in xs) ∙ ap (λ b. b ++ bytes_in (turns_in xs)) (bytes_in-map bytes))
    ∙ sym (append_assoc s.unmet bytes (bytes_in (turns_in xs)))
    ∙ taken_from worker (after_step s (Took bytes)) t xs follows.1
taken_from worker s t (Framed met ∷ xs) follows =
    ap (λ u. u ++ bytes_in (turns_in xs)) follows.0.whole
    ∙ append_assoc (frame_bytes met.frame) met.rest (bytes_in (turns_in xs))
    ∙ ap (λ b. frame_bytes met.frame ++ b) (taken_from worker (after_step s (Framed met)) t xs follows.1)
    ∙ sym (append_assoc (frame_bytes met.frame) (flat_map frame_bytes (frames_in xs)) t.unmet)
taken_from worker s t (Called call put ∷ xs) follows =
    ap (λ u. u ++ bytes_in (turns_in xs)) (sym (call_unmet s.stage s call put))
    ∙ taken_from worker (after_step s (Called call put)) t xs follows.1
taken_from worker s t (Greeted put ∷ xs) follows = taken_from worker (after_step s (Greeted put)) t xs follows.1
taken_from worker s t (Refused put ∷ xs) follows = taken_from worker (after_step s (Refused put)) t xs follows.1
taken_from worker s t (Said put ∷ xs) follows = taken_from worker (after_step s (Said put)) t xs follows.1
taken_from worker s t (Overran len ∷ xs) follows = taken_from worker (after_step s (Overran len)) t xs follows.1
taken_from worker s t (Idled ∷ xs) follows = taken_from worker (after_step s Idled) t xs follows.1
taken_from worker s t (Ended ∷ xs) follows = taken_from worker (after_step s Ended) t xs follows.1
taken_from worker s t (Missed ∷ xs) follows = taken_from worker (after_step s Missed) t xs follows.1
taken_from worker s t (Starved ∷ xs) follows = taken_from worker (after_step s Starved) t xs follows.1
taken_from worker s t (Spent ∷ xs) follows = taken_from worker (after_step s Spent) t xs follows.1

pub taken_is_met : TakenIsMet
taken_is_met worker manner steps last follows =
    taken_from worker (new_state manner) last steps follows

-- whether declarations are taken stays as it is
asking_declares : (s : State) (front : ℕ) (outcome : Outcome Reply BookError) (put : Put) → (after_asking s front outcome put).talk.declares ≡ s.talk.declares
asking_declares s front (Replied answer) put = refl
asking_declares s front (Faulted cause) put = refl

booking_declares : (s : State) (outcome : Outcome Reply BookError) (put : Put) → (after_booking s outcome put).talk.declares ≡ s.talk.declares
booking_declares s (Replied answer) put = refl
booking_declares s (Faulted cause) put = refl

news_declares : (s : State) (outcome : Outcome Reply BookError) (put : Put) → (after_news s outcome put).talk.declares ≡ s.talk.declares
news_declares s (Replied answer) put = refl
news_declares s (Faulted cause) put = refl

pub call_declares : (stage : Stage) (s : State) (call : PoolCall) (put : Put) → (after_call stage s call put).talk.declares ≡ s.talk.declares
call_declares (Asking asked) s call put = asking_declares s call.front call.outcome put
call_declares (Committing brief) s call put = booking_declares s call.outcome put
call_declares Polling s call put = news_declares s call.outcome put
call_declares (Leaving reason) s call put = refl
call_declares Greeting s call put = refl
call_declares Reading s call put = refl
call_declares (Refusing code flags) s call put = refl
call_declares (Saying bytes) s call put = refl
call_declares (Over reason) s call put = refl

set_up_declares : (setup : Setup) (talk next : Talk) (made : Step) → SetsUp setup talk made next → next.declares ≡ talk.declares
set_up_declares (Accepted flags) talk next made sets = ap (λ t. t.declares) sets.1
set_up_declares (setups.Refused code flags) talk next made sets = ap (λ t. t.declares) sets.1
set_up_declares Unsuited talk next made sets = ap (λ t. t.declares) sets.1

asks_declares : (message : Message) (talk next : Talk) (made : Step) → AsksNext message talk made next → next.declares ≡ talk.declares
asks_declares message talk next (step.Ask asked) asks =
    elim asks [
      | inl work ↦ ap (λ t. t.declares) work.2
      | inr declared ↦ ap (λ t. t.declares) declared.next_is
    ]
asks_declares message talk next (step.Say bytes) asks = ap (λ t. t.declares) asks.next_is
asks_declares message talk next step.Ignore asks = absurd asks
asks_declares message talk next (step.RefuseSetup code flags) asks = absurd asks
asks_declares message talk next step.BadSetup asks = absurd asks
asks_declares message talk next (step.BadMessage kind) asks = absurd asks

leads_declares : (flags : Option ℕ) (talk next : Talk) (message : Message) (made : Step) → LeadsBy flags talk message made next → next.declares ≡ talk.declares
leads_declares None talk next message made leads = set_up_declares (setup_in talk.role talk.rolling message) talk next made leads
leads_declares (Some flags) talk next message made leads = asks_declares message talk next made leads

pub meets_declares : (talk next : Talk) (frame : FrameValue) (made : Step) → Meets talk frame made next → next.declares ≡ talk.declares
meets_declares talk next frame step.Ignore meets = ap (λ t. t.declares) meets.1
meets_declares talk next frame (step.BadMessage kind) meets = ap (λ t. t.declares) meets.same
meets_declares talk next frame (step.Ask asked) meets = leads_declares talk.flags talk next meets.message (step.Ask asked) meets.leads
meets_declares talk next frame (step.Say bytes) meets = leads_declares talk.flags talk next meets.message (step.Say bytes) meets.leads
meets_declares talk next frame (step.RefuseSetup code flags) meets = leads_declares talk.flags talk next meets.message (step.RefuseSetup code flags) meets.leads
meets_declares talk next frame step.BadSetup meets = leads_declares talk.flags talk next meets.message step.BadSetup meets.leads

pub step_declares : (worker : ℕ) (s : State) (x : SessionStep) → CanStep worker s x → (after_step s x).talk.declares ≡ s.talk.declares
step_declares worker s (Framed met) can = meets_declares s.talk met.talk met.frame met.step can.meets
step_declares worker s (Called call put) can = call_declares s.stage s call put
step_declares worker s (Greeted put) can = refl
step_declares worker s (Took bytes) can = refl
step_declares worker s (Refused put) can = refl
step_declares worker s (Said put) can = refl
step_declares worker s (Overran len) can = refl
step_declares worker s Idled can = refl
step_declares worker s Ended can = refl
step_declares worker s Missed can = refl
step_declares worker s Starved can = refl
step_declares worker s Spent can = refl

pub follows_declares : (worker : ℕ) (s t : State) (xs : List SessionStep) → Follows worker s xs t → t.talk.declares ≡ s.talk.declares
follows_declares worker s t [] follows = ap (λ u. u.talk.declares) follows
follows_declares worker s t (x ∷ xs) follows = follows_declares worker (after_step s x) t xs follows.1 ∙ step_declares worker s x follows.0

-- all that was met was frames within the limit
abbrev AreMet : Bool → List SessionStep → Type 0
AreMet declares steps = AllByRecursion IsFrame (frames_in steps) × AreWithin (most_payload declares) (frames_in steps)

same_met : (worker : ℕ) (s t : State) (x : SessionStep) (xs : List SessionStep) → CanStep worker s x → AreMet (after_step s x).talk.declares xs → AreMet s.talk.declares xs
same_met worker s t x xs can met = subst (λ d. AreMet d xs) (step_declares worker s x can) met

met_first : (worker : ℕ) (s t : State) (x : SessionStep) (xs : List SessionStep) → CanStep worker s x → AreMet s.talk.declares xs → AreMet s.talk.declares (x ∷ xs)
met_first worker s t (Framed met) xs can later = ((can.fits, later.0), (can.within, later.1))
met_first worker s t (Called call put) xs can later = later
met_first worker s t (Greeted put) xs can later = later
met_first worker s t (Took bytes) xs can later = later
met_first worker s t (Refused put) xs can later = later
met_first worker s t (Said put) xs can later = later
met_first worker s t (Overran len) xs can later = later
met_first worker s t Idled xs can later = later
met_first worker s t Ended xs can later = later
met_first worker s t Missed xs can later = later
met_first worker s t Starved xs can later = later
met_first worker s t Spent xs can later = later

pub met_are_frames : MetAreFrames
met_are_frames worker s t [] follows = (tt, tt)
met_are_frames worker s t (x ∷ xs) follows =
    met_first worker s t x xs follows.0 (same_met worker s t x xs follows.0 (met_are_frames worker (after_step s x) t xs follows.1))
