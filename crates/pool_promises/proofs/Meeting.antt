-- What a frame leads to: who isn't set up asks to enter alone, and who is brings jobs of its own where a
-- Grant of a path is asked for.
use Rattle.std.proofs.Common.{◌≡◌, ◌==◌, ◌&&◌, ◌||◌, ◌%◌, ℕ, Bool, true, Option, None, Some, List, inl, inr, refl, sym, ap, subst, ◌∙◌}
use Rattle.sv2_frames.specs.Framing.{FrameValue}
use Rattle.sv2_messages.specs.Messages.{Message}
use Rattle.pool_history.specs.declared.asking.Request.{Request}
use Rattle.pool_history.specs.declared.asking.Request.TheVariants as request
use Rattle.pool_history.specs.declared.events.Event.{Event}
use Rattle.pool_history.specs.declared.events.Role.{Role}
use Rattle.session_steps.specs.declared.about.About.{About}
use Rattle.session_steps.specs.declared.ends.SessionEnd.TheVariants as end
use Rattle.session_steps.specs.declared.meeting.SetupCode.{SetupCode}
use Rattle.session_steps.specs.declared.meeting.Step.{Step}
use Rattle.session_steps.specs.declared.meeting.Step.TheVariants as step
use Rattle.session_steps.specs.Asking.{Asks}
use Rattle.session_steps.specs.Meeting.{AsksNext, Brings, LeadsBy, Meets, SetsUp}
use Rattle.session_steps.specs.Setups.{Setup, Accepted, Refused, Unsuited, setup_in}
use Rattle.session_steps.specs.Steps.{met_stage}
use Rattle.session_steps.specs.Taken.{brings_own_jobs, is_declared_kind, is_taken, takes_declared, takes_kind}
use Rattle.session_steps.specs.Talks.{Talk}
use Rattle.pool_promises.proofs.Undeclared.{and_second, declared_kinds}
use Rattle.pool_promises.proofs.DeclaredPresent.{IsPresent, IsSettled, StandsAsking, StandsAt, ended_at}

-- ---- frames of declarations are taken of who brings jobs of its own

-- a kind is taken with these flags
abbrev takes : Role → Bool → ℕ → ℕ → Bool
takes role declares flags kind =
    takes_kind role (Some flags) kind
    || (is_declared_kind kind && (declares && brings_own_jobs role (Some flags)))

kind_brings : (role : Role) (declares : Bool) (flags kind : ℕ) → is_declared_kind kind ≡ true
    → takes role declares flags kind ≡ true → brings_own_jobs role (Some flags) ≡ true
kind_brings role declares flags kind is taken =
    elim (declared_kinds kind is) [
      | inl one ↦ and_second declares (brings_own_jobs role (Some flags))
          (subst (λ k. takes role declares flags k ≡ true) one taken)
      | inr other ↦ and_second declares (brings_own_jobs role (Some flags))
          (subst (λ k. takes role declares flags k ≡ true) other taken)
    ]

declared_brings : (talk : Talk) (frame : FrameValue) (flags : ℕ) → talk.flags ≡ Some flags
    → is_taken talk frame ≡ true → is_declared_kind frame.kind ≡ true
    → brings_own_jobs talk.role (Some flags) ≡ true
declared_brings talk frame flags are taken is =
    kind_brings talk.role talk.declares flags frame.kind is
    (subst (λ o. (takes_kind talk.role o frame.kind || (is_declared_kind frame.kind && (talk.declares && brings_own_jobs talk.role o))) ≡ true) are
    (and_second (frame.ext % 0x8000 == 0) (takes_kind talk.role talk.flags frame.kind || takes_declared talk frame.kind) taken))

-- ---- what comes of a frame

module _ (worker : ℕ) (events : List Event) (talk next : Talk) (entered : Bool) where
  abbrev Settled : Type 0
  Settled = IsSettled worker events talk.role talk.flags entered

  abbrev Present : Type 0
  Present = IsPresent worker events talk.role talk.flags entered

  abbrev StandsNext : Request → Type 0
  StandsNext asked = StandsAsking worker events next.role next.flags entered asked

  -- a session that is set up is present
  set_up : (flags : ℕ) → talk.flags ≡ Some flags → Settled → Present
  set_up flags are settled =
      elim settled [
        | inl none ↦ let no : Some flags ≡ None = sym are ∙ none in absurd cc
        | inr there ↦ there
      ]

  -- where its role and its flags stay
  carried : next.role ≡ talk.role → next.flags ≡ talk.flags → Settled
      → IsSettled worker events next.role next.flags entered
  carried role_is flags_are settled =
      subst (λ r. IsSettled worker events r next.flags entered) (sym role_is)
      (subst (λ f. IsSettled worker events talk.role f entered) (sym flags_are) settled)

  asking : next.role ≡ talk.role → next.flags ≡ talk.flags → (asked : Request)
      → StandsAsking worker events talk.role talk.flags entered asked → StandsNext asked
  asking role_is flags_are asked stands =
      subst (λ r. StandsAsking worker events r next.flags entered asked) (sym role_is)
      (subst (λ f. StandsAsking worker events talk.role f entered asked) (sym flags_are) stands)

  -- a request of a session's work
  work_stands : (message : Message) (asked : Request) (about : About) → Asks message asked about → Present
      → StandsAsking worker events talk.role talk.flags entered asked
  work_stands message (request.Grant identity (Some path)) about asks there =
      let no : Some path ≡ None = asks.any_path in absurd cc
  work_stands message (request.Enter role flags) about asks there = absurd asks
  work_stands message request.Leave about asks there = absurd asks
  work_stands message _ about asks there = (there, refl)

  module _ (frame : FrameValue) (taken : is_taken talk frame ≡ true) (settled : Settled) where
    behind_setup : (flags : ℕ) (message : Message) (asked : Request) → talk.flags ≡ Some flags → Brings frame message
        → AsksNext message talk (step.Ask asked) next → StandsNext asked
    behind_setup flags message asked are brought asks =
        elim asks [
          | inl work ↦ asking (ap (λ t. t.role) work.2) (ap (λ t. t.flags) work.2) asked
              (work_stands message asked work.0 work.1 (set_up flags are settled))
          | inr declared ↦ subst StandsNext (sym declared.asked_is)
              (asking (ap (λ t. t.role) declared.next_is) (ap (λ t. t.flags) declared.next_is)
              (request.Grant declared.identity (Some declared.path)) (
                set_up flags are settled,
                subst (λ o. brings_own_jobs talk.role o ≡ true) (sym are)
                    (declared_brings talk frame flags are taken
                    (sym (ap is_declared_kind brought.same_kind) ∙ declared.declared)),
              ))
        ]

    first_stands : (setup : Setup) (asked : Request) → SetsUp setup talk (step.Ask asked) next → StandsNext asked
    first_stands (Accepted flags) asked sets =
        let made : step.Ask asked ≡ step.Ask (request.Enter talk.role flags) = sets.0 in
        let enters : request.Enter talk.role flags ≡ asked = cc in
        subst StandsNext enters (sym (ap (λ t. t.role) sets.1), ap (λ t. t.flags) sets.1)
    first_stands (Refused code flags) asked sets =
        let no : step.Ask asked ≡ step.RefuseSetup code flags = sets.0 in absurd cc
    first_stands Unsuited asked sets = let no : step.Ask asked ≡ step.BadSetup = sets.0 in absurd cc

    ask_stands : (flags : Option ℕ) (message : Message) (asked : Request) → talk.flags ≡ flags → Brings frame message
        → LeadsBy flags talk message (step.Ask asked) next → StandsNext asked
    ask_stands None message asked are brought leads = first_stands (setup_in talk.role talk.rolling message) asked leads
    ask_stands (Some flags) message asked are brought leads = behind_setup flags message asked are brought leads

    -- what is said, and a setup that is refused
    first_said : (setup : Setup) (bytes : List ℕ) → SetsUp setup talk (step.Say bytes) next
        → IsSettled worker events next.role next.flags entered
    first_said (Accepted flags) bytes sets =
        let no : step.Say bytes ≡ step.Ask (request.Enter talk.role flags) = sets.0 in absurd cc
    first_said (Refused code flags) bytes sets =
        let no : step.Say bytes ≡ step.RefuseSetup code flags = sets.0 in absurd cc
    first_said Unsuited bytes sets = let no : step.Say bytes ≡ step.BadSetup = sets.0 in absurd cc

    say_stands : (flags : Option ℕ) (message : Message) (bytes : List ℕ)
        → LeadsBy flags talk message (step.Say bytes) next → IsSettled worker events next.role next.flags entered
    say_stands None message bytes leads = first_said (setup_in talk.role talk.rolling message) bytes leads
    say_stands (Some flags) message bytes leads =
        carried (ap (λ t. t.role) leads.next_is) (ap (λ t. t.flags) leads.next_is) settled

    first_refused : (setup : Setup) (code : SetupCode) (others : ℕ)
        → SetsUp setup talk (step.RefuseSetup code others) next
        → IsSettled worker events next.role next.flags entered
    first_refused (Accepted flags) code others sets =
        let no : step.RefuseSetup code others ≡ step.Ask (request.Enter talk.role flags) = sets.0 in absurd cc
    first_refused (Refused why flags) code others sets =
        carried (ap (λ t. t.role) sets.1) (ap (λ t. t.flags) sets.1) settled
    first_refused Unsuited code others sets =
        let no : step.RefuseSetup code others ≡ step.BadSetup = sets.0 in absurd cc

    refuse_stands : (flags : Option ℕ) (message : Message) (code : SetupCode) (others : ℕ)
        → LeadsBy flags talk message (step.RefuseSetup code others) next
        → IsSettled worker events next.role next.flags entered
    refuse_stands None message code others leads =
        first_refused (setup_in talk.role talk.rolling message) code others leads
    refuse_stands (Some flags) message code others leads = absurd leads

  pub met_stands : (frame : FrameValue) (made : Step) → Settled → Meets talk frame made next
      → StandsAt worker events next.role next.flags entered (met_stage entered made)
  met_stands frame step.Ignore settled meets =
      carried (ap (λ t. t.role) meets.1) (ap (λ t. t.flags) meets.1) settled
  met_stands frame (step.Ask asked) settled meets =
      ask_stands frame meets.taken settled talk.flags meets.message asked refl meets.brought meets.leads
  met_stands frame (step.Say bytes) settled meets =
      say_stands frame meets.taken settled talk.flags meets.message bytes meets.leads
  met_stands frame (step.RefuseSetup code others) settled meets =
      refuse_stands frame meets.taken settled talk.flags meets.message code others meets.leads
  met_stands frame step.BadSetup settled meets =
      ended_at worker events next.role next.flags entered entered end.BadSetup
  met_stands frame (step.BadMessage kind) settled meets =
      ended_at worker events next.role next.flags entered entered (end.BadMessage kind)
