-- What a session knows of declarations after a frame is what the rules make of one move more.
use Rattle.std.proofs.Common.{◌≡◌, ℕ, true, Option, None, Some, List, ◌∷◌, inl, inr, refl, sym, ap, subst, ◌∙◌}
use Rattle.sv2_frames.specs.Framing.{FrameValue}
use Rattle.sv2_messages.specs.Messages.{Message}
use Rattle.pool_history.specs.declared.asking.Request.{Request}
use Rattle.pool_history.specs.declared.asking.Request.TheVariants as request
use Rattle.job_declaration.specs.Declaring.{asking_token, reaction}
use Rattle.job_declaration.specs.Moves.{DeclareMove, AskedToken, Met, state_after}
use Rattle.session_steps.specs.declared.about.About.{About}
use Rattle.session_steps.specs.declared.meeting.Step.{Step}
use Rattle.session_steps.specs.declared.meeting.Step.TheVariants as step
use Rattle.session_steps.specs.Asking.{Asks}
use Rattle.session_steps.specs.Meeting.{AsksDeclared, AsksNext, Brings, LeadsBy, Meets, SaysDeclared, SetsUp, noting}
use Rattle.session_steps.specs.Setups.{Setup, Accepted, Refused, Unsuited, setup_in}
use Rattle.session_steps.specs.Talks.{Talk}
use Rattle.pool_promises.specs.Moves.{TellsAsked, TellsGrant, TellsMet}

-- a frame's moves, by which the session knows what it does
pub record Tells (past : List DeclareMove) (frame : FrameValue) (made : Step) (next : Talk) :
    Type 0 where
  pub now : List DeclareMove
  pub tells : TellsMet past frame made now
  pub knows : next.declarations ≡ state_after now

module _ (past : List DeclareMove) (talk next : Talk) (frame : FrameValue)
    (takes : talk.declares ≡ true) (known : talk.declarations ≡ state_after past) where
  set_up_tells : (setup : Setup) (made : Step) → SetsUp setup talk made next → Tells past frame made next
  set_up_tells (Accepted flags) made sets =
      record {
        now = past;
        tells = subst (λ m. TellsMet past frame m past) (sym sets.0) refl;
        knows = ap (λ t. t.declarations) sets.1 ∙ known;
      }
  set_up_tells (Refused code flags) made sets =
      record {
        now = past;
        tells = subst (λ m. TellsMet past frame m past) (sym sets.0) refl;
        knows = ap (λ t. t.declarations) sets.1 ∙ known;
      }
  set_up_tells Unsuited made sets =
      record {
        now = past;
        tells = subst (λ m. TellsMet past frame m past) (sym sets.0) refl;
        knows = ap (λ t. t.declarations) sets.1 ∙ known;
      }

  work_tells : (message : Message) (asked : Request) (about : About) → Asks message asked about
      → next.declarations ≡ noting talk.declares talk.declarations asked
      → Tells past frame (step.Ask asked) next
  work_tells message (request.Grant identity path) about asks noted =
      record {
        now = AskedToken identity ∷ past;
        tells = subst (λ p. TellsGrant past frame identity p (AskedToken identity ∷ past)) (sym asks.any_path) refl;
        knows = noted ∙ ap (λ d. noting d talk.declarations (request.Grant identity path)) takes
            ∙ ap (λ state. asking_token state identity) known;
      }
  work_tells message asked about asks noted = record { now = past; tells = refl; knows = noted ∙ known }

  declared_tells : (message : Message) (asked : Request) → Brings frame message
      → AsksDeclared message talk asked next → Tells past frame (step.Ask asked) next
  declared_tells message asked brought asks =
      record {
        now = Met message ∷ past;
        tells = subst (λ a. TellsAsked past frame a (Met message ∷ past)) (sym asks.asked_is)
            (record { message = message; brought = brought; next_is = refl });
        knows = ap (λ t. t.declarations) asks.next_is ∙ ap (λ state. (reaction state message).after) known;
      }

  said_tells : (message : Message) (bytes : List ℕ) → Brings frame message
      → SaysDeclared message talk bytes next → Tells past frame (step.Say bytes) next
  said_tells message bytes brought says =
      record {
        now = Met message ∷ past;
        tells = record { message = message; brought = brought; next_is = refl };
        knows = ap (λ t. t.declarations) says.next_is ∙ ap (λ state. (reaction state message).after) known;
      }

  next_tells : (made : Step) (message : Message) → Brings frame message → AsksNext message talk made next
      → Tells past frame made next
  next_tells (step.Ask asked) message brought asks =
      elim asks [
        | inl work ↦ work_tells message asked work.0 work.1 (ap (λ t. t.declarations) work.2)
        | inr declared ↦ declared_tells message asked brought declared
      ]
  next_tells (step.Say bytes) message brought says = said_tells message bytes brought says
  next_tells step.Ignore message brought asks = absurd asks
  next_tells (step.RefuseSetup code flags) message brought asks = absurd asks
  next_tells step.BadSetup message brought asks = absurd asks
  next_tells (step.BadMessage kind) message brought asks = absurd asks

  leads_tells : (flags : Option ℕ) (made : Step) (message : Message) → Brings frame message
      → LeadsBy flags talk message made next → Tells past frame made next
  leads_tells None made message brought leads = set_up_tells (setup_in talk.role talk.rolling message) made leads
  leads_tells (Some flags) made message brought leads = next_tells made message brought leads

  pub meets_tells : (made : Step) → Meets talk frame made next → Tells past frame made next
  meets_tells step.Ignore meets =
      record { now = past; tells = refl; knows = ap (λ t. t.declarations) meets.1 ∙ known }
  meets_tells (step.BadMessage kind) meets =
      record { now = past; tells = refl; knows = ap (λ t. t.declarations) meets.same ∙ known }
  meets_tells (step.Ask asked) meets = leads_tells talk.flags (step.Ask asked) meets.message meets.brought meets.leads
  meets_tells (step.Say bytes) meets = leads_tells talk.flags (step.Say bytes) meets.message meets.brought meets.leads
  meets_tells (step.RefuseSetup code flags) meets =
      leads_tells talk.flags (step.RefuseSetup code flags) meets.message meets.brought meets.leads
  meets_tells step.BadSetup meets = leads_tells talk.flags step.BadSetup meets.message meets.brought meets.leads
