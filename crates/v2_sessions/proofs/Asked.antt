-- What a frame asks for is what the answer will be about.
use Rattle.std.proofs.Common.{◌≡◌, ℕ, Option, Some, None, inl, inr, ap, sym, ◌∙◌}
use Rattle.sv2_frames.specs.Framing.{FrameValue}
use Rattle.sv2_messages.specs.Messages.{Message}
use Rattle.pool_history.specs.declared.asking.Request.{Request}
use Rattle.pool_history.specs.declared.asking.Request.TheVariants as request
use Rattle.pool_history.specs.declared.shares.Submission.{Submission}
use Rattle.job_declaration.specs.declared.asked.Asked.{Asked}
use Rattle.job_declaration.specs.declared.asked.Asked.TheVariants as asks
use Rattle.job_declaration.specs.Declaring.{reaction}
use Rattle.session_steps.specs.declared.about.About.{About}
use Rattle.session_steps.specs.declared.about.About.TheVariants as topic
use Rattle.session_steps.specs.declared.meeting.Step.{Step}
use Rattle.session_steps.specs.declared.meeting.Step.TheVariants as step
use Rattle.session_steps.specs.Asking.{Asks}
use Rattle.session_steps.specs.Meeting.{LeadsBy, Meets, SetsUp, about_asked}
use Rattle.session_steps.specs.Setups.{Setup, Accepted, Refused, Unsuited, setup_in}
use Rattle.session_steps.specs.Talks.{Talk}
use Rattle.v2_sessions.specs.Meeting.{AsksAsTold, StepAsksAsTold}

asks_told : (asked : Request) (message : Message) (about : About) → Asks message asked about → AsksAsTold asked about
asks_told (request.Template template) message about asks sub is = let no = sym asks.1 ∙ is in cc
asks_told (request.Tip tip) message about asks sub is = let no = sym asks.1 ∙ is in cc
asks_told (request.Open ask) message about asks sub is = let no = sym asks.about_it ∙ is in cc
asks_told (request.Update channel target) message about asks sub is = let no = sym asks.about_it ∙ is in cc
asks_told (request.Close channel) message about asks sub is = let no = sym asks.about_it ∙ is in cc
asks_told (request.Brief asked) message about asks sub is = let same = sym asks.about_it ∙ is in cc
asks_told (request.Grant identity path) message about asks sub is = let no = sym asks.about_it ∙ is in cc
asks_told (request.Custom custom) message about asks sub is = let no = sym asks.about_it ∙ is in cc
asks_told (request.Enter role flags) message about asks sub is = absurd asks
asks_told request.Leave message about asks sub is = absurd asks
asks_told (request.Name channel identity) message about asks sub is = absurd asks
asks_told (request.Commit checked) message about asks sub is = absurd asks
asks_told (request.Poll from) message about asks sub is = absurd asks

sets_up_told : (setup : Setup) (talk : Talk) (asked : Request) (next : Talk) → SetsUp setup talk (step.Ask asked) next → AsksAsTold asked next.about
sets_up_told (Accepted flags) talk asked next sets sub is = let no = sym (ap (λ t. t.about) sets.1) ∙ is in cc
sets_up_told (Refused code flags) talk asked next sets sub is = let no = sets.0 in cc
sets_up_told Unsuited talk asked next sets sub is = let no = sets.0 in cc

asked_about : (asked : Asked) (sub : Submission) → about_asked asked ≡ topic.Share sub → ⊥
asked_about (asks.Declared request_id) sub is = cc
asked_about (asks.Token identity) sub is = cc
asked_about asks.Nothing sub is = cc

leads_told : (flags : Option ℕ) (talk : Talk) (message : Message) (asked : Request) (next : Talk) → LeadsBy flags talk message (step.Ask asked) next → AsksAsTold asked next.about
leads_told None talk message asked next leads sub is = sets_up_told (setup_in talk.role talk.rolling message) talk asked next leads sub is
leads_told (Some flags) talk message asked next leads sub is =
    elim leads [
      | inl work ↦ asks_told asked message work.0 work.1 sub (sym (ap (λ t. t.about) work.2) ∙ is)
      | inr declared ↦ absurd (asked_about (reaction talk.declarations message).after.asked sub (sym (ap (λ t. t.about) declared.next_is) ∙ is))
    ]

pub meets_told : (talk next : Talk) (frame : FrameValue) (made : Step) → Meets talk frame made next → StepAsksAsTold made next.about
meets_told talk next frame made meets asked is =
    let met = rw is at meets in
    leads_told talk.flags talk met.message asked next met.leads
