-- What a session makes of a declaration, by what is made of it beside the session.
use Rattle.std.proofs.Common.{◌≡◌, ℕ, true, Some, List, refl, ap, ◌∙◌, inr}
use Rattle.std.specs.List.{flat_map}
use Rattle.sv2_frames.specs.Framing.{FrameValue}
use Rattle.sv2_messages.specs.Messages.{Message}
use Rattle.sv2_messages.specs.Tables.{declare_table}
use Rattle.pool_history.specs.declared.asking.Request.{Request}
use Rattle.pool_history.specs.declared.asking.Request.TheVariants as request
use Rattle.job_declaration.specs.Declaring.{Answer, Says, AsksGrant, reaction}
use Rattle.job_declaration.specs.State.{DeclareState}
use Rattle.job_declaration.specs.declared.declarer.Declared.TheVariants as made
use Rattle.job_declaration.specs.Meeting.{IsAnswer, MeetsFrame, Reacts}
use Rattle.session_steps.specs.declared.meeting.Step.TheVariants as step
use Rattle.session_steps.specs.Meeting.{AsksDeclared, Meets, SaysDeclared, about_asked}
use Rattle.session_steps.specs.Taken.{is_declared_kind, is_taken}
use Rattle.session_steps.specs.Talks.{Talk}
use Rattle.v2_sessions.proofs.Reading.{declared_message, meets_declared, met_by, table_of_declared}

says_frames : (answer : Answer) (bytes : List ℕ) → IsAnswer answer (made.Say bytes) → (frames : List (List ℕ)) × (answer ≡ Says frames) × (bytes ≡ flat_map (λ frame. frame) frames)
says_frames (Says frames) bytes is = (frames, refl, is)
says_frames (AsksGrant identity path) bytes is = absurd is

asks_grant : (answer : Answer) (asked : Request) → IsAnswer answer (made.Ask asked)
    → (identity : List ℕ) × (path : List (List ℕ)) × (answer ≡ AsksGrant identity path) × (asked ≡ request.Grant identity (Some path))
asks_grant (Says frames) asked is = absurd is
asks_grant (AsksGrant identity path) asked is = (identity, path, refl, is)

says_declared : (talk next : Talk) (m : Message) (bytes : List ℕ) (new : DeclareState) → is_declared_kind m.kind ≡ true → Reacts (reaction talk.declarations m) (made.Say bytes) new
    → next ≡ record talk { declarations = new } → SaysDeclared m talk bytes next
says_declared talk next m bytes new declared reacts next_is =
    let says = says_frames (reaction talk.declarations m).answer bytes reacts.answered in
    record {
      declared = declared;
      frames = says.0;
      answer = says.1;
      said = says.2;
      next_is = next_is ∙ ap (λ (d : DeclareState). record talk { declarations = d }) reacts.after;
    }

asks_declared : (talk next : Talk) (m : Message) (asked : Request) (new : DeclareState) → is_declared_kind m.kind ≡ true → Reacts (reaction talk.declarations m) (made.Ask asked) new
    → next ≡ record talk { about = about_asked new.asked; declarations = new } → AsksDeclared m talk asked next
asks_declared talk next m asked new declared reacts next_is =
    let asks = asks_grant (reaction talk.declarations m).answer asked reacts.answered in
    record {
      declared = declared;
      identity = asks.0;
      path = asks.1;
      answer = asks.2;
      asked_is = asks.3;
      next_is = next_is ∙ ap (λ (d : DeclareState). record talk { about = about_asked d.asked; declarations = d }) reacts.after;
    }

module _ (talk next : Talk) (frame : FrameValue) (new : DeclareState) (taken : is_taken talk frame ≡ true) (is : is_declared_kind frame.kind ≡ true) where
  -- something is said, or a Grant is asked for
  pub declared_said : (bytes : List ℕ) → MeetsFrame talk.declarations frame.kind frame.payload (made.Say bytes) new → next ≡ record talk { declarations = new }
      → Meets talk frame (step.Say bytes) next
  declared_said bytes meets next_is =
      let declared = declared_message frame.kind frame.payload meets.message meets.brought is in
      met_by declare_table talk next frame (step.Say bytes) (table_of_declared frame.kind is) taken
      (meets_declared talk next frame (step.Say bytes) meets.message taken is meets.brought (says_declared talk next meets.message bytes new declared meets.reacts next_is))

  pub declared_asked : (asked : Request) → MeetsFrame talk.declarations frame.kind frame.payload (made.Ask asked) new
      → next ≡ record talk { about = about_asked new.asked; declarations = new } → Meets talk frame (step.Ask asked) next
  declared_asked asked meets next_is =
      let declared = declared_message frame.kind frame.payload meets.message meets.brought is in
      met_by declare_table talk next frame (step.Ask asked) (table_of_declared frame.kind is) taken
      (meets_declared talk next frame (step.Ask asked) meets.message taken is meets.brought (inr (asks_declared talk next meets.message asked new declared meets.reacts next_is)))

  -- the payload brings no message
  pub declared_bad : (told : ℕ) → MeetsFrame talk.declarations frame.kind frame.payload (made.BadMessage told) new → next ≡ record talk { declarations = new }
      → Meets talk frame (step.BadMessage told) next
  declared_bad told meets next_is =
      met_by declare_table talk next frame (step.BadMessage told) (table_of_declared frame.kind is) taken
      (record { none = meets.none; kind_told = meets.kind_told; same = next_is ∙ ap (λ (d : DeclareState). record talk { declarations = d }) meets.same })
