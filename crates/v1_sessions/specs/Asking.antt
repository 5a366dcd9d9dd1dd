-- What a line asks, as its session asks it (this project's own).
use Rattle.std.specs.Prelude.{◌≡◌, List, [], ◌∷◌, map}
use Rattle.pool_history.specs.declared.asking.Request.{Request}
use Rattle.pool_history.specs.declared.replies.Reply.{Reply}
use Rattle.v2_sessions.specs.Meeting.{AsksAsTold}
use Rattle.session_steps.specs.declared.about.About.{About}
use Rattle.session_steps.specs.States.{Asking}
use Rattle.v1_translate.specs.Heard.{Heard, Message, Named}
use Rattle.v1_sessions.specs.declared.asking.Wish.{Wish}
use Rattle.v1_sessions.specs.declared.telling.Telling.{Telling}
use Rattle.v1_sessions.specs.declared.telling.Telling.TheVariants as tellings
use Rattle.v1_sessions.specs.Requests.{LineRequest}
use Rattle.v1_sessions.specs.Told.{heard_of, is_named, told_in}

abbrev pub wish_request : Wish → LineRequest
wish_request wish = record { request = wish.request; about = wish.about }

-- what is heard of a reply
abbrev pub heard_by : Telling → About → Reply → List Heard
heard_by tellings.Messages about answer = map Message (told_in about answer)
heard_by tellings.Name about answer = Named (is_named answer) ∷ []

-- a request that is answered so
pub record IsAnsweredSo (telling : Telling) (asked : Request) (about : About) : Type 0 where
  pub as_told : AsksAsTold asked about
  pub heard : (topic : About) (answer : Reply)
      → heard_of (Asking asked) topic answer ≡ heard_by telling topic answer

abbrev pub IsWish : Wish → Type 0
IsWish wish = IsAnsweredSo wish.telling wish.request wish.about
