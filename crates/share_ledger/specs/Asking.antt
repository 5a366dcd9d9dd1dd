-- Requests that begin a session, and those of a present one, by the rules of a history (this
-- project's own).
use Rattle.std.specs.Prelude.{ℕ, Option, None, Some, List}
use Rattle.pool_history.specs.declared.asking.Request.{Request}
use Rattle.pool_history.specs.declared.events.Event.{Event}
use Rattle.pool_history.specs.declared.events.Role.{Role}
use Rattle.pool_history.specs.declared.replies.Reply.TheVariants as reply
use Rattle.pool_history.specs.declared.settings.Rules.{Rules}
use Rattle.pool_history.specs.Answering.{Effect, entering, step_for, without_event}
use Rattle.pool_history.specs.Sessions.{present}

-- a request to begin a session; without a Start none has an effect
abbrev pub step_entering : Option Rules → List Event → ℕ → Role → ℕ → Effect
step_entering None past worker role flags = without_event reply.NoSession
step_entering (Some rules) past worker role flags = entering rules past worker role flags

-- a request of a worker's present session
abbrev pub step_present : Option Rules → List Event → ℕ → Request → Effect
step_present None past worker asked = without_event reply.NoSession
step_present (Some rules) past worker asked = step_for rules past asked (present past worker)
