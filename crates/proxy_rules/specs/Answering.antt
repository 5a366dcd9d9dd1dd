-- What a proxy answers, and the event that a request makes (this project's own).
use Rattle.std.specs.Prelude.{◌≡◌, ℕ, Bool, if◌then◌else◌, List, [], ◌∷◌, drop}
use Rattle.proxy_rules.specs.declared.events.ProxyEvent.{ProxyEvent}
use Rattle.proxy_rules.specs.declared.events.ProxyEvent.TheVariants as event
use Rattle.proxy_rules.specs.declared.requests.ProxyReply.{ProxyReply}
use Rattle.proxy_rules.specs.declared.requests.ProxyReply.TheVariants as reply
use Rattle.proxy_rules.specs.declared.requests.ProxyRequest.{ProxyRequest}
use Rattle.proxy_rules.specs.declared.requests.ProxyRequest.TheVariants as request
use Rattle.proxy_rules.specs.Miners.{is_joined}
use Rattle.proxy_rules.specs.Outputs.{output_for}
use Rattle.proxy_rules.specs.Steps.{relay_of}

-- the events that are made, and the reply
pub record ProxyTurn : Type 0 where
  pub added : List ProxyEvent
  pub reply : ProxyReply

abbrev pub takes : ProxyEvent → ProxyTurn
takes event = record { added = event ∷ []; reply = reply.Taken }

abbrev pub refuses : ProxyReply → ProxyTurn
refuses answer = record { added = []; reply = answer }

-- whether a caller is joined
abbrev pub has_joined : List ProxyEvent → ℕ → Bool
has_joined events caller = is_joined caller (relay_of events).miners

abbrev pub turn_of : List ProxyEvent → ℕ → ProxyRequest → ProxyTurn
turn_of events caller (request.Up bytes) = takes (event.Up bytes)
turn_of events caller request.UpEnd = takes event.UpEnd
turn_of events caller request.Join =
    if has_joined events caller then refuses reply.Again else takes (event.Join caller)
turn_of events caller (request.Line line) =
    if has_joined events caller then takes (event.Line caller line) else refuses reply.NotJoined
turn_of events caller request.Leave =
    if has_joined events caller then takes (event.Leave caller) else refuses reply.NotJoined
turn_of events caller (request.Poll from) =
    refuses (reply.Bytes (drop from (output_for events caller)))

pub record ProxyAnswers (before : List ProxyEvent) (caller : ℕ) (request : ProxyRequest)
    (added : List ProxyEvent) (reply : ProxyReply) : Type 0 where
  pub events : added ≡ (turn_of before caller request).added
  pub replies : reply ≡ (turn_of before caller request).reply
