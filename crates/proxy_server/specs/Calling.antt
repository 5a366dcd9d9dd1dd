-- What the calls of a proxy's pass do to what the pass has seen (this project's own).
use Rattle.std.specs.Prelude.{◌≡◌}
use Rattle.std.specs.declared.alloc.AllocError.{AllocError}
use Rattle.desk.specs.Passes.{Progress}
use Rattle.desk.specs.Calling.{CallsDesk}
use Rattle.proxy_rules.specs.declared.events.ProxyEvent.{ProxyEvent}
use Rattle.proxy_rules.specs.declared.requests.ProxyReply.{ProxyReply}
use Rattle.proxy_rules.specs.declared.requests.ProxyRequest.{ProxyRequest}
use Rattle.proxy_rules.specs.Answering.{ProxyAnswers}
use Rattle.proxy_server.specs.Calls.{ProxyCall, wants_memory}

-- what contracts see of a pass of a proxy's desk
abbrev pub ProxyPass : Type 0
ProxyPass = Progress ProxyEvent ProxyRequest ProxyReply AllocError

-- one call of the pass, for its worker
pub record CallsProxy (old : ProxyPass) (call : ProxyCall) (new : ProxyPass) : Type 0 where
  pub worker_is : call.worker ≡ old.worker
  pub calls : CallsDesk ProxyAnswers wants_memory old call new
