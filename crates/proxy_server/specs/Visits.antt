-- Links of a proxy that were served by calls of one pass (this project's own).
use Rattle.std.specs.Prelude.{◌≡◌, ℕ, List, [], ◌∷◌, ◌++◌}
use Rattle.std.specs.List.{AllByRecursion}
use Rattle.pool_network.specs.Seen.{LinkSeen}
use Rattle.desk.specs.Calling.{AddsCalls}
use Rattle.session_steps.specs.declared.ends.SessionEnd.{SessionEnd}
use Rattle.proxy_rules.specs.Answering.{ProxyAnswers}
use Rattle.proxy_server.specs.declared.phase.UpPhase.{UpPhase}
use Rattle.proxy_server.specs.Calls.{ProxyCall, wants_memory}
use Rattle.proxy_server.specs.Serving.{ServesMiner}
use Rattle.proxy_server.specs.Upstreams.{ServesUpstream}
use Rattle.proxy_server.specs.Calling.{ProxyPass}

-- calls are noted one behind the other
abbrev pub Notes : List ProxyCall → ProxyCall → List ProxyCall → Type 0
Notes old call new = new ≡ old ++ call ∷ []

-- the pass made these calls behind those that it had, each for its worker
pub record CallsByPass (old : ProxyPass) (calls : List ProxyCall) (new : ProxyPass) : Type 0 where
  pub adds : AddsCalls ProxyAnswers wants_memory old calls new
  pub own : AllByRecursion (λ call. call.worker ≡ old.worker) calls

-- a miner's link was served, and the calls that this took are those of the pass
pub record VisitsMiner (idle_turns : ℕ) (before after : LinkSeen) (ended : SessionEnd)
    (old new : ProxyPass) : Type 0 where
  pub visit : ServesMiner Notes idle_turns old.calls before ended new.calls after
  pub calls : List ProxyCall
  pub by_pass : CallsByPass old calls new

-- so was the upstream's
pub record VisitsUpstream (idle_turns : ℕ) (before after : LinkSeen) (ended : SessionEnd)
    (phase : UpPhase) (old new : ProxyPass) : Type 0 where
  pub visit : ServesUpstream Notes idle_turns old.calls before ended phase new.calls after
  pub calls : List ProxyCall
  pub by_pass : CallsByPass old calls new
