-- What goes upstream only grows.
use Rattle.std.proofs.Common.{◌≡◌, ℕ, List, [], ◌∷◌, ◌++◌, refl, sym, subst, append-nil}
use Rattle.pool_base.specs.Lists.{Begins}
use Rattle.proxy_rules.specs.declared.events.ProxyEvent.{ProxyEvent}
use Rattle.proxy_rules.specs.declared.events.ProxyEvent.TheVariants as event
use Rattle.proxy_rules.specs.Outputs.{up_out}
use Rattle.proxy_rules.specs.State.{Relay}
use Rattle.proxy_rules.specs.Steps.{after, started, step}
use Rattle.proxy_rules.proofs.Sending.{run_does}

pub after_both : (relay : Relay) (xs ys : List ProxyEvent) → after relay (xs ++ ys) ≡ after (after relay xs) ys
after_both relay [] ys = refl
after_both relay (x ∷ xs) ys = after_both (step relay x) xs ys

output_grows : (relay : Relay) (inputs : List ProxyEvent) → Begins relay.output (after relay inputs).output
output_grows relay inputs = (_, sym (run_does relay inputs).output)

further : (relay : Relay) (xs ys : List ProxyEvent) → Begins (after relay xs).output (after relay (xs ++ ys)).output
further relay xs ys = subst (λ (r : Relay). Begins (after relay xs).output r.output) (sym (after_both relay xs ys)) (output_grows (after relay xs) ys)

from_start : (user : List ℕ) (base : ℕ) (ys : List ProxyEvent) → Begins (started [] 0).output (after (started user base) ys).output
from_start user base ys = output_grows (started user base) ys

pub up_grows : (xs ys : List ProxyEvent) → Begins (up_out xs) (up_out (xs ++ ys))
up_grows [] [] = ([], append-nil _)
up_grows [] (event.Start user base ∷ ys) = from_start user base ys
up_grows [] (event.Up bytes ∷ ys) = output_grows (started [] 0) (event.Up bytes ∷ ys)
up_grows [] (event.UpEnd ∷ ys) = output_grows (started [] 0) (event.UpEnd ∷ ys)
up_grows [] (event.Join caller ∷ ys) = output_grows (started [] 0) (event.Join caller ∷ ys)
up_grows [] (event.Line caller line ∷ ys) = output_grows (started [] 0) (event.Line caller line ∷ ys)
up_grows [] (event.Leave caller ∷ ys) = output_grows (started [] 0) (event.Leave caller ∷ ys)
up_grows (event.Start user base ∷ xs) ys = further (started user base) xs ys
up_grows (event.Up bytes ∷ xs) ys = further (started [] 0) (event.Up bytes ∷ xs) ys
up_grows (event.UpEnd ∷ xs) ys = further (started [] 0) (event.UpEnd ∷ xs) ys
up_grows (event.Join caller ∷ xs) ys = further (started [] 0) (event.Join caller ∷ xs) ys
up_grows (event.Line caller line ∷ xs) ys = further (started [] 0) (event.Line caller line ∷ xs) ys
up_grows (event.Leave caller ∷ xs) ys = further (started [] 0) (event.Leave caller ∷ xs) ys
