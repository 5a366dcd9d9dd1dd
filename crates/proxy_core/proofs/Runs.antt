-- One more event.
use Rattle.std.proofs.Common.{◌≡◌, ◌≤◌, List, [], ◌∷◌, ◌++◌, length, refl, arith}
use Rattle.proxy_rules.specs.declared.events.ProxyEvent.{ProxyEvent}
use Rattle.proxy_rules.specs.declared.events.ProxyEvent.TheVariants as event
use Rattle.proxy_rules.specs.State.{Relay}
use Rattle.proxy_rules.specs.Steps.{after, relay_of, started, step}

after-append : (relay : Relay) (xs ys : List ProxyEvent) → after relay (xs ++ ys) ≡ after (after relay xs) ys
after-append relay [] ys = refl
after-append relay (x ∷ xs) ys = after-append (step relay x) xs ys

pub one_more_event : (events : List ProxyEvent) (last : ProxyEvent) → 1 ≤ length events → relay_of (events ++ last ∷ []) ≡ step (relay_of events) last
one_more_event [] last some = absurd (omega arith)
one_more_event (event.Start user base ∷ inputs) last some = after-append (started user base) inputs (last ∷ [])
one_more_event (event.Up bytes ∷ inputs) last some = after-append (started [] 0) (event.Up bytes ∷ inputs) (last ∷ [])
one_more_event (event.UpEnd ∷ inputs) last some = after-append (started [] 0) (event.UpEnd ∷ inputs) (last ∷ [])
one_more_event (event.Join caller ∷ inputs) last some = after-append (started [] 0) (event.Join caller ∷ inputs) (last ∷ [])
one_more_event (event.Line caller line ∷ inputs) last some = after-append (started [] 0) (event.Line caller line ∷ inputs) (last ∷ [])
one_more_event (event.Leave caller ∷ inputs) last some = after-append (started [] 0) (event.Leave caller ∷ inputs) (last ∷ [])
