-- All calls that a link was served by.
use Rattle.std.proofs.Common.{◌≡◌, inl, inr, ℕ, ◌++◌, None, Some, Option, List, [], ◌∷◌, refl, ap, subst, ◌∙◌}
use Rattle.pool_io.specs.declared.turn.Turn.{Turn}
use Rattle.pool_io.specs.declared.turn.Turn.TheVariants as turn
use Rattle.pool_io.specs.Seen.{SinkSeen}
use Rattle.pool_network.specs.Seen.{LinkSeen}
use Rattle.link_turns.specs.declared.waiting.Waiting.{Waiting}
use Rattle.link_hearing.specs.Hearing.{EndsBy, Hearing, HearsAll, HearsEach, HearsOne, hearing_at}
use Rattle.session_steps.specs.declared.ends.SessionEnd.{SessionEnd}
use Rattle.proxy_rules.specs.declared.requests.ProxyRequest.{ProxyRequest}
use Rattle.proxy_server.specs.declared.phase.UpPhase.{UpPhase}
use Rattle.proxy_server.specs.Calls.{ActsEach, ProxyCall}
use Rattle.proxy_server.specs.Links.{LeadsOn, LinkState, Tongue}
use Rattle.proxy_server.specs.Serving.{HearsMiner, HearsMinerLink, LeavesAtEnd, MinerStand, ServesMiner}
use Rattle.proxy_server.specs.Upstreams.{HearsUp, HearsUpstream, ServesUpstream, UpStand}
use Rattle.proxy_server.proofs.Leading.{acts_both}

module _ {A : Type 0} (does : A → ProxyCall → A → Type 0) where
  -- calls lead from the one to the other
  abbrev pub Reaches : A → A → Type 0
  Reaches old new = (calls : List ProxyCall) × ActsEach does old calls new

  reach_none : (old new : A) → new ≡ old → Reaches old new
  reach_none old new same = ([], same)

  reach_both : (a b c : A) → Reaches a b → Reaches b c → Reaches a c
  reach_both a b c first then = (first.0 ++ then.0, acts_both does a b c first.0 then.0 first.1 then.1)

  reach_leads : (tongue : Tongue) (s t : LinkState) (a b : A) (k l : SinkSeen) (over : Option SessionEnd) → LeadsOn tongue does s a k over t b l → Reaches a b
  reach_leads tongue s t a b k l over h = (_, h.acts)

  -- of all turns of who hears by calls
  module _ {H : Type 0} (asking : H → A) (hears : H → SinkSeen → Turn → Option SessionEnd → H → SinkSeen → Type 0)
      (one : (old new : H) (k l : SinkSeen) (told : Turn) (over : Option SessionEnd) → hears old k told over new l → Reaches (asking old) (asking new)) where
    reach_one : (old new : Hearing H) (told : Turn) (over : Option SessionEnd) → HearsOne hears old told over new → Reaches (asking old.hearer) (asking new.hearer)
    reach_one old new told over h = one old.hearer new.hearer h.middle.sink new.link.sink told over h.heard

    reach_each : (old new : Hearing H) (turns : List Turn) → HearsEach hears old turns new → Reaches (asking old.hearer) (asking new.hearer)
    reach_each old new [] h = reach_none _ _ (ap (λ (x : Hearing H). asking x.hearer) h)
    reach_each old new (told ∷ turns) h = reach_both _ (asking h.0.hearer) _ (reach_one old h.0 told None h.1) (reach_each h.0 new turns h.3)

    reach_end : (last new : Hearing H) (reason : SessionEnd) → EndsBy hears last reason new → Reaches (asking last.hearer) (asking new.hearer)
    reach_end last new reason (inl by) = reach_one last new by.told (Some reason) by.heard
    reach_end last new reason (inr (inl by)) = reach_one last new by.told None by.heard
    reach_end last new reason (inr (inr by)) = reach_none _ _ (ap asking by.hearer)

    reach_all : (waiting : Waiting) (old new : H) (before after : LinkSeen) (reason : SessionEnd) → HearsAll hears (hearing_at waiting old before) reason new after → Reaches (asking old) (asking new)
    reach_all waiting old new before after reason h =
        reach_both _ (asking h.last.hearer) _ (reach_each (hearing_at waiting old before) h.last h.turns h.on) (reach_end h.last (hearing_at h.left new after) reason h.ends)

  miner_turn : (old new : MinerStand A) (k l : SinkSeen) (told : Turn) (over : Option SessionEnd) → HearsMiner does old k told over new l → Reaches old.asking new.asking
  miner_turn old new k l (turn.Piece bytes) over h = reach_leads _ _ _ _ _ k l over h.0
  miner_turn old new k l turn.Idle over h = reach_leads _ _ _ _ _ k l over h
  miner_turn old new k l turn.End over h = reach_none _ _ (ap (λ (s : MinerStand A). s.asking) h.1)

  up_turn : (old new : UpStand A) (k l : SinkSeen) (told : Turn) (over : Option SessionEnd) → HearsUpstream does old k told over new l → Reaches old.asking new.asking
  up_turn old new k l (turn.Piece bytes) over h = reach_leads _ _ _ _ _ k l over h.0.leads
  up_turn old new k l turn.Idle over h = reach_leads _ _ _ _ _ k l over h.leads
  up_turn old new k l turn.End over h = reach_none _ _ (ap (λ (s : UpStand A). s.asking) h.1)

  reach_link : (idle_turns : ℕ) (old new : A) (before after : LinkSeen) (reason : SessionEnd) → HearsMinerLink does idle_turns old before reason new after → Reaches old new
  reach_link idle_turns old new before after reason (inl h) =
      reach_both old h.stand.asking new (reach_leads _ _ _ _ _ _ _ None h.polled)
      (subst (λ (a : A). Reaches h.stand.asking a) h.asking
      (reach_all (λ (s : MinerStand A). s.asking) (HearsMiner does) miner_turn _ h.stand h.left h.middle after reason h.turns))
  reach_link idle_turns old new before after reason (inr h) = reach_leads _ _ _ _ _ _ _ (Some reason) h.polled

  reach_leave : (asked : ProxyRequest) (old new : A) (reason ended : SessionEnd) → LeavesAtEnd does asked old reason ended new → Reaches old new
  reach_leave asked old new reason ended h = (h.call ∷ [], (new, h.done, refl))

  pub reach_served : (idle_turns : ℕ) (old new : A) (before after : LinkSeen) (ended : SessionEnd) → ServesMiner does idle_turns old before ended new after → Reaches old new
  reach_served idle_turns old new before after ended (inl h) =
      reach_both old h.joined new (h.joining, h.joins)
      (reach_both h.joined h.heard new (reach_link idle_turns h.joined h.heard before after h.reason h.hears) (reach_leave _ h.heard new h.reason ended h.leaves))
  reach_served idle_turns old new before after ended (inr (inl h)) = (h.calls, h.acts)
  reach_served idle_turns old new before after ended (inr (inr h)) = reach_none old new h.asking

  reach_up : (idle_turns : ℕ) (old new : A) (before after : LinkSeen) (reason : SessionEnd) (phase : UpPhase) → HearsUp does idle_turns old before reason phase new after → Reaches old new
  reach_up idle_turns old new before after reason phase (inl h) =
      reach_both old h.stand.asking new (reach_leads _ _ _ _ _ _ _ None h.polled)
      (subst (λ (a : A). Reaches h.stand.asking a) h.asking
      (reach_all (λ (s : UpStand A). s.asking) (HearsUpstream does) up_turn _ h.stand h.left h.middle after reason h.turns))
  reach_up idle_turns old new before after reason phase (inr (inl h)) = reach_leads _ _ _ _ _ _ _ (Some reason) h.polled
  reach_up idle_turns old new before after reason phase (inr (inr h)) = reach_none old new h.asking

  pub reach_upstream : (idle_turns : ℕ) (old new : A) (before after : LinkSeen) (ended : SessionEnd) (phase : UpPhase) → ServesUpstream does idle_turns old before ended phase new after → Reaches old new
  reach_upstream idle_turns old new before after ended phase h =
      reach_both old h.heard new (reach_up idle_turns old h.heard before after h.reason phase h.hears) (reach_leave _ h.heard new h.reason ended h.leaves)

-- what each call keeps, all calls keep
pub names_same : {A N : Type 0} (name : A → N) (does : A → ProxyCall → A → Type 0) → ((old new : A) (call : ProxyCall) → does old call new → name new ≡ name old) → (old new : A) (calls : List ProxyCall)
    → ActsEach does old calls new → name new ≡ name old
names_same name does keeps old new [] acts = ap name acts
names_same name does keeps old new (call ∷ calls) acts = names_same name does keeps acts.0 new calls acts.2 ∙ keeps old acts.0 call acts.1
