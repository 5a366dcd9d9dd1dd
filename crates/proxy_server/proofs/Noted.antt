-- What a link was served by, as it is seen.
use Rattle.std.proofs.Common.{inl, inr, ℕ, None, Some, Option, List, [], ◌∷◌, refl, ap}
use Rattle.pool_io.specs.declared.turn.Turn.{Turn}
use Rattle.pool_io.specs.declared.turn.Turn.TheVariants as turn
use Rattle.pool_io.specs.Seen.{SinkSeen}
use Rattle.pool_network.specs.Seen.{LinkSeen}
use Rattle.link_turns.specs.Waits.{new_waiting}
use Rattle.session_steps.specs.declared.ends.SessionEnd.{SessionEnd}
use Rattle.proxy_rules.specs.declared.requests.ProxyRequest.{ProxyRequest}
use Rattle.proxy_server.specs.declared.phase.UpPhase.{UpPhase}
use Rattle.proxy_server.specs.Calls.{ActsEach, ProxyCall}
use Rattle.proxy_server.specs.Links.{LeadsOn, LinkState, Tongue}
use Rattle.proxy_server.specs.Serving.{HearsMiner, HearsMinerLink, LeavesAtEnd, MinerStand, ServesMiner, stand_at}
use Rattle.proxy_server.specs.Upstreams.{HearsUp, HearsUpstream, LeadsUp, ServesUpstream, UpStand, UpState, up_stand}
use Rattle.proxy_server.proofs.Hearing.{hears_all}

module _ {A B : Type 0} (see : A → B) (does : A → ProxyCall → A → Type 0) (shown : B → ProxyCall → B → Type 0)
    (shows : (old new : A) (call : ProxyCall) → does old call new → shown (see old) call (see new)) where
  pub acts_shown : (old new : A) (calls : List ProxyCall) → ActsEach does old calls new → ActsEach shown (see old) calls (see new)
  acts_shown old new [] acts = ap see acts
  acts_shown old new (call ∷ calls) acts = (see acts.0, shows old acts.0 call acts.1, acts_shown acts.0 new calls acts.2)

  leads_shown : (tongue : Tongue) (s t : LinkState) (a b : A) (k l : SinkSeen) (over : Option SessionEnd) → LeadsOn tongue does s a k over t b l → LeadsOn tongue shown s (see a) k over t (see b) l
  leads_shown tongue s t a b k l over h = record {
    deeds = h.deeds;
    last = h.last;
    stop = h.stop;
    leads = h.leads;
    ends = h.ends;
    acts = acts_shown a b _ h.acts;
    put = h.put;
    counts = h.counts;
  }

  abbrev miner_seen : MinerStand A → MinerStand B
  miner_seen stand = stand_at stand.held stand.cursor (see stand.asking)

  miner_shown : (old new : MinerStand A) (k l : SinkSeen) (told : Turn) (over : Option SessionEnd) → HearsMiner does old k told over new l
      → HearsMiner shown (miner_seen old) k told over (miner_seen new) l
  miner_shown old new k l (turn.Piece bytes) over h = (leads_shown _ _ _ old.asking new.asking k l over h.0, h.1)
  miner_shown old new k l turn.Idle over h = leads_shown _ _ _ old.asking new.asking k l over h
  miner_shown old new k l turn.End over h = (h.0, ap miner_seen h.1, h.2)

  link_shown : (idle_turns : ℕ) (old new : A) (before after : LinkSeen) (reason : SessionEnd) → HearsMinerLink does idle_turns old before reason new after
      → HearsMinerLink shown idle_turns (see old) before reason (see new) after
  link_shown idle_turns old new before after reason (inl h) = inl (record {
    stand = miner_seen h.stand;
    middle = h.middle;
    held = h.held;
    source = h.source;
    polled = leads_shown _ _ _ old h.stand.asking before.sink h.middle.sink None h.polled;
    left = miner_seen h.left;
    turns = (hears_all miner_seen (λ stand. tt {0}) (HearsMiner does) (HearsMiner shown) (λ o n k l told over x. (refl, miner_shown o n k l told over x)) (new_waiting idle_turns) h.stand h.left h.middle
        after reason h.turns).1;
    asking = ap see h.asking;
  })
  link_shown idle_turns old new before after reason (inr h) = inr (record {
    cursor = h.cursor;
    source = h.source;
    polled = leads_shown _ _ _ old new before.sink after.sink (Some reason) h.polled;
  })

  leaves_shown : (asked : ProxyRequest) (old new : A) (reason ended : SessionEnd) → LeavesAtEnd does asked old reason ended new → LeavesAtEnd shown asked (see old) reason ended (see new)
  leaves_shown asked old new reason ended h = record { call = h.call; done = shows old new h.call h.done; ends = h.ends }

  pub serves_shown : (idle_turns : ℕ) (old new : A) (before after : LinkSeen) (ended : SessionEnd) → ServesMiner does idle_turns old before ended new after
      → ServesMiner shown idle_turns (see old) before ended (see new) after
  serves_shown idle_turns old new before after ended (inl h) = inl (record {
    joining = h.joining;
    is_joining = h.is_joining;
    joined = see h.joined;
    joins = acts_shown old h.joined h.joining h.joins;
    reason = h.reason;
    heard = see h.heard;
    hears = link_shown idle_turns h.joined h.heard before after h.reason h.hears;
    leaves = leaves_shown _ h.heard new h.reason ended h.leaves;
  })
  serves_shown idle_turns old new before after ended (inr (inl h)) =
      inr (inl (record { calls = h.calls; fails = h.fails; acts = acts_shown old new h.calls h.acts; link = h.link; memory = h.memory }))
  serves_shown idle_turns old new before after ended (inr (inr h)) = inr (inr (record { asking = ap see h.asking; link = h.link; memory = h.memory }))

  -- ---- the upstream's link

  abbrev up_seen : UpStand A → UpStand B
  up_seen stand = up_stand stand.held stand.cursor stand.phase (see stand.asking)

  up_leads_shown : (s t : UpState) (a b : A) (k l : SinkSeen) (over : Option SessionEnd) → LeadsUp does s a k over t b l → LeadsUp shown s (see a) k over t (see b) l
  unfolding leads_shown
  up_leads_shown s t a b k l over h = record {
    leads = leads_shown _ s.link t.link a b k l over h.leads;
    phases = h.phases;
    unfit = h.unfit;
    bad = h.bad;
  }

  up_shown : (old new : UpStand A) (k l : SinkSeen) (told : Turn) (over : Option SessionEnd) → HearsUpstream does old k told over new l
      → HearsUpstream shown (up_seen old) k told over (up_seen new) l
  up_shown old new k l (turn.Piece bytes) over h = (up_leads_shown _ _ old.asking new.asking k l over h.0, h.1)
  up_shown old new k l turn.Idle over h = up_leads_shown _ _ old.asking new.asking k l over h
  up_shown old new k l turn.End over h = (h.0, ap up_seen h.1, h.2)

  up_link_shown : (idle_turns : ℕ) (old new : A) (before after : LinkSeen) (reason : SessionEnd) (phase : UpPhase) → HearsUp does idle_turns old before reason phase new after
      → HearsUp shown idle_turns (see old) before reason phase (see new) after
  up_link_shown idle_turns old new before after reason phase (inl h) = inl (record {
    stand = up_seen h.stand;
    middle = h.middle;
    held = h.held;
    unset = h.unset;
    source = h.source;
    polled = leads_shown _ _ _ old h.stand.asking before.sink h.middle.sink None h.polled;
    left = up_seen h.left;
    turns = (hears_all up_seen (λ stand. tt {0}) (HearsUpstream does) (HearsUpstream shown) (λ o n k l told over x. (refl, up_shown o n k l told over x)) (new_waiting idle_turns) h.stand h.left h.middle
        after reason h.turns).1;
    asking = ap see h.asking;
    phase_is = h.phase_is;
  })
  up_link_shown idle_turns old new before after reason phase (inr (inl h)) = inr (inl (record {
    cursor = h.cursor;
    source = h.source;
    unset = h.unset;
    put_end = h.put_end;
    polled = leads_shown _ _ _ old new before.sink after.sink (Some reason) h.polled;
  }))
  up_link_shown idle_turns old new before after reason phase (inr (inr h)) =
      inr (inr (record { asking = ap see h.asking; link = h.link; memory = h.memory; unset = h.unset }))

  pub serves_up_shown : (idle_turns : ℕ) (old new : A) (before after : LinkSeen) (ended : SessionEnd) (phase : UpPhase) → ServesUpstream does idle_turns old before ended phase new after
      → ServesUpstream shown idle_turns (see old) before ended phase (see new) after
  serves_up_shown idle_turns old new before after ended phase h = record {
    reason = h.reason;
    heard = see h.heard;
    hears = up_link_shown idle_turns old h.heard before after h.reason phase h.hears;
    leaves = leaves_shown _ h.heard new h.reason ended h.leaves;
  }
