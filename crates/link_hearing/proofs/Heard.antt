-- Turns that were heard, and one more.
use Rattle.std.proofs.Common.{◌≡◌, ◌≤◌, None, OnOk, Result, Ok, Err, List, [], ◌∷◌, ◌++◌, refl, subst, inl, inr}
use Rattle.pool_io.specs.declared.turn.Turn.{Turn}
use Rattle.pool_io.specs.Seen.{SinkSeen}
use Rattle.pool_network.specs.Seen.{LinkSeen}
use Rattle.link_turns.specs.declared.waiting.Waiting.{Waiting}
use Rattle.link_turns.specs.Waits.{IsBelowLimits, IsLimitOf}
use Rattle.session_steps.specs.declared.ends.SessionEnd.{SessionEnd}
use Rattle.link_hearing.specs.Hearing.{EndsByTurn, HearsAll, HearsEach, HearsOne, Hearing, IsKept, TakesTurnOrEnds, end_of, hearing_at}
use Rattle.std.specs.Prelude.{Option}

pub on_any : {X E : Type 0} {P : Type 0} (result : Result X E) → P → OnOk result P
on_any (Ok done) p = p
on_any (Err reason) p = tt

-- what holds where something goes on holds where that is kept
pub on_kept : (P : Type 0) (heard result : Result Unit SessionEnd) (waiting : Waiting) → IsKept heard waiting result → OnOk heard P → OnOk result P
on_kept P (Ok done) (Ok done') waiting kept p = p
on_kept P heard (Err reason) waiting kept p = tt
on_kept P (Err reason) (Ok done) waiting kept p = absurd cc

-- where what was heard was kept, no limit is reached
pub kept_below : (heard result : Result Unit SessionEnd) (waiting : Waiting) → IsKept heard waiting result → waiting.idles ≤ waiting.idle_turns → OnOk result (IsBelowLimits waiting)
kept_below heard (Err reason) waiting kept most = tt
kept_below (Ok done) (Ok done') waiting kept most = record { some = kept.1; waits = kept.0; most = most }
kept_below (Err reason) (Ok done) waiting kept most = absurd cc

module _ {H : Type 0} (hears : H → SinkSeen → Turn → Option SessionEnd → H → SinkSeen → Type 0) where
  -- a turn was heard, and that was kept
  pub kept : (old new : Hearing H) (told : Turn) (heard result : Result Unit SessionEnd) → HearsOne hears old told (end_of heard) new → IsKept heard new.waiting result
      → TakesTurnOrEnds hears old result new
  kept old new told (Ok done) (Ok done') one is = (told, one, is)
  kept old new told (Ok done) (Err reason) one is = inr (inl (record { told = told; heard = one; limit = is.0; reached = is.1; reason_is = is.2 }))
  kept old new told (Err reason) (Ok done) one is = absurd cc
  kept old new told (Err reason) (Err over) one is =
      let same : reason ≡ over = cc in
      inl (subst (λ (e : SessionEnd). EndsByTurn hears old e new) same (record { told = told; heard = one }))

  -- so many turns were heard
  pub record HeardSome (old new : Hearing H) : Type 0 where
    pub turns : List Turn
    pub on : HearsEach hears old turns new

  pub heard_none : (old : Hearing H) → HeardSome old old
  heard_none old = record { turns = []; on = refl }

  each_more : (old middle new : Hearing H) (turns : List Turn) (told : Turn) → HearsEach hears old turns middle → HearsOne hears middle told None new → IsLimitOf new.waiting None
      → HearsEach hears old (turns ++ told ∷ []) new
  each_more old middle new [] told on one below = (new, subst (λ (h : Hearing H). HearsOne hears h told None new) on one, below, refl)
  each_more old middle new (first ∷ turns) told on one below = (on.0, on.1, on.2, each_more on.0 middle new turns told on.3 one below)

  pub heard_more : {old middle new : Hearing H} → HeardSome old middle → (done : Unit) → TakesTurnOrEnds hears middle (Ok done) new → HeardSome old new
  heard_more {old = old} {middle = middle} {new = new} so_far done more = record {
    turns = so_far.turns ++ more.0 ∷ [];
    on = each_more old middle new so_far.turns more.0 so_far.on more.1 more.2;
  }

  pub heard_all : {old last : Hearing H} (reason : SessionEnd) (left : Waiting) (hearer : H) (link : LinkSeen) → HeardSome old last
      → TakesTurnOrEnds hears last (Err reason) (hearing_at left hearer link) → HearsAll hears old reason hearer link
  heard_all {last = last} reason left hearer link so_far ends = record { turns = so_far.turns; last = last; on = so_far.on; left = left; ends = ends }
