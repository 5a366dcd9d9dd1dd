-- A failed read or put of the upstream's link is an end only where its count rose.
use Rattle.std.proofs.Common.{◌≡◌, ℕ, Bool, false, List, [], ◌∷◌, Option, None, Some, refl, sym, ap, subst, ◌∙◌, arith, inl, inr}
use Rattle.pool_base.specs.Counts.{Rose}
use Rattle.pool_io.specs.declared.source.Took.{Took}
use Rattle.pool_io.specs.declared.source.Took.TheVariants as took
use Rattle.pool_io.specs.declared.turn.Turn.{Turn}
use Rattle.pool_io.specs.declared.turn.Turn.TheVariants as turn
use Rattle.pool_io.specs.Outside.{CountsFailure, is_failed_take}
use Rattle.pool_io.specs.Seen.{SinkSeen, SourceSeen}
use Rattle.pool_network.specs.Seen.{LinkSeen}
use Rattle.link_turns.specs.declared.waiting.Limit.{Limit}
use Rattle.link_turns.specs.declared.waiting.Limit.TheVariants as limit
use Rattle.link_turns.specs.Waits.{new_waiting}
use Rattle.link_hearing.specs.Hearing.{HearsAll, HearsEach, HearsOne, Hearing, IsTurn, hearing_at}
use Rattle.session_steps.specs.declared.ends.SessionEnd.{SessionEnd}
use Rattle.session_steps.specs.declared.ends.SessionEnd.TheVariants as end
use Rattle.session_steps.specs.States.{input_end}
use Rattle.v2_sessions.specs.Standing.{end_at_limit}
use Rattle.proxy_rules.specs.declared.requests.ProxyRequest.{ProxyRequest}
use Rattle.proxy_server.specs.declared.phase.UpPhase.{UpPhase}
use Rattle.proxy_server.specs.Calls.{ProxyCall}
use Rattle.proxy_server.specs.Links.{EndsSo, Frames, LinkState, Stop, Overran, Broke, Refused, Lacked, Untold, Unpolled, Unput, StopsBy, is_write_over}
use Rattle.proxy_server.specs.Serving.{LeavesAtEnd, end_unleft}
use Rattle.proxy_server.specs.Upstreams.{HearsUpstream, ServesUpstream, UpStand}

-- ---- no deed ends by a failed read

stopped : (last : LinkState) (stop : Stop) → StopsBy Frames last stop end.ReadFault → ⊥
stopped last Overran by = let is = by.1.2 in cc
stopped last Broke by = let is = by.1.4 in cc
stopped last Refused by = let is = by.1 in cc
stopped last Lacked by = cc
stopped last (Untold item call) by = let is = by.4 in cc
stopped last (Unpolled call) by = let is = by.2 in cc
stopped last (Unput front call) by = elim by.4 [
  | inl is ↦ cc
  | inr is ↦ cc
]

ended : (last : LinkState) (stop : Option Stop) (new : LinkState) → EndsSo Frames last stop (Some end.ReadFault) new → ⊥
ended last None new by = by
ended last (Some stop) new by = stopped last stop by

input_read : (held : List ℕ) → Some end.ReadFault ≡ Some (input_end held) → ⊥
input_read [] = λ is. cc
input_read (byte ∷ bytes) = λ is. cc

input_write : (held : List ℕ) → is_write_over (Some (input_end held)) ≡ false
input_write [] = refl
input_write (byte ∷ bytes) = refl

module _ {A : Type 0} (does : A → ProxyCall → A → Type 0) where
  not_read : (old new : UpStand A) (sink sink' : SinkSeen) (told : Turn) → HearsUpstream does old sink told (Some end.ReadFault) new sink' → ⊥
  not_read old new sink sink' (turn.Piece bytes) hears = ended hears.0.leads.last hears.0.leads.stop _ hears.0.leads.ends
  not_read old new sink sink' turn.Idle hears = ended hears.leads.last hears.leads.stop _ hears.leads.ends
  not_read old new sink sink' turn.End hears = input_read old.held hears.0

  writes : (old new : UpStand A) (sink sink' : SinkSeen) (told : Turn) (over : Option SessionEnd) → HearsUpstream does old sink told over new sink'
      → CountsFailure (is_write_over over) sink.faults sink'.faults
  writes old new sink sink' (turn.Piece bytes) over hears = hears.0.leads.counts
  writes old new sink sink' turn.Idle over hears = hears.leads.counts
  writes old new sink sink' turn.End over hears =
      subst (λ (o : Option SessionEnd). CountsFailure (is_write_over o) sink.faults sink'.faults) (sym hears.0)
      (subst (λ (b : Bool). CountsFailure b sink.faults sink'.faults) (sym (input_write old.held)) (ap (λ (s : SinkSeen). s.faults) hears.2))

  -- ---- the turns before the last

  unfailed : (answered : Took) (buffer : List ℕ) (told : Turn) (before now : ℕ) → IsTurn answered buffer told → CountsFailure (is_failed_take answered) before now → now ≡ before
  unfailed (took.Bytes count) buffer told before now is counts = counts
  unfailed took.Idle buffer told before now is counts = counts
  unfailed took.End buffer told before now is counts = counts
  unfailed took.Failed buffer told before now is counts = absurd is

  one_reads : (old new : Hearing (UpStand A)) (told : Turn) (over : Option SessionEnd) → HearsOne (HearsUpstream does) old told over new
      → new.link.source.faults ≡ old.link.source.faults
  one_reads old new told over one =
      ap (λ (s : SourceSeen). s.faults) one.source
      ∙ unfailed one.answered one.buffer told old.link.source.faults one.middle.source.faults one.is_turn one.takes.counts

  one_writes : (old new : Hearing (UpStand A)) (told : Turn) (over : Option SessionEnd) → HearsOne (HearsUpstream does) old told over new
      → CountsFailure (is_write_over over) old.link.sink.faults new.link.sink.faults
  one_writes old new told over one =
      subst (λ (s : SinkSeen). CountsFailure (is_write_over over) s.faults new.link.sink.faults) one.takes.sink
      (writes old.hearer new.hearer one.middle.sink new.link.sink told over one.heard)

  each_reads : (old new : Hearing (UpStand A)) (turns : List Turn) → HearsEach (HearsUpstream does) old turns new → new.link.source.faults ≡ old.link.source.faults
  each_reads old new [] on = ap (λ (h : Hearing (UpStand A)). h.link.source.faults) on
  each_reads old new (told ∷ turns) on = each_reads on.0 new turns on.3 ∙ one_reads old on.0 told None on.1

  each_writes : (old new : Hearing (UpStand A)) (turns : List Turn) → HearsEach (HearsUpstream does) old turns new → new.link.sink.faults ≡ old.link.sink.faults
  each_writes old new [] on = ap (λ (h : Hearing (UpStand A)). h.link.sink.faults) on
  each_writes old new (told ∷ turns) on = each_writes on.0 new turns on.3 ∙ one_writes old on.0 told None on.1

  -- ---- the last

  no_limit_reads : (reached : Limit) → end.ReadFault ≡ end_at_limit reached → ⊥
  no_limit_reads limit.IdleOut = λ is. cc
  no_limit_reads limit.BytesOut = λ is. cc

  no_limit_writes : (reached : Limit) → end.WriteFault ≡ end_at_limit reached → ⊥
  no_limit_writes limit.IdleOut = λ is. cc
  no_limit_writes limit.BytesOut = λ is. cc

  all_reads : (old : Hearing (UpStand A)) (left : UpStand A) (link : LinkSeen) → HearsAll (HearsUpstream does) old end.ReadFault left link
      → Rose old.link.source.faults link.source.faults
  all_reads old left link all = elim all.ends [
    | inl by ↦ absurd (not_read all.last.hearer left by.heard.middle.sink link.sink by.told by.heard.heard)
    | inr (inl by) ↦ absurd (no_limit_reads by.limit by.reason_is)
    | inr (inr by) ↦ omega (arith, each_reads old all.last all.turns all.on, by.takes.counts)
  ]

  all_writes : (old : Hearing (UpStand A)) (left : UpStand A) (link : LinkSeen) → HearsAll (HearsUpstream does) old end.WriteFault left link
      → Rose old.link.sink.faults link.sink.faults
  all_writes old left link all = elim all.ends [
    | inl by ↦ omega (arith, each_writes old all.last all.turns all.on, one_writes all.last _ by.told (Some end.WriteFault) by.heard)
    | inr (inl by) ↦ absurd (no_limit_writes by.limit by.reason_is)
    | inr (inr by) ↦ absurd (let never : end.WriteFault ≡ end.ReadFault = by.reason_is in cc)
  ]

-- ---- a leaving keeps such an end

unleft_read : (reason : SessionEnd) → end.ReadFault ≡ end_unleft reason → reason ≡ end.ReadFault
unleft_read end.Done is = absurd cc
unleft_read (end.CutFrame bytes) is = sym is
unleft_read (end.TooLong length) is = sym is
unleft_read end.BadSetup is = sym is
unleft_read (end.BadMessage kind) is = sym is
unleft_read end.LineTooLong is = sym is
unleft_read end.IdleOut is = sym is
unleft_read end.BytesOut is = sym is
unleft_read end.PoolFull is = sym is
unleft_read end.ReadFault is = refl
unleft_read end.WriteFault is = sym is
unleft_read end.LedgerFault is = sym is
unleft_read end.Memory is = sym is

unleft_write : (reason : SessionEnd) → end.WriteFault ≡ end_unleft reason → reason ≡ end.WriteFault
unleft_write end.Done is = absurd cc
unleft_write (end.CutFrame bytes) is = sym is
unleft_write (end.TooLong length) is = sym is
unleft_write end.BadSetup is = sym is
unleft_write (end.BadMessage kind) is = sym is
unleft_write end.LineTooLong is = sym is
unleft_write end.IdleOut is = sym is
unleft_write end.BytesOut is = sym is
unleft_write end.PoolFull is = sym is
unleft_write end.ReadFault is = sym is
unleft_write end.WriteFault is = refl
unleft_write end.LedgerFault is = sym is
unleft_write end.Memory is = sym is

module _ {A : Type 0} (does : A → ProxyCall → A → Type 0) (asked : ProxyRequest) (old new : A) (reason : SessionEnd) where
  left_read : LeavesAtEnd does asked old reason end.ReadFault new → reason ≡ end.ReadFault
  left_read leaves = elim leaves.ends [
    | inl replies ↦ sym replies.1
    | inr fails ↦ unleft_read reason fails.1
  ]

  left_write : LeavesAtEnd does asked old reason end.WriteFault new → reason ≡ end.WriteFault
  left_write leaves = elim leaves.ends [
    | inl replies ↦ sym replies.1
    | inr fails ↦ unleft_write reason fails.1
  ]

-- ---- the upstream's link as a whole

module _ {A : Type 0} (does : A → ProxyCall → A → Type 0) (idle_turns : ℕ) (old new : A) (before after : LinkSeen) (phase : UpPhase) where
  abbrev from : UpStand A → LinkSeen → Hearing (UpStand A)
  from stand middle = hearing_at (new_waiting idle_turns) stand middle

  pub read_failed : ServesUpstream does idle_turns old before end.ReadFault phase new after → Rose before.source.faults after.source.faults
  read_failed served =
      let is : served.reason ≡ end.ReadFault = left_read does _ served.heard new served.reason served.leaves in
      elim served.hears [
        | inl hears ↦
            let rose = all_reads does (from hears.stand hears.middle) hears.left after (subst (λ (e : SessionEnd). HearsAll (HearsUpstream does) (from hears.stand hears.middle) e hears.left after) is hears.turns) in
            omega (arith, rose, ap (λ (s : SourceSeen). s.faults) hears.source)
        | inr (inl none) ↦ absurd (elim none.put_end [
          | inl put ↦ let never : end.ReadFault ≡ end.WriteFault = sym is ∙ put in cc
          | inr put ↦ let never : end.ReadFault ≡ end.Memory = sym is ∙ put in cc
        ])
        | inr (inr none) ↦ absurd (let never : end.ReadFault ≡ end.Memory = sym is ∙ none.memory in cc)
      ]

  pub write_failed : ServesUpstream does idle_turns old before end.WriteFault phase new after → Rose before.sink.faults after.sink.faults
  write_failed served =
      let is : served.reason ≡ end.WriteFault = left_write does _ served.heard new served.reason served.leaves in
      elim served.hears [
        | inl hears ↦
            let rose = all_writes does (from hears.stand hears.middle) hears.left after (subst (λ (e : SessionEnd). HearsAll (HearsUpstream does) (from hears.stand hears.middle) e hears.left after) is hears.turns) in
            omega (arith, rose, hears.polled.counts)
        | inr (inl none) ↦
            let counts = subst (λ (e : SessionEnd). CountsFailure (is_write_over (Some e)) before.sink.faults after.sink.faults) is none.polled.counts in
            omega (arith, counts)
        | inr (inr none) ↦ absurd (let never : end.WriteFault ≡ end.Memory = sym is ∙ none.memory in cc)
      ]
