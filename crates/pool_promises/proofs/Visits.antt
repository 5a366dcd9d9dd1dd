-- What one who called at a door was put.
use Rattle.std.proofs.Common.{◌≡◌, ℕ, ◌==◌, Bool, true, false, if◌then◌else◌, Option, None, Some, List, [], ◌∷◌, ◌++◌, take, refl, ap, sym, subst, ◌∙◌, arith, append_assoc, append-nil, inl, inr}
use Rattle.std.specs.List.{AllByRecursion}
use Rattle.pool_base.specs.Lists.{Begins}
use Rattle.pool_io.specs.Outside.{AddsBytes}
use Rattle.pool_io.specs.declared.turn.Turn.TheVariants as turn
use Rattle.pool_network.specs.Seen.{LinkSeen}
use Rattle.session_steps.specs.declared.ends.SessionEnd.{SessionEnd}
use Rattle.session_steps.specs.States.{input_end}
use Rattle.proxy_rules.specs.declared.events.ProxyEvent.{ProxyEvent}
use Rattle.proxy_rules.specs.declared.events.ProxyEvent.TheVariants as event
use Rattle.proxy_rules.specs.declared.requests.ProxyReply.{ProxyReply}
use Rattle.proxy_rules.specs.declared.requests.ProxyReply.TheVariants as reply
use Rattle.proxy_rules.specs.declared.requests.ProxyRequest.TheVariants as request
use Rattle.proxy_rules.specs.Outputs.{miner_out, output_for, up_out}
use Rattle.proxy_rules.specs.State.{Relay}
use Rattle.proxy_rules.specs.Steps.{after, started}
use Rattle.proxy_server.specs.Calls.{GoodProxyCalls, ProxyCall, RepliesSo}
use Rattle.proxy_server.specs.Links.{IsPutEnd, Lines, link_at}
use Rattle.proxy_server.specs.Serving.{FailsToJoin, HearsMiner, IsJoining, MinerStand, ServesMiner, WasServed}
use Rattle.proxy_server.specs.Shifts.{MinerVisit}
use Rattle.proxy_server.specs.Visits.{Notes}
use Rattle.pool_promises.specs.Puts.{IsOutputUpTo, IsPutItsOutput, is_polled, last_polled, output_at_call, polled_or}
use Rattle.pool_promises.proofs.Gaps.{Gaps, GapsBehind, call_joins, gaps_behind, joins, joins_not}
use Rattle.pool_promises.proofs.Growing.{after_both}
use Rattle.pool_promises.proofs.Outputs.{JoinsNot, all_write, begins_after}
use Rattle.pool_promises.proofs.Owed.{GrowsFrom, owed_all}
use Rattle.pool_promises.proofs.Polls.{NoneJoin, failed_none, no_poll, none_join}
use Rattle.pool_promises.proofs.Traces.{AllLead, Rest, all_before, leads_before, leads_last, noted_behind}
use Rattle.pool_promises.proofs.Upstreams.{last_quiet, put_end}

abbrev Calls : Type 0
Calls = List ProxyCall

-- ---- what is written to a miner grows, where it doesn't join

further : (caller : ℕ) (relay : Relay) (xs ys : List ProxyEvent) → JoinsNot caller ys
    → Begins (Rattle.proxy_rules.specs.Laws.output_at caller (after relay xs)) (Rattle.proxy_rules.specs.Laws.output_at caller (after relay (xs ++ ys)))
further caller relay xs ys none =
    subst (λ (r : Relay). Begins (Rattle.proxy_rules.specs.Laws.output_at caller (after relay xs)) (Rattle.proxy_rules.specs.Laws.output_at caller r)) (sym (after_both relay xs ys))
    (all_write caller (after relay xs) ys none)

miner_grows : (caller : ℕ) (xs ys : List ProxyEvent) → JoinsNot caller ys → Begins (miner_out xs caller) (miner_out (xs ++ ys) caller)
miner_grows caller [] ys none = (_, refl)
miner_grows caller (event.Start user base ∷ xs) ys none = further caller (started user base) xs ys none
miner_grows caller (event.Up bytes ∷ xs) ys none = further caller (started [] 0) (event.Up bytes ∷ xs) ys none
miner_grows caller (event.UpEnd ∷ xs) ys none = further caller (started [] 0) (event.UpEnd ∷ xs) ys none
miner_grows caller (event.Join other ∷ xs) ys none = further caller (started [] 0) (event.Join other ∷ xs) ys none
miner_grows caller (event.Line other line ∷ xs) ys none = further caller (started [] 0) (event.Line other line ∷ xs) ys none
miner_grows caller (event.Leave other ∷ xs) ys none = further caller (started [] 0) (event.Leave other ∷ xs) ys none

module _ (events : List ProxyEvent) (caller : ℕ) (some : (caller == 0) ≡ false) where
  abbrev AreIts : Calls → Type 0
  AreIts calls = AllByRecursion (λ (call : ProxyCall). call.worker ≡ caller) calls

  at_miner : (call : ProxyCall) → call.worker ≡ caller → output_at_call events call ≡ miner_out (take call.front events) caller
  at_miner call is =
      ap (λ n. output_for (take call.front events) n) is
      ∙ ap (λ (b : Bool). if b then up_out (take call.front events) else miner_out (take call.front events) caller) some

  grow : (calls later : Calls) (reached : List ProxyEvent) (first : List ℕ) → GoodProxyCalls events calls → AreIts calls → NoneJoin calls
      → Gaps events caller reached (calls ++ later) 0 → Begins first (miner_out reached caller) → GrowsFrom events first calls
  grow [] later reached first good own stay gaps begin = tt
  grow (call ∷ calls) later reached first good own stay gaps begin =
      let no_gap : joins caller gaps.0 ≡ 0 = omega (arith, gaps.4) in
      let no_more : gaps.1 ≡ 0 = omega (arith, gaps.4) in
      let front : List ProxyEvent = take call.front events in
      let here : Begins (miner_out reached caller) (miner_out front caller) =
      subst (λ (l : List ProxyEvent). Begins (miner_out reached caller) (miner_out l caller)) (sym gaps.2)
      (miner_grows caller reached gaps.0 (joins_not caller gaps.0 no_gap)) in
      let owed : output_at_call events call ≡ miner_out front caller = at_miner call own.0 in
      let added : JoinsNot caller call.added = joins_not caller call.added (call_joins events caller call good.0 (inr stay.0)) in (
        subst (λ (l : List ℕ). Begins first l) (sym owed) (begins_after first (miner_out reached caller) (miner_out front caller) begin here),
        grow calls later (front ++ call.added) (output_at_call events call) good.1 own.1 stay.1
            (subst (λ n. Gaps events caller (front ++ call.added) (calls ++ later) n) no_more gaps.3)
            (subst (λ (l : List ℕ). Begins l (miner_out (front ++ call.added) caller)) (sym owed) (miner_grows caller front call.added added)),
      )

  -- ---- joining

  abbrev AreUnpolled : Calls → Type 0
  AreUnpolled [] = Unit {0}
  AreUnpolled (call ∷ calls) = (is_polled call ≡ false) × AreUnpolled calls

  left_out : (call : ProxyCall) (last : Option ProxyCall) → is_polled call ≡ false → polled_or last call ≡ last
  left_out call None none = ap (λ (b : Bool). if b then Some call else None) none
  left_out call (Some later) none = refl

  unpolled_first : (first calls : Calls) → AreUnpolled first → last_polled (first ++ calls) ≡ last_polled calls
  unpolled_first [] calls none = refl
  unpolled_first (call ∷ first) calls none = left_out call (last_polled (first ++ calls)) none.0 ∙ unpolled_first first calls none.1

  join_none : (call : ProxyCall) (answer : ProxyReply) → RepliesSo request.Join answer call → is_polled call ≡ false
  join_none call answer so = no_poll request.Join answer call refl so.0 so.1

  leave_none : (call : ProxyCall) (answer : ProxyReply) → RepliesSo request.Leave answer call → is_polled call ≡ false
  leave_none call answer so = no_poll request.Leave answer call refl so.0 so.1

  joining_unpolled : (calls : Calls) → IsJoining calls → AreUnpolled calls
  joining_unpolled [] joining = absurd joining
  joining_unpolled (join ∷ []) joining = (join_none join joining.0 joining.1, tt)
  joining_unpolled (again ∷ leave ∷ []) joining = absurd joining
  joining_unpolled (again ∷ leave ∷ join ∷ []) joining =
      (join_none again reply.Again joining.0, (leave_none leave joining.1.0 joining.1.1, (join_none join joining.2.0 joining.2.1, tt)))
  joining_unpolled (again ∷ leave ∷ join ∷ more ∷ others) joining = absurd joining

  failing_unpolled : (calls : Calls) → FailsToJoin calls → AreUnpolled calls
  failing_unpolled [] fails = absurd fails
  failing_unpolled (join ∷ []) fails = (failed_none request.Join join fails, tt)
  failing_unpolled (again ∷ leave ∷ []) fails = (join_none again reply.Again fails.0, (failed_none request.Leave leave fails.1, tt))
  failing_unpolled (again ∷ leave ∷ join ∷ []) fails =
      (join_none again reply.Again fails.0, (leave_none leave fails.1.0 fails.1.1, (failed_none request.Join join fails.2, tt)))
  failing_unpolled (again ∷ leave ∷ join ∷ more ∷ others) fails = absurd fails

  -- ---- a visit

  turns_lead : AllLead Lines (λ (s : MinerStand Calls). s.cursor) (λ (s : MinerStand Calls). s.asking) (HearsMiner Notes)
  turns_lead old new sink sink' (turn.Piece bytes) over hears = inl (_, _, refl, refl, hears.0)
  turns_lead old new sink sink' turn.Idle over hears = inl (_, _, refl, refl, hears)
  turns_lead old new sink sink' turn.End over hears = inr (input_end old.held, hears.0, ap (λ (s : MinerStand Calls). s.asking) hears.1, hears.2)

  served_rest : (idle_turns : ℕ) (old : Calls) (before : LinkSeen) (ended : SessionEnd) (new : Calls) (after' : LinkSeen)
      → (served : WasServed Notes idle_turns old before ended new after') → Rest (IsPutEnd served.reason) 0 served.joined before.sink new after'.sink
  served_rest idle_turns old before ended new after' served =
      let quiet = last_quiet request.Leave served.heard new served.reason ended (λ answer. refl) refl served.leaves in
      elim served.hears [
        | inl hears ↦
            leads_before Lines (IsPutEnd served.reason) (link_at [] 0 true) (link_at [] hears.stand.cursor false) served.joined hears.stand.asking new before.sink hears.middle.sink after'.sink hears.polled
            (all_before Lines (λ (s : MinerStand Calls). s.cursor) (λ (s : MinerStand Calls). s.asking) (HearsMiner Notes) turns_lead served.reason _ hears.left after' new (served.leaves.call ∷ []) hears.turns
            (served.leaves.done ∙ ap (λ (l : Calls). l ++ served.leaves.call ∷ []) (sym hears.asking)) (quiet, tt))
        | inr hears ↦
            leads_last Lines served.reason (link_at [] 0 true) (link_at [] hears.cursor false) served.joined served.heard new before.sink after'.sink (served.leaves.call ∷ []) hears.polled
            served.leaves.done (quiet, tt)
      ]

  -- the calls of a visit, whatever comes behind them
  pub record VisitPut (visit : MinerVisit) (noted now : Calls) : Type 0 where
    pub own : Calls
    pub own_is : now ≡ noted ++ own
    pub put : (later : Calls) → GoodProxyCalls events own → AreIts own → GapsBehind events caller (own ++ later) → IsPutItsOutput events visit own

  all_later : (xs ys : Calls) → GoodProxyCalls events (xs ++ ys) → GoodProxyCalls events ys
  all_later [] ys g = g
  all_later (x ∷ xs) ys g = all_later xs ys g.1

  its_later : (xs ys : Calls) → AreIts (xs ++ ys) → AreIts ys
  its_later [] ys g = g
  its_later (x ∷ xs) ys g = its_later xs ys g.1

  was_served : (idle_turns : ℕ) (visit : MinerVisit) (noted now : Calls) → WasServed Notes idle_turns noted visit.before visit.ended now visit.after → VisitPut visit noted now
  was_served idle_turns visit noted now served =
      let rest = served_rest idle_turns noted visit.before visit.ended now visit.after served in
      let joining = served.joining in
      let joined_is : served.joined ≡ noted ++ joining = noted_behind noted served.joined joining served.joins in
      record {
        own = joining ++ rest.calls;
        own_is = rest.noted_is ∙ ap (λ (l : Calls). l ++ rest.calls) joined_is ∙ append_assoc noted joining rest.calls;
        put = λ later good its gaps held is.
            let found = gaps_behind events caller joining (rest.calls ++ later) gaps.reached
            (subst (λ (l : Calls). Gaps events caller gaps.reached l 0) (append_assoc joining rest.calls later) gaps.gaps) in
            let grows = grow rest.calls later found.reached [] (all_later joining rest.calls good) (its_later joining rest.calls its)
            (none_join (IsPutEnd served.reason) 0 rest.calls rest.bytes rest.polls) found.gaps (_, refl) in
            let owes = owed_all events served.reason rest.calls rest.bytes (all_later joining rest.calls good) grows rest.polls in (
              rest.bytes,
              subst (λ (h : Option (List ℕ)). AddsBytes h visit.after.sink.held rest.bytes) is rest.put,
              subst (λ (last : Option ProxyCall). IsOutputUpTo events last visit.ended rest.bytes) (sym (unpolled_first joining rest.calls (joining_unpolled joining served.is_joining)))
                  (at_end (last_polled rest.calls) rest.bytes owes),
            );
      }
    where
      at_end : (last : Option ProxyCall) (bytes : List ℕ) → IsOutputUpTo events last served.reason bytes → IsOutputUpTo events last visit.ended bytes
      at_end None bytes owes = owes
      at_end (Some call) bytes owes = (owes.0, λ well. owes.1 (λ put. well (put_end request.Leave served.heard now served.reason visit.ended served.leaves put)))

  -- a link that came back as it came
  nothing_put : (visit : MinerVisit) (own : Calls) → visit.after ≡ visit.before → last_polled own ≡ None → IsPutItsOutput events visit own
  nothing_put visit own same none = λ held is. (
    [],
    ap (λ (l : LinkSeen). l.sink.held) same ∙ is ∙ ap (λ (l : List ℕ). Some l) (sym (append-nil held)),
    subst (λ (last : Option ProxyCall). IsOutputUpTo events last visit.ended []) (sym none) refl,
  )

  pub visit_put : (idle_turns : ℕ) (visit : MinerVisit) (noted now : Calls) → ServesMiner Notes idle_turns noted visit.before visit.ended now visit.after → VisitPut visit noted now
  visit_put idle_turns visit noted now (inl served) = was_served idle_turns visit noted now served
  visit_put idle_turns visit noted now (inr (inl none)) = record {
    own = none.calls;
    own_is = noted_behind noted now none.calls none.acts;
    put = λ later good its gaps.
        nothing_put visit none.calls none.link
        (ap last_polled (sym (append-nil none.calls)) ∙ unpolled_first none.calls [] (failing_unpolled none.calls none.fails));
  }
  visit_put idle_turns visit noted now (inr (inr none)) = record {
    own = [];
    own_is = none.asking ∙ sym (append-nil noted);
    put = λ later good its gaps. nothing_put visit [] none.link refl;
  }
