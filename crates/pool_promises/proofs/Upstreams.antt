-- What the upstream's link was put.
use Rattle.std.proofs.Common.{◌≡◌, ℕ, true, false, None, Some, Option, List, [], ◌∷◌, ◌++◌, take, refl, ap, sym, subst, ◌∙◌, append_assoc, inl, inr}
use Rattle.std.specs.List.{AllByRecursion}
use Rattle.pool_base.specs.Calls.{Replied}
use Rattle.pool_base.specs.Lists.{Begins}
use Rattle.pool_base.specs.Standing.{StandInOrder, StandsBehind}
use Rattle.pool_base.proofs.Behind.{all-front, callers-go_on}
use Rattle.pool_io.specs.Outside.{AddsBytes}
use Rattle.pool_io.specs.declared.turn.Turn.TheVariants as turn
use Rattle.pool_network.specs.Seen.{LinkSeen}
use Rattle.session_steps.specs.declared.ends.SessionEnd.{SessionEnd}
use Rattle.session_steps.specs.States.{input_end}
use Rattle.proxy_rules.specs.declared.events.ProxyEvent.{ProxyEvent}
use Rattle.proxy_rules.specs.declared.requests.ProxyReply.{ProxyReply}
use Rattle.proxy_rules.specs.declared.requests.ProxyRequest.{ProxyRequest}
use Rattle.proxy_rules.specs.declared.requests.ProxyRequest.TheVariants as request
use Rattle.proxy_rules.specs.Outputs.{output_for, up_out}
use Rattle.proxy_server.specs.declared.phase.UpPhase.{UpPhase}
use Rattle.proxy_server.specs.Calls.{GoodProxyCalls, ProxyCall}
use Rattle.proxy_server.specs.Links.{Frames, IsPutEnd, link_at}
use Rattle.proxy_server.specs.Serving.{LeavesAtEnd, end_unleft}
use Rattle.proxy_server.specs.Upstreams.{HearsUpstream, ServesUpstream, UpStand}
use Rattle.proxy_server.specs.Visits.{Notes}
use Rattle.pool_promises.specs.Puts.{IsOutputUpTo, UpstreamsArePutOutput, is_reply_to_poll, last_polled, output_at_call}
use Rattle.pool_promises.proofs.Growing.{up_grows}
use Rattle.pool_promises.proofs.Owed.{GrowsFrom, owed_all}
use Rattle.pool_promises.proofs.Polls.{PutsPolls, IsQuiet, asked_quiet, failed_quiet, is_joining}
use Rattle.pool_promises.proofs.Traces.{AllLead, Rest, all_before, leads_before, leads_last, only_last}

-- ---- the link

abbrev Calls : Type 0
Calls = List ProxyCall

abbrev cursor_of : UpStand Calls → ℕ
cursor_of stand = stand.cursor

abbrev noted_of : UpStand Calls → Calls
noted_of stand = stand.asking

turns_lead : AllLead Frames cursor_of noted_of (HearsUpstream Notes)
turns_lead old new sink sink' (turn.Piece bytes) over hears = inl (_, _, refl, refl, hears.0.leads)
turns_lead old new sink sink' turn.Idle over hears = inl (_, _, refl, refl, hears.leads)
turns_lead old new sink sink' turn.End over hears = inr (input_end old.held, hears.0, ap noted_of hears.1, hears.2)

-- the call at the end is quiet
pub last_quiet : (asked : ProxyRequest) (old new : Calls) (reason ended : SessionEnd) → ((answer : ProxyReply) → is_reply_to_poll asked (Replied answer) ≡ false)
    → is_joining asked ≡ false → (leaves : LeavesAtEnd Notes asked old reason ended new) → IsQuiet leaves.call
last_quiet asked old new reason ended none stays leaves = elim leaves.ends [
  | inl replies ↦ asked_quiet asked leaves.call none stays replies.0
  | inr fails ↦ failed_quiet asked leaves.call stays fails.0
]

-- a put that failed stays the end
stays_put_end : (reason ended : SessionEnd) → (ended ≡ reason) → IsPutEnd reason → IsPutEnd ended
stays_put_end reason ended is put = subst IsPutEnd (sym is) put

unleft_put_end : (reason ended : SessionEnd) → ended ≡ end_unleft reason → IsPutEnd reason → IsPutEnd ended
unleft_put_end reason ended is (inl put) = inl (is ∙ ap end_unleft put)
unleft_put_end reason ended is (inr put) = inr (is ∙ ap end_unleft put)

pub put_end : (asked : ProxyRequest) (old new : Calls) (reason ended : SessionEnd) → LeavesAtEnd Notes asked old reason ended new → IsPutEnd reason → IsPutEnd ended
put_end asked old new reason ended leaves put = elim leaves.ends [
  | inl replies ↦ stays_put_end reason ended replies.1 put
  | inr fails ↦ unleft_put_end reason ended fails.1 put
]

link_rest : (idle_turns : ℕ) (before : LinkSeen) (ended : SessionEnd) (phase : UpPhase) (calls : Calls) (after : LinkSeen)
    → (served : ServesUpstream Notes idle_turns [] before ended phase calls after) → Rest (IsPutEnd served.reason) 0 [] before.sink calls after.sink
link_rest idle_turns before ended phase calls after served =
    let none = last_quiet request.UpEnd served.heard calls served.reason ended (λ answer. refl) refl served.leaves in
    elim served.hears [
      | inl hears ↦
          leads_before Frames (IsPutEnd served.reason) (link_at [] 0 true) (link_at [] hears.stand.cursor false) [] hears.stand.asking calls before.sink hears.middle.sink after.sink hears.polled
          (all_before Frames cursor_of noted_of (HearsUpstream Notes) turns_lead served.reason _ hears.left after calls (served.leaves.call ∷ []) hears.turns
          (served.leaves.done ∙ ap (λ (l : Calls). l ++ served.leaves.call ∷ []) (sym hears.asking)) (none, tt))
      | inr (inl hears) ↦
          leads_last Frames served.reason (link_at [] 0 true) (link_at [] hears.cursor false) [] served.heard calls before.sink after.sink (served.leaves.call ∷ []) hears.polled
          served.leaves.done (none, tt)
      | inr (inr unable) ↦
          subst (λ (l : LinkSeen). Rest (IsPutEnd served.reason) 0 [] before.sink calls l.sink) (sym unable.link)
          (subst (λ (c : Calls). Rest (IsPutEnd served.reason) 0 [] before.sink c before.sink)
          (sym (served.leaves.done ∙ ap (λ (l : Calls). l ++ served.leaves.call ∷ []) unable.asking))
          (only_last (IsPutEnd served.reason) 0 [] before.sink served.leaves.call none))
    ]

-- ---- what goes upstream grows from call to call

module _ (events : List ProxyEvent) where
  at_zero : (call : ProxyCall) → call.worker ≡ 0 → output_at_call events call ≡ up_out (take call.front events)
  at_zero call is = ap (λ n. output_for (take call.front events) n) is

  next_grows : (one other : ProxyCall) → one.worker ≡ 0 → other.worker ≡ 0 → StandsBehind events one other
      → Begins (output_at_call events one) (output_at_call events other)
  next_grows one other is also stands =
      rw (at_zero one is, at_zero other also, stands.behind ∙ append_assoc (take one.front events) one.added stands.between)
      (up_grows (take one.front events) (one.added ++ stands.between))

  grow : (calls : Calls) → AllByRecursion (λ (call : ProxyCall). call.worker ≡ 0) calls → StandInOrder events calls → (first : List ℕ)
      → ((call : ProxyCall) (more : Calls) → calls ≡ call ∷ more → Begins first (output_at_call events call)) → GrowsFrom events first calls
  grow [] own stand first begins = tt
  grow (call ∷ calls) own stand first begins =
      (begins call calls refl, grow calls own.1 stand.1 (output_at_call events call) (further calls own.1 stand.0))
    where
      further : (calls : Calls) → AllByRecursion (λ (c : ProxyCall). c.worker ≡ 0) calls → AllByRecursion (StandsBehind events call) calls
          → (next : ProxyCall) (more : Calls) → calls ≡ next ∷ more → Begins (output_at_call events call) (output_at_call events next)
      further [] own behind next more is = absurd (let never : [] ≡ next ∷ more = is in cc)
      further (c ∷ cs) owns behind next more is =
          let same : c ≡ next = cc in
          subst (λ (n : ProxyCall). Begins (output_at_call events call) (output_at_call events n)) same (next_grows call c own.0 owns.0 behind.0)

-- ---- the law

pub put_output : UpstreamsArePutOutput
put_output service old new reason door_faults door_memory held is ran =
    let rest = link_rest service.idle_turns old.up reason ran.phase ran.up_calls new.up ran.served in
    let calls : ran.up_calls ≡ rest.calls = rest.noted_is in
    let stand = callers-go_on old.events new.events 0 0 0 ran.own.rise.0 ran.up_calls _ ran.parted ran.own.rise.1 in
    let good : GoodProxyCalls new.events ran.up_calls = all-front _ ran.up_calls _ ran.good in
    let grows : GrowsFrom new.events [] ran.up_calls = grow new.events ran.up_calls ran.own.own stand [] (λ call more is. (output_at_call new.events call, refl)) in
    let owes : IsOutputUpTo new.events (last_polled ran.up_calls) ran.served.reason rest.bytes =
    owed_all new.events ran.served.reason ran.up_calls rest.bytes good grows
    (subst (λ (c : Calls). PutsPolls (IsPutEnd ran.served.reason) 0 c rest.bytes) (sym calls) rest.polls) in (
      rest.bytes,
      subst (λ (h : Option (List ℕ)). AddsBytes h new.up.sink.held rest.bytes) is rest.put,
      at_end (last_polled ran.up_calls) rest.bytes owes,
    )
  where
    at_end : (last : Option ProxyCall) (bytes : List ℕ) → IsOutputUpTo new.events last ran.served.reason bytes → IsOutputUpTo new.events last reason bytes
    at_end None bytes owes = owes
    at_end (Some call) bytes owes =
        (owes.0, λ well. owes.1 (λ put. well (put_end request.UpEnd ran.served.heard ran.up_calls ran.served.reason reason ran.served.leaves put)))
