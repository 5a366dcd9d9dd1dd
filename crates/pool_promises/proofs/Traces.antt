-- The calls of a link and what it was put, from a stand to its end.
use Rattle.std.proofs.Common.{◌≡◌, ◌⊎◌, ℕ, Option, None, Some, List, [], ◌∷◌, ◌++◌, refl, ap, sym, subst, ◌∙◌, append_assoc, append-nil, inl, inr}
use Rattle.pool_io.specs.Outside.{AddsBytes}
use Rattle.pool_io.specs.Seen.{SinkSeen}
use Rattle.pool_io.specs.declared.turn.Turn.{Turn}
use Rattle.pool_network.specs.Seen.{LinkSeen}
use Rattle.link_hearing.specs.Hearing.{HearsAll, HearsEach, HearsOne, Hearing}
use Rattle.session_steps.specs.declared.ends.SessionEnd.{SessionEnd}
use Rattle.proxy_server.specs.Calls.{ActsEach, ProxyCall}
use Rattle.proxy_server.specs.Links.{EndsSo, IsPutEnd, LeadsOn, LinkState, Stop, Tongue, bytes_at, bytes_in, calls_at, calls_in}
use Rattle.proxy_server.proofs.Leading.{adds_both, adds_none}
use Rattle.proxy_server.specs.Visits.{Notes}
use Rattle.pool_promises.proofs.Polls.{AreQuiet, IsQuiet, PutsPolls, deeds_put, none_put, stop_put}

-- calls that were noted one by one stand behind those before
pub noted_behind : (old new calls : List ProxyCall) → ActsEach Notes old calls new → new ≡ old ++ calls
noted_behind old new [] acts = acts ∙ sym (append-nil old)
noted_behind old new (call ∷ calls) acts =
    noted_behind acts.0 new calls acts.2 ∙ ap (λ (l : List ProxyCall). l ++ calls) acts.1 ∙ append_assoc old (call ∷ []) calls

-- from a place of the output, calls that are noted and a sink on: what is noted and put up to the end
pub record Rest (cut : Type 0) (cursor : ℕ) (noted : List ProxyCall) (sink : SinkSeen) (noted' : List ProxyCall) (sink' : SinkSeen) : Type 0 where
  pub calls : List ProxyCall
  pub bytes : List ℕ
  pub noted_is : noted' ≡ noted ++ calls
  pub put : AddsBytes sink.held sink'.held bytes
  pub polls : PutsPolls cut cursor calls bytes

-- the last call is quiet, and puts nothing
pub only_last : (cut : Type 0) (cursor : ℕ) (noted : List ProxyCall) (sink : SinkSeen) (call : ProxyCall) → IsQuiet call → Rest cut cursor noted sink (noted ++ call ∷ []) sink
only_last cut cursor noted sink call none = record {
  calls = call ∷ [];
  bytes = [];
  noted_is = refl;
  put = adds_none sink.held;
  polls = inl (none, refl);
}

module _ (tongue : Tongue) where
  -- deeds, and it goes on
  pub leads_before : (cut : Type 0) (old new : LinkState) (a b c : List ProxyCall) (k l m : SinkSeen) → LeadsOn tongue Notes old a k None new b l → Rest cut new.cursor b l c m
      → Rest cut old.cursor a k c m
  leads_before cut old new a b c k l m leads rest =
      let at_end = going leads.stop leads.ends in
      let own : b ≡ a ++ calls_in leads.deeds =
      noted_behind a b (calls_in leads.deeds)
      (subst (λ (cs : List ProxyCall). ActsEach Notes a cs b) (ap (λ (o : Option Stop). calls_in leads.deeds ++ calls_at o) at_end.0 ∙ append-nil (calls_in leads.deeds)) leads.acts) in
      let put : AddsBytes k.held l.held (bytes_in leads.deeds) =
      subst (λ (bs : List ℕ). AddsBytes k.held l.held bs) (ap (λ (o : Option Stop). bytes_in leads.deeds ++ bytes_at o) at_end.0 ∙ append-nil (bytes_in leads.deeds)) leads.put in
      record {
        calls = calls_in leads.deeds ++ rest.calls;
        bytes = bytes_in leads.deeds ++ rest.bytes;
        noted_is = rest.noted_is ∙ ap (λ (l : List ProxyCall). l ++ rest.calls) own ∙ append_assoc a (calls_in leads.deeds) rest.calls;
        put = adds_both k.held l.held m.held (bytes_in leads.deeds) rest.bytes put rest.put;
        polls =
            deeds_put cut tongue old leads.deeds leads.last rest.calls rest.bytes leads.leads
            (subst (λ (s : LinkState). PutsPolls cut s.cursor rest.calls rest.bytes) at_end.1 rest.polls);
      }
    where
      going : (stop : Option Stop) → EndsSo tongue leads.last stop None new → (stop ≡ None) × (new ≡ leads.last)
      going None ends = (refl, ends)
      going (Some stop) ends = absurd ends

  -- deeds, and it is over; then come calls that are quiet
  pub leads_last : (reason : SessionEnd) (old new : LinkState) (a b c : List ProxyCall) (k l : SinkSeen) (more : List ProxyCall)
      → LeadsOn tongue Notes old a k (Some reason) new b l → c ≡ b ++ more → AreQuiet more
      → Rest (IsPutEnd reason) old.cursor a k c l
  leads_last reason old new a b c k l more leads behind none = record {
    calls = calls_in leads.deeds ++ (calls_at leads.stop ++ more);
    bytes = bytes_in leads.deeds ++ bytes_at leads.stop;
    noted_is =
        behind ∙ ap (λ (l : List ProxyCall). l ++ more) (noted_behind a b (calls_in leads.deeds ++ calls_at leads.stop) leads.acts)
        ∙ append_assoc a (calls_in leads.deeds ++ calls_at leads.stop) more
        ∙ ap (λ (l : List ProxyCall). a ++ l) (append_assoc (calls_in leads.deeds) (calls_at leads.stop) more);
    put = leads.put;
    polls =
        deeds_put (IsPutEnd reason) tongue old leads.deeds leads.last (calls_at leads.stop ++ more) (bytes_at leads.stop) leads.leads
        (over leads.stop leads.ends);
  }
    where
      over : (stop : Option Stop) → EndsSo tongue leads.last stop (Some reason) new → PutsPolls (IsPutEnd reason) leads.last.cursor (calls_at stop ++ more) (bytes_at stop)
      over None ends = absurd ends
      over (Some stop) ends = stop_put tongue leads.last stop reason more ends none

-- ---- turns

-- one who hears a link: up to which place the output was put, and the calls that are noted
module _ (tongue : Tongue) {H : Type 0} (cursor : H → ℕ) (noted : H → List ProxyCall)
    (hears : H → SinkSeen → Turn → Option SessionEnd → H → SinkSeen → Type 0) where
  -- a turn was heard by deeds; or it asked for nothing, and it is over
  abbrev pub Leads : H → SinkSeen → Option SessionEnd → H → SinkSeen → Type 0
  Leads old sink over new sink' =
      ((s : LinkState) × (t : LinkState) × (s.cursor ≡ cursor old) × (t.cursor ≡ cursor new) × LeadsOn tongue Notes s (noted old) sink over t (noted new) sink')
      ⊎ ((reason : SessionEnd) × (over ≡ Some reason) × (noted new ≡ noted old) × (sink' ≡ sink))

  abbrev pub AllLead : Type 0
  AllLead = (old new : H) (sink sink' : SinkSeen) (told : Turn) (over : Option SessionEnd) → hears old sink told over new sink' → Leads old sink over new sink'

  module _ (all_lead : AllLead) where
    one_before : (cut : Type 0) (old new : Hearing H) (told : Turn) (c : List ProxyCall) (m : SinkSeen) → HearsOne hears old told None new
        → Rest cut (cursor new.hearer) (noted new.hearer) new.link.sink c m → Rest cut (cursor old.hearer) (noted old.hearer) old.link.sink c m
    one_before cut old new told c m one rest =
        subst (λ (s : SinkSeen). Rest cut (cursor old.hearer) (noted old.hearer) s c m) one.takes.sink
        (by (all_lead old.hearer new.hearer one.middle.sink new.link.sink told None one.heard))
      where
        by : Leads old.hearer one.middle.sink None new.hearer new.link.sink → Rest cut (cursor old.hearer) (noted old.hearer) one.middle.sink c m
        by (inl leads) =
            subst (λ n. Rest cut n (noted old.hearer) one.middle.sink c m) leads.2
            (leads_before tongue cut leads.0 leads.1 (noted old.hearer) (noted new.hearer) c one.middle.sink new.link.sink m leads.4
            (subst (λ n. Rest cut n (noted new.hearer) new.link.sink c m) (sym leads.3) rest))
        by (inr over) = absurd (let never : None ≡ Some over.0 = over.1 in cc)

    one_last : (reason : SessionEnd) (old new : Hearing H) (told : Turn) (c : List ProxyCall) (more : List ProxyCall) → HearsOne hears old told (Some reason) new
        → c ≡ noted new.hearer ++ more → AreQuiet more → Rest (IsPutEnd reason) (cursor old.hearer) (noted old.hearer) old.link.sink c new.link.sink
    one_last reason old new told c more one behind none =
        subst (λ (s : SinkSeen). Rest (IsPutEnd reason) (cursor old.hearer) (noted old.hearer) s c new.link.sink) one.takes.sink
        (by (all_lead old.hearer new.hearer one.middle.sink new.link.sink told (Some reason) one.heard))
      where
        by : Leads old.hearer one.middle.sink (Some reason) new.hearer new.link.sink → Rest (IsPutEnd reason) (cursor old.hearer) (noted old.hearer) one.middle.sink c new.link.sink
        by (inl leads) =
            subst (λ n. Rest (IsPutEnd reason) n (noted old.hearer) one.middle.sink c new.link.sink) leads.2
            (leads_last tongue reason leads.0 leads.1 (noted old.hearer) (noted new.hearer) c one.middle.sink new.link.sink more leads.4 behind none)
        by (inr over) = record {
          calls = more;
          bytes = [];
          noted_is = behind ∙ ap (λ (l : List ProxyCall). l ++ more) over.2;
          put = subst (λ (s : SinkSeen). AddsBytes one.middle.sink.held s.held []) (sym over.3) (adds_none one.middle.sink.held);
          polls = none_put (IsPutEnd reason) (cursor old.hearer) more none;
        }

    each_before : (cut : Type 0) (old new : Hearing H) (turns : List Turn) (c : List ProxyCall) (m : SinkSeen) → HearsEach hears old turns new
        → Rest cut (cursor new.hearer) (noted new.hearer) new.link.sink c m → Rest cut (cursor old.hearer) (noted old.hearer) old.link.sink c m
    each_before cut old new [] c m on rest =
        subst (λ (h : Hearing H). Rest cut (cursor h.hearer) (noted h.hearer) h.link.sink c m) on rest
    each_before cut old new (told ∷ turns) c m on rest = one_before cut old on.0 told c m on.1 (each_before cut on.0 new turns c m on.3 rest)

    -- all turns, and then calls that are quiet
    pub all_before : (reason : SessionEnd) (old : Hearing H) (left : H) (link : LinkSeen) (c more : List ProxyCall) → HearsAll hears old reason left link
        → c ≡ noted left ++ more → AreQuiet more → Rest (IsPutEnd reason) (cursor old.hearer) (noted old.hearer) old.link.sink c link.sink
    all_before reason old left link c more all behind none =
        each_before (IsPutEnd reason) old all.last all.turns c link.sink all.on (elim all.ends [
          | inl by ↦ one_last reason all.last _ by.told c more by.heard behind none
          | inr (inl by) ↦
              one_before (IsPutEnd reason) all.last _ by.told c link.sink by.heard (quiet (cursor left) (noted left) link.sink link.sink refl behind)
          | inr (inr by) ↦
              quiet (cursor all.last.hearer) (noted all.last.hearer) all.last.link.sink link.sink by.takes.sink
              (behind ∙ ap (λ (h : H). noted h ++ more) by.hearer)
        ])
      where
        quiet : (place : ℕ) (before : List ProxyCall) (k l : SinkSeen) → l ≡ k → c ≡ before ++ more → Rest (IsPutEnd reason) place before k c l
        quiet place before k l same is = record {
          calls = more;
          bytes = [];
          noted_is = is;
          put = subst (λ (s : SinkSeen). AddsBytes k.held s.held []) (sym same) (adds_none k.held);
          polls = none_put (IsPutEnd reason) place more none;
        }
