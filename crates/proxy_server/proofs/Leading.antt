-- Deeds go on by one more.
use Rattle.std.proofs.Common.{◌≡◌, ℕ, ◌+◌, true, false, Option, None, Some, Ok, Err, List, [], ◌∷◌, ◌++◌, length, refl, sym, ap, subst, ◌∙◌, append_assoc, append-nil}
use Rattle.pool_io.specs.Outside.{AddsBytes, CountsFailure}
use Rattle.pool_io.specs.Seen.{SinkSeen}
use Rattle.v1_lines.specs.Holding.{HoldsLongLine, IsHeldLine}
use Rattle.session_steps.specs.declared.ends.SessionEnd.{SessionEnd}
use Rattle.std.specs.declared.alloc.AllocError.{AllocError}
use Rattle.proxy_rules.specs.declared.requests.ProxyReply.{ProxyReply}
use Rattle.proxy_rules.specs.declared.requests.ProxyReply.TheVariants as reply
use Rattle.proxy_rules.specs.declared.requests.ProxyRequest.TheVariants as request
use Rattle.session_steps.specs.declared.ends.SessionEnd.TheVariants as end
use Rattle.proxy_server.specs.Calls.{ActsEach, MakesCall, ProxyCall}
use Rattle.proxy_server.specs.Links.{CutsItem, Deed, EndsSo, Leads, LeadsOn, Lines, LinkState, Lacked, Overran, Passed, Polled, PollsOwed, PutsNews, Stop, Told, Tongue, Unpolled, Unput, Untold, bytes_at, bytes_in, calls_at, calls_in, is_write_over, link_at, request_for}

pub calls_both : (xs ys : List Deed) → calls_in (xs ++ ys) ≡ calls_in xs ++ calls_in ys
calls_both [] ys = refl
calls_both (Told item call ∷ xs) ys = ap (λ (l : List ProxyCall). call ∷ l) (calls_both xs ys)
calls_both (Passed item ∷ xs) ys = calls_both xs ys
calls_both (Polled bytes call ∷ xs) ys = ap (λ (l : List ProxyCall). call ∷ l) (calls_both xs ys)

pub bytes_both : (xs ys : List Deed) → bytes_in (xs ++ ys) ≡ bytes_in xs ++ bytes_in ys
bytes_both [] ys = refl
bytes_both (Told item call ∷ xs) ys = bytes_both xs ys
bytes_both (Passed item ∷ xs) ys = bytes_both xs ys
bytes_both (Polled bytes call ∷ xs) ys = ap (λ (l : List ℕ). bytes ++ l) (bytes_both xs ys) ∙ sym (append_assoc bytes (bytes_in xs) (bytes_in ys))

pub leads_both : (tongue : Tongue) (a b c : LinkState) (xs ys : List Deed) → Leads tongue a xs b → Leads tongue b ys c → Leads tongue a (xs ++ ys) c
leads_both tongue a b c [] ys first then = subst (λ (s : LinkState). Leads tongue s ys c) first then
leads_both tongue a b c (x ∷ xs) ys first then = (first.0, first.1, leads_both tongue first.0 b c xs ys first.2 then)

pub acts_both : {A : Type 0} (does : A → ProxyCall → A → Type 0) (a b c : A) (xs ys : List ProxyCall) → ActsEach does a xs b → ActsEach does b ys c → ActsEach does a (xs ++ ys) c
acts_both {A} does a b c [] ys first then = subst (λ (s : A). ActsEach does s ys c) first then
acts_both does a b c (x ∷ xs) ys first then = (first.0, first.1, acts_both does first.0 b c xs ys first.2 then)

pub adds_both : (a b c : Option (List ℕ)) (xs ys : List ℕ) → AddsBytes a b xs → AddsBytes b c ys → AddsBytes a c (xs ++ ys)
adds_both None b c xs ys first then = tt
adds_both (Some held) b c xs ys first then =
    let more = rw first at then in
    more ∙ ap (λ (l : List ℕ). Some l) (append_assoc held xs ys)

module _ {A : Type 0} (tongue : Tongue) (does : A → ProxyCall → A → Type 0) where
  -- deeds behind which it goes on
  pub stop_none : (last : LinkState) (stop : Option Stop) (new : LinkState) → EndsSo tongue last stop None new → (stop ≡ None) × (new ≡ last)
  stop_none last None new ends = (refl, ends)
  stop_none last (Some stop) new ends = absurd ends

  -- deeds, and then more
  unfoldable pub leads_on : (over : Option SessionEnd) (s t u : LinkState) (a b c : A) (k l m : SinkSeen) → LeadsOn tongue does s a k None t b l → LeadsOn tongue does t b l over u c m
      → LeadsOn tongue does s a k over u c m
  leads_on over s t u a b c k l m first then =
      let none = stop_none first.last first.stop t first.ends in
      let xs = first.deeds in
      let ys = then.deeds in
      let acts : ActsEach does a (calls_in xs) b = subst (λ (cs : List ProxyCall). ActsEach does a cs b) (ap (λ (o : Option Stop). calls_in xs ++ calls_at o) none.0 ∙ append-nil (calls_in xs)) first.acts in
      let put : AddsBytes k.held l.held (bytes_in xs) =
      subst (λ (bs : List ℕ). AddsBytes k.held l.held bs) (ap (λ (o : Option Stop). bytes_in xs ++ bytes_at o) none.0 ∙ append-nil (bytes_in xs)) first.put in
      record {
        deeds = xs ++ ys;
        last = then.last;
        stop = then.stop;
        leads = leads_both tongue s t then.last xs ys (subst (λ (x : LinkState). Leads tongue s xs x) (sym none.1) first.leads) then.leads;
        ends = then.ends;
        acts =
            subst (λ (cs : List ProxyCall). ActsEach does a cs c)
            (sym (append_assoc (calls_in xs) (calls_in ys) (calls_at then.stop)) ∙ ap (λ (cs : List ProxyCall). cs ++ calls_at then.stop) (sym (calls_both xs ys)))
            (acts_both does a b c (calls_in xs) (calls_in ys ++ calls_at then.stop) acts then.acts);
        put =
            subst (λ (bs : List ℕ). AddsBytes k.held m.held bs)
            (sym (append_assoc (bytes_in xs) (bytes_in ys) (bytes_at then.stop)) ∙ ap (λ (bs : List ℕ). bs ++ bytes_at then.stop) (sym (bytes_both xs ys)))
            (adds_both k.held l.held m.held (bytes_in xs) (bytes_in ys ++ bytes_at then.stop) put then.put);
        counts = subst (λ n. CountsFailure (is_write_over over) n m.faults) first.counts then.counts;
      }

-- nothing was put
pub adds_none : (held : Option (List ℕ)) → AddsBytes held held []
adds_none None = tt
adds_none (Some held) = ap (λ (l : List ℕ). Some l) (sym (append-nil held))

module _ {A : Type 0} (tongue : Tongue) (does : A → ProxyCall → A → Type 0) where
  -- a poll was asked and failed
  pub polled_not : (unmet : List ℕ) (cursor cursor' : ℕ) (asking asking' : A) (k : SinkSeen) (fault : AllocError) → MakesCall does asking (request.Poll cursor) (Err fault) asking'
      → PollsOwed tongue does unmet cursor asking k (Some end.Memory) cursor' asking' k
  polled_not unmet cursor cursor' asking asking' k fault made = (
    record {
      deeds = [];
      last = link_at unmet cursor true;
      stop = Some (Unpolled made.call);
      leads = refl;
      ends = (refl, (fault, made.asked_is, made.outcome_is), refl);
      acts = (asking', made.done, refl);
      put = adds_none k.held;
      counts = refl;
    },
    tt,
  )

  -- a poll was answered, and what is new put
  pub polled : (unmet : List ℕ) (cursor cursor' : ℕ) (asking asking' : A) (k l : SinkSeen) (news : List ℕ) (over : Option SessionEnd)
      → MakesCall does asking (request.Poll cursor) (Ok (reply.Bytes news)) asking' → PutsNews cursor news k over cursor' l
      → PollsOwed tongue does unmet cursor asking k over cursor' asking' l
  polled unmet cursor cursor' asking asking' k l news None made puts = (
    record {
      deeds = Polled news made.call ∷ [];
      last = link_at unmet (cursor + length news) false;
      stop = None;
      leads = (link_at unmet (cursor + length news) false, (refl, (made.asked_is, made.outcome_is), refl), refl);
      ends = ap (λ n. link_at unmet n false) puts.0;
      acts = (asking', made.done, refl);
      put = subst (λ (bs : List ℕ). AddsBytes k.held l.held bs) (sym (append-nil (news ++ []))) (subst (λ (bs : List ℕ). AddsBytes k.held l.held bs) (sym (append-nil news)) puts.1);
      counts = puts.2;
    },
    tt,
  )
  polled unmet cursor cursor' asking asking' k l news (Some reason) made puts = (
    record {
      deeds = [];
      last = link_at unmet cursor true;
      stop = Some (Unput puts.0 made.call);
      leads = refl;
      ends = (news, refl, (made.asked_is, made.outcome_is), puts.1, puts.3);
      acts = (asking', made.done, refl);
      put = puts.2;
      counts = puts.4;
    },
    tt,
  )

  -- there was no memory for an item
  unfoldable pub lacked : (old new : LinkState) (asking : A) (k : SinkSeen) → LeadsOn tongue does old asking k (Some end.Memory) new asking k
  lacked old new asking k = record { deeds = []; last = old; stop = Some Lacked; leads = refl; ends = refl; acts = refl; put = adds_none k.held; counts = refl }

  -- an item was asked for and failed
  unfoldable pub told_not : (bytes item rest : List ℕ) (cursor : ℕ) (new : LinkState) (asking asking' : A) (k : SinkSeen) (fault : AllocError) → CutsItem tongue bytes item rest
      → MakesCall does asking (request_for tongue item) (Err fault) asking' → LeadsOn tongue does (link_at bytes cursor false) asking k (Some end.Memory) new asking' k
  told_not bytes item rest cursor new asking asking' k fault cut made = record {
    deeds = [];
    last = link_at bytes cursor false;
    stop = Some (Untold item made.call);
    leads = refl;
    ends = (rest, refl, cut, (fault, made.asked_is, made.outcome_is), refl);
    acts = (asking', made.done, refl);
    put = adds_none k.held;
    counts = refl;
  }

  -- an item was asked for
  unfoldable pub told : (bytes item rest : List ℕ) (cursor : ℕ) (asking asking' : A) (k : SinkSeen) (answer : ProxyReply) → CutsItem tongue bytes item rest
      → MakesCall does asking (request_for tongue item) (Ok answer) asking' → LeadsOn tongue does (link_at bytes cursor false) asking k None (link_at rest cursor true) asking' k
  told bytes item rest cursor asking asking' k answer cut made = record {
    deeds = Told item made.call ∷ [];
    last = link_at rest cursor true;
    stop = None;
    leads = (link_at rest cursor true, (rest, refl, cut, (answer, (made.asked_is, made.outcome_is)), refl), refl);
    ends = refl;
    acts = (asking', made.done, refl);
    put = adds_none k.held;
    counts = refl;
  }

  -- nothing was done
  unfoldable pub leads_none : (state : LinkState) (asking : A) (k : SinkSeen) → LeadsOn tongue does state asking k None state asking k
  leads_none state asking k = record { deeds = []; last = state; stop = None; leads = refl; ends = refl; acts = refl; put = adds_none k.held; counts = refl }

  -- what is over doesn't say what is left
  pub ends_any : (last new other : LinkState) (stop : Option Stop) (reason : SessionEnd) → EndsSo tongue last stop (Some reason) new → EndsSo tongue last stop (Some reason) other
  ends_any last new other None reason ends = absurd ends
  ends_any last new other (Some stop) reason ends = ends

  unfoldable pub leads_any : {reason : SessionEnd} {old : LinkState} (new other : LinkState) {asking asking' : A} {k l : SinkSeen} → LeadsOn tongue does old asking k (Some reason) new asking' l
      → LeadsOn tongue does old asking k (Some reason) other asking' l
  leads_any {reason = reason} new other leads = record {
    deeds = leads.deeds;
    last = leads.last;
    stop = leads.stop;
    leads = leads.leads;
    ends = ends_any leads.last new other leads.stop reason leads.ends;
    acts = leads.acts;
    put = leads.put;
    counts = leads.counts;
  }

  -- of the same bytes
  pub leads_from : {over : Option SessionEnd} {u v : List ℕ} {new : LinkState} {asking asking' : A} {k l : SinkSeen} (cursor : ℕ) → u ≡ v
      → LeadsOn tongue does (link_at u cursor false) asking k over new asking' l → LeadsOn tongue does (link_at v cursor false) asking k over new asking' l
  leads_from {over = over} {new = new} {asking = asking} {asking' = asking'} {k = k} {l = l} cursor same leads =
      subst (λ (u : List ℕ). LeadsOn tongue does (link_at u cursor false) asking k over new asking' l) same leads

-- ---- a miner's lines

held_bytes : (line held rest : List ℕ) → IsHeldLine line held → line ++ 10 ∷ rest ≡ held ++ rest
held_bytes line held rest is = sym (ap (λ (l : List ℕ). l ++ rest) is.whole ∙ append_assoc line (10 ∷ []) rest)

module _ {A : Type 0} (does : A → ProxyCall → A → Type 0) where
  pub overran : (held rest : List ℕ) (cursor : ℕ) (new : LinkState) (asking : A) (k : SinkSeen) → HoldsLongLine held
      → LeadsOn Lines does (link_at (held ++ rest) cursor false) asking k (Some end.LineTooLong) new asking k
  overran held rest cursor new asking k long = record {
    deeds = [];
    last = link_at (held ++ rest) cursor false;
    stop = Some Overran;
    leads = refl;
    ends = (refl, (record { front = held; more = rest; whole = refl; long = long }, refl));
    acts = refl;
    put = adds_none k.held;
    counts = refl;
  }

  -- a line that was held was told
  pub line_told : (over : Option SessionEnd) (line held rest : List ℕ) (cursor : ℕ) (new : LinkState) (asking asking' : A) (k l : SinkSeen) → IsHeldLine line held
      → LeadsOn Lines does (link_at (line ++ 10 ∷ rest) cursor false) asking k over new asking' l
      → LeadsOn Lines does (link_at (held ++ rest) cursor false) asking k over new asking' l
  line_told over line held rest cursor new asking asking' k l is leads =
      subst (λ (u : List ℕ). LeadsOn Lines does (link_at u cursor false) asking k over new asking' l) (held_bytes line held rest is) leads
