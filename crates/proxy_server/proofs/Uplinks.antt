-- Deeds on the upstream's link, and how far it has come by them.
use Rattle.std.proofs.Common.{◌≡◌, inl, inr, ℕ, ◌<◌, false, true, Option, None, Some, Result, Ok, Err, List, [], ◌∷◌, ◌++◌, IfErr, OnOk, refl, sym, ap, subst, append-nil, ◌∙◌}
use Rattle.std.specs.declared.alloc.AllocError.{AllocError}
use Rattle.pool_io.specs.Seen.{SinkSeen}
use Rattle.sv2_frames.specs.Framing.{FrameValue, frame_bytes}
use Rattle.sv2_frames.specs.Holding.{Holding, HoldsOver}
use Rattle.sv2_messages.specs.Messages.{Message}
use Rattle.session_steps.specs.declared.ends.SessionEnd.{SessionEnd}
use Rattle.session_steps.specs.declared.ends.SessionEnd.TheVariants as end
use Rattle.session_steps.specs.Steps.{BeginsOver}
use Rattle.link_hearing.specs.Hearing.{end_of}
use Rattle.proxy_rules.specs.declared.requests.ProxyReply.{ProxyReply}
use Rattle.proxy_rules.specs.declared.requests.ProxyRequest.TheVariants as request
use Rattle.proxy_server.specs.declared.phase.UpPhase.{UpPhase}
use Rattle.proxy_server.specs.declared.phase.UpPhase.TheVariants.{Unfit}
use Rattle.proxy_server.specs.Calls.{MakesCall, ProxyCall}
use Rattle.proxy_server.specs.Frames.{CutsFrame, TakesFrame, TakesNoMessage, is_up_frame, most_payload, next_phase}
use Rattle.proxy_server.specs.Links.{AskForNone, Broke, Deed, Frames, IsPutEnd, LeadsOn, LinkState, Overran, Passed, Polled, PollsOwed, Refused, Told, link_at}
use Rattle.proxy_server.specs.Upstreams.{LeadsUp, PhasesThrough, UpState, up_at}
use Rattle.proxy_server.proofs.Leading.{adds_none, lacked, leads_any, leads_none, leads_on, told, told_not}

phases_both : (a b c : UpPhase) (xs ys : List Deed) → (b ≡ Unfit → ⊥) → PhasesThrough a xs b → PhasesThrough b ys c → PhasesThrough a (xs ++ ys) c
phases_both a b c [] ys fit first then = subst (λ (p : UpPhase). PhasesThrough p ys c) first then
phases_both a b c (Told item call ∷ xs) ys fit first then = (
  first.0,
  first.1,
  λ unfit. absurd (fit (subst (λ (l : List Deed). PhasesThrough (next_phase a first.0) l b) (first.2 unfit) first.3 ∙ unfit)),
  phases_both (next_phase a first.0) b c xs ys fit first.3 then,
)
phases_both a b c (Passed item ∷ xs) ys fit first then = phases_both a b c xs ys fit first then
phases_both a b c (Polled bytes call ∷ xs) ys fit first then = phases_both a b c xs ys fit first then

-- no item, no step
phases_none : (a : UpPhase) (xs : List Deed) → AskForNone xs → PhasesThrough a xs a
phases_none a [] none = refl
phases_none a (Told item call ∷ xs) none = absurd none
phases_none a (Passed item ∷ xs) none = phases_none a xs none
phases_none a (Polled bytes call ∷ xs) none = phases_none a xs none

pub none_some : (reason : SessionEnd) → ◌≡◌ {A = Option SessionEnd} None (Some reason) → ⊥
none_some reason same = cc

pub some_none : (reason : SessionEnd) → ◌≡◌ {A = Option SessionEnd} (Some reason) None → ⊥
some_none reason same = cc

memory_no_setup : ◌≡◌ {A = Option SessionEnd} (Some end.Memory) (Some end.BadSetup) → ⊥
memory_no_setup same = cc

write_no_setup : ◌≡◌ {A = Option SessionEnd} (Some end.WriteFault) (Some end.BadSetup) → ⊥
write_no_setup same = cc

message_no_setup : (kind : ℕ) → ◌≡◌ {A = Option SessionEnd} (Some (end.BadMessage kind)) (Some end.BadSetup) → ⊥
message_no_setup kind same = cc

long_no_setup : (len : ℕ) → ◌≡◌ {A = Option SessionEnd} (Some (end.TooLong len)) (Some end.BadSetup) → ⊥
long_no_setup len same = cc

-- what holds where it went on
pub where_on : (result : Result (Unit {0}) SessionEnd) (P : Type 0) → OnOk result P → end_of result ≡ None → P
where_on (Ok done) P holds same = holds
where_on (Err reason) P holds same = absurd (some_none reason same)

-- a put's end is no bad setup
put_no_setup : (reason : SessionEnd) → IsPutEnd reason → Some reason ≡ Some end.BadSetup → ⊥
put_no_setup reason (inl is) same = write_no_setup (subst (λ (r : SessionEnd). Some r ≡ Some end.BadSetup) is same)
put_no_setup reason (inr is) same = memory_no_setup (subst (λ (r : SessionEnd). Some r ≡ Some end.BadSetup) is same)

pub news_no_setup : (result : Result (Unit {0}) SessionEnd) → IfErr result IsPutEnd → end_of result ≡ Some end.BadSetup → ⊥
news_no_setup (Ok done) ends same = none_some end.BadSetup same
news_no_setup (Err reason) ends same = put_no_setup reason ends same

module _ {A : Type 0} (does : A → ProxyCall → A → Type 0) where
  -- deeds, and then more
  pub up_on : (over : Option SessionEnd) (s t u : UpState) (a b c : A) (k l m : SinkSeen) → LeadsUp does s a k None t b l → LeadsUp does t b l over u c m → LeadsUp does s a k over u c m
  unfolding leads_on
  up_on over s t u a b c k l m first then = record {
    leads = leads_on Frames does over s.link t.link u.link a b c k l m first.leads then.leads;
    phases = phases_both s.phase t.phase u.phase first.leads.deeds then.leads.deeds (λ unfit. none_some end.BadSetup (first.bad unfit)) first.phases then.phases;
    unfit = then.unfit;
    bad = then.bad;
  }

  -- nothing was done
  pub up_none : (s : UpState) (a : A) (k : SinkSeen) → (s.phase ≡ Unfit → ⊥) → LeadsUp does s a k None s a k
  unfolding leads_none
  up_none s a k fit = record {
    leads = leads_none Frames does s.link a k;
    phases = refl;
    unfit = λ same. absurd (none_some end.BadSetup same);
    bad = λ unfit. absurd (fit unfit);
  }

  -- a poll was made
  pub up_polled : (over : Option SessionEnd) (unmet : List ℕ) (cursor cursor' : ℕ) (phase : UpPhase) (a b : A) (k l : SinkSeen) → PollsOwed Frames does unmet cursor a k over cursor' b l
      → (over ≡ Some end.BadSetup → ⊥) → (phase ≡ Unfit → ⊥) → LeadsUp does (up_at unmet cursor true phase) a k over (up_at unmet cursor' false phase) b l
  up_polled over unmet cursor cursor' phase a b k l polls no_setup fit = record {
    leads = polls.0;
    phases = phases_none phase polls.0.deeds polls.1;
    unfit = λ same. absurd (no_setup same);
    bad = λ unfit. absurd (fit unfit);
  }

  -- a frame was passed over
  pub up_passed : (frame : FrameValue) (bytes rest : List ℕ) (cursor : ℕ) (phase : UpPhase) (a : A) (k : SinkSeen) → CutsFrame frame bytes rest → is_up_frame frame.ext frame.kind ≡ false
      → (phase ≡ Unfit → ⊥) → LeadsUp does (up_at bytes cursor false phase) a k None (up_at rest cursor false phase) a k
  up_passed frame bytes rest cursor phase a k cut passed fit = record {
    leads = record {
      deeds = Passed (frame_bytes frame) ∷ [];
      last = link_at rest cursor false;
      stop = None;
      leads = (link_at rest cursor false, (rest, refl, (frame, cut, passed, refl), refl), refl);
      ends = refl;
      acts = refl;
      put = adds_none k.held;
      counts = refl;
    };
    phases = refl;
    unfit = λ same. absurd (none_some end.BadSetup same);
    bad = λ unfit. absurd (fit unfit);
  }

  -- one was no message
  pub up_broke : (frame : FrameValue) (bytes rest : List ℕ) (cursor : ℕ) (new : LinkState) (phase : UpPhase) (a : A) (k : SinkSeen) → CutsFrame frame bytes rest → TakesNoMessage frame → (phase ≡ Unfit → ⊥)
      → LeadsUp does (up_at bytes cursor false phase) a k (Some (end.BadMessage frame.kind)) (record { link = new; phase = phase }) a k
  up_broke frame bytes rest cursor new phase a k cut takes fit = record {
    leads = record {
      deeds = [];
      last = link_at bytes cursor false;
      stop = Some Broke;
      leads = refl;
      ends = (refl, (frame, rest, cut, takes, refl));
      acts = refl;
      put = adds_none k.held;
      counts = refl;
    };
    phases = refl;
    unfit = λ same. absurd (message_no_setup frame.kind same);
    bad = λ unfit. absurd (fit unfit);
  }

  -- too much came
  pub up_overran : (len : ℕ) (bytes : List ℕ) (cursor : ℕ) (new : LinkState) (phase : UpPhase) (a : A) (k : SinkSeen) → BeginsOver most_payload len bytes → (phase ≡ Unfit → ⊥)
      → LeadsUp does (up_at bytes cursor false phase) a k (Some (end.TooLong len)) (record { link = new; phase = phase }) a k
  up_overran len bytes cursor new phase a k begins fit = record {
    leads = record {
      deeds = [];
      last = link_at bytes cursor false;
      stop = Some Overran;
      leads = refl;
      ends = (refl, (len, begins, refl));
      acts = refl;
      put = adds_none k.held;
      counts = refl;
    };
    phases = refl;
    unfit = λ same. absurd (long_no_setup len same);
    bad = λ unfit. absurd (fit unfit);
  }

  -- there was no memory
  pub up_lacked : (old new : LinkState) (phase : UpPhase) (a : A) (k : SinkSeen) → (phase ≡ Unfit → ⊥) → LeadsUp does (record { link = old; phase = phase }) a k (Some end.Memory) (record { link = new; phase = phase }) a k
  unfolding lacked
  up_lacked old new phase a k fit = record {
    leads = lacked Frames does old new a k;
    phases = refl;
    unfit = λ same. absurd (memory_no_setup same);
    bad = λ unfit. absurd (fit unfit);
  }

  -- no proxy can go on with what came
  pub up_refused : (s : UpState) (t : LinkState) (new : LinkState) (phase : UpPhase) (a b : A) (k l : SinkSeen) (leads : LeadsOn Frames does s.link a k None t b l)
      → t.owes ≡ true → PhasesThrough s.phase leads.deeds phase → phase ≡ Unfit → LeadsUp does s a k (Some end.BadSetup) (record { link = new; phase = phase }) b l
  unfolding leads_on
  up_refused s t new phase a b k l leads owes phases unfit = record {
    leads = leads_on Frames does (Some end.BadSetup) s.link t new a b b k l l leads (record {
      deeds = [];
      last = t;
      stop = Some Refused;
      leads = refl;
      ends = (owes, refl);
      acts = refl;
      put = adds_none l.held;
      counts = refl;
    });
    phases = subst (λ (xs : List Deed). PhasesThrough s.phase xs phase) (sym (append-nil leads.deeds)) phases;
    unfit = λ same. unfit;
    bad = λ same. refl;
  }

  module _ (frame : FrameValue) (message : Message) (bytes rest : List ℕ) (cursor : ℕ) (phase : UpPhase) (a b : A) (k : SinkSeen) (cut : CutsFrame frame bytes rest) (takes : TakesFrame frame message)
    where
      -- a message was asked for and failed
      pub up_told_not : (phase ≡ Unfit → ⊥) → (new : LinkState) (fault : AllocError) → MakesCall does a (request.Up (frame_bytes frame)) (Err fault) b
          → LeadsUp does (up_at bytes cursor false phase) a k (Some end.Memory) (record { link = new; phase = phase }) b k
      unfolding told_not
      up_told_not fit new fault made = record {
        leads = told_not Frames does bytes (frame_bytes frame) rest cursor new a b k fault (frame, message, cut, takes, refl) made;
        phases = refl;
        unfit = λ same. absurd (memory_no_setup same);
        bad = λ unfit. absurd (fit unfit);
      }

      module _ (answer : ProxyReply) (made : MakesCall does a (request.Up (frame_bytes frame)) (Ok answer) b) where
        asked : LeadsOn Frames does (link_at bytes cursor false) a k None (link_at rest cursor true) b k
        asked = told Frames does bytes (frame_bytes frame) rest cursor a b k answer (frame, message, cut, takes, refl) made

        -- it was asked for, and followed by a poll
        pub up_told : (over : Option SessionEnd) (cursor' : ℕ) (c : A) (l : SinkSeen) → PollsOwed Frames does rest cursor b k over cursor' c l → (over ≡ Some end.BadSetup → ⊥)
            → (next_phase phase message ≡ Unfit → ⊥) → LeadsUp does (up_at bytes cursor false phase) a k over (up_at rest cursor' false (next_phase phase message)) c l
        unfolding leads_on told asked
        up_told over cursor' c l polls no_setup fit = record {
          leads = leads_on Frames does over (link_at bytes cursor false) (link_at rest cursor true) (link_at rest cursor' false) a b c k k l asked polls.0;
          phases = (message, record { frame = frame; bytes = refl; message_is = takes.message_is }, (λ unfit. absurd (fit unfit)), phases_none (next_phase phase message) polls.0.deeds polls.1);
          unfit = λ same. absurd (no_setup same);
          bad = λ unfit. absurd (fit unfit);
        }

        -- it was, and no proxy can go on with it
        pub up_told_refused : (new : LinkState) → next_phase phase message ≡ Unfit
            → LeadsUp does (up_at bytes cursor false phase) a k (Some end.BadSetup) (record { link = new; phase = next_phase phase message }) b k
        unfolding told asked
        up_told_refused new unfit =
            up_refused (up_at bytes cursor false phase) (link_at rest cursor true) new (next_phase phase message) a b k k asked refl
            (message, record { frame = frame; bytes = refl; message_is = takes.message_is }, (λ same. refl), refl) unfit

  -- what is over doesn't say how the link is left
  pub up_any : {reason : SessionEnd} {s : UpState} (new other : LinkState) (phase : UpPhase) {a b : A} {k l : SinkSeen} → LeadsUp does s a k (Some reason) (record { link = new; phase = phase }) b l
      → LeadsUp does s a k (Some reason) (record { link = other; phase = phase }) b l
  unfolding leads_any
  up_any new other phase leads = record {
    leads = leads_any Frames does new other leads.leads;
    phases = leads.phases;
    unfit = leads.unfit;
    bad = leads.bad;
  }

  -- of the same bytes
  pub up_from : {over : Option SessionEnd} {u v : List ℕ} {new : UpState} {a b : A} {k l : SinkSeen} (cursor : ℕ) (phase : UpPhase) → u ≡ v
      → LeadsUp does (up_at u cursor false phase) a k over new b l → LeadsUp does (up_at v cursor false phase) a k over new b l
  up_from {over = over} {new = new} {a = a} {b = b} {k = k} {l = l} cursor phase same leads =
      subst (λ (u : List ℕ). LeadsUp does (up_at u cursor false phase) a k over new b l) same leads

-- ---- what a splitter holds

-- a header over the limit
pub over_begins : (len : ℕ) (holding : Holding) (rest : List ℕ) → holding.limit ≡ most_payload → HoldsOver len holding → BeginsOver most_payload len (holding.held ++ rest)
over_begins len holding rest limit over = record {
  ext = over.ext;
  kind = over.kind;
  more = rest;
  header = ap (λ (l : List ℕ). l ++ rest) over.header;
  ext_fits = over.ext_fits;
  kind_fits = over.kind_fits;
  length_fits = over.length_fits;
  over = subst (λ (n : ℕ). n < len) limit over.over;
}
