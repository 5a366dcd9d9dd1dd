-- BadSetup comes exactly where the messages of the frames that were asked for are such.
use Rattle.std.proofs.Common.{◌≡◌, ℕ, ◌==◌, Bool, true, false, Option, None, Some, List, [], ◌∷◌, ◌++◌, refl, ap, sym, subst, ◌∙◌, append_assoc, append-nil, inl, inr}
use Rattle.std.proofs.lemmas.Bool.{cases_Bool}
use Rattle.std.specs.declared.alloc.AllocError.{AllocError}
use Rattle.std.specs.List.{AllByRecursion}
use Rattle.pool_base.specs.Calls.{Faulted, Outcome, Replied}
use Rattle.pool_io.specs.Seen.{SinkSeen}
use Rattle.pool_io.specs.declared.turn.Turn.{Turn}
use Rattle.pool_io.specs.declared.turn.Turn.TheVariants as turn
use Rattle.pool_network.specs.Seen.{LinkSeen}
use Rattle.link_hearing.specs.Hearing.{HearsAll, HearsEach, HearsOne, Hearing}
use Rattle.link_turns.specs.declared.waiting.Limit.{Limit}
use Rattle.link_turns.specs.declared.waiting.Limit.TheVariants as limit
use Rattle.v2_sessions.specs.Standing.{end_at_limit}
use Rattle.session_steps.specs.declared.ends.SessionEnd.{SessionEnd}
use Rattle.session_steps.specs.declared.ends.SessionEnd.TheVariants as end
use Rattle.session_steps.specs.States.{input_end}
use Rattle.sv2_messages.specs.declared.kinds.TheConstants as kinds
use Rattle.sv2_messages.specs.Messages.{Message}
use Rattle.sv2_frames.specs.Framing.{frame_of}
use Rattle.proxy_rules.specs.declared.requests.ProxyReply.{ProxyReply}
use Rattle.proxy_rules.specs.declared.requests.ProxyRequest.{ProxyRequest}
use Rattle.proxy_rules.specs.declared.requests.ProxyRequest.TheVariants as request
use Rattle.proxy_rules.specs.Frames.{number_in, value_at}
use Rattle.proxy_server.specs.declared.phase.UpPhase.{UpPhase}
use Rattle.proxy_server.specs.declared.phase.UpPhase.TheVariants.{Unset, Unopened, Opened, Unfit}
use Rattle.proxy_server.specs.Calls.{ProxyCall}
use Rattle.proxy_server.specs.Frames.{is_fit_size, is_set_up, next_phase}
use Rattle.proxy_server.specs.Links.{Deed, EndsSo, Frames, IsPutEnd, Leads, LeadsOn, LinkState, Passed, Polled, Stop, StopsBy, Told, Overran, Broke, Refused, Lacked, Untold, Unpolled, Unput, calls_at, calls_in, link_at}
use Rattle.proxy_server.specs.Serving.{LeavesAtEnd, end_unleft}
use Rattle.proxy_server.specs.Upstreams.{HearsUpstream, LeadsUp, PhasesThrough, ServesUpstream, UpStand}
use Rattle.proxy_server.specs.Visits.{Notes}
use Rattle.pool_promises.specs.Setups.{AreFramesOf, BadSetupsAreExact, EndsByItsMessages, frame_told, frames_told, is_bad_upstream, is_badly_opened}
use Rattle.pool_promises.proofs.ProxyLists.{all_join}
use Rattle.pool_promises.proofs.Traces.{noted_behind}

-- ---- phases

abbrev phases_after : UpPhase → List Message → UpPhase
phases_after phase [] = phase
phases_after phase (message ∷ messages) = phases_after (next_phase phase message) messages

phases-append : (phase : UpPhase) (messages more : List Message) → phases_after phase (messages ++ more) ≡ phases_after (phases_after phase messages) more
phases-append phase [] more = refl
phases-append phase (message ∷ messages) more = phases-append (next_phase phase message) messages more

abbrev is_unfit : UpPhase → Bool
is_unfit Unset = false
is_unfit Unopened = false
is_unfit Opened = false
is_unfit Unfit = true

unfit_is : (phase : UpPhase) → is_unfit phase ≡ true → phase ≡ Unfit
unfit_is Unset is = absurd (cc)
unfit_is Unopened is = absurd (cc)
unfit_is Opened is = absurd (cc)
unfit_is Unfit is = refl

stays_opened : (messages : List Message) → phases_after Opened messages ≡ Opened
stays_opened [] = refl
stays_opened (message ∷ messages) = stays_opened messages

stays_unfit : (messages : List Message) → phases_after Unfit messages ≡ Unfit
stays_unfit [] = refl
stays_unfit (message ∷ messages) = stays_unfit messages

badly_opened : (messages : List Message) → is_unfit (phases_after Unopened messages) ≡ is_badly_opened messages
badly_opened [] = refl
badly_opened (message ∷ messages) = elim (cases_Bool (message.kind == kinds.OPEN_MINING_CHANNEL_ERROR)) [
  | inl refused ↦ rw refused (ap is_unfit (stays_unfit messages))
  | inr other ↦ rw other (elim (cases_Bool (message.kind == kinds.OPEN_EXTENDED_MINING_CHANNEL_SUCCESS)) [
    | inl opens ↦ rw opens (elim (cases_Bool (is_fit_size (number_in (value_at 3 message.fields)))) [
      | inl fits ↦ rw fits (ap is_unfit (stays_opened messages))
      | inr not_fit ↦ rw not_fit (ap is_unfit (stays_unfit messages))
    ])
    | inr neither ↦ rw neither (badly_opened messages)
  ])
]

bad_upstream : (messages : List Message) → is_unfit (phases_after Unset messages) ≡ is_bad_upstream messages
bad_upstream [] = refl
bad_upstream (message ∷ messages) = elim (cases_Bool (is_set_up message)) [
  | inl is ↦ rw is (badly_opened messages)
  | inr other ↦ rw other (ap is_unfit (stays_unfit messages))
]

-- ---- frames

abbrev Calls : Type 0
Calls = List ProxyCall

told-append : (calls more : Calls) → frames_told (calls ++ more) ≡ frames_told calls ++ frames_told more
told-append [] more = refl
told-append (call ∷ calls) more =
    ap (λ frames. frame_told call.asked call.outcome ++ frames) (told-append calls more)
    ∙ sym (append_assoc (frame_told call.asked call.outcome) (frames_told calls) (frames_told more))

frames-append : (frames others : List (List ℕ)) (messages more : List Message) → AreFramesOf frames messages → AreFramesOf others more
    → AreFramesOf (frames ++ others) (messages ++ more)
frames-append [] others [] more are also = also
frames-append [] others (message ∷ messages) more are also = absurd are
frames-append (frame ∷ frames) others [] more are also = absurd are
frames-append (frame ∷ frames) others (message ∷ messages) more are also = (are.0, frames-append frames others messages more are.1 also)

-- what a call told
call_told : (asked : ProxyRequest) (outcome : Outcome ProxyReply AllocError) (call : ProxyCall) → call.asked ≡ asked → call.outcome ≡ outcome
    → frame_told call.asked call.outcome ≡ frame_told asked outcome
call_told asked outcome call is came = ap (λ request. frame_told request call.outcome) is ∙ ap (λ o. frame_told asked o) came

-- ---- what is asked for the upstream: nothing that has a worker's number

abbrev pub asks_up : ProxyRequest → Bool
asks_up (request.Up bytes) = true
asks_up request.UpEnd = true
asks_up (request.Poll from) = true
asks_up _ = false

abbrev AllAskUp : Calls → Type 0
AllAskUp calls = AllByRecursion (λ (call : ProxyCall). asks_up call.asked ≡ true) calls

all_ask : (calls more : Calls) → AllAskUp calls → AllAskUp more → AllAskUp (calls ++ more)
all_ask calls more one other = all_join (λ (call : ProxyCall). asks_up call.asked ≡ true) calls more one other

deeds_ask : (deeds : List Deed) (s t : LinkState) → Leads Frames s deeds t → AllAskUp (calls_in deeds)
deeds_ask [] s t leads = tt
deeds_ask (Told item call ∷ deeds) s t leads = (ap asks_up leads.1.3.1.0, deeds_ask deeds leads.0 t leads.2)
deeds_ask (Passed item ∷ deeds) s t leads = deeds_ask deeds leads.0 t leads.2
deeds_ask (Polled bytes call ∷ deeds) s t leads = (ap asks_up leads.1.1.0, deeds_ask deeds leads.0 t leads.2)

stop_asks : (last : LinkState) (stop : Stop) (reason : SessionEnd) → StopsBy Frames last stop reason → AllAskUp (calls_at (Some stop))
stop_asks last Overran reason stops = tt
stop_asks last Broke reason stops = tt
stop_asks last Refused reason stops = tt
stop_asks last Lacked reason stops = tt
stop_asks last (Untold item call) reason stops = (ap asks_up stops.3.1, tt)
stop_asks last (Unpolled call) reason stops = (ap asks_up stops.1.1, tt)
stop_asks last (Unput front call) reason stops = (ap asks_up stops.2.0, tt)

ends_ask : (last new : LinkState) (stop : Option Stop) (over : Option SessionEnd) → EndsSo Frames last stop over new → AllAskUp (calls_at stop)
ends_ask last new None over ends = tt
ends_ask last new (Some stop) None ends = absurd ends
ends_ask last new (Some stop) (Some reason) ends = stop_asks last stop reason ends

leads_ask : (old new : LinkState) (a b : Calls) (k l : SinkSeen) (over : Option SessionEnd) → (leads : LeadsOn Frames Notes old a k over new b l)
    → AllAskUp (calls_in leads.deeds ++ calls_at leads.stop)
leads_ask old new a b k l over leads =
    all_ask (calls_in leads.deeds) (calls_at leads.stop) (deeds_ask leads.deeds old leads.last leads.leads) (ends_ask leads.last new leads.stop over leads.ends)

-- ---- the messages of deeds

record Tells (phase : UpPhase) (calls : Calls) (new : UpPhase) : Type 0 where
  messages : List Message
  frames : AreFramesOf (frames_told calls) messages
  phase_is : new ≡ phases_after phase messages

none_told : (phase new : UpPhase) (calls : Calls) → frames_told calls ≡ [] → new ≡ phase → Tells phase calls new
none_told phase new calls none same =
    record { messages = []; frames = subst (λ frames. AreFramesOf frames []) (sym none) tt; phase_is = same }

both_tell : (one two three : UpPhase) (calls more : Calls) → Tells one calls two → Tells two more three → Tells one (calls ++ more) three
both_tell one two three calls more first rest =
    record {
      messages = first.messages ++ rest.messages;
      frames = subst (λ frames. AreFramesOf frames (first.messages ++ rest.messages)) (sym (told-append calls more))
          (frames-append (frames_told calls) (frames_told more) first.messages rest.messages first.frames rest.frames);
      phase_is =
          rest.phase_is ∙ ap (λ phase. phases_after phase rest.messages) first.phase_is ∙ sym (phases-append one first.messages rest.messages);
    }

deeds_tell : (deeds : List Deed) (s t : LinkState) (old new : UpPhase) → Leads Frames s deeds t → PhasesThrough old deeds new → Tells old (calls_in deeds) new
deeds_tell [] s t old new leads phases = none_told old new [] refl phases
deeds_tell (Told item call ∷ deeds) s t old new leads phases =
    let replies = leads.1.3 in
    let told : frame_told call.asked call.outcome ≡ item ∷ [] = call_told (request.Up item) (Replied replies.0) call replies.1.0 replies.1.1 in
    let rest = deeds_tell deeds leads.0 t (next_phase old phases.0) new leads.2 phases.3 in
    record {
      messages = phases.0 ∷ rest.messages;
      frames = subst (λ (first : List (List ℕ)). AreFramesOf (first ++ frames_told (calls_in deeds)) (phases.0 ∷ rest.messages)) (sym told) (phases.1, rest.frames);
      phase_is = rest.phase_is;
    }
deeds_tell (Passed item ∷ deeds) s t old new leads phases = deeds_tell deeds leads.0 t old new leads.2 phases
deeds_tell (Polled bytes call ∷ deeds) s t old new leads phases =
    let replies = leads.1.1 in
    let told : frame_told call.asked call.outcome ≡ [] = call_told (request.Poll s.cursor) (Replied _) call replies.0 replies.1 in
    let rest = deeds_tell deeds leads.0 t old new leads.2 phases in
    record {
      messages = rest.messages;
      frames = subst (λ (first : List (List ℕ)). AreFramesOf (first ++ frames_told (calls_in deeds)) rest.messages) (sym told) rest.frames;
      phase_is = rest.phase_is;
    }

-- nothing comes out of no bytes
no_frame : (ext kind : ℕ) (payload rest : List ℕ) → [] ≡ frame_of ext kind payload ++ rest → ⊥
no_frame ext kind payload rest is = let never : [] ≡ frame_of ext kind payload ++ rest = is in absurd (cc)

empty_told : (deeds : List Deed) (s t : LinkState) → s.unmet ≡ [] → Leads Frames s deeds t → frames_told (calls_in deeds) ≡ []
empty_told [] s t empty leads = refl
empty_told (Told item call ∷ deeds) s t empty leads =
    let cut = leads.1.2 in
    absurd (no_frame cut.0.ext cut.0.kind cut.0.payload leads.1.0 (sym empty ∙ cut.2.whole))
empty_told (Passed item ∷ deeds) s t empty leads =
    let cut = leads.1.2 in
    absurd (no_frame cut.0.ext cut.0.kind cut.0.payload leads.1.0 (sym empty ∙ cut.1.whole))
empty_told (Polled bytes call ∷ deeds) s t empty leads =
    let replies = leads.1.1 in
    let told : frame_told call.asked call.outcome ≡ [] = call_told (request.Poll s.cursor) (Replied _) call replies.0 replies.1 in
    ap (λ first. first ++ frames_told (calls_in deeds)) told
    ∙ empty_told deeds leads.0 t (ap (λ (l : LinkState). l.unmet) leads.1.2 ∙ empty) leads.2

-- a stop tells nothing
stop_told : (last : LinkState) (stop : Stop) (reason : SessionEnd) → StopsBy Frames last stop reason → frames_told (calls_at (Some stop)) ≡ []
stop_told last Overran reason stops = refl
stop_told last Broke reason stops = refl
stop_told last Refused reason stops = refl
stop_told last Lacked reason stops = refl
stop_told last (Untold item call) reason stops =
    let fails = stops.3 in
    ap (λ first. first ++ []) (call_told (request.Up item) (Faulted fails.0) call fails.1 fails.2)
stop_told last (Unpolled call) reason stops =
    let fails = stops.1 in
    ap (λ first. first ++ []) (call_told (request.Poll last.cursor) (Faulted fails.0) call fails.1 fails.2)
stop_told last (Unput front call) reason stops =
    let replies = stops.2 in
    ap (λ first. first ++ []) (call_told (request.Poll last.cursor) (Replied _) call replies.0 replies.1)

ends_told : (last new : LinkState) (stop : Option Stop) (over : Option SessionEnd) → EndsSo Frames last stop over new → frames_told (calls_at stop) ≡ []
ends_told last new None over ends = refl
ends_told last new (Some stop) None ends = absurd ends
ends_told last new (Some stop) (Some reason) ends = stop_told last stop reason ends

-- ---- from a stand to another

-- what was told since, and whether it is over by an upstream that no proxy can go on with
record Goes (old : UpPhase) (noted : Calls) (over : Option SessionEnd) (new : UpPhase) (noted' : Calls) : Type 0 where
  calls : Calls
  noted_is : noted' ≡ noted ++ calls
  asks : AllAskUp calls
  tells : Tells old calls new
  unfit : over ≡ Some end.BadSetup → new ≡ Unfit
  bad : new ≡ Unfit → over ≡ Some end.BadSetup

leads_go : (old new : _) (a b : Calls) (k l : SinkSeen) (over : Option SessionEnd) → LeadsUp Notes old a k over new b l → Goes old.phase a over new.phase b
leads_go old new a b k l over up =
    let leads = up.leads in
    record {
      calls = calls_in leads.deeds ++ calls_at leads.stop;
      noted_is = noted_behind a b (calls_in leads.deeds ++ calls_at leads.stop) leads.acts;
      asks = leads_ask old.link new.link a b k l over leads;
      tells = both_tell old.phase new.phase new.phase (calls_in leads.deeds) (calls_at leads.stop)
          (deeds_tell leads.deeds old.link leads.last old.phase new.phase leads.leads up.phases)
          (none_told new.phase new.phase (calls_at leads.stop) (ends_told leads.last new.link leads.stop over leads.ends) refl);
      unfit = up.unfit;
      bad = up.bad;
    }

at_end : (held : List ℕ) → input_end held ≡ end.BadSetup → ⊥
at_end [] is = absurd (cc)
at_end (byte ∷ bytes) is = absurd (cc)

turn_goes : (old new : UpStand Calls) (k l : SinkSeen) (told : Turn) (over : Option SessionEnd) → (old.phase ≡ Unfit → ⊥)
    → HearsUpstream Notes old k told over new l → Goes old.phase old.asking over new.phase new.asking
turn_goes old new k l (turn.Piece bytes) over fit hears = leads_go _ _ old.asking new.asking k l over hears.0
turn_goes old new k l turn.Idle over fit hears = leads_go _ _ old.asking new.asking k l over hears
turn_goes old new k l turn.End over fit hears =
    record {
      calls = [];
      noted_is = ap (λ (s : UpStand Calls). s.asking) hears.1 ∙ sym (append-nil old.asking);
      asks = tt;
      tells = none_told old.phase new.phase [] refl (ap (λ (s : UpStand Calls). s.phase) hears.1);
      unfit = λ over_is. let same : Some (input_end old.held) ≡ Some end.BadSetup = sym hears.0 ∙ over_is in
          let ended : input_end old.held ≡ end.BadSetup = cc in
          absurd (at_end old.held ended);
      bad = λ is. absurd (fit (sym (ap (λ (s : UpStand Calls). s.phase) hears.1) ∙ is));
    }

-- it went on so far, and goes on to its end
both_go : (one two three : UpPhase) (a b c : Calls) (over : Option SessionEnd) → Goes one a None two b → Goes two b over three c → Goes one a over three c
both_go one two three a b c over first rest =
    record {
      calls = first.calls ++ rest.calls;
      noted_is = rest.noted_is ∙ ap (λ (l : Calls). l ++ rest.calls) first.noted_is ∙ append_assoc a first.calls rest.calls;
      asks = all_ask first.calls rest.calls first.asks rest.asks;
      tells = both_tell one two three first.calls rest.calls first.tells rest.tells;
      unfit = rest.unfit;
      bad = rest.bad;
    }

still_fit : (one two : UpPhase) (a b : Calls) → Goes one a None two b → two ≡ Unfit → ⊥
still_fit one two a b goes is = let never : None ≡ Some end.BadSetup = goes.bad is in cc

one_goes : (old new : Hearing (UpStand Calls)) (told : Turn) (over : Option SessionEnd) → (old.hearer.phase ≡ Unfit → ⊥)
    → HearsOne (HearsUpstream Notes) old told over new → Goes old.hearer.phase old.hearer.asking over new.hearer.phase new.hearer.asking
one_goes old new told over fit one = turn_goes old.hearer new.hearer one.middle.sink new.link.sink told over fit one.heard

over_none : (phase : UpPhase) (noted : Calls) → (phase ≡ Unfit → ⊥) → Goes phase noted None phase noted
over_none phase noted fit =
    record {
      calls = [];
      noted_is = sym (append-nil noted);
      asks = tt;
      tells = none_told phase phase [] refl refl;
      unfit = λ is. let never : None ≡ Some end.BadSetup = is in absurd (cc);
      bad = λ is. absurd (fit is);
    }

-- it is over by something else
over_other : (phase new : UpPhase) (a b : Calls) (reason : SessionEnd) → (reason ≡ end.BadSetup → ⊥) → Goes phase a None new b → Goes phase a (Some reason) new b
over_other phase new a b reason other goes =
    record {
      calls = goes.calls;
      noted_is = goes.noted_is;
      asks = goes.asks;
      tells = goes.tells;
      unfit = λ is. let same : reason ≡ end.BadSetup = cc in absurd (other same);
      bad = λ is. absurd (still_fit phase new a b goes is);
    }

each_goes : (old new : Hearing (UpStand Calls)) (turns : List Turn) → (old.hearer.phase ≡ Unfit → ⊥) → HearsEach (HearsUpstream Notes) old turns new
    → Goes old.hearer.phase old.hearer.asking None new.hearer.phase new.hearer.asking
each_goes old new [] fit on = subst (λ (h : Hearing (UpStand Calls)). Goes old.hearer.phase old.hearer.asking None h.hearer.phase h.hearer.asking) (sym on)
    (over_none old.hearer.phase old.hearer.asking fit)
each_goes old new (told ∷ turns) fit on =
    let first = one_goes old on.0 told None fit on.1 in
    both_go old.hearer.phase on.0.hearer.phase new.hearer.phase old.hearer.asking on.0.hearer.asking new.hearer.asking None first
    (each_goes on.0 new turns (still_fit old.hearer.phase on.0.hearer.phase old.hearer.asking on.0.hearer.asking first) on.3)

limit_other : (reached : Limit) → end_at_limit reached ≡ end.BadSetup → ⊥
limit_other limit.IdleOut is = absurd (cc)
limit_other limit.BytesOut is = absurd (cc)

fault_other : end.ReadFault ≡ end.BadSetup → ⊥
fault_other is = absurd (cc)

all_go : (reason : SessionEnd) (old : Hearing (UpStand Calls)) (left : UpStand Calls) (link : LinkSeen) → (old.hearer.phase ≡ Unfit → ⊥)
    → HearsAll (HearsUpstream Notes) old reason left link → Goes old.hearer.phase old.hearer.asking (Some reason) left.phase left.asking
all_go reason old left link fit all =
    let before = each_goes old all.last all.turns fit all.on in
    let fit_yet = still_fit old.hearer.phase all.last.hearer.phase old.hearer.asking all.last.hearer.asking before in
    elim all.ends [
      | inl by ↦ both_go old.hearer.phase all.last.hearer.phase left.phase old.hearer.asking all.last.hearer.asking left.asking (Some reason) before
          (one_goes all.last _ by.told (Some reason) fit_yet by.heard)
      | inr (inl by) ↦ over_other old.hearer.phase left.phase old.hearer.asking left.asking reason
          (λ is. limit_other by.limit (sym by.reason_is ∙ is))
          (both_go old.hearer.phase all.last.hearer.phase left.phase old.hearer.asking all.last.hearer.asking left.asking None before
          (one_goes all.last _ by.told None fit_yet by.heard))
      | inr (inr by) ↦ over_other old.hearer.phase left.phase old.hearer.asking left.asking reason
          (λ is. fault_other (sym by.reason_is ∙ is))
          (subst (λ (h : UpStand Calls). Goes old.hearer.phase old.hearer.asking None h.phase h.asking) (sym by.hearer) before)
    ]

-- ---- the upstream's link

put_other : (reason : SessionEnd) → IsPutEnd reason → reason ≡ end.BadSetup → ⊥
put_other reason (inl put) is = let never : end.WriteFault ≡ end.BadSetup = sym put ∙ is in absurd (cc)
put_other reason (inr put) is = let never : end.Memory ≡ end.BadSetup = sym put ∙ is in absurd (cc)

-- the first poll, before anything came
polled_goes : (phase : UpPhase) (old new : LinkState) (a b : Calls) (k l : SinkSeen) (over : Option SessionEnd) → (phase ≡ Unfit → ⊥) → old.unmet ≡ []
    → (over ≡ Some end.BadSetup → ⊥) → LeadsOn Frames Notes old a k over new b l → Goes phase a over phase b
polled_goes phase old new a b k l over fit empty other leads =
    record {
      calls = calls_in leads.deeds ++ calls_at leads.stop;
      noted_is = noted_behind a b (calls_in leads.deeds ++ calls_at leads.stop) leads.acts;
      asks = leads_ask old new a b k l over leads;
      tells = none_told phase phase (calls_in leads.deeds ++ calls_at leads.stop)
          (told-append (calls_in leads.deeds) (calls_at leads.stop)
          ∙ ap (λ first. first ++ frames_told (calls_at leads.stop)) (empty_told leads.deeds old leads.last empty leads.leads)
          ∙ ends_told leads.last new leads.stop over leads.ends)
          refl;
      unfit = λ is. absurd (other is);
      bad = λ is. absurd (fit is);
    }

unset_fit : Unset ≡ Unfit → ⊥
unset_fit is = absurd (cc)

never_over : None ≡ Some end.BadSetup → ⊥
never_over is = absurd (cc)

heard_goes : (idle_turns : ℕ) (before : LinkSeen) (ended : SessionEnd) (phase : UpPhase) (calls : Calls) (after : LinkSeen)
    → (served : ServesUpstream Notes idle_turns [] before ended phase calls after) → Goes Unset [] (Some served.reason) phase served.heard
heard_goes idle_turns before ended phase calls after served = elim served.hears [
  | inl hears ↦
      let first : Goes Unset [] None Unset hears.stand.asking =
      polled_goes Unset (link_at [] 0 true) (link_at [] hears.stand.cursor false) [] hears.stand.asking before.sink hears.middle.sink None unset_fit refl never_over hears.polled in
      let fit : hears.stand.phase ≡ Unfit → ⊥ = λ is. unset_fit (sym hears.unset ∙ is) in
      let turns : Goes hears.stand.phase hears.stand.asking (Some served.reason) hears.left.phase hears.left.asking =
      all_go served.reason _ hears.left after fit hears.turns in
      let turns' : Goes Unset hears.stand.asking (Some served.reason) phase served.heard =
      subst (λ (p : UpPhase). Goes p hears.stand.asking (Some served.reason) phase served.heard) hears.unset
      (subst (λ (p : UpPhase). Goes hears.stand.phase hears.stand.asking (Some served.reason) p served.heard) hears.phase_is
      (subst (λ (c : Calls). Goes hears.stand.phase hears.stand.asking (Some served.reason) hears.left.phase c) hears.asking turns)) in
      both_go Unset Unset phase [] hears.stand.asking served.heard (Some served.reason) first turns'
  | inr (inl hears) ↦
      subst (λ (p : UpPhase). Goes Unset [] (Some served.reason) p served.heard) (sym hears.unset)
      (polled_goes Unset (link_at [] 0 true) (link_at [] hears.cursor false) [] served.heard before.sink after.sink (Some served.reason) unset_fit refl
      (λ is. let same : served.reason ≡ end.BadSetup = cc in put_other served.reason hears.put_end same) hears.polled)
  | inr (inr unable) ↦
      subst (λ (p : UpPhase). Goes Unset [] (Some served.reason) p served.heard) (sym unable.unset)
      (subst (λ (c : Calls). Goes Unset [] (Some served.reason) Unset c) (sym unable.asking)
      (over_other Unset Unset [] [] served.reason (λ is. put_other served.reason (inr unable.memory) is) (over_none Unset [] unset_fit)))
]

unleft_bad : (reason : SessionEnd) → end_unleft reason ≡ end.BadSetup → reason ≡ end.BadSetup
unleft_bad end.Done is = let never : end.Memory ≡ end.BadSetup = is in absurd (cc)
unleft_bad reason is = is

-- the last call tells nothing
left_told : (calls heard : Calls) (reason ended : SessionEnd) → (leaves : LeavesAtEnd Notes request.UpEnd heard reason ended calls)
    → frame_told leaves.call.asked leaves.call.outcome ≡ []
left_told calls heard reason ended leaves = elim leaves.ends [
  | inl replies ↦ call_told request.UpEnd (Replied replies.0.0) leaves.call replies.0.1.0 replies.0.1.1
  | inr fails ↦ call_told request.UpEnd (Faulted fails.0.0) leaves.call fails.0.1 fails.0.2
]

left_bad : (calls heard : Calls) (reason ended : SessionEnd) → LeavesAtEnd Notes request.UpEnd heard reason ended calls → ended ≡ end.BadSetup → reason ≡ end.BadSetup
left_bad calls heard reason ended leaves is = elim leaves.ends [
  | inl replies ↦ sym replies.1 ∙ is
  | inr fails ↦ unleft_bad reason (sym fails.1 ∙ is)
]

stays_bad : (calls heard : Calls) (reason ended : SessionEnd) → LeavesAtEnd Notes request.UpEnd heard reason ended calls → reason ≡ end.BadSetup → ended ≡ end.BadSetup
stays_bad calls heard reason ended leaves is = elim leaves.ends [
  | inl replies ↦ replies.1 ∙ is
  | inr fails ↦ fails.1 ∙ ap end_unleft is
]

left_asks : (calls heard : Calls) (reason ended : SessionEnd) → (leaves : LeavesAtEnd Notes request.UpEnd heard reason ended calls)
    → asks_up leaves.call.asked ≡ true
left_asks calls heard reason ended leaves = elim leaves.ends [
  | inl replies ↦ ap asks_up replies.0.1.0
  | inr fails ↦ ap asks_up fails.0.1
]

some_reason : (reason other : SessionEnd) → Some reason ≡ Some other → reason ≡ other
some_reason reason other is = cc

left_calls : (idle_turns : ℕ) (before : LinkSeen) (ended : SessionEnd) (phase : UpPhase) (calls : Calls) (after : LinkSeen)
    → (served : ServesUpstream Notes idle_turns [] before ended phase calls after)
    → calls ≡ (heard_goes idle_turns before ended phase calls after served).calls ++ served.leaves.call ∷ []
left_calls idle_turns before ended phase calls after served =
    served.leaves.done ∙ ap (λ (l : Calls). l ++ served.leaves.call ∷ []) (heard_goes idle_turns before ended phase calls after served).noted_is

pub up_asks : (idle_turns : ℕ) (before : LinkSeen) (ended : SessionEnd) (phase : UpPhase) (calls : Calls) (after : LinkSeen)
    → ServesUpstream Notes idle_turns [] before ended phase calls after → AllAskUp calls
up_asks idle_turns before ended phase calls after served =
    let goes = heard_goes idle_turns before ended phase calls after served in
    subst AllAskUp (sym (left_calls idle_turns before ended phase calls after served))
    (all_ask goes.calls (served.leaves.call ∷ []) goes.asks (left_asks calls served.heard served.reason ended served.leaves, tt))

served_ends : (idle_turns : ℕ) (before : LinkSeen) (ended : SessionEnd) (phase : UpPhase) (calls : Calls) (after : LinkSeen)
    → ServesUpstream Notes idle_turns [] before ended phase calls after → EndsByItsMessages calls ended
served_ends idle_turns before ended phase calls after served =
    let goes = heard_goes idle_turns before ended phase calls after served in
    let left : calls ≡ goes.calls ++ served.leaves.call ∷ [] = left_calls idle_turns before ended phase calls after served in
    let told : frames_told calls ≡ frames_told goes.calls =
    ap frames_told left ∙ told-append goes.calls (served.leaves.call ∷ [])
    ∙ ap (λ frames. frames_told goes.calls ++ (frames ++ [])) (left_told calls served.heard served.reason ended served.leaves)
    ∙ append-nil (frames_told goes.calls) in
    let unfit : is_unfit phase ≡ is_bad_upstream goes.tells.messages = ap is_unfit goes.tells.phase_is ∙ bad_upstream goes.tells.messages in
    record {
      messages = goes.tells.messages;
      frames = subst (λ frames. AreFramesOf frames goes.tells.messages) (sym told) goes.tells.frames;
      bad = (
        (λ is. sym unfit ∙ ap is_unfit (goes.unfit (ap Some (left_bad calls served.heard served.reason ended served.leaves is)))),
        (λ is. stays_bad calls served.heard served.reason ended served.leaves
            (some_reason served.reason end.BadSetup (goes.bad (unfit_is phase (unfit ∙ is))))),
      );
    }

pub setups_exact : BadSetupsAreExact
setups_exact service old new reason door_faults door_memory ran = served_ends service.idle_turns old.up reason ran.phase ran.up_calls new.up ran.served
