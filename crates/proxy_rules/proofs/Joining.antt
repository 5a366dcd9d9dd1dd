-- Those who wait are joined, and each is answered in its own output.
use Rattle.std.proofs.Common.{◌≡◌, ℕ, ◌==◌, Bool, true, false, not, if◌then◌else◌, Option, None, Some, Result, Ok, Err, List, [], ◌∷◌, ◌++◌, map, inl, inr, refl, sym, ap, ◌∙◌, append_assoc}
use Rattle.std.specs.List.{filter}
use Rattle.std.specs.Prelude.{is_some, nat_le}
use Rattle.std.proofs.lemmas.Bool.{cases_Bool, eq-eqb, eqb-true}
use Rattle.std.proofs.lemmas.List.{append-nil}
use Rattle.serde_json.specs.Data.{Data}
use Rattle.v1_translate.specs.Heard.{Told, Opened, NotOpened, Target, Accepted, Refused, Future, Live, Tipped, Nothing}
use Rattle.v1_translate.specs.State.{SentShare, Saying, Answer, CodeRefusal, Asking, Silence, Open, Update, Share, Name}
use Rattle.v1_translate.specs.Lines.{yes}
use Rattle.v1_translate.specs.Saying.{line_of}
use Rattle.proxy_rules.specs.declared.events.ProxyEvent.{ProxyEvent}
use Rattle.proxy_rules.specs.declared.events.ProxyEvent.TheVariants as event
use Rattle.proxy_rules.specs.declared.refusals.ProxyRefusal.{ProxyRefusal}
use Rattle.proxy_rules.specs.declared.refusals.ProxyRefusal.TheVariants.{UpstreamLost}
use Rattle.proxy_rules.specs.Frames.{UpTold, SetUp, Tells, told_up}
use Rattle.proxy_rules.specs.Jobs.{jobs_told}
use Rattle.proxy_rules.specs.Laws.{AnswersItsOwn, AreJoined, answer_to, lines_for, output_at}
use Rattle.proxy_rules.specs.Miners.{at_caller, is_joined, left, miner_of, new_miner, output_in, rejoined, relayed_to, session_of, told_to, with_line, with_new}
use Rattle.proxy_rules.specs.Refusals.{code_of}
use Rattle.proxy_rules.specs.State.{Miner, Relay, Seat, SentOn, Session, terms_of}
use Rattle.proxy_rules.specs.Steps.{Offer, after, after_line, answer_those, asked, changed, handed_over, heard, heard_up, line_said, named, offer, said_each, seated, seat_of, seated_session, share_id, shared_by, started, step, subscribed}
use Rattle.proxy_rules.proofs.Rows.{SameRow, SameRows, at_rows, handed_row, joined_same, line_row, map_rows, named_row, relayed_row, row_after, said_row, said_rows, told_all_row, told_row}

-- ---- those who wait

joined_rows : (waiting : List SentOn) (xs ys : List Miner) → SameRows xs ys → AreJoined waiting xs → AreJoined waiting ys
joined_rows [] xs ys rows are = tt
joined_rows (sent ∷ waiting) xs ys rows are = (joined_same sent.caller xs ys rows ∙ are.0, joined_rows waiting xs ys rows are.1)

joined_filter : (test : SentOn → Bool) (waiting : List SentOn) (miners : List Miner) → AreJoined waiting miners → AreJoined (filter test waiting) miners
joined_filter test [] miners are = tt
joined_filter test (sent ∷ waiting) miners are = elim (cases_Bool (test sent)) [
  | inl passes ↦ rw passes (are.0, joined_filter test waiting miners are.1)
  | inr fails ↦ rw fails (joined_filter test waiting miners are.1)
]

joined_more : (waiting : List SentOn) (sent : SentOn) (miners : List Miner) → AreJoined waiting miners → is_joined sent.caller miners ≡ true
    → AreJoined (waiting ++ sent ∷ []) miners
joined_more [] sent miners are is = (is, tt)
joined_more (first ∷ waiting) sent miners are is = (are.0, joined_more waiting sent miners are.1 is)

-- ---- who joins and leaves

-- another caller's place is as before
others_joined : (caller other : ℕ) (change : Miner → Miner) (miners : List Miner) → ((miner : Miner) → (change miner).caller ≡ miner.caller)
    → (other == caller) ≡ false → is_joined other (at_caller caller change miners) ≡ is_joined other miners
others_joined caller other change [] keeps apart = refl
others_joined caller other change (miner ∷ miners) keeps apart = elim (cases_Bool (miner.caller == caller)) [
  | inl here ↦
      let not_other : (miner.caller == other) ≡ false = elim (cases_Bool (miner.caller == other)) [
        | inl both ↦
            let same : (other == caller) ≡ true = eq-eqb other caller (sym (eqb-true miner.caller other both) ∙ eqb-true miner.caller caller here) in
            absurd (cc)
        | inr differ ↦ differ
      ] in
      let not_changed : ((change miner).caller == other) ≡ false = ap (λ c. c == other) (keeps miner) ∙ not_other in
      rw (here, not_changed, not_other) refl
  | inr there ↦ rw there (elim (cases_Bool (miner.caller == other)) [
    | inl is ↦ rw is refl
    | inr differ ↦ rw differ (others_joined caller other change miners keeps apart)
  ])
]

not_left : (caller : ℕ) (waiting : List SentOn) (miners : List Miner) → AreJoined waiting miners
    → AreJoined (filter (λ sent. not (sent.caller == caller)) waiting) (at_caller caller left miners)
not_left caller [] miners are = tt
not_left caller (sent ∷ waiting) miners are = elim (cases_Bool (sent.caller == caller)) [
  | inl gone ↦ rw gone (not_left caller waiting miners are.1)
  | inr stays ↦
      rw stays (others_joined caller sent.caller left miners (λ m. refl) stays ∙ are.0, not_left caller waiting miners are.1)
]

joined_behind : (caller other : ℕ) (miners : List Miner) → is_joined other miners ≡ true → is_joined other (miners ++ new_miner caller ∷ []) ≡ true
joined_behind caller other [] is = absurd (cc)
joined_behind caller other (miner ∷ miners) is = elim (cases_Bool (miner.caller == other)) [
  | inl here ↦ let own : is_some miner.session ≡ true = rw here at is in rw here own
  | inr there ↦
      let behind : is_joined other miners ≡ true = rw there at is in
      rw there (joined_behind caller other miners behind)
]

joined_again : (caller other : ℕ) (miners : List Miner) → is_joined other miners ≡ true → is_joined other (at_caller caller rejoined miners) ≡ true
joined_again caller other [] is = is
joined_again caller other (miner ∷ miners) is = elim (cases_Bool (miner.caller == caller)) [
  | inl here ↦ rw here (elim (cases_Bool (miner.caller == other)) [
    | inl own ↦ rw own refl
    | inr there ↦
        let behind : is_joined other miners ≡ true = rw there at is in
        rw there behind
  ])
  | inr away ↦ rw away (elim (cases_Bool (miner.caller == other)) [
    | inl own ↦ let mine : is_some miner.session ≡ true = rw own at is in rw own mine
    | inr there ↦
        let behind : is_joined other miners ≡ true = rw there at is in
        rw there (joined_again caller other miners behind)
  ])
]

still_joined : (caller : ℕ) (miner : Option Miner) (waiting : List SentOn) (miners : List Miner) → AreJoined waiting miners
    → AreJoined waiting (with_new caller miner miners)
still_joined caller miner [] miners are = tt
still_joined caller None (sent ∷ waiting) miners are = (joined_behind caller sent.caller miners are.0, still_joined caller None waiting miners are.1)
still_joined caller (Some miner) (sent ∷ waiting) miners are =
    (joined_again caller sent.caller miners are.0, still_joined caller (Some miner) waiting miners are.1)

-- ---- a subscribe leaves who is joined

pub record SameJoined (old new : Miner) : Type 0 where
  pub caller : new.caller ≡ old.caller
  pub joined : is_some new.session ≡ is_some old.session

seated_joined : (seat : Seat) (miner : Miner) (session : Option Session) → miner.session ≡ session → SameJoined miner (seated_session seat miner session)
seated_joined seat miner None is = record { caller = refl; joined = refl }
seated_joined seat miner (Some session) is = record { caller = refl; joined = sym (ap is_some is) }

row_joined : (a b c : Miner) → SameJoined a b → SameRow b c → SameJoined a c
row_joined a b c one other = record { caller = other.caller ∙ one.caller; joined = other.joined ∙ one.joined }

pub subscribed_joined : (relay : Relay) (given : Result Offer ProxyRefusal) (miner : Miner)
    → SameJoined miner (subscribed (terms_of relay.base) relay.tip relay.jobs given miner)
subscribed_joined relay (Err refusal) miner =
    row_joined miner miner _ (record { caller = refl; joined = refl }) (told_row (terms_of relay.base) (NotOpened (code_of refusal)) miner)
subscribed_joined relay (Ok given) miner =
    row_joined miner (seated (seat_of given) miner) _ (seated_joined (seat_of given) miner miner.session refl)
    (row_after (seated (seat_of given) miner) (told_to (terms_of relay.base) (Opened given.channel) (seated (seat_of given) miner)) _
    (told_row (terms_of relay.base) (Opened given.channel) (seated (seat_of given) miner))
    (told_all_row (terms_of relay.base) (jobs_told relay.tip relay.jobs) (told_to (terms_of relay.base) (Opened given.channel) (seated (seat_of given) miner))))

at_joined : (caller other : ℕ) (change : Miner → Miner) (miners : List Miner) → ((miner : Miner) → SameJoined miner (change miner))
    → is_joined other (at_caller caller change miners) ≡ is_joined other miners
at_joined caller other change [] keeps = refl
at_joined caller other change (miner ∷ miners) keeps = elim (cases_Bool (miner.caller == caller)) [
  | inl here ↦ rw here (elim (cases_Bool (miner.caller == other)) [
    | inl own ↦
        let too : ((change miner).caller == other) ≡ true = ap (λ c. c == other) (keeps miner).caller ∙ own in
        rw (own, too) (keeps miner).joined
    | inr there ↦
        let too : ((change miner).caller == other) ≡ false = ap (λ c. c == other) (keeps miner).caller ∙ there in
        rw (there, too) refl
  ])
  | inr away ↦ rw away (elim (cases_Bool (miner.caller == other)) [
    | inl own ↦ rw own refl
    | inr there ↦ rw there (at_joined caller other change miners keeps)
  ])
]

subscribed_wait : (relay : Relay) (caller : ℕ) (given : Result Offer ProxyRefusal) (waiting : List SentOn) → AreJoined waiting relay.miners
    → AreJoined waiting (at_caller caller (subscribed (terms_of relay.base) relay.tip relay.jobs given) relay.miners)
subscribed_wait relay caller given [] are = tt
subscribed_wait relay caller given (sent ∷ waiting) are = (
  at_joined caller sent.caller (subscribed (terms_of relay.base) relay.tip relay.jobs given) relay.miners (subscribed_joined relay given) ∙ are.0,
  subscribed_wait relay caller given waiting are.1,
)

-- ---- all events

abbrev pub Wait : Relay → Type 0
Wait relay = AreJoined relay.waiting relay.miners

-- who sent a share is joined
sender : (sequence : ℕ) (session : Option Session) (id : Data) → share_id sequence session ≡ Some id → is_some session ≡ true
sender sequence None id is = absurd (cc)
sender sequence (Some session) id is = refl

shared_wait : (relay : Relay) (caller : ℕ) (sent : Result SentShare ProxyRefusal) (id : Option Data) → ((found : Data) → id ≡ Some found → is_joined caller relay.miners ≡ true)
    → Wait relay → Wait (shared_by relay caller sent id)
shared_wait relay caller sent None there wait = wait
shared_wait relay caller (Err refusal) (Some id) there wait =
    joined_rows relay.waiting relay.miners _ (at_rows caller (with_line (CodeRefusal id (code_of refusal))) relay.miners (line_row (CodeRefusal id (code_of refusal)))) wait
shared_wait relay caller (Ok share) (Some id) there wait =
    joined_more relay.waiting (record { number = relay.sent; caller = caller; id = id }) relay.miners wait (there id refl)

asked_wait : (relay : Relay) (caller : ℕ) (asking : Asking) → Wait relay → Wait (asked relay caller asking)
asked_wait relay caller Silence wait = wait
asked_wait relay caller (Update channel class) wait = wait
asked_wait relay caller (Open class) wait = subscribed_wait relay caller (offer relay) relay.waiting wait
asked_wait relay caller (Name account) wait = joined_rows relay.waiting relay.miners _ (at_rows caller (named account) relay.miners (named_row account)) wait
asked_wait relay caller (Share share) wait =
    let rows = at_rows caller (handed_over share.sequence) relay.miners (handed_row share.sequence) in
    shared_wait (changed relay caller (handed_over share.sequence)) caller _ (share_id share.sequence (session_of caller relay.miners))
    (λ id is. joined_same caller relay.miners _ rows ∙ sender share.sequence (session_of caller relay.miners) id is)
    (joined_rows relay.waiting relay.miners _ rows wait)

answered_wait : (test : SentOn → Bool) (said : Data → Saying) (relay : Relay) → Wait relay → Wait (answer_those test said relay)
answered_wait test said relay wait =
    joined_rows (filter (λ sent. not (test sent)) relay.waiting) relay.miners (said_each said (filter test relay.waiting) relay.miners)
    (said_rows said (filter test relay.waiting) relay.miners) (joined_filter (λ sent. not (test sent)) relay.waiting relay.miners wait)

heard_wait : (relay : Relay) (told : Told) → Wait relay → Wait (heard relay told)
heard_wait relay (Opened channel) wait = wait
heard_wait relay (NotOpened code) wait = wait
heard_wait relay (Target target) wait =
    joined_rows relay.waiting relay.miners _ (map_rows (relayed_to (terms_of relay.base) (Target target)) relay.miners (relayed_row (terms_of relay.base) (Target target))) wait
heard_wait relay (Accepted number) wait = answered_wait (λ sent. nat_le sent.number number) (λ id. Answer id yes) relay wait
heard_wait relay (Refused number code) wait = answered_wait (λ sent. sent.number == number) (λ id. CodeRefusal id code) relay wait
heard_wait relay (Future job) wait =
    joined_rows relay.waiting relay.miners _ (map_rows (relayed_to (terms_of relay.base) (Future job)) relay.miners (relayed_row (terms_of relay.base) (Future job))) wait
heard_wait relay (Live job min_ntime) wait =
    joined_rows relay.waiting relay.miners _ (map_rows (relayed_to (terms_of relay.base) (Live job min_ntime)) relay.miners (relayed_row (terms_of relay.base) (Live job min_ntime))) wait
heard_wait relay (Tipped tip) wait =
    joined_rows relay.waiting relay.miners _ (map_rows (relayed_to (terms_of relay.base) (Tipped tip)) relay.miners (relayed_row (terms_of relay.base) (Tipped tip))) wait
heard_wait relay Nothing wait = wait

up_wait : (relay : Relay) (told : UpTold) → Wait relay → Wait (heard_up relay told)
up_wait relay SetUp wait = elim (cases_Bool relay.is_set_up) [ inl is ↦ rw is wait | inr not_yet ↦ rw not_yet wait ]
up_wait relay (Tells told) wait = heard_wait relay told wait

pub step_wait : (relay : Relay) (input : ProxyEvent) → Wait relay → Wait (step relay input)
step_wait relay (event.Start user base) wait = wait
step_wait relay (event.Up bytes) wait = up_wait relay (told_up bytes) wait
step_wait relay event.UpEnd wait = answered_wait (λ sent. true) (λ id. CodeRefusal id (code_of UpstreamLost)) relay wait
step_wait relay (event.Join caller) wait = elim (cases_Bool (is_joined caller relay.miners)) [
  | inl is ↦ rw is wait
  | inr new ↦ rw new (still_joined caller (miner_of caller relay.miners) relay.waiting relay.miners wait)
]
step_wait relay (event.Line caller line) wait =
    asked_wait (after_line relay caller line) caller _
    (joined_rows relay.waiting relay.miners _ (at_rows caller (line_said (terms_of relay.base) line) relay.miners (said_row (terms_of relay.base) line)) wait)
step_wait relay (event.Leave caller) wait = not_left caller relay.waiting relay.miners wait

pub after_wait : (relay : Relay) (inputs : List ProxyEvent) → Wait relay → Wait (after relay inputs)
after_wait relay [] wait = wait
after_wait relay (input ∷ inputs) wait = after_wait (step relay input) inputs (step_wait relay input wait)

-- ---- what is said to each

-- of two numbers a third is the one and not the other, so these differ
pub is_another : (number who caller : ℕ) → (number == who) ≡ false → (number == caller) ≡ true
    → (who == caller) ≡ false
is_another number who caller other own = elim (cases_Bool (who == caller)) [
  | inl both ↦
      let again : (number == who) ≡ true = eq-eqb number who (eqb-true number caller own ∙ sym (eqb-true who caller both)) in
      absurd (cc)
  | inr differ ↦ differ
]

line_at : (caller : ℕ) (said : Saying) (who : ℕ) (miners : List Miner) → is_joined who miners ≡ true
    → output_in (miner_of caller (at_caller who (with_line said) miners))
    ≡ output_in (miner_of caller miners) ++ (if who == caller then line_of said else [])
line_at caller said who [] is = absurd (cc)
line_at caller said who (miner ∷ miners) is = elim (cases_Bool (miner.caller == who)) [
  | inl here ↦
      let same : miner.caller ≡ who = eqb-true miner.caller who here in
      elim (cases_Bool (miner.caller == caller)) [
        | inl own ↦ let too : (who == caller) ≡ true = ap (λ c. c == caller) (sym same) ∙ own in rw (here, own, too) refl
        | inr away ↦ let too : (who == caller) ≡ false = ap (λ c. c == caller) (sym same) ∙ away in rw (here, away, too) (sym (append-nil _))
      ]
  | inr there ↦
      let behind : is_joined who miners ≡ true = rw there at is in
      elim (cases_Bool (miner.caller == caller)) [
        | inl own ↦
            let not_who : (who == caller) ≡ false = is_another miner.caller who caller there own in
            rw (there, own, not_who) (sym (append-nil _))
        | inr away ↦ rw (there, away) (line_at caller said who miners behind)
      ]
]

each_said : (said : Data → Saying) (list : List SentOn) (miners : List Miner) (caller : ℕ) → AreJoined list miners
    → output_in (miner_of caller (said_each said list miners))
    ≡ output_in (miner_of caller miners) ++ lines_for caller (map (answer_to said) list)
each_said said [] miners caller are = sym (append-nil _)
each_said said (sent ∷ list) miners caller are =
    let rows = at_rows sent.caller (with_line (said sent.id)) miners (line_row (said sent.id)) in
    each_said said list (at_caller sent.caller (with_line (said sent.id)) miners) caller (joined_rows list miners _ rows are.1)
    ∙ ap (λ bytes. bytes ++ lines_for caller (map (answer_to said) list)) (line_at caller (said sent.id) sent.caller miners are.0)
    ∙ append_assoc (output_in (miner_of caller miners)) (if sent.caller == caller then line_of (said sent.id) else [])
    (lines_for caller (map (answer_to said) list))

pub those_said : (test : SentOn → Bool) (said : Data → Saying) (relay : Relay) (caller : ℕ) → Wait relay
    → output_at caller (answer_those test said relay) ≡ output_at caller relay ++ lines_for caller (map (answer_to said) (filter test relay.waiting))
those_said test said relay caller wait =
    each_said said (filter test relay.waiting) relay.miners caller (joined_filter test relay.waiting relay.miners wait)

pub own_answers : (user : List ℕ) (base : ℕ) (inputs : List ProxyEvent) → AnswersItsOwn (after (started user base) inputs)
own_answers user base inputs =
    let wait = after_wait (started user base) inputs tt in
    let relay : Relay = after (started user base) inputs in
    record {
      waiting = wait;
      accepted = λ number caller. those_said (λ sent. nat_le sent.number number) (λ id. Answer id yes) relay caller wait;
      refused = λ number caller code. those_said (λ sent. sent.number == number) (λ id. CodeRefusal id code) relay caller wait;
      ended = λ caller. those_said (λ sent. true) (λ id. CodeRefusal id (code_of UpstreamLost)) relay caller wait;
    }
