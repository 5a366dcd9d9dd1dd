-- The leads differ after each event.
use Rattle.std.proofs.Common.{◌≡◌, ℕ, zero, suc, ◌+◌, ◌==◌, ◌<◌, ◌≤◌, ◌&&◌, Bool, true, false, not, Option, None, Some, Result, Ok, Err, List, [], ◌∷◌, inl, inr, refl, sym, subst, ◌∙◌, arith}
use Rattle.std.specs.List.{filter}
use Rattle.std.specs.Prelude.{nat_le, option_map}
use Rattle.std.proofs.lemmas.Bool.{cases_Bool, leb-true}
use Rattle.serde_json.specs.Data.{Data}
use Rattle.v1_translate.specs.Heard.{Told, Opened, NotOpened, Target, Accepted, Refused, Future, Live, Tipped, Nothing, OpenedChannel}
use Rattle.v1_translate.specs.State.{SentShare, Saying, Answer, Asking, Silence, Open, Update, Share, Name, CodeRefusal}
use Rattle.v1_translate.specs.Lines.{yes}
use Rattle.proxy_rules.specs.declared.events.ProxyEvent.{ProxyEvent}
use Rattle.proxy_rules.specs.declared.events.ProxyEvent.TheVariants as event
use Rattle.proxy_rules.specs.declared.refusals.ProxyRefusal.{ProxyRefusal}
use Rattle.proxy_rules.specs.declared.refusals.ProxyRefusal.TheVariants.{UpstreamLost}
use Rattle.proxy_rules.specs.Frames.{UpTold, SetUp, Tells, told_up}
use Rattle.proxy_rules.specs.Jobs.{jobs_told}
use Rattle.proxy_rules.specs.Laws.{AreApart, AllFit, FitsChannel, IsSeatOf, LeadsAreApart, is_among, leads_in}
use Rattle.proxy_rules.specs.Miners.{at_caller, is_held, is_joined, least_free, least_from, left, miner_of, rejoined, relayed_to, seat_in, told_to, with_line, with_new}
use Rattle.proxy_rules.specs.Refusals.{code_of}
use Rattle.proxy_rules.specs.State.{Miner, Relay, Seat, SentOn, terms_of}
use Rattle.proxy_rules.specs.Steps.{Offer, after, answer_those, asked, changed, handed_over, heard, heard_up, line_heard, line_said, named, offer, offer_at, offer_by, offer_of, parted, retargeted, said_each, seat_of, seated, serves, set_up, shared_by, started, step, subscribed}
use Rattle.proxy_rules.proofs.Apart.{first_fit, fit_same, held_among, leads_same, more_fit, more_leads, seated_apart, seated_fit, unseat_apart, unseat_fit}
use Rattle.proxy_rules.proofs.Rows.{SameRow, SameRows, at_rows, at_rows_both, handed_row, line_row, map_rows, named_row, relayed_row, row_after, said_row, said_rows, told_all_row, told_row}

-- the miners fit the channel, and their leads differ
pub record Good (opened : Option OpenedChannel) (miners : List Miner) : Type 0 where
  pub apart : AreApart (leads_in miners)
  pub fit : AllFit opened miners

good_rows : (opened : Option OpenedChannel) (xs ys : List Miner) → SameRows xs ys → Good opened xs → Good opened ys
good_rows opened xs ys rows good =
    record { apart = subst AreApart (sym (leads_same xs ys rows)) good.apart; fit = fit_same opened xs ys rows good.fit }

-- ---- the channel

retargeted_fit : (target : List ℕ) (opened : Option OpenedChannel) (seat : Option Seat) → FitsChannel opened seat
    → FitsChannel (option_map (retargeted target) opened) seat
retargeted_fit target opened None fits = tt
retargeted_fit target None (Some seat) fits = absurd fits
retargeted_fit target (Some channel) (Some seat) fits =
    record { served = fits.served; channel = fits.channel; rolled = fits.rolled; lead = fits.lead }

all_retargeted : (target : List ℕ) (opened : Option OpenedChannel) (miners : List Miner) → AllFit opened miners
    → AllFit (option_map (retargeted target) opened) miners
all_retargeted target opened [] fit = tt
all_retargeted target opened (miner ∷ miners) fit =
    (retargeted_fit target opened (seat_in miner.session) fit.0, all_retargeted target opened miners fit.1)

-- ---- what upstream tells

abbrev IsGood : Relay → Type 0
IsGood relay = Good relay.opened relay.miners

set_up_good : (relay : Relay) → IsGood relay → IsGood (set_up relay)
set_up_good relay good = elim (cases_Bool relay.is_set_up) [ inl is ↦ rw is good | inr not_yet ↦ rw not_yet good ]

answered_good : (test : SentOn → Bool) (said : Data → Saying) (relay : Relay) → IsGood relay → IsGood (answer_those test said relay)
answered_good test said relay good =
    good_rows relay.opened relay.miners (said_each said (filter test relay.waiting) relay.miners) (said_rows said (filter test relay.waiting) relay.miners) good

heard_good : (relay : Relay) (told : Told) → IsGood relay → IsGood (heard relay told)
heard_good relay (Opened channel) good = record { apart = good.apart; fit = first_fit channel relay.opened relay.miners good.fit }
heard_good relay (NotOpened code) good = good
heard_good relay (Target target) good =
    let kept = good_rows relay.opened relay.miners _ (map_rows (relayed_to (terms_of relay.base) (Target target)) relay.miners (relayed_row (terms_of relay.base) (Target target))) good in
    record { apart = kept.apart; fit = all_retargeted target relay.opened _ kept.fit }
heard_good relay (Accepted number) good = answered_good (λ sent. nat_le sent.number number) (λ id. Answer id yes) relay good
heard_good relay (Refused number code) good = answered_good (λ sent. sent.number == number) (λ id. CodeRefusal id code) relay good
heard_good relay (Future job) good =
    good_rows relay.opened relay.miners _ (map_rows (relayed_to (terms_of relay.base) (Future job)) relay.miners (relayed_row (terms_of relay.base) (Future job))) good
heard_good relay (Live job min_ntime) good =
    good_rows relay.opened relay.miners _ (map_rows (relayed_to (terms_of relay.base) (Live job min_ntime)) relay.miners (relayed_row (terms_of relay.base) (Live job min_ntime))) good
heard_good relay (Tipped tip) good =
    good_rows relay.opened relay.miners _ (map_rows (relayed_to (terms_of relay.base) (Tipped tip)) relay.miners (relayed_row (terms_of relay.base) (Tipped tip))) good
heard_good relay Nothing good = good

up_good : (relay : Relay) (told : UpTold) → IsGood relay → IsGood (heard_up relay told)
up_good relay SetUp good = set_up_good relay good
up_good relay (Tells told) good = heard_good relay told good

-- ---- a subscribe

-- a lead that is given is free, and one of two bytes
pub free_from : (more : ℕ) (miners : List Miner) (lead given : ℕ) → least_from more miners lead ≡ Some given
    → (is_held given miners ≡ false) × (given < lead + more)
unfolding least_from
free_from zero miners lead given is = absurd (cc)
free_from (suc more) miners lead given is = elim (cases_Bool (is_held lead miners)) [
  | inl held ↦
      let rest = free_from more miners (lead + 1) given (rw held at is) in
      (rest.0, omega (arith, rest.1))
  | inr free ↦
      let same : Some lead ≡ Some given = rw free at is in
      let lead_is : lead ≡ given = cc in
      (subst (λ (n : ℕ). is_held n miners ≡ false) lead_is free, omega arith)
]

both_true : (a b : Bool) → (a && b) ≡ true → (a ≡ true) × (b ≡ true)
both_true true b is = (refl, is)
both_true false b is = absurd (cc)

seat_fits : (channel : OpenedChannel) (lead : ℕ) → serves channel ≡ true → lead < 65536 → IsSeatOf channel (seat_of (offer_of channel lead))
seat_fits channel lead served small =
    let parts = both_true (nat_le 3 channel.rolled) (nat_le channel.rolled 32) served in
    let most : 3 ≤ channel.rolled = leb-true 3 channel.rolled parts.0 in
    record { served = served; channel = refl; rolled = omega arith; lead = small }

pub record IsFree (opened : Option OpenedChannel) (miners : List Miner) (given : Offer) : Type 0 where
  pub fits : FitsChannel opened (Some (seat_of given))
  pub free : is_among given.lead (leads_in miners) ≡ false

offered_at : (channel : OpenedChannel) (miners : List Miner) (lead : Option ℕ) (given : Offer) → serves channel ≡ true → least_free miners ≡ lead
    → offer_at channel lead ≡ Ok given → IsFree (Some channel) miners given
offered_at channel miners None given served least is = absurd (cc)
offered_at channel miners (Some lead) given served least is =
    let same : offer_of channel lead ≡ given = cc in
    let found = free_from 65536 miners 0 lead least in
    let small : lead < 65536 = omega (arith, found.1) in
    subst (IsFree (Some channel) miners) same
    (record { fits = seat_fits channel lead served small; free = sym (held_among lead miners) ∙ found.0 })

offered_by : (is_ended : Bool) (opened : Option OpenedChannel) (miners : List Miner) (given : Offer) → offer_by is_ended opened miners ≡ Ok given
    → IsFree opened miners given
offered_by is_ended None miners given is = absurd (cc)
offered_by is_ended (Some channel) miners given is = elim (cases_Bool (not is_ended && serves channel)) [
  | inl open_ ↦
      let parts = both_true (not is_ended) (serves channel) open_ in
      offered_at channel miners (least_free miners) given parts.1 refl (rw open_ at is)
  | inr shut ↦
      let none : Err _ ≡ Ok given = rw shut at is in absurd (cc)
]

subscribed_good : (relay : Relay) (caller : ℕ) (given : Result Offer ProxyRefusal) → offer relay ≡ given → IsGood relay
    → Good relay.opened (at_caller caller (subscribed (terms_of relay.base) relay.tip relay.jobs given) relay.miners)
subscribed_good relay caller (Err refusal) is good =
    good_rows relay.opened relay.miners _
    (at_rows caller (told_to (terms_of relay.base) (NotOpened (code_of refusal))) relay.miners (told_row (terms_of relay.base) (NotOpened (code_of refusal)))) good
subscribed_good relay caller (Ok given) is good =
    let free = offered_by relay.is_ended relay.opened relay.miners given is in
    let taken : Good relay.opened (at_caller caller (seated (seat_of given)) relay.miners) = record {
      apart = seated_apart caller (seat_of given) relay.miners free.free good.apart;
      fit = seated_fit relay.opened caller (seat_of given) relay.miners free.fits good.fit;
    } in
    good_rows relay.opened (at_caller caller (seated (seat_of given)) relay.miners) _
    (at_rows_both caller (seated (seat_of given)) (subscribed (terms_of relay.base) relay.tip relay.jobs (Ok given)) relay.miners
    (λ miner. row_after (seated (seat_of given) miner) (told_to (terms_of relay.base) (Opened given.channel) (seated (seat_of given) miner)) _
    (told_row (terms_of relay.base) (Opened given.channel) (seated (seat_of given) miner))
    (told_all_row (terms_of relay.base) (jobs_told relay.tip relay.jobs) (told_to (terms_of relay.base) (Opened given.channel) (seated (seat_of given) miner)))))
    taken

-- ---- a line

changed_good : (relay : Relay) (caller : ℕ) (change : Miner → Miner) → ((miner : Miner) → SameRow miner (change miner)) → IsGood relay
    → IsGood (changed relay caller change)
changed_good relay caller change keeps good = good_rows relay.opened relay.miners _ (at_rows caller change relay.miners keeps) good

shared_good : (relay : Relay) (caller : ℕ) (sent : Result SentShare ProxyRefusal) (id : Option Data) → IsGood relay → IsGood (shared_by relay caller sent id)
shared_good relay caller sent None good = good
shared_good relay caller (Err refusal) (Some id) good =
    changed_good relay caller (with_line (CodeRefusal id (code_of refusal))) (line_row (CodeRefusal id (code_of refusal))) good
shared_good relay caller (Ok share) (Some id) good = good

asked_good : (relay : Relay) (caller : ℕ) (asking : Asking) → IsGood relay → IsGood (asked relay caller asking)
asked_good relay caller Silence good = good
asked_good relay caller (Update channel class) good = good
asked_good relay caller (Open class) good = subscribed_good relay caller (offer relay) refl good
asked_good relay caller (Name account) good = changed_good relay caller (named account) (named_row account) good
asked_good relay caller (Share share) good =
    shared_good (changed relay caller (handed_over share.sequence)) caller _ _
    (changed_good relay caller (handed_over share.sequence) (handed_row share.sequence) good)

line_good : (relay : Relay) (caller : ℕ) (line : List ℕ) → IsGood relay → IsGood (line_heard relay caller line)
line_good relay caller line good =
    asked_good (changed relay caller (line_said (terms_of relay.base) line)) caller _
    (changed_good relay caller (line_said (terms_of relay.base) line) (said_row (terms_of relay.base) line) good)

-- ---- joining and leaving

joined_good : (relay : Relay) (caller : ℕ) (miner : Option Miner) → IsGood relay → Good relay.opened (with_new caller miner relay.miners)
joined_good relay caller None good =
    record { apart = subst AreApart (sym (more_leads relay.miners caller)) good.apart; fit = more_fit relay.opened relay.miners caller good.fit }
joined_good relay caller (Some miner) good =
    record {
      apart = unseat_apart caller rejoined relay.miners (λ m. refl) good.apart;
      fit = unseat_fit relay.opened caller rejoined relay.miners (λ m. refl) good.fit;
    }

parted_good : (relay : Relay) (caller : ℕ) → IsGood relay → IsGood (parted relay caller)
parted_good relay caller good =
    record {
      apart = unseat_apart caller left relay.miners (λ m. refl) good.apart;
      fit = unseat_fit relay.opened caller left relay.miners (λ m. refl) good.fit;
    }

-- ---- all events

step_good : (relay : Relay) (input : ProxyEvent) → IsGood relay → IsGood (step relay input)
step_good relay (event.Start user base) good = good
step_good relay (event.Up bytes) good = up_good relay (told_up bytes) good
step_good relay event.UpEnd good = answered_good (λ sent. true) (λ id. CodeRefusal id (code_of UpstreamLost)) relay good
step_good relay (event.Join caller) good = elim (cases_Bool (is_joined caller relay.miners)) [
  | inl is ↦ rw is good
  | inr new ↦ rw new (joined_good relay caller (miner_of caller relay.miners) good)
]
step_good relay (event.Line caller line) good = line_good relay caller line good
step_good relay (event.Leave caller) good = parted_good relay caller good

after_good : (relay : Relay) (inputs : List ProxyEvent) → IsGood relay → IsGood (after relay inputs)
after_good relay [] good = good
after_good relay (input ∷ inputs) good = after_good (step relay input) inputs (step_good relay input good)

pub leads_apart : (user : List ℕ) (base : ℕ) (inputs : List ProxyEvent) → LeadsAreApart (after (started user base) inputs)
leads_apart user base inputs =
    let good = after_good (started user base) inputs (record { apart = tt; fit = tt }) in
    record { apart = good.apart; fit = good.fit }
