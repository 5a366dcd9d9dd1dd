-- What holds of every proxy, whatever it was brought.
use Rattle.std.specs.Prelude.{◌≡◌, ℕ, ◌+◌, ◌==◌, ◌<◌, ◌≤◌, Bool, true, false, if◌then◌else◌, Option, None, Some, Result, Ok, Err, List, [], ◌∷◌, ◌++◌, length, map, nat_le, nat_lt}
use Rattle.std.specs.List.{filter, flat_map, list_any}
use Rattle.serde_json.specs.Data.{Data}
use Rattle.sv2_messages.specs.Messages.{Message}
use Rattle.v1_translate.specs.Asked.{share_message}
use Rattle.v1_translate.specs.Heard.{Accepted, Refused, OpenedChannel, Told}
use Rattle.v1_lines.specs.Requests.{line_value}
use Rattle.v1_translate.specs.Lines.{id_in, line_reaction, yes}
use Rattle.v1_translate.specs.Messages.{answered}
use Rattle.v1_translate.specs.State.{Terms, V1State, SentShare, Saying, Answer, CodeRefusal, Asking, Share, Reaction}
use Rattle.v1_translate.specs.Saying.{frame_of_message, line_of}
use Rattle.proxy_rules.specs.declared.events.ProxyEvent.{ProxyEvent}
use Rattle.proxy_rules.specs.declared.events.ProxyEvent.TheVariants as event
use Rattle.proxy_rules.specs.declared.refusals.ProxyRefusal.{ProxyRefusal}
use Rattle.proxy_rules.specs.declared.refusals.ProxyRefusal.TheVariants.{UpstreamLost}
use Rattle.proxy_rules.specs.Frames.{UpTold, SetUp, Tells, told_up}
use Rattle.proxy_rules.specs.Miners.{is_joined, lead_bytes, miner_of, output_in, seat_in, session_of}
use Rattle.proxy_rules.specs.Refusals.{code_of}
use Rattle.proxy_rules.specs.State.{Miner, Relay, Seat, SentOn, Session, terms_of}
use Rattle.proxy_rules.specs.Steps.{after, after_line, asks_by, heard, most_sent, opening_message, sent_from, serves, share_id, started, step}

-- ---- leads

abbrev pub lead_of : Option Seat → List ℕ
lead_of None = []
lead_of (Some seat) = seat.lead ∷ []

-- the leads of the miners that are joined
abbrev pub leads_in : List Miner → List ℕ
leads_in [] = []
leads_in (miner ∷ miners) = lead_of (seat_in miner.session) ++ leads_in miners

abbrev pub is_among : ℕ → List ℕ → Bool
is_among number numbers = list_any (λ other. other == number) numbers

-- no number stands twice
abbrev pub AreApart : List ℕ → Type 0
AreApart [] = Unit {0}
AreApart (number ∷ numbers) = (is_among number numbers ≡ false) × AreApart numbers

-- a seat is of the upstream's channel: behind its prefix and two bytes of lead all others are rolled
pub record IsSeatOf (opened : OpenedChannel) (seat : Seat) : Type 0 where
  pub served : serves opened ≡ true
  pub channel : seat.channel ≡ opened.channel
  pub rolled : seat.rolled + 2 ≡ opened.rolled
  pub lead : seat.lead < 65536

abbrev pub FitsChannel : Option OpenedChannel → Option Seat → Type 0
FitsChannel opened None = Unit {0}
FitsChannel None (Some seat) = ⊥
FitsChannel (Some channel) (Some seat) = IsSeatOf channel seat

abbrev pub AllFit : Option OpenedChannel → List Miner → Type 0
AllFit opened [] = Unit {0}
AllFit opened (miner ∷ miners) =
    FitsChannel opened (seat_in miner.session) × AllFit opened miners

pub record LeadsAreApart (relay : Relay) : Type 0 where
  pub apart : AreApart (leads_in relay.miners)
  pub fit : AllFit relay.opened relay.miners

abbrev pub LeadsDiffer : Type 0
LeadsDiffer =
    (user : List ℕ) (base : ℕ) (inputs : List ProxyEvent)
    → LeadsAreApart (after (started user base) inputs)

-- so an extranonce behind the upstream's prefix is of one lead at most
abbrev pub ExtranoncesHaveOneLead : Type 0
ExtranoncesHaveOneLead =
    (prefix : List ℕ) (one other : ℕ) (behind behind' : List ℕ) → one < 65536 → other < 65536
    → prefix ++ lead_bytes one ++ behind ≡ prefix ++ lead_bytes other ++ behind' → one ≡ other

-- the extranonces of a seat, and those of the upstream's channel
pub record IsInSeat (opened : OpenedChannel) (seat : Seat) (extranonce : List ℕ) : Type 0 where
  pub rest : List ℕ
  pub whole : extranonce ≡ opened.lead ++ lead_bytes seat.lead ++ rest
  pub size : length rest ≡ seat.rolled

pub record IsInChannel (opened : OpenedChannel) (extranonce : List ℕ) : Type 0 where
  pub rest : List ℕ
  pub whole : extranonce ≡ opened.lead ++ rest
  pub size : length rest ≡ opened.rolled

abbrev pub seat_list : Option Seat → List Seat
seat_list None = []
seat_list (Some seat) = seat ∷ []

abbrev pub seats_in : List Miner → List Seat
seats_in [] = []
seats_in (miner ∷ miners) = seat_list (seat_in miner.session) ++ seats_in miners

abbrev pub IsApartFrom : OpenedChannel → Seat → List Seat → Type 0
IsApartFrom opened seat [] = Unit {0}
IsApartFrom opened seat (other ∷ seats) =
    ((extranonce : List ℕ) → IsInSeat opened seat extranonce → ¬ (IsInSeat opened other extranonce))
    × IsApartFrom opened seat seats

abbrev pub AreSeatsApart : OpenedChannel → List Seat → Type 0
AreSeatsApart opened [] = Unit {0}
AreSeatsApart opened (seat ∷ seats) = IsApartFrom opened seat seats × AreSeatsApart opened seats

abbrev pub AreInChannel : OpenedChannel → List Seat → Type 0
AreInChannel opened [] = Unit {0}
AreInChannel opened (seat ∷ seats) =
    ((extranonce : List ℕ) → IsInSeat opened seat extranonce → IsInChannel opened extranonce)
    × AreInChannel opened seats

pub record AreSpaces (opened : OpenedChannel) (seats : List Seat) : Type 0 where
  pub apart : AreSeatsApart opened seats
  pub within : AreInChannel opened seats

-- no extranonce is in the space of two joined miners, and each is in the upstream's
abbrev pub SpacesAreApart : Type 0
SpacesAreApart =
    (user : List ℕ) (base : ℕ) (inputs : List ProxyEvent) (opened : OpenedChannel)
    → (after (started user base) inputs).opened ≡ Some opened
    → AreSpaces opened (seats_in (after (started user base) inputs).miners)

-- ---- what goes upstream

-- the share that an asking of a caller's session sends
abbrev pub share_if : Result SentShare ProxyRefusal → Option Data → List SentShare
share_if sent None = []
share_if (Err refusal) (Some id) = []
share_if (Ok share) (Some id) = share ∷ []

abbrev pub share_of_session : Relay → SentShare → Option Session → List SentShare
share_of_session relay share session =
    share_if (sent_from relay.is_ended relay.sent share (seat_in session))
    (share_id share.sequence session)

abbrev pub share_of_asking : Relay → ℕ → Asking → List SentShare
share_of_asking relay caller (Share share) =
    share_of_session relay share (session_of caller relay.miners)
share_of_asking relay caller _ = []

-- the share that an event sends upstream: a line one at most, any other none
abbrev pub shares_by : Relay → ProxyEvent → List SentShare
shares_by relay (event.Line caller line) =
    share_of_asking (after_line relay caller line) caller
    (asks_by (terms_of relay.base) line (session_of caller relay.miners))
shares_by relay _ = []

abbrev pub opening_by : Relay → UpTold → List Message
opening_by relay SetUp =
    if relay.is_set_up then [] else opening_message relay.user relay.base ∷ []
opening_by relay (Tells told) = []

-- the messages that an event sends upstream
abbrev pub messages_by : Relay → ProxyEvent → List Message
messages_by relay (event.Up bytes) = opening_by relay (told_up bytes)
messages_by relay other = map share_message (shares_by relay other)

abbrev pub messages_after : Relay → List ProxyEvent → List Message
messages_after relay [] = []
messages_after relay (input ∷ inputs) =
    messages_by relay input ++ messages_after (step relay input) inputs

abbrev pub shares_after : Relay → List ProxyEvent → List SentShare
shares_after relay [] = []
shares_after relay (input ∷ inputs) =
    shares_by relay input ++ shares_after (step relay input) inputs

-- how many have a sequence number
abbrev pub shares_times : ℕ → List SentShare → ℕ
shares_times number [] = 0
shares_times number (share ∷ shares) =
    (if share.sequence == number then 1 else 0) + shares_times number shares

-- each has the next sequence number
abbrev pub AreNumbered : ℕ → List SentShare → Type 0
AreNumbered number [] = Unit {0}
AreNumbered number (share ∷ shares) = (share.sequence ≡ number) × AreNumbered (number + 1) shares

-- what goes upstream is the setup and these messages; the submissions among them are those of lines,
-- with the sequence numbers from 0 on
pub record GoesUp (user : List ℕ) (base : ℕ) (inputs : List ProxyEvent) : Type 0 where
  pub output : (after (started user base) inputs).output
      ≡ (started user base).output
      ++ flat_map frame_of_message (messages_after (started user base) inputs)
  pub numbers : AreNumbered 0 (shares_after (started user base) inputs)
  pub count : (after (started user base) inputs).sent
      ≡ length (shares_after (started user base) inputs)
  pub few : (after (started user base) inputs).sent ≤ most_sent

abbrev pub SubmissionsAreOfLines : Type 0
SubmissionsAreOfLines =
    (user : List ℕ) (base : ℕ) (inputs : List ProxyEvent) → GoesUp user base inputs

-- a share that a session asks for waits under its number, with this id
abbrev pub WaitsByAsking : Data → V1State → Asking → Type 0
WaitsByAsking id after (Share share) = answered share.sequence after.waiting ≡ Some id
WaitsByAsking id after _ = Unit {0}

abbrev pub WaitsBy : Data → Reaction → Type 0
WaitsBy id reaction = WaitsByAsking id reaction.after reaction.asks

-- so each submission is sent with the id of its line, by which it is answered
abbrev pub SharesHaveTheIdsOfLines : Type 0
SharesHaveTheIdsOfLines =
    (terms : Terms) (state : V1State) (line : List ℕ)
    → WaitsBy (id_in (line_value line)) (line_reaction terms state line)

-- ---- answers

-- an answer to a submission: whose it is, and what is said
pub record Answered : Type 0 where
  pub number : ℕ
  pub caller : ℕ
  pub says : Saying

abbrev pub answer_to : (Data → Saying) → SentOn → Answered
answer_to said sent =
    record { number = sent.number; caller = sent.caller; says = said sent.id }

abbrev pub answers_told : Relay → Told → List Answered
answers_told relay (Accepted number) =
    map (answer_to (λ id. Answer id yes)) (filter (λ sent. nat_le sent.number number) relay.waiting)
answers_told relay (Refused number code) =
    map (answer_to (λ id. CodeRefusal id code)) (filter (λ sent. sent.number == number) relay.waiting)
answers_told relay _ = []

abbrev pub answers_up : Relay → UpTold → List Answered
answers_up relay SetUp = []
answers_up relay (Tells told) = answers_told relay told

-- the submissions that an event answers: a message of the upstream, or its end
abbrev pub answers_by : Relay → ProxyEvent → List Answered
answers_by relay (event.Up bytes) = answers_up relay (told_up bytes)
answers_by relay event.UpEnd =
    map (answer_to (λ id. CodeRefusal id (code_of UpstreamLost))) (filter (λ sent. true) relay.waiting)
answers_by relay _ = []

-- the submissions that nobody waits for any more
abbrev pub dropped_by : Relay → ProxyEvent → List SentOn
dropped_by relay (event.Leave caller) = filter (λ sent. sent.caller == caller) relay.waiting
dropped_by relay _ = []

abbrev pub answers_after : Relay → List ProxyEvent → List Answered
answers_after relay [] = []
answers_after relay (input ∷ inputs) =
    answers_by relay input ++ answers_after (step relay input) inputs

abbrev pub dropped_after : Relay → List ProxyEvent → List SentOn
dropped_after relay [] = []
dropped_after relay (input ∷ inputs) =
    dropped_by relay input ++ dropped_after (step relay input) inputs

-- how many have a number
abbrev pub answered_times : ℕ → List Answered → ℕ
answered_times number [] = 0
answered_times number (answer ∷ answers) =
    (if answer.number == number then 1 else 0) + answered_times number answers

abbrev pub sent_times : ℕ → List SentOn → ℕ
sent_times number [] = 0
sent_times number (sent ∷ more) =
    (if sent.number == number then 1 else 0) + sent_times number more

-- each submission was answered once, or its miner left before, or it waits
abbrev pub IsAnsweredOnce : List ℕ → ℕ → List ProxyEvent → ℕ → Type 0
IsAnsweredOnce user base inputs number =
    answered_times number (answers_after (started user base) inputs)
    + sent_times number (dropped_after (started user base) inputs)
    + sent_times number (after (started user base) inputs).waiting
    ≡ (if nat_lt number (after (started user base) inputs).sent then 1 else 0)

abbrev pub SubmissionsAreAnsweredOnce : Type 0
SubmissionsAreAnsweredOnce =
    (user : List ℕ) (base : ℕ) (inputs : List ProxyEvent) (number : ℕ)
    → IsAnsweredOnce user base inputs number

-- ---- the same, for submissions as they wait: whose each is, and the id of its line

-- what a line leaves to wait: its submission, where it sends one
abbrev pub entry_if : ℕ → ℕ → Result SentShare ProxyRefusal → Option Data → List SentOn
entry_if number caller sent None = []
entry_if number caller (Err refusal) (Some id) = []
entry_if number caller (Ok share) (Some id) =
    record { number = number; caller = caller; id = id } ∷ []

abbrev pub entry_of_session : Relay → ℕ → SentShare → Option Session → List SentOn
entry_of_session relay caller share session =
    entry_if relay.sent caller (sent_from relay.is_ended relay.sent share (seat_in session))
    (share_id share.sequence session)

abbrev pub entry_of_asking : Relay → ℕ → Asking → List SentOn
entry_of_asking relay caller (Share share) =
    entry_of_session relay caller share (session_of caller relay.miners)
entry_of_asking relay caller _ = []

abbrev pub entries_by : Relay → ProxyEvent → List SentOn
entries_by relay (event.Line caller line) =
    entry_of_asking (after_line relay caller line) caller
    (asks_by (terms_of relay.base) line (session_of caller relay.miners))
entries_by relay _ = []

abbrev pub entries_after : Relay → List ProxyEvent → List SentOn
entries_after relay [] = []
entries_after relay (input ∷ inputs) =
    entries_by relay input ++ entries_after (step relay input) inputs

-- those that an event answers
abbrev pub answered_told : Relay → Told → List SentOn
answered_told relay (Accepted number) = filter (λ sent. nat_le sent.number number) relay.waiting
answered_told relay (Refused number code) = filter (λ sent. sent.number == number) relay.waiting
answered_told relay _ = []

abbrev pub answered_up : Relay → UpTold → List SentOn
answered_up relay SetUp = []
answered_up relay (Tells told) = answered_told relay told

abbrev pub answered_by : Relay → ProxyEvent → List SentOn
answered_by relay (event.Up bytes) = answered_up relay (told_up bytes)
answered_by relay event.UpEnd = filter (λ sent. true) relay.waiting
answered_by relay _ = []

abbrev pub answered_after : Relay → List ProxyEvent → List SentOn
answered_after relay [] = []
answered_after relay (input ∷ inputs) =
    answered_by relay input ++ answered_after (step relay input) inputs

-- how many pass a test
abbrev pub how_many : (SentOn → Bool) → List SentOn → ℕ
how_many test [] = 0
how_many test (sent ∷ more) = (if test sent then 1 else 0) + how_many test more

-- each is answered, dropped or waits just as often as it was sent, which its number says is once
pub record AreAnswered (user : List ℕ) (base : ℕ) (inputs : List ProxyEvent) : Type 0 where
  pub balance : (test : SentOn → Bool)
      → how_many test (answered_after (started user base) inputs)
      + how_many test (dropped_after (started user base) inputs)
      + how_many test (after (started user base) inputs).waiting
      ≡ how_many test (entries_after (started user base) inputs)
  pub once : (number : ℕ) → sent_times number (entries_after (started user base) inputs) ≤ 1

abbrev pub AnswersAreOfSubmissions : Type 0
AnswersAreOfSubmissions =
    (user : List ℕ) (base : ℕ) (inputs : List ProxyEvent) → AreAnswered user base inputs

-- ---- where answers go

-- the lines of the answers for a caller
abbrev pub lines_for : ℕ → List Answered → List ℕ
lines_for caller [] = []
lines_for caller (answer ∷ answers) =
    (if answer.caller == caller then line_of answer.says else []) ++ lines_for caller answers

abbrev pub output_at : ℕ → Relay → List ℕ
output_at caller relay = output_in (miner_of caller relay.miners)

-- those who wait are joined
abbrev pub AreJoined : List SentOn → List Miner → Type 0
AreJoined [] miners = Unit {0}
AreJoined (sent ∷ more) miners =
    (is_joined sent.caller miners ≡ true) × AreJoined more miners

-- a message that answers submissions says their lines, each to its own miner, and nothing else; who
-- waits is joined
pub record AnswersItsOwn (relay : Relay) : Type 0 where
  pub waiting : AreJoined relay.waiting relay.miners
  pub accepted : (number caller : ℕ)
      → output_at caller (heard relay (Accepted number))
      ≡ output_at caller relay ++ lines_for caller (answers_told relay (Accepted number))
  pub refused : (number caller : ℕ) (code : List ℕ)
      → output_at caller (heard relay (Refused number code))
      ≡ output_at caller relay ++ lines_for caller (answers_told relay (Refused number code))
  pub ended : (caller : ℕ)
      → output_at caller (step relay event.UpEnd)
      ≡ output_at caller relay ++ lines_for caller (answers_by relay event.UpEnd)

abbrev pub AnswersGoToTheirMiner : Type 0
AnswersGoToTheirMiner =
    (user : List ℕ) (base : ℕ) (inputs : List ProxyEvent)
    → AnswersItsOwn (after (started user base) inputs)
