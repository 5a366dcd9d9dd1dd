-- What a miner's own session says to it at each event, and which of its requests that answers.
use Rattle.std.specs.Prelude.{◌≡◌, ℕ, ◌==◌, if◌then◌else◌, Option, None, Some, Result, Ok, Err, List, [], ◌∷◌, ◌++◌, map}
use Rattle.std.specs.List.{filter}
use Rattle.serde_json.specs.Data.{Data}
use Rattle.v1_translate.specs.Heard.{Told, Opened, NotOpened, Target, Future, Live, Tipped, ToldTip}
use Rattle.v1_translate.specs.Laws.{answered_in, request_of}
use Rattle.v1_translate.specs.Lines.{line_reaction}
use Rattle.v1_translate.specs.Messages.{answered, message_reaction, name_reaction}
use Rattle.v1_translate.specs.State.{Terms, V1State, SentShare, Saying, CodeRefusal, Asking, Silence, Open, Update, Share, Name, Reaction}
use Rattle.v1_translate.specs.Saying.{with_lines}
use Rattle.proxy_rules.specs.declared.events.ProxyEvent.{ProxyEvent}
use Rattle.proxy_rules.specs.declared.events.ProxyEvent.TheVariants as event
use Rattle.proxy_rules.specs.declared.refusals.ProxyRefusal.{ProxyRefusal}
use Rattle.proxy_rules.specs.Frames.{UpTold, SetUp, Tells, told_up}
use Rattle.proxy_rules.specs.Jobs.{jobs_told}
use Rattle.proxy_rules.specs.Laws.{answers_by, entries_by, lines_for, output_at}
use Rattle.proxy_rules.specs.Miners.{is_joined, session_of}
use Rattle.proxy_rules.specs.Refusals.{code_of}
use Rattle.proxy_rules.specs.State.{RelayedJob, Relay, Seat, SentOn, Session, terms_of}
use Rattle.proxy_rules.specs.Steps.{Offer, after, after_line, may_take, offer, sent_from, started, step}

-- ---- a line that is sent on

abbrev pub IsSilentBy : List Saying → Asking → Type 0
IsSilentBy says (Share share) = says ≡ []
IsSilentBy says _ = Unit {0}

abbrev pub IsSilent : Reaction → Type 0
IsSilent reaction = IsSilentBy reaction.says reaction.asks

-- a session that asks for a share says nothing to its line
abbrev pub SentLinesAreSilent : Type 0
SentLinesAreSilent =
    (terms : Terms) (state : V1State) (line : List ℕ) → IsSilent (line_reaction terms state line)

-- ---- what a session says

-- to all that it is told
abbrev pub says_told : Terms → V1State → List Told → List Saying
says_told terms state [] = []
says_told terms state (told ∷ more) =
    (message_reaction terms state told).says
    ++ says_told terms (message_reaction terms state told).after more

-- what a subscriber is told
abbrev pub told_by_offer :
    Option ToldTip → List RelayedJob → Result Offer ProxyRefusal → List Told
told_by_offer tip jobs (Err refusal) = NotOpened (code_of refusal) ∷ []
told_by_offer tip jobs (Ok offer) = Opened offer.channel ∷ jobs_told tip jobs

-- a share that isn't sent on is refused
abbrev pub share_refused : Result SentShare ProxyRefusal → Option Data → List Saying
share_refused sent None = []
share_refused (Err refusal) (Some id) = CodeRefusal id (code_of refusal) ∷ []
share_refused (Ok share) (Some id) = []

-- to what the proxy answers it
abbrev pub says_asked : Relay → Option Seat → V1State → Asking → List Saying
says_asked relay seat state Silence = []
says_asked relay seat state (Update channel class) = []
says_asked relay seat state (Open class) =
    says_told (terms_of relay.base) state (told_by_offer relay.tip relay.jobs (offer relay))
says_asked relay seat state (Name account) =
    (name_reaction state (may_take state.account account)).says
says_asked relay seat state (Share share) =
    share_refused (sent_from relay.is_ended relay.sent share seat)
    (answered share.sequence state.waiting)

abbrev pub says_reacting : Relay → Option Seat → Reaction → List Saying
says_reacting relay seat reaction =
    reaction.says ++ says_asked relay seat reaction.after reaction.asks

-- to a line: itself, and to what it asks of its pool
abbrev pub says_line : Relay → ℕ → List ℕ → Option Session → List Saying
says_line relay caller line None = []
says_line relay caller line (Some session) =
    says_reacting (after_line relay caller line) session.seat
    (line_reaction (terms_of relay.base) session.v1 line)

-- to a message of the upstream that all are told who have a seat
abbrev pub says_seated : Terms → Told → V1State → Option Seat → List Saying
says_seated terms told state None = []
says_seated terms told state (Some seat) = (message_reaction terms state told).says

abbrev pub says_relayed : Relay → Told → Option Session → List Saying
says_relayed relay told None = []
says_relayed relay told (Some session) =
    says_seated (terms_of relay.base) told session.v1 session.seat

abbrev pub says_heard : Relay → Told → Option Session → List Saying
says_heard relay (Target target) session = says_relayed relay (Target target) session
says_heard relay (Future job) session = says_relayed relay (Future job) session
says_heard relay (Live job min_ntime) session = says_relayed relay (Live job min_ntime) session
says_heard relay (Tipped tip) session = says_relayed relay (Tipped tip) session
says_heard relay _ session = []

abbrev pub says_up : Relay → UpTold → Option Session → List Saying
says_up relay SetUp session = []
says_up relay (Tells told) session = says_heard relay told session

-- what a caller's session says at an event
abbrev pub says_by : Relay → ProxyEvent → ℕ → List Saying
says_by relay (event.Up bytes) caller =
    says_up relay (told_up bytes) (session_of caller relay.miners)
says_by relay (event.Line who line) caller =
    if who == caller then says_line relay who line (session_of who relay.miners) else []
says_by relay _ caller = []

-- ---- what is written

-- the output of who joins is empty; at each other event it grows by what the caller's own session
-- says, and then by the answers to its submissions
abbrev pub written_by : Relay → ProxyEvent → ℕ → List ℕ
written_by relay event caller =
    with_lines (output_at caller relay) (says_by relay event caller)
    ++ lines_for caller (answers_by relay event)

abbrev pub output_by : Relay → ProxyEvent → ℕ → List ℕ
output_by relay (event.Join who) caller =
    if is_joined who relay.miners then output_at caller relay
    else if who == caller then [] else output_at caller relay
output_by relay other caller = written_by relay other caller

-- ---- what that answers

-- the request of a line of who is joined
abbrev pub request_if : List ℕ → Option Session → List Data
request_if line None = []
request_if line (Some session) = request_of line

abbrev pub request_by : Relay → ProxyEvent → ℕ → List Data
request_by relay (event.Line who line) caller =
    if who == caller then request_if line (session_of who relay.miners) else []
request_by relay _ caller = []

abbrev pub ids_for : ℕ → List SentOn → List Data
ids_for caller list = map (λ sent. sent.id) (filter (λ sent. sent.caller == caller) list)

-- a request is answered by its own session at once, or goes upstream, never both; and a session
-- answers nothing else
pub record SaysItsOwn (relay : Relay) (event : ProxyEvent) (caller : ℕ) : Type 0 where
  pub output : output_at caller (step relay event) ≡ output_by relay event caller
  pub answers : answered_in (says_by relay event caller) ++ ids_for caller (entries_by relay event)
      ≡ request_by relay event caller

abbrev pub SessionsSayTheirOwn : Type 0
SessionsSayTheirOwn =
    (user : List ℕ) (base : ℕ) (inputs : List ProxyEvent) (event : ProxyEvent) (caller : ℕ)
    → SaysItsOwn (after (started user base) inputs) event caller
