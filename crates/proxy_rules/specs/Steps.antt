-- What a proxy makes of each event (the proxy's rules are this project's own; the messages are those
-- of Stratum V2, the lines those of Stratum V1).
use Rattle.std.specs.Prelude.{ℕ, ◌+◌, ◌-◌, ◌==◌, ◌&&◌, Bool, true, false, not, if◌then◌else◌, Option, None, Some, Result, Ok, Err, List, [], ◌∷◌, ◌++◌, length, map, nat_le, nat_lt, option_map}
use Rattle.std.specs.List.{filter}
use Rattle.std.specs.Str.{bytes_eq}
use Rattle.serde_json.specs.Data.{Data}
use Rattle.block_header.specs.Target.{target}
use Rattle.sv2_messages.specs.declared.kinds.TheConstants as kinds
use Rattle.sv2_messages.specs.Messages.{Message}
use Rattle.sv2_types.specs.Fields.{Number, Bytes}
use Rattle.mining_msgs.specs.PlainSetup.{plain_setup}
use Rattle.v1_translate.specs.Asked.{no_rate, share_message}
use Rattle.v1_translate.specs.Heard.{Told, Opened, NotOpened, Target, Accepted, Refused, Future, Live, Tipped, Nothing, OpenedChannel, ToldTip}
use Rattle.v1_translate.specs.Lines.{line_reaction, yes}
use Rattle.v1_translate.specs.Messages.{answered, name_reaction, still_waiting}
use Rattle.v1_translate.specs.State.{Terms, SentShare, Saying, Answer, CodeRefusal, Asking, Silence, Open, Update, Share, Name}
use Rattle.v1_translate.specs.Saying.{frame_of_message}
use Rattle.proxy_rules.specs.declared.events.ProxyEvent.{ProxyEvent}
use Rattle.proxy_rules.specs.declared.events.ProxyEvent.TheVariants as event
use Rattle.proxy_rules.specs.declared.refusals.ProxyRefusal.{ProxyRefusal}
use Rattle.proxy_rules.specs.declared.refusals.ProxyRefusal.TheVariants.{NoUpstream, NoSpace, WrongSize, UpstreamLost, TooManyShares}
use Rattle.proxy_rules.specs.Refusals.{code_of}
use Rattle.proxy_rules.specs.Frames.{UpTold, SetUp, Tells, told_up}
use Rattle.proxy_rules.specs.Jobs.{job_told, jobs_told, over_tip, with_job}
use Rattle.proxy_rules.specs.Miners.{at_caller, is_joined, lead_bytes, least_free, left, miner_of, reacted, relayed_to, seat_in, session_of, told_all, told_to, with_line, with_new, with_said}
use Rattle.proxy_rules.specs.State.{Miner, RelayedJob, Relay, Seat, SentOn, Session, terms_of}

-- ---- the start

abbrev pub started : List ℕ → ℕ → Relay
started user base =
    record {
      user = user;
      base = base;
      is_set_up = false;
      opened = None;
      jobs = [];
      tip = None;
      is_ended = false;
      sent = 0;
      waiting = [];
      miners = [];
      output = frame_of_message (plain_setup 0);
    }

-- ---- the upstream

-- one channel for all miners, of whose extranonce at least 8 bytes are to be rolled
abbrev pub opening_message : List ℕ → ℕ → Message
opening_message user base =
    record {
      kind = kinds.OPEN_EXTENDED_MINING_CHANNEL;
      fields =
          Number 1 ∷ Bytes user ∷ no_rate ∷ Bytes (target base) ∷ Number 8 ∷ [];
    }

-- the channel is asked for once
abbrev pub set_up : Relay → Relay
set_up relay =
    if relay.is_set_up then relay
    else record relay {
      is_set_up = true;
      output = relay.output ++ frame_of_message (opening_message relay.user relay.base);
    }

-- the first channel is the one, whatever it is
abbrev pub first_opened : OpenedChannel → Option OpenedChannel → Option OpenedChannel
first_opened channel None = Some channel
first_opened channel (Some first) = Some first

abbrev pub retargeted : List ℕ → OpenedChannel → OpenedChannel
retargeted target channel =
    record {
      channel = channel.channel;
      target = target;
      lead = channel.lead;
      rolled = channel.rolled;
    }

abbrev pub relayed : Relay → Told → List Miner
relayed relay told = map (relayed_to (terms_of relay.base) told) relay.miners

-- submissions that pass a test are answered, in their order
abbrev pub said_each : (Data → Saying) → List SentOn → List Miner → List Miner
said_each said [] miners = miners
said_each said (sent ∷ more) miners =
    said_each said more (at_caller sent.caller (with_line (said sent.id)) miners)

abbrev pub answer_those : (SentOn → Bool) → (Data → Saying) → Relay → Relay
answer_those test said relay =
    record relay {
      waiting = filter (λ sent. not (test sent)) relay.waiting;
      miners = said_each said (filter test relay.waiting) relay.miners;
    }

abbrev pub job_heard : Relay → RelayedJob → Relay
job_heard relay job =
    record relay {
      jobs = with_job job relay.jobs;
      miners = relayed relay (job_told job);
    }

abbrev pub heard : Relay → Told → Relay
heard relay (Opened channel) = record relay { opened = first_opened channel relay.opened }
heard relay (NotOpened code) = relay
heard relay (Target target) =
    record relay {
      opened = option_map (retargeted target) relay.opened;
      miners = relayed relay (Target target);
    }
heard relay (Accepted number) =
    answer_those (λ sent. nat_le sent.number number) (λ id. Answer id yes) relay
heard relay (Refused number code) =
    answer_those (λ sent. sent.number == number) (λ id. CodeRefusal id code) relay
heard relay (Future job) = job_heard relay (record { job = job; min_ntime = None })
heard relay (Live job min_ntime) =
    job_heard relay (record { job = job; min_ntime = Some min_ntime })
heard relay (Tipped tip) =
    record relay {
      jobs = over_tip tip relay.jobs;
      tip = Some tip;
      miners = relayed relay (Tipped tip);
    }
heard relay Nothing = relay

abbrev pub heard_up : Relay → UpTold → Relay
heard_up relay SetUp = set_up relay
heard_up relay (Tells told) = heard relay told

-- nothing waits any more
abbrev pub ended : Relay → Relay
ended relay =
    record (answer_those (λ sent. true) (λ id. CodeRefusal id (code_of UpstreamLost)) relay) {
      is_ended = true;
    }

-- ---- a subscribe

-- a channel serves where a lead leaves at least a byte, and the whole fits an extranonce
abbrev pub serves : OpenedChannel → Bool
serves channel = nat_le 3 channel.rolled && nat_le channel.rolled 32

-- what a subscriber is given: its lead, and the channel as it is to see it
pub record Offer : Type 0 where
  pub lead : ℕ
  pub channel : OpenedChannel

abbrev pub offer_of : OpenedChannel → ℕ → Offer
offer_of channel lead =
    record {
      lead = lead;
      channel = record {
        channel = channel.channel;
        target = channel.target;
        lead = channel.lead ++ lead_bytes lead;
        rolled = channel.rolled - 2;
      };
    }

abbrev pub offer_at : OpenedChannel → Option ℕ → Result Offer ProxyRefusal
offer_at channel None = Err NoSpace
offer_at channel (Some lead) = Ok (offer_of channel lead)

abbrev pub offer_by : Bool → Option OpenedChannel → List Miner → Result Offer ProxyRefusal
offer_by is_ended None miners = Err NoUpstream
offer_by is_ended (Some channel) miners =
    if not is_ended && serves channel then offer_at channel (least_free miners)
    else Err NoUpstream

abbrev pub offer : Relay → Result Offer ProxyRefusal
offer relay = offer_by relay.is_ended relay.opened relay.miners

abbrev pub seat_of : Offer → Seat
seat_of offer =
    record {
      lead = offer.lead;
      channel = offer.channel.channel;
      rolled = offer.channel.rolled;
    }

abbrev pub seated_session : Seat → Miner → Option Session → Miner
seated_session seat miner None = miner
seated_session seat miner (Some session) =
    with_said miner (record { seat = Some seat; v1 = session.v1 }) []

abbrev pub seated : Seat → Miner → Miner
seated seat miner = seated_session seat miner miner.session

-- a subscriber is refused, or takes its seat and is told the channel and its jobs
abbrev pub subscribed :
    Terms → Option ToldTip → List RelayedJob → Result Offer ProxyRefusal → Miner → Miner
subscribed terms tip jobs (Err refusal) miner =
    told_to terms (NotOpened (code_of refusal)) miner
subscribed terms tip jobs (Ok offer) miner =
    told_all terms (jobs_told tip jobs)
    (told_to terms (Opened offer.channel) (seated (seat_of offer) miner))

-- ---- a name

-- a session takes one account
abbrev pub may_take : Option (List ℕ) → List ℕ → Bool
may_take None asked = true
may_take (Some account) asked = bytes_eq account asked

abbrev pub named_session : List ℕ → Miner → Option Session → Miner
named_session account miner None = miner
named_session account miner (Some session) =
    reacted miner session.seat
    (name_reaction session.v1 (may_take session.v1.account account))

abbrev pub named : List ℕ → Miner → Miner
named account miner = named_session account miner miner.session

-- ---- a submission

-- how many submissions go upstream
abbrev pub most_sent : ℕ
most_sent = 0xffffffff

abbrev pub sent_by : Seat → ℕ → SentShare → SentShare
sent_by seat number share =
    record {
      channel = seat.channel;
      sequence = number;
      job = share.job;
      nonce = share.nonce;
      ntime = share.ntime;
      version = share.version;
      extranonce = lead_bytes seat.lead ++ share.extranonce;
    }

-- what goes upstream, or why nothing does; who has no seat sends nothing
abbrev pub sent_from : Bool → ℕ → SentShare → Option Seat → Result SentShare ProxyRefusal
sent_from is_ended number share None = Err NoUpstream
sent_from is_ended number share (Some seat) =
    if length share.extranonce == seat.rolled
    then if is_ended then Err UpstreamLost
    else if nat_lt number most_sent then Ok (sent_by seat number share)
    else Err TooManyShares
    else Err WrongSize

-- the session answers for its share no more: the proxy does
abbrev pub handed_over_session : ℕ → Miner → Option Session → Miner
handed_over_session sequence miner None = miner
handed_over_session sequence miner (Some session) =
    with_said miner
    (record {
      seat = session.seat;
      v1 = record session.v1 { waiting = still_waiting sequence session.v1.waiting };
    })
    []

abbrev pub handed_over : ℕ → Miner → Miner
handed_over sequence miner = handed_over_session sequence miner miner.session

abbrev pub changed : Relay → ℕ → (Miner → Miner) → Relay
changed relay caller change =
    record relay { miners = at_caller caller change relay.miners }

-- a share is refused, or goes upstream and waits
abbrev pub shared : Relay → ℕ → Data → Result SentShare ProxyRefusal → Relay
shared relay caller id (Err refusal) =
    changed relay caller (with_line (CodeRefusal id (code_of refusal)))
shared relay caller id (Ok share) =
    record relay {
      sent = relay.sent + 1;
      waiting =
          relay.waiting ++ record { number = relay.sent; caller = caller; id = id } ∷ [];
      output = relay.output ++ frame_of_message (share_message share);
    }

abbrev pub shared_by : Relay → ℕ → Result SentShare ProxyRefusal → Option Data → Relay
shared_by relay caller sent None = relay
shared_by relay caller sent (Some id) = shared relay caller id sent

-- the id of a share's line; each share has one
abbrev pub share_id : ℕ → Option Session → Option Data
share_id sequence None = None
share_id sequence (Some session) = answered sequence session.v1.waiting

abbrev pub shared_from : Relay → ℕ → SentShare → Option Session → Relay
shared_from relay caller share session =
    shared_by (changed relay caller (handed_over share.sequence)) caller
    (sent_from relay.is_ended relay.sent share (seat_in session))
    (share_id share.sequence session)

-- ---- a line

-- what a session of Stratum V1 makes of a line, it says
abbrev pub line_said_by : Terms → List ℕ → Miner → Option Session → Miner
line_said_by terms line miner None = miner
line_said_by terms line miner (Some session) =
    reacted miner session.seat (line_reaction terms session.v1 line)

abbrev pub line_said : Terms → List ℕ → Miner → Miner
line_said terms line miner = line_said_by terms line miner miner.session

-- what it asks of its pool, the proxy answers; another difficulty isn't asked for upstream
abbrev pub asked : Relay → ℕ → Asking → Relay
asked relay caller Silence = relay
asked relay caller (Update channel class) = relay
asked relay caller (Open class) =
    changed relay caller
    (subscribed (terms_of relay.base) relay.tip relay.jobs (offer relay))
asked relay caller (Name account) = changed relay caller (named account)
asked relay caller (Share share) =
    shared_from relay caller share (session_of caller relay.miners)

-- a line of who isn't joined asks nothing
abbrev pub asks_by : Terms → List ℕ → Option Session → Asking
asks_by terms line None = Silence
asks_by terms line (Some session) = (line_reaction terms session.v1 line).asks

abbrev pub after_line : Relay → ℕ → List ℕ → Relay
after_line relay caller line = changed relay caller (line_said (terms_of relay.base) line)

abbrev pub line_heard : Relay → ℕ → List ℕ → Relay
line_heard relay caller line =
    asked (after_line relay caller line) caller
    (asks_by (terms_of relay.base) line (session_of caller relay.miners))

-- ---- joining and leaving

abbrev pub joined : Relay → ℕ → Relay
joined relay caller =
    record relay { miners = with_new caller (miner_of caller relay.miners) relay.miners }

-- what it sent is answered to nobody
abbrev pub parted : Relay → ℕ → Relay
parted relay caller =
    record relay {
      waiting = filter (λ sent. not (sent.caller == caller)) relay.waiting;
      miners = at_caller caller left relay.miners;
    }

-- ---- all events

abbrev pub step : Relay → ProxyEvent → Relay
step relay (event.Start user base) = relay
step relay (event.Up bytes) = heard_up relay (told_up bytes)
step relay event.UpEnd = ended relay
step relay (event.Join caller) =
    if is_joined caller relay.miners then relay else joined relay caller
step relay (event.Line caller line) = line_heard relay caller line
step relay (event.Leave caller) = parted relay caller

-- after inputs, in their order
abbrev pub after : Relay → List ProxyEvent → Relay
after relay [] = relay
after relay (input ∷ inputs) = after (step relay input) inputs

-- after a Start and inputs
abbrev pub relay_of : List ProxyEvent → Relay
relay_of (event.Start user base ∷ inputs) = after (started user base) inputs
relay_of inputs = after (started [] 0) inputs
