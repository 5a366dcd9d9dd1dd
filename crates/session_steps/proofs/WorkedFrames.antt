-- The worked session, frame by frame: what comes, what it asks for, and what is answered, byte for byte.
use Rattle.std.proofs.Common.{◌≡◌, ℕ, true, false, None, Some, List, [], ◌∷◌, ◌++◌, refl, lit≤}
use Rattle.std.specs.Prelude.{replicate}
use Rattle.sv2_types.specs.Fields.{Number, Truth, Bytes, Parts}
use Rattle.block_header.specs.Target.{number_bytes}
use Rattle.coinbase.specs.Compact.{compact}
use Rattle.pool_history.specs.declared.asking.OpenAsk.{OpenAsk}
use Rattle.pool_history.specs.declared.asking.Request.TheVariants as request
use Rattle.pool_history.specs.declared.events.Kind.TheVariants as kind
use Rattle.pool_history.specs.declared.events.Role.TheVariants as role
use Rattle.pool_history.specs.declared.refusals.Failed.TheVariants as failed
use Rattle.pool_history.specs.declared.refusals.CustomError.TheVariants as custom
use Rattle.pool_history.specs.declared.refusals.GrantError.TheVariants as grant
use Rattle.pool_history.specs.declared.replies.Reply.TheVariants as reply
use Rattle.pool_history.specs.declared.shares.Submission.{Submission}
use Rattle.pool_history.specs.declared.telling.Note.TheVariants as note
use Rattle.pool_history.proofs.Given.{extended_rolls, template_of, tip_of}
use Rattle.session_steps.specs.declared.about.About.{About}
use Rattle.session_steps.specs.declared.about.About.TheVariants.{Nothing, Opening, Share, Token, OwnJob, Declared}
use Rattle.session_steps.specs.Answers.{answer_frames, greeting}
use Rattle.job_declaration.specs.State.{start}
use Rattle.session_steps.specs.Asking.{Asks, message_of}
use Rattle.session_steps.specs.Setups.{Accepted, setup_in}
use Rattle.session_steps.specs.Steps.{bytes_of_frames}
use Rattle.session_steps.specs.Talks.{Talk}
use Rattle.session_steps.specs.Told.{declare_frame, mining_frame, template_frame}

-- a session that was set up, and asked about this
abbrev pub asked : About → Talk
asked about = record { role = role.Solo; rolling = true; declares = false; flags = Some 0; number = 0; about = about; declarations = start }

-- F1 sets it up, and A1 tells that version 2 is used
pub first_frame : mining_frame 0 (Number 0 ∷ Number 2 ∷ Number 2 ∷ Number 0 ∷ Bytes [] ∷ Number 0 ∷ Bytes [] ∷ Bytes [] ∷ Bytes [] ∷ Bytes [] ∷ []) ≡ (0x00 ∷ 0x00 ∷ 0x00 ∷ 0x10 ∷ 0x00 ∷ 0x00 ∷ []) ++ (0x00 ∷ 0x02 ∷ 0x00 ∷ 0x02 ∷ []) ++ replicate 12 0x00
first_frame = refl

pub first_is_accepted : setup_in role.Solo true (message_of 0 (Number 0 ∷ Number 2 ∷ Number 2 ∷ Number 0 ∷ Bytes [] ∷ Number 0 ∷ Bytes [] ∷ Bytes [] ∷ Bytes [] ∷ Bytes [] ∷ [])) ≡ Accepted 0
first_is_accepted = refl

pub first_answer : answer_frames (asked Nothing) (reply.Entered 0) ≡ (0x00 ∷ 0x00 ∷ 0x01 ∷ 0x06 ∷ 0x00 ∷ 0x00 ∷ 0x02 ∷ 0x00 ∷ 0x00 ∷ 0x00 ∷ 0x00 ∷ 0x00 ∷ []) ∷ []
first_answer = refl

-- F2 opens a channel, and A2 tells its id, its target and its lead
abbrev pub opening : OpenAsk
opening = record { kind = kind.Extended; identity = 0x61 ∷ []; max_target = replicate 32 0xff; min_size = 8; standard_rolls_none = extended_rolls 8 }

pub second_frame : mining_frame 0x13 (Number 7 ∷ Bytes (0x61 ∷ []) ∷ Bytes (replicate 4 0x00) ∷ Bytes (replicate 32 0xff) ∷ Number 8 ∷ []) ≡ (0x00 ∷ 0x00 ∷ 0x13 ∷ 0x2c ∷ 0x00 ∷ 0x00 ∷ 0x07 ∷ 0x00 ∷ 0x00 ∷ 0x00 ∷ 0x01 ∷ 0x61 ∷ 0x00 ∷ 0x00 ∷ 0x00 ∷ 0x00 ∷ []) ++ replicate 32 0xff ++ (0x08 ∷ 0x00 ∷ [])
second_frame = refl

pub second_asks : Asks (message_of 0x13 (Number 7 ∷ Bytes (0x61 ∷ []) ∷ Bytes (replicate 4 0x00) ∷ Bytes (replicate 32 0xff) ∷ Number 8 ∷ [])) (request.Open opening) (Opening 7 kind.Extended)
second_asks = record { request_id = 7; rate = replicate 4 0x00; opening = refl; about_it = refl }

pub second_answer : answer_frames (asked (Opening 7 kind.Extended)) (reply.Opened (record { channel = 1; class = 0; lead = replicate 4 0 })) ≡ ((0x00 ∷ 0x00 ∷ 0x14 ∷ 0x2f ∷ 0x00 ∷ 0x00 ∷ 0x07 ∷ 0x00 ∷ 0x00 ∷ 0x00 ∷ 0x01 ∷ 0x00 ∷ 0x00 ∷ 0x00 ∷ []) ++ replicate 32 0xff ++ (0x08 ∷ 0x00 ∷ 0x04 ∷ 0x00 ∷ 0x00 ∷ 0x00 ∷ 0x00 ∷ [])) ∷ []
unfolding number_bytes
second_answer = refl

-- a standard channel would get eight zero bytes behind its lead, and the group of its session
pub standard_answer : answer_frames (record (asked (Opening 7 kind.Standard)) { number = 3 }) (reply.Opened (record { channel = 1; class = 0; lead = 0x00 ∷ 0x00 ∷ 0x00 ∷ 0x09 ∷ [] })) ≡ ((0x00 ∷ 0x00 ∷ 0x11 ∷ 0x39 ∷ 0x00 ∷ 0x00 ∷ 0x07 ∷ 0x00 ∷ 0x00 ∷ 0x00 ∷ 0x01 ∷ 0x00 ∷ 0x00 ∷ 0x00 ∷ []) ++ replicate 32 0xff ++ (0x0c ∷ 0x00 ∷ 0x00 ∷ 0x00 ∷ 0x09 ∷ []) ++ replicate 8 0x00 ++ (0x03 ∷ 0x00 ∷ 0x00 ∷ 0x80 ∷ [])) ∷ []
unfolding number_bytes
standard_answer = refl

-- F3 brings a template, and A3 its job
pub third_frame : template_frame 0x71 (Number 5 ∷ Truth true ∷ Number 0x20000000 ∷ Number 2 ∷ Bytes (0x51 ∷ 0x51 ∷ []) ∷ Number 0xffffffff ∷ Number 1000 ∷ Number 0 ∷ Bytes [] ∷ Number 0 ∷ Parts [] ∷ []) ≡ (0x00 ∷ 0x00 ∷ 0x71 ∷ 0x2b ∷ 0x00 ∷ 0x00 ∷ 0x05 ∷ []) ++ replicate 7 0x00 ++ (0x01 ∷ 0x00 ∷ 0x00 ∷ 0x00 ∷ 0x20 ∷ 0x02 ∷ 0x00 ∷ 0x00 ∷ 0x00 ∷ 0x02 ∷ 0x51 ∷ 0x51 ∷ 0xff ∷ 0xff ∷ 0xff ∷ 0xff ∷ 0xe8 ∷ 0x03 ∷ []) ++ replicate 6 0x00 ++ replicate 11 0x00
third_frame = refl

pub third_asks : Asks (message_of 0x71 (Number 5 ∷ Truth true ∷ Number 0x20000000 ∷ Number 2 ∷ Bytes (0x51 ∷ 0x51 ∷ []) ∷ Number 0xffffffff ∷ Number 1000 ∷ Number 0 ∷ Bytes [] ∷ Number 0 ∷ Parts [] ∷ [])) (request.Template (template_of 5 true)) Nothing
third_asks = (refl, refl)

-- the two parts of the coinbase
abbrev pub prefix : List ℕ
prefix = (0x02 ∷ 0x00 ∷ 0x00 ∷ 0x00 ∷ 0x01 ∷ []) ++ replicate 32 0x00 ++ (0xff ∷ 0xff ∷ 0xff ∷ 0xff ∷ 0x0e ∷ 0x51 ∷ 0x51 ∷ [])

abbrev pub suffix : List ℕ
suffix = (0xff ∷ 0xff ∷ 0xff ∷ 0xff ∷ 0x01 ∷ 0xe8 ∷ 0x03 ∷ []) ++ replicate 6 0x00 ++ (0x01 ∷ 0x51 ∷ 0x00 ∷ 0x00 ∷ 0x00 ∷ 0x00 ∷ [])

pub third_news : bytes_of_frames (answer_frames (asked Nothing) (reply.News 4 (note.Extended 1 1 None 0x20000000 true [] prefix suffix ∷ []))) ≡ (0x00 ∷ 0x80 ∷ 0x1f ∷ 0x52 ∷ 0x00 ∷ 0x00 ∷ 0x01 ∷ 0x00 ∷ 0x00 ∷ 0x00 ∷ 0x01 ∷ 0x00 ∷ 0x00 ∷ 0x00 ∷ 0x00 ∷ 0x00 ∷ 0x00 ∷ 0x00 ∷ 0x20 ∷ 0x01 ∷ 0x00 ∷ 0x2c ∷ 0x00 ∷ []) ++ prefix ++ (0x13 ∷ 0x00 ∷ []) ++ suffix
third_news = refl

-- F4 brings a tip, and A4 tells it
pub fourth_frame : template_frame 0x72 (Number 5 ∷ Bytes (replicate 32 0x11) ∷ Number 1000000 ∷ Number 0x207fffff ∷ Bytes (replicate 32 0xff) ∷ []) ≡ (0x00 ∷ 0x00 ∷ 0x72 ∷ 0x50 ∷ 0x00 ∷ 0x00 ∷ 0x05 ∷ []) ++ replicate 7 0x00 ++ replicate 32 0x11 ++ (0x40 ∷ 0x42 ∷ 0x0f ∷ 0x00 ∷ 0xff ∷ 0xff ∷ 0x7f ∷ 0x20 ∷ []) ++ replicate 32 0xff
fourth_frame = refl

pub fourth_asks : Asks (message_of 0x72 (Number 5 ∷ Bytes (replicate 32 0x11) ∷ Number 1000000 ∷ Number 0x207fffff ∷ Bytes (replicate 32 0xff) ∷ [])) (request.Tip (tip_of 5 0x11)) Nothing
fourth_asks = (refl, refl)

pub fourth_news : bytes_of_frames (answer_frames (asked Nothing) (reply.News 5 (note.PrevHash 1 1 (replicate 32 0x11) 1000000 0x207fffff ∷ []))) ≡ (0x00 ∷ 0x80 ∷ 0x20 ∷ 0x30 ∷ 0x00 ∷ 0x00 ∷ 0x01 ∷ 0x00 ∷ 0x00 ∷ 0x00 ∷ 0x01 ∷ 0x00 ∷ 0x00 ∷ 0x00 ∷ []) ++ replicate 32 0x11 ++ (0x40 ∷ 0x42 ∷ 0x0f ∷ 0x00 ∷ 0xff ∷ 0xff ∷ 0x7f ∷ 0x20 ∷ [])
fourth_news = refl

-- F5 submits a share, and A5 credits it with its work and brings the block to who sent the template
abbrev pub sub : Submission
sub = record {
  kind = kind.Extended;
  channel = 1;
  sequence = 9;
  job = 1;
  nonce = 0;
  ntime = 1000000;
  version = 0x20000000;
  extranonce = replicate 32 0;
  extranonce_len = 8;
  extranonce_fits = lit≤ tt;
}

-- its frame came with the channel bit, as it is written
pub fifth_frame : mining_frame 0x1b (Number 1 ∷ Number 9 ∷ Number 1 ∷ Number 0 ∷ Number 1000000 ∷ Number 0x20000000 ∷ Bytes (replicate 8 0x00) ∷ []) ≡ (0x00 ∷ 0x80 ∷ 0x1b ∷ 0x21 ∷ 0x00 ∷ 0x00 ∷ 0x01 ∷ 0x00 ∷ 0x00 ∷ 0x00 ∷ 0x09 ∷ 0x00 ∷ 0x00 ∷ 0x00 ∷ 0x01 ∷ 0x00 ∷ 0x00 ∷ 0x00 ∷ 0x00 ∷ 0x00 ∷ 0x00 ∷ 0x00 ∷ 0x40 ∷ 0x42 ∷ 0x0f ∷ 0x00 ∷ 0x00 ∷ 0x00 ∷ 0x00 ∷ 0x20 ∷ 0x08 ∷ []) ++ replicate 8 0x00
fifth_frame = refl

pub fifth_asks : Asks (message_of 0x1b (Number 1 ∷ Number 9 ∷ Number 1 ∷ Number 0 ∷ Number 1000000 ∷ Number 0x20000000 ∷ Bytes (replicate 8 0x00) ∷ [])) (request.Brief sub) (Share sub)
fifth_asks = record { sharing = refl; about_it = refl }

pub fifth_answer : answer_frames (asked (Share sub)) (reply.Credited 1) ≡ (0x00 ∷ 0x80 ∷ 0x1c ∷ 0x14 ∷ 0x00 ∷ 0x00 ∷ 0x01 ∷ 0x00 ∷ 0x00 ∷ 0x00 ∷ 0x09 ∷ 0x00 ∷ 0x00 ∷ 0x00 ∷ 0x01 ∷ 0x00 ∷ 0x00 ∷ 0x00 ∷ 0x01 ∷ 0x00 ∷ 0x00 ∷ 0x00 ∷ 0x00 ∷ 0x00 ∷ 0x00 ∷ 0x00 ∷ []) ∷ []
fifth_answer = refl

pub fifth_news : bytes_of_frames (answer_frames (asked (Share sub)) (reply.News 6 (note.Solution 5 0x20000000 1000000 0 (prefix ++ replicate 12 0x00 ++ suffix) ∷ []))) ≡ (0x00 ∷ 0x00 ∷ 0x76 ∷ 0x61 ∷ 0x00 ∷ 0x00 ∷ 0x05 ∷ []) ++ replicate 7 0x00 ++ (0x00 ∷ 0x00 ∷ 0x00 ∷ 0x20 ∷ 0x40 ∷ 0x42 ∷ 0x0f ∷ 0x00 ∷ 0x00 ∷ 0x00 ∷ 0x00 ∷ 0x00 ∷ 0x4b ∷ 0x00 ∷ []) ++ prefix ++ replicate 12 0x00 ++ suffix
fifth_news = refl

-- a share that is stale
pub stale_answer : answer_frames (asked (Share sub)) (reply.Refused failed.Stale) ≡ (0x00 ∷ 0x80 ∷ 0x1d ∷ 0x14 ∷ 0x00 ∷ 0x00 ∷ 0x01 ∷ 0x00 ∷ 0x00 ∷ 0x00 ∷ 0x09 ∷ 0x00 ∷ 0x00 ∷ 0x00 ∷ 0x0b ∷ 0x73 ∷ 0x74 ∷ 0x61 ∷ 0x6c ∷ 0x65 ∷ 0x2d ∷ 0x73 ∷ 0x68 ∷ 0x61 ∷ 0x72 ∷ 0x65 ∷ []) ∷ []
stale_answer = refl

-- a token is asked for, and comes with the output that pays nothing to the pool's script
pub token_frame : declare_frame 0x50 (Bytes (0x61 ∷ []) ∷ Number 3 ∷ []) ≡ 0x00 ∷ 0x00 ∷ 0x50 ∷ 0x06 ∷ 0x00 ∷ 0x00 ∷ 0x01 ∷ 0x61 ∷ 0x03 ∷ 0x00 ∷ 0x00 ∷ 0x00 ∷ []
token_frame = refl

pub token_answer : answer_frames (asked (Token 3)) (reply.Granted 1 (0x51 ∷ [])) ≡ ((0x00 ∷ 0x00 ∷ 0x51 ∷ 0x19 ∷ 0x00 ∷ 0x00 ∷ 0x03 ∷ 0x00 ∷ 0x00 ∷ 0x00 ∷ 0x08 ∷ 0x01 ∷ []) ++ replicate 7 0x00 ++ (0x0a ∷ 0x00 ∷ []) ++ replicate 8 0x00 ++ (0x01 ∷ 0x51 ∷ [])) ∷ []
unfolding compact
token_answer = refl

-- a declaration is answered with its token, or refused where no more are granted
pub declared_answer : answer_frames (asked (Declared 5)) (reply.Granted 2 (0x51 ∷ [])) ≡ ((0x00 ∷ 0x00 ∷ 0x58 ∷ 0x0d ∷ 0x00 ∷ 0x00 ∷ 0x05 ∷ 0x00 ∷ 0x00 ∷ 0x00 ∷ 0x08 ∷ 0x02 ∷ []) ++ replicate 7 0x00) ∷ []
declared_answer = refl

pub declared_refused : answer_frames (asked (Declared 5)) (reply.GrantRefused (grant.TooManyGrants 262144)) ≡ (0x00 ∷ 0x00 ∷ 0x59 ∷ 0x16 ∷ 0x00 ∷ 0x00 ∷ 0x05 ∷ 0x00 ∷ 0x00 ∷ 0x00 ∷ 0x0f ∷ 0x74 ∷ 0x6f ∷ 0x6f ∷ 0x2d ∷ 0x6d ∷ 0x61 ∷ 0x6e ∷ 0x79 ∷ 0x2d ∷ 0x67 ∷ 0x72 ∷ 0x61 ∷ 0x6e ∷ 0x74 ∷ 0x73 ∷ 0x00 ∷ 0x00 ∷ []) ∷ []
declared_refused = refl

-- a miner's own job is taken, or refused
pub own_job_answer : answer_frames (asked (OwnJob 1 4)) (reply.CustomJob 2) ≡ (0x00 ∷ 0x00 ∷ 0x23 ∷ 0x0c ∷ 0x00 ∷ 0x00 ∷ 0x01 ∷ 0x00 ∷ 0x00 ∷ 0x00 ∷ 0x04 ∷ 0x00 ∷ 0x00 ∷ 0x00 ∷ 0x02 ∷ 0x00 ∷ 0x00 ∷ 0x00 ∷ []) ∷ []
own_job_answer = refl

pub own_job_refused : answer_frames (asked (OwnJob 1 4)) (reply.CustomRefused custom.BadToken) ≡ (0x00 ∷ 0x00 ∷ 0x24 ∷ 0x21 ∷ 0x00 ∷ 0x00 ∷ 0x01 ∷ 0x00 ∷ 0x00 ∷ 0x00 ∷ 0x04 ∷ 0x00 ∷ 0x00 ∷ 0x00 ∷ 0x18 ∷ 0x69 ∷ 0x6e ∷ 0x76 ∷ 0x61 ∷ 0x6c ∷ 0x69 ∷ 0x64 ∷ 0x2d ∷ 0x6d ∷ 0x69 ∷ 0x6e ∷ 0x69 ∷ 0x6e ∷ 0x67 ∷ 0x2d ∷ 0x6a ∷ 0x6f ∷ 0x62 ∷ 0x2d ∷ 0x74 ∷ 0x6f ∷ 0x6b ∷ 0x65 ∷ 0x6e ∷ []) ∷ []
own_job_refused = refl

-- a feed is greeted by a setup of template distribution and by the room for one output
pub feed_greeting : bytes_of_frames (greeting role.Feed) ≡ (0x00 ∷ 0x00 ∷ 0x00 ∷ 0x10 ∷ 0x00 ∷ 0x00 ∷ 0x02 ∷ 0x02 ∷ 0x00 ∷ 0x02 ∷ []) ++ replicate 12 0x00 ++ (0x00 ∷ 0x00 ∷ 0x70 ∷ 0x06 ∷ 0x00 ∷ 0x00 ∷ 0x6d ∷ 0x00 ∷ 0x00 ∷ 0x00 ∷ 0x90 ∷ 0x01 ∷ [])
feed_greeting = refl
