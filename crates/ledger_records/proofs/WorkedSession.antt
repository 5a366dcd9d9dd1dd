-- The worked session with its hashes computed: its header, its credit, its block, its ledger of format 2, and what else
-- a hash decides. The expected hashes are of another program's SHA-256.
use Rattle.std.proofs.Common.{◌≡◌, ℕ, None, Some, List, [], ◌∷◌, ◌++◌, refl}
use Rattle.std.specs.Prelude.{replicate}
use Rattle.sha2.specs.Sha256.{sha256, digest_bytes, hash_after, compress, rounds, schedule, first_words}
use Rattle.block_header.specs.Hash.{dsha}
use Rattle.coinbase.specs.Compact.{compact}
use Rattle.coinbase.specs.Outputs.{outputs_within}
use Rattle.coinbase.specs.Reading.{number_at, compact_at, sized_at, output_at}
use Rattle.pool_history.specs.declared.causes.Cause.TheVariants as cause
use Rattle.pool_history.specs.declared.events.Event.{Event}
use Rattle.pool_history.specs.declared.events.Event.TheVariants as event
use Rattle.pool_history.specs.declared.events.Kind.TheVariants as kind
use Rattle.pool_history.specs.declared.refusals.Failed.TheVariants as failed
use Rattle.pool_history.specs.declared.replies.Reply.TheVariants as reply
use Rattle.pool_history.specs.declared.telling.Note.TheVariants as note
use Rattle.pool_history.specs.Answering.{committing, with_event}
use Rattle.pool_history.specs.Crediting.{bookings_of, headers}
use Rattle.pool_history.specs.Judging.{admission}
use Rattle.pool_history.specs.Ledger.{ledger_text, record_of}
use Rattle.pool_history.specs.Legal.{Legal, cause_of}
use Rattle.pool_history.specs.News.{news, root_for}
use Rattle.pool_history.specs.Sessions.{past_of}
use Rattle.pool_history.specs.Sessions as sessions
use Rattle.pool_history.specs.Summary.{summary_of}
use Rattle.pool_history.proofs.Given.{rules, start, enters, opens, comes, tips, tip_of, credits, leaves, session, share, templated, tipped}
use Rattle.pool_history.proofs.OwnJobs.{brings, granted}
use Rattle.pool_history.proofs.NewsRows.{first_job, standard_channel}
use Rattle.pool_history.proofs.SessionS.{cause_of-start, cause_of-enters, cause_of-opens, cause_of-comes, cause_of-tips, cause_of-leaves}
use Rattle.ledger_records.specs.Keeping.{IsKept}
use Rattle.ledger_records.proofs.Examples.{session_is_kept}

-- the credit is legal after the events before it, and so the whole session is
pub credit_has_no_cause : cause_of tipped credits ≡ None
unfolding sha256 digest_bytes hash_after compress rounds schedule first_words compact
credit_has_no_cause = refl

pub session_is_legal : Legal session
session_is_legal =
    (((((((tt, cause_of-start), cause_of-enters), cause_of-opens), cause_of-comes), cause_of-tips), credit_has_no_cause), cause_of-leaves)

-- it has a ledger too, so a history with a credit is kept
pub whole_session_is_kept : IsKept session
whole_session_is_kept = record { legal = session_is_legal; has_ledger = session_is_kept }

-- the credit's header and its hash
abbrev pub header : List ℕ
header =
    (0x00 ∷ 0x00 ∷ 0x00 ∷ 0x20 ∷ []) ++ replicate 32 0x11
    ++ (0x9f ∷ 0xa2 ∷ 0xee ∷ 0x0a ∷ 0x64 ∷ 0xaf ∷ 0xf5 ∷ 0x44 ∷ 0x00 ∷ 0x7e ∷ 0xa4 ∷ 0xd5 ∷ 0xbf ∷ 0x73 ∷ 0xd8 ∷ 0x56 ∷ 0xac ∷ 0xa2 ∷ 0xf0 ∷ 0x54 ∷ 0xba ∷ 0xa5 ∷ 0xe1 ∷ 0xa2 ∷ 0xdb ∷ 0xe5 ∷ 0xcb ∷ 0x37 ∷ 0xbd ∷ 0x89 ∷ 0xff ∷ 0x1b ∷ [])
    ++ (0x40 ∷ 0x42 ∷ 0x0f ∷ 0x00 ∷ 0xff ∷ 0xff ∷ 0x7f ∷ 0x20 ∷ []) ++ replicate 4 0x00

pub headers_of_session : headers (past_of session) ≡ header ∷ []
unfolding sha256 digest_bytes hash_after compress rounds schedule first_words compact
headers_of_session = refl

pub hash_of_header : dsha header ≡ (0x44 ∷ 0x8d ∷ 0x14 ∷ 0xc9 ∷ 0xd6 ∷ 0xb1 ∷ 0x3d ∷ 0x48 ∷ 0x48 ∷ 0x91 ∷ 0x99 ∷ 0xbc ∷ 0x80 ∷ 0x61 ∷ 0xba ∷ 0x53 ∷ 0x07 ∷ 0x54 ∷ 0x3c ∷ 0x9c ∷ 0xd8 ∷ 0x35 ∷ 0xeb ∷ 0xfd ∷ 0x6f ∷ 0x33 ∷ 0x5e ∷ 0x5f ∷ 0xc6 ∷ 0x60 ∷ 0x4c ∷ 0x96 ∷ [])
unfolding sha256 digest_bytes hash_after compress rounds schedule first_words compact
hash_of_header = refl

-- it is one credit of work 1, and a block with the whole reward of its template
pub booked_of_session : bookings_of (past_of session) ≡ record { account = 0x61 ∷ []; work = 1; reward = Some 1000 } ∷ []
unfolding sha256 digest_bytes hash_after compress rounds schedule first_words compact
booked_of_session = refl

pub credits_of_session : sessions.credits (past_of session) ≡ 1
credits_of_session = refl

pub summary_of_session : summary_of (past_of session) ≡ record {
  sessions = 1;
  events = 7;
  credits = 1;
  blocks = 1;
  pool = 10;
  accounts = record { account = 0x61 ∷ []; work = 1; balance = 990 } ∷ [];
}
unfolding sha256 digest_bytes hash_after compress rounds schedule first_words compact
summary_of_session = refl

-- the answer to its share
pub step-commit : committing rules tipped 0 share (admission rules tipped 0 share) ≡ with_event credits (reply.Credited 1)
unfolding sha256 digest_bytes hash_after compress rounds schedule first_words compact
step-commit = refl

-- the news of the block: its solution, for the session that sent the template
pub news-block : news 5 (credits ∷ tipped) 0 ≡ note.Solution 5 0x20000000 1000000 0
    ((0x02 ∷ 0x00 ∷ 0x00 ∷ 0x00 ∷ 0x01 ∷ []) ++ replicate 32 0x00 ++ (0xff ∷ 0xff ∷ 0xff ∷ 0xff ∷ 0x0e ∷ 0x51 ∷ 0x51 ∷ []) ++ replicate 12 0x00
    ++ (0xff ∷ 0xff ∷ 0xff ∷ 0xff ∷ 0x01 ∷ 0xe8 ∷ 0x03 ∷ []) ++ replicate 6 0x00 ++ (0x01 ∷ 0x51 ∷ 0x00 ∷ 0x00 ∷ 0x00 ∷ 0x00 ∷ [])) ∷ []
unfolding outputs_within sha256 digest_bytes hash_after compress rounds schedule first_words compact
news-block = refl

-- the root of the same job on a standard channel with the same lead
pub root_of-standard : root_for (0x51 ∷ []) standard_channel first_job ≡ (0x9f ∷ 0xa2 ∷ 0xee ∷ 0x0a ∷ 0x64 ∷ 0xaf ∷ 0xf5 ∷ 0x44 ∷ 0x00 ∷ 0x7e ∷ 0xa4 ∷ 0xd5 ∷ 0xbf ∷ 0x73 ∷ 0xd8 ∷ 0x56 ∷ 0xac ∷ 0xa2 ∷ 0xf0 ∷ 0x54 ∷ 0xba ∷ 0xa5 ∷ 0xe1 ∷ 0xa2 ∷ 0xdb ∷ 0xe5 ∷ 0xcb ∷ 0x37 ∷ 0xbd ∷ 0x89 ∷ 0xff ∷ 0x1b ∷ [])
unfolding sha256 digest_bytes hash_after compress rounds schedule first_words compact
root_of-standard = refl

-- the ledger of format 2, record for record
pub ledger_of_session : ledger_text session ≡ (0x53 ∷ 0x56 ∷ 0x32 ∷ 0x4c ∷ 0x45 ∷ 0x44 ∷ 0x47 ∷ 0x32 ∷ [])
    ++ record_of start ++ (0x54 ∷ 0xd7 ∷ 0x35 ∷ 0x50 ∷ 0x56 ∷ 0xae ∷ 0xd4 ∷ 0x44 ∷ 0xba ∷ 0x9a ∷ 0x96 ∷ 0xe3 ∷ 0xa9 ∷ 0x17 ∷ 0x1d ∷ 0xe3 ∷ 0xb1 ∷ 0x76 ∷ 0xa1 ∷ 0xbb ∷ 0xbb ∷ 0xe9 ∷ 0xd9 ∷ 0x2c ∷ 0x98 ∷ 0x81 ∷ 0x34 ∷ 0x9a ∷ 0xe5 ∷ 0x70 ∷ 0xfa ∷ 0xae ∷ [])
    ++ record_of enters ++ (0x51 ∷ 0xcf ∷ 0x73 ∷ 0xa6 ∷ 0x28 ∷ 0x9b ∷ 0x23 ∷ 0xac ∷ 0x21 ∷ 0x24 ∷ 0xdd ∷ 0xee ∷ 0x4d ∷ 0xa9 ∷ 0xbc ∷ 0x37 ∷ 0xcc ∷ 0x36 ∷ 0x95 ∷ 0x33 ∷ 0xf5 ∷ 0xf9 ∷ 0x0f ∷ 0x75 ∷ 0xbf ∷ 0x4d ∷ 0xc0 ∷ 0xe6 ∷ 0x85 ∷ 0xdc ∷ 0x57 ∷ 0x3d ∷ [])
    ++ record_of opens ++ (0x95 ∷ 0xc3 ∷ 0x6d ∷ 0xe8 ∷ 0x82 ∷ 0x8a ∷ 0x71 ∷ 0xa4 ∷ 0x8b ∷ 0xbd ∷ 0xa7 ∷ 0xdb ∷ 0x8e ∷ 0x16 ∷ 0xdf ∷ 0x64 ∷ 0xc5 ∷ 0x57 ∷ 0xb8 ∷ 0xa1 ∷ 0x42 ∷ 0x44 ∷ 0xd2 ∷ 0x3f ∷ 0x7f ∷ 0xa3 ∷ 0xd4 ∷ 0x1e ∷ 0xe9 ∷ 0xa3 ∷ 0xb4 ∷ 0x13 ∷ [])
    ++ record_of comes ++ (0x1b ∷ 0x53 ∷ 0xe4 ∷ 0x6b ∷ 0x0e ∷ 0xf7 ∷ 0xdc ∷ 0xd1 ∷ 0x73 ∷ 0xb6 ∷ 0xa3 ∷ 0xfc ∷ 0x2b ∷ 0x81 ∷ 0x48 ∷ 0x71 ∷ 0x9d ∷ 0xce ∷ 0x28 ∷ 0x8b ∷ 0x71 ∷ 0xc8 ∷ 0x73 ∷ 0xa1 ∷ 0xbf ∷ 0xb8 ∷ 0x4c ∷ 0x08 ∷ 0x57 ∷ 0xa2 ∷ 0x6c ∷ 0xcf ∷ [])
    ++ record_of tips ++ (0xfe ∷ 0x04 ∷ 0xcd ∷ 0x9a ∷ 0xa5 ∷ 0xaa ∷ 0x34 ∷ 0x5c ∷ 0x90 ∷ 0xc1 ∷ 0x5f ∷ 0x53 ∷ 0x9e ∷ 0xf5 ∷ 0x8a ∷ 0xba ∷ 0xf4 ∷ 0xd3 ∷ 0x6b ∷ 0x16 ∷ 0x68 ∷ 0x7b ∷ 0xb6 ∷ 0xfd ∷ 0x21 ∷ 0x3f ∷ 0x09 ∷ 0xab ∷ 0xbe ∷ 0x07 ∷ 0xa6 ∷ 0x03 ∷ [])
    ++ record_of credits ++ (0xde ∷ 0x6d ∷ 0x46 ∷ 0xc8 ∷ 0x38 ∷ 0xf2 ∷ 0x3d ∷ 0xee ∷ 0x3f ∷ 0x15 ∷ 0x92 ∷ 0xb0 ∷ 0x09 ∷ 0x0f ∷ 0xf2 ∷ 0xc3 ∷ 0xc9 ∷ 0x93 ∷ 0x4d ∷ 0x9b ∷ 0xbd ∷ 0xed ∷ 0xaa ∷ 0x5f ∷ 0xc9 ∷ 0xe2 ∷ 0x99 ∷ 0x2f ∷ 0xf9 ∷ 0xfb ∷ 0xa5 ∷ 0x94 ∷ [])
    ++ record_of leaves ++ (0xb5 ∷ 0xbc ∷ 0xc6 ∷ 0x36 ∷ 0x2a ∷ 0xd0 ∷ 0x15 ∷ 0x1c ∷ 0x28 ∷ 0xf4 ∷ 0x0b ∷ 0x41 ∷ 0xc1 ∷ 0xf1 ∷ 0xb7 ∷ 0xda ∷ 0x91 ∷ 0xc2 ∷ 0x44 ∷ 0xdb ∷ 0x02 ∷ 0x24 ∷ 0xe2 ∷ 0x3c ∷ 0x0f ∷ 0x51 ∷ 0x66 ∷ 0x96 ∷ 0x6f ∷ 0x36 ∷ 0x31 ∷ 0xb7 ∷ [])
unfolding sha256 digest_bytes hash_after compress rounds schedule first_words compact
ledger_of_session = refl

-- the same share once more
pub cause_of-share_twice : cause_of (credits ∷ tipped) credits ≡ Some (cause.Share failed.Duplicate)
unfolding sha256 digest_bytes hash_after compress rounds schedule first_words compact
cause_of-share_twice = refl

-- the same share on a channel of class 1: the hash's highest bit is set
abbrev pub opens_harder : Event
opens_harder = event.Open 0 kind.Extended (0x61 ∷ []) 1 (replicate 4 0)

pub cause_of-share_too_easy : cause_of (tips ∷ comes ∷ opens_harder ∷ enters ∷ start ∷ []) credits ≡ Some (cause.Share failed.Difficulty)
unfolding sha256 digest_bytes hash_after compress rounds schedule first_words compact
cause_of-share_too_easy = refl

-- a fourth share where three are the most
abbrev pub credits_with : ℕ → Event
credits_with nonce = event.Credit 0 1 1 nonce 1000000 0x20000000 (replicate 8 0)

pub cause_of-share_too_many : cause_of (credits_with 2 ∷ credits_with 1 ∷ credits ∷ tipped) (credits_with 3) ≡ Some (cause.Share failed.Full)
unfolding sha256 digest_bytes hash_after compress rounds schedule first_words compact
cause_of-share_too_many = refl

-- the same share under a tip whose target is zero is a credit and no block
pub booked_without_block : bookings_of (credits ∷ event.Tip 0 (record (tip_of 5 0x11) { target = replicate 32 0 }) ∷ templated)
    ≡ record { account = 0x61 ∷ []; work = 1; reward = None } ∷ []
unfolding sha256 digest_bytes hash_after compress rounds schedule first_words compact
booked_without_block = refl

-- the same share on the miner's own job is a block too, with the reward that the job's outputs pay
abbrev pub with_own_credit : List Event
with_own_credit = event.Credit 0 1 2 0 1000000 0x20000000 (replicate 8 0) ∷ brings ∷ granted

pub booked_of-own_job : bookings_of with_own_credit ≡ record { account = 0x61 ∷ []; work = 1; reward = Some 2000 } ∷ []
unfolding outputs_within output_at sized_at compact_at number_at sha256 digest_bytes hash_after compress rounds schedule first_words compact
booked_of-own_job = refl

pub summary_of-own_job : summary_of with_own_credit ≡ record {
  sessions = 1;
  events = 8;
  credits = 1;
  blocks = 1;
  pool = 20;
  accounts = record { account = 0x61 ∷ []; work = 1; balance = 1980 } ∷ [];
}
unfolding outputs_within output_at sized_at compact_at number_at sha256 digest_bytes hash_after compress rounds schedule first_words compact
summary_of-own_job = refl
