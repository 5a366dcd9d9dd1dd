-- The worked session: its records, its coinbase, and its answers as far as no hash decides.
use Rattle.std.proofs.Common.{◌≡◌, ◌++◌, true, None, [], ◌∷◌, length, refl}
use Rattle.std.specs.Prelude.{replicate, map}
use Rattle.block_header.specs.Target.{first_class}
use Rattle.coinbase.specs.Compact.{compact}
use Rattle.coinbase.specs.Outputs.{outputs_within}
use Rattle.pool_history.specs.declared.asking.Request.TheVariants as request
use Rattle.pool_history.specs.declared.events.Kind.TheVariants as kind
use Rattle.pool_history.specs.declared.events.Role.TheVariants as role
use Rattle.pool_history.specs.declared.replies.Reply.TheVariants as reply
use Rattle.pool_history.specs.declared.telling.Note.TheVariants as note
use Rattle.pool_history.specs.Answering.{step, with_event}
use Rattle.pool_history.specs.Jobs.{FromTemplate}
use Rattle.pool_history.specs.Judging.{job_parts}
use Rattle.pool_history.specs.Ledger.{ledger_text_1, record_of}
use Rattle.pool_history.specs.Legal.{cause_of}
use Rattle.pool_history.specs.News.{news}
use Rattle.pool_history.specs.Spaces.{first_free}
use Rattle.pool_history.proofs.Given.{extended_rolls, template_of, tip_of, start, enters, opens, comes, tips, credits, leaves, session, opened, templated, tipped}

pub record_of-start : record_of start ≡ (0x00 ∷ 0x19 ∷ 0x00 ∷ 0x00 ∷ 0x01 ∷ 0x51 ∷ 0x00 ∷ 0x64 ∷ []) ++ replicate 10 0x00 ++ (0x58 ∷ 0x02 ∷ 0x00 ∷ 0x00 ∷ 0x03 ∷ 0x00 ∷ 0x00 ∷ 0x00 ∷ 0x01 ∷ 0x00 ∷ 0x00 ∷ [])
record_of-start = refl

pub record_of-enters : record_of enters ≡ (0x01 ∷ 0x09 ∷ []) ++ replicate 6 0x00 ++ (0x02 ∷ 0x00 ∷ 0x00 ∷ 0x00 ∷ 0x00 ∷ [])
record_of-enters = refl

pub record_of-opens : record_of opens ≡ (0x04 ∷ 0x0d ∷ []) ++ replicate 6 0x00 ++ (0x01 ∷ 0x01 ∷ 0x61 ∷ 0x00 ∷ 0x04 ∷ 0x00 ∷ 0x00 ∷ 0x00 ∷ 0x00 ∷ [])
record_of-opens = refl

pub record_of-comes : record_of comes ≡ (0x02 ∷ 0x2f ∷ []) ++ replicate 6 0x00 ++ (0x05 ∷ []) ++ replicate 7 0x00 ++ (0x01 ∷ 0x00 ∷ 0x00 ∷ 0x00 ∷ 0x20 ∷ 0x02 ∷ 0x00 ∷ 0x00 ∷ 0x00 ∷ 0x02 ∷ 0x51 ∷ 0x51 ∷ 0xff ∷ 0xff ∷ 0xff ∷ 0xff ∷ 0xe8 ∷ 0x03 ∷ []) ++ replicate 17 0x00
record_of-comes = refl

pub record_of-tips : record_of tips ≡ (0x03 ∷ 0x54 ∷ []) ++ replicate 6 0x00 ++ (0x05 ∷ []) ++ replicate 7 0x00 ++ replicate 32 0x11 ++ (0x40 ∷ 0x42 ∷ 0x0f ∷ 0x00 ∷ 0xff ∷ 0xff ∷ 0x7f ∷ 0x20 ∷ []) ++ replicate 32 0xff
record_of-tips = refl

pub record_of-credits : record_of credits ≡ (0x09 ∷ 0x21 ∷ []) ++ replicate 6 0x00 ++ (0x01 ∷ 0x00 ∷ 0x00 ∷ 0x00 ∷ 0x01 ∷ []) ++ replicate 7 0x00 ++ (0x40 ∷ 0x42 ∷ 0x0f ∷ 0x00 ∷ 0x00 ∷ 0x00 ∷ 0x00 ∷ 0x20 ∷ 0x08 ∷ []) ++ replicate 8 0x00
record_of-credits = refl

pub record_of-leaves : record_of leaves ≡ (0x08 ∷ 0x04 ∷ []) ++ replicate 6 0x00
record_of-leaves = refl

-- the places of the records, and the end
pub ledger_places : map (λ e. length (record_of e)) session ≡ 29 ∷ 13 ∷ 17 ∷ 51 ∷ 88 ∷ 37 ∷ 8 ∷ []
ledger_places = refl

pub ledger_length : length (ledger_text_1 session) ≡ 251
ledger_length = refl

-- the two parts of the job's coinbase, of 44 and 19 bytes
pub coinbase_prefix : (job_parts (FromTemplate (template_of 5 true)) (0x51 ∷ [])).prefix ≡ (0x02 ∷ 0x00 ∷ 0x00 ∷ 0x00 ∷ 0x01 ∷ []) ++ replicate 32 0x00 ++ (0xff ∷ 0xff ∷ 0xff ∷ 0xff ∷ 0x0e ∷ 0x51 ∷ 0x51 ∷ [])
coinbase_prefix = refl

pub coinbase_suffix : (job_parts (FromTemplate (template_of 5 true)) (0x51 ∷ [])).suffix ≡ (0xff ∷ 0xff ∷ 0xff ∷ 0xff ∷ 0x01 ∷ 0xe8 ∷ 0x03 ∷ []) ++ replicate 6 0x00 ++ (0x01 ∷ 0x51 ∷ 0x00 ∷ 0x00 ∷ 0x00 ∷ 0x00 ∷ [])
unfolding compact
coinbase_suffix = refl

pub coinbase_prefix_length : length (job_parts (FromTemplate (template_of 5 true)) (0x51 ∷ [])).prefix ≡ 44
coinbase_prefix_length = refl

pub coinbase_suffix_length : length (job_parts (FromTemplate (template_of 5 true)) (0x51 ∷ [])).suffix ≡ 19
unfolding compact
coinbase_suffix_length = refl

-- the answers of the session up to its share
pub step-enter : step (start ∷ []) 0 (request.Enter role.Solo 0) ≡ with_event enters (reply.Entered 0)
step-enter = refl

pub step-open : step (enters ∷ start ∷ []) 0 (request.Open (record { kind = kind.Extended; identity = 0x61 ∷ []; max_target = replicate 32 0xff; min_size = 8; standard_rolls_none = extended_rolls 8 })) ≡ with_event opens (reply.Opened (record { channel = 1; class = 0; lead = replicate 4 0 }))
unfolding first_class first_free
step-open = refl

pub step-template : step opened 0 (request.Template (template_of 5 true)) ≡ with_event comes (reply.Job 1)
unfolding outputs_within compact
step-template = refl

pub step-tip : step templated 0 (request.Tip (tip_of 5 0x11)) ≡ with_event tips (reply.Job 1)
step-tip = refl

pub step-leave : step tipped 0 request.Leave ≡ with_event leaves reply.Left
step-leave = refl

-- the news of the template and of the tip
pub news-template : news 3 templated 0 ≡ note.Extended 1 1 None 0x20000000 true [] ((0x02 ∷ 0x00 ∷ 0x00 ∷ 0x00 ∷ 0x01 ∷ []) ++ replicate 32 0x00 ++ (0xff ∷ 0xff ∷ 0xff ∷ 0xff ∷ 0x0e ∷ 0x51 ∷ 0x51 ∷ [])) ((0xff ∷ 0xff ∷ 0xff ∷ 0xff ∷ 0x01 ∷ 0xe8 ∷ 0x03 ∷ []) ++ replicate 6 0x00 ++ (0x01 ∷ 0x51 ∷ 0x00 ∷ 0x00 ∷ 0x00 ∷ 0x00 ∷ [])) ∷ []
unfolding compact
news-template = refl

pub news-tip : news 4 tipped 0 ≡ note.PrevHash 1 1 (replicate 32 0x11) 1000000 0x207fffff ∷ []
news-tip = refl

-- all of its events but the credit are legal whatever the hashes are
pub cause_of-start : cause_of [] start ≡ None
cause_of-start = refl

pub cause_of-enters : cause_of (start ∷ []) enters ≡ None
cause_of-enters = refl

pub cause_of-opens : cause_of (enters ∷ start ∷ []) opens ≡ None
unfolding first_free
cause_of-opens = refl

pub cause_of-comes : cause_of opened comes ≡ None
unfolding outputs_within compact
cause_of-comes = refl

pub cause_of-tips : cause_of templated tips ≡ None
cause_of-tips = refl

pub cause_of-leaves : cause_of (credits ∷ tipped) leaves ≡ None
cause_of-leaves = refl
