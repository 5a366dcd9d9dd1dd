-- Worked examples of settlements, of the witness form and of headers.
use Rattle.std.proofs.Common.{◌≡◌, ℕ, ◌++◌, true, None, Some, [], ◌∷◌, length, refl}
use Rattle.std.specs.Prelude.{replicate, codes}
use Rattle.std.specs.Fmt.{digits}
use Rattle.coinbase.specs.Compact.{compact}
use Rattle.coinbase.specs.Outputs.{outputs_within}
use Rattle.coinbase.specs.Parts.{whole}
use Rattle.coinbase.specs.Reading.{number_at, compact_at, sized_at, output_at}
use Rattle.pool_history.specs.declared.events.Event.TheVariants as event
use Rattle.pool_history.specs.declared.templates.TemplateData.{TemplateData}
use Rattle.pool_history.specs.Crediting.{Booked, headers}
use Rattle.pool_history.specs.Jobs.{FromTemplate}
use Rattle.pool_history.specs.Judging.{job_parts}
use Rattle.pool_history.specs.Settling.{Payment, settlement, settlements}
use Rattle.pool_history.specs.Summary.{summed, summary_text}
use Rattle.pool_history.proofs.Given.{template_of, tip_of, credits, tipped}

-- a credit of an account that one byte names, and one that is a block
abbrev pub credit : ℕ → ℕ → Booked
credit name work = record { account = name ∷ []; work = work; reward = None }

abbrev pub block : ℕ → ℕ → ℕ → Booked
block name work reward = record { account = name ∷ []; work = work; reward = Some reward }

-- what an account is paid
abbrev pub pays : ℕ → ℕ → ℕ → Payment
pays name weight amount = record { account = name ∷ []; weight = weight; amount = amount }

-- the proportional rule with a fee of one percent: a 1, a 2, and b 4, the block's own
pub proportional_row : settlement None 100 1000 (block 0x62 4 1000 ∷ credit 0x61 2 ∷ credit 0x61 1 ∷ []) ≡ record { fee = 10; payments = pays 0x61 3 424 ∷ pays 0x62 4 565 ∷ []; pool = 11 }
proportional_row = refl

-- a block before counts no more
pub proportional_after_block : settlement None 0 1000 (block 0x62 4 1000 ∷ block 0x61 2 1000 ∷ credit 0x61 1 ∷ []) ≡ record { fee = 0; payments = pays 0x62 4 1000 ∷ []; pool = 0 }
proportional_after_block = refl

-- PPLNS over a 4, b 2, a 1, and b 2, the block's own: a window of 6 cuts the oldest credit
pub pplns_6 : settlement (Some 6) 0 1000 (block 0x62 2 1000 ∷ credit 0x61 1 ∷ credit 0x62 2 ∷ credit 0x61 4 ∷ []) ≡ record { fee = 0; payments = pays 0x61 2 333 ∷ pays 0x62 4 666 ∷ []; pool = 1 }
pplns_6 = refl

-- a window of 1 is the block's own
pub pplns_1 : settlement (Some 1) 0 1000 (block 0x62 2 1000 ∷ credit 0x61 1 ∷ credit 0x62 2 ∷ credit 0x61 4 ∷ []) ≡ record { fee = 0; payments = pays 0x62 1 1000 ∷ []; pool = 0 }
pplns_1 = refl

-- a window of 100 has all, and divides by the work that is there
pub pplns_100 : settlement (Some 100) 0 1000 (block 0x62 2 1000 ∷ credit 0x61 1 ∷ credit 0x62 2 ∷ credit 0x61 4 ∷ []) ≡ record { fee = 0; payments = pays 0x61 5 555 ∷ pays 0x62 4 444 ∷ []; pool = 1 }
pplns_100 = refl

-- PPLNS goes past a block before
pub pplns_past_block : settlement (Some 100) 0 1000 (block 0x62 2 1000 ∷ block 0x61 2 1000 ∷ []) ≡ record { fee = 0; payments = pays 0x61 2 500 ∷ pays 0x62 2 500 ∷ []; pool = 0 }
pplns_past_block = refl

-- no reward pays nothing
pub no_reward : settlement None 100 0 (block 0x62 4 0 ∷ credit 0x61 2 ∷ []) ≡ record { fee = 0; payments = pays 0x61 2 0 ∷ pays 0x62 4 0 ∷ []; pool = 0 }
no_reward = refl

-- the summary of the worked session, its share being a block of work 1
pub summary_row : summary_text (summed 1 7 (block 0x61 1 1000 ∷ []) (settlements None 100 (block 0x61 1 1000 ∷ []))) ≡ codes "sessions 1" ++ 10 ∷ codes "events 7" ++ 10 ∷ codes "credits 1" ++ 10 ∷ codes "blocks 1" ++ 10 ∷ codes "pool 10" ++ 10 ∷ codes "account a 1 990" ++ 10 ∷ []
unfolding digits
summary_row = refl

-- the same of a miner's own job of 2,000 satoshis
pub summary_custom : summary_text (summed 1 8 (block 0x61 1 2000 ∷ []) (settlements None 100 (block 0x61 1 2000 ∷ []))) ≡ codes "sessions 1" ++ 10 ∷ codes "events 8" ++ 10 ∷ codes "credits 1" ++ 10 ∷ codes "blocks 1" ++ 10 ∷ codes "pool 20" ++ 10 ∷ codes "account a 1 1980" ++ 10 ∷ []
unfolding digits
summary_custom = refl

-- a template with one output that commits to witnesses (BIP 141)
abbrev pub committing : TemplateData
committing = record (template_of 5 true) { coinbase_tx_outputs_count = 1; coinbase_tx_outputs = replicate 8 0x00 ++ (0x26 ∷ 0x6a ∷ 0x24 ∷ 0xaa ∷ 0x21 ∷ 0xa9 ∷ 0xed ∷ []) ++ replicate 32 0x22 }

-- its solution's coinbase has 158 bytes: marker and flag behind the version, the witness before the lock time
pub whole_length : length (whole (job_parts (FromTemplate committing) (0x51 ∷ [])) (replicate 12 0)) ≡ 158
unfolding outputs_within output_at sized_at compact_at number_at compact
whole_length = refl

pub whole_bytes : whole (job_parts (FromTemplate committing) (0x51 ∷ [])) (replicate 12 0) ≡ (0x02 ∷ 0x00 ∷ 0x00 ∷ 0x00 ∷ 0x00 ∷ 0x01 ∷ 0x01 ∷ []) ++ replicate 32 0x00 ++ (0xff ∷ 0xff ∷ 0xff ∷ 0xff ∷ 0x0e ∷ 0x51 ∷ 0x51 ∷ []) ++ replicate 12 0x00 ++ (0xff ∷ 0xff ∷ 0xff ∷ 0xff ∷ 0x02 ∷ 0xe8 ∷ 0x03 ∷ []) ++ replicate 6 0x00 ++ (0x01 ∷ 0x51 ∷ []) ++ replicate 8 0x00 ++ (0x26 ∷ 0x6a ∷ 0x24 ∷ 0xaa ∷ 0x21 ∷ 0xa9 ∷ 0xed ∷ []) ++ replicate 32 0x22 ++ (0x01 ∷ 0x20 ∷ []) ++ replicate 36 0x00
unfolding outputs_within output_at sized_at compact_at number_at compact
whole_bytes = refl

-- a later tip drops no header
pub headers_after_tip : headers (event.Tip 0 (tip_of 6 0x22) ∷ event.Template 0 (template_of 6 true) ∷ credits ∷ tipped) ≡ headers (credits ∷ tipped)
headers_after_tip = refl

pub headers_count : length (headers (credits ∷ tipped)) ≡ 1
headers_count = refl
