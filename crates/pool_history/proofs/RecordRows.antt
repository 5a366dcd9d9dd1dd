-- Worked records of the kinds that the session lacks, and requests at their limits.
use Rattle.std.proofs.Common.{◌≡◌, ◌++◌, false, true, None, Some, [], ◌∷◌, refl, lit≤}
use Rattle.std.specs.Prelude.{replicate}
use Rattle.coinbase.specs.Compact.{compact}
use Rattle.coinbase.specs.Outputs.{outputs_within}
use Rattle.coinbase.specs.Reading.{number_at, compact_at, sized_at, output_at}
use Rattle.pool_history.specs.declared.asking.Request.TheVariants as request
use Rattle.pool_history.specs.declared.events.Event.TheVariants as event
use Rattle.pool_history.specs.declared.events.Kind.TheVariants as kind
use Rattle.pool_history.specs.declared.replies.Reply.TheVariants as reply
use Rattle.pool_history.specs.Answering.{step, with_event}
use Rattle.pool_history.specs.Ledger.{record_of}
use Rattle.pool_history.specs.Legal.{cause_of}
use Rattle.pool_history.specs.News.{news}
use Rattle.pool_history.specs.Spaces.{first_free}
use Rattle.pool_history.proofs.Given.{rules}
use Rattle.pool_history.proofs.IllegalEvents.{with_channels}
use Rattle.pool_history.proofs.OwnJobs.{brings, granted, offer, selecting}

-- a name, a class, a close and a token for any path
pub record_of-name : record_of (event.Name 1 2 (0x61 ∷ []))
    ≡ 0x05 ∷ 0x0a ∷ 0x00 ∷ 0x00 ∷ 0x01 ∷ 0x00 ∷ 0x00 ∷ 0x00 ∷ 0x02 ∷ 0x00 ∷ 0x00 ∷ 0x00 ∷ 0x01 ∷ 0x61 ∷ []
record_of-name = refl

pub record_of-class : record_of (event.Class 1 2 60)
    ≡ 0x06 ∷ 0x09 ∷ 0x00 ∷ 0x00 ∷ 0x01 ∷ 0x00 ∷ 0x00 ∷ 0x00 ∷ 0x02 ∷ 0x00 ∷ 0x00 ∷ 0x00 ∷ 0x3c ∷ []
record_of-class = refl

pub record_of-close : record_of (event.Close 1 2)
    ≡ 0x07 ∷ 0x08 ∷ 0x00 ∷ 0x00 ∷ 0x01 ∷ 0x00 ∷ 0x00 ∷ 0x00 ∷ 0x02 ∷ 0x00 ∷ 0x00 ∷ 0x00 ∷ []
record_of-close = refl

pub record_of-grant : record_of (event.Grant 0 (0x61 ∷ []) false [])
    ≡ 0x0a ∷ 0x08 ∷ 0x00 ∷ 0x00 ∷ 0x00 ∷ 0x00 ∷ 0x00 ∷ 0x00 ∷ 0x01 ∷ 0x61 ∷ 0x00 ∷ 0x00 ∷ []
record_of-grant = refl

-- a miner's own job: the session, and the fields of its message but the number of the request
pub record_of-custom : record_of brings
    ≡ (0x0b ∷ 0x59 ∷ []) ++ replicate 6 0x00
    ++ (0x01 ∷ 0x00 ∷ 0x00 ∷ 0x00 ∷ 0x08 ∷ 0x01 ∷ []) ++ replicate 7 0x00
    ++ (0x00 ∷ 0x00 ∷ 0x00 ∷ 0x20 ∷ []) ++ replicate 32 0x11
    ++ (0x40 ∷ 0x42 ∷ 0x0f ∷ 0x00 ∷ 0xff ∷ 0xff ∷ 0x7f ∷ 0x20 ∷ 0x02 ∷ 0x00 ∷ 0x00 ∷ 0x00 ∷ 0x02 ∷ 0x51 ∷ 0x51 ∷ [])
    ++ (0xff ∷ 0xff ∷ 0xff ∷ 0xff ∷ 0x0a ∷ 0x00 ∷ 0xd0 ∷ 0x07 ∷ []) ++ replicate 6 0x00 ++ (0x01 ∷ 0x51 ∷ []) ++ replicate 5 0x00
record_of-custom = refl

-- a Start with a window of 1,000: rule 1 and the window's eight bytes
pub record_of-window : record_of (event.Start (record rules { window = Some 1000 }))
    ≡ (0x00 ∷ 0x19 ∷ 0x00 ∷ 0x00 ∷ 0x01 ∷ 0x51 ∷ 0x00 ∷ 0x64 ∷ 0x00 ∷ 0x01 ∷ 0xe8 ∷ 0x03 ∷ []) ++ replicate 6 0x00
    ++ (0x58 ∷ 0x02 ∷ 0x00 ∷ 0x00 ∷ 0x03 ∷ 0x00 ∷ 0x00 ∷ 0x00 ∷ 0x01 ∷ 0x00 ∷ 0x00 ∷ [])
record_of-window = refl

-- a credit of a miner's own job owes no solution
pub news-own_credit : news 7 (event.Credit 0 1 2 0 1000000 0x20000000 (replicate 8 0) ∷ brings ∷ granted) 0 ≡ []
news-own_credit = refl

-- a path of 32 entries is accepted, of a job and of a token
pub step-path_of_32 : step granted 0 (request.Custom (record offer { merkle_path = replicate 32 (replicate 32 0); path_fits = lit≤ tt }))
    ≡ with_event (event.Custom 0 (record offer { merkle_path = replicate 32 (replicate 32 0); path_fits = lit≤ tt })) (reply.CustomJob 2)
unfolding outputs_within output_at sized_at compact_at number_at compact
step-path_of_32 = refl

pub step-grant_of_32 : step selecting 0 (request.Grant (0x61 ∷ []) (Some (replicate 32 (replicate 32 0))))
    ≡ with_event (event.Grant 0 (0x61 ∷ []) true (replicate 32 (replicate 32 0))) (reply.Granted 1 (0x51 ∷ []))
step-grant_of_32 = refl

-- so is the 1,024th channel of a session
pub cause_of-channel_1024 : cause_of (with_channels 1023) (event.Open 0 kind.Extended (0x61 ∷ []) 0 (0 ∷ 0 ∷ 0 ∷ 1 ∷ [])) ≡ None
unfolding first_free
cause_of-channel_1024 = refl
