-- Which events are blocks (this project's own).
use Rattle.std.specs.Prelude.{Bool, false, List}
use Rattle.std.specs.Option.{option_map_or}
use Rattle.pool_history.specs.declared.events.Event.{Event}
use Rattle.pool_history.specs.declared.events.Event.TheVariants as event
use Rattle.pool_history.specs.Crediting.{booked_with, credit_share, is_block}
use Rattle.pool_history.specs.Sessions.{script_of}

-- a credit is one where its hash is at most the target of the last tip before it; no other event is
abbrev pub is_block_event : List Event → Event → Bool
is_block_event past (event.Credit session channel job nonce ntime version extranonce) =
    option_map_or (λ with. is_block (script_of past) with
    (credit_share with channel job nonce ntime version extranonce))
    (booked_with past channel job) false
is_block_event past (event.Start rules) = false
is_block_event past (event.Enter worker role flags) = false
is_block_event past (event.Template session template) = false
is_block_event past (event.Tip session tip) = false
is_block_event past (event.Open session kind account class lead) = false
is_block_event past (event.Name session channel account) = false
is_block_event past (event.Class session channel class) = false
is_block_event past (event.Close session channel) = false
is_block_event past (event.Leave session) = false
is_block_event past (event.Grant session account fixed path) = false
is_block_event past (event.Custom session custom) = false
