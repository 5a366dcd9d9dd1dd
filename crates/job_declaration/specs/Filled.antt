-- What is found of the transactions that were brought (this project's own).
use Rattle.std.specs.Prelude.{◌≡◌, ℕ, Option, None, Some, List, Vec}
use Rattle.sv2_types.specs.Reading.{parts_at}
use Rattle.sv2_types.specs.declared.sequences.SeqBytes.{SeqBytes}
use Rattle.std.specs.declared.alloc.Global.{Global}
use Rattle.job_declaration.specs.declared.ids.Listed.{Listed}
use Rattle.job_declaration.specs.declared.ids.TxIds.{TxIds}
use Rattle.job_declaration.specs.declared.filling.Next.{Next}
use Rattle.job_declaration.specs.Filling.{and_others, filled_entry}

-- the byte strings of a sequence
abbrev pub parts_of : SeqBytes → List (List ℕ)
parts_of brought = parts_at brought.count brought.spelled.now

-- with its id the rest of a list follows, by what is left; without, there is none
abbrev pub filled_next :
    Option Next → (List (List ℕ) → Option (List TxIds)) → Option (List TxIds)
filled_next None later = None
filled_next (Some next) later =
    and_others next.ids.wtxid (Some next.ids.txid) (later (parts_of next.left))

-- what was found for an entry: whatever follows, the list is filled by it
abbrev pub IsNext : Listed → SeqBytes → Option Next → Type 0
IsNext entry left next =
    (later : List (List ℕ) → Option (List TxIds))
    → filled_entry entry.wtxid entry.txid (parts_of left) later ≡ filled_next next later

-- all ids were found, or there are none
abbrev pub IsFilled : Option (Vec TxIds Global) → Option (List TxIds) → Type 0
IsFilled None found = found ≡ None
IsFilled (Some transactions) found = found ≡ Some transactions.items
