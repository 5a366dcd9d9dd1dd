-- When a note can be written as its message (Stratum V2, "Data Types Mapping").
-- A type keeps it.
use Rattle.std.specs.Prelude.{ℕ, ◌<◌, ◌^◌, List, length}
use Rattle.pool_history.specs.declared.telling.Note.{Note}
use Rattle.pool_history.specs.declared.telling.Note.TheVariants.{Extended, Standard, PrevHash, Solution}

-- the lists of a NewExtendedMiningJob fit their types
pub record ExtendedFits (path : List (List ℕ)) (prefix suffix : List ℕ) : Type 0 where
  pub path_fits : length path < 2 ^ 8
  pub prefix_fits : length prefix < 2 ^ 16
  pub suffix_fits : length suffix < 2 ^ 16

-- each field of the note fits its type
abbrev pub NoteFits : Note → Type 0
NoteFits (Extended channel job min_ntime version rolling path prefix suffix) =
    ExtendedFits path prefix suffix
NoteFits (Solution template version timestamp nonce coinbase) = length coinbase < 2 ^ 16
NoteFits (Standard channel job min_ntime version root) = Unit {0}
NoteFits (PrevHash channel job prev_hash min_ntime nbits) = Unit {0}
