-- Laws of the definitions.
use Rattle.std.specs.Prelude.{ℕ, ◌≡◌, List}
use Rattle.mining_msgs.specs.declared.shares.SubmitSharesStandard.{SubmitSharesStandard}
use Rattle.stream_programs.specs.Submitting.{SpellShares, BeginsNoShare}

-- two readings of one list of bytes, each up to where no frame begins, are the same
abbrev pub HasOneReading : Type 0
HasOneReading = (bytes : List ℕ) (shares others : List SubmitSharesStandard) (rest left : List ℕ)
    → SpellShares bytes shares rest → SpellShares bytes others left → BeginsNoShare rest
    → BeginsNoShare left → (shares ≡ others) × (rest ≡ left)
