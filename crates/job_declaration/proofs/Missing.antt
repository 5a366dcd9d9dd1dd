-- A list is filled at once exactly where no place is missing, and a declaration waits where one is.
use Rattle.std.proofs.Common.{◌≡◌, ℕ, ◌+◌, None, Some, Option, List, [], ◌∷◌, refl}
use Rattle.std.specs.Prelude.{IsSome, true, false, is_some, if◌then◌else◌}
use Rattle.job_declaration.specs.declared.ids.Listed.{Listed}
use Rattle.job_declaration.specs.declared.ids.TxIds.{TxIds}
use Rattle.job_declaration.specs.Declaring.{accepted, by_listed, waits}
use Rattle.job_declaration.specs.Filling.{and_others, filled, filled_entry, missing_from}
use Rattle.job_declaration.specs.RuleLaws.{ListsWaitForMissing}
use Rattle.job_declaration.specs.State.{Declaration, DeclareState}

some_others : (wtxid txid : List ℕ) (later : Option (List TxIds)) → IsSome later
    → IsSome (and_others wtxid (Some txid) later)
some_others wtxid txid None some = some
some_others wtxid txid (Some later) some = some

others_some : (wtxid txid : List ℕ) (later : Option (List TxIds))
    → IsSome (and_others wtxid (Some txid) later) → IsSome later
others_some wtxid txid None some = some
others_some wtxid txid (Some later) some = some

-- by the first entry
forth : (wtxid : List ℕ) (txid : Option (List ℕ)) (place : ℕ) (later : List Listed)
    → (IsSome (filled later []) → missing_from (place + 1) later ≡ [])
    → IsSome (filled_entry wtxid txid [] (λ others. filled later others))
    → (if is_some txid then missing_from (place + 1) later
    else place ∷ missing_from (place + 1) later) ≡ []
forth wtxid None place later rest some = cc
forth wtxid (Some txid) place later rest some =
    rest (others_some wtxid txid (filled later []) some)

back : (wtxid : List ℕ) (txid : Option (List ℕ)) (place : ℕ) (later : List Listed)
    → (missing_from (place + 1) later ≡ [] → IsSome (filled later []))
    → (if is_some txid then missing_from (place + 1) later
    else place ∷ missing_from (place + 1) later) ≡ []
    → IsSome (filled_entry wtxid txid [] (λ others. filled later others))
back wtxid None place later rest none = absurd cc
back wtxid (Some txid) place later rest none =
    some_others wtxid txid (filled later []) (rest none)

whole : (place : ℕ) (listed : List Listed) → IsSome (filled listed [])
    → missing_from place listed ≡ []
whole place [] some = refl
whole place (entry ∷ later) some =
    forth entry.wtxid entry.txid place later (whole (place + 1) later) some

filled_whole : (place : ℕ) (listed : List Listed) → missing_from place listed ≡ []
    → IsSome (filled listed [])
filled_whole place [] none = refl
filled_whole place (entry ∷ later) none =
    back entry.wtxid entry.txid place later (filled_whole (place + 1) later) none

-- by what fills the list
waits_by : (state : DeclareState) (declaration : Declaration) (found : Option (List TxIds))
    → (IsSome found → ⊥) → by_listed state declaration found ≡ waits state declaration
waits_by state declaration None none = refl
waits_by state declaration (Some transactions) none = absurd (none refl)

accepted_by : (state : DeclareState) (declaration : Declaration) (found : Option (List TxIds))
    → IsSome found → (transactions : List TxIds) × (by_listed state declaration found
    ≡ accepted state declaration.request_id declaration.identity transactions)
accepted_by state declaration None some = absurd (let never : false ≡ true = some in cc)
accepted_by state declaration (Some transactions) some = (transactions, refl)

pub lists_wait : ListsWaitForMissing
lists_wait state declaration =
    let found = filled declaration.listed [] in
    record {
      waiting = λ missing. waits_by state declaration found
          (λ some. missing (whole 0 declaration.listed some));
      whole = λ none. accepted_by state declaration found (filled_whole 0 declaration.listed none);
    }
