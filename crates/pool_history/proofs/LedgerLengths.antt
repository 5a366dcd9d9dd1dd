-- How long a ledger of format 2 is, whatever its hashes are.
use Rattle.std.proofs.Common.{◌≡◌, ℕ, ◌+◌, List, [], ◌∷◌, ◌++◌, length, refl, ap, ◌∙◌, arith, length-append}
use Rattle.std.specs.List.{flat_map}
use Rattle.sha2.specs.Sha256.{sha256}
use Rattle.sha2.proofs.Facts256.{length-sha256}
use Rattle.pool_history.specs.declared.events.Event.{Event}
use Rattle.pool_history.specs.Ledger.{chain, chained, ledger_text, magic_2, record_of, with_magic}
use Rattle.pool_history.proofs.Given.{session, start}

-- what the records take with their hashes
abbrev pub sizes : List Event → ℕ
sizes [] = 0
sizes (e ∷ more) = length (record_of e) + 32 + sizes more

-- the records with their hashes
pub length-chained : (before : List ℕ) (h : List Event) → length (flat_map (λ piece. piece) (chained before h)) ≡ sizes h
length-chained before [] = refl
length-chained before (e ∷ more) =
    let hash : List ℕ = chain before (record_of e) in
    let piece : length (record_of e ++ hash) ≡ length (record_of e) + length hash = length-append (record_of e) hash in
    let long : length hash ≡ 32 = length-sha256 (before ++ record_of e) in
    let whole : length ((record_of e ++ hash) ++ flat_map (λ piece. piece) (chained hash more)) ≡ length (record_of e ++ hash) + length (flat_map (λ piece. piece) (chained hash more)) =
    length-append (record_of e ++ hash) (flat_map (λ piece. piece) (chained hash more)) in
    let others : length (flat_map (λ piece. piece) (chained hash more)) ≡ sizes more = length-chained hash more in
    whole ∙ ap (λ n. n + length (flat_map (λ piece. piece) (chained hash more))) (piece ∙ ap (λ n. length (record_of e) + n) long)
    ∙ ap (λ n. length (record_of e) + 32 + n) others

-- the magic stands before them
pub length-with_magic : (pieces : List (List ℕ)) → length (flat_map (λ piece. piece) (with_magic pieces)) ≡ 8 + length (flat_map (λ piece. piece) pieces)
length-with_magic [] = refl
length-with_magic (first ∷ more) =
    let rest : List ℕ = flat_map (λ piece. piece) more in
    let a : length ((magic_2 ++ first) ++ rest) ≡ length (magic_2 ++ first) + length rest = length-append (magic_2 ++ first) rest in
    let b : length (magic_2 ++ first) ≡ 8 + length first = length-append magic_2 first in
    let c : length (first ++ rest) ≡ length first + length rest = length-append first rest in
    omega (arith, a, b, c)

-- a ledger of format 2
pub length-ledger_text : (h : List Event) → length (ledger_text h) ≡ 8 + sizes h
length-ledger_text h = length-with_magic (chained (sha256 magic_2) h) ∙ ap (λ n. 8 + n) (length-chained (sha256 magic_2) h)

-- that of the worked session has 475 bytes, and that of its first event 69
pub ledger_2_length : length (ledger_text session) ≡ 475
ledger_2_length = length-ledger_text session

pub ledger_2_first : length (ledger_text (start ∷ [])) ≡ 69
ledger_2_first = length-ledger_text (start ∷ [])
