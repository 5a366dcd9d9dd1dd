-- Hashes of messages that are made of numbers, and ids that end in one number after the other.
use Rattle.std.proofs.Common.{◌≡◌, ℕ, ◌+◌, ◌-◌, ◌<◌, List, length, map, ap, sym, ◌∙◌, arith}
use Rattle.std.proofs.lemmas.List.{length-set, set-set}
use Rattle.sha2.specs.Sha256.{sha256}
use Rattle.block_header.specs.Hash.{dsha}
use Rattle.job_declaration.specs.Tree.{path}
use Rattle.bench.specs.declared.lanes.Form.{Form}
use Rattle.bench.specs.declared.lanes.Form.TheVariants.{Digest64, Double64, Double80}
use Rattle.bench.specs.Fours.{hashes_from}
use Rattle.bench.specs.Numbered.{ending_in, four_from, message_of}

pub digested-64 : (form : Form) (number : ℕ) (messages hashes : List (List ℕ)) → form ≡ Digest64 → messages ≡ four_from 64 number
    → hashes ≡ map sha256 messages → hashes ≡ hashes_from form number
digested-64 form number messages hashes is from hashed =
    hashed ∙ ap (map sha256) from ∙ ap (λ f. hashes_from f number) (sym is)

pub doubled-64 : (form : Form) (number : ℕ) (messages hashes : List (List ℕ)) → form ≡ Double64 → messages ≡ four_from 64 number
    → hashes ≡ map dsha messages → hashes ≡ hashes_from form number
doubled-64 form number messages hashes is from hashed =
    hashed ∙ ap (map dsha) from ∙ ap (λ f. hashes_from f number) (sym is)

pub doubled-80 : (form : Form) (number : ℕ) (messages hashes : List (List ℕ)) → form ≡ Double80 → messages ≡ four_from 80 number
    → hashes ≡ map dsha messages → hashes ≡ hashes_from form number
doubled-80 form number messages hashes is from hashed =
    hashed ∙ ap (map dsha) from ∙ ap (λ f. hashes_from f number) (sym is)

ended-again : (ids : List (List ℕ)) (n m : ℕ) → ending_in (ending_in ids n) m ≡ ending_in ids m
ended-again ids n m =
    rw (length-set ids (length ids - 1) (message_of 32 n)) (set-set ids (length ids - 1) (message_of 32 n) (message_of 32 m))

-- the ids are those that were given but for their last, and with the last number's the hashes are
-- their path
pub record IsLastOf (given ids hashes : List (List ℕ)) (number : ℕ) : Type 0 where
  pub long : length ids ≡ length given
  pub others : (n : ℕ) → ending_in ids n ≡ ending_in given n
  pub last : 0 < number → hashes ≡ path (ending_in given (number - 1))

pub one_more : (given ids hashes ids' hashes' : List (List ℕ)) (number : ℕ) → IsLastOf given ids hashes number
    → ids' ≡ ending_in ids number → hashes' ≡ path ids' → IsLastOf given ids' hashes' (number + 1)
one_more given ids hashes ids' hashes' number was ended is = record {
  long = ap length ended ∙ length-set ids (length ids - 1) (message_of 32 number) ∙ was.long;
  others = λ n. ap (λ ids. ending_in ids n) ended ∙ ended-again ids number n ∙ was.others n;
  last = λ some. is ∙ ap path (ended ∙ was.others number) ∙ ap (λ n. path (ending_in given n)) before;
}
  where
    before : number ≡ number + 1 - 1
    before = omega arith
