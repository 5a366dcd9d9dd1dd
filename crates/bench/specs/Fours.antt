-- What the benchmark hashes four by four (this project's own).
use Rattle.std.specs.Prelude.{ℕ, ◌*◌, List, map}
use Rattle.sha2.specs.Sha256.{sha256}
use Rattle.block_header.specs.Hash.{dsha}
use Rattle.bench.specs.declared.lanes.Form.{Form}
use Rattle.bench.specs.declared.lanes.Form.TheVariants.{Digest64, Double64, Double80}
use Rattle.bench.specs.Numbered.{four_from}

-- the hashes by a form of the messages for a number and the three behind it
abbrev pub hashes_from : Form → ℕ → List (List ℕ)
hashes_from Digest64 number = map sha256 (four_from 64 number)
hashes_from Double64 number = map dsha (four_from 64 number)
hashes_from Double80 number = map dsha (four_from 80 number)

-- the hashes of so many fours, the last four
abbrev pub last_hashes : Form → ℕ → List (List ℕ)
last_hashes form four = hashes_from form (four * 4)
