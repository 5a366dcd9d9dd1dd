-- Which solutions a script accepts (Stratum V2, "SubmitSolution"; Bitcoin's "Block Headers" and
-- "Target nBits").
use Rattle.std.specs.Prelude.{ℕ, ◌%◌, ◌==◌, ◌&&◌, Bool, true, false, if◌then◌else◌, Option, None, Some, Result, Ok, Err, List, [], ◌∷◌, find, reverse, nat_le}
use Rattle.block_header.specs.Hash.{dsha}
use Rattle.block_header.specs.Layout.{header_bytes}
use Rattle.block_header.specs.Root.{root}
use Rattle.block_header.specs.Target.{is_at_most}
use Rattle.coinbase.specs.declared.error.TxError.{TxError}
use Rattle.coinbase.specs.declared.tx.Tx.{Tx}
use Rattle.coinbase.specs.Form.{txid}
use Rattle.coinbase.specs.Reading.{tx_of}
use Rattle.sv2_types.specs.Fields.{FieldValue}
use Rattle.sv2_frames.specs.Framing.{FrameValue}
use Rattle.sv2_messages.specs.declared.kinds.TheConstants as kinds
use Rattle.sv2_messages.specs.declared.error.MsgError.{MsgError}
use Rattle.sv2_messages.specs.Reading.{values_of}
use Rattle.sv2_messages.specs.Tables.{mining_table, template_table}
use Rattle.template_msgs.specs.declared.templates.SetNewPrevHash.{SetNewPrevHash}
use Rattle.template_msgs.specs.declared.templates.SubmitSolution.{SubmitSolution}
use Rattle.test_miner.specs.declared.script.ScriptTemplate.{ScriptTemplate}
use Rattle.test_miner.specs.Notices.{bytes_in, field_in, number_in}
use Rattle.test_miner.specs.ScriptValues.{ScriptValue}

-- a solution, without where its coinbase lies in memory
pub record SolutionValue : Type 0 where
  pub template_id : ℕ
  pub version : ℕ
  pub header_timestamp : ℕ
  pub header_nonce : ℕ
  pub coinbase_tx : List ℕ

abbrev pub solution_value : SubmitSolution → SolutionValue
solution_value solution = record {
  template_id = solution.template_id;
  version = solution.version;
  header_timestamp = solution.header_timestamp;
  header_nonce = solution.header_nonce;
  coinbase_tx = solution.coinbase_tx.now;
}

-- the last template with this id
abbrev pub template_with : ℕ → List ScriptTemplate → Option ScriptTemplate
template_with id templates = find (λ template. template.id == id) (reverse templates)

-- The header of a solution: its version, time and nonce, the root of its coinbase's id and the
-- template's path, and the tip's previous hash and nbits.
abbrev pub solved_header : List (List ℕ) → SetNewPrevHash → List ℕ → SolutionValue → List ℕ
solved_header path tip id solution =
    header_bytes solution.version tip.prev_hash (root id path) solution.header_timestamp tip.nbits
    solution.header_nonce

-- its coinbase is a transaction, and its header's hash is at most the tip's target
abbrev pub is_solved :
    List (List ℕ) → SetNewPrevHash → Result Tx TxError → SolutionValue → Bool
is_solved path tip (Ok tx) solution =
    is_at_most (dsha (solved_header path tip (txid tx) solution)) tip.target
is_solved path tip (Err error) solution = false

abbrev pub is_valid_for :
    Option ScriptTemplate → Option SetNewPrevHash → SolutionValue → Bool
is_valid_for (Some template) (Some tip) solution =
    is_solved template.path tip (tx_of solution.coinbase_tx) solution
is_valid_for (Some template) None solution = false
is_valid_for None tip solution = false

-- A solution is valid where the script has a template of its id (of several the last) and a tip, its
-- coinbase is a transaction, and the header's hash is at most the target of the last tip.
unfoldable pub is_valid : ScriptValue → SolutionValue → Bool
is_valid script solution =
    is_valid_for (template_with solution.template_id script.templates) script.tip solution
