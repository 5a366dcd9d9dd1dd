-- What contracts see of a script and of a solution (this project's own).
use Rattle.std.specs.Prelude.{ℕ, Option, List}
use Rattle.template_msgs.specs.declared.templates.SetNewPrevHash.{SetNewPrevHash}
use Rattle.test_miner.specs.declared.script.ScriptTemplate.{ScriptTemplate}

pub record ScriptValue : Type 0 where
  pub bytes : List ℕ
  -- its templates in their order, and its last tip
  pub templates : List ScriptTemplate
  pub tip : Option SetNewPrevHash
