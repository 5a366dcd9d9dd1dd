-- What a session knows of declarations (this project's own).
use Rattle.std.specs.Prelude.{ℕ, Option, None, List, []}
use Rattle.job_declaration.specs.declared.asked.Asked.{Asked}
use Rattle.job_declaration.specs.declared.asked.Asked.TheVariants.{Nothing}
use Rattle.job_declaration.specs.declared.asked.Given.{Given}
use Rattle.job_declaration.specs.declared.ids.Listed.{Listed}
use Rattle.job_declaration.specs.Filling.{Known}

-- a declaration that lacks transactions: the id of its request, whose token it has, and what it
-- lists
pub record Declaration : Type 0 where
  pub request_id : ℕ
  pub identity : List ℕ
  pub listed : List Listed

pub record DeclareState : Type 0 where
  -- the tokens that were given when the session asked for one, in their order
  pub given : List Given
  -- the transactions of the last declaration that was accepted
  pub known : Known
  -- the declaration that waits for transactions
  pub waiting : Option Declaration
  -- what was asked of the pool last that is answered with a token
  pub asked : Asked

-- a session that heard nothing
abbrev pub start : DeclareState
start = record { given = []; known = []; waiting = None; asked = Nothing }
