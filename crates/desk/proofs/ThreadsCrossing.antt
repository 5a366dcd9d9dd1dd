-- A task may go to another thread with its pass where the task and the machine may.
use mathlib.Core.List.{List, [], ◌∷◌}
use Prim.Native.Nat.{ℕ}
use mir.Syntax.{Lifetime}
use base.Fml.{Lft}
use denote.RattleType.{RattleType}
use denote.Ref.{ShrRef}
use denote.Struct.Field.{row_field}
use denote.Struct.Tuple.{TupleAt, type_at}
use denote.Param.Send.{IsSend, IsSync, sendable, shr_sync}
use denote.Param.SendFields.{as_row_sync, declared_sync}
use Rattle.desk.specs.declared.machine.Machine.{Ghosts}
use Rattle.desk.proofs.Crossing.{desk_sync, pass_send}
use Rattle.desk.specs.contracts.desk.Desk as Desk
use Rattle.desk.specs.contracts.pass.Pass as Pass

pub part_send : (ν : List ℕ) (M E Q R F T : RattleType) (g : Ghosts M.Denot E.Denot Q.Denot R.Denot F.Denot) → IsSend M → IsSend T
    → IsSend (TupleAt ν (T ∷ Pass.the_row M E Q R F g ∷ []))
part_send ν M E Q R F T g m t = search (sendable, pass_send) depth 40

-- what all threads share: the handle, the desk and who does the tasks, each by a reference
module _ (a b c : Lifetime) (α β γ : Lft) (H M E Q R F W : RattleType) (g : Ghosts M.Denot E.Denot Q.Denot R.Denot F.Denot) where
  abbrev pub captured : List RattleType
  captured = ShrRef a α H ∷ ShrRef b β (Desk.the_row M E Q R F g) ∷ ShrRef c γ W ∷ []

  pub captured_sync : (ν : List ℕ) → IsSync H → IsSend M → IsSync W → IsSync (TupleAt ν captured)
  captured_sync ν h m w =
      declared_sync (type_at ν captured)
      (as_row_sync (row_field (ShrRef a α H)) (shr_sync a α H h), (as_row_sync (row_field _) (shr_sync b β _ (desk_sync M E Q R F g m)), (as_row_sync (row_field (ShrRef c γ W)) (shr_sync c γ W w), tt)))
