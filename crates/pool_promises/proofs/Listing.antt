-- The paths that Grants are asked for are of the transactions that were listed.
use Rattle.std.proofs.Common.{◌≡◌, ℕ, List, inl, inr, sym, ap, subst, ◌∙◌}
use Rattle.sv2_messages.specs.Messages.{Message}
use Rattle.job_declaration.specs.Declaring.{AsksGrant}
use Rattle.job_declaration.specs.RuleLaws.{AllAskedPathsAreOfTransactions, IsPathOf}
use Rattle.job_declaration.specs.Moves.{DeclareMove, declared_answer}
use Rattle.session_steps.specs.Steps as steps
use Rattle.pool_promises.specs.Declaring.{FixedPathsAreOfListed}
use Rattle.pool_promises.specs.Paths.{BringsForList, DeclaresList, IsOfList}
use Rattle.pool_promises.proofs.Accepting.{accepts}
use Rattle.pool_promises.proofs.Answering.{grant_called}
use Rattle.pool_promises.proofs.Standing.{stands_before}

module _ (all : AllAskedPathsAreOfTransactions) (past : List DeclareMove) (message : Message) (identity : List ℕ)
    (wtxids path : List (List ℕ)) (answer : declared_answer past message ≡ AsksGrant identity path) where
  declared_path : DeclaresList message wtxids → IsPathOf wtxids path
  declared_path lists =
      (all past).declared lists.request_id lists.version lists.token lists.prefix lists.suffix lists.excess identity wtxids path
      (sym (ap (λ m. declared_answer past m) lists.message_is) ∙ answer)

  brought_path : BringsForList past message wtxids → IsPathOf wtxids path
  brought_path brings =
      subst (λ ids. IsPathOf ids path) (sym brings.wtxids_are)
      ((all past).brought brings.request_id identity brings.transactions path brings.declaration brings.waits
      (sym (ap (λ m. declared_answer past m) brings.message_is) ∙ answer))

  listed_path : IsOfList past message wtxids → IsPathOf wtxids path
  listed_path lists =
      elim lists [
        | inl declares ↦ declared_path declares
        | inr brings ↦ brought_path brings
      ]

pub paths_are_of_listed : AllAskedPathsAreOfTransactions → FixedPathsAreOfListed
paths_are_of_listed all worker manner before later call put last identity path takes follows is =
    let at = stands_before worker manner before later (steps.Called call put) last takes follows in
    let asked = (grant_called before at.s call put identity path is at.s.stage at.can.1 at.stands.stage).0.by_rules in
    let accepted = accepts asked.past asked.message identity path asked.answer in
    record {
      asked = asked;
      wtxids = accepted.wtxids;
      listed = accepted.listed;
      path_is = listed_path all asked.past asked.message identity accepted.wtxids path asked.answer accepted.listed;
    }
