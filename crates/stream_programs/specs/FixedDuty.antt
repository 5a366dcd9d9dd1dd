-- What the command owes for the bytes of its input (this project's own).
use Rattle.std.specs.Prelude.{ℕ, ◌≡◌, ◌≢◌, List, []}
use Rattle.stream_commands.specs.Duties.{Duty, IsNothing}
use Rattle.mining_msgs.specs.declared.shares.SubmitSharesStandard.{SubmitSharesStandard}
use Rattle.stream_programs.specs.declared.judge.Job.{Job}
use Rattle.stream_programs.specs.Answers.{answers_to}
use Rattle.stream_programs.specs.Submitting.{SpellShares, IsPartialShare, IsOtherHeader}

-- the bytes are the frames of some submissions and then a rest of this kind, and the text is the
-- answers to them
pub record AnswersShares (class : ℕ) (job : Job) (IsKind : List ℕ → Type 0) (bytes text : List ℕ) :
    Type 0 where
  pub shares : List SubmitSharesStandard
  pub rest : List ℕ
  pub spelled : SpellShares bytes shares rest
  pub is_kind : IsKind rest
  pub answered : text ≡ answers_to class job shares

-- a part of a submission's frame, at the end of the input
pub record IsCutShare (rest : List ℕ) : Type 0 where
  pub some : rest ≢ []
  pub partial : IsPartialShare rest

-- The input is whole where it is frames of submissions and nothing else; another header refuses it,
-- and so does its end within a frame. Always the text is the answers to the submissions before
-- that.
abbrev pub share_duty : ℕ → Job → Duty
share_duty class job = record {
  Whole = AnswersShares class job IsNothing;
  Refused = AnswersShares class job IsOtherHeader;
  Cut = AnswersShares class job IsCutShare;
  SoFar = AnswersShares class job IsPartialShare;
}
