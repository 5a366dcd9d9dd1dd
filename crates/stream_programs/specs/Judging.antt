-- Where the command stands between two bytes (this project's own).
use Rattle.std.specs.Prelude.{ℕ, ◌≡◌, true, List}
use Rattle.std.specs.List.{list_any}
use Rattle.block_header.specs.Hash.{meets}
use Rattle.mining_msgs.specs.declared.shares.SubmitSharesStandard.{SubmitSharesStandard}
use Rattle.stream_programs.specs.declared.submission.Rolled.{Rolled}
use Rattle.stream_programs.specs.declared.judge.Judge.{Judge}
use Rattle.stream_programs.specs.declared.stream.FixedJob.{FixedJob}
use Rattle.stream_programs.specs.Answers.{hash_of, is_submitted, answers_to}
use Rattle.stream_programs.specs.Rolling.{is_same}
use Rattle.stream_programs.specs.Submitting.{SpellShares, IsPartialShare}

-- a header that meets the class was credited exactly where it was submitted
abbrev pub RemembersCredits : Judge → List SubmitSharesStandard → Type 0
RemembersCredits judge shares = (r : Rolled) → meets (hash_of judge.job r) judge.class ≡ true
    → list_any (is_same r) judge.credited.items ≡ is_submitted shares r

-- the bytes are the frames of some submissions and what is held, and the text is the answers to
-- them
pub record HoldsRest (bytes text : List ℕ) (job : FixedJob) : Type 0 where
  pub shares : List SubmitSharesStandard
  pub spelled : SpellShares bytes shares job.splitter.held
  pub limit : job.splitter.limit ≡ 24
  pub answered : text ≡ answers_to job.judge.class job.judge.job shares
  pub remembers : RemembersCredits job.judge shares

-- what is held is less than a frame
pub record HasAnsweredShares (bytes text : List ℕ) (job : FixedJob) : Type 0 where
  pub holds : HoldsRest bytes text job
  pub partial : IsPartialShare job.splitter.held
