-- The answers to the shares of one fixed job.
use Rattle.std.specs.Prelude.{ℕ, ◌^◌, ◌==◌, Bool, not, ◌&&◌, List, [], ◌∷◌, ◌++◌, if◌then◌else◌, Option, Some, None, codes}
use Rattle.std.specs.List.{list_any}
use Rattle.sv2_types.specs.Spelling.{spelled_u32, spelled_u64, spelled_str255}
use Rattle.sv2_frames.specs.Framing.{frame_of}
use Rattle.block_header.specs.Hash.{dsha, meets}
use Rattle.block_header.specs.Layout.{header_bytes}
use Rattle.sv2_messages.specs.declared.kinds.TheConstants as kinds
use Rattle.mining_msgs.specs.declared.shares.SubmitSharesStandard.{SubmitSharesStandard}
use Rattle.stream_programs.specs.declared.judge.Job.{Job}
use Rattle.stream_programs.specs.declared.submission.Rolled.{Rolled}
use Rattle.stream_programs.specs.declared.judge.Refusal.{Refusal}
use Rattle.stream_programs.specs.Rolling.{rolled_of, is_same}
use Rattle.stream_programs.specs.declared.judge.Refusal.TheVariants.{InvalidChannelId, InvalidJobId, DifficultyTooLow, DuplicateShare}

-- the double hash of the job's header with what is rolled
abbrev pub hash_of : Job → Rolled → List ℕ
hash_of job r = dsha (header_bytes r.version job.prev_hash job.root r.ntime job.nbits r.nonce)

-- the submission is for channel 1 and job 1
abbrev pub is_ours : SubmitSharesStandard → Bool
is_ours s = (s.channel_id == 1) && (s.job_id == 1)

-- one of the submissions, for channel 1 and job 1, has this header
abbrev pub is_submitted : List SubmitSharesStandard → Rolled → Bool
is_submitted earlier r = list_any (λ s. is_ours s && is_same r (rolled_of s)) earlier

-- the first of the four conditions that is false of a submission after the earlier ones, or none
abbrev pub first_refusal : ℕ → Job → List SubmitSharesStandard → SubmitSharesStandard
    → Option Refusal
first_refusal class job earlier s =
    if not (s.channel_id == 1) then Some InvalidChannelId
    else if not (s.job_id == 1) then Some InvalidJobId
    else if not (meets (hash_of job (rolled_of s)) class) then Some DifficultyTooLow
    else if is_submitted earlier (rolled_of s) then Some DuplicateShare
    else None

-- the error code of a refusal (Stratum V2, "SubmitShares.Error")
abbrev pub error_code : Refusal → List ℕ
error_code InvalidChannelId = codes "invalid-channel-id"
error_code InvalidJobId = codes "invalid-job-id"
error_code DifficultyTooLow = codes "difficulty-too-low"
error_code DuplicateShare = codes "duplicate-share"

-- SubmitShares.Success with one share of the class's work, or SubmitShares.Error with the code
abbrev pub answer_of : ℕ → SubmitSharesStandard → Option Refusal → List ℕ
answer_of class s None =
    frame_of 0x8000 kinds.SUBMIT_SHARES_SUCCESS
    (spelled_u32 s.channel_id ++ spelled_u32 s.sequence_number ++ spelled_u32 1
    ++ spelled_u64 (2 ^ class))
answer_of class s (Some refusal) =
    frame_of 0x8000 kinds.SUBMIT_SHARES_ERROR (spelled_u32 s.channel_id
    ++ spelled_u32 s.sequence_number ++ spelled_str255 (error_code refusal))

-- the answers to the later submissions, one after the other
unfoldable pub answers_after : ℕ → Job → List SubmitSharesStandard → List SubmitSharesStandard
    → List ℕ
answers_after class job earlier [] = []
answers_after class job earlier (s ∷ later) =
    answer_of class s (first_refusal class job earlier s)
    ++ answers_after class job (earlier ++ s ∷ []) later

-- the answers to the submissions of a fixed job
abbrev pub answers_to : ℕ → Job → List SubmitSharesStandard → List ℕ
answers_to class job shares = answers_after class job [] shares
