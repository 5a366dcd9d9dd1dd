-- What a judge keeps is enough to tell a duplicate.
use Rattle.std.proofs.Common.{◌≡◌, ℕ, Bool, true, false, not, ◌==◌, ◌&&◌, ◌||◌, List, [], ◌∷◌, ◌++◌, Option, Some, None, cond, refl, sym, ap, ◌∙◌}
use Rattle.std.specs.Option.{is_some}
use Rattle.std.proofs.lemmas.Bool.{and_parts, eqb-true}
use Rattle.std.proofs.lemmas.List.Folds.{list_any-append}
use Rattle.block_header.specs.Hash.{meets}
use Rattle.mining_msgs.specs.declared.shares.SubmitSharesStandard.{SubmitSharesStandard}
use Rattle.stream_programs.specs.declared.submission.Rolled.{Rolled}
use Rattle.stream_programs.specs.declared.judge.Job.{Job}
use Rattle.stream_programs.specs.declared.judge.Refusal.{Refusal}
use Rattle.stream_programs.specs.declared.judge.Refusal.TheVariants.{InvalidChannelId, InvalidJobId, DifficultyTooLow, DuplicateShare}
use Rattle.stream_programs.specs.Rolling.{rolled_of, is_same}
use Rattle.stream_programs.specs.Answers.{hash_of, is_ours, is_submitted, first_refusal}

-- what is tested equal is equal
same_rolled : (a b : Rolled) → is_same a b ≡ true → a ≡ b
same_rolled a b same =
    let outer = and_parts ((a.version == b.version) && (a.ntime == b.ntime)) (a.nonce == b.nonce) same in
    let inner = and_parts (a.version == b.version) (a.ntime == b.ntime) outer.0 in
    let version = eqb-true a.version b.version inner.0 in
    let ntime = eqb-true a.ntime b.ntime inner.1 in
    let nonce = eqb-true a.nonce b.nonce outer.1 in
    λ i. record { version = version i; ntime = ntime i; nonce = nonce i }

-- one more submission
submitted_more : (shares : List SubmitSharesStandard) (s : SubmitSharesStandard) (r : Rolled)
    → is_submitted (shares ++ s ∷ []) r ≡ (is_submitted shares r || (is_ours s && is_same r (rolled_of s)))
submitted_more shares s r =
    list_any-append (λ t. is_ours t && is_same r (rolled_of t)) shares (s ∷ [])
    ∙ ap (λ last. is_submitted shares r || last) (or-false (is_ours s && is_same r (rolled_of s)))
  where
    or-false : (b : Bool) → (b || false) ≡ b
    or-false true = refl
    or-false false = refl

-- a condition failed, and which
data Failure (channel job meets_class known : Bool) : Type 0 where
  other_channel : channel ≡ false → Failure channel job meets_class known
  other_job : job ≡ false → Failure channel job meets_class known
  too_weak : meets_class ≡ false → Failure channel job meets_class known
  duplicate : known ≡ true → Failure channel job meets_class known

-- the first of four conditions that fails
abbrev first_of : Bool → Bool → Bool → Bool → Option Refusal
first_of channel job meets_class known =
    cond (not channel) (Some InvalidChannelId)
    (cond (not job) (Some InvalidJobId)
    (cond (not meets_class) (Some DifficultyTooLow)
    (cond known (Some DuplicateShare) None)))

failure_of : (channel job meets_class known : Bool) → is_some (first_of channel job meets_class known) ≡ true → Failure channel job meets_class known
failure_of false job meets_class known some = other_channel refl
failure_of true false meets_class known some = other_job refl
failure_of true true false known some = too_weak refl
failure_of true true true true some = duplicate refl
failure_of true true true false some = cc

or_none : (a b : Bool) → b ≡ false → (a || b) ≡ a
or_none true b none = refl
or_none false b none = none

or_known : (a b : Bool) → (b ≡ true → a ≡ true) → (a || b) ≡ a
or_known true b known = refl
or_known false true known = sym (known refl)
or_known false false known = refl

not_first : (a b : Bool) → a ≡ false → (a && b) ≡ false
not_first false b none = refl
not_first true b none = cc

not_second : (a b : Bool) → b ≡ false → (a && b) ≡ false
not_second false b none = refl
not_second true b none = none

false_unless : (b : Bool) → (b ≡ true → ⊥) → b ≡ false
false_unless true never = absurd (never refl)
false_unless false never = refl

module _ (class : ℕ) (job : Job) (shares : List SubmitSharesStandard) (s : SubmitSharesStandard) (r : Rolled) where
  -- after a refusal nothing more is submitted that meets the class
  refused_by : meets (hash_of job r) class ≡ true
      → Failure (s.channel_id == 1) (s.job_id == 1) (meets (hash_of job (rolled_of s)) class) (is_submitted shares (rolled_of s))
      → (is_submitted shares r || (is_ours s && is_same r (rolled_of s))) ≡ is_submitted shares r
  refused_by strong (other_channel none) =
      or_none (is_submitted shares r) (is_ours s && is_same r (rolled_of s))
      (not_first (is_ours s) (is_same r (rolled_of s)) (not_first (s.channel_id == 1) (s.job_id == 1) none))
  refused_by strong (other_job none) =
      or_none (is_submitted shares r) (is_ours s && is_same r (rolled_of s))
      (not_first (is_ours s) (is_same r (rolled_of s)) (not_second (s.channel_id == 1) (s.job_id == 1) none))
  refused_by strong (too_weak weak) =
      let never : is_same r (rolled_of s) ≡ true → ⊥ = λ same.
      let equal = ap (λ q. meets (hash_of job q) class) (same_rolled r (rolled_of s) same) in
      let contrary : true ≡ false = sym strong ∙ equal ∙ weak in
      cc in
      or_none (is_submitted shares r) (is_ours s && is_same r (rolled_of s))
      (not_second (is_ours s) (is_same r (rolled_of s)) (false_unless (is_same r (rolled_of s)) never))
  refused_by strong (duplicate known) =
      or_known (is_submitted shares r) (is_ours s && is_same r (rolled_of s))
      (λ both. ap (is_submitted shares) (same_rolled r (rolled_of s) (and_parts (is_ours s) (is_same r (rolled_of s)) both).1) ∙ known)

  pub refused_more : meets (hash_of job r) class ≡ true → is_some (first_refusal class job shares s) ≡ true
      → is_submitted (shares ++ s ∷ []) r ≡ is_submitted shares r
  refused_more strong some =
      submitted_more shares s r
      ∙ refused_by strong
      (failure_of (s.channel_id == 1) (s.job_id == 1) (meets (hash_of job (rolled_of s)) class) (is_submitted shares (rolled_of s)) some)
