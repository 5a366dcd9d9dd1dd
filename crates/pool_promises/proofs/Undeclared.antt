-- Frames of declarations are taken once a session is set up, and no other message is of their kinds.
use Rattle.std.proofs.Common.{◌≡◌, ◌⊎◌, ◌==◌, ◌&&◌, ◌||◌, ◌%◌, ℕ, Bool, true, false, Option, None, List, inl, inr, refl, sym, ap, subst, ◌∙◌}
use Rattle.std.proofs.lemmas.Bool.{eqb-true, false≢true}
use Rattle.sv2_frames.specs.Framing.{FrameValue}
use Rattle.sv2_messages.specs.declared.kinds.TheConstants as kinds
use Rattle.sv2_messages.specs.Messages.{Message}
use Rattle.pool_history.specs.declared.asking.OpenAsk.{OpenAsk}
use Rattle.pool_history.specs.declared.asking.Request.{Request}
use Rattle.pool_history.specs.declared.asking.Request.TheVariants as request
use Rattle.pool_history.specs.declared.events.Kind.{Kind}
use Rattle.pool_history.specs.declared.events.Kind.TheVariants.{Standard, Extended, V1}
use Rattle.pool_history.specs.declared.events.Role.{Role}
use Rattle.pool_history.specs.declared.events.Role.TheVariants.{Miner, Feed, Solo}
use Rattle.pool_history.specs.declared.shares.Submission.{Submission}
use Rattle.session_steps.specs.declared.about.About.{About}
use Rattle.session_steps.specs.Asking.{Asks, IsOpening, IsSharing}
use Rattle.session_steps.specs.Taken.{brings_own_jobs, is_declared_kind, is_taken, takes_kind}
use Rattle.session_steps.specs.Talks.{Talk}

-- a message of a session's work is none of a declaration
opening_undeclared : (kind : Kind) (message : Message) (ask : OpenAsk) (request_id : ℕ) (rate : List ℕ)
    → IsOpening kind message ask request_id rate → is_declared_kind message.kind ≡ false
opening_undeclared Standard message ask request_id rate is = ap (λ m. is_declared_kind m.kind) is
opening_undeclared Extended message ask request_id rate is = ap (λ m. is_declared_kind m.kind) is
opening_undeclared V1 message ask request_id rate is = absurd is

sharing_undeclared : (kind : Kind) (message : Message) (sub : Submission)
    → IsSharing kind message sub → is_declared_kind message.kind ≡ false
sharing_undeclared Standard message sub is = ap (λ m. is_declared_kind m.kind) is.0
sharing_undeclared Extended message sub is = ap (λ m. is_declared_kind m.kind) is
sharing_undeclared V1 message sub is = absurd is

pub asks_undeclared : (message : Message) (asked : Request) (about : About) → Asks message asked about
    → is_declared_kind message.kind ≡ false
asks_undeclared message (request.Template template) about asks = ap (λ m. is_declared_kind m.kind) asks.0
asks_undeclared message (request.Tip tip) about asks = ap (λ m. is_declared_kind m.kind) asks.0
asks_undeclared message (request.Open ask) about asks =
    opening_undeclared ask.kind message ask asks.request_id asks.rate asks.opening
asks_undeclared message (request.Update channel target) about asks = ap (λ m. is_declared_kind m.kind) asks.update
asks_undeclared message (request.Close channel) about asks = ap (λ m. is_declared_kind m.kind) asks.closing
asks_undeclared message (request.Brief sub) about asks = sharing_undeclared sub.kind message sub asks.sharing
asks_undeclared message (request.Grant identity path) about asks = ap (λ m. is_declared_kind m.kind) asks.token
asks_undeclared message (request.Custom custom) about asks = ap (λ m. is_declared_kind m.kind) asks.job
asks_undeclared message (request.Enter role flags) about asks = absurd asks
asks_undeclared message request.Leave about asks = absurd asks
asks_undeclared message (request.Name channel identity) about asks = absurd asks
asks_undeclared message (request.Commit checked) about asks = absurd asks
asks_undeclared message (request.Poll from) about asks = absurd asks

-- the kinds of declarations
or_cases : (p q : Bool) → (p || q) ≡ true → (p ≡ true) ⊎ (q ≡ true)
or_cases true q is = inl refl
or_cases false q is = inr is

pub and_second : (p q : Bool) → (p && q) ≡ true → q ≡ true
and_second true q is = is
and_second false q is = absurd (false≢true is)

pub declared_kinds : (kind : ℕ) → is_declared_kind kind ≡ true
    → (kind ≡ kinds.DECLARE_MINING_JOB) ⊎ (kind ≡ kinds.PROVIDE_MISSING_TRANSACTIONS_SUCCESS)
declared_kinds kind is =
    elim (or_cases (kind == kinds.DECLARE_MINING_JOB) (kind == kinds.PROVIDE_MISSING_TRANSACTIONS_SUCCESS) is) [
      | inl one ↦ inl (eqb-true kind kinds.DECLARE_MINING_JOB one)
      | inr other ↦ inr (eqb-true kind kinds.PROVIDE_MISSING_TRANSACTIONS_SUCCESS other)
    ]

-- by the flags of the setup, whether a kind is taken
abbrev takes_by : Role → Bool → ℕ → Option ℕ → Bool
takes_by role declares kind flags =
    takes_kind role flags kind || (is_declared_kind kind && (declares && brings_own_jobs role flags))

first_untaken : (role : Role) (declares : Bool) → takes_by role declares kinds.DECLARE_MINING_JOB None ≡ false
first_untaken Miner true = refl
first_untaken Miner false = refl
first_untaken Feed true = refl
first_untaken Feed false = refl
first_untaken Solo true = refl
first_untaken Solo false = refl

second_untaken : (role : Role) (declares : Bool)
    → takes_by role declares kinds.PROVIDE_MISSING_TRANSACTIONS_SUCCESS None ≡ false
second_untaken Miner true = refl
second_untaken Miner false = refl
second_untaken Feed true = refl
second_untaken Feed false = refl
second_untaken Solo true = refl
second_untaken Solo false = refl

untaken : (role : Role) (declares : Bool) (kind : ℕ) → is_declared_kind kind ≡ true
    → takes_by role declares kind None ≡ false
untaken role declares kind is =
    elim (declared_kinds kind is) [
      | inl one ↦ rw one (first_untaken role declares)
      | inr other ↦ rw other (second_untaken role declares)
    ]

-- no declaration is taken before the setup
pub no_setup : (talk : Talk) (frame : FrameValue) → talk.flags ≡ None → is_taken talk frame ≡ true
    → is_declared_kind frame.kind ≡ true → ⊥
no_setup talk frame none taken is =
    let by_flags : takes_by talk.role talk.declares frame.kind talk.flags ≡ true =
    and_second (frame.ext % 0x8000 == 0) (takes_by talk.role talk.declares frame.kind talk.flags) taken in
    let at_none : takes_by talk.role talk.declares frame.kind None ≡ true =
    subst (λ flags. takes_by talk.role talk.declares frame.kind flags ≡ true) none by_flags in
    false≢true (sym (untaken talk.role talk.declares frame.kind is) ∙ at_none)
