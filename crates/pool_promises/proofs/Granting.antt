-- What a present session that brings jobs of its own is replied to a Grant.
use Rattle.std.proofs.Common.{◌≡◌, ℕ, ◌+◌, ◌==◌, ◌&&◌, Bool, true, false, Option, None, Some, List, refl, sym, ap, ◌∙◌, arith}
use Rattle.std.proofs.lemmas.Nat.Bits.{bit_at_and, bit_at-lt}
use Rattle.std.specs.Int.{bit_at}
use Rattle.std.specs.Prelude.{bit_and, if◌then◌else◌}
use Rattle.pool_history.specs.declared.asking.Request.TheVariants as request
use Rattle.pool_history.specs.declared.events.Event.{Event}
use Rattle.pool_history.specs.declared.events.Event.TheVariants as event
use Rattle.pool_history.specs.declared.events.Role.{Role}
use Rattle.pool_history.specs.declared.refusals.GrantError.{GrantError}
use Rattle.pool_history.specs.declared.replies.Reply.TheVariants as reply
use Rattle.pool_history.specs.declared.settings.Rules.{Rules}
use Rattle.pool_history.specs.Accounts.{account_of}
use Rattle.pool_history.specs.Answering.{Effect, granting, step, step_as, step_for, step_in, step_under, unless_refused, with_event, without_event}
use Rattle.pool_history.specs.Legal.{allowed_flags, may_select_work, selects_work}
use Rattle.pool_history.specs.Refusing.{grant_refusal}
use Rattle.pool_history.specs.Sessions.{grants, mines, past_of}
use Rattle.pool_promises.specs.Presence.{entrance_by}
use Rattle.session_steps.specs.Taken.{brings_own_jobs}
use Rattle.pool_promises.specs.Declared.{is_of_grant}
use Rattle.pool_promises.proofs.DeclaredPresent.{IsPresent}

-- ---- the flags

lowest_allowed : (rolling : Bool) → bit_at (if rolling then 7 else 3) 1 ≡ 1
lowest_allowed true = refl
lowest_allowed false = refl

-- the pool allows the flag by which a miner brings jobs of its own
still_selects : (rules : Rules) (flags : ℕ) → selects_work (bit_and flags (allowed_flags rules)) ≡ selects_work flags
still_selects rules flags =
    let one : bit_at (allowed_flags rules) 1 ≡ 1 = lowest_allowed rules.version_rolling in
    let same : bit_at (bit_and flags (allowed_flags rules)) 1 ≡ bit_at flags 1 =
    omega (arith, bit_at_and flags (allowed_flags rules) 1, bit_at-lt flags 1, one) in
    ap (λ n. n == 1) same

may_select : (rules : Rules) (worker : ℕ) (role : Role) (flags : ℕ) → brings_own_jobs role (Some flags) ≡ true
    → may_select_work (entrance_by rules worker role flags) ≡ true
may_select rules worker role flags brings =
    ap (λ b. mines role && b) (still_selects rules flags) ∙ brings

-- ---- the reply

unless_grants : (refused : Option GrantError) (made : Event) (number : ℕ) (script : List ℕ)
    → is_of_grant (unless_refused reply.GrantRefused refused (with_event made (reply.Granted number script))).reply ≡ true
unless_grants None made number script = refl
unless_grants (Some error) made number script = refl

pub grant_replied : (worker : ℕ) (events : List Event) (role : Role) (flags : Option ℕ) (entered : Bool)
    (identity : List ℕ) (path : List (List ℕ)) → IsPresent worker events role flags entered
    → brings_own_jobs role flags ≡ true
    → is_of_grant (step (past_of events) worker (request.Grant identity (Some path))).reply ≡ true
grant_replied worker events role flags entered identity path there brings =
    let asked = request.Grant identity (Some path) in
    let past = past_of events in
    let may : may_select_work (entrance_by there.rules worker role there.with') ≡ true =
    may_select there.rules worker role there.with' (sym (ap (brings_own_jobs role) there.flags_are) ∙ brings) in
    let step_is : step past worker asked ≡ granting there.rules past there.session (account_of identity) (Some path) =
    ap (λ o. step_under o past worker asked) there.inside.are_rules
    ∙ ap (step_for there.rules past asked) there.inside.there
    ∙ ap (step_as there.rules past asked there.session) there.inside.is_entered
    ∙ ap (λ b. if b then step_in there.rules past there.session asked else without_event reply.NoSession) may in
    ap (λ (made : Effect). is_of_grant made.reply) step_is
    ∙ unless_grants (grant_refusal there.rules past (account_of identity) path)
    (event.Grant there.session (account_of identity) true path) (grants past + 1) there.rules.pool_script
