-- The causes of events by the rules, and by the sessions that they name.
use Rattle.std.proofs.Common.{◌≡◌, ℕ, ◌+◌, Bool, true, false, Option, None, Some, List, [], ◌∷◌, length, arith, refl, ap, sym, ◌∙◌}
use Rattle.std.specs.Prelude.{nat_lt}
use Rattle.pool_history.specs.declared.causes.Cause.{Cause}
use Rattle.pool_history.specs.declared.causes.Cause.TheVariants as cause
use Rattle.pool_history.specs.declared.events.Event.{Event}
use Rattle.pool_history.specs.declared.events.Event.TheVariants as event
use Rattle.pool_history.specs.declared.events.Role.{Role}
use Rattle.pool_history.specs.declared.settings.Rules.{Rules}
use Rattle.pool_history.specs.Conditions.{or_code}
use Rattle.pool_history.specs.Legal.{are_acceptable, cause_by, cause_in, cause_of, entered_with, within}
use Rattle.pool_history.specs.Refusing.{most_enters}
use Rattle.pool_history.specs.Sessions.{Entrance, enters, entrance, is_present, rules_of}
use Rattle.pool_history.specs.Channels.{channel_moves}
use Rattle.history_laws.proofs.AskedPlaces.{asked-before}
use Rattle.history_laws.specs.AskedPlaces.{is_asked_after}
use Rattle.channels.proofs.Cuts.{told-weaker}
use Rattle.channels.specs.Tables.{IsTold}
use Rattle.ledger_replay.specs.Replays.{HasCause, ReplayTables, WereReplayed}

pub some-none : {X : Type 0} {x : X} → ◌≡◌ {A = Option X} (Some x) None → ⊥
some-none e = cc

-- where there are rules, a cause is by them
pub cause-known : (past : List Event) (event : Event) (rules : Rules) → rules_of past ≡ Some rules → cause_of past event ≡ cause_by rules past event
cause-known [] event rules are = absurd (some-none (sym are))
cause-known (last ∷ past) event rules are = ap (λ known. cause_in known (last ∷ past) event) are

-- a session's cause is the event's, and without one the event's own conditions are left
within-some : (may : Entrance → Bool) (past : List Event) (session : ℕ) (own : Option Cause) (code : Cause)
    → Some code ≡ within may past session None → within may past session own ≡ Some code
within-some may past session own code is = by_tests (is_present past session) (entered_with may (entrance past session)) is where
  by_tests : (a b : Bool) → Some code ≡ or_code a cause.NoSession (or_code b cause.BadRole None) → or_code a cause.NoSession (or_code b cause.BadRole own) ≡ Some code
  by_tests true true same = absurd (some-none same)
  by_tests true false same = sym same
  by_tests false b same = sym same

within-none : (may : Entrance → Bool) (past : List Event) (session : ℕ) (own : Option Cause)
    → None ≡ within may past session None → within may past session own ≡ own
within-none may past session own is = by_tests (is_present past session) (entered_with may (entrance past session)) is where
  by_tests : (a b : Bool) → ◌≡◌ {A = Option Cause} None (or_code a cause.NoSession (or_code b cause.BadRole None)) → or_code a cause.NoSession (or_code b cause.BadRole own) ≡ own
  by_tests true true same = refl
  by_tests true false same = absurd (some-none (sym same))
  by_tests false b same = absurd (some-none (sym same))

pub by_session : (t : ReplayTables) (past : List Event) (event : Event) (may : Entrance → Bool) (session : ℕ) (own : Option Cause) (code : Cause)
    → WereReplayed t past → cause_by t.rules past event ≡ within may past session own → Some code ≡ within may past session None
    → HasCause past event code × WereReplayed t past
by_session t past event may session own code was same is =
    (cause-known past event t.rules was.rules_are ∙ same ∙ within-some may past session own code is, was)

pub by_own : (t : ReplayTables) (past : List Event) (event : Event) (may : Entrance → Bool) (session : ℕ) (own : Option Cause)
    → WereReplayed t past → cause_by t.rules past event ≡ within may past session own → None ≡ within may past session None
    → cause_of past event ≡ own
by_own t past event may session own was same is = cause-known past event t.rules was.rules_are ∙ same ∙ within-none may past session own is

-- one event more
pub one-longer : (events : ℕ) (event : Event) (past : List Event) → events ≡ length past → events + 1 ≡ length (event ∷ past)
one-longer events event past are = omega (arith, are)

-- after one more event classes are asked for at fewer places
pub fewer-told : (t : ReplayTables) (past : List Event) (one : Event) → WereReplayed t past
    → IsTold (is_asked_after (one ∷ past)) t.channels (channel_moves past)
fewer-told t past one was = told-weaker (is_asked_after past) (is_asked_after (one ∷ past)) t.channels (channel_moves past) (asked-before one past) was.channels_are

-- an Enter that the rules allow
pub enter-allowed : (rules : Rules) (past : List Event) (worker : ℕ) (role : Role) (flags : ℕ) → nat_lt (enters past) most_enters ≡ true
    → are_acceptable rules flags ≡ true → cause_by rules past (event.Enter worker role flags) ≡ None
enter-allowed rules past worker role flags few right =
    ap (λ b. or_code b cause.PoolFull (or_code (are_acceptable rules flags) cause.BadFlags None)) few ∙ ap (λ b. or_code b cause.BadFlags None) right
