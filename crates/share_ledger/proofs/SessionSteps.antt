-- Sessions are planned to begin and to leave as the history answers, and are found as it says.
use Rattle.std.proofs.Common.{◌≡◌, ℕ, ◌+◌, ◌≤◌, ◌<◌, ◌^◌, Bool, true, false, cond, None, Some, Option, List, [], ◌∷◌, length, min, refl, ap, sym, subst, ◌∙◌, arith}
use Rattle.std.proofs.lemmas.Bool.{lt-ltb, ltb-true}
use Rattle.std.specs.Prelude.{bit_and, nat_lt, IfOk, Result, Ok, Err}
use Rattle.pool_history.specs.declared.asking.Request.{Request}
use Rattle.pool_history.specs.declared.asking.Request.TheVariants as request
use Rattle.pool_history.specs.declared.events.Event.{Event}
use Rattle.pool_history.specs.declared.events.Event.TheVariants as event
use Rattle.pool_history.specs.declared.events.Role.{Role}
use Rattle.pool_history.specs.declared.telling.Note.{Note}
use Rattle.pool_history.specs.declared.replies.Reply.TheVariants as reply
use Rattle.pool_history.specs.declared.settings.Rules.{Rules}
use Rattle.pool_history.specs.Answering.{Effect, entering, permits, step_as, step_for, step_in, step_under, with_event, without_event}
use Rattle.pool_history.specs.Legal.{allowed_flags}
use Rattle.pool_history.specs.News.{news}
use Rattle.pool_history.specs.Refusing.{most_enters}
use Rattle.pool_history.specs.Sessions.{Entrance, enters, entrance, present, rules_of}
use Rattle.pool_tables.specs.Tables.{SessionTable, entered_count, entrance_in, present_in}
use Rattle.share_ledger.specs.declared.planning.Change.TheVariants as change
use Rattle.share_ledger.specs.declared.planning.Step.{Step}
use Rattle.share_ledger.specs.declared.planning.Step.TheVariants as step
use Rattle.share_ledger.specs.Asking.{step_entering, step_present}
use Rattle.share_ledger.specs.Planning.{IsStep, IsStepWithin, past_in, step_within}
use Rattle.share_ledger.specs.Tables.{AreTables, LedgerTables}
use Rattle.share_ledger.proofs.Within.{at_past, within}

not_less : (a b : ℕ) → b ≤ a → nat_lt a b ≡ false
not_less a b le = by (nat_lt a b) refl where
  by : (t : Bool) → nat_lt a b ≡ t → t ≡ false
  by false h = refl
  by true h = absurd (let lt : a < b = ltb-true a b h in omega (arith, lt, le))

module _ (old : LedgerTables) (is : AreTables old) where
  entered_by : (worker : ℕ) (role : Role) (flags : ℕ) (new : LedgerTables) (st : Step)
      → IsStep new (entering is.rules (past_in old) worker role flags) st
      → IsStep new (step_entering (rules_of (past_in old)) (past_in old) worker role flags) st
  entered_by worker role flags new st h =
      subst (λ (o : Option Rules). IsStep new (step_entering o (past_in old) worker role flags) st) (sym is.told.are_rules) h

  abbrev entering_if : ℕ → Role → ℕ → Bool → Effect
  entering_if worker role flags b =
      cond b
      (with_event (event.Enter worker role (bit_and flags (allowed_flags is.rules))) (reply.Entered (enters (past_in old))))
      (without_event (reply.PoolFull most_enters))

  pub enter-full : (worker : ℕ) (role : Role) (flags : ℕ) → most_enters ≤ entered_count old.sessions
      → IsStep old (step_entering (rules_of (past_in old)) (past_in old) worker role flags) (step.Answer (reply.PoolFull most_enters))
  enter-full worker role flags full =
      entered_by worker role flags old (step.Answer (reply.PoolFull most_enters))
      (ap (entering_if worker role flags)
      (not_less (enters (past_in old)) most_enters (subst (λ n. most_enters ≤ n) is.told.sessions_are.count_is full)))

  pub enter-made : (sessions : SessionTable) (worker : ℕ) (role : Role) (flags count masked : ℕ) → count ≡ entered_count old.sessions
      → count < most_enters → masked ≡ bit_and flags (allowed_flags is.rules) → 1 ≤ sessions.room
      → entered_count sessions ≡ entered_count old.sessions
      → IsStep (record old { sessions = sessions }) (step_entering (rules_of (past_in old)) (past_in old) worker role flags)
      (step.Move (record {
        event = event.Enter worker role masked;
        change = change.Enter worker role masked;
        reply = reply.Entered count;
      }))
  enter-made sessions worker role flags count masked counted few mask room same =
      let number : count ≡ enters (past_in old) = counted ∙ is.told.sessions_are.count_is in
      entered_by worker role flags (record old { sessions = sessions }) (step.Move (record { event = event.Enter worker role masked; change = change.Enter worker role masked; reply = reply.Entered count })) (
        ap (entering_if worker role flags) (lt-ltb (enters (past_in old)) most_enters (subst (λ n. n < most_enters) number few))
            ∙ ap (λ n. with_event (event.Enter worker role (bit_and flags (allowed_flags is.rules))) (reply.Entered n)) (sym number)
            ∙ ap (λ f. with_event (event.Enter worker role f) (reply.Entered count)) (sym mask),
        record {
          is = refl;
          room = room;
          few = subst (λ n. n < most_enters) (counted ∙ sym same) few;
        },
      )

  -- the present session of a worker
  pub session-may : (worker session : ℕ) (entered : Entrance) (asked : Request) → Some session ≡ present_in old.sessions worker
      → Some entered ≡ entrance_in old.sessions session → permits asked entered ≡ true
      → step_present (rules_of (past_in old)) (past_in old) worker asked ≡ step_within (rules_of (past_in old)) (past_in old) session asked
  session-may worker session entered asked there was may =
      subst (λ (o : Option Rules). step_present o (past_in old) worker asked ≡ step_within o (past_in old) session asked) (sym is.told.are_rules)
      (ap (step_for is.rules (past_in old) asked) (sym (is.told.sessions_are.presents_are worker) ∙ sym there)
      ∙ ap (step_as is.rules (past_in old) asked session) (sym (is.told.sessions_are.entrances_are session) ∙ sym was)
      ∙ ap (λ b. cond b (step_in is.rules (past_in old) session asked) (without_event reply.NoSession)) may)

  pub session-may-not : (worker session : ℕ) (entered : Entrance) (asked : Request) → Some session ≡ present_in old.sessions worker
      → Some entered ≡ entrance_in old.sessions session → permits asked entered ≡ false
      → step_present (rules_of (past_in old)) (past_in old) worker asked ≡ without_event reply.NoSession
  session-may-not worker session entered asked there was may =
      subst (λ (o : Option Rules). step_present o (past_in old) worker asked ≡ without_event reply.NoSession) (sym is.told.are_rules)
      (ap (step_for is.rules (past_in old) asked) (sym (is.told.sessions_are.presents_are worker) ∙ sym there)
      ∙ ap (step_as is.rules (past_in old) asked session) (sym (is.told.sessions_are.entrances_are session) ∙ sym was)
      ∙ ap (λ b. cond b (step_in is.rules (past_in old) session asked) (without_event reply.NoSession)) may)

  pub session-none : (worker : ℕ) (asked : Request) → None ≡ present_in old.sessions worker
      → step_present (rules_of (past_in old)) (past_in old) worker asked ≡ without_event reply.NoSession
  session-none worker asked none =
      subst (λ (o : Option Rules). step_present o (past_in old) worker asked ≡ without_event reply.NoSession) (sym is.told.are_rules)
      (ap (step_for is.rules (past_in old) asked) (sym (is.told.sessions_are.presents_are worker) ∙ sym none))

  pub session-never : (worker session : ℕ) (asked : Request) → Some session ≡ present_in old.sessions worker → None ≡ entrance_in old.sessions session
      → step_present (rules_of (past_in old)) (past_in old) worker asked ≡ without_event reply.NoSession
  session-never worker session asked there never =
      subst (λ (o : Option Rules). step_present o (past_in old) worker asked ≡ without_event reply.NoSession) (sym is.told.are_rules)
      (ap (step_for is.rules (past_in old) asked) (sym (is.told.sessions_are.presents_are worker) ∙ sym there)
      ∙ ap (step_as is.rules (past_in old) asked session) (sym (is.told.sessions_are.entrances_are session) ∙ sym never))

  pub leave-made : (session : ℕ)
      → IsStepWithin old old session request.Leave
      (step.Move (record { event = event.Leave session; change = change.Leave session; reply = reply.Left }))
  leave-made session = within old is session request.Leave old (step.Move (record { event = event.Leave session; change = change.Leave session; reply = reply.Left })) (refl, refl)

  -- the news since a place
  pub poll-told : (session from len at : ℕ) (notes : List Note) → len ≡ length old.history.events → at ≡ min from len
      → notes ≡ news at (past_in old) session
      → IsStepWithin old old session (request.Poll from) (step.Answer (reply.News len notes))
  poll-told session from len at notes counted place told =
      within old is session (request.Poll from) old (step.Answer (reply.News len notes))
      (ap (λ l. without_event (reply.News l (news (min from l) (past_in old) session))) (at_past old is ∙ sym counted)
      ∙ ap (λ a. without_event (reply.News len (news a (past_in old) session))) (sym place)
      ∙ ap (λ n. without_event (reply.News len n)) (sym told))

-- a request that doesn't begin a session is one of a present session
pub not_entering : (o : Option Rules) (past : List Event) (worker : ℕ) (asked : Request)
    → ((role : Role) (flags : ℕ) → asked ≡ request.Enter role flags → ⊥) → step_under o past worker asked ≡ step_present o past worker asked
not_entering None past worker asked not = refl
not_entering (Some rules) past worker (request.Enter role flags) not = absurd (not role flags refl)
not_entering (Some rules) past worker request.Leave not = refl
not_entering (Some rules) past worker (request.Template template) not = refl
not_entering (Some rules) past worker (request.Tip tip) not = refl
not_entering (Some rules) past worker (request.Open ask) not = refl
not_entering (Some rules) past worker (request.Name channel identity) not = refl
not_entering (Some rules) past worker (request.Update channel target) not = refl
not_entering (Some rules) past worker (request.Close channel) not = refl
not_entering (Some rules) past worker (request.Brief sub) not = refl
not_entering (Some rules) past worker (request.Commit checked) not = refl
not_entering (Some rules) past worker (request.Poll from) not = refl
not_entering (Some rules) past worker (request.Grant identity path) not = refl
not_entering (Some rules) past worker (request.Custom custom) not = refl

-- a step by an effect is one by the same effect
pub step_if : {E : Type 0} (made : Result Step E) (new : LedgerTables) (one other : Effect) → one ≡ other
    → IfOk made (IsStep new other) → IfOk made (IsStep new one)
step_if (Err e) new one other same h = tt
step_if (Ok m) new one other same h = subst (λ (effect : Effect). IsStep new effect m) (sym same) h
