-- Channels are planned to be opened, named, classed and closed as the history answers.
use Rattle.std.proofs.Common.{◌≡◌, ◌≢◌, ◌⊎◌, inl, inr, ℕ, ◌+◌, ◌≤◌, ◌<◌, Bool, true, false, cond, None, Some, Option, Result, Ok, Err, List, [], ◌∷◌, ◌++◌, length, refl, ap, sym, subst, ◌∙◌, arith}
use Rattle.std.proofs.lemmas.Bool.{le-leb}
use Rattle.std.specs.Option.{option_map, option_map_or}
use Rattle.std.specs.Prelude.{is_some, nat_eq, nat_le, not, IsTrue}
use Rattle.pool_history.specs.declared.asking.OpenAsk.{OpenAsk}
use Rattle.pool_history.specs.declared.asking.Request.TheVariants as request
use Rattle.pool_history.specs.declared.events.Event.{Event}
use Rattle.pool_history.specs.declared.events.Event.TheVariants as event
use Rattle.pool_history.specs.declared.refusals.NameError.{NameError}
use Rattle.pool_history.specs.declared.refusals.NameError.TheVariants as name_error
use Rattle.pool_history.specs.declared.refusals.OpenError.{OpenError}
use Rattle.pool_history.specs.declared.refusals.OpenError.TheVariants as open_error
use Rattle.pool_history.specs.declared.refusals.UpdateError.{UpdateError}
use Rattle.pool_history.specs.declared.refusals.UpdateError.TheVariants as update_error
use Rattle.pool_history.specs.declared.replies.Opened.{Opened}
use Rattle.pool_history.specs.declared.replies.Reply.TheVariants as reply
use Rattle.pool_history.specs.declared.settings.Rules.{Rules}
use Rattle.pool_history.specs.declared.spans.LiveSpan.{LiveSpan}
use Rattle.pool_history.specs.Accounts.{account_of, is_empty}
use Rattle.pool_history.specs.Answering.{Effect, account_for, classing, closing, naming, opening, step_in, with_event, with_found, without_event}
use Rattle.pool_history.specs.Channels.{ChannelMove, OpenChannel, Opens, Names, Sets, channel_in, channel_moves, channels_in, channels_of, present_class}
use Rattle.pool_history.specs.Conditions.{found, provided}
use Rattle.pool_history.specs.Jobs.{jobs_of}
use Rattle.pool_history.specs.Refusing.{class_for, class_of_target, nameable, openable_among, own_channel, updatable}
use Rattle.pool_history.specs.Sessions.{opens, rules_of}
use Rattle.history_laws.proofs.Answering.{was-nameable}
use Rattle.history_laws.proofs.AskedPlaces.{asked-within}
use Rattle.history_laws.proofs.Legalities.{some-same}
use Rattle.history_laws.proofs.Living.{alive}
use Rattle.history_laws.specs.AskedPlaces.{AreLiveWithin, is_asked_after}
use Rattle.history_laws.specs.KeptJobs.{KeptJobs}
use Rattle.channels.specs.Histories.{ShowsHistory, TablesShowHistories}
use Rattle.channels.proofs.Cuts.{AnswersIfAny, nameable-same, none-same, openable-same, own-answers, present-same}
use Rattle.channels.proofs.Cuts as cuts
use Rattle.channels.specs.Plans.{CanApply, IsAskedAsPlanned, IsUnless, completion_of, opened_for, opening_on, opening_plan, plan_for, planned_move}
use Rattle.channels.specs.Tables.{ChannelTable, KeptChannel, kept_channel}
use Rattle.channels.specs.declared.plan.ChannelPlan.{ChannelPlan}
use Rattle.channels.specs.declared.plan.ChannelPlan.TheVariants as plan
use Rattle.channels.specs.declared.table.SetError.{SetError}
use Rattle.channels.specs.declared.table.SetError.TheVariants as set_error
use Rattle.template_jobs.specs.Tables.{kept_jobs}
use Rattle.share_ledger.specs.declared.planning.Change.TheVariants as change
use Rattle.share_ledger.specs.declared.planning.Step.{Step}
use Rattle.share_ledger.specs.declared.planning.Step.TheVariants as step
use Rattle.share_ledger.specs.ChannelSteps.{IsNamingPlan, IsOpeningPlan, class_step, name_step, open_step}
use Rattle.share_ledger.specs.Planning.{ClosesOwn, ForgetsWithin, IsStep, IsStepWithin, MovesChannels, past_in}
use Rattle.share_ledger.specs.Tables.{AreTables, LedgerTables}
use Rattle.share_ledger.proofs.Within.{at_past, within_by}

pub err_same : {X E : Type 0} {a b : E} → ◌≡◌ {A = Result X E} (Err a) (Err b) → a ≡ b
err_same e = cc

-- what an answer was, if it isn't a lack of memory
pub planned_as : {X E : Type 0} (memory : E) (x : X) (answer : Result X E) → IsUnless memory (Ok x) answer → answer ≡ Ok x
planned_as memory x answer (inl h) = absurd cc
planned_as memory x answer (inr h) = sym h

pub refused_as : {X E : Type 0} (memory error : E) (answer : Result X E) → error ≢ memory → IsUnless memory (Err error) answer → answer ≡ Err error
refused_as memory error answer not (inl h) = absurd (not (err_same h))
refused_as memory error answer not (inr h) = sym h

-- an opening that was planned has its lead
pub record IsPlannedOpening (table : ChannelTable) (rules : Rules) (session at : ℕ) (ask : OpenAsk) (r : Result (List ℕ) OpenError)
    (planned : ChannelPlan) : Type 0 where
  pub lead : List ℕ
  pub found : r ≡ Ok lead
  pub is : planned ≡ plan.Open at session ask.kind (account_for ask.kind ask.identity)
      (record { channel = table.opened + 1; class = class_for rules ask.max_target; lead = lead })

opening-planned : (table : ChannelTable) (rules : Rules) (session at : ℕ) (ask : OpenAsk) (r : Result (List ℕ) OpenError) (planned : ChannelPlan)
    → opening_plan session at ask (opened_for table rules ask r) ≡ Ok planned → IsPlannedOpening table rules session at ask r planned
opening-planned table rules session at ask (Err e) planned h = absurd cc
opening-planned table rules session at ask (Ok lead) planned h = record { lead = lead; found = refl; is = ok-same (sym h) } where
  ok-same : {x y : ChannelPlan} → ◌≡◌ {A = Result ChannelPlan OpenError} (Ok x) (Ok y) → x ≡ y
  ok-same e = cc

opening-refused : (table : ChannelTable) (rules : Rules) (session at : ℕ) (ask : OpenAsk) (r : Result (List ℕ) OpenError) (error : OpenError)
    → opening_plan session at ask (opened_for table rules ask r) ≡ Err error → r ≡ Err error
opening-refused table rules session at ask (Err e) error h = ap Err (err-same h) where
  err-same : ◌≡◌ {A = Result ChannelPlan OpenError} (Err e) (Err error) → e ≡ error
  err-same q = cc
opening-refused table rules session at ask (Ok lead) error h = absurd cc

-- a class that was planned, or that no open channel may get
pub class-planned : (made planned : ChannelPlan) (r : Result OpenChannel SetError) → IsUnless set_error.Memory (Ok planned) (plan_for made r) → planned ≡ made
class-planned made planned r (inl h) = absurd cc
class-planned made planned (Err e) (inr h) = absurd cc
class-planned made planned (Ok c) (inr h) = ok-same h where
  ok-same : {x y : ChannelPlan} → ◌≡◌ {A = Result ChannelPlan SetError} (Ok x) (Ok y) → x ≡ y
  ok-same e = cc

pub class-unplanned : (made : ChannelPlan) (o : Option OpenChannel)
    → IsUnless {X = ChannelPlan} set_error.Memory (Err set_error.NotOpen) (plan_for made (found set_error.NotOpen o)) → None ≡ option_map present_class o
class-unplanned made o (inl h) = absurd cc
class-unplanned made None (inr h) = refl
class-unplanned made (Some c) (inr h) = absurd cc

-- a channel that was found is among those that are shown
pub kept-some : (k : KeptChannel) (o : Option OpenChannel) → Some k ≡ option_map kept_channel o → (c : OpenChannel) × (o ≡ Some c)
kept-some k None h = absurd cc
kept-some k (Some c) h = (c, refl)

pub kept-none : (o : Option OpenChannel) → None ≡ option_map kept_channel o → o ≡ None
kept-none None h = refl
kept-none (Some c) h = absurd cc

module _ (old : LedgerTables) (is : AreTables old) (session : ℕ) (shown : TablesShowHistories) (rules : Rules)
    (are : rules_of (past_in old) ≡ Some rules) where
  shows : ShowsHistory (is_asked_after (past_in old)) old.channels (past_in old)
  shows = shown (is_asked_after (past_in old)) old.channels (past_in old) is.told.channels_are

  abbrev own_in : ℕ → Option OpenChannel
  own_in id = channel_in (channels_in old.channels.open_channels session) id

  own : (id : ℕ) → AnswersIfAny (is_asked_after (past_in old)) (own_in id) (own_channel (past_in old) session id)
  own id = own-answers (is_asked_after (past_in old)) old.channels.open_channels (channels_of (past_in old)) session id shows.channels_are

  -- openings
  openable_is : (ask : OpenAsk) (r : Result (List ℕ) OpenError) → openable_among rules old.channels.open_channels old.channels.opened session ask ≡ r
      → openable_among rules (channels_of (past_in old)) (opens (past_in old)) session ask ≡ r
  openable_is ask r h =
      sym (openable-same (is_asked_after (past_in old)) old.channels.open_channels (channels_of (past_in old)) rules (opens (past_in old)) session ask
      shows.channels_are)
      ∙ ap (λ n. openable_among rules old.channels.open_channels n session ask) (sym shows.opened_are) ∙ h

  pub open-made : (channels : ChannelTable) (ask : OpenAsk) (planned : ChannelPlan) (at : ℕ) → at ≡ length old.history.events
      → IsUnless open_error.Memory (Ok planned) (opening_plan session at ask (opening_on old.channels rules session ask))
      → CanApply channels planned
      → IsStepWithin old (record old { channels = channels }) session (request.Open ask) (open_step planned)
  open-made channels ask planned at placed told ready =
      let answer : IsUnless open_error.Memory (Ok planned) (opening_plan session (length old.history.events) ask (opening_on old.channels rules session ask)) =
      subst (λ n. IsUnless open_error.Memory (Ok planned) (opening_plan session n ask (opening_on old.channels rules session ask))) placed told in
      let o : IsPlannedOpening old.channels rules session (length old.history.events) ask
      (openable_among rules old.channels.open_channels old.channels.opened session ask) planned =
      opening-planned old.channels rules session (length old.history.events) ask _ planned (planned_as open_error.Memory planned _ answer) in
      let opened : Opened = record { channel = old.channels.opened + 1; class = class_for rules ask.max_target; lead = o.lead } in
      let made : ChannelPlan = plan.Open (length old.history.events) session ask.kind (account_for ask.kind ask.identity) opened in
      let e : Event = event.Open session ask.kind (account_for ask.kind ask.identity) (class_for rules ask.max_target) o.lead in
      subst (λ p. IsStepWithin old (record old { channels = channels }) session (request.Open ask) (open_step p)) (sym o.is)
      (within_by old is rules are session (request.Open ask) (record old { channels = channels }) (open_step made) (
        ap (with_found reply.OpenRefused (opening rules (past_in old) session ask)) (openable_is ask (Ok o.lead) o.found)
            ∙ ap (λ n. with_event e (reply.Opened (record { channel = n + 1; class = class_for rules ask.max_target; lead = o.lead })))
            (sym shows.opened_are),
        record {
          only = tt;
          moves = ap (λ n. Opens n session ask.kind (account_for ask.kind ask.identity) (class_for rules ask.max_target) o.lead
              ∷ channel_moves (past_in old)) (at_past old is);
          ready = subst (CanApply channels) o.is ready;
          asked = tt;
          spanned = tt;
        },
      ))

  pub open-refused : (channels : ChannelTable) (ask : OpenAsk) (error : OpenError) (at : ℕ) → error ≢ open_error.Memory
      → IsUnless open_error.Memory (Err error) (opening_plan session at ask (opening_on old.channels rules session ask))
      → IsStepWithin old (record old { channels = channels }) session (request.Open ask) (step.Answer (reply.OpenRefused error))
  open-refused channels ask error at not answer =
      within_by old is rules are session (request.Open ask) (record old { channels = channels }) (step.Answer (reply.OpenRefused error))
      (ap (with_found reply.OpenRefused (opening rules (past_in old) session ask))
      (openable_is ask (Err error)
      (opening-refused old.channels rules session at ask _ error (refused_as open_error.Memory error _ not answer))))

  -- names
  name-planned : (channel : ℕ) (account : List ℕ) (r : Result OpenChannel NameError) (planned : ChannelPlan)
      → plan_for (plan.Name channel account) r ≡ Ok planned → (c : OpenChannel) × (r ≡ Ok c) × (planned ≡ plan.Name channel account)
  name-planned channel account (Err e) planned h = absurd cc
  name-planned channel account (Ok c) planned h = (c, refl, ok-same (sym h)) where
    ok-same : {x y : ChannelPlan} → ◌≡◌ {A = Result ChannelPlan NameError} (Ok x) (Ok y) → x ≡ y
    ok-same e = cc

  name-refused : (channel : ℕ) (account : List ℕ) (r : Result OpenChannel NameError) (error : NameError)
      → plan_for (plan.Name channel account) r ≡ Err error → r ≡ Err error
  name-refused channel account (Err e) error h = ap Err (err-same h) where
    err-same : ◌≡◌ {A = Result ChannelPlan NameError} (Err e) (Err error) → e ≡ error
    err-same q = cc
  name-refused channel account (Ok c) error h = absurd cc

  -- the history's channel may be named where the one that is kept may, and is refused as that is
  completed : (r : Result OpenChannel NameError) → completion_of r ≡ Ok tt → (c : OpenChannel) × (r ≡ Ok c)
  completed (Ok c) h = (c, refl)
  completed (Err e) h = absurd cc

  uncompleted : (r : Result OpenChannel NameError) (e : NameError) → completion_of r ≡ Err e → r ≡ Err e
  uncompleted (Ok c) e h = absurd cc
  uncompleted (Err d) e h = ap Err (err-same h) where
    err-same : ◌≡◌ {A = Result Unit NameError} (Err d) (Err e) → d ≡ e
    err-same q = cc

  nameable_by : (id : ℕ) (account : List ℕ) (r : Result OpenChannel NameError) → nameable rules account (own_in id) ≡ r
      → completion_of (nameable rules account (own_channel (past_in old) session id)) ≡ completion_of r
  nameable_by id account r h =
      sym (nameable-same (is_asked_after (past_in old)) (own_in id) (own_channel (past_in old) session id) rules account (own id)) ∙ ap completion_of h

  nameable_is : (id : ℕ) (account : List ℕ) (c : OpenChannel) → nameable rules account (own_in id) ≡ Ok c
      → (told : OpenChannel) × (nameable rules account (own_channel (past_in old) session id) ≡ Ok told)
  nameable_is id account c h = completed _ (nameable_by id account (Ok c) h)

  unnameable_is : (id : ℕ) (account : List ℕ) (e : NameError) → nameable rules account (own_in id) ≡ Err e
      → nameable rules account (own_channel (past_in old) session id) ≡ Err e
  unnameable_is id account e h = uncompleted _ e (nameable_by id account (Err e) h)

  unnamed-both : (kept told : Option OpenChannel) → AnswersIfAny (is_asked_after (past_in old)) kept told
      → option_map_or (λ (there : OpenChannel). is_empty there.account) kept false
      ≡ option_map_or (λ (there : OpenChannel). is_empty there.account) told false
  unnamed-both None None a = refl
  unnamed-both None (Some told) a = absurd a
  unnamed-both (Some kept) None a = absurd a
  unnamed-both (Some kept) (Some told) a = ap (λ (c : KeptChannel). is_empty c.account) a.kept_is

  abbrev named_effect : ℕ → List ℕ → Result OpenChannel NameError → Effect
  named_effect id account r = with_found reply.NameRefused (naming session id account) r

  unnamed_is : (id : ℕ) (account : List ℕ) (c : OpenChannel) (b : Bool) → nameable rules account (own_channel (past_in old) session id) ≡ Ok c
      → b ≡ option_map_or (λ (there : OpenChannel). is_empty there.account) (channel_in (channels_in old.channels.open_channels session) id) false
      → b ≡ is_empty c.account
  unnamed_is id account c b found is_unnamed =
      is_unnamed ∙ unnamed-both _ _ (own id)
      ∙ ap (λ o. option_map_or (λ (there : OpenChannel). is_empty there.account) o false) (was-nameable rules account _ c found).0

  pub name-made : (channels : ChannelTable) (id : ℕ) (identity : List ℕ) (planned : ChannelPlan) (unnamed : Bool)
      → IsUnless name_error.Memory (Ok planned) (plan_for (plan.Name id (account_of identity))
      (nameable rules (account_of identity) (channel_in (channels_in old.channels.open_channels session) id)))
      → CanApply channels planned
      → unnamed ≡ option_map_or (λ (there : OpenChannel). is_empty there.account) (channel_in (channels_in old.channels.open_channels session) id) false
      → unnamed ≡ true
      → IsStepWithin old (record old { channels = channels }) session (request.Name id identity) (name_step session planned)
  name-made channels id identity planned unnamed answer ready is_unnamed h_empty =
      let account : List ℕ = account_of identity in
      let o = name-planned id account _ planned (planned_as name_error.Memory planned _ answer) in
      let found = nameable_is id account o.0 o.1 in
      let empty : is_empty found.0.account ≡ true = sym (unnamed_is id account found.0 unnamed found.1 is_unnamed) ∙ h_empty in
      subst (λ p. IsStepWithin old (record old { channels = channels }) session (request.Name id identity) (name_step session p)) (sym o.2)
      (within_by old is rules are session (request.Name id identity) (record old { channels = channels }) (name_step session (plan.Name id account)) (
        ap (named_effect id account) found.1
            ∙ ap (λ b. cond b (with_event (event.Name session id account) reply.Named) (without_event reply.Named)) empty,
        record {
          only = tt;
          moves = refl;
          ready = subst (CanApply channels) o.2 ready;
          asked = tt;
          spanned = tt;
        },
      ))

  pub name-known : (channels : ChannelTable) (id : ℕ) (identity : List ℕ) (planned : ChannelPlan) (unnamed : Bool)
      → IsUnless name_error.Memory (Ok planned) (plan_for (plan.Name id (account_of identity))
      (nameable rules (account_of identity) (channel_in (channels_in old.channels.open_channels session) id)))
      → unnamed ≡ option_map_or (λ (there : OpenChannel). is_empty there.account) (channel_in (channels_in old.channels.open_channels session) id) false
      → unnamed ≡ false
      → IsStepWithin old (record old { channels = channels }) session (request.Name id identity) (step.Answer reply.Named)
  name-known channels id identity planned unnamed answer is_unnamed h_full =
      let account : List ℕ = account_of identity in
      let o = name-planned id account _ planned (planned_as name_error.Memory planned _ answer) in
      let found = nameable_is id account o.0 o.1 in
      let full : is_empty found.0.account ≡ false = sym (unnamed_is id account found.0 unnamed found.1 is_unnamed) ∙ h_full in
      within_by old is rules are session (request.Name id identity) (record old { channels = channels }) (step.Answer reply.Named)
      (ap (named_effect id account) found.1
      ∙ ap (λ b. cond b (with_event (event.Name session id account) reply.Named) (without_event reply.Named)) full)

  pub name-not : (channels : ChannelTable) (id : ℕ) (identity : List ℕ) (error : NameError) → error ≢ name_error.Memory
      → IsUnless name_error.Memory (Err error) (plan_for (plan.Name id (account_of identity))
      (nameable rules (account_of identity) (channel_in (channels_in old.channels.open_channels session) id)))
      → IsStepWithin old (record old { channels = channels }) session (request.Name id identity) (step.Answer (reply.NameRefused error))
  name-not channels id identity error not answer =
      within_by old is rules are session (request.Name id identity) (record old { channels = channels }) (step.Answer (reply.NameRefused error))
      (ap (named_effect id (account_of identity))
      (unnameable_is id (account_of identity) error (name-refused id (account_of identity) _ error (refused_as name_error.Memory error _ not answer))))

  -- classes
  abbrev update_effect : ℕ → List ℕ → Option OpenChannel → Effect
  update_effect id target o = with_found reply.UpdateRefused (classing session id (class_for rules target)) (updatable target o)

  class-found : (o : Option OpenChannel) (class : ℕ) → Some class ≡ option_map present_class o → (c : OpenChannel) × (o ≡ Some c) × (present_class c ≡ class)
  class-found None class h = absurd cc
  class-found (Some c) class h = (c, refl, some-same (sym h))

  -- the history's channel has the class that the kept one has
  class_is : (id : ℕ) (o : Option ℕ) → o ≡ option_map present_class (own_in id)
      → o ≡ option_map present_class (own_channel (past_in old) session id)
  class_is id o h = h ∙ present-same (is_asked_after (past_in old)) (own_in id) (own_channel (past_in old) session id) (own id)

  class-none : (o : Option OpenChannel) → None ≡ option_map present_class o → o ≡ None
  class-none None h = refl
  class-none (Some c) h = absurd cc

  too_far : (class : ℕ) → 60 < class → nat_le class 60 ≡ false
  too_far class far = by (nat_le class 60) refl where
    by : (b : Bool) → nat_le class 60 ≡ b → b ≡ false
    by false h = refl
    by true h = absurd (let le : class ≤ 60 = Rattle.std.proofs.lemmas.Bool.leb-true class 60 h in omega (arith, le, far))

  pub update-closed : (channels : ChannelTable) (id : ℕ) (target : List ℕ)
      → None ≡ option_map present_class (channel_in (channels_in old.channels.open_channels session) id)
      → IsStepWithin old (record old { channels = channels }) session (request.Update id target) (step.Answer (reply.UpdateRefused update_error.NotOpen))
  update-closed channels id target none =
      within_by old is rules are session (request.Update id target) (record old { channels = channels }) (step.Answer (reply.UpdateRefused update_error.NotOpen))
      (ap (update_effect id target) (class-none _ (class_is id None none)))

  pub update-far : (channels : ChannelTable) (id : ℕ) (target : List ℕ) (present : ℕ)
      → Some present ≡ option_map present_class (channel_in (channels_in old.channels.open_channels session) id) → 60 < class_of_target target
      → IsStepWithin old (record old { channels = channels }) session (request.Update id target)
      (step.Answer (reply.UpdateRefused (update_error.TargetOutOfRange (class_of_target target))))
  update-far channels id target present some far =
      let c = class-found _ present (class_is id (Some present) some) in
      within_by old is rules are session (request.Update id target) (record old { channels = channels }) (step.Answer (reply.UpdateRefused (update_error.TargetOutOfRange (class_of_target target))))
      (ap (update_effect id target) c.1
      ∙ ap (λ b. with_found reply.UpdateRefused (classing session id (class_for rules target))
      (provided b (update_error.TargetOutOfRange (class_of_target target)) c.0)) (too_far (class_of_target target) far))

  updated : (id : ℕ) (target : List ℕ) (c : OpenChannel) → own_channel (past_in old) session id ≡ Some c
      → class_of_target target ≤ 60
      → step_in rules (past_in old) session (request.Update id target) ≡ classing session id (class_for rules target) c
  updated id target c there near =
      ap (update_effect id target) there
      ∙ ap (λ b. with_found reply.UpdateRefused (classing session id (class_for rules target))
      (provided b (update_error.TargetOutOfRange (class_of_target target)) c)) (le-leb (class_of_target target) 60 near)

  pub update-same : (channels : ChannelTable) (id : ℕ) (target : List ℕ) (present : ℕ)
      → Some present ≡ option_map present_class (channel_in (channels_in old.channels.open_channels session) id) → class_of_target target ≤ 60
      → nat_eq (class_for rules target) present ≡ true
      → IsStepWithin old (record old { channels = channels }) session (request.Update id target) (step.Answer (reply.Target id (class_for rules target)))
  update-same channels id target present some near alike =
      let c = class-found _ present (class_is id (Some present) some) in
      within_by old is rules are session (request.Update id target) (record old { channels = channels }) (step.Answer (reply.Target id (class_for rules target)))
      (updated id target c.0 c.1 near
      ∙ ap (λ b. cond b (without_event (reply.Target id (class_for rules target)))
      (with_event (event.Class session id (class_for rules target)) (reply.Target id (class_for rules target))))
      (ap (nat_eq (class_for rules target)) c.2 ∙ alike))

  living : (span : LiveSpan) → AreLiveWithin span ((kept_jobs old.jobs).live ++ (kept_jobs old.jobs).custom)
      → AreLiveWithin span (alive (jobs_of (past_in old)))
  living span within = subst (λ (kept : KeptJobs). AreLiveWithin span (kept.live ++ kept.custom)) is.told.jobs_are within

  pub update-made : (channels : ChannelTable) (id : ℕ) (target : List ℕ) (present : ℕ) (planned : ChannelPlan) (span : LiveSpan)
      → Some present ≡ option_map present_class (channel_in (channels_in old.channels.open_channels session) id) → class_of_target target ≤ 60
      → nat_eq (class_for rules target) present ≡ false → planned ≡ plan.Class (length old.history.events) id (class_for rules target) span
      → CanApply channels planned → AreLiveWithin span ((kept_jobs old.jobs).live ++ (kept_jobs old.jobs).custom) → span ≡ old.jobs.span
      → IsStepWithin old (record old { channels = channels }) session (request.Update id target) (class_step session id (class_for rules target) planned)
  update-made channels id target present planned span some near other is_plan ready within is_span =
      let c = class-found _ present (class_is id (Some present) some) in
      within_by old is rules are session (request.Update id target) (record old { channels = channels }) (class_step session id (class_for rules target) planned) (
        updated id target c.0 c.1 near
            ∙ ap (λ b. cond b (without_event (reply.Target id (class_for rules target)))
            (with_event (event.Class session id (class_for rules target)) (reply.Target id (class_for rules target))))
            (ap (nat_eq (class_for rules target)) c.2 ∙ other),
        record {
          only = tt;
          moves = ap (λ n. Sets n id (class_for rules target) ∷ channel_moves (past_in old)) (at_past old is)
              ∙ ap (λ p. planned_move p ∷ channel_moves (past_in old)) (sym is_plan);
          ready = ready;
          asked = subst (IsAskedAsPlanned (is_asked_after (event.Class session id (class_for rules target) ∷ past_in old))) (sym is_plan)
              (λ place h. subst (λ n. ((span.oldest ≤ place) × (place ≤ span.newest)) ⊎ (n < place)) (at_past old is)
              (asked-within span (past_in old) session id (class_for rules target) place (living span within) h));
          spanned = subst (ForgetsWithin old.jobs.span) (sym is_plan) is_span;
        },
      )

  -- closings
  pub close-made : (id : ℕ) (c : OpenChannel) → channel_in (channels_in old.channels.open_channels session) id ≡ Some c
      → IsStepWithin old old session (request.Close id)
      (step.Move (record { event = event.Close session id; change = change.Close session id; reply = reply.Closed }))
  close-made id c there =
      within_by old is rules are session (request.Close id) old (step.Move (record { event = event.Close session id; change = change.Close session id; reply = reply.Closed })) (
        ap (closing session id) (cuts.some-same (is_asked_after (past_in old)) (own_in id) (own_channel (past_in old) session id) (own id) c there).1,
        record { is = refl; own = subst (λ o. IsTrue (is_some o)) (sym there) refl },
      )

  pub close-not : (id : ℕ) → channel_in (channels_in old.channels.open_channels session) id ≡ None
      → IsStepWithin old old session (request.Close id) (step.Answer reply.NotOpen)
  close-not id there =
      within_by old is rules are session (request.Close id) old (step.Answer reply.NotOpen) (ap (closing session id) (none-same (is_asked_after (past_in old)) (own_in id) (own_channel (past_in old) session id) (own id) there))
