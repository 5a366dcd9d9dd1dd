-- That the pool is full is answered only to who asks to enter.
use Rattle.std.proofs.Common.{◌≡◌, ℕ, ◌<◌, ◌≤◌, ◌||◌, true, false, Option, None, Some, Result, Ok, Err, List, [], ◌∷◌, ◌++◌, refl, sym, ap, subst, ◌∙◌, arith}
use Rattle.std.proofs.lemmas.Bool.{cond_both, ltb-false}
use Rattle.std.specs.Prelude.{bit_and, length, nat_eq, nat_lt, ◌+◌}
use Rattle.pool_base.specs.Calls.{IsOutcome, Outcome, Replied, Faulted}
use Rattle.pool_history.specs.declared.asking.Request.{Request}
use Rattle.pool_history.specs.declared.asking.Request.TheVariants as request
use Rattle.pool_history.specs.declared.events.Event.{Event}
use Rattle.pool_history.specs.declared.events.Event.TheVariants as event
use Rattle.pool_history.specs.declared.refusals.BookError.{BookError}
use Rattle.pool_history.specs.declared.refusals.Failed.{Failed}
use Rattle.pool_history.specs.declared.replies.Reply.{Reply}
use Rattle.pool_history.specs.declared.replies.Reply.TheVariants as reply
use Rattle.pool_history.specs.declared.settings.Rules.{Rules}
use Rattle.pool_history.specs.Accounts.{account_of, is_empty}
use Rattle.pool_history.specs.Answering.{Answer, briefing, classing, closing, committing, crediting, granting, naming, opening, permits, step_as, step_by, step_for, step_in, step_under, with_event, without_event}
use Rattle.pool_history.specs.Calls.{GoodPoolCalls, PoolCall, wants_memory}
use Rattle.pool_history.specs.Channels.{OpenChannel, present_class}
use Rattle.pool_history.specs.Crediting.{last_failed}
use Rattle.pool_history.specs.Jobs.{jobs_of}
use Rattle.pool_history.specs.Judging.{Admitted, Share, admission, share_of}
use Rattle.pool_history.specs.Legal.{allowed_flags}
use Rattle.pool_history.specs.Refusing.{class_for, custom_refusal, grant_refusal, most_enters, nameable, openable, own_channel, template_refusal, tippable, updatable}
use Rattle.pool_history.specs.Sessions.{Entrance, enters, entrance, grants, past_of, present, rules_of}
use Rattle.history_laws.proofs.Legalities.{past-append}
use Rattle.history_laws.proofs.RepliesFit.{found-reply, unless-reply}
use Rattle.v2_sessions.specs.Ends.{has_turned_away, is_enter, is_full, is_turned_away}
use Rattle.v2_sessions.specs.Laws.{OnlyEntersFindItFull}

-- the reply isn't that the pool is full
abbrev LetsIn : Reply → Type 0
LetsIn answer = is_full answer ≡ false

naming-in : (session id : ℕ) (account : List ℕ) (c : OpenChannel) → LetsIn (naming session id account c).reply
naming-in session id account c =
    cond_both (is_empty c.account) (with_event (event.Name session id account) reply.Named) (without_event reply.Named) (λ s. LetsIn s.reply) (λ t. refl) (λ f. refl)

classing-in : (session id class : ℕ) (c : OpenChannel) → LetsIn (classing session id class c).reply
classing-in session id class c =
    cond_both (nat_eq class (present_class c)) (without_event (reply.Target id class)) (with_event (event.Class session id class) (reply.Target id class)) (λ s. LetsIn s.reply)
    (λ same. refl) (λ other. refl)

closing-in : (session id : ℕ) (o : Option OpenChannel) → LetsIn (closing session id o).reply
closing-in session id None = refl
closing-in session id (Some c) = refl

briefing-in : (rules : Rules) (r : Result Admitted Failed) → LetsIn (briefing rules r).reply
briefing-in rules (Err code) = refl
briefing-in rules (Ok with) = refl

committing-in : (rules : Rules) (past : List Event) (session : ℕ) (share : Share) (r : Result Admitted Failed) → LetsIn (committing rules past session share r).reply
committing-in rules past session share (Err code) = refl
committing-in rules past session share (Ok with) =
    unless-reply LetsIn reply.Refused (last_failed rules past share (Ok with)) (crediting session share with) (λ x. refl) (λ n. refl)

granting-in : (rules : Rules) (past : List Event) (session : ℕ) (account : List ℕ) (path : Option (List (List ℕ))) → LetsIn (granting rules past session account path).reply
granting-in rules past session account None =
    unless-reply LetsIn reply.GrantRefused (grant_refusal rules past account [])
    (with_event (event.Grant session account false []) (reply.Granted (grants past + 1) rules.pool_script)) (λ x. refl) (λ n. refl)
granting-in rules past session account (Some path) =
    unless-reply LetsIn reply.GrantRefused (grant_refusal rules past account path)
    (with_event (event.Grant session account true path) (reply.Granted (grants past + 1) rules.pool_script)) (λ x. refl) (λ n. refl)

-- a permitted request
step_in-in : (rules : Rules) (past : List Event) (session : ℕ) (asked : Request) → LetsIn (step_in rules past session asked).reply
step_in-in rules past session (request.Enter role flags) = refl
step_in-in rules past session request.Leave = refl
step_in-in rules past session (request.Template template) =
    unless-reply LetsIn reply.TemplateRefused (template_refusal rules.pool_script past template)
    (with_event (event.Template session template) (reply.Job (length (jobs_of past).all + 1))) (λ x. refl) (λ n. refl)
step_in-in rules past session (request.Tip tip) =
    found-reply LetsIn reply.TemplateRefused (λ job. with_event (event.Tip session tip) (reply.Job job.number)) (tippable past tip) (λ e is. refl) (λ job is. refl)
step_in-in rules past session (request.Open ask) =
    found-reply LetsIn reply.OpenRefused (opening rules past session ask) (openable rules past session ask) (λ e is. refl) (λ lead is. refl)
step_in-in rules past session (request.Name id identity) =
    found-reply LetsIn reply.NameRefused (naming session id (account_of identity)) (nameable rules (account_of identity) (own_channel past session id)) (λ e is. refl)
    (λ c is. naming-in session id (account_of identity) c)
step_in-in rules past session (request.Update id target) =
    found-reply LetsIn reply.UpdateRefused (classing session id (class_for rules target)) (updatable target (own_channel past session id)) (λ e is. refl)
    (λ c is. classing-in session id (class_for rules target) c)
step_in-in rules past session (request.Close id) = closing-in session id (own_channel past session id)
step_in-in rules past session (request.Brief sub) = briefing-in rules (admission rules past session (share_of sub))
step_in-in rules past session (request.Commit checked) =
    committing-in rules past session (share_of checked.sub) (admission rules past session (share_of checked.sub))
step_in-in rules past session (request.Poll from) = refl
step_in-in rules past session (request.Grant identity path) = granting-in rules past session (account_of identity) path
step_in-in rules past session (request.Custom custom) =
    unless-reply LetsIn reply.CustomRefused (custom_refusal rules.pool_script past session custom)
    (with_event (event.Custom session custom) (reply.CustomJob (length (jobs_of past).all + 1))) (λ x. refl) (λ n. refl)

step_as-in : (rules : Rules) (past : List Event) (asked : Request) (session : ℕ) (o : Option Entrance) → LetsIn (step_as rules past asked session o).reply
step_as-in rules past asked session None = refl
step_as-in rules past asked session (Some entered) =
    cond_both (permits asked entered) (step_in rules past session asked) (without_event reply.NoSession) (λ s. LetsIn s.reply)
    (λ t. step_in-in rules past session asked) (λ f. refl)

step_for-in : (rules : Rules) (past : List Event) (asked : Request) (o : Option ℕ) → LetsIn (step_for rules past asked o).reply
step_for-in rules past asked None = refl
step_for-in rules past asked (Some session) = step_as-in rules past asked session (entrance past session)

-- only an Enter finds the pool full, and then it is
abbrev FindsFull : List Event → Request → Reply → Type 0
FindsFull past asked answer = is_full answer ≡ true → (is_enter asked ≡ true) × (most_enters ≤ enters past)

none_full : (past : List Event) (asked : Request) (answer : Reply) → LetsIn answer → FindsFull past asked answer
none_full past asked answer lets is = (let both : true ≡ false = sym is ∙ lets in cc)

step_by-full : (rules : Rules) (past : List Event) (worker : ℕ) (asked : Request) → FindsFull past asked (step_by rules past worker asked).reply
step_by-full rules past worker (request.Enter role flags) =
    cond_both (nat_lt (enters past) most_enters) (with_event (event.Enter worker role (bit_and flags (allowed_flags rules))) (reply.Entered (enters past)))
    (without_event (reply.PoolFull most_enters)) (λ s. FindsFull past (request.Enter role flags) s.reply)
    (λ few is. cc) (λ full is. (refl, ltb-false (enters past) most_enters full))
step_by-full rules past worker asked =
    none_full past asked (step_for rules past asked (present past worker)).reply (step_for-in rules past asked (present past worker))

step-full : (past : List Event) (worker : ℕ) (asked : Request) (o : Option Rules) → FindsFull past asked (step_under o past worker asked).reply
step-full past worker asked None is = cc
step-full past worker asked (Some rules) is = step_by-full rules past worker asked is

pub only_enters : OnlyEntersFindItFull
only_enters h worker asked events most a = step-full (past_of h) worker asked (rules_of (past_of h)) (ap is_full (sym a.reply_is))

-- who is answered where few have entered isn't turned away
pub few_entered : (events : List Event) (call : PoolCall) (outcome : Outcome Reply BookError)
    → IsOutcome Answer wants_memory events call outcome → enters (past_of events) < most_enters → is_turned_away outcome ≡ false
few_entered events call (Faulted cause) answered few = refl
few_entered events call (Replied (reply.PoolFull most)) answered few =
    (let full = (only_enters events call.worker call.asked call.added most answered).1 in absurd (omega (arith, full, few)))
few_entered events call (Replied _) answered few = refl

enters-more : (newer older : List Event) → enters older ≤ enters (newer ++ older)
enters-more [] older = omega arith
enters-more (event.Enter worker role flags ∷ newer) older = (let rest = enters-more newer older in omega (arith, rest))
enters-more (e ∷ newer) older = enters-more newer older

enters-front : (front rest : List Event) → enters (past_of front) ≤ enters (past_of (front ++ rest))
enters-front front rest =
    subst (λ past. enters (past_of front) ≤ enters past) (sym (past-append front rest)) (enters-more (past_of rest) (past_of front))

-- nor is any call that stands in such a history
pub few_let_in : (history : List Event) (calls : List PoolCall) → GoodPoolCalls history calls → enters (past_of history) < most_enters
    → has_turned_away calls ≡ false
few_let_in history [] good few = refl
few_let_in history (call ∷ calls) good few =
    let before = good.0.before in
    let whole : enters (past_of before) ≤ enters (past_of history) =
    subst (λ h. enters (past_of before) ≤ enters (past_of h)) (sym good.0.stands)
    (omega (arith, enters-front before call.added, enters-front (before ++ call.added) good.0.after)) in
    ap (λ b. b || has_turned_away calls) (few_entered before call call.outcome good.0.outcome (omega (arith, whole, few)))
    ∙ few_let_in history calls good.1 few
