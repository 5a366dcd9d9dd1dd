-- How answers judge shares.
use Rattle.std.proofs.Common.{◌⊎◌, inl, inr, ◌≡◌, ℕ, ◌+◌, length, Bool, true, false, not, cond, Option, None, Some, Result, Ok, Err, List, [], ◌∷◌, refl, ap, subst, sym, ◌∙◌}
use Rattle.std.proofs.lemmas.Bool.{cond_both, false≢true}
use Rattle.std.specs.Option.{option_to_list}
use Rattle.pool_history.specs.declared.asking.Request.{Request}
use Rattle.pool_history.specs.declared.asking.Request.TheVariants as request
use Rattle.pool_history.specs.declared.events.Event.{Event}
use Rattle.pool_history.specs.declared.events.Event.TheVariants as event
use Rattle.pool_history.specs.declared.refusals.Failed.{Failed}
use Rattle.pool_history.specs.declared.refusals.Failed.TheVariants as failed
use Rattle.pool_base.specs.Results.{◌>>=◌}
use Rattle.block_header.specs.Hash.{dsha, meets}
use Rattle.std.specs.List.{list_any}
use Rattle.std.specs.Str.{bytes_eq}
use Rattle.pool_history.specs.Headers.{rolled_length}
use Rattle.pool_history.specs.declared.replies.Reply.{Reply}
use Rattle.pool_history.specs.declared.replies.Reply.TheVariants as reply
use Rattle.pool_history.specs.declared.settings.Rules.{Rules}
use Rattle.pool_history.specs.declared.shares.Checked.{Checked}
use Rattle.pool_history.specs.declared.shares.Submission.{Submission}
use Rattle.pool_history.specs.Accounts.{account_of, is_empty}
use Rattle.pool_history.specs.Answering.{Answer, Effect, briefing, classing, closing, committing, crediting, with_event, naming, opening, permits, step, step_as, step_by, step_for, step_in, step_under, without_event, unless_refused, with_found}
use Rattle.pool_history.specs.Channels.{OpenChannel, channel_in, channels_of, present_class}
use Rattle.pool_history.specs.Conditions.{or_code, found, provided}
use Rattle.pool_history.specs.Crediting.{admitted_class, first_failed, headers, last_failed}
use Rattle.pool_history.specs.Jobs.{jobs_of, live_job}
use Rattle.pool_history.specs.Judging.{Admitted, Share, admission, briefing_of, is_in_time, is_known_job, is_version, rebuilt_header, serves, share_of}
use Rattle.pool_history.specs.Legal.{allowed_flags, may_mine}
use Rattle.pool_history.specs.Refusing.{class_for, custom_refusal, grant_refusal, most_enters, own_channel, template_refusal, openable, nameable, updatable, tippable}
use Rattle.pool_history.specs.Sessions.{Entrance, credits, enters, entrance, past_of, present, rules_of, grants}
use Rattle.std.specs.Prelude.{bit_and, nat_eq, nat_lt}
use Rattle.history_laws.specs.Answered.{fails_early, is_early, CreditsAreCommitted, IsCommitted, IsJudged, MayNotSubmit, MaySubmit, SharesAreBriefed, SharesAreJudged, SharesNeedASession, credit_of}
use Rattle.history_laws.proofs.Legalities.{some-none}
use Rattle.history_laws.proofs.Entrances.{none-some, some-same}

-- the step of a worker that may submit shares
pub step-mining : (h : List Event) (worker : ℕ) (may : MaySubmit h worker) (checked : Checked)
    → step (past_of h) worker (request.Commit checked)
    ≡ committing may.rules (past_of h) may.session (share_of checked.sub) (admission may.rules (past_of h) may.session (share_of checked.sub))
step-mining h worker may checked =
    ap (λ o. step_under o (past_of h) worker (request.Commit checked)) may.are_rules
    ∙ ap (step_for may.rules (past_of h) (request.Commit checked)) may.is_present
    ∙ ap (step_as may.rules (past_of h) (request.Commit checked) may.session) may.is_entered
    ∙ ap (λ b. cond b (step_in may.rules (past_of h) may.session (request.Commit checked)) (without_event reply.NoSession)) may.mines

pub step-briefing : (h : List Event) (worker : ℕ) (may : MaySubmit h worker) (sub : Submission)
    → step (past_of h) worker (request.Brief sub) ≡ briefing may.rules (admission may.rules (past_of h) may.session (share_of sub))
step-briefing h worker may sub =
    ap (λ o. step_under o (past_of h) worker (request.Brief sub)) may.are_rules
    ∙ ap (step_for may.rules (past_of h) (request.Brief sub)) may.is_present
    ∙ ap (step_as may.rules (past_of h) (request.Brief sub) may.session) may.is_entered
    ∙ ap (λ b. cond b (step_in may.rules (past_of h) may.session (request.Brief sub)) (without_event reply.NoSession)) may.mines

-- a share was booked, or refused
pub record WasBooked (rules : Rules) (past : List Event) (session : ℕ) (share : Share) (s : Effect) : Type 0 where
  pub with : Admitted
  pub is_admitted : admission rules past session share ≡ Ok with
  pub none : first_failed rules past session share ≡ None
  pub step_is : s ≡ crediting session share with

pub record WasRefused (rules : Rules) (past : List Event) (session : ℕ) (share : Share) (s : Effect) : Type 0 where
  pub code : Failed
  pub failed : first_failed rules past session share ≡ Some code
  pub step_is : s ≡ without_event (reply.Refused code)

pub booked-or-refused : (rules : Rules) (past : List Event) (session : ℕ) (share : Share) (r : Result Admitted Failed) → admission rules past session share ≡ r
    → WasBooked rules past session share (committing rules past session share r) ⊎ WasRefused rules past session share (committing rules past session share r)
booked-or-refused rules past session share (Err code) is = inr (record { code = code; failed = ap (last_failed rules past share) is; step_is = refl })
booked-or-refused rules past session share (Ok with) is = by_last (last_failed rules past share (Ok with)) refl where
  by_last : (o : Option Failed) → last_failed rules past share (Ok with) ≡ o
      → WasBooked rules past session share (committing rules past session share (Ok with)) ⊎ WasRefused rules past session share (committing rules past session share (Ok with))
  by_last None last = inl (record {
    with = with;
    is_admitted = is;
    none = ap (last_failed rules past share) is ∙ last;
    step_is = ap (λ o. unless_refused reply.Refused o (crediting session share with)) last;
  })
  by_last (Some code) last = inr (record {
    code = code;
    failed = ap (last_failed rules past share) is ∙ last;
    step_is = ap (λ o. unless_refused reply.Refused o (crediting session share with)) last;
  })

pub ok-same : {X E : Type 0} {x y : X} → ◌≡◌ {A = Result X E} (Ok x) (Ok y) → x ≡ y
ok-same h = cc

pub cons-nil : {X : Type 0} {x : X} {xs : List X} → x ∷ xs ≡ [] → ⊥
cons-nil h = cc

pub judged : SharesAreJudged
judged h worker may checked events answer a =
    let share : Share = share_of checked.sub in
    let s : Effect = committing may.rules (past_of h) may.session share (admission may.rules (past_of h) may.session share) in
    let made : events ≡ option_to_list s.event = a.events_are ∙ ap (λ t. option_to_list t.event) (step-mining h worker may checked) in
    let replied : answer ≡ s.reply = a.reply_is ∙ ap (λ t. t.reply) (step-mining h worker may checked) in
    judged-by h worker may share s events answer made replied (booked-or-refused may.rules (past_of h) may.session share (admission may.rules (past_of h) may.session share) refl) where
      judged-by : (h : List Event) (worker : ℕ) (may : MaySubmit h worker) (share : Share) (s : Effect) (events : List Event) (answer : Reply)
          → events ≡ option_to_list s.event → answer ≡ s.reply
          → WasBooked may.rules (past_of h) may.session share s ⊎ WasRefused may.rules (past_of h) may.session share s → IsJudged h worker may share events answer
      judged-by h worker may share s events answer made replied (inl b) = record {
        credited = (λ e. b.none, λ n. made ∙ ap (λ t. option_to_list t.event) b.step_is);
        work = λ n. (b.with, b.is_admitted, replied ∙ ap (λ t. t.reply) b.step_is);
        refused = λ code failed. absurd (none-some (sym b.none ∙ failed));
      }
      judged-by h worker may share s events answer made replied (inr r) = record {
        credited = (
          λ e. absurd (cons-nil (sym e ∙ made ∙ ap (λ t. option_to_list t.event) r.step_is)),
          λ n. absurd (some-none (sym r.failed ∙ n)),
        );
        work = λ n. absurd (some-none (sym r.failed ∙ n));
        refused = λ code failed. (
          made ∙ ap (λ t. option_to_list t.event) r.step_is,
          replied ∙ ap (λ t. t.reply) r.step_is ∙ ap reply.Refused (some-same (sym r.failed ∙ failed)),
        );
      }

-- a result whose refusal is by one of the first six conditions
abbrev pub IsEarly : {X : Type 0} → Result X Failed → Type 0
IsEarly (Ok x) = Unit {0}
IsEarly (Err code) = is_early code ≡ true

pub early-bind : {X Y : Type 0} (r : Result X Failed) (f : X → Result Y Failed) → IsEarly r → ((x : X) → IsEarly (f x)) → IsEarly (r >>= f)
early-bind (Ok x) f first more = more x
early-bind (Err code) f first more = first

pub found-early : {X : Type 0} (code : Failed) (o : Option X) → is_early code ≡ true → IsEarly (found code o)
found-early code None h = h
found-early code (Some x) h = tt

pub provided-early : {X : Type 0} (b : Bool) (code : Failed) (x : X) → is_early code ≡ true → IsEarly (provided b code x)
provided-early true code x h = tt
provided-early false code x h = h

pub admission-early : (rules : Rules) (past : List Event) (session : ℕ) (share : Share) → IsEarly (admission rules past session share)
admission-early rules past session share =
    early-bind (found failed.Channel (channel_in (channels_of past) share.channel)) _ (found-early failed.Channel (channel_in (channels_of past) share.channel) refl)
    (λ there. early-bind (provided (serves session share there) failed.Channel there) _ (provided-early (serves session share there) failed.Channel there refl)
    (λ channel. early-bind (provided (nat_eq (length share.extranonce) (rolled_length channel.kind channel.lead)) failed.ExtranonceSize channel) _
    (provided-early (nat_eq (length share.extranonce) (rolled_length channel.kind channel.lead)) failed.ExtranonceSize channel refl)
    (λ c. early-bind (provided (is_known_job (jobs_of past) share) failed.Job channel) _ (provided-early (is_known_job (jobs_of past) share) failed.Job channel refl)
    (λ d. early-bind (found failed.Stale (live_job (jobs_of past) share.job)) _ (found-early failed.Stale (live_job (jobs_of past) share.job) refl)
    (λ job. early-bind (found failed.Stale job.live_at) _ (found-early failed.Stale job.live_at refl)
    (λ place. early-bind (found failed.Stale (jobs_of past).tip) _ (found-early failed.Stale (jobs_of past).tip refl)
    (λ tip. early-bind (provided (is_version rules job.source share.version) failed.Version channel) _
    (provided-early (is_version rules job.source share.version) failed.Version channel refl)
    (λ e. early-bind (provided (is_in_time rules job.source tip share.ntime) failed.Ntime channel) _
    (provided-early (is_in_time rules job.source tip share.ntime) failed.Ntime channel refl) (λ f. tt)))))))))

-- a condition whose code isn't early
pub or-late : (b : Bool) (code : Failed) (next : Option Failed) → is_early code ≡ false → fails_early next ≡ false → fails_early (or_code b code next) ≡ false
or-late true code next c n = n
or-late false code next c n = c

-- the last three conditions
pub last-late : (rules : Rules) (past : List Event) (share : Share) (with : Admitted) → fails_early (last_failed rules past share (Ok with)) ≡ false
last-late rules past share with =
    let header : List ℕ = rebuilt_header rules.pool_script with share in
    let full : Option Failed = or_code (nat_lt (credits past) rules.credit_limit) failed.Full None in
    let twice : Option Failed = or_code (not (list_any (bytes_eq header) (headers past))) failed.Duplicate full in
    or-late (meets (dsha header) (admitted_class with)) failed.Difficulty twice refl
    (or-late (not (list_any (bytes_eq header) (headers past))) failed.Duplicate full refl
    (or-late (nat_lt (credits past) rules.credit_limit) failed.Full None refl refl))

-- what a Brief is answered, by whether the share was admitted
pub record Briefed (rules : Rules) (past : List Event) (session : ℕ) (share : Share) (answer : Reply) : Type 0 where
  pub refused : (code : Failed) → first_failed rules past session share ≡ Some code → is_early code ≡ true → answer ≡ reply.Refused code
  pub told : fails_early (first_failed rules past session share) ≡ false
      → (with : Admitted) × (admission rules past session share ≡ Ok with) × (answer ≡ reply.Brief (briefing_of rules.pool_script with.channel with.job.source with.tip))

pub briefed-by : (rules : Rules) (past : List Event) (session : ℕ) (share : Share) (r : Result Admitted Failed) → admission rules past session share ≡ r
    → Briefed rules past session share (briefing rules r).reply
briefed-by rules past session share (Err code) is =
    let first : first_failed rules past session share ≡ Some code = ap (last_failed rules past share) is in
    let early : is_early code ≡ true = subst IsEarly is (admission-early rules past session share) in
    record {
      refused = λ other same h. ap reply.Refused (some-same (sym first ∙ same));
      told = λ late_jobs. absurd (false≢true (sym late_jobs ∙ ap fails_early first ∙ early));
    }
briefed-by rules past session share (Ok with) is =
    let first : first_failed rules past session share ≡ last_failed rules past share (Ok with) = ap (last_failed rules past share) is in
    record {
      refused = λ code same early. absurd (false≢true (sym (last-late rules past share with) ∙ ap fails_early (sym first ∙ same) ∙ early));
      told = λ late_jobs. (with, is, refl);
    }

pub briefed : SharesAreBriefed
briefed h worker may sub events answer a =
    let share : Share = share_of sub in
    let made : events ≡ option_to_list (briefing may.rules (admission may.rules (past_of h) may.session share)).event =
    a.events_are ∙ ap (λ t. option_to_list t.event) (step-briefing h worker may sub) in
    let replied : answer ≡ (briefing may.rules (admission may.rules (past_of h) may.session share)).reply =
    a.reply_is ∙ ap (λ t. t.reply) (step-briefing h worker may sub) in
    let b : Briefed may.rules (past_of h) may.session share (briefing may.rules (admission may.rules (past_of h) may.session share)).reply =
    briefed-by may.rules (past_of h) may.session share (admission may.rules (past_of h) may.session share) refl in
    record {
      none = made ∙ no_event may.rules (admission may.rules (past_of h) may.session share);
      refused = λ code same early. replied ∙ b.refused code same early;
      told = λ late_jobs. ((b.told late_jobs).0, (b.told late_jobs).1, replied ∙ (b.told late_jobs).2);
    } where
      no_event : (rules : Rules) (r : Result Admitted Failed) → option_to_list (briefing rules r).event ≡ []
      no_event rules (Ok with) = refl
      no_event rules (Err code) = refl

-- an event is no Credit
abbrev pub NoCredit : Option Event → Type 0
NoCredit None = Unit {0}
NoCredit (Some (event.Credit session channel job nonce ntime version extranonce)) = ⊥
NoCredit (Some e) = Unit {0}

-- a request is a Commit, or makes no Credit
abbrev pub OnlyByCommit : Request → Effect → Type 0
OnlyByCommit asked s = ((checked : Checked) × (asked ≡ request.Commit checked)) ⊎ NoCredit s.event

pub not-credited : {X : Type 0} (refuse : X → Reply) (r : Option X) (made : Effect) → NoCredit made.event → NoCredit (unless_refused refuse r made).event
not-credited refuse None made n = n
not-credited refuse (Some x) made n = tt

pub not-credited_found : {X C : Type 0} (refuse : C → Reply) (make : X → Effect) (r : Result X C) → ((x : X) → NoCredit (make x).event)
    → NoCredit (with_found refuse make r).event
not-credited_found refuse make (Ok x) n = n x
not-credited_found refuse make (Err e) n = tt

pub step_in-credits : (rules : Rules) (past : List Event) (session : ℕ) (asked : Request) → OnlyByCommit asked (step_in rules past session asked)
step_in-credits rules past session (request.Enter role flags) = inr tt
step_in-credits rules past session request.Leave = inr tt
step_in-credits rules past session (request.Template template) =
    inr (not-credited reply.TemplateRefused (template_refusal rules.pool_script past template)
    (with_event (event.Template session template) (reply.Job (length (jobs_of past).all + 1))) tt)
step_in-credits rules past session (request.Tip tip) =
    inr (not-credited_found reply.TemplateRefused (λ job. with_event (event.Tip session tip) (reply.Job job.number)) (tippable past tip) (λ job. tt))
step_in-credits rules past session (request.Open ask) =
    inr (not-credited_found reply.OpenRefused (opening rules past session ask) (openable rules past session ask) (λ lead. tt))
step_in-credits rules past session (request.Name id identity) =
    inr (not-credited_found reply.NameRefused (naming session id (account_of identity)) (nameable rules (account_of identity) (own_channel past session id))
    (λ c. cond_both (is_empty c.account) (with_event (event.Name session id (account_of identity)) reply.Named) (without_event reply.Named) (λ s. NoCredit s.event)
    (λ t. tt) (λ f. tt)))
step_in-credits rules past session (request.Update id target) =
    inr (not-credited_found reply.UpdateRefused (classing session id (class_for rules target)) (updatable target (own_channel past session id))
    (λ c. cond_both (nat_eq (class_for rules target) (present_class c)) (without_event (reply.Target id (class_for rules target)))
    (with_event (event.Class session id (class_for rules target)) (reply.Target id (class_for rules target))) (λ s. NoCredit s.event) (λ t. tt) (λ f. tt)))
step_in-credits rules past session (request.Close id) = inr (by_channel (own_channel past session id)) where
  by_channel : (o : Option OpenChannel) → NoCredit (closing session id o).event
  by_channel None = tt
  by_channel (Some c) = tt
step_in-credits rules past session (request.Brief sub) = inr (by_result (admission rules past session (share_of sub))) where
  by_result : (r : Result Admitted Failed) → NoCredit (briefing rules r).event
  by_result (Ok with) = tt
  by_result (Err code) = tt
step_in-credits rules past session (request.Commit checked) = inl (checked, refl)
step_in-credits rules past session (request.Poll from) = inr tt
step_in-credits rules past session (request.Grant identity None) =
    inr (not-credited reply.GrantRefused (grant_refusal rules past (account_of identity) [])
    (with_event (event.Grant session (account_of identity) false []) (reply.Granted (grants past + 1) rules.pool_script)) tt)
step_in-credits rules past session (request.Grant identity (Some path)) =
    inr (not-credited reply.GrantRefused (grant_refusal rules past (account_of identity) path)
    (with_event (event.Grant session (account_of identity) true path) (reply.Granted (grants past + 1) rules.pool_script)) tt)
step_in-credits rules past session (request.Custom custom) =
    inr (not-credited reply.CustomRefused (custom_refusal rules.pool_script past session custom)
    (with_event (event.Custom session custom) (reply.CustomJob (length (jobs_of past).all + 1))) tt)

pub step_for-credits : (rules : Rules) (past : List Event) (asked : Request) (o : Option ℕ) → OnlyByCommit asked (step_for rules past asked o)
step_for-credits rules past asked None = inr tt
step_for-credits rules past asked (Some session) = by_entrance (entrance past session) where
  by_entrance : (o : Option Entrance) → OnlyByCommit asked (step_as rules past asked session o)
  by_entrance None = inr tt
  by_entrance (Some entered) =
      cond_both (permits asked entered) (step_in rules past session asked) (without_event reply.NoSession) (λ s. OnlyByCommit asked s)
      (λ may. step_in-credits rules past session asked) (λ not_permitted. inr tt)

pub step_by-credits : (rules : Rules) (past : List Event) (worker : ℕ) (asked : Request) → OnlyByCommit asked (step_by rules past worker asked)
step_by-credits rules past worker (request.Enter role flags) =
    inr (cond_both (nat_lt (enters past) most_enters) (with_event (event.Enter worker role (bit_and flags (allowed_flags rules))) (reply.Entered (enters past)))
    (without_event (reply.PoolFull most_enters)) (λ s. NoCredit s.event) (λ t. tt) (λ f. tt))
step_by-credits rules past worker asked = step_for-credits rules past asked (present past worker)

pub step-credits : (past : List Event) (worker : ℕ) (asked : Request) (o : Option Rules) → OnlyByCommit asked (step_under o past worker asked)
step-credits past worker asked None = inr tt
step-credits past worker asked (Some rules) = step_by-credits rules past worker asked

-- a request of a share: only a session that mines may ask it
record AsksAShare (asked : Request) : Type 0 where
  pub by : (rules : Rules) (past : List Event) (worker : ℕ) → step_by rules past worker asked ≡ step_for rules past asked (present past worker)
  pub mines : (entered : Entrance) → permits asked entered ≡ may_mine entered

asks-commit : (checked : Checked) → AsksAShare (request.Commit checked)
asks-commit checked = record { by = λ rules past worker. refl; mines = λ entered. refl }

asks-brief : (sub : Submission) → AsksAShare (request.Brief sub)
asks-brief sub = record { by = λ rules past worker. refl; mines = λ entered. refl }

-- a worker whose shares are all told that it has no session
record IsTold (h : List Event) (worker : ℕ) : Type 0 where
  pub never : MaySubmit h worker → ⊥
  pub told_so : (asked : Request) → AsksAShare asked → step (past_of h) worker asked ≡ without_event reply.NoSession

told-mining : (h : List Event) (worker : ℕ) (rules : Rules) → rules_of (past_of h) ≡ Some rules → (session : ℕ) → present (past_of h) worker ≡ Some session
    → (entered : Entrance) → entrance (past_of h) session ≡ Some entered → (b : Bool) → may_mine entered ≡ b → MaySubmit h worker ⊎ IsTold h worker
told-mining h worker rules r session p entered e true m =
    inl (record { rules = rules; session = session; entered = entered; are_rules = r; is_present = p; is_entered = e; mines = m })
told-mining h worker rules r session p entered e false m = inr (record {
  never = λ may.
      false≢true (sym m ∙ ap may_mine (some-same (sym e ∙ ap (entrance (past_of h)) (some-same (sym p ∙ may.is_present)) ∙ may.is_entered)) ∙ may.mines);
  told_so = λ asked asks.
      ap (λ o. step_under o (past_of h) worker asked) r ∙ asks.by rules (past_of h) worker ∙ ap (step_for rules (past_of h) asked) p
      ∙ ap (step_as rules (past_of h) asked session) e
      ∙ ap (λ b. cond b (step_in rules (past_of h) session asked) (without_event reply.NoSession)) (asks.mines entered ∙ m);
})

told-entered : (h : List Event) (worker : ℕ) (rules : Rules) → rules_of (past_of h) ≡ Some rules → (session : ℕ) → present (past_of h) worker ≡ Some session
    → (o : Option Entrance) → entrance (past_of h) session ≡ o → MaySubmit h worker ⊎ IsTold h worker
told-entered h worker rules r session p None e = inr (record {
  never = λ may. none-some (sym e ∙ ap (entrance (past_of h)) (some-same (sym p ∙ may.is_present)) ∙ may.is_entered);
  told_so = λ asked asks.
      ap (λ o. step_under o (past_of h) worker asked) r ∙ asks.by rules (past_of h) worker ∙ ap (step_for rules (past_of h) asked) p
      ∙ ap (step_as rules (past_of h) asked session) e;
})
told-entered h worker rules r session p (Some entered) e = told-mining h worker rules r session p entered e (may_mine entered) refl

told-present : (h : List Event) (worker : ℕ) (rules : Rules) → rules_of (past_of h) ≡ Some rules → (o : Option ℕ) → present (past_of h) worker ≡ o
    → MaySubmit h worker ⊎ IsTold h worker
told-present h worker rules r None p = inr (record {
  never = λ may. none-some (sym p ∙ may.is_present);
  told_so = λ asked asks.
      ap (λ o. step_under o (past_of h) worker asked) r ∙ asks.by rules (past_of h) worker ∙ ap (step_for rules (past_of h) asked) p;
})
told-present h worker rules r (Some session) p = told-entered h worker rules r session p (entrance (past_of h) session) refl

told-under : (h : List Event) (worker : ℕ) (o : Option Rules) → rules_of (past_of h) ≡ o → MaySubmit h worker ⊎ IsTold h worker
told-under h worker None r = inr (record {
  never = λ may. none-some (sym r ∙ may.are_rules);
  told_so = λ asked asks. ap (λ o. step_under o (past_of h) worker asked) r;
})
told-under h worker (Some rules) r = told-present h worker rules r (present (past_of h) worker) refl

-- an answer whose step is told so
no-session : (h : List Event) (worker : ℕ) (asked : Request) (events : List Event) (answer : Reply) → step (past_of h) worker asked ≡ without_event reply.NoSession
    → Answer h worker asked events answer → (events ≡ []) × (answer ≡ reply.NoSession)
no-session h worker asked events answer s a = (a.events_are ∙ ap (λ t. option_to_list t.event) s, a.reply_is ∙ ap (λ t. t.reply) s)

may-not : (h : List Event) (worker : ℕ) → IsTold h worker → MayNotSubmit h worker
may-not h worker t = record {
  never = t.never;
  booking = λ checked events answer. no-session h worker (request.Commit checked) events answer (t.told_so (request.Commit checked) (asks-commit checked));
  asking = λ sub events answer. no-session h worker (request.Brief sub) events answer (t.told_so (request.Brief sub) (asks-brief sub));
}

pub sessions-needed : SharesNeedASession
sessions-needed h worker = by (told-under h worker (rules_of (past_of h)) refl) where
  by : MaySubmit h worker ⊎ IsTold h worker → MaySubmit h worker ⊎ MayNotSubmit h worker
  by (inl may) = inl may
  by (inr t) = inr (may-not h worker t)

-- events of one each
heads : {x y : Event} → x ∷ [] ≡ y ∷ [] → x ≡ y
heads h = cc

-- a Commit that made a Credit was judged so
committed-by : (h : List Event) (worker : ℕ) (asked : Request) (checked : Checked) → asked ≡ request.Commit checked → (answer : Reply) (session : ℕ) (share : Share)
    → Answer h worker asked (credit_of session share ∷ []) answer → MaySubmit h worker ⊎ MayNotSubmit h worker → IsCommitted h worker asked session share
committed-by h worker asked checked is answer session share a (inr not) =
    absurd (cons-nil (not.booking checked (credit_of session share ∷ []) answer (subst (λ r. Answer h worker r (credit_of session share ∷ []) answer) is a)).0)
committed-by h worker asked checked is answer session share a (inl may) = by_first (first_failed may.rules (past_of h) may.session (share_of checked.sub)) refl where
  j : IsJudged h worker may (share_of checked.sub) (credit_of session share ∷ []) answer
  j = judged h worker may checked (credit_of session share ∷ []) answer (subst (λ r. Answer h worker r (credit_of session share ∷ []) answer) is a)

  by_first : (o : Option Failed) → first_failed may.rules (past_of h) may.session (share_of checked.sub) ≡ o → IsCommitted h worker asked session share
  by_first None none = record { checked = checked; is_commit = is; may = may; is_its = heads (j.credited.1 none); none = none }
  by_first (Some code) failed = absurd (cons-nil (j.refused code failed).0)

pub credits-committed : CreditsAreCommitted
credits-committed h worker asked answer session share a = by_made (step-credits (past_of h) worker asked (rules_of (past_of h))) where
  by_event : (o : Option Event) → option_to_list o ≡ credit_of session share ∷ [] → NoCredit o → ⊥
  by_event None e n = cons-nil (sym e)
  by_event (Some made) e n = subst (λ x. NoCredit (Some x)) (heads e) n

  by_made : OnlyByCommit asked (step (past_of h) worker asked) → IsCommitted h worker asked session share
  by_made (inl (checked, is)) = committed-by h worker asked checked is answer session share a (sessions-needed h worker)
  by_made (inr n) = absurd (by_event (step (past_of h) worker asked).event (sym a.events_are) n)
