-- The nine conditions of a share stand by themselves.
use Rattle.std.proofs.Common.{◌⊎◌, inl, inr, ◌≡◌, ℕ, ◌+◌, Bool, true, false, cond, ◌&&◌, ◌||◌, not, Option, None, Some, Result, Ok, List, [], ◌∷◌, ◌++◌, length, refl, ap, subst, sym, ◌∙◌}
use Rattle.std.proofs.Math.Dec.{eqb}
use Rattle.std.proofs.lemmas.Bool.{and_from, and_parts, eq-eqb, eqb-true, false≢true, le-leb, leb-true, lt-ltb, ltb-true, or_cases, or_parts}
use Rattle.std.proofs.lemmas.List.Folds.{list_any-append}
use Rattle.std.specs.Prelude.{filter, find, nat_eq, nat_le, nat_lt}
use Rattle.std.specs.List.{list_any}
use Rattle.std.specs.Str.{bytes_eq}
use Rattle.block_header.specs.Hash.{dsha, meets}
use Rattle.pool_base.specs.Results.{◌>>=◌}
use Rattle.pool_history.specs.declared.events.Event.{Event}
use Rattle.pool_history.specs.declared.events.JobState.{JobState}
use Rattle.pool_history.specs.declared.events.JobState.TheVariants as state
use Rattle.pool_history.specs.declared.refusals.Failed.{Failed}
use Rattle.pool_history.specs.declared.refusals.Failed.TheVariants as failed
use Rattle.pool_history.specs.declared.settings.Rules.{Rules}
use Rattle.pool_history.specs.declared.templates.TipData.{TipData}
use Rattle.pool_history.specs.ByPlaces.{AreJobsOf, HasClasses, IsLive, IsState, class_at_place}
use Rattle.pool_history.specs.Channels.{OpenChannel, channel_in, channels_of}
use Rattle.pool_history.specs.Conditions.{found, or_code, provided}
use Rattle.pool_history.specs.Crediting.{admitted_class, first_failed, headers, last_failed}
use Rattle.pool_history.specs.Headers.{rolled_length}
use Rattle.pool_history.specs.Jobs.{Job, Standing, has_number, is_open_to, is_own, job_moves, jobs_of, live_job, job_numbered, state_of}
use Rattle.pool_history.specs.Judging.{Admitted, Share, agree, has_account, is_in_time, is_known_job, is_known_state, is_mineable, is_standard, is_version, min_ntime_of, outside, rebuilt_header, rolling_mask, serves, version_of}
use Rattle.pool_history.specs.Sessions.{credits, past_of}
use Rattle.pool_history.proofs.PlacesOfClasses.{classes_are_by_places}
use Rattle.pool_history.proofs.PlacesOfJobs.{jobs_are_by_places}
use Rattle.pool_history.proofs.PlacesOfStates.{customs_owned, filter-some, own-some, states_are_by_places}
use Rattle.history_laws.specs.NineConditions.{ConditionsStandByThemselves, FailsFirst, HasCredited, Holds, IsItsChannel, IsMineable, IsRebuiltWith, IsLastTip, IsOpenChannel, nine_codes}
use Rattle.history_laws.proofs.Answering.{channel-agrees}
use Rattle.history_laws.proofs.CreditedHeaders.{headers-placed}
use Rattle.history_laws.proofs.Entrances.{none-some, some-same}
use Rattle.history_laws.proofs.Holding.{all-find}
use Rattle.history_laws.proofs.LiveJobs.{live-placed, one-placed, placed-since}
use Rattle.history_laws.proofs.Living.{LivesSince}
use Rattle.history_laws.proofs.RebuiltWith.{one-rebuilt, open-placed, placed-open, tip-placed}

-- what is told first is one
first-one : (holds : Failed → Type 0) (codes : List Failed) (a b : Option Failed) → FailsFirst holds codes a → FailsFirst holds codes b → a ≡ b
first-one holds [] None None x y = refl
first-one holds [] None (Some code) x y = absurd y
first-one holds [] (Some code) b x y = absurd x
first-one holds (next ∷ more) a b (inl x) (inl y) = x.1 ∙ sym y.1
first-one holds (next ∷ more) a b (inl x) (inr y) = absurd (x.0 y.0)
first-one holds (next ∷ more) a b (inr x) (inl y) = absurd (y.0 x.0)
first-one holds (next ∷ more) a b (inr x) (inr y) = first-one holds more a b x.1 y.1

-- first
agree-same : (a b : Bool) → a ≡ b → agree a b ≡ true
agree-same true b e = sym e
agree-same false b e = ap not (sym e)

serves-its : (h : List Event) (session : ℕ) (share : Share) (c : OpenChannel) → IsOpenChannel h share.channel c → serves session share c ≡ true → IsItsChannel h session share
serves-its h session share c there s =
    let a = and_parts (nat_eq c.session session && has_account c) (agree (is_standard c.kind) share.is_standard) s in
    let b = and_parts (nat_eq c.session session) (has_account c) a.0 in
    record {
      channel = c;
      is_open = there;
      is_its = eqb-true c.session session b.0;
      has_account = ltb-true 0 (length c.account) b.1;
      standard = channel-agrees (is_standard c.kind) share.is_standard a.1;
    }

its-serves : (h : List Event) (session : ℕ) (share : Share) (c : OpenChannel) → IsOpenChannel h share.channel c → IsItsChannel h session share → serves session share c ≡ true
its-serves h session share c there i =
    let same : i.channel ≡ c = some-same (sym i.is_open ∙ there) in
    subst (λ d. serves session share d ≡ true) same
    (and_from (nat_eq i.channel.session session && has_account i.channel) (agree (is_standard i.channel.kind) share.is_standard)
    (and_from (nat_eq i.channel.session session) (has_account i.channel) (eq-eqb i.channel.session session i.is_its)
    (lt-ltb 0 (length i.channel.account) i.has_account))
    (agree-same (is_standard i.channel.kind) share.is_standard i.standard))

-- third
known-not : (h : List Event) (n : ℕ) (s : JobState) → IsState s h n → is_known_state s ≡ true → (¬ IsState state.Unknown h n) × (¬ IsState state.Future h n)
known-not h n state.Unknown is k = absurd (false≢true k)
known-not h n state.Future is k = absurd (false≢true k)
known-not h n state.Live is k = (λ u. u.1 is.1, λ f. is.0 f)
known-not h n state.Stale is k = (λ u. u.2 (is.2, is.3), λ f. is.0 f)

not-known : (h : List Event) (n : ℕ) (s : JobState) → IsState s h n → ¬ IsState state.Unknown h n → ¬ IsState state.Future h n → is_known_state s ≡ true
not-known h n state.Unknown is u f = absurd (u is)
not-known h n state.Future is u f = absurd (f is)
not-known h n state.Live is u f = refl
not-known h n state.Stale is u f = refl

mineable-some : (c : ℕ) (o : Option Job) → is_mineable c o ≡ true → (job : Job) × (o ≡ Some job) × (is_open_to c job.source ≡ true)
mineable-some c None m = absurd (false≢true m)
mineable-some c (Some job) m = (job, refl, m)

known-mineable : (h : List Event) (share : Share) → is_known_job (jobs_of (past_of h)) share ≡ true → IsMineable h share
known-mineable h share k =
    let s : Standing = jobs_of (past_of h) in
    let a = and_parts (is_known_state (state_of s share.job)) (is_mineable share.channel (job_numbered share.job s.all)) k in
    let n = known-not h share.job (state_of s share.job) (states_are_by_places h share.job) a.0 in
    let m = mineable-some share.channel (job_numbered share.job s.all) a.1 in
    record {
      not_unknown = n.0;
      not_future = n.1;
      job = m.0;
      is_job = ap (job_numbered share.job) (sym (jobs_are_by_places h).all) ∙ m.1;
      not_others = m.2;
    }

mineable-known : (h : List Event) (share : Share) → IsMineable h share → is_known_job (jobs_of (past_of h)) share ≡ true
mineable-known h share m =
    let s : Standing = jobs_of (past_of h) in
    and_from (is_known_state (state_of s share.job)) (is_mineable share.channel (job_numbered share.job s.all))
    (not-known h share.job (state_of s share.job) (states_are_by_places h share.job) m.not_unknown m.not_future)
    (ap (is_mineable share.channel) (ap (job_numbered share.job) (jobs_are_by_places h).all ∙ m.is_job) ∙ m.not_others)

-- fourth
find-any : {X : Type 0} (p : X → Bool) (xs : List X) (x : X) → find p xs ≡ Some x → list_any p xs ≡ true
find-any p [] x is = absurd (none-some is)
find-any p (y ∷ xs) x is = by (p y) refl (find-any p xs x) where
  by : (b : Bool) → p y ≡ b → (find p xs ≡ Some x → list_any p xs ≡ true) → list_any p (y ∷ xs) ≡ true
  by true t rest = ap (λ b. b || list_any p xs) t
  by false f rest = ap (λ b. b || list_any p xs) f ∙ rest (sym (ap (λ b. cond b (Some y) (find p xs)) f) ∙ is)

none-any : {X : Type 0} (p : X → Bool) (xs : List X) → find p xs ≡ None → list_any p xs ≡ false
none-any p [] is = refl
none-any p (y ∷ xs) is = by (p y) refl (none-any p xs) where
  by : (b : Bool) → p y ≡ b → (find p xs ≡ None → list_any p xs ≡ false) → list_any p (y ∷ xs) ≡ false
  by true t rest = absurd (none-some (sym is ∙ ap (λ b. cond b (Some y) (find p xs)) t))
  by false f rest = ap (λ b. b || list_any p xs) f ∙ rest (sym (ap (λ b. cond b (Some y) (find p xs)) f) ∙ is)

found-live : (h : List Event) (n : ℕ) (job : Job) → live_job (jobs_of (past_of h)) n ≡ Some job → IsLive h n
found-live h n job is =
    let s : Standing = jobs_of (past_of h) in
    let a : AreJobsOf h s = jobs_are_by_places h in
    let any : has_number n s.live || has_number n s.custom ≡ true =
    sym (list_any-append (λ j. nat_eq j.number n) s.live s.custom) ∙ find-any (λ j. nat_eq j.number n) (s.live ++ s.custom) job is in
    either (or_cases (has_number n s.live) (has_number n s.custom) any) where
      either : (has_number n (jobs_of (past_of h)).live ≡ true) ⊎ (has_number n (jobs_of (past_of h)).custom ≡ true) → IsLive h n
      either (inl l) = inl (ap (has_number n) (sym (jobs_are_by_places h).live) ∙ l)
      either (inr c) =
          let o : (channel : ℕ) × (has_number n (filter (λ job. is_own channel job.source) (jobs_of (past_of h)).custom) ≡ true) =
          own-some n (jobs_of (past_of h)).custom (customs_owned (job_moves (past_of h))) c in
          inr (o.0, sym (ap (has_number n) ((jobs_are_by_places h).custom o.0)) ∙ o.1)

none-live : (h : List Event) (n : ℕ) → live_job (jobs_of (past_of h)) n ≡ None → ¬ IsLive h n
none-live h n is live =
    let s : Standing = jobs_of (past_of h) in
    let none : (has_number n s.live ≡ false) × (has_number n s.custom ≡ false) =
    or_parts (has_number n s.live) (has_number n s.custom)
    (sym (list_any-append (λ j. nat_eq j.number n) s.live s.custom) ∙ none-any (λ j. nat_eq j.number n) (s.live ++ s.custom) is) in
    neither none live where
      neither : (has_number n (jobs_of (past_of h)).live ≡ false) × (has_number n (jobs_of (past_of h)).custom ≡ false) → IsLive h n → ⊥
      neither none (inl l) = false≢true (sym none.0 ∙ ap (has_number n) (jobs_are_by_places h).live ∙ l)
      neither none (inr o) =
          false≢true (sym none.1
          ∙ filter-some n (λ job. is_own o.0 job.source) (jobs_of (past_of h)).custom (ap (has_number n) ((jobs_are_by_places h).custom o.0) ∙ o.1))

-- the last three
class-placed : (h : List Event) (share : Share) (with : Admitted) → channel_in (channels_of (past_of h)) share.channel ≡ Some with.channel
    → admitted_class with ≡ class_at_place h with.channel.id with.live_at with.channel.opening_class
class-placed h share with there =
    (all-find (HasClasses h) (λ c. nat_eq c.id share.channel) (channels_of (past_of h)) with.channel (classes_are_by_places h) there).class with.live_at

room : (rules : Rules) (h : List Event) (session : ℕ) (share : Share) (b : Bool) → nat_lt (credits (past_of h)) rules.credit_limit ≡ b
    → FailsFirst (Holds rules h session share) (failed.Full ∷ []) (or_code b failed.Full None)
room rules h session share true t = inr (ltb-true (credits (past_of h)) rules.credit_limit t, tt)
room rules h session share false f = inl (λ few. false≢true (sym f ∙ lt-ltb (credits (past_of h)) rules.credit_limit few), refl)

new : (rules : Rules) (h : List Event) (session : ℕ) (share : Share) (with : Admitted) → IsRebuiltWith h share.channel share.job with
    → (b : Bool) → list_any (bytes_eq (rebuilt_header rules.pool_script with share)) (headers (past_of h)) ≡ b
    → FailsFirst (Holds rules h session share) (failed.Duplicate ∷ failed.Full ∷ [])
    (or_code (not b) failed.Duplicate (or_code (nat_lt (credits (past_of h)) rules.credit_limit) failed.Full None))
new rules h session share with is true t =
    inl (
      λ n. n.not_credited (subst (λ w. HasCredited h (rebuilt_header rules.pool_script w share)) (one-rebuilt h share.channel share.job with n.with is n.is_with)
          ((headers-placed h (rebuilt_header rules.pool_script with share)).0 t)),
      refl,
    )
new rules h session share with is false f = inr (
  record {
    with = with;
    is_with = is;
    not_credited = λ c. false≢true (sym f ∙ (headers-placed h (rebuilt_header rules.pool_script with share)).1 c);
  },
  room rules h session share (nat_lt (credits (past_of h)) rules.credit_limit) refl,
)

hard : (rules : Rules) (h : List Event) (session : ℕ) (share : Share) (with : Admitted) → IsRebuiltWith h share.channel share.job with
    → (b : Bool) → meets (dsha (rebuilt_header rules.pool_script with share)) (admitted_class with) ≡ b
    → FailsFirst (Holds rules h session share) (failed.Difficulty ∷ failed.Duplicate ∷ failed.Full ∷ [])
    (or_code b failed.Difficulty (or_code (not (list_any (bytes_eq (rebuilt_header rules.pool_script with share)) (headers (past_of h)))) failed.Duplicate
    (or_code (nat_lt (credits (past_of h)) rules.credit_limit) failed.Full None)))
hard rules h session share with is true t = inr (
  record {
    with = with;
    is_with = is;
    meets_class = ap (meets (dsha (rebuilt_header rules.pool_script with share)))
        (sym (class-placed h share with (placed-open h share.channel with.channel is.is_open))) ∙ t;
  },
  new rules h session share with is (list_any (bytes_eq (rebuilt_header rules.pool_script with share)) (headers (past_of h))) refl,
)
hard rules h session share with is false f = inl (
  λ m.
      let same : m.with ≡ with = one-rebuilt h share.channel share.job m.with with m.is_with is in
      false≢true (sym f ∙ ap (meets (dsha (rebuilt_header rules.pool_script with share))) (class-placed h share with (placed-open h share.channel with.channel is.is_open))
      ∙ subst (λ w. meets (dsha (rebuilt_header rules.pool_script w share)) (class_at_place h w.channel.id w.live_at w.channel.opening_class) ≡ true) same m.meets_class),
  refl,
)

-- the sixth, the fifth and so on up
abbrev last-result : Rules → List Event → Share → Result Admitted Failed → Option Failed
last-result rules h share r = last_failed rules (past_of h) share r

abbrev timed : Rules → Share → OpenChannel → Job → ℕ → TipData → Bool → Result Admitted Failed
timed rules share c job place tip b = provided b failed.Ntime c >>= (λ k. Ok (record { channel = c; job = job; live_at = place; tip = tip }))

in-time : (rules : Rules) (h : List Event) (session : ℕ) (share : Share) (with : Admitted) → IsRebuiltWith h share.channel share.job with
    → (b : Bool) → is_in_time rules with.job.source with.tip share.ntime ≡ b
    → FailsFirst (Holds rules h session share) (failed.Ntime ∷ failed.Difficulty ∷ failed.Duplicate ∷ failed.Full ∷ [])
    (last-result rules h share (timed rules share with.channel with.job with.live_at with.tip b))
in-time rules h session share with is true t =
    let least : ℕ = min_ntime_of with.job.source with.tip in
    let a = and_parts (nat_le least share.ntime) (nat_le share.ntime (least + rules.ntime_window)) t in
    inr (
      record {
        job = with.job;
        is_job = is.is_job;
        tip = with.tip;
        is_tip = is.is_tip;
        least = leb-true least share.ntime a.0;
        most = leb-true share.ntime (least + rules.ntime_window) a.1;
      },
      hard rules h session share with is (meets (dsha (rebuilt_header rules.pool_script with share)) (admitted_class with)) refl,
    )
in-time rules h session share with is false f = inl (
  λ w.
      let jobs : w.job ≡ with.job = one-placed h share.job w.job with.job w.is_job is.is_job in
      let tips : w.tip ≡ with.tip = some-same (sym w.is_tip ∙ is.is_tip) in
      let holds : is_in_time rules w.job.source w.tip share.ntime ≡ true =
      and_from (nat_le (min_ntime_of w.job.source w.tip) share.ntime) (nat_le share.ntime (min_ntime_of w.job.source w.tip + rules.ntime_window))
      (le-leb (min_ntime_of w.job.source w.tip) share.ntime w.least) (le-leb share.ntime (min_ntime_of w.job.source w.tip + rules.ntime_window) w.most) in
      false≢true (sym f ∙ ap (λ j. is_in_time rules j.source with.tip share.ntime) (sym jobs) ∙ ap (λ u. is_in_time rules w.job.source u share.ntime) (sym tips) ∙ holds),
  refl,
)

in-version : (rules : Rules) (h : List Event) (session : ℕ) (share : Share) (with : Admitted) → IsRebuiltWith h share.channel share.job with
    → (b : Bool) → is_version rules with.job.source share.version ≡ b
    → FailsFirst (Holds rules h session share) (failed.Version ∷ failed.Ntime ∷ failed.Difficulty ∷ failed.Duplicate ∷ failed.Full ∷ [])
    (last-result rules h share (provided b failed.Version with.channel
    >>= (λ k. timed rules share with.channel with.job with.live_at with.tip (is_in_time rules with.job.source with.tip share.ntime))))
in-version rules h session share with is true t = inr (
  record {
    job = with.job;
    is_job = is.is_job;
    same = eqb-true (outside (rolling_mask rules) share.version) (outside (rolling_mask rules) (version_of with.job.source)) t;
  },
  in-time rules h session share with is (is_in_time rules with.job.source with.tip share.ntime) refl,
)
in-version rules h session share with is false f = inl (
  λ v.
      let jobs : v.job ≡ with.job = one-placed h share.job v.job with.job v.is_job is.is_job in
      false≢true (sym f ∙ eq-eqb (outside (rolling_mask rules) share.version) (outside (rolling_mask rules) (version_of with.job.source))
      (v.same ∙ ap (λ j. outside (rolling_mask rules) (version_of j.source)) jobs)),
  refl,
)

abbrev over-tip : Rules → Share → OpenChannel → Job → ℕ → Option TipData → Result Admitted Failed
over-tip rules share c job place o =
    found failed.Stale o
    >>= (λ tip. provided (is_version rules job.source share.version) failed.Version c
    >>= (λ k. timed rules share c job place tip (is_in_time rules job.source tip share.ntime)))

-- a job that is live since a place, if it says one
abbrev since-place : Rules → List Event → Share → OpenChannel → Job → Option ℕ → Result Admitted Failed
since-place rules h share c job o = found failed.Stale o >>= (λ place. over-tip rules share c job place (jobs_of (past_of h)).tip)

abbrev of-job : Rules → List Event → Share → OpenChannel → Option Job → Result Admitted Failed
of-job rules h share c o = found failed.Stale o >>= (λ job. since-place rules h share c job job.live_at)

abbrev fourth-on : List Failed
fourth-on = failed.Stale ∷ failed.Version ∷ failed.Ntime ∷ failed.Difficulty ∷ failed.Duplicate ∷ failed.Full ∷ []

by-tip : (rules : Rules) (h : List Event) (session : ℕ) (share : Share) (c : OpenChannel) (job : Job) (place : ℕ) → IsOpenChannel h share.channel c
    → live_job (jobs_of (past_of h)) share.job ≡ Some job → job.live_at ≡ Some place → IsMineable h share
    → (o : Option TipData) → (jobs_of (past_of h)).tip ≡ o
    → FailsFirst (Holds rules h session share) fourth-on (last-result rules h share (over-tip rules share c job place o))
by-tip rules h session share c job place there live since m None is = inl (λ l. none-some (sym is ∙ tip-placed h ∙ l.is_tip), refl)
by-tip rules h session share c job place there live since m (Some tip) is =
    let is_tip : IsLastTip h tip = sym (tip-placed h) ∙ is in
    inr (
      record { live = (λ f. m.not_future f, found-live h share.job job live); tip = tip; is_tip = is_tip },
      in-version rules h session share (record { channel = c; job = job; live_at = place; tip = tip })
          (record { is_open = there; is_job = live-placed h share.job job live; is_live_at = since; is_tip = is_tip })
          (is_version rules job.source share.version) refl,
    )

by-place : (rules : Rules) (h : List Event) (session : ℕ) (share : Share) (c : OpenChannel) (job : Job) → IsOpenChannel h share.channel c
    → live_job (jobs_of (past_of h)) share.job ≡ Some job → IsMineable h share
    → (o : Option ℕ) → job.live_at ≡ o → FailsFirst (Holds rules h session share) fourth-on (last-result rules h share (since-place rules h share c job o))
by-place rules h session share c job there live m None is =
    let l : LivesSince job (length (past_of h)) = placed-since h share.job job (live-placed h share.job job live) in
    absurd (none-some (sym is ∙ l.live_at))
by-place rules h session share c job there live m (Some place) is =
    by-tip rules h session share c job place there live is m (jobs_of (past_of h)).tip refl

by-job : (rules : Rules) (h : List Event) (session : ℕ) (share : Share) (c : OpenChannel) → IsOpenChannel h share.channel c → IsMineable h share
    → (o : Option Job) → live_job (jobs_of (past_of h)) share.job ≡ o
    → FailsFirst (Holds rules h session share) fourth-on (last-result rules h share (of-job rules h share c o))
by-job rules h session share c there m None is = inl (λ l. none-live h share.job is l.live.1, refl)
by-job rules h session share c there m (Some job) is = by-place rules h session share c job there is m job.live_at refl

by-known : (rules : Rules) (h : List Event) (session : ℕ) (share : Share) (c : OpenChannel) → IsOpenChannel h share.channel c
    → (b : Bool) → is_known_job (jobs_of (past_of h)) share ≡ b
    → FailsFirst (Holds rules h session share) (failed.Job ∷ fourth-on)
    (last-result rules h share (provided b failed.Job c
    >>= (λ k. of-job rules h share c (live_job (jobs_of (past_of h)) share.job))))
by-known rules h session share c there true t =
    let m : IsMineable h share = known-mineable h share t in
    inr (m, by-job rules h session share c there m (live_job (jobs_of (past_of h)) share.job) refl)
by-known rules h session share c there false f = inl (λ m. false≢true (sym f ∙ mineable-known h share m), refl)

abbrev sized : Rules → List Event → Share → OpenChannel → Bool → Result Admitted Failed
sized rules h share c b =
    provided b failed.ExtranonceSize c
    >>= (λ k. provided (is_known_job (jobs_of (past_of h)) share) failed.Job c
    >>= (λ l. of-job rules h share c (live_job (jobs_of (past_of h)) share.job)))

by-size : (rules : Rules) (h : List Event) (session : ℕ) (share : Share) (c : OpenChannel) → IsOpenChannel h share.channel c
    → (b : Bool) → nat_eq (length share.extranonce) (rolled_length c.kind c.lead) ≡ b
    → FailsFirst (Holds rules h session share) (failed.ExtranonceSize ∷ failed.Job ∷ fourth-on) (last-result rules h share (sized rules h share c b))
by-size rules h session share c there true t = inr (
  record { channel = c; is_open = there; long = eqb-true (length share.extranonce) (rolled_length c.kind c.lead) t },
  by-known rules h session share c there (is_known_job (jobs_of (past_of h)) share) refl,
)
by-size rules h session share c there false f = inl (
  λ r.
      let same : r.channel ≡ c = some-same (sym r.is_open ∙ there) in
      false≢true (sym f ∙ eq-eqb (length share.extranonce) (rolled_length c.kind c.lead) (r.long ∙ ap (λ d. rolled_length d.kind d.lead) same)),
  refl,
)

by-session : (rules : Rules) (h : List Event) (session : ℕ) (share : Share) (c : OpenChannel) → IsOpenChannel h share.channel c
    → (b : Bool) → serves session share c ≡ b
    → FailsFirst (Holds rules h session share) nine_codes
    (last-result rules h share (provided b failed.Channel c >>= (λ d. sized rules h share d (nat_eq (length share.extranonce) (rolled_length d.kind d.lead)))))
by-session rules h session share c there true t =
    inr (serves-its h session share c there t, by-size rules h session share c there (nat_eq (length share.extranonce) (rolled_length c.kind c.lead)) refl)
by-session rules h session share c there false f = inl (λ i. false≢true (sym f ∙ its-serves h session share c there i), refl)

by-channel : (rules : Rules) (h : List Event) (session : ℕ) (share : Share) (o : Option OpenChannel) → channel_in (channels_of (past_of h)) share.channel ≡ o
    → FailsFirst (Holds rules h session share) nine_codes
    (last-result rules h share (found failed.Channel o
    >>= (λ there. provided (serves session share there) failed.Channel there >>= (λ d. sized rules h share d (nat_eq (length share.extranonce) (rolled_length d.kind d.lead))))))
by-channel rules h session share None is = inl (λ i. none-some (sym is ∙ placed-open h share.channel i.channel i.is_open), refl)
by-channel rules h session share (Some c) is =
    by-session rules h session share c (open-placed h share.channel c is) (serves session share c) refl

pub nine-fail_first : (rules : Rules) (h : List Event) (session : ℕ) (share : Share)
    → FailsFirst (Holds rules h session share) nine_codes (first_failed rules (past_of h) session share)
nine-fail_first rules h session share = by-channel rules h session share (channel_in (channels_of (past_of h)) share.channel) refl

pub nine-stand : ConditionsStandByThemselves
nine-stand rules h session share told = (
  λ is. subst (FailsFirst (Holds rules h session share) nine_codes) is (nine-fail_first rules h session share),
  λ f. first-one (Holds rules h session share) nine_codes (first_failed rules (past_of h) session share) told (nine-fail_first rules h session share) f,
)
