-- Live jobs stay as they are.
use Rattle.std.proofs.Common.{◌⊎◌, inl, inr, ◌≡◌, ℕ, suc, ◌+◌, ◌-◌, ◌<◌, ◌≤◌, Bool, true, false, Option, None, Some, List, [], ◌∷◌, ◌++◌, length, take, drop, refl, ap, subst, sym, ◌∙◌, arith, length-append}
use Rattle.std.proofs.Math.Dec.{eqb}
use Rattle.std.proofs.lemmas.Bool.{cond_both, eqb-true}
use Rattle.std.proofs.lemmas.List.{length-reverse, take-append-drop}
use Rattle.std.specs.Prelude.{filter, find, nat_lt}
use Rattle.pool_history.specs.declared.events.Event.{Event}
use Rattle.pool_history.specs.declared.events.Event.TheVariants as event
use Rattle.pool_history.specs.declared.templates.TipData.{TipData}
use Rattle.pool_history.specs.Jobs.{Job, Standing, at_most_sixteen, custom_job, future_in, has_template, is_own, jobs_of, last, live_at_once, live_job, made_live, template_job, with_custom, with_template, with_tip, without_first}
use Rattle.pool_history.specs.Sessions.{past_of}
use Rattle.history_laws.specs.Staying.{ClassesStay, IsLater, JobsStay}
use Rattle.history_laws.proofs.Entrances.{none-some, some-same}
use Rattle.history_laws.proofs.Keeping.{channels-stay, find-passes}
use Rattle.history_laws.proofs.Legalities.{past-append}

-- an element of a list
abbrev pub In : {X : Type 0} → X → List X → Type 0
In x [] = ⊥
In x (y ∷ ys) = (x ≡ y) ⊎ In x ys

pub in-left : {X : Type 0} (x : X) (xs ys : List X) → In x xs → In x (xs ++ ys)
in-left x [] ys i = elim i [ ]
in-left x (y ∷ xs) ys (inl e) = inl e
in-left x (y ∷ xs) ys (inr i) = inr (in-left x xs ys i)

pub in-right : {X : Type 0} (x : X) (xs ys : List X) → In x ys → In x (xs ++ ys)
in-right x [] ys i = i
in-right x (y ∷ xs) ys i = inr (in-right x xs ys i)

pub in-append : {X : Type 0} (x : X) (xs ys : List X) → In x (xs ++ ys) → In x xs ⊎ In x ys
in-append x [] ys i = inr i
in-append x (y ∷ xs) ys (inl e) = inl (inl e)
in-append {X = X} x (y ∷ xs) ys (inr i) = further (in-append x xs ys i) where
  further : In x xs ⊎ In x ys → In x (y ∷ xs) ⊎ In x ys
  further (inl a) = inl (inr a)
  further (inr b) = inr b

pub in-end : {X : Type 0} (x : X) (xs : List X) (y : X) → In x (xs ++ y ∷ []) → In x xs ⊎ (x ≡ y)
in-end {X = X} x xs y i = further (in-append x xs (y ∷ []) i) where
  further : In x xs ⊎ In x (y ∷ []) → In x xs ⊎ (x ≡ y)
  further (inl a) = inl a
  further (inr (inl e)) = inr e
  further (inr (inr i)) = elim i [ ]

pub in-last : {X : Type 0} (x : X) (most : ℕ) (xs : List X) → In x (last most xs) → In x xs
in-last x most xs i =
    subst (λ l. In x l) (take-append-drop (length xs - most) xs) (in-right x (take (length xs - most) xs) (drop (length xs - most) xs) i)

pub find-in : {X : Type 0} (p : X → Bool) (xs : List X) (x : X) → find p xs ≡ Some x → In x xs
find-in p [] x is = absurd (none-some is)
find-in p (y ∷ xs) x is =
    cond_both (p y) (Some y) (find p xs) (λ o. o ≡ Some x → In x (y ∷ xs)) (λ t found. inl (sym (some-same found))) (λ f found. inr (find-in p xs x found)) is

pub in-without : (x : Job) (channel : ℕ) (xs : List Job) → In x (without_first channel xs) → In x xs
in-without x channel [] i = i
in-without x channel (y ∷ xs) i =
    cond_both (is_own channel y.source) xs (y ∷ without_first channel xs) (λ l. In x l → In x (y ∷ xs)) (λ t j. inr j)
    (λ f j. kept (λ k. in-without x channel xs k) j) i where
      kept : (In x (without_first channel xs) → In x xs) → In x (y ∷ without_first channel xs) → In x (y ∷ xs)
      kept deeper (inl e) = inl e
      kept deeper (inr j) = inr (deeper j)

pub in-sixteen : (x : Job) (channel : ℕ) (xs : List Job) → In x (at_most_sixteen channel xs) → In x xs
in-sixteen x channel xs i =
    cond_both (nat_lt 16 (length (filter (λ job. is_own channel job.source) xs))) (without_first channel xs) xs (λ l. In x l → In x xs)
    (λ t j. in-without x channel xs j) (λ f j. j) i

-- the live jobs, of templates and of miners
abbrev pub alive : Standing → List Job
alive standing = standing.live ++ standing.custom

-- a job that came: it has the next number, and it is of the future or alive, not both
pub record CameIn (before after : Standing) (job : Job) (at : ℕ) : Type 0 where
  pub more : length after.all ≡ length before.all + 1
  pub number : job.number ≡ length before.all + 1
  pub at_end : job.at ≡ at
  pub future : (j : Job) → In j after.future → In j before.future ⊎ (j ≡ job)
  pub living : (j : Job) → In j (alive after) → In j (alive before) ⊎ (j ≡ live_at_once job)
  pub one_of : ((j : Job) → In j after.future → In j before.future) ⊎ ((j : Job) → In j (alive after) → In j (alive before))

pub length-one : {X : Type 0} (xs : List X) (x : X) → length (xs ++ x ∷ []) ≡ length xs + 1
length-one xs x = length-append xs (x ∷ [])

pub came-future : (s : Standing) (job : Job) (at : ℕ) → job.number ≡ length s.all + 1 → job.at ≡ at → CameIn s (with_template job true s) job at
came-future s job at number at_end = record {
  more = length-one s.all job;
  number = number;
  at_end = at_end;
  future = λ j i. in-end j s.future job (in-last j 16 (s.future ++ job ∷ []) i);
  living = λ j i. inl i;
  one_of = inr (λ j i. i);
}

pub came-live : (s : Standing) (job : Job) (at : ℕ) → job.number ≡ length s.all + 1 → job.at ≡ at → CameIn s (with_template job false s) job at
came-live s job at number at_end = record {
  more = length-one s.all job;
  number = number;
  at_end = at_end;
  future = λ j i. inl i;
  living = λ j i. by_part j (in-append j (last 64 (s.live ++ live_at_once job ∷ [])) s.custom i);
  one_of = inl (λ j i. i);
} where
  by_end : (j : Job) → In j s.live ⊎ (j ≡ live_at_once job) → In j (alive s) ⊎ (j ≡ live_at_once job)
  by_end j (inl i) = inl (in-left j s.live s.custom i)
  by_end j (inr e) = inr e

  by_part : (j : Job) → In j (last 64 (s.live ++ live_at_once job ∷ [])) ⊎ In j s.custom → In j (alive s) ⊎ (j ≡ live_at_once job)
  by_part j (inl i) = by_end j (in-end j s.live (live_at_once job) (in-last j 64 (s.live ++ live_at_once job ∷ []) i))
  by_part j (inr i) = inl (in-right j s.live s.custom i)

pub came-own : (s : Standing) (job : Job) (channel at : ℕ) → job.number ≡ length s.all + 1 → job.at ≡ at → CameIn s (with_custom job channel s) job at
came-own s job channel at number at_end = record {
  more = length-one s.all job;
  number = number;
  at_end = at_end;
  future = λ j i. inl i;
  living = λ j i. by_part j (in-append j s.live (at_most_sixteen channel (s.custom ++ live_at_once job ∷ [])) i);
  one_of = inl (λ j i. i);
} where
  by_end : (j : Job) → In j s.custom ⊎ (j ≡ live_at_once job) → In j (alive s) ⊎ (j ≡ live_at_once job)
  by_end j (inl i) = inl (in-right j s.live s.custom i)
  by_end j (inr e) = inr e

  by_part : (j : Job) → In j s.live ⊎ In j (at_most_sixteen channel (s.custom ++ live_at_once job ∷ [])) → In j (alive s) ⊎ (j ≡ live_at_once job)
  by_part j (inl i) = inl (in-left j s.live s.custom i)
  by_part j (inr i) = by_end j (in-end j s.custom (live_at_once job) (in-sixteen j channel (s.custom ++ live_at_once job ∷ []) i))

-- a template's job, future or not
pub came-template : (s : Standing) (job : Job) (future : Bool) (at : ℕ) → job.number ≡ length s.all + 1 → job.at ≡ at → CameIn s (with_template job future s) job at
came-template s job true at number at_end = came-future s job at number at_end
came-template s job false at number at_end = came-live s job at number at_end

-- what a tip made live was of the future
pub record WasFuture (s : Standing) (at : ℕ) (j : Job) : Type 0 where
  pub job : Job
  pub of_future : In job s.future
  pub number : j.number ≡ job.number
  pub source : j.source ≡ job.source
  pub since : j.live_at ≡ Some at

pub made-future : (s : Standing) (at id : ℕ) (j : Job) → In j (made_live at (future_in s.future id) ++ []) → WasFuture s at j
made-future s at id j i = by_job (future_in s.future id) refl i where
  by_job : (o : Option Job) → future_in s.future id ≡ o → In j (made_live at o ++ []) → WasFuture s at j
  by_job None is i = elim i [ ]
  by_job (Some f) is (inl e) = record {
    job = f;
    of_future = find-in (λ job. has_template id job.source) s.future f is;
    number = ap (λ x. x.number) e;
    source = ap (λ x. x.source) e;
    since = ap (λ x. x.live_at) e;
  }
  by_job (Some f) is (inr i) = elim i [ ]

pub made-one : (at : ℕ) (o : Option Job) (a b : Job) → In a (made_live at o ++ []) → In b (made_live at o ++ []) → a ≡ b
made-one at None a b i k = elim i [ ]
made-one at (Some f) a b (inl e) (inl g) = e ∙ sym g
made-one at (Some f) a b (inl e) (inr k) = elim k [ ]
made-one at (Some f) a b (inr i) k = elim i [ ]

-- a job is live since a place before another
pub record LivesSince (job : Job) (at : ℕ) : Type 0 where
  pub place : ℕ
  pub live_at : job.live_at ≡ Some place
  pub before : place < at

pub lives-later : (job : Job) (at : ℕ) → LivesSince job at → LivesSince job (suc at)
lives-later job at l = record { place = l.place; live_at = l.live_at; before = let h : l.place < at = l.before in omega (arith, h) }

-- the numbers of jobs: no job of the future has that of one that is alive, and of these each has its own
pub record IsNumbered (s : Standing) (at : ℕ) : Type 0 where
  pub future_below : (f : Job) → In f s.future → f.number ≤ length s.all
  pub living_below : (j : Job) → In j (alive s) → j.number ≤ length s.all
  pub living_since : (j : Job) → In j (alive s) → LivesSince j at
  pub apart : (f j : Job) → In f s.future → In j (alive s) → f.number ≡ j.number → ⊥
  pub one : (a b : Job) → In a (alive s) → In b (alive s) → a.number ≡ b.number → a ≡ b

pub numbered-later : (s : Standing) (at : ℕ) → IsNumbered s at → IsNumbered s (suc at)
numbered-later s at n = record {
  future_below = n.future_below;
  living_below = n.living_below;
  living_since = λ j i. lives-later j at (n.living_since j i);
  apart = n.apart;
  one = n.one;
}

pub numbered-came : (s after : Standing) (job : Job) (at : ℕ) → IsNumbered s at → CameIn s after job at → IsNumbered after (suc at)
numbered-came s after job at n c = record {
  future_below = λ f i. below f (old-future (c.future f i));
  living_below = λ j i. below j (old-living (c.living j i));
  living_since = λ j i. since j (c.living j i);
  apart = λ f j i k same. apart f j i k same c.one_of;
  one = λ a b i k same. one a b (c.living a i) (c.living b k) same;
} where
  old-future : {f : Job} → In f s.future ⊎ (f ≡ job) → (f.number ≤ length s.all) ⊎ (f.number ≡ length s.all + 1)
  old-future {f = f} (inl i) = inl (n.future_below f i)
  old-future (inr e) = inr (ap (λ x. x.number) e ∙ c.number)

  old-living : {j : Job} → In j (alive s) ⊎ (j ≡ live_at_once job) → (j.number ≤ length s.all) ⊎ (j.number ≡ length s.all + 1)
  old-living {j = j} (inl i) = inl (n.living_below j i)
  old-living (inr e) = inr (ap (λ x. x.number) e ∙ c.number)

  below : (j : Job) → (j.number ≤ length s.all) ⊎ (j.number ≡ length s.all + 1) → j.number ≤ length after.all
  below j (inl h) = let m : length after.all ≡ length s.all + 1 = c.more in omega (arith, h, m)
  below j (inr h) = let m : length after.all ≡ length s.all + 1 = c.more in omega (arith, h, m)

  since : (j : Job) → In j (alive s) ⊎ (j ≡ live_at_once job) → LivesSince j (suc at)
  since j (inl i) = lives-later j at (n.living_since j i)
  since j (inr e) = record { place = at; live_at = ap (λ x. x.live_at) e ∙ ap Some c.at_end; before = omega arith }

  new-living : (f j : Job) → In f s.future → In j (alive s) ⊎ (j ≡ live_at_once job) → f.number ≡ j.number → ⊥
  new-living f j i (inl k) same = n.apart f j i k same
  new-living f j i (inr e) same =
      let h : f.number ≤ length s.all = n.future_below f i in
      let g : j.number ≡ length s.all + 1 = ap (λ x. x.number) e ∙ c.number in
      omega (arith, h, g, same)

  new-future : (f j : Job) → In f s.future ⊎ (f ≡ job) → In j (alive s) → f.number ≡ j.number → ⊥
  new-future f j (inl i) k same = n.apart f j i k same
  new-future f j (inr e) k same =
      let h : j.number ≤ length s.all = n.living_below j k in
      let g : f.number ≡ length s.all + 1 = ap (λ x. x.number) e ∙ c.number in
      omega (arith, h, g, same)

  apart : (f j : Job) → In f after.future → In j (alive after) → f.number ≡ j.number
      → ((j : Job) → In j after.future → In j s.future) ⊎ ((j : Job) → In j (alive after) → In j (alive s)) → ⊥
  apart f j i k same (inl kept) = new-living f j (kept f i) (c.living j k) same
  apart f j i k same (inr kept) = new-future f j (c.future f i) (kept j k) same

  one : (a b : Job) → In a (alive s) ⊎ (a ≡ live_at_once job) → In b (alive s) ⊎ (b ≡ live_at_once job) → a.number ≡ b.number → a ≡ b
  one a b (inl i) (inl k) same = n.one a b i k same
  one a b (inl i) (inr e) same =
      let h : a.number ≤ length s.all = n.living_below a i in
      let g : b.number ≡ length s.all + 1 = ap (λ x. x.number) e ∙ c.number in
      absurd (omega (arith, h, g, same))
  one a b (inr e) (inl k) same =
      let h : b.number ≤ length s.all = n.living_below b k in
      let g : a.number ≡ length s.all + 1 = ap (λ x. x.number) e ∙ c.number in
      absurd (omega (arith, h, g, same))
  one a b (inr e) (inr g) same = e ∙ sym g

pub numbered-tipped : (s : Standing) (tip : TipData) (at : ℕ) → IsNumbered s at → IsNumbered (with_tip at tip s) (suc at)
numbered-tipped s tip at n = record {
  future_below = λ f i. elim i [ ];
  living_below = λ j i.
      let w : WasFuture s at j = made-future s at tip.template_id j i in
      let h : w.job.number ≤ length s.all = n.future_below w.job w.of_future in
      let g : j.number ≡ w.job.number = w.number in
      omega (arith, h, g);
  living_since = λ j i.
      let w : WasFuture s at j = made-future s at tip.template_id j i in
      record { place = at; live_at = w.since; before = omega arith };
  apart = λ f j i k same. elim i [ ];
  one = λ a b i k same. made-one at (future_in s.future tip.template_id) a b i k;
}

pub jobs-numbered : (past : List Event) → IsNumbered (jobs_of past) (length past)
jobs-numbered [] = record {
  future_below = λ f i. elim i [ ];
  living_below = λ j i. elim i [ ];
  living_since = λ j i. elim i [ ];
  apart = λ f j i k same. elim i [ ];
  one = λ a b i k same. elim i [ ];
}
jobs-numbered (event.Template session template ∷ older) =
    let s : Standing = jobs_of older in
    let job : Job = template_job (length s.all + 1) (length older) session template in
    numbered-came s (with_template job template.future_template s) job (length older) (jobs-numbered older)
    (came-template s job template.future_template (length older) refl refl)
jobs-numbered (event.Tip session tip ∷ older) = numbered-tipped (jobs_of older) tip (length older) (jobs-numbered older)
jobs-numbered (event.Custom session custom ∷ older) =
    let s : Standing = jobs_of older in
    let job : Job = custom_job (length s.all + 1) (length older) custom in
    numbered-came s (with_custom job custom.channel_id s) job (length older) (jobs-numbered older) (came-own s job custom.channel_id (length older) refl refl)
jobs-numbered (e ∷ older) = numbered-later (jobs_of older) (length older) (jobs-numbered older)

-- what has a number and is alive is one job, and no job of the future has it
pub record HasOnly (s : Standing) (number : ℕ) (job : Job) : Type 0 where
  pub came : number ≤ length s.all
  pub future : (f : Job) → In f s.future → f.number ≡ number → ⊥
  pub living : (j : Job) → In j (alive s) → j.number ≡ number → j ≡ job

pub only-came : (s after : Standing) (new : Job) (at number : ℕ) (job : Job) → HasOnly s number job → CameIn s after new at → HasOnly after number job
only-came s after new at number job o c = record {
  came = let m : length after.all ≡ length s.all + 1 = c.more in let h : number ≤ length s.all = o.came in omega (arith, h, m);
  future = λ f i same. future f (c.future f i) same;
  living = λ j i same. living j (c.living j i) same;
} where
  isnt_new : (j : Job) → j.number ≡ new.number → j.number ≡ number → ⊥
  isnt_new j e same =
      let g : j.number ≡ length s.all + 1 = e ∙ c.number in
      let h : number ≤ length s.all = o.came in
      omega (arith, g, h, same)

  future : (f : Job) → In f s.future ⊎ (f ≡ new) → f.number ≡ number → ⊥
  future f (inl i) same = o.future f i same
  future f (inr e) same = isnt_new f (ap (λ x. x.number) e) same

  living : (j : Job) → In j (alive s) ⊎ (j ≡ live_at_once new) → j.number ≡ number → j ≡ job
  living j (inl i) same = o.living j i same
  living j (inr e) same = absurd (isnt_new j (ap (λ x. x.number) e) same)

pub only-tipped : (s : Standing) (tip : TipData) (at number : ℕ) (job : Job) → HasOnly s number job → HasOnly (with_tip at tip s) number job
only-tipped s tip at number job o = record {
  came = o.came;
  future = λ f i same. elim i [ ];
  living = λ j i same.
      let w : WasFuture s at j = made-future s at tip.template_id j i in
      absurd (o.future w.job w.of_future (sym w.number ∙ same));
}

pub only-later : (e : Event) (older : List Event) (number : ℕ) (job : Job) → HasOnly (jobs_of older) number job → HasOnly (jobs_of (e ∷ older)) number job
only-later (event.Template session template) older number job o =
    let s : Standing = jobs_of older in
    let new : Job = template_job (length s.all + 1) (length older) session template in
    only-came s (with_template new template.future_template s) new (length older) number job o (came-template s new template.future_template (length older) refl refl)
only-later (event.Tip session tip) older number job o = only-tipped (jobs_of older) tip (length older) number job o
only-later (event.Custom session custom) older number job o =
    let s : Standing = jobs_of older in
    let new : Job = custom_job (length s.all + 1) (length older) custom in
    only-came s (with_custom new custom.channel_id s) new (length older) number job o (came-own s new custom.channel_id (length older) refl refl)
only-later e older number job o = o

pub only-past : (later past : List Event) (number : ℕ) (job : Job) → HasOnly (jobs_of past) number job → HasOnly (jobs_of (later ++ past)) number job
only-past [] past number job o = o
only-past (e ∷ later) past number job o = only-later e (later ++ past) number job (only-past later past number job o)

-- a live job has its number, and is alive
pub live-found : (s : Standing) (number : ℕ) (job : Job) → live_job s number ≡ Some job → In job (alive s) × (job.number ≡ number)
live-found s number job is =
    (find-in (λ j. eqb j.number number) (alive s) job is, eqb-true job.number number (find-passes (λ j. eqb j.number number) (alive s) job is))

pub live-only : (past : List Event) (number : ℕ) (job : Job) → live_job (jobs_of past) number ≡ Some job → HasOnly (jobs_of past) number job
live-only past number job is =
    let n : IsNumbered (jobs_of past) (length past) = jobs-numbered past in
    let f : In job (alive (jobs_of past)) × (job.number ≡ number) = live-found (jobs_of past) number job is in
    let h : job.number ≤ length (jobs_of past).all = n.living_below job f.0 in
    let same : job.number ≡ number = f.1 in
    record {
      came = omega (arith, h, same);
      future = λ g i e. n.apart g job i f.0 (e ∙ sym f.1);
      living = λ j i e. n.one j job i f.0 (e ∙ sym f.1);
    }

pub jobs-stay : JobsStay
jobs-stay h more number before after was is =
    let o : HasOnly (jobs_of (past_of more ++ past_of h)) number before =
    only-past (past_of more) (past_of h) number before (live-only (past_of h) number before was) in
    let later : live_job (jobs_of (past_of more ++ past_of h)) number ≡ Some after =
    sym (ap (λ p. live_job (jobs_of p) number) (past-append h more)) ∙ is in
    let f : In after (alive (jobs_of (past_of more ++ past_of h))) × (after.number ≡ number) =
    live-found (jobs_of (past_of more ++ past_of h)) number after later in
    o.living after f.0 f.1

pub classes-stay : ClassesStay
classes-stay h more id number before after job later was is lived lives =
    let same : later ≡ job = jobs-stay h more number job later lived lives in
    let l : IsLater (length h) before after = channels-stay h more id before after was is in
    let f : In job (alive (jobs_of (past_of h))) × (job.number ≡ number) = live-found (jobs_of (past_of h)) number job lived in
    let since : LivesSince job (length (past_of h)) = (jobs-numbered (past_of h)).living_since job f.0 in
    let before_end : since.place < length (past_of h) = since.before in
    let long : length (past_of h) ≡ length h = length-reverse h in
    record {
      place = since.place;
      was_live_at = since.live_at;
      is_live_at = ap (λ j. j.live_at) same ∙ since.live_at;
      same = l.class since.place (omega (arith, before_end, long));
    }
