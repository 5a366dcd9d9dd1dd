-- The open channels of a legal history are those whose marks say so.
use Rattle.std.proofs.Common.{inl, inr, ◌≡◌, ℕ, zero, suc, ◌+◌, ◌-◌, ◌<◌, ◌≤◌, Bool, true, false, cond, ◌&&◌, ◌||◌, not, is_some, Option, None, Some, List, [], ◌∷◌, ◌++◌, length, map, refl, ap, subst, sym, ◌∙◌, arith, length-append}
use Rattle.std.proofs.Math.Dec.{eqb}
use Rattle.std.proofs.lemmas.Bool.{cond_both, eq-eqb, eqb-true, false≢true, lt-ltb, ne_eqb}
use Rattle.std.specs.Prelude.{filter, slice_get}
use Rattle.std.specs.List.{AllByRecursion}
use Rattle.std.specs.Option.{option_or}
use Rattle.pool_history.specs.declared.causes.Cause.TheVariants as cause
use Rattle.pool_history.specs.declared.events.Event.{Event}
use Rattle.pool_history.specs.declared.events.Event.TheVariants as event
use Rattle.pool_history.specs.Channels.{OpenChannel, account_or, channel_moves, channels_in, channels_of, opened, with_class, with_name}
use Rattle.pool_history.specs.Legal.{LegalPast, cause_of, may_mine}
use Rattle.pool_history.specs.Refusing.{own_channel}
use Rattle.pool_history.specs.Sessions.{enters, opens}
use Rattle.pool_history.proofs.PlacesOfClasses.{all-end, all-filter, all-weaken}
use Rattle.pool_history.proofs.PlacesOfJobs.{filter-kept, map-end}
use Rattle.history_laws.proofs.Causes.{IsUncaused, provided-both, uncaused, within-next}
use Rattle.history_laws.proofs.Keeping.{find-passes}
use Rattle.history_laws.proofs.Living.{In, find-in}
use Rattle.history_laws.proofs.Stepping.{opened-opens}
use Rattle.event_store.specs.declared.marks.OpeningMark.{OpeningMark}
use Rattle.event_store.specs.declared.marks.SessionMark.{SessionMark}
use Rattle.event_store.specs.Index.{IndexParts, changed, index_of, last_opening}
use Rattle.event_store.specs.Listening.{Listening}
use Rattle.event_store.specs.Told.{has_left_at, is_before, listeners_at, listens_at}
use Rattle.event_store.proofs.Changed.{all-changed, changed-suc, length-changed, read-changed, read-end}
use Rattle.event_store.proofs.Entered.{IsReached, IsSessionWithin, all-get, has_left, leave-present, left-absent, left-changed, open-present, present-below, reached-more, sessions-length, sessions-within}

-- a channel as a note says it, with its session
pub record Tagged : Type 0 where
  pub session : ℕ
  pub listener : Listening

abbrev pub listening_of : OpenChannel → Listening
listening_of channel = record { id = channel.id; kind = channel.kind; lead = channel.lead }

abbrev pub tag_of : OpenChannel → Tagged
tag_of channel = record { session = channel.session; listener = listening_of channel }

abbrev pub tag_in : OpeningMark → Tagged
tag_in mark = record { session = mark.session; listener = mark.listener }

-- an opening's channel is open
abbrev pub is_open : List SessionMark → OpeningMark → Bool
is_open sessions mark = not (is_some mark.closed) && not (has_left (slice_get sessions mark.session))

abbrev pub open_marks : IndexParts → List OpeningMark
open_marks index = filter (is_open index.sessions) index.openings

-- filters
pub filter-agree : {X : Type 0} (p q : X → Bool) (xs : List X) → AllByRecursion (λ x. p x ≡ q x) xs → filter p xs ≡ filter q xs
filter-agree p q [] a = refl
filter-agree p q (x ∷ xs) a = ap (λ b. cond b (x ∷ filter p xs) (filter p xs)) a.0 ∙ ap (λ l. cond (q x) (x ∷ l) l) (filter-agree p q xs a.1)

all-each : {X : Type 0} (P : X → Type 0) → ((x : X) → P x) → (xs : List X) → AllByRecursion P xs
all-each P h [] = tt
all-each P h (x ∷ xs) = (h x, all-each P h xs)

filter-same : {X : Type 0} (p q : X → Bool) → ((x : X) → p x ≡ q x) → (xs : List X) → filter p xs ≡ filter q xs
filter-same p q same xs = filter-agree p q xs (all-each (λ x. p x ≡ q x) same xs)

filter-twice : {X : Type 0} (p q : X → Bool) (xs : List X) → filter p (filter q xs) ≡ filter (λ x. q x && p x) xs
filter-twice p q [] = refl
filter-twice p q (x ∷ xs) = by (filter-twice p q xs) (q x) where
  by : filter p (filter q xs) ≡ filter (λ y. q y && p y) xs → (b : Bool) → filter p (cond b (x ∷ filter q xs) (filter q xs)) ≡ cond (b && p x) (x ∷ filter (λ y. q y && p y) xs) (filter (λ y. q y && p y) xs)
  by rest true = ap (λ l. cond (p x) (x ∷ l) l) rest
  by rest false = rest

filter-map : {X Y : Type 0} (p : Y → Bool) (g : X → Y) (xs : List X) → filter p (map g xs) ≡ map g (filter (λ x. p (g x)) xs)
filter-map p g [] = refl
filter-map p g (x ∷ xs) = by (filter-map p g xs) (p (g x)) where
  by : filter p (map g xs) ≡ map g (filter (λ y. p (g y)) xs) → (b : Bool) → cond b (g x ∷ filter p (map g xs)) (filter p (map g xs)) ≡ map g (cond b (x ∷ filter (λ y. p (g y)) xs) (filter (λ y. p (g y)) xs))
  by rest true = ap (λ l. g x ∷ l) rest
  by rest false = rest

filter-all : {X : Type 0} (p : X → Bool) (xs : List X) → AllByRecursion (λ x. p x ≡ true) xs → filter p xs ≡ xs
filter-all p [] a = refl
filter-all p (x ∷ xs) a = ap (λ b. cond b (x ∷ filter p xs) (filter p xs)) a.0 ∙ ap (λ l. x ∷ l) (filter-all p xs a.1)

filter-none : {X : Type 0} (xs : List X) → filter (λ x. false) xs ≡ []
filter-none [] = refl
filter-none (x ∷ xs) = filter-none xs

map-through : {X Y : Type 0} (g : X → Y) (f : X → X) → ((x : X) → g (f x) ≡ g x) → (xs : List X) → map g (map f xs) ≡ map g xs
map-through g f same [] = refl
map-through g f same (x ∷ xs) = ap (λ y. y ∷ map g (map f xs)) (same x) ∙ ap (λ l. g x ∷ l) (map-through g f same xs)

map-twice : {X Y Z : Type 0} (g : Y → Z) (f : X → Y) (xs : List X) → map g (map f xs) ≡ map (λ x. g (f x)) xs
map-twice g f [] = refl
map-twice g f (x ∷ xs) = ap (λ l. g (f x) ∷ l) (map-twice g f xs)

-- elements
in-map : {X Y : Type 0} (g : X → Y) (x : X) (xs : List X) → In x xs → In (g x) (map g xs)
in-map g x [] i = elim i [ ]
in-map g x (y ∷ xs) (inl e) = inl (ap g e)
in-map g x (y ∷ xs) (inr i) = inr (in-map g x xs i)

record WasMapped {X Y : Type 0} (g : X → Y) (y : Y) (xs : List X) : Type 0 where
  pub from : X
  pub there : In from xs
  pub is : y ≡ g from

map-in : {X Y : Type 0} (g : X → Y) (y : Y) (xs : List X) → In y (map g xs) → WasMapped g y xs
map-in g y [] i = elim i [ ]
map-in g y (x ∷ xs) (inl e) = record { from = x; there = inl refl; is = e }
map-in g y (x ∷ xs) (inr i) = let w : WasMapped g y xs = map-in g y xs i in record { from = w.from; there = inr w.there; is = w.is }

pub in-filter : {X : Type 0} (p : X → Bool) (x : X) (xs : List X) → In x (filter p xs) → In x xs
in-filter p x [] i = i
in-filter p x (y ∷ xs) i = by (in-filter p x xs) (p y) i where
  by : (In x (filter p xs) → In x xs) → (b : Bool) → In x (cond b (y ∷ filter p xs) (filter p xs)) → In x (y ∷ xs)
  by rest true (inl e) = inl e
  by rest true (inr k) = inr (rest k)
  by rest false k = inr (rest k)

-- the marks stand by the ids of their channels
abbrev pub NumberedFrom : ℕ → List OpeningMark → Type 0
NumberedFrom n [] = Unit {0}
NumberedFrom n (mark ∷ marks) = (mark.listener.id ≡ suc n) × NumberedFrom (suc n) marks

numbered-end : (n : ℕ) (xs : List OpeningMark) (x : OpeningMark) → NumberedFrom n xs → x.listener.id ≡ suc (n + length xs) → NumberedFrom n (xs ++ x ∷ [])
numbered-end n [] x a is = (is ∙ omega arith, tt)
numbered-end n (y ∷ xs) x a is = (a.0, numbered-end (suc n) xs x a.1 (is ∙ omega arith))

numbered-changed : (f : OpeningMark → OpeningMark) → ((x : OpeningMark) → (f x).listener ≡ x.listener) → (n : ℕ) (xs : List OpeningMark) (k : ℕ)
    → NumberedFrom n xs → NumberedFrom n (changed f xs k)
numbered-changed f same n [] k a = tt
numbered-changed f same n (x ∷ xs) zero a = (ap (λ l. l.id) (same x) ∙ a.0, a.1)
numbered-changed f same n (x ∷ xs) (suc k) a = subst (NumberedFrom n) (sym (changed-suc f x xs k)) (a.0, numbered-changed f same (suc n) xs k a.1)

pub openings-numbered : (past : List Event) → NumberedFrom 0 (index_of past).openings
openings-numbered [] = tt
openings-numbered (event.Open session kind account class lead ∷ older) =
    numbered-end 0 (index_of older).openings _ (openings-numbered older) (omega arith)
openings-numbered (event.Close session channel ∷ older) =
    numbered-changed _ (λ mark. refl) 0 (index_of older).openings _ (openings-numbered older)
openings-numbered (e ∷ older) = openings-numbered older

pub openings-length : (past : List Event) → length (index_of past).openings ≡ opens past
openings-length [] = refl
openings-length (event.Open session kind account class lead ∷ older) =
    let one : length (index_of (event.Open session kind account class lead ∷ older)).openings ≡ length (index_of older).openings + 1 =
    length-append (index_of older).openings _ in
    one ∙ ap (λ n. n + 1) (openings-length older)
openings-length (event.Close session channel ∷ older) = length-changed _ (index_of older).openings _ ∙ openings-length older
openings-length (e ∷ older) = openings-length older

numbered-above : (n : ℕ) (xs : List OpeningMark) (m : ℕ) → m ≤ n → NumberedFrom n xs → AllByRecursion (λ x. not (eqb x.listener.id m) ≡ true) xs
numbered-above n [] m less a = tt
numbered-above n (x ∷ xs) m less a =
    let id : x.listener.id ≡ suc n = a.0 in
    (ap not (ne_eqb x.listener.id m (λ same. omega (arith, same, id, less))), numbered-above (suc n) xs m (omega (arith, less)) a.1)

-- the mark of an id
pub record IsMarkOf (xs : List OpeningMark) (mark : OpeningMark) (n : ℕ) : Type 0 where
  pub there : slice_get xs (mark.listener.id - suc n) ≡ Some mark
  pub some : suc n ≤ mark.listener.id

numbered-get : (n : ℕ) (xs : List OpeningMark) (mark : OpeningMark) → NumberedFrom n xs → In mark xs → IsMarkOf xs mark n
numbered-get n [] mark a i = elim i [ ]
numbered-get n (x ∷ xs) mark a (inl e) =
    let id : mark.listener.id ≡ suc n = ap (λ (m : OpeningMark). m.listener.id) e ∙ a.0 in
    let none : mark.listener.id - suc n ≡ 0 = omega (arith, id) in
    record { there = ap (slice_get (x ∷ xs)) none ∙ ap Some (sym e); some = omega (arith, id) }
numbered-get n (x ∷ xs) mark a (inr i) =
    let m : IsMarkOf xs mark (suc n) = numbered-get (suc n) xs mark a.1 i in
    let more : suc (suc n) ≤ mark.listener.id = m.some in
    let down : mark.listener.id - suc n ≡ suc (mark.listener.id - suc (suc n)) = omega (arith, more) in
    record { there = ap (slice_get (x ∷ xs)) down ∙ m.there; some = omega (arith, more) }

-- a channel that is open has a mark by its id
pub record HasMark (index : IndexParts) (channel : OpenChannel) : Type 0 where
  pub mark : OpeningMark
  pub there : slice_get index.openings (channel.id - 1) ≡ Some mark
  pub some : 1 ≤ channel.id
  pub is : tag_of channel ≡ tag_in mark

pub marked-channel : (past : List Event) (channel : OpenChannel) → map tag_of (channels_of past) ≡ map tag_in (open_marks (index_of past))
    → In channel (channels_of past) → HasMark (index_of past) channel
marked-channel past channel same i =
    let index : IndexParts = index_of past in
    let w : WasMapped tag_in (tag_of channel) (open_marks index) =
    map-in tag_in (tag_of channel) (open_marks index) (subst (In (tag_of channel)) same (in-map tag_of channel (channels_of past) i)) in
    let m : IsMarkOf index.openings w.from 0 =
    numbered-get 0 index.openings w.from (openings-numbered past) (in-filter (is_open index.sessions) w.from index.openings w.there) in
    let id : channel.id ≡ w.from.listener.id = ap (λ t. t.listener.id) w.is in
    record {
      mark = w.from;
      there = ap (λ n. slice_get index.openings (n - 1)) id ∙ m.there;
      some = subst (λ n. 1 ≤ n) (sym id) m.some;
      is = w.is;
    }

-- a Close marks the channel with its id
close-marks : (sessions : List SessionMark) (at n k : ℕ) (xs : List OpeningMark) → NumberedFrom n xs
    → filter (is_open sessions) (changed (λ mark. record mark { closed = option_or mark.closed (Some at) }) xs k)
    ≡ filter (λ mark. not (eqb mark.listener.id (suc (n + k)))) (filter (is_open sessions) xs)
close-marks sessions at n k [] a = refl
close-marks sessions at n zero (x ∷ xs) a =
    let others : List OpeningMark = filter (is_open sessions) xs in
    let p : OpeningMark → Bool = λ mark. not (eqb mark.listener.id (suc (n + 0))) in
    let stay : filter p others ≡ others =
    filter-all p others (all-filter (λ mark. p mark ≡ true) (is_open sessions) xs (numbered-above (suc n) xs (suc (n + 0)) (omega arith) a.1)) in
    gone x.closed ∙ sym (dropped (is_open sessions x) ∙ stay) where
      gone : (o : Option ℕ) → cond (not (is_some (option_or o (Some at))) && not (has_left (slice_get sessions x.session)))
          (record x { closed = option_or x.closed (Some at) } ∷ filter (is_open sessions) xs) (filter (is_open sessions) xs) ≡ filter (is_open sessions) xs
      gone None = refl
      gone (Some place) = refl

      first : not (eqb x.listener.id (suc (n + 0))) ≡ false
      first = ap not (eq-eqb x.listener.id (suc (n + 0)) (a.0 ∙ omega arith))

      dropped : (b : Bool) → filter (λ mark. not (eqb mark.listener.id (suc (n + 0)))) (cond b (x ∷ filter (is_open sessions) xs) (filter (is_open sessions) xs))
          ≡ filter (λ mark. not (eqb mark.listener.id (suc (n + 0)))) (filter (is_open sessions) xs)
      dropped true =
          ap (λ b. cond b (x ∷ filter (λ mark. not (eqb mark.listener.id (suc (n + 0)))) (filter (is_open sessions) xs))
          (filter (λ mark. not (eqb mark.listener.id (suc (n + 0)))) (filter (is_open sessions) xs))) first
      dropped false = refl
close-marks sessions at n (suc k) (x ∷ xs) a =
    let same : suc (suc n + k) ≡ suc (n + suc k) = omega arith in
    ap (filter (is_open sessions)) (changed-suc _ x xs k)
    ∙ by (close-marks sessions at (suc n) k xs a.1 ∙ ap (λ m. filter (λ mark. not (eqb mark.listener.id m)) (filter (is_open sessions) xs)) same) (is_open sessions x) where
      other : not (eqb x.listener.id (suc (n + suc k))) ≡ true
      other = let id : x.listener.id ≡ suc n = a.0 in ap not (ne_eqb x.listener.id (suc (n + suc k)) (λ e. omega (arith, e, id)))

      by : filter (is_open sessions) (changed (λ mark. record mark { closed = option_or mark.closed (Some at) }) xs k)
          ≡ filter (λ mark. not (eqb mark.listener.id (suc (n + suc k)))) (filter (is_open sessions) xs)
          → (b : Bool) → cond b (x ∷ filter (is_open sessions) (changed (λ mark. record mark { closed = option_or mark.closed (Some at) }) xs k))
          (filter (is_open sessions) (changed (λ mark. record mark { closed = option_or mark.closed (Some at) }) xs k))
          ≡ filter (λ mark. not (eqb mark.listener.id (suc (n + suc k)))) (cond b (x ∷ filter (is_open sessions) xs) (filter (is_open sessions) xs))
      by rest true =
          ap (λ l. x ∷ l) rest
          ∙ sym (ap (λ b. cond b (x ∷ filter (λ mark. not (eqb mark.listener.id (suc (n + suc k)))) (filter (is_open sessions) xs))
          (filter (λ mark. not (eqb mark.listener.id (suc (n + suc k)))) (filter (is_open sessions) xs))) other)
      by rest false = rest

-- what is closed is a channel of the session's own
closed-own : (past : List Event) (session channel : ℕ) → cause_of past (event.Close session channel) ≡ None → is_some (own_channel past session channel) ≡ true
closed-own past session channel n =
    let u : IsUncaused past (event.Close session channel) = uncaused past (event.Close session channel) refl n in
    (provided-both (is_some (own_channel past session channel)) cause.NotOpen None (within-next may_mine past session _ u.none)).0

closed-some : (past : List Event) (session channel : ℕ) → map tag_of (channels_of past) ≡ map tag_in (open_marks (index_of past))
    → is_some (own_channel past session channel) ≡ true → 1 ≤ channel
closed-some past session channel same is = by (own_channel past session channel) refl is where
  by : (o : Option OpenChannel) → own_channel past session channel ≡ o → is_some o ≡ true → 1 ≤ channel
  by None none h = absurd (false≢true h)
  by (Some c) found h =
      let i : In c (channels_in (channels_of past) session) = find-in (λ d. eqb d.id channel) (channels_in (channels_of past) session) c found in
      let id : c.id ≡ channel = eqb-true c.id channel (find-passes (λ d. eqb d.id channel) (channels_in (channels_of past) session) c found) in
      let m : HasMark (index_of past) c = marked-channel past c same (in-filter (λ d. eqb d.session session) c (channels_of past) i) in
      subst (λ n. 1 ≤ n) id m.some

-- the open channels
tag-named : (id : ℕ) (account : List ℕ) (c : OpenChannel) → tag_of (with_name id account c) ≡ tag_of c
tag-named id account c =
    cond_both (eqb c.id id) (record c { account = account_or c.account account }) c (λ d. tag_of d ≡ tag_of c) (λ t. refl) (λ f. refl)

tag-reclassed : (at id class : ℕ) (c : OpenChannel) → tag_of (with_class at id class c) ≡ tag_of c
tag-reclassed at id class c =
    cond_both (eqb c.id id) (record c { sets = record { at = at; class = class } ∷ c.sets }) c (λ d. tag_of d ≡ tag_of c) (λ t. refl) (λ f. refl)

open-same : (xs : List OpeningMark) (old new : List SessionMark) → ((s : ℕ) → has_left (slice_get new s) ≡ has_left (slice_get old s))
    → filter (is_open new) xs ≡ filter (is_open old) xs
open-same xs old new same =
    filter-same (is_open new) (is_open old) (λ mark. ap (λ b. not (is_some mark.closed) && not b) (same mark.session)) xs

pub open-tags : (past : List Event) → LegalPast past → map tag_of (channels_of past) ≡ map tag_in (open_marks (index_of past))
open-tags [] l = refl
open-tags (event.Enter worker role flags ∷ older) l =
    open-tags older l.0
    ∙ sym (ap (map tag_in) (open-same (index_of older).openings (index_of older).sessions (index_of (event.Enter worker role flags ∷ older)).sessions
    (λ s. read-end has_left (index_of older).sessions _ s refl)))
open-tags (event.Open session kind account class lead ∷ older) l =
    let index : IndexParts = index_of older in
    let mark : OpeningMark = record {
      listener = record { id = length index.openings + 1; kind = kind; lead = lead };
      session = session;
      at = length older;
      before = last_opening (slice_get index.sessions session);
      closed = None;
      live = index.live;
      tip = index.tip;
      first_future = index.first_future;
      end_future = length index.futures;
    } in
    map-end tag_of (channels_of older) _
    ∙ ap (λ l. l ++ record { session = session; listener = record { id = opened (channel_moves older) + 1; kind = kind; lead = lead } } ∷ []) (open-tags older l.0)
    ∙ ap (λ n. map tag_in (open_marks index) ++ record { session = session; listener = record { id = n + 1; kind = kind; lead = lead } } ∷ [])
    (opened-opens older ∙ sym (openings-length older))
    ∙ sym (ap (map tag_in) (open-same (index.openings ++ mark ∷ []) index.sessions _ (λ s. read-changed has_left _ (λ m. refl) index.sessions session s)
    ∙ filter-kept (is_open index.sessions) index.openings mark (ap not there))
    ∙ map-end tag_in (open_marks index) mark) where
      there : has_left (slice_get (index_of older).sessions session) ≡ false
      there = by (has_left (slice_get (index_of older).sessions session)) refl where
        by : (b : Bool) → has_left (slice_get (index_of older).sessions session) ≡ b → has_left (slice_get (index_of older).sessions session) ≡ false
        by false f = f
        by true t =
            absurd (false≢true (sym (left-absent older session l.0 t) ∙ open-present older session kind account class lead l.1))
open-tags (event.Name session id account ∷ older) l =
    map-through tag_of (with_name id account) (tag-named id account) (channels_of older) ∙ open-tags older l.0
open-tags (event.Class session id class ∷ older) l =
    map-through tag_of (with_class (length older) id class) (tag-reclassed (length older) id class) (channels_of older) ∙ open-tags older l.0
open-tags (event.Close session channel ∷ older) l =
    let index : IndexParts = index_of older in
    let p : Tagged → Bool = λ tag. not (eqb tag.listener.id channel) in
    let some : 1 ≤ channel = closed-some older session channel (open-tags older l.0) (closed-own older session channel l.1) in
    let number : suc (0 + (channel - 1)) ≡ channel = omega (arith, some) in
    sym (filter-map p tag_of (channels_of older))
    ∙ ap (filter p) (open-tags older l.0)
    ∙ filter-map p tag_in (open_marks index)
    ∙ ap (λ n. map tag_in (filter (λ mark. not (eqb mark.listener.id n)) (open_marks index))) (sym number)
    ∙ ap (map tag_in) (sym (close-marks index.sessions (length older) 0 (channel - 1) index.openings (openings-numbered older)))
open-tags (event.Leave session ∷ older) l =
    let index : IndexParts = index_of older in
    let p : Tagged → Bool = λ tag. not (eqb tag.session session) in
    let here : session < enters older = present-below older session (leave-present older session l.1) in
    let long : length index.sessions ≡ enters older = sessions-length older in
    sym (filter-map p tag_of (channels_of older))
    ∙ ap (filter p) (open-tags older l.0)
    ∙ filter-map p tag_in (open_marks index)
    ∙ ap (map tag_in) (filter-twice (λ mark. not (eqb mark.session session)) (is_open index.sessions) index.openings
    ∙ filter-same _ (is_open (index_of (event.Leave session ∷ older)).sessions)
    (λ mark.
    and-not (not (is_some mark.closed)) (has_left (slice_get index.sessions mark.session)) (eqb mark.session session)
    ∙ ap (λ b. not (is_some mark.closed) && not b) (sym (left-changed (length older) index.sessions session mark.session (omega (arith, here, long)))))
    index.openings) where
      and-not : (a b c : Bool) → (a && not b && not c) ≡ (a && not (b || c))
      and-not true true c = refl
      and-not true false c = refl
      and-not false b c = refl
open-tags (e ∷ older) l = open-tags older l.0

-- places that were reached
pub record IsOpeningWithin (n : ℕ) (mark : OpeningMark) : Type 0 where
  pub opened : mark.at < n
  pub closed : IsReached n mark.closed

opening-later : (n : ℕ) (mark : OpeningMark) → IsOpeningWithin n mark → IsOpeningWithin (suc n) mark
opening-later n mark w = record {
  opened = let h : mark.at < n = w.opened in omega (arith, h);
  closed = reached-more n mark.closed w.closed;
}

pub openings-within : (past : List Event) → AllByRecursion (IsOpeningWithin (length past)) (index_of past).openings
openings-within [] = tt
openings-within (event.Open session kind account class lead ∷ older) =
    all-end (IsOpeningWithin (suc (length older))) (index_of older).openings _
    (all-weaken _ _ (opening-later (length older)) (index_of older).openings (openings-within older)) (record { opened = omega arith; closed = tt })
openings-within (event.Close session channel ∷ older) =
    all-changed (IsOpeningWithin (suc (length older))) _ (λ mark w. record { opened = w.opened; closed = or-within mark.closed w.closed }) (index_of older).openings _
    (all-weaken _ _ (opening-later (length older)) (index_of older).openings (openings-within older)) where
      or-within : (o : Option ℕ) → IsReached (suc (length older)) o → IsReached (suc (length older)) (option_or o (Some (length older)))
      or-within None r = omega arith
      or-within (Some at) r = r
openings-within (e ∷ older) = all-weaken _ _ (opening-later (length older)) (index_of older).openings (openings-within older)

-- at the end of the history
reached-now : (n : ℕ) (o : Option ℕ) → IsReached n o → is_before o n ≡ is_some o
reached-now n None r = refl
reached-now n (Some at) r = lt-ltb at n r

left-now : (past : List Event) (session : ℕ) → has_left_at (length past) (slice_get (index_of past).sessions session) ≡ has_left (slice_get (index_of past).sessions session)
left-now past session = by (slice_get (index_of past).sessions session) refl where
  by : (o : Option SessionMark) → slice_get (index_of past).sessions session ≡ o → has_left_at (length past) o ≡ has_left o
  by None is = refl
  by (Some mark) is =
      reached-now (length past) mark.left (all-get (IsSessionWithin (length past)) (index_of past).sessions session mark (sessions-within past) is).left

listens-now : (n session : ℕ) (sessions : List SessionMark) (mark : OpeningMark) → has_left (slice_get sessions session) ≡ false → IsOpeningWithin n mark
    → listens_at session n mark ≡ (is_open sessions mark && eqb mark.session session)
listens-now n session sessions mark stays w =
    ap (λ b. eqb mark.session session && b && not (is_before mark.closed n)) (lt-ltb mark.at n w.opened)
    ∙ ap (λ b. eqb mark.session session && true && not b) (reached-now n mark.closed w.closed)
    ∙ by (eqb mark.session session) refl where
      none : (b : Bool) → (false && true && b) ≡ (b && false)
      none true = refl
      none false = refl

      swap : (a b : Bool) → (false && true && not a) ≡ (not a && not b && false)
      swap true b = refl
      swap false true = refl
      swap false false = refl

      both : (a : Bool) → (true && true && not a) ≡ (not a && not false && true)
      both true = refl
      both false = refl

      by : (b : Bool) → eqb mark.session session ≡ b
          → (b && true && not (is_some mark.closed)) ≡ (not (is_some mark.closed) && not (has_left (slice_get sessions mark.session)) && b)
      by true same =
          both (is_some mark.closed)
          ∙ ap (λ c. not (is_some mark.closed) && not c && true) (sym (ap (λ s. has_left (slice_get sessions s)) (eqb-true mark.session session same) ∙ stays))
      by false other = swap (is_some mark.closed) (has_left (slice_get sessions mark.session))

left-none : (session : ℕ) (sessions : List SessionMark) (mark : OpeningMark) → has_left (slice_get sessions session) ≡ true
    → (is_open sessions mark && eqb mark.session session) ≡ false
left-none session sessions mark left = by (eqb mark.session session) refl where
  and-false : (a b : Bool) → (a && b && false) ≡ false
  and-false true true = refl
  and-false true false = refl
  and-false false b = refl

  gone : (a : Bool) → (a && false && true) ≡ false
  gone true = refl
  gone false = refl

  by : (b : Bool) → eqb mark.session session ≡ b → (is_open sessions mark && b) ≡ false
  by true same =
      ap (λ c. not (is_some mark.closed) && not c && true) (ap (λ s. has_left (slice_get sessions s)) (eqb-true mark.session session same) ∙ left)
      ∙ gone (not (is_some mark.closed))
  by false other = and-false (not (is_some mark.closed)) (not (has_left (slice_get sessions mark.session)))

pub listeners-now : (past : List Event) (session : ℕ) → LegalPast past
    → listeners_at (index_of past) session (length past) ≡ map listening_of (channels_in (channels_of past) session)
listeners-now past session l =
    by (has_left (slice_get index.sessions session)) refl
    ∙ ap (map (λ mark. mark.listener)) (sym (filter-twice (λ mark. eqb mark.session session) (is_open index.sessions) index.openings))
    ∙ sym (map-twice (λ tag. tag.listener) tag_in (filter (λ mark. eqb mark.session session) (open_marks index)))
    ∙ ap (map (λ tag. tag.listener)) (sym (filter-map (λ tag. eqb tag.session session) tag_in (open_marks index))
    ∙ ap (filter (λ tag. eqb tag.session session)) (sym (open-tags past l))
    ∙ filter-map (λ tag. eqb tag.session session) tag_of (channels_of past))
    ∙ map-twice (λ tag. tag.listener) tag_of (channels_in (channels_of past) session) where
      index : IndexParts
      index = index_of past

      by : (b : Bool) → has_left (slice_get (index_of past).sessions session) ≡ b
          → listeners_at (index_of past) session (length past)
          ≡ map (λ mark. mark.listener) (filter (λ mark. is_open (index_of past).sessions mark && eqb mark.session session) (index_of past).openings)
      by true left =
          ap (λ c. cond c [] (map (λ mark. mark.listener) (filter (listens_at session (length past)) (index_of past).openings))) (left-now past session ∙ left)
          ∙ ap (map (λ mark. mark.listener))
          (sym (filter-same (λ mark. is_open (index_of past).sessions mark && eqb mark.session session) (λ mark. false)
          (λ mark. left-none session (index_of past).sessions mark left) (index_of past).openings ∙ filter-none (index_of past).openings))
      by false stays =
          ap (λ c. cond c [] (map (λ mark. mark.listener) (filter (listens_at session (length past)) (index_of past).openings))) (left-now past session ∙ stays)
          ∙ ap (map (λ mark. mark.listener))
          (filter-agree (listens_at session (length past)) (λ mark. is_open (index_of past).sessions mark && eqb mark.session session) (index_of past).openings
          (all-weaken (IsOpeningWithin (length past)) _ (λ mark w. listens-now (length past) session (index_of past).sessions mark stays w)
          (index_of past).openings (openings-within past)))
