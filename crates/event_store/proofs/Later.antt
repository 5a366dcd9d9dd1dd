-- What is kept says of a place the same, however many events come later.
use Rattle.std.proofs.Common.{◌≡◌, ℕ, ◌+◌, ◌≤◌, Bool, true, false, cond, ◌&&◌, not, Option, None, Some, List, [], ◌∷◌, ◌++◌, length, map, refl, ap, sym, ◌∙◌, arith, length-append, append_assoc}
use Rattle.std.proofs.lemmas.Bool.{le-ltb}
use Rattle.std.proofs.lemmas.List.{append-nil, map-append}
use Rattle.std.specs.Prelude.{nat_eq, nat_lt, slice_get}
use Rattle.std.specs.Int.{bit_at}
use Rattle.std.specs.Option.{option_or}
use Rattle.pool_history.specs.declared.events.Event.{Event}
use Rattle.pool_history.specs.declared.events.Event.TheVariants as event
use Rattle.pool_history.specs.News.{Audience, audience_of}
use Rattle.pool_history.proofs.PlacesOfJobs.{filter-dropped}
use Rattle.event_store.specs.declared.marks.FutureMark.{FutureMark}
use Rattle.event_store.specs.declared.marks.OpeningMark.{OpeningMark}
use Rattle.event_store.specs.Index.{IndexParts, index_after, index_of, details_of, detail_after}
use Rattle.event_store.specs.Blocks.{is_block_event}
use Rattle.event_store.specs.Told.{audience_at, channel_by, flags_at, has_left_at, is_before, listeners_in, listens_at}
use Rattle.event_store.specs.Listening.{Listening}
use Rattle.event_store.proofs.Changed.{filter-changed, map-changed, read-changed, read-end, get-end, get-front}

-- a place that was reached later wasn't reached before
pub reached-later : (before : Option ℕ) (n place : ℕ) → place ≤ n → is_before (option_or before (Some n)) place ≡ is_before before place
reached-later None n place most = le-ltb n place most
reached-later (Some p) n place most = refl

-- the channels of a session
listeners-step : (e : Event) (n session place : ℕ) (index : IndexParts) → place ≤ n
    → listeners_in (index_after n e index).openings session place ≡ listeners_in index.openings session place
listeners-step (event.Open opening kind account class lead) n session place index most =
    ap (λ l. map (λ mark. mark.listener) l)
    (filter-dropped (listens_at session place) index.openings _
    (ap (λ b. nat_eq opening session && b && not false) (le-ltb n place most) ∙ and-not (nat_eq opening session))) where
      and-not : (b : Bool) → (b && false && true) ≡ false
      and-not true = refl
      and-not false = refl
listeners-step (event.Close closing channel) n session place index most =
    filter-changed (listens_at session place) (λ mark. mark.listener) _
    (λ mark. ap (λ b. nat_eq mark.session session && nat_lt mark.at place && not b) (reached-later mark.closed n place most))
    (λ mark. refl) index.openings _
listeners-step e n session place index most = refl

-- its flags
flags-step : (e : Event) (n session place : ℕ) (index : IndexParts) → place ≤ n
    → flags_at place (slice_get (index_after n e index).sessions session) ≡ flags_at place (slice_get index.sessions session)
flags-step (event.Enter worker role flags) n session place index most =
    read-end (flags_at place) index.sessions _ session (ap (λ b. cond b flags 0) (le-ltb n place most))
flags-step (event.Open opening kind account class lead) n session place index most =
    read-changed (flags_at place) _ (λ mark. refl) index.sessions opening session
flags-step (event.Leave leaving) n session place index most =
    read-changed (flags_at place) _ (λ mark. refl) index.sessions leaving session
flags-step e n session place index most = refl

-- whether it left
left-step : (e : Event) (n session place : ℕ) (index : IndexParts) → place ≤ n
    → has_left_at place (slice_get (index_after n e index).sessions session) ≡ has_left_at place (slice_get index.sessions session)
left-step (event.Enter worker role flags) n session place index most =
    read-end (has_left_at place) index.sessions _ session refl
left-step (event.Open opening kind account class lead) n session place index most =
    read-changed (has_left_at place) _ (λ mark. refl) index.sessions opening session
left-step (event.Leave leaving) n session place index most =
    read-changed (has_left_at place) _ (λ mark. reached-later mark.left n place most) index.sessions leaving session
left-step e n session place index most = refl

-- and so whom it is told for
audience_with : ℕ → ℕ → Bool → List Listening → List Audience
audience_with session flags left listeners =
    audience_of session (nat_eq (bit_at flags 0) 1) (map channel_by (cond left [] listeners))

audience-step : (e : Event) (n session place : ℕ) (index : IndexParts) → place ≤ n
    → audience_at (index_after n e index) session place ≡ audience_at index session place
unfolding audience_with
audience-step e n session place index most =
    ap (λ f. audience_with session f (has_left_at place (slice_get (index_after n e index).sessions session)) (listeners_in (index_after n e index).openings session place))
    (flags-step e n session place index most)
    ∙ ap (λ l. audience_with session (flags_at place (slice_get index.sessions session)) l (listeners_in (index_after n e index).openings session place))
    (left-step e n session place index most)
    ∙ ap (λ l. audience_with session (flags_at place (slice_get index.sessions session)) (has_left_at place (slice_get index.sessions session)) l)
    (listeners-step e n session place index most)

pub audience-later : (later older : List Event) (session : ℕ)
    → audience_at (index_of (later ++ older)) session (length older) ≡ audience_at (index_of older) session (length older)
audience-later [] older session = refl
audience-later (e ∷ later) older session =
    let long : length (later ++ older) ≡ length later + length older = length-append later older in
    audience-step e (length (later ++ older)) session (length older) (index_of (later ++ older)) (omega (arith, long))
    ∙ audience-later later older session

-- a list has another as its front
pub record IsFront {X : Type 0} (xs ys : List X) : Type 0 where
  pub more : List X
  pub joined : ys ≡ xs ++ more

front-same : {X : Type 0} (xs : List X) → IsFront xs xs
front-same xs = record { more = []; joined = sym (append-nil xs) }

front-end : {X : Type 0} (xs : List X) (x : X) → IsFront xs (xs ++ x ∷ [])
front-end xs x = record { more = x ∷ []; joined = refl }

front-both : {X : Type 0} (xs ys zs : List X) → IsFront xs ys → IsFront ys zs → IsFront xs zs
front-both xs ys zs f g = record {
  more = f.more ++ g.more;
  joined = g.joined ∙ ap (λ l. l ++ g.more) f.joined ∙ append_assoc xs f.more g.more;
}

pub front-get : {X : Type 0} (xs ys : List X) (k : ℕ) (x : X) → IsFront xs ys → slice_get xs k ≡ Some x → slice_get ys k ≡ Some x
front-get xs ys k x f is = ap (λ l. slice_get l k) f.joined ∙ get-front xs f.more k x is

-- a mark of an opening without what a later event changes
abbrev pub unclosed : OpeningMark → OpeningMark
unclosed mark = record mark { closed = None }

-- the lists of marks grow at their ends
pub record GrowsTo (old new : IndexParts) : Type 0 where
  pub jobs : IsFront old.jobs new.jobs
  pub futures : IsFront old.futures new.futures
  pub openings : IsFront (map unclosed old.openings) (map unclosed new.openings)

grows-same : (index : IndexParts) → GrowsTo index index
grows-same index = record {
  jobs = front-same index.jobs;
  futures = front-same index.futures;
  openings = front-same (map unclosed index.openings);
}

came-futures : (future : Bool) (xs : List FutureMark) (x : FutureMark) → IsFront xs (cond future (xs ++ x ∷ []) xs)
came-futures true xs x = front-end xs x
came-futures false xs x = front-same xs

pub grows-step : (e : Event) (n : ℕ) (index : IndexParts) → GrowsTo index (index_after n e index)
grows-step (event.Template feed template) n index = record {
  jobs = front-end index.jobs _;
  futures = came-futures template.future_template index.futures _;
  openings = front-same (map unclosed index.openings);
}
grows-step (event.Custom session custom) n index = record {
  jobs = front-end index.jobs (record { number = length index.jobs + 1; at = n; min_ntime = None });
  futures = front-same index.futures;
  openings = front-same (map unclosed index.openings);
}
grows-step (event.Open session kind account class lead) n index = record {
  jobs = front-same index.jobs;
  futures = front-same index.futures;
  openings = record { more = _; joined = map-append unclosed index.openings (_ ∷ []) };
}
grows-step (event.Close session channel) n index = record {
  jobs = front-same index.jobs;
  futures = front-same index.futures;
  openings = record { more = []; joined = map-changed unclosed _ (λ mark. refl) index.openings _ ∙ sym (append-nil (map unclosed index.openings)) };
}
grows-step (event.Start rules) n index = grows-same index
grows-step (event.Enter worker role flags) n index = record {
  jobs = front-same index.jobs;
  futures = front-same index.futures;
  openings = front-same (map unclosed index.openings);
}
grows-step (event.Tip session tip) n index = record {
  jobs = front-same index.jobs;
  futures = front-same index.futures;
  openings = front-same (map unclosed index.openings);
}
grows-step (event.Leave session) n index = record {
  jobs = front-same index.jobs;
  futures = front-same index.futures;
  openings = front-same (map unclosed index.openings);
}
grows-step e n index = grows-same index

pub grows-later : (later older : List Event) → GrowsTo (index_of older) (index_of (later ++ older))
grows-later [] older = grows-same (index_of older)
grows-later (e ∷ later) older =
    let small : IndexParts = index_of older in
    let middle : IndexParts = index_of (later ++ older) in
    let big : IndexParts = index_after (length (later ++ older)) e middle in
    let a : GrowsTo small middle = grows-later later older in
    let b : GrowsTo middle big = grows-step e (length (later ++ older)) middle in
    record {
      jobs = front-both small.jobs middle.jobs big.jobs a.jobs b.jobs;
      futures = front-both small.futures middle.futures big.futures a.futures b.futures;
      openings = front-both (map unclosed small.openings) (map unclosed middle.openings) (map unclosed big.openings) a.openings b.openings;
    }

-- the detail of an event
pub details-length : (past : List Event) → length (details_of past) ≡ length past
details-length [] = refl
details-length (e ∷ older) =
    let long : length (details_of (e ∷ older)) ≡ length (details_of older) + 1 = length-append (details_of older) (_ ∷ []) in
    let rest : length (details_of older) ≡ length older = details-length older in
    omega (arith, long, rest)

details-grow : (later older : List Event) → IsFront (details_of older) (details_of (later ++ older))
details-grow [] older = front-same (details_of older)
details-grow (e ∷ later) older =
    front-both (details_of older) (details_of (later ++ older)) (details_of (e ∷ later ++ older)) (details-grow later older) (front-end (details_of (later ++ older)) _)

pub detail-at : (later : List Event) (e : Event) (older : List Event)
    → slice_get (details_of (later ++ e ∷ older)) (length older)
    ≡ Some (detail_after (is_block_event older e) e (index_of older) (index_of (e ∷ older)))
detail-at later e older =
    front-get (details_of (e ∷ older)) (details_of (later ++ e ∷ older)) (length older) _ (details-grow later (e ∷ older))
    (ap (λ n. slice_get (details_of (e ∷ older)) n) (sym (details-length older)) ∙ get-end (details_of older) _ [])
