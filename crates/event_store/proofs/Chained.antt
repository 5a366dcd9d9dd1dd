-- The marks of a legal history's openings are chained, session by session.
use Rattle.std.proofs.Common.{◌⊎◌, inl, inr, ◌≡◌, ℕ, zero, suc, ◌+◌, ◌<◌, ◌≤◌, Bool, true, false, Option, None, Some, List, [], ◌∷◌, ◌++◌, length, map, refl, ap, subst, sym, ◌∙◌, arith}
use Rattle.std.proofs.Math.Dec.{eqb}
use Rattle.std.proofs.lemmas.Bool.{eqb-false, eqb-true}
use Rattle.std.specs.Prelude.{slice_get}
use Rattle.std.specs.Option.{option_or}
use Rattle.pool_history.specs.declared.events.Event.{Event}
use Rattle.pool_history.specs.declared.events.Event.TheVariants as event
use Rattle.pool_history.specs.Legal.{LegalPast}
use Rattle.pool_history.specs.Sessions.{enters}
use Rattle.pool_history.proofs.PlacesOfJobs.{map-end}
use Rattle.history_laws.proofs.Entrances.{none-some, some-same}
use Rattle.history_laws.proofs.Living.{length-one}
use Rattle.event_store.specs.declared.marks.SessionMark.{SessionMark}
use Rattle.event_store.specs.Chains.{AreChained, IsLastBefore, Link, MarksAreChained, link_of, reach}
use Rattle.event_store.specs.Index.{IndexParts, changed, index_of, last_opening}
use Rattle.event_store.proofs.Changed.{changed-suc, get-end, map-changed, map-length, read-changed, read-end}
use Rattle.event_store.proofs.Entered.{open-present, present-below, sessions-length}

-- an element before the end of a longer list, and one of a list with one more
pub get-below : {X : Type 0} (xs ys : List X) (k : ℕ) → k < length xs → slice_get (xs ++ ys) k ≡ slice_get xs k
get-below [] ys k less = absurd (omega (arith, less))
get-below (x ∷ xs) ys zero less = refl
get-below (x ∷ xs) ys (suc k) less = get-below xs ys k (omega (arith, less))

get-last : {X : Type 0} (xs : List X) (x y : X) (k : ℕ) → slice_get (xs ++ x ∷ []) k ≡ Some y
    → ((k < length xs) × (slice_get xs k ≡ Some y)) ⊎ ((k ≡ length xs) × (y ≡ x))
get-last [] x y zero is = inr (refl, sym (some-same is))
get-last [] x y (suc k) is = absurd (none-some is)
get-last (z ∷ xs) x y zero is = inl (omega arith, is)
get-last {X = X} (z ∷ xs) x y (suc k) is = by (get-last xs x y k is) where
  by : ((k < length xs) × (slice_get xs k ≡ Some y)) ⊎ ((k ≡ length xs) × (y ≡ x))
      → ((suc k < suc (length xs)) × (slice_get xs k ≡ Some y)) ⊎ ((suc k ≡ suc (length xs)) × (y ≡ x))
  by (inl (less, e)) = inl (omega (arith, less), e)
  by (inr (same, e)) = inr (ap suc same, e)

-- what was changed, and what wasn't
get-changed : {X : Type 0} (f : X → X) (xs : List X) (k t : ℕ) → (t ≡ k → ⊥) → slice_get (changed f xs k) t ≡ slice_get xs t
get-changed f [] k t other = refl
get-changed f (x ∷ xs) zero zero other = absurd (other refl)
get-changed f (x ∷ xs) zero (suc t) other = refl
get-changed f (x ∷ xs) (suc k) zero other = ap (λ l. slice_get l 0) (changed-suc f x xs k)
get-changed f (x ∷ xs) (suc k) (suc t) other =
    ap (λ l. slice_get l (suc t)) (changed-suc f x xs k) ∙ get-changed f xs k t (λ same. other (ap suc same))

last-changed : (n : ℕ) (xs : List SessionMark) (k : ℕ) → k < length xs
    → last_opening (slice_get (changed (λ mark. record mark { last = Some n }) xs k) k) ≡ Some n
last-changed n [] k less = absurd (omega (arith, less))
last-changed n (x ∷ xs) zero less = refl
last-changed n (x ∷ xs) (suc k) less =
    ap (λ l. last_opening (slice_get l (suc k))) (changed-suc _ x xs k) ∙ last-changed n xs k (omega (arith, less))

-- one more link
last-more : (session : ℕ) (links more : List Link) (end : ℕ) (last : Option ℕ) → end ≤ length links → IsLastBefore session links end last
    → IsLastBefore session (links ++ more) end last
last-more session links more end last most b = record {
  within = b.within;
  others = λ at link behind less is same.
      b.others at link behind less (sym (get-below links more at (omega (arith, less, most))) ∙ is) same;
  own = λ at link last_is is.
      let few : reach last ≤ end = b.within in
      let up : reach last ≡ at + 1 = ap reach last_is in
      b.own at link last_is (sym (get-below links more at (omega (arith, few, up, most))) ∙ is);
}

last-other : (session : ℕ) (links : List Link) (link : Link) (last : Option ℕ) → (link.session ≡ session → ⊥) → IsLastBefore session links (length links) last
    → IsLastBefore session (links ++ link ∷ []) (length (links ++ link ∷ [])) last
last-other session links link last other b = record {
  within =
      let one : length (links ++ link ∷ []) ≡ length links + 1 = length-one links link in
      let few : reach last ≤ length links = b.within in
      omega (arith, one, few);
  others = λ at found behind less is same. by at found behind same (get-last links link found at is);
  own = λ at found last_is is.
      let few : reach last ≤ length links = b.within in
      let up : reach last ≡ at + 1 = ap reach last_is in
      b.own at found last_is (sym (get-below links (link ∷ []) at (omega (arith, few, up))) ∙ is);
} where
  by : (at : ℕ) (found : Link) → reach last ≤ at → found.session ≡ session
      → ((at < length links) × (slice_get links at ≡ Some found)) ⊎ ((at ≡ length links) × (found ≡ link)) → ⊥
  by at found behind same (inl (less, is)) = b.others at found behind less is same
  by at found behind same (inr (end, is)) = other (ap (λ l. l.session) (sym is) ∙ same)

last-own : (links : List Link) (link : Link) → IsLastBefore link.session (links ++ link ∷ []) (length (links ++ link ∷ [])) (Some (length links))
last-own links link = record {
  within = let one : length (links ++ link ∷ []) ≡ length links + 1 = length-one links link in omega (arith, one);
  others = λ at found behind less is same.
      let one : length (links ++ link ∷ []) ≡ length links + 1 = length-one links link in
      omega (arith, one, behind, less);
  own = λ at found last_is is.
      let place : length links ≡ at = some-same last_is in
      let here : slice_get (links ++ link ∷ []) at ≡ Some link = ap (slice_get (links ++ link ∷ [])) (sym place) ∙ get-end links link [] in
      ap (λ l. l.session) (some-same (sym is ∙ here));
}

chain-more : (links : List Link) (lasts after : ℕ → Option ℕ) (session : ℕ) → AreChained links lasts → after session ≡ Some (length links)
    → ((other : ℕ) → (other ≡ session → ⊥) → after other ≡ lasts other)
    → AreChained (links ++ record { session = session; before = lasts session } ∷ []) after
chain-more links lasts after session c own others = record {
  openings = λ at link is. by at link (get-last links new link at is);
  sessions = λ t. by_session t (eqb t session) refl;
} where
  new : Link
  new = record { session = session; before = lasts session }

  by : (at : ℕ) (link : Link) → ((at < length links) × (slice_get links at ≡ Some link)) ⊎ ((at ≡ length links) × (link ≡ record { session = session; before = lasts session }))
      → IsLastBefore link.session (links ++ record { session = session; before = lasts session } ∷ []) at link.before
  by at link (inl (less, is)) = last-more link.session links _ at link.before (omega (arith, less)) (c.openings at link is)
  by at link (inr (end, is)) =
      let e : IsLastBefore session (links ++ new ∷ []) (length links) (lasts session) =
      last-more session links (new ∷ []) (length links) (lasts session) (omega arith) (c.sessions session) in
      subst (λ n. IsLastBefore link.session (links ++ new ∷ []) n link.before) (sym end)
      (subst (λ l. IsLastBefore l.session (links ++ new ∷ []) (length links) l.before) (sym is) e)

  by_session : (t : ℕ) (b : Bool) → eqb t session ≡ b
      → IsLastBefore t (links ++ record { session = session; before = lasts session } ∷ []) (length (links ++ record { session = session; before = lasts session } ∷ [])) (after t)
  by_session t true same =
      let is : t ≡ session = eqb-true t session same in
      subst (λ s. IsLastBefore s (links ++ new ∷ []) (length (links ++ new ∷ [])) (after s)) (sym is)
      (subst (IsLastBefore session (links ++ new ∷ []) (length (links ++ new ∷ []))) (sym own) (last-own links new))
  by_session t false other =
      let not_same : t ≡ session → ⊥ = eqb-false t session other in
      subst (IsLastBefore t (links ++ new ∷ []) (length (links ++ new ∷ []))) (sym (others t not_same))
      (last-other t links new (lasts t) (λ e. not_same (sym e)) (c.sessions t))

chain-same : (links : List Link) (lasts after : ℕ → Option ℕ) → ((t : ℕ) → after t ≡ lasts t) → AreChained links lasts → AreChained links after
chain-same links lasts after same c = record {
  openings = c.openings;
  sessions = λ t. subst (IsLastBefore t links (length links)) (sym (same t)) (c.sessions t);
}

pub marks-chained : (past : List Event) → LegalPast past → MarksAreChained (index_of past)
marks-chained [] l = record {
  openings = λ at link is. absurd (none-some is);
  sessions = λ t. record {
    within = omega arith;
    others = λ at link behind less is same. absurd (none-some is);
    own = λ at link last_is is. absurd (none-some is);
  };
}
marks-chained (event.Enter worker role flags ∷ older) l =
    chain-same _ _ _ (λ t. read-end last_opening (index_of older).sessions (record { at = length older; flags = flags; last = None; left = None }) t refl)
    (marks-chained older l.0)
marks-chained (event.Leave session ∷ older) l =
    chain-same _ _ _ (λ t. read-changed last_opening (λ mark. record mark { left = option_or mark.left (Some (length older)) }) (λ mark. refl) (index_of older).sessions session t)
    (marks-chained older l.0)
marks-chained (event.Close session channel ∷ older) l =
    subst (λ links. AreChained links (λ t. last_opening (slice_get (index_of older).sessions t)))
    (sym (map-changed link_of (λ mark. record mark { closed = option_or mark.closed (Some (length older)) }) (λ mark. refl) (index_of older).openings _))
    (marks-chained older l.0)
marks-chained (event.Open session kind account class lead ∷ older) l =
    let index : IndexParts = index_of older in
    let here : session < enters older = present-below older session (open-present older session kind account class lead l.1) in
    let long : length index.sessions ≡ enters older = sessions-length older in
    subst (λ links. AreChained links (λ t. last_opening (slice_get (index_of (event.Open session kind account class lead ∷ older)).sessions t)))
    (sym (map-end link_of index.openings _))
    (chain-more (map link_of index.openings) (λ t. last_opening (slice_get index.sessions t)) _ session (marks-chained older l.0)
    (last-changed (length index.openings) index.sessions session (omega (arith, here, long)) ∙ ap Some (sym (map-length link_of index.openings)))
    (λ other not_same. ap last_opening (get-changed (λ mark. record mark { last = Some (length index.openings) }) index.sessions session other not_same)))
marks-chained (e ∷ older) l = marks-chained older l.0
