-- Leads that are held under their numbers.
use Rattle.std.proofs.Common.{◌⊎◌, inl, inr, ◌≡◌, ℕ, zero, suc, ◌+◌, ◌-◌, ◌<◌, ◌≤◌, Bool, true, false, cond, ◌||◌, Option, None, Some, List, [], ◌∷◌, ◌++◌, length, get_or, map, take, refl, ap, subst, sym, ◌∙◌, arith}
use Rattle.std.proofs.Math.Dec.{eqb}
use Rattle.std.proofs.lemmas.Bool.{cases_lt, lt-ltb, eq-eqb, eqb-true, false≢true, ne_eqb, not-true, or_from, or_parts}
use Rattle.std.proofs.lemmas.List.{get_or_default}
use Rattle.std.proofs.lemmas.List.Quantifiers.{position-Some}
use Rattle.std.proofs.lemmas.List.Sorted.{All-permutation, IsPermutation-map, IsPermutation-swap_remove, IsPermutation-sym, IsPermutation-to_front, list_any-IsPermutation}
use Rattle.std.proofs.lemmas.Map.Keys.{IsDistinct-IsPermutation}
use Rattle.std.proofs.lemmas.Slice.Eq.{bytes_eq-Decides}
use Rattle.std.specs.Prelude.{IsPermutation, is_some, nat_eq, not, position, slice_set}
use Rattle.std.specs.List.{All, AllByRecursion, IsDistinct, list_any, position_or_len, swap_remove}
use Rattle.std.specs.Option.{option_map_or}
use Rattle.std.specs.Str.{bytes_eq}
use Rattle.indexmap.specs.IndexMap.{swap_remove_by}
use Rattle.pool_history.specs.Spaces.{lowest, overlap}
use Rattle.pool_history.proofs.PlacesOfClasses.{all-end}
use Rattle.history_laws.specs.Openings.{AreLeadsApart}
use Rattle.history_laws.proofs.Entrances.{none-some, some-same}
use Rattle.history_laws.proofs.Holding.{overlap-comm}
use Rattle.history_laws.proofs.Lowest.{found-lowest}
use Rattle.prefix_space.specs.declared.nodes.Node.{Node}
use Rattle.prefix_space.specs.HeldLeads.{is_held}
use Rattle.prefix_space.specs.Paths.{IsPrefix, IsShort, lead_key, lead_of, node_key}
use Rattle.prefix_space.specs.Climbs.{AddsWay, FitsUpTo, IsEmptyNode, IsEnd, or_node}
use Rattle.prefix_space.specs.Trees.{FitsTree, Nodes, bit, is_full, is_longer, is_root}
use Rattle.prefix_space.proofs.Climbing.{fits-up, give-start, given-end, held-end, take-start}
use Rattle.prefix_space.proofs.Fullness.{full-none, full-same}
use Rattle.prefix_space.proofs.Keys.{lead-of-key, same-prefix}
use Rattle.prefix_space.proofs.Orders.{none-same}

-- what holds of each holds in another order
all-list : {X : Type 0} (P : X → Type 0) (xs : List X) → AllByRecursion P xs → All P xs
all-list P [] all k d within = absurd (omega (arith, within))
all-list P (x ∷ xs) all zero d within = all.0
all-list P (x ∷ xs) all (suc k) d within = all-list P xs all.1 k d (omega (arith, within))

list-all : {X : Type 0} (P : X → Type 0) (xs : List X) → All P xs → AllByRecursion P xs
list-all P [] all = tt
list-all P (x ∷ xs) all = (all zero x (omega arith), list-all P xs (λ k d within. all (suc k) d (omega (arith, within))))

pub all-permuted : {X : Type 0} (P : X → Type 0) (xs ys : List X) → IsPermutation xs ys → AllByRecursion P xs → AllByRecursion P ys
all-permuted P xs ys moved all = list-all P ys (All-permutation P xs ys moved (all-list P xs all))

distinct-leads : (held : List (List ℕ)) → AreLeadsApart held → IsDistinct overlap held
unfolding IsDistinct
distinct-leads [] apart = tt
distinct-leads (l ∷ held) apart = (apart.0, distinct-leads held apart.1)

leads-distinct : (held : List (List ℕ)) → IsDistinct overlap held → AreLeadsApart held
unfolding IsDistinct
leads-distinct [] apart = tt
leads-distinct (l ∷ held) apart = (apart.0, leads-distinct held apart.1)

pub apart-permuted : (xs ys : List (List ℕ)) → IsPermutation xs ys → AreLeadsApart xs → AreLeadsApart ys
apart-permuted xs ys moved apart =
    leads-distinct ys (IsDistinct-IsPermutation overlap overlap-comm xs ys moved (distinct-leads xs apart))

pub fits-permuted : (xs ys : List (List ℕ)) (nodes : Nodes) → IsPermutation xs ys → FitsTree xs nodes → FitsTree ys nodes
fits-permuted xs ys nodes moved fits = record {
  short = all-permuted IsShort xs ys moved fits.short;
  apart = apart-permuted xs ys moved fits.apart;
  there = λ p prefix. fits.there p prefix ∙ ap (λ e. is_root p || e) (list_any-IsPermutation (is_longer p) xs ys moved);
  bits = λ p node more byte prefix is within below.
      fits.bits p node more byte prefix is within below
      ∙ full-same more (p ++ byte ∷ []) xs ys (λ t. list_any-IsPermutation (overlap ((p ++ byte ∷ []) ++ t)) xs ys moved);
}

-- a lead is held where its number is
key-held : (lead : List ℕ) (key : ℕ) → IsShort lead → key ≡ lead_key (lead_of key) → nat_eq (lead_key lead) key ≡ bytes_eq (lead_of key) lead
key-held lead key short is = by_test (bytes_eq (lead_of key) lead) refl where
  by_test : (b : Bool) → bytes_eq (lead_of key) lead ≡ b → nat_eq (lead_key lead) key ≡ bytes_eq (lead_of key) lead
  by_test true same =
      eq-eqb (lead_key lead) key (ap lead_key (sym ((bytes_eq-Decides (lead_of key) lead).0 same)) ∙ sym is) ∙ sym same
  by_test false other =
      ne_eqb (lead_key lead) key
      (λ same. false≢true (sym other ∙ (bytes_eq-Decides (lead_of key) lead).1 (ap lead_of (sym same) ∙ lead-of-key lead short)))
      ∙ sym other

pub keys-held : (lead : List ℕ) (keys : List ℕ) → IsShort lead → AllByRecursion (λ key. key ≡ lead_key (lead_of key)) keys
    → list_any (nat_eq (lead_key lead)) keys ≡ is_held (map lead_of keys) lead
keys-held lead [] short all = refl
keys-held lead (key ∷ keys) short all =
    ap (λ e. e || list_any (nat_eq (lead_key lead)) keys) (key-held lead key short all.0)
    ∙ ap (λ e. bytes_eq (lead_of key) lead || e) (keys-held lead keys short all.1)

-- the number that is taken out
none-before : (f : ℕ → Bool) (xs : List ℕ) → length xs ≤ position_or_len f xs → list_any f xs ≡ false
none-before f [] over = refl
none-before f (x ∷ xs) over = by_test (f x) refl over (λ h. none-before f xs h) where
  by_test : (b : Bool) → f x ≡ b → suc (length xs) ≤ cond (not b) (1 + position_or_len f xs) 0
      → (length xs ≤ position_or_len f xs → list_any f xs ≡ false) → f x || list_any f xs ≡ false
  by_test true is h rest = absurd (omega (arith, h))
  by_test false is h rest = ap (λ b. b || list_any f xs) is ∙ rest (omega (arith, h))

none-passes : (f : ℕ → Bool) (xs : List ℕ) → position f xs ≡ None → list_any f xs ≡ false
none-passes f xs is = by_place (cases_lt (position_or_len f xs) (length xs)) where
  by_place : (position_or_len f xs < length xs) ⊎ (length xs ≤ position_or_len f xs) → list_any f xs ≡ false
  by_place (inl within) =
      let some : None ≡ Some (position_or_len f xs) = sym is ∙ ap (λ b. cond b (Some (position_or_len f xs)) None) (lt-ltb (position_or_len f xs) (length xs) within) in
      cc
  by_place (inr over) = none-before f xs over

pub swap-out : (f : ℕ → Bool) (xs : List ℕ) → list_any f xs ≡ true → (x : ℕ) × (f x ≡ true) × IsPermutation xs (x ∷ swap_remove_by f xs)
swap-out f [] any = absurd (false≢true any)
swap-out f (x ∷ xs) any = by_place (position f (x ∷ xs)) refl where
  by_place : (o : Option ℕ) → position f (x ∷ xs) ≡ o → (y : ℕ) × (f y ≡ true) × IsPermutation (x ∷ xs) (y ∷ swap_remove_by f (x ∷ xs))
  by_place None is = absurd (false≢true (sym (none-passes f (x ∷ xs) is) ∙ any))
  by_place (Some i) is =
      let found : (i < length (x ∷ xs)) × (f (get_or (x ∷ xs) i x) ≡ true) × ((k : ℕ) → k < i → f (get_or (x ∷ xs) k x) ≡ false) = position-Some f (x ∷ xs) i x is in
      let y : ℕ = get_or (x ∷ xs) i x in
      let left : swap_remove (x ∷ xs) i (get_or (x ∷ xs) i x) ≡ swap_remove_by f (x ∷ xs) =
      ap (λ d. take (length (x ∷ xs) - 1) (slice_set (x ∷ xs) i d)) (get_or_default (x ∷ xs) (length (x ∷ xs) - 1) (get_or (x ∷ xs) i x) x (omega arith))
      ∙ ap (λ o. option_map_or (λ k. swap_remove (x ∷ xs) k x) o (x ∷ xs)) (sym is) in (
        get_or (x ∷ xs) i x,
        found.1,
        subst (λ l. IsPermutation (x ∷ xs) (get_or (x ∷ xs) i x ∷ l)) left
            (IsPermutation-swap_remove (x ∷ xs) i (get_or (x ∷ xs) i x) found.0 (get_or_default (x ∷ xs) i x (get_or (x ∷ xs) i x) found.0)),
      )

pub key-out : (lead : List ℕ) (keys : List ℕ) → IsShort lead → AllByRecursion (λ key. key ≡ lead_key (lead_of key)) keys
    → is_held (map lead_of keys) lead ≡ true → IsPermutation keys (lead_key lead ∷ swap_remove_by (nat_eq (lead_key lead)) keys)
key-out lead keys short all held =
    let out : (x : ℕ) × (nat_eq (lead_key lead) x ≡ true) × IsPermutation keys (x ∷ swap_remove_by (nat_eq (lead_key lead)) keys) =
    swap-out (nat_eq (lead_key lead)) keys (keys-held lead keys short all ∙ held) in
    subst (λ x. IsPermutation keys (x ∷ swap_remove_by (nat_eq (lead_key lead)) keys)) (sym (eqb-true (lead_key lead) out.0 out.1)) out.2

-- what is left once a lead is taken out
pub record IsOut (lead : List ℕ) (keys rest : List ℕ) : Type 0 where
  pub keys_moved : IsPermutation keys (lead_key lead ∷ rest)
  pub leads_moved : IsPermutation (map lead_of keys) (lead ∷ map lead_of rest)
  pub numbers : AllByRecursion (λ key. key ≡ lead_key (lead_of key)) rest
  pub short : AllByRecursion IsShort (map lead_of rest)
  pub apart : AreLeadsApart (lead ∷ map lead_of rest)

pub is-out : (lead : List ℕ) (keys : List ℕ) (nodes : Nodes) → IsShort lead → AllByRecursion (λ key. key ≡ lead_key (lead_of key)) keys
    → FitsTree (map lead_of keys) nodes → is_held (map lead_of keys) lead ≡ true → IsOut lead keys (swap_remove_by (nat_eq (lead_key lead)) keys)
is-out lead keys nodes short all fits held =
    let rest : List ℕ = swap_remove_by (nat_eq (lead_key lead)) keys in
    let moved : IsPermutation keys (lead_key lead ∷ swap_remove_by (nat_eq (lead_key lead)) keys) = key-out lead keys short all held in
    let leads : IsPermutation (map lead_of keys) (lead ∷ map lead_of (swap_remove_by (nat_eq (lead_key lead)) keys)) =
    subst (λ l. IsPermutation (map lead_of keys) (l ∷ map lead_of (swap_remove_by (nat_eq (lead_key lead)) keys))) (lead-of-key lead short)
    (IsPermutation-map lead_of keys (lead_key lead ∷ swap_remove_by (nat_eq (lead_key lead)) keys) moved) in
    record {
      keys_moved = moved;
      leads_moved = leads;
      numbers = (all-permuted (λ key. key ≡ lead_key (lead_of key)) keys (lead_key lead ∷ swap_remove_by (nat_eq (lead_key lead)) keys) moved all).1;
      short = (all-permuted IsShort (map lead_of keys) (lead ∷ map lead_of (swap_remove_by (nat_eq (lead_key lead)) keys)) leads fits.short).1;
      apart = apart-permuted (map lead_of keys) (lead ∷ map lead_of (swap_remove_by (nat_eq (lead_key lead)) keys)) leads fits.apart;
    }

none-overlap : (lead : List ℕ) (held : List (List ℕ)) → AllByRecursion (λ other. overlap lead other ≡ false) held → list_any (overlap lead) held ≡ false
none-overlap lead [] all = refl
none-overlap lead (l ∷ held) all = or_from (overlap lead l) (list_any (overlap lead) held) all.0 (none-overlap lead held all.1)

overlap-none : (lead : List ℕ) (held : List (List ℕ)) → list_any (overlap lead) held ≡ false → AllByRecursion (λ other. overlap lead other ≡ false) held
overlap-none lead [] none = tt
overlap-none lead (l ∷ held) none =
    let parts : (overlap lead l ≡ false) × (list_any (overlap lead) held ≡ false) = or_parts (overlap lead l) (list_any (overlap lead) held) none in
    (parts.0, overlap-none lead held parts.1)

-- the tree fits what is left
pub fits-out : (lead : List ℕ) (keys rest : List ℕ) (nodes new : Nodes) → IsShort lead → FitsTree (map lead_of keys) nodes → IsOut lead keys rest
    → ((held : List (List ℕ)) → IsEnd lead false held → FitsUpTo lead (length lead) held nodes → FitsUpTo lead 0 held new) → FitsTree (map lead_of rest) new
fits-out lead keys rest nodes new short fits out climbs =
    let free : list_any (overlap lead) (map lead_of rest) ≡ false = none-overlap lead (map lead_of rest) out.apart.0 in
    fits-up lead (map lead_of rest) new out.short out.apart.1
    (climbs (map lead_of rest) (given-end (map lead_of rest) lead out.short short free)
    (give-start (map lead_of keys) (map lead_of rest) nodes lead fits short
    (λ f. list_any-IsPermutation f (map lead_of keys) (lead ∷ map lead_of rest) out.leads_moved) free))

-- and one lead more
pub fits-in : (lead : List ℕ) (held : List (List ℕ)) (nodes made new : Nodes) → IsShort lead → FitsTree held nodes → list_any (overlap lead) held ≡ false
    → AddsWay lead (length lead) nodes made
    → ((held : List (List ℕ)) → IsEnd lead true held → FitsUpTo lead (length lead) held made → FitsUpTo lead 0 held new) → FitsTree (held ++ lead ∷ []) new
fits-in lead held nodes made new short fits free adds climbs =
    fits-permuted (lead ∷ held) (held ++ lead ∷ []) new (IsPermutation-sym (held ++ lead ∷ []) (lead ∷ held) (IsPermutation-to_front held lead))
    (fits-up lead (lead ∷ held) new (short, fits.short) (overlap-none lead held free, fits.apart)
    (climbs (lead ∷ held) (held-end held lead fits.short short free) (take-start held nodes made lead fits short free adds)))

-- a lead that is found overlaps none, and isn't held
pub found-free : (len : ℕ) (held : List (List ℕ)) (lead : List ℕ) → lowest len held ≡ Some lead → list_any (overlap lead) held ≡ false
found-free len held lead is = not-true (list_any (overlap lead) held) (found-lowest len held lead is).free

pub found-long : (len : ℕ) (held : List (List ℕ)) (lead : List ℕ) → lowest len held ≡ Some lead → length lead ≡ len
found-long len held lead is = (found-lowest len held lead is).is_string.long

pub free-new : (lead : List ℕ) (keys : List ℕ) → IsShort lead → AllByRecursion (λ key. key ≡ lead_key (lead_of key)) keys
    → list_any (overlap lead) (map lead_of keys) ≡ false → list_any (nat_eq (lead_key lead)) keys ≡ false
free-new lead keys short all free =
    keys-held lead keys short all ∙ none-same lead (map lead_of keys) (overlap-none lead (map lead_of keys) free)

-- the leads and numbers with one more
pub leads-end : (keys : List ℕ) (lead : List ℕ) → IsShort lead → map lead_of (keys ++ lead_key lead ∷ []) ≡ map lead_of keys ++ lead ∷ []
leads-end [] lead short = ap (λ l. l ∷ []) (lead-of-key lead short)
leads-end (key ∷ keys) lead short = ap (λ ls. lead_of key ∷ ls) (leads-end keys lead short)

pub numbers-end : (keys : List ℕ) (lead : List ℕ) → IsShort lead → AllByRecursion (λ key. key ≡ lead_key (lead_of key)) keys
    → AllByRecursion (λ key. key ≡ lead_key (lead_of key)) (keys ++ lead_key lead ∷ [])
numbers-end keys lead short all =
    all-end (λ key. key ≡ lead_key (lead_of key)) keys (lead_key lead) all (ap lead_key (sym (lead-of-key lead short)))

-- the root alone fits where nothing is held
pub fits-root : (old new : Nodes) (empty : Node) → ((p : List ℕ) → old p ≡ None) → IsEmptyNode empty
    → ((p : List ℕ) → new p ≡ cond (nat_eq (node_key []) (node_key p)) (or_node empty (old p)) (old p)) → FitsTree [] new
fits-root old new empty none is_empty puts = record { short = tt; apart = tt; there = there; bits = bits } where
  root : IsPrefix []
  root = record { most = omega arith; each = tt }

  new_root : new [] ≡ Some empty
  new_root =
      puts [] ∙ ap (λ b. cond b (or_node empty (old [])) (old [])) (eq-eqb (node_key []) (node_key []) refl) ∙ ap (or_node empty) (none [])

  new_other : (x : ℕ) (p : List ℕ) → IsPrefix (x ∷ p) → new (x ∷ p) ≡ None
  new_other x p prefix =
      puts (x ∷ p)
      ∙ ap (λ b. cond b (or_node empty (old (x ∷ p))) (old (x ∷ p)))
      (ne_eqb (node_key []) (node_key (x ∷ p)) (λ same. let long : 0 ≡ length (x ∷ p) = ap length (same-prefix [] (x ∷ p) root prefix same) in omega (arith, long)))
      ∙ none (x ∷ p)

  there : (p : List ℕ) → IsPrefix p → is_some (new p) ≡ is_root p || list_any (is_longer p) []
  there [] prefix = ap is_some new_root
  there (x ∷ p) prefix = ap is_some (new_other x p prefix)

  bits : (p : List ℕ) (node : Node) (more byte : ℕ) → IsPrefix p → new p ≡ Some node → length p + more < 4 → byte < 256
      → bit node (length p + more) byte ≡ is_full more (p ++ byte ∷ []) []
  bits [] node more byte prefix is within below =
      let same : node ≡ empty = some-same (sym is ∙ new_root) in
      ap (λ n. bit n (0 + more) byte) same ∙ is_empty (0 + more) byte within below ∙ sym (full-none more (byte ∷ []) [] refl)
  bits (x ∷ p) node more byte prefix is within below = absurd (none-some (sym (new_other x p prefix) ∙ is))
