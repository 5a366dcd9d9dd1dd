-- The leads that open channels hold.
use Rattle.std.proofs.Common.{◌⊎◌, inl, inr, ◌≡◌, ℕ, zero, suc, ◌+◌, ◌^◌, Bool, true, false, cond, ◌&&◌, ◌||◌, not, Option, None, Some, List, [], ◌∷◌, ◌++◌, length, map, take, refl, ap, subst, sym, ◌∙◌, append_assoc}
use Rattle.std.proofs.Math.Dec.{eqb}
use Rattle.std.proofs.lemmas.Bool.{and_parts, cond_both, eq-eqb, eqb-true, false≢true, ne_eqb, not-true, or_left, or_parts, or_right}
use Rattle.std.proofs.lemmas.List.{append-nil}
use Rattle.std.proofs.lemmas.Slice.Eq.{bytes_eq-Decides}
use Rattle.std.specs.Prelude.{filter, find, nat_eq, replicate}
use Rattle.std.specs.List.{AllByRecursion, list_any, starts_with}
use Rattle.std.specs.Str.{bytes_eq}
use Rattle.pool_history.specs.declared.events.Event.{Event}
use Rattle.pool_history.specs.declared.events.Event.TheVariants as event
use Rattle.pool_history.specs.declared.events.Kind.{Kind}
use Rattle.pool_history.specs.declared.events.Kind.TheVariants as kind
use Rattle.pool_history.specs.declared.settings.Rules.{Rules}
use Rattle.pool_history.specs.Channels.{OpenChannel, account_or, channel_in, channel_moves, channels_of, with_name, opened, with_class}
use Rattle.pool_history.specs.Headers.{extranonce_prefix}
use Rattle.pool_history.specs.Legal.{LegalPast, is_just, is_lead_length, is_next_lead}
use Rattle.pool_history.specs.Refusing.{held_leads}
use Rattle.pool_history.specs.Sessions.{past_of}
use Rattle.pool_history.specs.Spaces.{InSpace, first_free, is_free, lowest, overlap, string_at}
use Rattle.pool_history.proofs.PlacesOfClasses.{all-end, all-filter, all-map, all-weaken}
use Rattle.history_laws.specs.Apart.{AreApart, AreDisjoint, SpacesAreDisjoint}
use Rattle.history_laws.proofs.Causes.{IsOpening, legal_opening}
use Rattle.history_laws.proofs.Entrances.{none-some, some-same}
use Rattle.history_laws.proofs.Legalities.{prefixes_legal}

-- what holds of each element holds of one that is found
pub all-find : {X : Type 0} (P : X → Type 0) (p : X → Bool) (xs : List X) (x : X) → AllByRecursion P xs → find p xs ≡ Some x → P x
all-find P p [] x a is = absurd (none-some is)
all-find P p (y ∷ xs) x a is =
    cond_both (p y) (Some y) (find p xs) (λ o. o ≡ Some x → P x) (λ t found. subst P (some-same found) a.0) (λ f found. all-find P p xs x a.1 found) is

-- bytes equal themselves
pub bytes_eq-self : (xs : List ℕ) → bytes_eq xs xs ≡ true
bytes_eq-self xs = (bytes_eq-Decides xs xs).1 refl

-- two leads overlap either way
pub or-comm : (a b : Bool) → a || b ≡ b || a
or-comm true true = refl
or-comm true false = refl
or-comm false true = refl
or-comm false false = refl

pub overlap-comm : (a b : List ℕ) → overlap a b ≡ overlap b a
overlap-comm a b = or-comm (starts_with nat_eq a b) (starts_with nat_eq b a)

-- a lead that stands first of a string begins it
pub begins-itself : (a r : List ℕ) → starts_with nat_eq (a ++ r) a ≡ true
begins-itself a r = ap (λ t. bytes_eq a t) (take-front a r) ∙ bytes_eq-self a where
  take-front : (a r : List ℕ) → take (length a) (a ++ r) ≡ a
  take-front [] r = refl
  take-front (x ∷ a) r = ap (λ t. x ∷ t) (take-front a r)

-- two fronts of one string overlap
pub fronts-overlap : (a b r s : List ℕ) → a ++ r ≡ b ++ s → overlap a b ≡ true
fronts-overlap a b r s same = by_length a b r s same where
  shorter : (a b r s : List ℕ) → a ++ r ≡ b ++ s → (starts_with nat_eq b a ≡ true) ⊎ (starts_with nat_eq a b ≡ true)
  shorter [] b r s same = inl refl
  shorter (x ∷ a) [] r s same = inr refl
  shorter (x ∷ a) (y ∷ b) r s same =
      both (shorter a b r s (cc)) where
        heads : x ≡ y
        heads = cc

        both : (starts_with nat_eq b a ≡ true) ⊎ (starts_with nat_eq a b ≡ true)
            → (starts_with nat_eq (y ∷ b) (x ∷ a) ≡ true) ⊎ (starts_with nat_eq (x ∷ a) (y ∷ b) ≡ true)
        both (inl t) = inl (ap (λ e. e && starts_with nat_eq b a) (eq-eqb x y heads) ∙ t)
        both (inr t) = inr (ap (λ e. e && starts_with nat_eq a b) (eq-eqb y x (sym heads)) ∙ t)

  by_length : (a b r s : List ℕ) → a ++ r ≡ b ++ s → overlap a b ≡ true
  by_length a b r s same = joined (shorter a b r s same) where
    joined : (starts_with nat_eq b a ≡ true) ⊎ (starts_with nat_eq a b ≡ true) → overlap a b ≡ true
    joined (inl t) = or_right (starts_with nat_eq a b) (starts_with nat_eq b a) t
    joined (inr t) = or_left (starts_with nat_eq a b) (starts_with nat_eq b a) t

-- a channel's extranonces begin with its lead
pub prefix-lead : (k : Kind) (lead : List ℕ) → (rest : List ℕ) × (extranonce_prefix k lead ≡ lead ++ rest)
prefix-lead kind.Standard lead = (replicate 8 0, refl)
prefix-lead kind.Extended lead = ([], sym (append-nil lead))
prefix-lead kind.V1 lead = ([], sym (append-nil lead))

pub space-lead : (k : Kind) (lead x : List ℕ) → InSpace k lead x → (rest : List ℕ) × (x ≡ lead ++ rest)
space-lead k lead x s =
    let p : (rest : List ℕ) × (extranonce_prefix k lead ≡ lead ++ rest) = prefix-lead k lead in
    (p.0 ++ s.rest, s.begins ∙ ap (λ front. front ++ s.rest) p.1 ∙ append_assoc lead p.0 s.rest)

-- channels whose leads don't overlap have disjoint spaces
pub apart-disjoint : (a b : OpenChannel) → overlap a.lead b.lead ≡ false → AreDisjoint a b
apart-disjoint a b apart x in-a in-b =
    let p : (rest : List ℕ) × (x ≡ a.lead ++ rest) = space-lead a.kind a.lead x in-a in
    let q : (rest : List ℕ) × (x ≡ b.lead ++ rest) = space-lead b.kind b.lead x in-b in
    false≢true (sym apart ∙ fronts-overlap a.lead b.lead p.0 q.0 (sym p.1 ∙ q.1))

-- a relation holds between each element and each later one
abbrev pub Pairwise : {X : Type 0} → (X → X → Type 0) → List X → Type 0
Pairwise R [] = Unit {0}
Pairwise R (x ∷ xs) = AllByRecursion (R x) xs × Pairwise R xs

pub pairwise-end : {X : Type 0} (R : X → X → Type 0) (xs : List X) (new : X) → AllByRecursion (λ x. R x new) xs → Pairwise R xs → Pairwise R (xs ++ new ∷ [])
pairwise-end R [] new f a = (tt, tt)
pairwise-end R (x ∷ xs) new f a = (all-end (R x) xs new a.0 f.0, pairwise-end R xs new f.1 a.1)

pub pairwise-map : {X : Type 0} (R : X → X → Type 0) (f : X → X) → ((x y : X) → R x y → R (f x) (f y)) → (xs : List X) → Pairwise R xs → Pairwise R (map f xs)
pairwise-map R f kept [] a = tt
pairwise-map R f kept (x ∷ xs) a = (all-map (R x) (R (f x)) f (kept x) xs a.0, pairwise-map R f kept xs a.1)

pub pairwise-filter : {X : Type 0} (R : X → X → Type 0) (p : X → Bool) (xs : List X) → Pairwise R xs → Pairwise R (filter p xs)
pairwise-filter R p [] a = tt
pairwise-filter R p (x ∷ xs) a =
    cond_both (p x) (x ∷ filter p xs) (filter p xs) (Pairwise R) (λ t. (all-filter (R x) p xs a.0, pairwise-filter R p xs a.1)) (λ f. pairwise-filter R p xs a.1)

-- the leads of two channels don't overlap
abbrev pub IsApart : OpenChannel → OpenChannel → Type 0
IsApart c d = overlap c.lead d.lead ≡ false

-- no lead of the channels overlaps a later one
abbrev pub Apart : List OpenChannel → Type 0
Apart cs = Pairwise IsApart cs

pub apart-kept : (f : OpenChannel → OpenChannel) → ((c : OpenChannel) → (f c).lead ≡ c.lead) → (c d : OpenChannel) → IsApart c d → IsApart (f c) (f d)
apart-kept f kept c d h = ap (λ l. overlap l (f d).lead) (kept c) ∙ ap (λ l. overlap c.lead l) (kept d) ∙ h

-- a name and a class leave the lead
pub named-lead : (id : ℕ) (account : List ℕ) (c : OpenChannel) → (with_name id account c).lead ≡ c.lead
named-lead id account c =
    cond_both (eqb c.id id) (record c { account = account_or c.account account }) c (λ d. d.lead ≡ c.lead) (λ t. refl) (λ f. refl)

pub reclassed-lead : (at id class : ℕ) (c : OpenChannel) → (with_class at id class c).lead ≡ c.lead
reclassed-lead at id class c =
    cond_both (eqb c.id id) (record c { sets = record { at = at; class = class } ∷ c.sets }) c (λ d. d.lead ≡ c.lead) (λ t. refl) (λ f. refl)

-- a lead that was found is free, and has its length
pub first_free-free : (len : ℕ) (held : List (List ℕ)) (place more : ℕ) (l : List ℕ) → first_free len held place more ≡ Some l → is_free held l ≡ true
unfolding first_free
first_free-free len held place zero l is = absurd (none-some is)
first_free-free len held place (suc more) l is =
    by_test (is_free held (string_at len place)) refl is (λ found. first_free-free len held (suc place) more l found) where
      by_test : (b : Bool) → is_free held (string_at len place) ≡ b
          → elim b as (λ c. Option (List ℕ)) [ true ↦ Some (string_at len place) | false ↦ first_free len held (suc place) more ] ≡ Some l
          → (first_free len held (suc place) more ≡ Some l → is_free held l ≡ true) → is_free held l ≡ true
      by_test true free found later = subst (λ s. is_free held s ≡ true) (some-same found) free
      by_test false taken found later = later found

pub length-string_at : (len place : ℕ) → length (string_at len place) ≡ len
length-string_at zero place = refl
length-string_at (suc len) place = ap suc (length-string_at len place)

pub first_free-length : (len : ℕ) (held : List (List ℕ)) (place more : ℕ) (l : List ℕ) → first_free len held place more ≡ Some l → length l ≡ len
unfolding first_free
first_free-length len held place zero l is = absurd (none-some is)
first_free-length len held place (suc more) l is =
    by_test (is_free held (string_at len place)) is (λ found. first_free-length len held (suc place) more l found) where
      by_test : (b : Bool)
          → elim b as (λ c. Option (List ℕ)) [ true ↦ Some (string_at len place) | false ↦ first_free len held (suc place) more ] ≡ Some l
          → (first_free len held (suc place) more ≡ Some l → length l ≡ len) → length l ≡ len
      by_test true found later = ap length (sym (some-same found)) ∙ length-string_at len place
      by_test false found later = later found

-- a lead that has to be the next one is the lowest that is free
pub just-some : (bytes : List ℕ) (o : Option (List ℕ)) → is_just bytes o ≡ true → o ≡ Some bytes
just-some bytes None h = absurd (false≢true h)
just-some bytes (Some others) h = ap (λ l. Some l) (sym ((bytes_eq-Decides bytes others).0 h))

pub next-free : (past : List Event) (k : Kind) (lead : List ℕ) → is_next_lead past k lead ≡ true → is_free (held_leads past) lead ≡ true
next-free past k lead h =
    let parts : (is_lead_length k (length lead) ≡ true) × (is_just lead (lowest (length lead) (held_leads past)) ≡ true) =
    and_parts (is_lead_length k (length lead)) (is_just lead (lowest (length lead) (held_leads past))) h in
    first_free-free (length lead) (held_leads past) 0 (256 ^ length lead) lead (just-some lead (lowest (length lead) (held_leads past)) parts.1)

-- a free lead overlaps none that is held
pub free-apart : (cs : List OpenChannel) (lead : List ℕ) → is_free (map (λ c. c.lead) cs) lead ≡ true → AllByRecursion (λ c. overlap lead c.lead ≡ false) cs
free-apart cs lead h = none-any cs (not-true (list_any (overlap lead) (map (λ c. c.lead) cs)) h) where
  none-any : (cs : List OpenChannel) → list_any (overlap lead) (map (λ c. c.lead) cs) ≡ false → AllByRecursion (λ c. overlap lead c.lead ≡ false) cs
  none-any [] f = tt
  none-any (c ∷ cs) f =
      let parts : (overlap lead c.lead ≡ false) × (list_any (overlap lead) (map (λ c. c.lead) cs) ≡ false) =
      or_parts (overlap lead c.lead) (list_any (overlap lead) (map (λ c. c.lead) cs)) f in
      (parts.0, none-any cs parts.1)

-- the open channels of a legal past are apart
pub channels-apart : (past : List Event) → LegalPast past → Apart (channels_of past)
channels-apart [] l = tt
channels-apart (event.Open session k account class lead ∷ older) l =
    let o : (rules : Rules) × IsOpening rules older session k account class lead = legal_opening older session k account class lead l.1 in
    let new : OpenChannel =
    record { id = opened (channel_moves older) + 1; session = session; kind = k; account = account; lead = lead; opening_class = class; sets = [] } in
    pairwise-end IsApart (channels_of older) new
    (all-weaken (λ c. overlap lead c.lead ≡ false) (λ c. IsApart c new) (λ c h. overlap-comm c.lead lead ∙ h) (channels_of older)
    (free-apart (channels_of older) lead (next-free older k lead o.1.next)))
    (channels-apart older l.0)
channels-apart (event.Name session id account ∷ older) l =
    pairwise-map IsApart (with_name id account) (apart-kept (with_name id account) (named-lead id account)) (channels_of older) (channels-apart older l.0)
channels-apart (event.Class session id class ∷ older) l =
    pairwise-map IsApart (with_class (length older) id class) (apart-kept (with_class (length older) id class) (reclassed-lead (length older) id class))
    (channels_of older) (channels-apart older l.0)
channels-apart (event.Close session id ∷ older) l = pairwise-filter IsApart (λ c. not (eqb c.id id)) (channels_of older) (channels-apart older l.0)
channels-apart (event.Leave session ∷ older) l = pairwise-filter IsApart (λ c. not (eqb c.session session)) (channels_of older) (channels-apart older l.0)
channels-apart (e ∷ older) l = channels-apart older l.0

-- two that were found under different ids are apart
pub found-apart : (cs : List OpenChannel) → Apart cs → (i j : ℕ) (a b : OpenChannel) → channel_in cs i ≡ Some a → channel_in cs j ≡ Some b → ¬ (i ≡ j)
    → overlap a.lead b.lead ≡ false
found-apart [] apart i j a b f g other = absurd (none-some f)
found-apart (c ∷ cs) apart i j a b f g other =
    cond_both (eqb c.id i) (Some c) (channel_in cs i) (λ o. o ≡ Some a → overlap a.lead b.lead ≡ false)
    (λ is-i f. first_is i j a b is-i f g other)
    (λ not-i f. cond_both (eqb c.id j) (Some c) (channel_in cs j) (λ o. o ≡ Some b → overlap a.lead b.lead ≡ false)
    (λ is-j g. overlap-comm a.lead b.lead ∙ subst (λ d. overlap d.lead a.lead ≡ false) (some-same g)
    (all-find (λ d. overlap c.lead d.lead ≡ false) (λ d. eqb d.id i) cs a apart.0 f))
    (λ not-j g. found-apart cs apart.1 i j a b f g other) g)
    f where
      first_is : (i j : ℕ) (a b : OpenChannel) → eqb c.id i ≡ true → Some c ≡ Some a → channel_in (c ∷ cs) j ≡ Some b → ¬ (i ≡ j) → overlap a.lead b.lead ≡ false
      first_is i j a b is-i f g other =
          let not-j : eqb c.id j ≡ false = ne_eqb c.id j (λ same. other (sym (eqb-true c.id i is-i) ∙ same)) in
          let later : channel_in cs j ≡ Some b = sym (ap (λ t. cond t (Some c) (channel_in cs j)) not-j) ∙ g in
          subst (λ d. overlap d.lead b.lead ≡ false) (some-same f) (all-find (λ d. overlap c.lead d.lead ≡ false) (λ d. eqb d.id j) cs b apart.0 later)

-- so are all by their places
pub apart-by_place : (cs : List OpenChannel) → Apart cs → AreApart cs
apart-by_place [] apart = tt
apart-by_place (c ∷ cs) apart =
    (all-weaken (IsApart c) (AreDisjoint c) (λ d h. apart-disjoint c d h) cs apart.0, apart-by_place cs apart.1)

pub spaces-disjoint : SpacesAreDisjoint
spaces-disjoint before after l =
    let apart : Apart (channels_of (past_of before)) = channels-apart (past_of before) (prefixes_legal before after l) in
    record {
      by_place = apart-by_place (channels_of (past_of before)) apart;
      by_id = λ i j a b f g other. apart-disjoint a b (found-apart (channels_of (past_of before)) apart i j a b f g other);
    }
