-- A channel joins the tables.
use Rattle.std.proofs.Common.{◌≡◌, ℕ, ◌+◌, ◌≤◌, ◌^◌, Bool, true, false, ◌||◌, not, Option, Some, List, zero, suc, [], ◌∷◌, ◌++◌, arith, length, map, refl, ap, subst, sym, ◌∙◌}
use Rattle.std.proofs.lemmas.Bool.{false≢true}
use Rattle.std.proofs.lemmas.List.Folds.{list_any-append}
use Rattle.std.proofs.lemmas.List.Sorted.{list_any-IsPermutation}
use Rattle.std.proofs.lemmas.Slice.Eq.{bytes_eq-Decides}
use Rattle.std.specs.Prelude.{IsPermutation}
use Rattle.std.specs.List.{AllByRecursion, list_any}
use Rattle.std.specs.Str.{bytes_eq}
use Rattle.history_laws.specs.Openings.{AreLeadsApart}
use Rattle.history_laws.proofs.Holding.{bytes_eq-self, first_free-free, or-comm, overlap-comm}
use Rattle.pool_history.specs.Channels.{last_class}
use Rattle.pool_history.specs.Spaces.{first_free, is_free, lowest, overlap, string_at}
use Rattle.prefix_space.specs.HeldLeads.{is_held}
use Rattle.channels.specs.declared.channel.Channel.{Channel}
use Rattle.channels.specs.Tables.{AreKept, HasItsClass, shown_channel}
use Rattle.channels.proofs.Closings.{leads_of}
use Rattle.channels.proofs.Lookups.{shown_all}

-- lists with the same members pass the same tests
record Member (p : List ℕ → Bool) (held : List (List ℕ)) : Type 0 where
  lead : List ℕ
  passes : p lead ≡ true
  is_in : is_held held lead ≡ true

member : (p : List ℕ → Bool) (held : List (List ℕ)) → list_any p held ≡ true → Member p held
member p [] any = absurd (false≢true any)
member p (x ∷ held) any = by_test (p x) refl any (λ later. member p held later) where
  by_test : (t : Bool) → p x ≡ t → (t || list_any p held) ≡ true → (list_any p held ≡ true → Member p held) → Member p (x ∷ held)
  by_test true is any rest = record { lead = x; passes = is; is_in = ap (λ b. b || is_held held x) (bytes_eq-self x) }
  by_test false is any rest =
      let m : Member p held = rest any in
      record { lead = m.lead; passes = m.passes; is_in = or-right (bytes_eq x m.lead) (is_held held m.lead) m.is_in } where
        or-right : (a b : Bool) → b ≡ true → (a || b) ≡ true
        or-right true b is = refl
        or-right false b is = is

passes : (p : List ℕ → Bool) (held : List (List ℕ)) (lead : List ℕ) → is_held held lead ≡ true → p lead ≡ true → list_any p held ≡ true
passes p [] lead is_in pass = absurd (false≢true is_in)
passes p (x ∷ held) lead is_in pass = by_test (bytes_eq x lead) refl is_in (λ found. passes p held lead found pass) where
  or-left : (a b : Bool) → a ≡ true → (a || b) ≡ true
  or-left true b is = refl
  or-left false b is = absurd (false≢true is)

  or-right : (a b : Bool) → b ≡ true → (a || b) ≡ true
  or-right true b is = refl
  or-right false b is = is

  by_test : (t : Bool) → bytes_eq x lead ≡ t → (t || is_held held lead) ≡ true → (is_held held lead ≡ true → list_any p held ≡ true)
      → (p x || list_any p held) ≡ true
  by_test true is found rest = or-left (p x) (list_any p held) (ap p ((bytes_eq-Decides x lead).0 is) ∙ pass)
  by_test false is found rest = or-right (p x) (list_any p held) (rest found)

same-any : (p : List ℕ → Bool) (a b : List (List ℕ)) → ((lead : List ℕ) → is_held a lead ≡ is_held b lead) → list_any p a ≡ list_any p b
same-any p a b same = by_tests (list_any p a) (list_any p b) refl refl where
  by_tests : (s t : Bool) → list_any p a ≡ s → list_any p b ≡ t → list_any p a ≡ list_any p b
  by_tests true t is-a is-b =
      let m : Member p a = member p a is-a in
      is-a ∙ sym (passes p b m.lead (sym (same m.lead) ∙ m.is_in) m.passes)
  by_tests false true is-a is-b =
      let m : Member p b = member p b is-b in
      passes p a m.lead (same m.lead ∙ m.is_in) m.passes ∙ sym is-b
  by_tests false false is-a is-b = is-a ∙ sym is-b

same-free : (a b : List (List ℕ)) → ((lead : List ℕ) → is_held a lead ≡ is_held b lead) → (lead : List ℕ) → is_free a lead ≡ is_free b lead
same-free a b same lead = ap not (same-any (overlap lead) a b same)

-- so they have the same lowest free lead
same-first : (len : ℕ) (a b : List (List ℕ)) → ((lead : List ℕ) → is_held a lead ≡ is_held b lead) → (place more : ℕ)
    → first_free len a place more ≡ first_free len b place more
unfolding first_free
same-first len a b same place zero = refl
same-first len a b same place (suc more) =
    ap (λ t. elim t as (λ c. Option (List ℕ)) [ true ↦ Some (string_at len place) | false ↦ first_free len a (suc place) more ]) (same-free a b same (string_at len place))
    ∙ by_test (is_free b (string_at len place)) (same-first len a b same (suc place) more) where
      by_test : (t : Bool) → first_free len a (suc place) more ≡ first_free len b (suc place) more
          → elim t as (λ c. Option (List ℕ)) [ true ↦ Some (string_at len place) | false ↦ first_free len a (suc place) more ]
          ≡ elim t as (λ c. Option (List ℕ)) [ true ↦ Some (string_at len place) | false ↦ first_free len b (suc place) more ]
      by_test true rest = refl
      by_test false rest = rest

pub same-lowest : (len : ℕ) (a b : List (List ℕ)) → ((lead : List ℕ) → is_held a lead ≡ is_held b lead) → lowest len a ≡ lowest len b
same-lowest len a b same = same-first len a b same 0 (256 ^ len)

-- the leads that are shown are those that are kept
pub leads-shown : (entries : List (ℕ × Channel)) → map (λ c. c.lead) (shown_all entries) ≡ leads_of entries
leads-shown [] = refl
leads-shown (e ∷ entries) = ap (λ l. e.1.lead ∷ l) (leads-shown entries)

-- what is shown of one entry more
pub shown-joined : (opened : ℕ) (entries : List (ℕ × Channel)) (c : Channel) → c.settings.sets ≡ []
    → shown_all (entries ++ (opened + 1, c) ∷ [])
    ≡ shown_all entries
    ++ record { id = opened + 1; session = c.session; kind = c.kind; account = c.account; lead = c.lead; opening_class = c.opening_class; sets = [] } ∷ []
shown-joined opened [] c none =
    ap (λ sets.
    record { id = opened + 1; session = c.session; kind = c.kind; account = c.account; lead = c.lead; opening_class = c.opening_class; sets = sets } ∷ [])
    none
shown-joined opened (e ∷ entries) c none = ap (λ l. shown_channel e.0 e.1 ∷ l) (shown-joined opened entries c none)

-- what holds of all, and of one more
all-joined : (P Q : ℕ × Channel → Type 0) (entries : List (ℕ × Channel)) (e : ℕ × Channel) → ((d : ℕ × Channel) → P d → Q d) → AllByRecursion P entries → Q e
    → AllByRecursion Q (entries ++ e ∷ [])
all-joined P Q [] e each all last = (last, tt)
all-joined P Q (d ∷ entries) e each all last = (each d all.0, all-joined P Q entries e each all.1 last)

leads-joined : (entries : List (ℕ × Channel)) (e : ℕ × Channel) → leads_of (entries ++ e ∷ []) ≡ leads_of entries ++ e.1.lead ∷ []
leads-joined [] e = refl
leads-joined (d ∷ entries) e = ap (λ l. d.1.lead ∷ l) (leads-joined entries e)

-- a lead that overlaps none stays apart from them
apart-joined : (leads : List (List ℕ)) (lead : List ℕ) → list_any (overlap lead) leads ≡ false → AreLeadsApart leads → AreLeadsApart (leads ++ lead ∷ [])
apart-joined [] lead none apart = (tt, tt)
apart-joined (x ∷ leads) lead none apart = (
  each leads apart.0 (overlap-comm x lead ∙ (or-parts (overlap lead x) (list_any (overlap lead) leads) none).0),
  apart-joined leads lead (or-parts (overlap lead x) (list_any (overlap lead) leads) none).1 apart.1,
) where
  or-parts : (a b : Bool) → (a || b) ≡ false → (a ≡ false) × (b ≡ false)
  or-parts true b is = absurd (false≢true (sym is))
  or-parts false b is = (refl, is)

  each : (leads : List (List ℕ)) → AllByRecursion (λ other. overlap x other ≡ false) leads → overlap x lead ≡ false
      → AllByRecursion (λ other. overlap x other ≡ false) (leads ++ lead ∷ [])
  each [] all last = (last, tt)
  each (y ∷ leads) all last = (all.0, each leads all.1 last)

free-none : (held : List (List ℕ)) (lead : List ℕ) → is_free held lead ≡ true → list_any (overlap lead) held ≡ false
free-none held lead free = by_test (list_any (overlap lead) held) free where
  by_test : (t : Bool) → not t ≡ true → t ≡ false
  by_test true free = absurd (false≢true free)
  by_test false free = refl

-- the tables fit each other with one channel more
pub joined-kept : (opened : ℕ) (entries : List (ℕ × Channel)) (held taken : List (List ℕ)) (c : Channel) → c.class ≡ c.opening_class → c.settings.sets ≡ []
    → is_free (leads_of entries) c.lead ≡ true → IsPermutation (c.lead ∷ held) taken → AreKept opened entries held
    → AreKept (opened + 1) (entries ++ (opened + 1, c) ∷ []) taken
joined-kept opened entries held taken c class none free perm kept = record {
  ids =
      all-joined (λ e. e.0 ≤ opened) (λ e. e.0 ≤ opened + 1) entries (opened + 1, c) (λ e below. omega (arith, below)) kept.ids (omega arith);
  classes =
      all-joined (λ e. HasItsClass e.1) (λ e. HasItsClass e.1) entries (opened + 1, c) (λ e has. has) kept.classes
      (record { class_is = class ∙ sym (ap (λ sets. last_class sets c.opening_class) none) });
  holds = record {
    leads = λ lead.
        sym (list_any-IsPermutation (λ other. bytes_eq other lead) (c.lead ∷ held) taken perm)
        ∙ ap (λ b. bytes_eq c.lead lead || b) (kept.holds.leads lead)
        ∙ or-comm (bytes_eq c.lead lead) (is_held (leads_of entries) lead)
        ∙ ap (λ b. is_held (leads_of entries) lead || b) (sym (or-false (bytes_eq c.lead lead)))
        ∙ sym (ap (λ l. is_held l lead) (leads-joined entries (opened + 1, c)) ∙ list_any-append (λ other. bytes_eq other lead) (leads_of entries) (c.lead ∷ []));
    apart =
        subst AreLeadsApart (sym (leads-joined entries (opened + 1, c)))
        (apart-joined (leads_of entries) c.lead (free-none (leads_of entries) c.lead free) kept.holds.apart);
  };
} where
  or-false : (b : Bool) → (b || false) ≡ b
  or-false true = refl
  or-false false = refl

-- what was found is free
pub lowest-free : (entries : List (ℕ × Channel)) (lead : List ℕ) → lowest (length lead) (leads_of entries) ≡ Some lead → is_free (leads_of entries) lead ≡ true
lowest-free entries lead is = first_free-free (length lead) (leads_of entries) 0 (256 ^ length lead) lead is

-- what a table shows is held
pub held-lowest : (len : ℕ) (entries : List (ℕ × Channel)) (held : List (List ℕ)) → ((lead : List ℕ) → is_held held lead ≡ is_held (leads_of entries) lead)
    → lowest len held ≡ lowest len (map (λ c. c.lead) (shown_all entries))
held-lowest len entries held same = same-lowest len held (leads_of entries) same ∙ ap (lowest len) (sym (leads-shown entries))
