-- The names that `mining.configure` asks for, and what is answered to them.
use Rattle.std.proofs.Common.{◌≡◌, ℕ, Bool, true, false, ◌||◌, Option, None, Some, List, [], ◌∷◌, ◌++◌, map, option_map, codes, refl, ap, ◌∙◌, Bor, ◌+◌, ◌<◌, length, take, drop, get_or, suc, sym, take-append-drop}
use Rattle.std.proofs.Math.Seq.{drop-cons}
use Rattle.std.proofs.lemmas.List.{take_more}
use Rattle.std.specs.List.{list_any}
use Rattle.std.specs.Option.{option_and_then}
use Rattle.std.specs.Ordering.{match_ordering, nat_cmp}
use Rattle.std.specs.Cmp.Lexicographic.{slice_cmp}
use Rattle.std.specs.declared.cmp.Ordering.{Ordering}
use Rattle.std.specs.declared.cmp.Ordering.TheVariants.{Less, Equal, Greater}
use Rattle.serde_json.specs.Data.{Data, Members, no_members, member, boolean, put, string}
use Rattle.serde_json.specs.Find.{as_str}
use Rattle.serde_json.specs.View.{items_view, view}
use Rattle.serde_json.specs.Written.{has_float, members_have_float}
use Rattle.serde_json.specs.declared.value.Value.{Value}
use Rattle.v1_lines.specs.HexNumbers.{word_text}
use Rattle.v1_translate.specs.Configuring.{configured_value, refused_names, texts_in}

-- ---- texts

abbrev both : Option (List (List ℕ)) → Option (List (List ℕ)) → Option (List (List ℕ))
both None rest = None
both (Some first) None = None
both (Some first) (Some rest) = Some (first ++ rest)

step : (text : Option (List ℕ)) (first rest : Option (List (List ℕ)))
    → option_and_then (λ t. option_map (λ texts. t ∷ texts) (both first rest)) text
    ≡ both (option_and_then (λ t. option_map (λ texts. t ∷ texts) first) text) rest
step None first rest = refl
step (Some t) None rest = refl
step (Some t) (Some first) None = refl
step (Some t) (Some first) (Some rest) = refl

none_before : (rest : Option (List (List ℕ))) → rest ≡ both (Some []) rest
none_before None = refl
none_before (Some rest) = refl

texts-append : (values others : List Value)
    → texts_in (items_view (values ++ others)) ≡ both (texts_in (items_view values)) (texts_in (items_view others))
texts-append [] others = none_before (texts_in (items_view others))
texts-append (value ∷ values) others =
    rw (texts-append values others) (step (as_str (view value)) (texts_in (items_view values)) (texts_in (items_view others)))

pub one_more_text : (values : List Value) (value : Value) (texts : List (List ℕ)) (text : List ℕ)
    → texts_in (items_view values) ≡ Some texts → as_str (view value) ≡ Some text
    → texts_in (items_view (values ++ value ∷ [])) ≡ Some (texts ++ text ∷ [])
one_more_text values value texts text before here = rw (texts-append, before, here) refl

nothing_behind : (first : Option (List (List ℕ))) → both first None ≡ None
nothing_behind None = refl
nothing_behind (Some first) = refl

pub no_text : (before : List Value) (value : Value) (behind : List Value)
    → as_str (view value) ≡ None → texts_in (items_view (before ++ value ∷ behind)) ≡ None
no_text before value behind here = rw (texts-append, here) (nothing_behind (texts_in (items_view before)))

pub now-append : (texts more : List (Bor (List ℕ)))
    → map (λ text. text.now) (texts ++ more) ≡ map (λ text. text.now) texts ++ map (λ text. text.now) more
now-append [] more = refl
now-append (text ∷ texts) more = ap (λ rest. text.now ∷ rest) (now-append texts more)

-- a text at a place is one more of those before it, and where none is there, there are none at all
pub one_more_at : (items : List Value) (i : ℕ) (item : Value) (texts : List (List ℕ)) (text : List ℕ)
    → i < length items → item ≡ get_or items i item
    → texts_in (items_view (take i items)) ≡ Some texts → as_str (view item) ≡ Some text
    → texts_in (items_view (take (i + 1) items)) ≡ Some (texts ++ text ∷ [])
one_more_at items i item texts text within there before here =
    rw (take_more items i item within, ← there) (one_more_text (take i items) item texts text before here)

pub none_at : (items : List Value) (i : ℕ) (item : Value) → i < length items → item ≡ get_or items i item
    → as_str (view item) ≡ None → texts_in (items_view items) ≡ None
none_at items i item within there here =
    let rest : item ∷ drop (suc i) items ≡ drop i items =
    ap (λ v. v ∷ drop (suc i) items) there ∙ sym (drop-cons items i item within) in
    let split : take i items ++ item ∷ drop (suc i) items ≡ items =
    ap (λ behind. take i items ++ behind) rest ∙ take-append-drop i items in
    ap (λ values. texts_in (items_view values)) (sym split) ∙ no_text (take i items) item (drop (suc i) items) here

-- a test of what references lead to
pub list_any-now : (test : List ℕ → Bool) (names : List (Bor (List ℕ)))
    → list_any (λ name. test name.now) names ≡ list_any test (map (λ name. name.now) names)
list_any-now test [] = refl
list_any-now test (name ∷ names) = ap (λ rest. test name.now || rest) (list_any-now test names)

-- ---- no float is answered

by_order : (order : Ordering) (key other : List ℕ) (value there : Data) (behind rest : Members)
    → has_float value ≡ false → has_float there ≡ false → members_have_float behind ≡ false → members_have_float rest ≡ false
    → members_have_float (match_ordering order (member key value (member other there behind)) (member other value behind) (member other there rest)) ≡ false
by_order Less key other value there behind rest none here whole after = rw (none, here, whole) refl
by_order Equal key other value there behind rest none here whole after = rw (none, whole) refl
by_order Greater key other value there behind rest none here whole after = rw (here, after) refl

first_false : (a b : Bool) → (a || b) ≡ false → a ≡ false
first_false false b whole = refl
first_false true b whole = whole

second_false : (a b : Bool) → (a || b) ≡ false → b ≡ false
second_false false b whole = whole
second_false true b whole = cc

put_whole : (key : List ℕ) (value : Data) (members : Members)
    → has_float value ≡ false → members_have_float members ≡ false → members_have_float (put key value members) ≡ false
put_whole key value no_members none whole = rw none refl
put_whole key value (member other there members) none whole =
    let behind : members_have_float members ≡ false = second_false (has_float there) (members_have_float members) whole in
    by_order (slice_cmp nat_cmp key other) key other value there members (put key value members)
    none (first_false (has_float there) (members_have_float members) whole) behind (put_whole key value members none behind)

refused_whole : (names : List (List ℕ)) → members_have_float (refused_names names) ≡ false
refused_whole [] = refl
refused_whole (name ∷ names) = put_whole name (boolean false) (refused_names names) refl (refused_whole names)

pub configured_whole : (names : List (List ℕ)) (mask : Option ℕ) → has_float (configured_value names mask) ≡ false
configured_whole names None = refused_whole names
configured_whole names (Some mask) =
    put_whole (codes "version-rolling.mask") (string (word_text mask)) (put (codes "version-rolling") (boolean true) (refused_names names)) refl
    (put_whole (codes "version-rolling") (boolean true) (refused_names names) refl (refused_whole names))
