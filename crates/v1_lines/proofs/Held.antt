-- What a reader holds, by the place of the first line feed.
use Rattle.std.proofs.Common.{◌≡◌, ◌≢◌, ◌⊎◌, Option, Some, None, IfSome, IfNone, Bor, ℕ, ◌+◌, ◌-◌, ◌<◌, ◌≤◌, true, false, min, List, [], ◌∷◌, ◌++◌, length, get_or, take, drop, refl, sym, ap, ◌∙◌, subst, inl, inr, arith}
use Rattle.std.specs.Prelude.{MatchOption}
use Rattle.std.proofs.lemmas.Bool.{cases_lt}
use Rattle.std.proofs.lemmas.List.{append-nil, append_assoc, length-append, length-take, get_or_at, take_at, drop_all, take_min, nil_from_length}
use Rattle.std.proofs.Math.Seq.{take-append-add}
use Rattle.v1_lines.specs.Lines.{has_line_feed, IsLineText, line_end}
use Rattle.v1_lines.specs.Holding.{IsHeldLine, HoldsLine, HoldsLongLine, IsOneLine, TakesNoMore}
use Rattle.v1_lines.specs.Reading.{TakesPiece}
use Rattle.v1_lines.proofs.Places.{place, place-le-length, place-behind, place-none, none-place, place-front, place-take, split_at_place, feed_at_place}

-- a line and its end
pub place-line : (line held : List ℕ) → IsHeldLine line held → (place held ≡ length line) × (length held ≡ length line + 1)
place-line line held is = (
  omega (arith, ap place is.whole, place-behind line (10 ∷ []) is.text.one),
  ap length is.whole ∙ length-append line (10 ∷ []),
)

-- a line feed is among what is held: it is the last byte
pub whole_held : (held : List ℕ) → IsOneLine held → place held < length held → IsHeldLine (take (length held - 1) held) held
whole_held held one there =
    let last : length held - 1 ≡ place held = omega arith in
    let line : List ℕ = take (place held) held in
    let len : length line ≡ place held = omega (arith, length-take (place held) held) in
    let text : IsLineText line =
    record { one = none-place line (place-take (place held) held ∙ omega (arith, len)); short = omega (arith, len) } in
    let whole : held ≡ line ++ 10 ∷ [] =
    split_at_place held there ∙ ap (λ xs. line ++ 10 ∷ xs) (drop_all (place held + 1) held (omega arith)) in
    subst (λ (n : ℕ). IsHeldLine (take n held) held) (sym last) (record { whole = whole; text = text })

-- a line with its end
pub ended_held : (held line : List ℕ) → IsOneLine held → held ≡ line ++ 10 ∷ [] → IsHeldLine line held
ended_held held line one whole =
    let len : length held ≡ length line + 1 = ap length whole ∙ length-append line (10 ∷ []) in
    let last : get_or held (length line) 0 ≡ 10 =
    ap (λ (xs : List ℕ). get_or xs (length line) 0) whole ∙ get_or_at line 10 [] 0 (length line) refl in
    let at : place held ≡ length line = omega (arith, len, feed_at_place held (length line) (omega (arith, len)) last, one) in
    let front : take (length line) held ≡ line = ap (take (length line)) whole ∙ take_at line (10 ∷ []) (length line) refl in
    let none : place line ≡ length line = sym (ap place front) ∙ place-take (length line) held ∙ omega (arith, at) in
    record { whole = whole; text = record { one = none-place line none; short = omega (arith, len, one) } }

-- without one
pub not_ended : (held : List ℕ) → IsOneLine held → ((front : List ℕ) → held ≡ front ++ 10 ∷ [] → ⊥) → has_line_feed held ≡ false
not_ended held one none =
    elim (cases_lt (place held) (length held)) [
      | inl there ↦ absurd (none (take (length held - 1) held) (whole_held held one there).whole)
      | inr past ↦ none-place held (omega (arith, place-le-length held))
    ]

-- of the three things that a reader may hold it holds one
pub line_alone : (line held : List ℕ) → IsHeldLine line held → (IsLineText held → ⊥) × (HoldsLongLine held → ⊥)
line_alone line held is =
    let at = place-line line held is in (
      λ text. omega (arith, at.0, at.1, place-none held text.one),
      λ long. omega (arith, at.0, at.1, place-none held long.one),
    )

pub no_line_without_end : (held : List ℕ) → has_line_feed held ≡ false → HoldsLine held → ⊥
no_line_without_end held none holds =
    let at = place-line holds.0 held holds.1 in omega (arith, at.0, at.1, place-none held none)

pub one_line_room : (held : List ℕ) → IsOneLine held → length held ≤ 4097
one_line_room held one = omega (arith, one)

-- none is
pub text_held : (held : List ℕ) → place held ≡ length held → length held ≤ 4096 → IsLineText held
text_held held none short = record { one = none-place held none; short = short }

pub long_held : (held : List ℕ) → place held ≡ length held → length held ≡ 4097 → HoldsLongLine held
long_held held none long = record { one = none-place held none; long = long }

-- how many bytes are taken
pub taken_whole : (held piece : List ℕ) → IsOneLine held → place held < length held
    → length held + 0 ≡ min (line_end (held ++ piece)) (length (held ++ piece))
taken_whole held piece one there = omega (arith, place-front held piece there, length-append held piece)

pub taken_more : (held piece part : List ℕ) (count : ℕ) → IsOneLine held → has_line_feed held ≡ false
    → part ≡ take (min (4097 - length held) (length piece)) piece
    → count ≡ min (place part + 1) (length part)
    → length held + count ≡ min (line_end (held ++ piece)) (length (held ++ piece))
taken_more held piece part count one none cut counted =
    let room : ℕ = min (4097 - length held) (length piece) in
    let at : place part ≡ min room (place piece) = ap place cut ∙ place-take room piece in
    let len : length part ≡ min room (length piece) = ap length cut ∙ length-take room piece in
    omega (arith, at, len, place-behind held piece none, length-append held piece, place-le-length piece)

-- what is held then
pub taken_is : (held piece : List ℕ) (count : ℕ) → count ≤ length piece → length held + count ≡ min (line_end (held ++ piece)) (length (held ++ piece))
    → held ++ take count piece ≡ take (line_end (held ++ piece)) (held ++ piece)
taken_is held piece count within counted =
    sym (take-append-add held piece count) ∙ ap (λ n. take n (held ++ piece)) counted ∙ take_min (line_end (held ++ piece)) (held ++ piece)

-- it is one line at most
pub one_line : (all : List ℕ) → IsOneLine (take (line_end all) all)
one_line all =
    omega (arith, length-take (line_end all) all, place-take (line_end all) all, place-le-length all)

-- where nothing is taken of a piece that has something
pub nothing_taken : (held piece : List ℕ) → IsOneLine held → 0 < length piece
    → length held ≡ min (line_end (held ++ piece)) (length (held ++ piece)) → TakesNoMore held
nothing_taken held piece one some counted =
    let whole = length-append held piece in
    elim (cases_lt (place held) (length held)) [
      | inl there ↦ inl (take (length held - 1) held, whole_held held one there)
      | inr past ↦
          let none : place held ≡ length held = omega (arith, place-le-length held) in
          let behind = place-behind held piece (none-place held none) in
          inr (long_held held none (omega (arith, whole, behind)))
    ]

-- and the other way round
pub full_takes_nothing : (held piece : List ℕ) (count : ℕ) → TakesNoMore held
    → length held + count ≡ min (line_end (held ++ piece)) (length (held ++ piece)) → count ≡ 0
full_takes_nothing held piece count (inl (line, is)) counted =
    let at = place-line line held is in
    omega (arith, at.0, at.1, place-front held piece (omega (arith, at.0, at.1)), is.text.short)
full_takes_nothing held piece count (inr long) counted =
    omega (arith, place-behind held piece long.one, long.long)

-- where no line is whole yet, all of the piece was taken
pub text_takes_all : (held piece after : List ℕ) (count : ℕ) → TakesPiece held piece count after
    → length held + count ≡ min (line_end (held ++ piece)) (length (held ++ piece)) → IsLineText after → count ≡ length piece
text_takes_all held piece after count takes counted text =
    let all : List ℕ = held ++ piece in
    let len : length after ≡ min (line_end all) (length all) = ap length takes.end ∙ length-take (line_end all) all in
    let at : place after ≡ min (line_end all) (place all) = ap place takes.end ∙ place-take (line_end all) all in
    omega (arith, len, at, place-none after text.one, text.short, takes.within, length-append held piece, place-le-length all)

-- what is found of a line's end
pub line_found : (held : List ℕ) (found : Option (Bor (List ℕ))) → IsOneLine held
    → MatchOption found ((front : List ℕ) → held ≢ front ++ 10 ∷ []) (λ line. held ≡ line.now ++ 10 ∷ [])
    → IfSome found (λ line. IsHeldLine line.now held)
line_found held (Some line) one is = ended_held held line.now one is
line_found held None one is = tt

pub line_not_found : (held : List ℕ) (found : Option (Bor (List ℕ))) → IsOneLine held
    → MatchOption found ((front : List ℕ) → held ≢ front ++ 10 ∷ []) (λ line. held ≡ line.now ++ 10 ∷ [])
    → IfNone found (has_line_feed held ≡ false)
line_not_found held (Some line) one is = tt
line_not_found held None one is = not_ended held one is
