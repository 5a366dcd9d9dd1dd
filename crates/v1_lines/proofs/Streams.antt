-- The lines of a stream.
use Rattle.std.proofs.Common.{◌≡◌, ◌⊎◌, ℕ, ◌+◌, ◌-◌, ◌<◌, ◌≤◌, min, List, [], ◌∷◌, ◌++◌, length, take, drop, refl, sym, ap, ◌∙◌, zero, suc, inl, inr, arith}
use Rattle.std.specs.List.{AllByRecursion}
use Rattle.std.proofs.lemmas.Bool.{cases_lt}
use Rattle.std.proofs.lemmas.List.{append-nil, append_assoc, append_cancel_left, length-append, length-take, length-drop, take-append-drop, take_at, drop_at, nil_from_length}
use Rattle.v1_lines.specs.Lines.{IsLineText, line_bytes}
use Rattle.v1_lines.specs.Holding.{HoldsLongLine}
use Rattle.v1_lines.specs.Reading.{LineUse, FedPiece, GaveLine, UsesReader, given_lines, taken_bytes, IsThrough, FindsLines}
use Rattle.v1_lines.proofs.Places.{place, place-le-length, place-behind, place-none, none-place, place-take, split_at_place}
use Rattle.v1_lines.proofs.Held.{text_held}

-- two fronts of one length are one
fronts : (p q x y : List ℕ) → length p ≡ length q → p ++ x ≡ q ++ y → (p ≡ q) × (x ≡ y)
fronts p q x y len same = (
  sym (take_at p x (length p) refl) ∙ ap (take (length p)) same ∙ take_at q y (length p) (sym len),
  sym (drop_at p x (length p) refl) ∙ ap (drop (length p)) same ∙ drop_at q y (length p) (sym len),
)

-- a line that begins a stream
place-stream : (line more : List ℕ) → IsLineText line → place ((line ++ 10 ∷ []) ++ more) ≡ length line
place-stream line more text = omega (arith, ap place (append_assoc line (10 ∷ []) more), place-behind line (10 ∷ more) text.one)

length-stream : (line more : List ℕ) → length ((line ++ 10 ∷ []) ++ more) ≡ length line + 1 + length more
length-stream line more = omega (arith, length-append (line ++ 10 ∷ []) more, length-append line (10 ∷ []))

-- where a reader is through, no line begins
no_line_begins : (held unread line more : List ℕ) → IsThrough held unread → IsLineText line
    → held ++ unread ≡ (line ++ 10 ∷ []) ++ more → ⊥
no_line_begins held unread line more (inl (text, none)) is same =
    let all : held ≡ held ++ unread = sym (append-nil held) ∙ ap (λ xs. held ++ xs) (sym none) in
    let len : length held ≡ length line + 1 + length more = ap length (all ∙ same) ∙ length-stream line more in
    let at : place held ≡ length line = ap place (all ∙ same) ∙ place-stream line more is in
    omega (arith, len, at, place-none held text.one)
no_line_begins held unread line more (inr long) is same =
    let at : place (held ++ unread) ≡ length line = ap place same ∙ place-stream line more is in
    omega (arith, at, place-behind held unread long.one, long.long, is.short)

-- and what is held is one
ends_agree : (held unread left skipped : List ℕ) → IsThrough held unread → IsThrough left skipped
    → held ++ unread ≡ left ++ skipped → held ≡ left
ends_agree held unread left skipped (inl (text, none)) (inl (other, nothing)) same =
    sym (append-nil held) ∙ ap (λ xs. held ++ xs) (sym none) ∙ same ∙ ap (λ xs. left ++ xs) nothing ∙ append-nil left
ends_agree held unread left skipped (inl (text, none)) (inr long) same =
    absurd (omega (arith, ap length same, length-append held unread, length-append left skipped, ap length none, text.short, long.long))
ends_agree held unread left skipped (inr long) (inl (text, none)) same =
    absurd (omega (arith, ap length same, length-append held unread, length-append left skipped, ap length none, text.short, long.long))
ends_agree held unread left skipped (inr long) (inr other) same =
    (fronts held left unread skipped (long.long ∙ sym other.long) same).0

unique_from : (lines others : List (List ℕ)) (held unread left skipped : List ℕ)
    → AllByRecursion IsLineText lines → AllByRecursion IsLineText others → IsThrough held unread → IsThrough left skipped
    → line_bytes lines ++ (held ++ unread) ≡ line_bytes others ++ (left ++ skipped) → (lines ≡ others) × (held ≡ left)
unique_from [] [] held unread left skipped each other one two same = (refl, ends_agree held unread left skipped one two same)
unique_from [] (line ∷ others) held unread left skipped each other one two same =
    absurd (no_line_begins held unread line (line_bytes others ++ (left ++ skipped)) one other.0
    (same ∙ append_assoc (line ++ 10 ∷ []) (line_bytes others) (left ++ skipped)))
unique_from (line ∷ lines) [] held unread left skipped each other one two same =
    absurd (no_line_begins left skipped line (line_bytes lines ++ (held ++ unread)) two each.0
    (sym same ∙ append_assoc (line ++ 10 ∷ []) (line_bytes lines) (held ++ unread)))
unique_from (line ∷ lines) (first ∷ others) held unread left skipped each other one two same =
    let rest : List ℕ = line_bytes lines ++ (held ++ unread) in
    let more : List ℕ = line_bytes others ++ (left ++ skipped) in
    let joined : (line ++ 10 ∷ []) ++ rest ≡ (first ++ 10 ∷ []) ++ more =
    sym (append_assoc (line ++ 10 ∷ []) (line_bytes lines) (held ++ unread)) ∙ same
    ∙ append_assoc (first ++ 10 ∷ []) (line_bytes others) (left ++ skipped) in
    let len : length line ≡ length first = sym (place-stream line rest each.0) ∙ ap place joined ∙ place-stream first more other.0 in
    let ended = fronts (line ++ 10 ∷ []) (first ++ 10 ∷ []) rest more (omega (arith, len, length-append line (10 ∷ []), length-append first (10 ∷ []))) joined in
    let text = fronts line first (10 ∷ []) (10 ∷ []) len ended.0 in
    let tails = unique_from lines others held unread left skipped each.1 other.1 one two ended.1 in
    (ap (λ l. l ∷ lines) text.0 ∙ ap (λ ls. first ∷ ls) tails.0, tails.1)

pub lines_unique : (stream : List ℕ) (lines others : List (List ℕ)) (held left : List ℕ) → FindsLines stream lines held
    → FindsLines stream others left → (lines ≡ others) × (held ≡ left)
lines_unique stream lines others held left one two =
    unique_from lines others held one.unread left two.unread one.each two.each one.through two.through (sym one.whole ∙ two.whole)

-- a stream that no line begins
no_line : (stream : List ℕ) → place stream ≡ length stream ⊎ (4097 ≤ place stream)
    → (lines : List (List ℕ)) × (held : List ℕ) × FindsLines stream lines held
no_line stream given =
    let at_most = place-le-length stream in
    elim (cases_lt (length stream) 4097) [
      | inl short ↦
          let none : place stream ≡ length stream = elim given [ inl none ↦ none | inr far ↦ omega arith ] in (
            [],
            stream,
            record { unread = []; whole = sym (append-nil stream); each = tt; through = inl (text_held stream none (omega arith), refl) },
          )
      | inr long ↦
          let far : 4097 ≤ place stream = elim given [ inl none ↦ omega arith | inr far ↦ far ] in
          let held : List ℕ = take 4097 stream in
          let len : length held ≡ 4097 = omega (arith, length-take 4097 stream) in
          let at : place held ≡ length held = omega (arith, place-take 4097 stream, len) in (
            [],
            held,
            record {
              unread = drop 4097 stream;
              whole = sym (take-append-drop 4097 stream);
              each = tt;
              through = inr (record { one = none-place held at; long = len });
            },
          )
    ]

-- by the length of the stream
pub lines_found : (fuel : ℕ) (stream : List ℕ) → length stream ≤ fuel
    → (lines : List (List ℕ)) × (held : List ℕ) × FindsLines stream lines held
lines_found zero stream short = no_line stream (inl (omega (arith, place-le-length stream)))
lines_found (suc fuel) stream short =
    elim (cases_lt (place stream) (length stream)) [
      | inr past ↦ no_line stream (inl (omega (arith, place-le-length stream)))
      | inl there ↦
          elim (cases_lt (place stream) 4097) [
            | inr far ↦ no_line stream (inr far)
            | inl near ↦
                let n : ℕ = place stream in
                let line : List ℕ = take n stream in
                let rest : List ℕ = drop (n + 1) stream in
                let more = lines_found fuel rest (omega (arith, length-drop (n + 1) stream)) in
                let len : length line ≡ n = omega (arith, length-take n stream) in
                let text : IsLineText line = record { one = none-place line (place-take n stream ∙ omega (arith, len)); short = omega (arith, len) } in (
                  line ∷ more.0,
                  more.1,
                  record {
                    unread = more.2.unread;
                    whole = split_at_place stream there ∙ sym (append_assoc line (10 ∷ []) rest) ∙ ap (λ xs. (line ++ 10 ∷ []) ++ xs) more.2.whole
                        ∙ sym (append_assoc (line ++ 10 ∷ []) (line_bytes more.0) (more.1 ++ more.2.unread));
                    each = (text, more.2.each);
                    through = more.2.through;
                  },
                )
          ]
    ]

-- what was taken is the lines that were given and what is held
uses_read : (held after : List ℕ) (uses : List LineUse) → UsesReader held uses after
    → held ++ taken_bytes uses ≡ line_bytes (given_lines uses) ++ after
uses_read held after [] used = append-nil held ∙ sym used
uses_read held after (FedPiece piece taken ∷ uses) (between, takes, used) =
    sym (append_assoc held (take taken piece) (taken_bytes uses)) ∙ ap (λ xs. xs ++ taken_bytes uses) (sym takes.bytes)
    ∙ uses_read between after uses used
uses_read held after (GaveLine line ∷ uses) (is, used) =
    ap (λ xs. xs ++ taken_bytes uses) is.whole ∙ ap (λ xs. (line ++ 10 ∷ []) ++ xs) (uses_read [] after uses used)
    ∙ sym (append_assoc (line ++ 10 ∷ []) (line_bytes (given_lines uses)) after)

uses_give : (held after : List ℕ) (uses : List LineUse) → UsesReader held uses after → AllByRecursion IsLineText (given_lines uses)
uses_give held after [] used = tt
uses_give held after (FedPiece piece taken ∷ uses) (between, takes, used) = uses_give between after uses used
uses_give held after (GaveLine line ∷ uses) (is, used) = (is.text, uses_give [] after uses used)

-- with what was not taken
stream_read : (held after unread : List ℕ) (uses : List LineUse) → UsesReader held uses after
    → held ++ (taken_bytes uses ++ unread) ≡ line_bytes (given_lines uses) ++ (after ++ unread)
stream_read held after unread uses used =
    sym (append_assoc held (taken_bytes uses) unread) ∙ ap (λ xs. xs ++ unread) (uses_read held after uses used)
    ∙ append_assoc (line_bytes (given_lines uses)) after unread

pub readers_find : (held after unread : List ℕ) (uses : List LineUse) → UsesReader held uses after → IsThrough after unread
    → FindsLines (held ++ (taken_bytes uses ++ unread)) (given_lines uses) after
readers_find held after unread uses used through =
    record {
      unread = unread;
      whole = stream_read held after unread uses used;
      each = uses_give held after uses used;
      through = through;
    }

pub readers_agree : (held after unread left skipped : List ℕ) (uses others : List LineUse) → UsesReader held uses after → IsThrough after unread
    → UsesReader held others left → IsThrough left skipped → taken_bytes uses ++ unread ≡ taken_bytes others ++ skipped
    → (given_lines uses ≡ given_lines others) × (after ≡ left)
readers_agree held after unread left skipped uses others used through too over same =
    unique_from (given_lines uses) (given_lines others) after unread left skipped (uses_give held after uses used) (uses_give held left others too)
    through over
    (sym (stream_read held after unread uses used) ∙ ap (λ xs. held ++ xs) same ∙ stream_read held left skipped others too)
