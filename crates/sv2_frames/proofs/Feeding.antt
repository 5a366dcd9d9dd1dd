-- What a piece adds to the bytes that are held.
use Rattle.std.proofs.Common.{◌≡◌, ℕ, ◌+◌, ◌-◌, ◌<◌, ◌≤◌, true, false, min, if◌then◌else◌, nat_lt, List, ◌++◌, length, take, drop, refl, sym, ap, ◌∙◌, inl, inr, arith}
use Rattle.std.proofs.lemmas.Bool.{le-ltb, lt-ltb, cases_lt}
use Rattle.std.proofs.lemmas.List.{append_assoc, length-append, length-take, length-drop, take_rest, take_min, take-append-le, drop-append-le, take-append-drop}
use Rattle.std.proofs.Math.Seq.{take-add, take-append-add}
use Rattle.sv2_types.specs.Reading.{low_first}
use Rattle.sv2_frames.specs.Framing.{payload_length}
use Rattle.sv2_frames.specs.Holding.{frame_end}

-- a header that is all there says the same whatever follows
pub payload_length-front : (bytes more : List ℕ) → 6 ≤ length bytes → payload_length (bytes ++ more) ≡ payload_length bytes
payload_length-front bytes more there =
    let behind : drop 3 (bytes ++ more) ≡ drop 3 bytes ++ more = drop-append-le 3 bytes more (omega arith) in
    ap low_first (ap (take 3) behind ∙ take-append-le 3 (drop 3 bytes) more (omega (arith, length-drop 3 bytes)))

pub frame_end-short : (limit : ℕ) (bytes : List ℕ) → length bytes < 6 → frame_end limit bytes ≡ 6
frame_end-short limit bytes short = rw (lt-ltb (length bytes) 6 short) refl

pub frame_end-front : (limit : ℕ) (bytes more : List ℕ) → 6 ≤ length bytes → frame_end limit (bytes ++ more) ≡ frame_end limit bytes
frame_end-front limit bytes more there =
    let long : 6 ≤ length (bytes ++ more) = omega (arith, length-append bytes more) in
    rw (le-ltb (length (bytes ++ more)) 6 long, le-ltb (length bytes) 6 there, payload_length-front bytes more there) refl

-- a frame has at least its header
pub frame_end-least : (limit : ℕ) (bytes : List ℕ) → 6 ≤ frame_end limit bytes
frame_end-least limit bytes =
    elim (nat_lt (length bytes) 6) as (λ b. 6 ≤ (if b then 6 else (if nat_lt limit (payload_length bytes) then 6 else 6 + payload_length bytes))) [
      | true ↦ omega arith
      | false ↦ elim (nat_lt limit (payload_length bytes)) as (λ b. 6 ≤ (if b then 6 else 6 + payload_length bytes)) [ true ↦ omega arith | false ↦ omega arith ]
    ]

-- both parts of the piece that were taken are one
pub fed_bytes : (held now new piece : List ℕ) (first second : ℕ) → now ≡ held ++ take first piece
    → new ≡ now ++ take second (take (length piece - first) (drop first piece)) → new ≡ held ++ take (first + second) piece
fed_bytes held now new piece first second start next =
    next ∙ ap (λ xs. now ++ take second xs) (take_rest piece first) ∙ ap (λ xs. xs ++ take second (drop first piece)) start
    ∙ append_assoc held (take first piece) (take second (drop first piece)) ∙ ap (λ xs. held ++ xs) (sym (take-add first second piece))

-- a front of a list with something before it
take_behind : (held piece : List ℕ) (end : ℕ) → length held ≤ end → take end (held ++ piece) ≡ held ++ take (end - length held) piece
take_behind held piece end within =
    let e : end ≡ length held + (end - length held) = omega arith in
    ap (λ n. take n (held ++ piece)) e ∙ take-append-add held piece (end - length held)

-- how much is taken
fed_count : (limit : ℕ) (held piece : List ℕ) (first second : ℕ) → length held ≤ frame_end limit held
    → first ≡ min (6 - length held) (length piece)
    → second ≡ min (frame_end limit (held ++ take first piece) - (length held + first)) (length piece - first)
    → (first + second ≡ min (frame_end limit (held ++ piece) - length held) (length piece)) × (length held ≤ frame_end limit (held ++ piece))
fed_count limit held piece first second within start next =
    let whole = length-append held piece in
    let now : List ℕ = held ++ take first piece in
    let len : length now ≡ length held + first = omega (arith, length-append held (take first piece), length-take first piece) in
    elim (cases_lt (length (held ++ piece)) 6) [
      | inl short ↦
          let end = frame_end-short limit (held ++ piece) short in
          (omega (arith, end, whole), omega (arith, end, whole))
      | inr long ↦
          let split : held ++ piece ≡ now ++ drop first piece =
          ap (λ xs. held ++ xs) (sym (take-append-drop first piece)) ∙ sym (append_assoc held (take first piece) (drop first piece)) in
          let there : 6 ≤ length now = omega (arith, whole, len) in
          let same : frame_end limit (held ++ piece) ≡ frame_end limit now =
          ap (frame_end limit) split ∙ frame_end-front limit now (drop first piece) there in
          let least = frame_end-least limit now in
          let room : length held ≤ frame_end limit (held ++ piece) =
          elim (cases_lt (length held) 6) [
            | inl few ↦ omega (arith, same, least)
            | inr many ↦ omega (arith, frame_end-front limit held piece many)
          ] in
          (omega (arith, same, whole, len, least, room), room)
    ]

-- what is held afterwards ends where the present frame does
pub fed_end : (limit : ℕ) (held piece new : List ℕ) (first second : ℕ) → length held ≤ frame_end limit held
    → first ≡ min (6 - length held) (length piece)
    → second ≡ min (frame_end limit (held ++ take first piece) - (length held + first)) (length piece - first)
    → new ≡ held ++ take (first + second) piece → new ≡ take (frame_end limit (held ++ piece)) (held ++ piece)
fed_end limit held piece new first second within start next bytes =
    let end : ℕ = frame_end limit (held ++ piece) in
    let counts = fed_count limit held piece first second within start next in
    bytes ∙ ap (λ n. held ++ take n piece) counts.0 ∙ ap (λ xs. held ++ xs) (take_min (end - length held) piece)
    ∙ sym (take_behind held piece end counts.1)

-- what is held lies before the end of its frame
pub present_after : (limit : ℕ) (all : List ℕ) → length (take (frame_end limit all) all) ≤ frame_end limit (take (frame_end limit all) all)
present_after limit all =
    let end : ℕ = frame_end limit all in
    let new : List ℕ = take end all in
    let least = frame_end-least limit all in
    let len = length-take end all in
    elim (cases_lt (length all) 6) [
      | inl short ↦ omega (arith, len, frame_end-least limit new)
      | inr long ↦
          let there : 6 ≤ length new = omega (arith, len, least) in
          let same : frame_end limit all ≡ frame_end limit new =
          ap (frame_end limit) (sym (take-append-drop end all)) ∙ frame_end-front limit new (drop end all) there in
          omega (arith, len, same)
    ]

-- where nothing is taken of a piece that is not empty, the held bytes end where their frame does
pub nothing_taken : (limit : ℕ) (held piece : List ℕ) → 0 < length piece → length held ≤ frame_end limit held
    → held ≡ take (frame_end limit (held ++ piece)) (held ++ piece) → (6 ≤ length held) × (length held ≡ frame_end limit held)
nothing_taken limit held piece some within same =
    let end : ℕ = frame_end limit (held ++ piece) in
    let least = frame_end-least limit (held ++ piece) in
    let len : length held ≡ min end (length (held ++ piece)) = ap length same ∙ length-take end (held ++ piece) in
    let whole = length-append held piece in
    let there : 6 ≤ length held = omega (arith, len, whole, least) in
    (there, omega (arith, len, whole, frame_end-front limit held piece there))

-- and the other way round
pub taken_nothing : (limit taken : ℕ) (held piece : List ℕ) → 6 ≤ length held → length held ≡ frame_end limit held → taken ≤ length piece
    → held ++ take taken piece ≡ take (frame_end limit (held ++ piece)) (held ++ piece) → taken ≡ 0
taken_nothing limit taken held piece there full fits same =
    let end : ℕ = frame_end limit (held ++ piece) in
    let len : length (held ++ take taken piece) ≡ min end (length (held ++ piece)) = ap length same ∙ length-take end (held ++ piece) in
    omega (arith, len, length-append held (take taken piece), length-take taken piece, length-append held piece, frame_end-front limit held piece there, full)
