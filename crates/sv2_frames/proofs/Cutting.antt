-- Bytes that are a proper prefix of a frame.
use Rattle.std.proofs.Common.{◌≡◌, ℕ, ◌+◌, ◌-◌, ◌*◌, ◌/◌, ◌%◌, ◌<◌, ◌≤◌, ◌^◌, List, [], ◌∷◌, ◌++◌, length, get_or, drop, refl, sym, ap, ◌∙◌, arith}
use Rattle.std.specs.Prelude.{replicate}
use Rattle.std.proofs.lemmas.List.{append_assoc, length-append, length-replicate}
use Rattle.sv2_frames.specs.Framing.{header_of, payload_length}
use Rattle.sv2_frames.specs.Holding.{Holding, IsCut, HoldsOver}

-- each is a byte
abbrev pub IsBytes : List ℕ → Type 0
IsBytes bytes = (i : ℕ) → get_or bytes i 0 < 256

abbrev zeros : ℕ → List ℕ
zeros count = replicate {A = ℕ} count 0

length-zeros : (count : ℕ) → length (zeros count) ≡ count
length-zeros count = length-replicate {A = ℕ} count 0

-- a list with a length has something in it
not_empty : (xs : List ℕ) → 0 < length xs → xs ≡ [] → ⊥
not_empty xs some none = omega (arith, ap length none)

-- behind a header fewer bytes than it says
pub cut_behind_header : (ext kind len : ℕ) (bytes : List ℕ) → ext < 2 ^ 16 → kind < 2 ^ 8 → len < 2 ^ 24
    → bytes ≡ header_of ext kind len ++ drop 6 bytes → length (drop 6 bytes) < len → IsCut bytes
cut_behind_header ext kind len bytes ext_fits kind_fits len_fits header short =
    let body : List ℕ = drop 6 bytes in
    let rest : List ℕ = zeros (len - length body) in
    let whole : length (body ++ rest) ≡ len = omega (arith, length-append body rest, length-zeros (len - length body)) in
    record {
      frame = record { ext = ext; kind = kind; payload = body ++ rest };
      fits = record { ext_fits = ext_fits; kind_fits = kind_fits; length_fits = omega (arith, whole) };
      missing = rest;
      some = not_empty rest (omega (arith, length-zeros (len - length body)));
      whole = ap (λ xs. xs ++ rest) header ∙ append_assoc (header_of ext kind len) body rest ∙ ap (λ n. header_of ext kind n ++ (body ++ rest)) (sym whole);
    }

-- any six bytes are a header
pub header_again : (a b k l m h : ℕ) (rest : List ℕ) → a < 256 → b < 256 → l < 256 → m < 256 → h < 256
    → a ∷ b ∷ k ∷ l ∷ m ∷ h ∷ rest ≡ header_of (a + 256 * b) k (l + 256 * m + 65536 * h) ++ rest
header_again a b k l m h rest fa fb fl fm fh =
    let e0 : (a + 256 * b) % 256 ≡ a = omega arith in
    let e1 : (a + 256 * b) / 256 % 256 ≡ b = omega arith in
    let n0 : (l + 256 * m + 65536 * h) % 256 ≡ l = omega arith in
    let n1 : (l + 256 * m + 65536 * h) / 256 % 256 ≡ m = omega arith in
    let n2 : (l + 256 * m + 65536 * h) / 65536 % 256 ≡ h = omega arith in
    cc

-- bytes that a padding completes to a header
cut_before_header : (bytes padding : List ℕ) (ext kind len : ℕ) → bytes ++ padding ≡ header_of ext kind len
    → ext < 2 ^ 16 → kind < 2 ^ 8 → len < 2 ^ 24 → 0 < length padding → IsCut bytes
cut_before_header bytes padding ext kind len header ext_fits kind_fits len_fits some =
    let payload : List ℕ = zeros len in
    record {
      frame = record { ext = ext; kind = kind; payload = payload };
      fits = record { ext_fits = ext_fits; kind_fits = kind_fits; length_fits = omega (arith, length-zeros len) };
      missing = padding ++ payload;
      some = not_empty (padding ++ payload) (omega (arith, length-append padding payload));
      whole = sym (append_assoc bytes padding payload) ∙ ap (λ xs. xs ++ payload) header
          ∙ ap (λ n. header_of ext kind n ++ payload) (sym (length-zeros len));
    }

-- six bytes are a header
completed : (a b k l m h : ℕ) (bytes padding : List ℕ) → a < 256 → b < 256 → k < 256 → l < 256 → m < 256 → h < 256
    → bytes ++ padding ≡ a ∷ b ∷ k ∷ l ∷ m ∷ h ∷ [] → 0 < length padding → IsCut bytes
completed a b k l m h bytes padding fa fb fk fl fm fh e some =
    cut_before_header bytes padding (a + 256 * b) k (l + 256 * m + 65536 * h) (e ∙ header_again a b k l m h [] fa fb fl fm fh)
    (omega arith) fk (omega arith) some

-- fewer than six bytes, completed with zeros
pub cut_short : (bytes : List ℕ) → IsBytes bytes → length bytes < 6 → IsCut bytes
cut_short [] fits short =
    completed 0 0 0 0 0 0 [] (zeros 6) (omega arith) (omega arith) (omega arith) (omega arith) (omega arith) (omega arith) refl (omega arith)
cut_short (a ∷ []) fits short =
    completed a 0 0 0 0 0 (a ∷ []) (zeros 5) (fits 0) (omega arith) (omega arith) (omega arith) (omega arith) (omega arith) refl (omega arith)
cut_short (a ∷ b ∷ []) fits short =
    completed a b 0 0 0 0 (a ∷ b ∷ []) (zeros 4) (fits 0) (fits 1) (omega arith) (omega arith) (omega arith) (omega arith) refl (omega arith)
cut_short (a ∷ b ∷ k ∷ []) fits short =
    completed a b k 0 0 0 (a ∷ b ∷ k ∷ []) (zeros 3) (fits 0) (fits 1) (fits 2) (omega arith) (omega arith) (omega arith) refl (omega arith)
cut_short (a ∷ b ∷ k ∷ l ∷ []) fits short =
    completed a b k l 0 0 (a ∷ b ∷ k ∷ l ∷ []) (zeros 2) (fits 0) (fits 1) (fits 2) (fits 3) (omega arith) (omega arith) refl (omega arith)
cut_short (a ∷ b ∷ k ∷ l ∷ m ∷ []) fits short =
    completed a b k l m 0 (a ∷ b ∷ k ∷ l ∷ m ∷ []) (zeros 1) (fits 0) (fits 1) (fits 2) (fits 3) (fits 4) (omega arith) refl (omega arith)
cut_short (a ∷ b ∷ k ∷ l ∷ m ∷ h ∷ bytes) fits short = absurd (omega arith)

-- what a header says
pub payload_length-header : (ext kind len : ℕ) (rest : List ℕ) → len < 2 ^ 24 → payload_length (header_of ext kind len ++ rest) ≡ len
payload_length-header ext kind len rest fits = omega arith

-- fewer than six bytes are no header over the limit
pub short_not_over : (holding : Holding) → length holding.held < 6 → (len : ℕ) → ¬ (HoldsOver len holding)
short_not_over holding short len over = omega (arith, ap length over.header)

-- nor is one that says a length within it
pub within_not_over : (holding : Holding) → payload_length holding.held ≤ holding.limit → (len : ℕ) → ¬ (HoldsOver len holding)
within_not_over holding within len over =
    let says : payload_length holding.held ≡ len =
    ap payload_length over.header ∙ payload_length-header over.ext over.kind len [] over.length_fits in
    omega (arith, says, over.over)
