-- The words of blocks that are put together from parts.
use Rattle.std.proofs.Common.{◌≡◌, ℕ, zero, suc, ◌+◌, ◌-◌, ◌*◌, ◌^◌, ◌<◌, ◌≤◌, List, [], ◌∷◌, ◌++◌, length, take, drop, slice_index, refl, sym, ap, ◌∙◌, add-zero, zero-add, arith, inl, inr, length-append}
use Rattle.std.specs.Int.{w32, from_be_bytes, to_be_bytes}
use Rattle.std.proofs.lemmas.Bool.{cases_lt}
use Rattle.std.proofs.lemmas.List.{get_or_append_left, get_or-take, get_or-drop}
use Rattle.std.proofs.lemmas.Nat.{from_be_bytes-to_be_bytes_4}
use Rattle.std.proofs.Math.Seq.{get_or-append_right}
use Rattle.sha2.specs.Sha256.{add_state, compress, digest_bytes, hash_after, initial_hash_256, padding, rounds, schedule, word_at}

-- two words are the same where their four bytes are
word_by : (a b : List ℕ) (i j : ℕ)
    → ((k : ℕ) → k < 4 → slice_index a (i + k) ≡ slice_index b (j + k))
    → word_at a i ≡ word_at b j
word_by a b i j e =
    let first : slice_index a i ≡ slice_index b j = simp add-zero at (e 0 (omega arith)) in
    λ t. from_be_bytes w32
    (first t ∷ e 1 (omega arith) t ∷ e 2 (omega arith) t ∷ e 3 (omega arith) t ∷ [])

word_at-append : (m more : List ℕ) (i : ℕ) → i + 4 ≤ length m
    → word_at (m ++ more) i ≡ word_at m i
word_at-append m more i fits = word_by (m ++ more) m i i
    (λ k below. get_or_append_left m more 0 (i + k) (omega arith))

word_at-behind : (m more : List ℕ) (n i : ℕ) → length m ≡ n
    → word_at (m ++ more) (n + i) ≡ word_at more i
word_at-behind m more n i long = word_by (m ++ more) more (n + i) i
    (λ k below.
    let at : n + i + k - length m ≡ i + k = omega arith in
    get_or-append_right m more (n + i + k) 0 (omega arith)
    ∙ ap (λ (p : ℕ). slice_index more p) at)

pub word_at-take : (m : List ℕ) (n i : ℕ) → i + 4 ≤ n → word_at (take n m) i ≡ word_at m i
word_at-take m n i fits = word_by (take n m) m i i
    (λ k below. get_or-take n m (i + k) 0 (omega arith))

-- the words from the front on
pub word_at-front : (m : List ℕ) (k : ℕ) → word_at m (0 + 4 * k) ≡ word_at m (4 * k)
word_at-front m k = ap (λ (p : ℕ). word_at m p) (zero-add (4 * k))

pub word_at-drop : (m : List ℕ) (n i : ℕ) → word_at (drop n m) i ≡ word_at m (n + i)
word_at-drop m n i = word_by (drop n m) m i (n + i)
    (λ k below.
    let at : n + (i + k) ≡ n + i + k = omega arith in
    get_or-drop n m (i + k) 0 ∙ ap (λ (p : ℕ). slice_index m p) at)

-- the words of a message of whole words, and then those of what follows
pub words_then : (m more ws ps : List ℕ) (n j : ℕ) → length m ≡ 4 * n → length ws ≡ n
    → ((k : ℕ) → k < n → slice_index ws k ≡ word_at m (4 * k))
    → ((k : ℕ) → k < j → slice_index ps k ≡ word_at more (4 * k))
    → (k : ℕ) → k < n + j → slice_index (ws ++ ps) k ≡ word_at (m ++ more) (4 * k)
words_then m more ws ps n j long count first rest k below = elim (cases_lt k n) [
  | inl lt ↦
      get_or_append_left ws ps 0 k (omega arith) ∙ first k lt
      ∙ sym (word_at-append m more (4 * k) (omega arith))
  | inr ge ↦
      let i : ℕ = k - n in
      let here : k - length ws ≡ i = omega arith in
      let there : 4 * n + 4 * i ≡ 4 * k = omega arith in
      get_or-append_right ws ps k 0 (omega arith) ∙ ap (λ (p : ℕ). slice_index ps p) here
      ∙ rest i (omega arith) ∙ sym (word_at-behind m more (4 * n) (4 * i) long)
      ∙ ap (λ (p : ℕ). word_at (m ++ more) p) there
]

-- the words of the padding of a message of 32 bytes
abbrev pub words_32 : List ℕ
words_32 = 0x80000000 ∷ 0 ∷ 0 ∷ 0 ∷ 0 ∷ 0 ∷ 0 ∷ 256 ∷ []

pub padding_32 : (k : ℕ) → k < 8 → slice_index words_32 k ≡ word_at (padding 32) (4 * k)
padding_32 zero lt = refl
padding_32 (suc zero) lt = refl
padding_32 (suc (suc zero)) lt = refl
padding_32 (suc (suc (suc zero))) lt = refl
padding_32 (suc (suc (suc (suc zero)))) lt = refl
padding_32 (suc (suc (suc (suc (suc zero))))) lt = refl
padding_32 (suc (suc (suc (suc (suc (suc zero)))))) lt = refl
padding_32 (suc (suc (suc (suc (suc (suc (suc zero))))))) lt = refl
padding_32 (suc (suc (suc (suc (suc (suc (suc (suc k)))))))) lt = absurd (omega arith)

-- the words of the padding of a message of 80 bytes
abbrev pub words_80 : List ℕ
words_80 = 0x80000000 ∷ 0 ∷ 0 ∷ 0 ∷ 0 ∷ 0 ∷ 0 ∷ 0 ∷ 0 ∷ 0 ∷ 0 ∷ 640 ∷ []

pub padding_80 : (k : ℕ) → k < 12 → slice_index words_80 k ≡ word_at (padding 80) (4 * k)
padding_80 zero lt = refl
padding_80 (suc zero) lt = refl
padding_80 (suc (suc zero)) lt = refl
padding_80 (suc (suc (suc zero))) lt = refl
padding_80 (suc (suc (suc (suc zero)))) lt = refl
padding_80 (suc (suc (suc (suc (suc zero))))) lt = refl
padding_80 (suc (suc (suc (suc (suc (suc zero)))))) lt = refl
padding_80 (suc (suc (suc (suc (suc (suc (suc zero))))))) lt = refl
padding_80 (suc (suc (suc (suc (suc (suc (suc (suc zero)))))))) lt = refl
padding_80 (suc (suc (suc (suc (suc (suc (suc (suc (suc zero))))))))) lt = refl
padding_80 (suc (suc (suc (suc (suc (suc (suc (suc (suc (suc zero)))))))))) lt = refl
padding_80 (suc (suc (suc (suc (suc (suc (suc (suc (suc (suc (suc zero))))))))))) lt = refl
padding_80 (suc (suc (suc (suc (suc (suc (suc (suc (suc (suc (suc (suc k)))))))))))) lt =
    absurd (omega arith)

pub length-digest_bytes : (h : List ℕ) (n : ℕ) → length (digest_bytes h n) ≡ 4 * n
unfolding digest_bytes
length-digest_bytes h zero = refl
length-digest_bytes h (suc n) =
    let last : length (to_be_bytes w32 (slice_index h n)) ≡ 4 = refl in
    omega (
      arith,
      length-digest_bytes h n,
      last,
      length-append (digest_bytes h n) (to_be_bytes w32 (slice_index h n)),
    )

-- the words of a digest are those of its hash value
pub word_at-digest_bytes : (h : List ℕ) (n k : ℕ) → ((i : ℕ) → slice_index h i < 2 ^ 32) → k < n
    → word_at (digest_bytes h n) (4 * k) ≡ slice_index h k
unfolding digest_bytes
word_at-digest_bytes h zero k fits lt = absurd (omega arith)
word_at-digest_bytes h (suc n) k fits lt =
    let last = to_be_bytes w32 (slice_index h n) in
    let long : length (digest_bytes h n) ≡ 4 * n = length-digest_bytes h n in
    elim (cases_lt k n) [
      | inl below ↦
          word_at-append (digest_bytes h n) last (4 * k) (omega arith)
          ∙ word_at-digest_bytes h n k fits below
      | inr from ↦
          let at : 4 * k ≡ 4 * n + 0 = omega arith in
          let same : n ≡ k = omega arith in
          ap (λ (p : ℕ). word_at (digest_bytes h n ++ last) p) at
          ∙ word_at-behind (digest_bytes h n) last (4 * n) 0 long
          ∙ from_be_bytes-to_be_bytes_4 (slice_index h n) (fits n)
          ∙ ap (λ (p : ℕ). slice_index h p) same
    ]

-- a sum of two hash values has words
fits-add_state : (h v : List ℕ) (k : ℕ) → slice_index (add_state h v) k < 2 ^ 32
fits-add_state h v zero = omega arith
fits-add_state h v (suc zero) = omega arith
fits-add_state h v (suc (suc zero)) = omega arith
fits-add_state h v (suc (suc (suc zero))) = omega arith
fits-add_state h v (suc (suc (suc (suc zero)))) = omega arith
fits-add_state h v (suc (suc (suc (suc (suc zero))))) = omega arith
fits-add_state h v (suc (suc (suc (suc (suc (suc zero)))))) = omega arith
fits-add_state h v (suc (suc (suc (suc (suc (suc (suc zero))))))) = omega arith
fits-add_state h v (suc (suc (suc (suc (suc (suc (suc (suc k)))))))) = omega arith

fits-initial : (k : ℕ) → slice_index initial_hash_256 k < 2 ^ 32
fits-initial zero = omega arith
fits-initial (suc zero) = omega arith
fits-initial (suc (suc zero)) = omega arith
fits-initial (suc (suc (suc zero))) = omega arith
fits-initial (suc (suc (suc (suc zero)))) = omega arith
fits-initial (suc (suc (suc (suc (suc zero))))) = omega arith
fits-initial (suc (suc (suc (suc (suc (suc zero)))))) = omega arith
fits-initial (suc (suc (suc (suc (suc (suc (suc zero))))))) = omega arith
fits-initial (suc (suc (suc (suc (suc (suc (suc (suc k)))))))) = omega arith

-- each hash value has words
pub fits-hash_after : (p : List ℕ) (n k : ℕ)
    → slice_index (hash_after initial_hash_256 p n) k < 2 ^ 32
unfolding hash_after compress
fits-hash_after p zero k = fits-initial k
fits-hash_after p (suc n) k =
    let h = hash_after initial_hash_256 p n in
    fits-add_state h (rounds h (schedule (take 64 (drop (n * 64) p)) 48) 64) k
