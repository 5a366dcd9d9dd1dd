-- One input ends in one way, and has one list of submissions.
use Rattle.std.proofs.Common.{◌≡◌, ℕ, ◌^◌, ◌<◌, ◌≤◌, List, [], ◌∷◌, ◌++◌, length, take, drop, refl, sym, ap, ◌∙◌, append_assoc, append-nil, arith, length-append}
use Rattle.std.specs.Int.{w32, from_le_bytes}
use Rattle.std.proofs.lemmas.List.{take_at, drop_at, take-append-le}
use Rattle.std.proofs.lemmas.Nat.{from_le_bytes-to_le_bytes_4}
use Rattle.sv2_types.specs.Spelling.{spelled_u32}
use Rattle.mining_msgs.specs.declared.shares.SubmitSharesStandard.{SubmitSharesStandard}
use Rattle.stream_programs.specs.Submitting.{SpellShares, IsShareFrame, IsShareHeader, IsOtherHeader, BeginsNoShare, HasFourByteFields, share_payload}

-- what follows the rest follows the whole
pub SpellShares-more : (bytes : List ℕ) (shares : List SubmitSharesStandard) (rest more : List ℕ)
    → SpellShares bytes shares rest → SpellShares (bytes ++ more) shares (rest ++ more)
SpellShares-more bytes [] rest more spelled = ap (λ b. b ++ more) spelled
SpellShares-more bytes (s ∷ later) rest more (frame, after, is, split, tail) = (
  frame,
  after ++ more,
  is,
  ap (λ b. b ++ more) split
      ∙ append_assoc frame after more,
  SpellShares-more after later rest more tail,
)

-- a four-byte number at the front of a list is told by its bytes
u32_front : (m n : ℕ) (a b : List ℕ) → m < 2 ^ 32 → n < 2 ^ 32 → spelled_u32 m ++ a ≡ spelled_u32 n
    ++ b → (m ≡ n) × (a ≡ b)
u32_front m n a b m_fits n_fits same =
    let bytes : spelled_u32 m ≡ spelled_u32 n = sym (take_at (spelled_u32 m) a 4 refl)
    ∙ ap (take 4) same ∙ take_at (spelled_u32 n) b 4 refl in
    let rest : a ≡ b = sym (drop_at (spelled_u32 m) a 4 refl) ∙ ap (drop 4) same
    ∙ drop_at (spelled_u32 n) b 4 refl in (
      sym (from_le_bytes-to_le_bytes_4 m m_fits) ∙ ap (from_le_bytes w32) bytes
          ∙ from_le_bytes-to_le_bytes_4 n n_fits,
      rest,
    )

-- a frame has 30 bytes, and its first six are a header
pub IsShareFrame-length : (frame : List ℕ) (s : SubmitSharesStandard) → IsShareFrame frame s
    → length frame ≡ 30
IsShareFrame-length frame s is = ap length is.spelled

pub IsShareFrame-header : (frame : List ℕ) (s : SubmitSharesStandard) → IsShareFrame frame s
    → IsShareHeader (take 6 frame)
IsShareFrame-header frame s is = (is.ext, is.bit, ap (take 6) is.spelled)

-- the numbers of two payloads are the same
same_submission : (s t : SubmitSharesStandard) → HasFourByteFields s → HasFourByteFields t
    → share_payload s ≡ share_payload t → s ≡ t
same_submission s t s_fits t_fits same =
    let rest = λ (u : SubmitSharesStandard). spelled_u32 u.sequence_number
    ++ (spelled_u32 u.job_id ++ (spelled_u32 u.nonce
    ++ (spelled_u32 u.ntime ++ spelled_u32 u.version))) in
    let channel = u32_front s.channel_id t.channel_id (rest s) (rest t) s_fits.channel
    t_fits.channel same in
    let sequence = u32_front s.sequence_number t.sequence_number (drop 4 (rest s))
    (drop 4 (rest t)) s_fits.sequence t_fits.sequence channel.1 in
    let job = u32_front s.job_id t.job_id (drop 8 (rest s)) (drop 8 (rest t)) s_fits.job t_fits.job
    sequence.1 in
    let nonce = u32_front s.nonce t.nonce (drop 12 (rest s)) (drop 12 (rest t)) s_fits.nonce
    t_fits.nonce job.1 in
    let ntime = u32_front s.ntime t.ntime (drop 16 (rest s)) (drop 16 (rest t)) s_fits.ntime
    t_fits.ntime nonce.1 in
    let version = u32_front s.version t.version [] [] s_fits.version t_fits.version
    (append-nil (spelled_u32 s.version) ∙ ntime.1 ∙ sym (append-nil (spelled_u32 t.version))) in
    λ i. record {
      channel_id = channel.0 i;
      sequence_number = sequence.0 i;
      job_id = job.0 i;
      nonce = nonce.0 i;
      ntime = ntime.0 i;
      version = version.0 i;
    }

-- two frames at the front of one list are the same
same_frame : (f g x y : List ℕ) (s t : SubmitSharesStandard) → IsShareFrame f s → IsShareFrame g t
    → f ++ x ≡ g ++ y → (s ≡ t) × (x ≡ y)
same_frame f g x y s t f_is g_is same =
    let frames : f ≡ g = sym (take_at f x 30 (IsShareFrame-length f s f_is)) ∙ ap (take 30) same
    ∙ take_at g y 30 (IsShareFrame-length g t g_is) in
    let rests : x ≡ y = sym (drop_at f x 30 (IsShareFrame-length f s f_is)) ∙ ap (drop 30) same
    ∙ drop_at g y 30 (IsShareFrame-length g t g_is) in (
      same_submission s t f_is.fits g_is.fits (ap (drop 6)
          (sym f_is.spelled ∙ frames ∙ g_is.spelled)),
      rests,
    )

pub none_short : (bytes : List ℕ) → length bytes < 30 → BeginsNoShare bytes
none_short bytes short frame more s is split = omega
    (arith, ap length split, length-append frame more, IsShareFrame-length frame s is)

pub none_other : (held more : List ℕ) → IsOtherHeader held → BeginsNoShare (held ++ more)
none_other held more other frame later s is split =
    let long : 6 ≤ length frame = omega (arith, IsShareFrame-length frame s is) in
    let first : take 6 held ≡ take 6 frame =
    sym (take-append-le 6 held more other.long) ∙ ap (take 6) split
    ∙ take-append-le 6 frame later long in
    other.header (rw first (IsShareFrame-header frame s is))

-- bytes are the frames of one list of submissions, up to where no frame begins
pub one_reading : (bytes : List ℕ) (shares others : List SubmitSharesStandard) (rest left : List ℕ)
    → SpellShares bytes shares rest → SpellShares bytes others left → BeginsNoShare rest
    → BeginsNoShare left → (shares ≡ others) × (rest ≡ left)
one_reading bytes [] [] rest left spelled other none none_left = (refl, sym spelled ∙ other)
one_reading bytes [] (t ∷ later) rest left spelled (frame, after, is, split, tail) none none_left =
    absurd (none frame after t is (sym spelled ∙ split))
one_reading bytes (s ∷ later) [] rest left (frame, after, is, split, tail) other none none_left =
    absurd (none_left frame after s is (sym other ∙ split))
one_reading bytes (s ∷ shares) (t ∷ others) rest left (f, x, f_is, f_split, f_tail)
    (g, y, g_is, g_split, g_tail) none none_left =
    let same = same_frame f g x y s t f_is g_is (sym f_split ∙ g_split) in
    let later = one_reading y shares others rest left (rw same.1 at f_tail) g_tail none none_left in
    (ap (λ u. u ∷ shares) same.0 ∙ ap (λ l. t ∷ l) later.0, later.1)
