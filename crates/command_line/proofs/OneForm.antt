-- Words have one class and one job.
use Rattle.std.proofs.Common.{◌≡◌, ℕ, List, [], ◌++◌, take, drop, get_or, codes, refl, sym, ap, ◌∙◌, inl, inr, arith}
use Rattle.std.specs.Int.{w32, to_le_bytes, from_le_bytes}
use Rattle.std.proofs.lemmas.List.{take_at, drop_at}
use Rattle.std.proofs.lemmas.Nat.{from_le_bytes-to_le_bytes_4}
use Rattle.stream_programs.specs.declared.judge.Job.{Job}
use Rattle.command_line.specs.Numbers.{IsNumber}
use Rattle.command_line.specs.declared.words.Form.{Form}
use Rattle.command_line.specs.declared.words.Form.TheVariants.{SoloFixed, Frames, Solo, Declare, Serve, Audit, Migrate, Load, Mine, Feed, Proxy, Durable}
use Rattle.command_line.specs.declared.words.OnDisk.{OnDisk}
use Rattle.command_line.specs.declared.words.OnDisk.TheVariants as disk
use Rattle.command_line.specs.Forms.{AskAtAddress, AskForDisk, IsDurable, IsForm, IsJob, IsSoloFixed}
use Rattle.command_line.specs.Running.{IsAlone, IsOffDisk, IsWithinLimits}

one_number : (text other : List ℕ) (m n : ℕ) → text ≡ other → IsNumber text m → IsNumber other n → m ≡ n
one_number text other m n same a b = sym a.value ∙ ap (λ t. Rattle.std.specs.Str.Parse.digits_value 10 t) same ∙ b.value

one_job : (bytes other : List ℕ) (a b : Job) → bytes ≡ other → IsJob bytes a → IsJob other b → a ≡ b
one_job bytes other a b same a_is b_is =
    let number = λ (j : Job). to_le_bytes w32 j.nbits in
    let joined : a.prev_hash ++ (a.root ++ number a) ≡ b.prev_hash ++ (b.root ++ number b) = sym a_is.parts ∙ same ∙ b_is.parts in
    let prev_hash : a.prev_hash ≡ b.prev_hash =
    sym (take_at a.prev_hash (a.root ++ number a) 32 a_is.prev_hash) ∙ ap (take 32) joined ∙ take_at b.prev_hash (b.root ++ number b) 32 b_is.prev_hash in
    let rest : a.root ++ number a ≡ b.root ++ number b =
    sym (drop_at a.prev_hash (a.root ++ number a) 32 a_is.prev_hash) ∙ ap (drop 32) joined ∙ drop_at b.prev_hash (b.root ++ number b) 32 b_is.prev_hash in
    let root : a.root ≡ b.root = sym (take_at a.root (number a) 32 a_is.root) ∙ ap (take 32) rest ∙ take_at b.root (number b) 32 b_is.root in
    let last : number a ≡ number b = sym (drop_at a.root (number a) 32 a_is.root) ∙ ap (drop 32) rest ∙ drop_at b.root (number b) 32 b_is.root in
    let nbits : a.nbits ≡ b.nbits = sym (from_le_bytes-to_le_bytes_4 a.nbits a_is.nbits) ∙ ap (from_le_bytes w32) last ∙ from_le_bytes-to_le_bytes_4 b.nbits b_is.nbits in
    λ i. record { prev_hash = prev_hash i; root = root i; nbits = nbits i }

module _ (words : List (List ℕ)) (class other : ℕ) (job work : Job) (a : IsSoloFixed words class job) (b : IsSoloFixed words other work) where
  same_words : (a.number ≡ b.number) × (a.digits ≡ b.digits)
  same_words = let joined = sym a.spelled ∙ b.spelled in (cc, cc)

  pub one_class : class ≡ other
  one_class = one_number a.number b.number class other same_words.0 a.is_number b.is_number

  pub one_work : job ≡ work
  one_work =
      let decoded = sym a.decoded ∙ ap (λ d. Rattle.hex.specs.Hex.decode_sized d 68) same_words.1 ∙ b.decoded in
      let bytes : a.bytes ≡ b.bytes = cc in
      one_job a.bytes b.bytes job work bytes a.is_job b.is_job

-- a letter of the first word, and the second letter of the second one
abbrev letter : ℕ → List (List ℕ) → ℕ
letter place words = get_or (get_or words 0 []) place 0

abbrev second : List (List ℕ) → ℕ
second words = get_or (get_or words 1 []) 1 0

-- the words of a command over a disk begin with that it is durable
durably : (words : List (List ℕ)) (command : OnDisk) → IsDurable words command → get_or words 0 [] ≡ codes "durable"
durably words disk.Solo is = ap (λ (ws : List (List ℕ)). get_or ws 0 []) is.spelled
durably words disk.Serve is = ap (λ (ws : List (List ℕ)). get_or ws 0 []) is.spelled
durably words disk.Audit is = ap (λ (ws : List (List ℕ)). get_or ws 0 []) is.spelled

-- and are of one command
one_command : (words : List (List ℕ)) (command other : OnDisk) → IsDurable words command → IsDurable words other → command ≡ other
one_command words disk.Solo disk.Solo is also = refl
one_command words disk.Serve disk.Serve is also = refl
one_command words disk.Audit disk.Audit is also = refl
one_command words disk.Solo disk.Serve is also = absurd (let other : 111 ≡ 101 = ap second (sym is.spelled ∙ also.spelled) in omega (arith, other))
one_command words disk.Serve disk.Solo is also = absurd (let other : 101 ≡ 111 = ap second (sym is.spelled ∙ also.spelled) in omega (arith, other))
one_command words disk.Solo disk.Audit is also = absurd (let other : 111 ≡ 117 = ap second (sym is.spelled ∙ also.spelled) in omega (arith, other))
one_command words disk.Audit disk.Solo is also = absurd (let other : 117 ≡ 111 = ap second (sym is.spelled ∙ also.spelled) in omega (arith, other))
one_command words disk.Serve disk.Audit is also = absurd (let other : 101 ≡ 117 = ap second (sym is.spelled ∙ also.spelled) in omega (arith, other))
one_command words disk.Audit disk.Serve is also = absurd (let other : 117 ≡ 101 = ap second (sym is.spelled ∙ also.spelled) in omega (arith, other))

-- the words are of one form
pub one_form : (words : List (List ℕ)) (form other : Form) → IsForm words form → IsForm words other → form ≡ other
one_form words (SoloFixed class job) (SoloFixed other work) is also =
    ap (λ z. SoloFixed z job) (one_class words class other job work is also) ∙ ap (λ w. SoloFixed other w) (one_work words class other job work is also)
one_form words (SoloFixed class job) Frames is also = absurd (let both = sym is.spelled ∙ also in cc)
one_form words Frames (SoloFixed class job) is also = absurd (let both = sym also.spelled ∙ is in cc)
one_form words Frames Frames is also = refl
one_form words (SoloFixed class job) Solo is also = absurd (let both = sym is.spelled ∙ also.spelled in cc)
one_form words Solo (SoloFixed class job) is also = absurd (let both = sym also.spelled ∙ is.spelled in cc)
one_form words Frames Solo is also = absurd (let both = sym is ∙ also.spelled in cc)
one_form words Solo Frames is also = absurd (let both = sym also ∙ is.spelled in cc)
one_form words Solo Solo is also = refl
one_form words (SoloFixed class job) Audit is also = absurd (let both = sym is.spelled ∙ also.spelled in cc)
one_form words Audit (SoloFixed class job) is also = absurd (let both = sym also.spelled ∙ is.spelled in cc)
one_form words Frames Audit is also = absurd (let both = sym is ∙ also.spelled in cc)
one_form words Audit Frames is also = absurd (let both = sym also ∙ is.spelled in cc)
one_form words Solo Audit is also = absurd (let both = sym is.spelled ∙ also.spelled in cc)
one_form words Audit Solo is also = absurd (let both = sym also.spelled ∙ is.spelled in cc)
one_form words Audit Audit is also = refl
one_form words (SoloFixed class job) Migrate is also = absurd (let both = sym is.spelled ∙ also.spelled in cc)
one_form words Migrate (SoloFixed class job) is also = absurd (let both = sym also.spelled ∙ is.spelled in cc)
one_form words Frames Migrate is also = absurd (let both = sym is ∙ also.spelled in cc)
one_form words Migrate Frames is also = absurd (let both = sym also ∙ is.spelled in cc)
one_form words Solo Migrate is also = absurd (let both = sym is.spelled ∙ also.spelled in cc)
one_form words Migrate Solo is also = absurd (let both = sym also.spelled ∙ is.spelled in cc)
one_form words Audit Migrate is also = absurd (let both = sym is.spelled ∙ also.spelled in cc)
one_form words Migrate Audit is also = absurd (let both = sym also.spelled ∙ is.spelled in cc)
one_form words Migrate Migrate is also = refl
one_form words (SoloFixed class job) Serve is also = absurd (let both = sym is.spelled ∙ also.spelled in cc)
one_form words Serve (SoloFixed class job) is also = absurd (let both = sym also.spelled ∙ is.spelled in cc)
one_form words Frames Serve is also = absurd (let both = sym is ∙ also.spelled in cc)
one_form words Serve Frames is also = absurd (let both = sym also ∙ is.spelled in cc)
one_form words Solo Serve is also = absurd (let both = sym is.spelled ∙ also.spelled in cc)
one_form words Serve Solo is also = absurd (let both = sym also.spelled ∙ is.spelled in cc)
one_form words Audit Serve is also = absurd (let both = sym is.spelled ∙ also.spelled in cc)
one_form words Serve Audit is also = absurd (let both = sym also.spelled ∙ is.spelled in cc)
one_form words Migrate Serve is also = absurd (let both = sym is.spelled ∙ also.spelled in cc)
one_form words Serve Migrate is also = absurd (let both = sym also.spelled ∙ is.spelled in cc)
one_form words Serve Serve is also = refl
one_form words Declare Declare is also = refl
one_form words Declare (SoloFixed class job) is also = absurd (let other : 100 ≡ 115 = ap (letter 0) (sym is.spelled ∙ also.spelled) in omega (arith, other))
one_form words (SoloFixed class job) Declare is also = absurd (let other : 115 ≡ 100 = ap (letter 0) (sym is.spelled ∙ also.spelled) in omega (arith, other))
one_form words Declare Frames is also = absurd (let other : 100 ≡ 102 = ap (letter 0) (sym is.spelled ∙ also) in omega (arith, other))
one_form words Frames Declare is also = absurd (let other : 102 ≡ 100 = ap (letter 0) (sym is ∙ also.spelled) in omega (arith, other))
one_form words Declare Solo is also = absurd (let other : 100 ≡ 115 = ap (letter 0) (sym is.spelled ∙ also.spelled) in omega (arith, other))
one_form words Solo Declare is also = absurd (let other : 115 ≡ 100 = ap (letter 0) (sym is.spelled ∙ also.spelled) in omega (arith, other))
one_form words Declare Serve is also = absurd (let other : 100 ≡ 115 = ap (letter 0) (sym is.spelled ∙ also.spelled) in omega (arith, other))
one_form words Serve Declare is also = absurd (let other : 115 ≡ 100 = ap (letter 0) (sym is.spelled ∙ also.spelled) in omega (arith, other))
one_form words Declare Audit is also = absurd (let other : 100 ≡ 97 = ap (letter 0) (sym is.spelled ∙ also.spelled) in omega (arith, other))
one_form words Audit Declare is also = absurd (let other : 97 ≡ 100 = ap (letter 0) (sym is.spelled ∙ also.spelled) in omega (arith, other))
one_form words Declare Migrate is also = absurd (let other : 100 ≡ 109 = ap (letter 0) (sym is.spelled ∙ also.spelled) in omega (arith, other))
one_form words Migrate Declare is also = absurd (let other : 109 ≡ 100 = ap (letter 0) (sym is.spelled ∙ also.spelled) in omega (arith, other))
one_form words Declare (Load number) is also = absurd (let other : 100 ≡ 108 = ap (letter 0) (sym is.spelled ∙ also.spelled) in omega (arith, other))
one_form words (Load number) Declare is also = absurd (let other : 108 ≡ 100 = ap (letter 0) (sym is.spelled ∙ also.spelled) in omega (arith, other))
one_form words Declare (Mine class count) is also = absurd (let other : 100 ≡ 109 = ap (letter 0) (sym is.spelled ∙ also.spelled) in omega (arith, other))
one_form words (Mine class count) Declare is also = absurd (let other : 109 ≡ 100 = ap (letter 0) (sym is.spelled ∙ also.spelled) in omega (arith, other))
one_form words Declare Feed is also = absurd (let other : 100 ≡ 102 = ap (letter 0) (sym is.spelled ∙ also.spelled) in omega (arith, other))
one_form words Feed Declare is also = absurd (let other : 102 ≡ 100 = ap (letter 0) (sym is.spelled ∙ also.spelled) in omega (arith, other))
one_form words Declare (Durable command) is also = absurd (let other : 101 ≡ 117 = ap (λ (w : List ℕ). get_or w 1 0) (sym (ap (λ (ws : List (List ℕ)). get_or ws 0 []) is.spelled) ∙ durably words command also) in omega (arith, other))
one_form words (Durable command) Declare is also = absurd (let other : 117 ≡ 101 = ap (λ (w : List ℕ). get_or w 1 0) (sym (durably words command is) ∙ ap (λ (ws : List (List ℕ)). get_or ws 0 []) also.spelled) in omega (arith, other))
one_form words (Load number) (Load other) is also =
    ap Load (one_number is.digits also.digits number other (let both = sym is.spelled ∙ also.spelled in cc) is.is_number also.is_number)
one_form words (SoloFixed class job) (Load number) is also = absurd (let both = sym is.spelled ∙ also.spelled in cc)
one_form words (Load number) (SoloFixed class job) is also = absurd (let both = sym also.spelled ∙ is.spelled in cc)
one_form words Frames (Load number) is also = absurd (let both = sym is ∙ also.spelled in cc)
one_form words (Load number) Frames is also = absurd (let both = sym also ∙ is.spelled in cc)
one_form words Solo (Load number) is also = absurd (let both = sym is.spelled ∙ also.spelled in cc)
one_form words (Load number) Solo is also = absurd (let both = sym also.spelled ∙ is.spelled in cc)
one_form words Serve (Load number) is also = absurd (let both = sym is.spelled ∙ also.spelled in cc)
one_form words (Load number) Serve is also = absurd (let both = sym also.spelled ∙ is.spelled in cc)
one_form words Audit (Load number) is also = absurd (let both = sym is.spelled ∙ also.spelled in cc)
one_form words (Load number) Audit is also = absurd (let both = sym also.spelled ∙ is.spelled in cc)
one_form words Migrate (Load number) is also = absurd (let both = sym is.spelled ∙ also.spelled in cc)
one_form words (Load number) Migrate is also = absurd (let both = sym also.spelled ∙ is.spelled in cc)
one_form words (SoloFixed level job) (Mine class count) is also = absurd (let other : 115 ≡ 109 = ap (letter 0) (sym is.spelled ∙ also.spelled) in omega (arith, other))
one_form words (Mine class count) (SoloFixed level job) is also = absurd (let other : 109 ≡ 115 = ap (letter 0) (sym is.spelled ∙ also.spelled) in omega (arith, other))
one_form words (SoloFixed class job) Feed is also = absurd (let other : 115 ≡ 102 = ap (letter 0) (sym is.spelled ∙ also.spelled) in omega (arith, other))
one_form words Feed (SoloFixed class job) is also = absurd (let other : 102 ≡ 115 = ap (letter 0) (sym is.spelled ∙ also.spelled) in omega (arith, other))
one_form words Frames (Mine class count) is also = absurd (let other : 102 ≡ 109 = ap (letter 0) (sym is ∙ also.spelled) in omega (arith, other))
one_form words (Mine class count) Frames is also = absurd (let other : 109 ≡ 102 = ap (letter 0) (sym is.spelled ∙ also) in omega (arith, other))
one_form words Frames Feed is also = absurd (let other : 114 ≡ 101 = ap (letter 1) (sym is ∙ also.spelled) in omega (arith, other))
one_form words Feed Frames is also = absurd (let other : 101 ≡ 114 = ap (letter 1) (sym is.spelled ∙ also) in omega (arith, other))
one_form words Solo (Mine class count) is also = absurd (let other : 115 ≡ 109 = ap (letter 0) (sym is.spelled ∙ also.spelled) in omega (arith, other))
one_form words (Mine class count) Solo is also = absurd (let other : 109 ≡ 115 = ap (letter 0) (sym is.spelled ∙ also.spelled) in omega (arith, other))
one_form words Solo Feed is also = absurd (let other : 115 ≡ 102 = ap (letter 0) (sym is.spelled ∙ also.spelled) in omega (arith, other))
one_form words Feed Solo is also = absurd (let other : 102 ≡ 115 = ap (letter 0) (sym is.spelled ∙ also.spelled) in omega (arith, other))
one_form words Audit (Mine class count) is also = absurd (let other : 97 ≡ 109 = ap (letter 0) (sym is.spelled ∙ also.spelled) in omega (arith, other))
one_form words (Mine class count) Audit is also = absurd (let other : 109 ≡ 97 = ap (letter 0) (sym is.spelled ∙ also.spelled) in omega (arith, other))
one_form words Audit Feed is also = absurd (let other : 97 ≡ 102 = ap (letter 0) (sym is.spelled ∙ also.spelled) in omega (arith, other))
one_form words Feed Audit is also = absurd (let other : 102 ≡ 97 = ap (letter 0) (sym is.spelled ∙ also.spelled) in omega (arith, other))
one_form words Migrate (Mine class count) is also = absurd (let other : 103 ≡ 110 = ap (letter 2) (sym is.spelled ∙ also.spelled) in omega (arith, other))
one_form words (Mine class count) Migrate is also = absurd (let other : 110 ≡ 103 = ap (letter 2) (sym is.spelled ∙ also.spelled) in omega (arith, other))
one_form words Migrate Feed is also = absurd (let other : 109 ≡ 102 = ap (letter 0) (sym is.spelled ∙ also.spelled) in omega (arith, other))
one_form words Feed Migrate is also = absurd (let other : 102 ≡ 109 = ap (letter 0) (sym is.spelled ∙ also.spelled) in omega (arith, other))
one_form words Serve (Mine class count) is also = absurd (let other : 115 ≡ 109 = ap (letter 0) (sym is.spelled ∙ also.spelled) in omega (arith, other))
one_form words (Mine class count) Serve is also = absurd (let other : 109 ≡ 115 = ap (letter 0) (sym is.spelled ∙ also.spelled) in omega (arith, other))
one_form words Serve Feed is also = absurd (let other : 115 ≡ 102 = ap (letter 0) (sym is.spelled ∙ also.spelled) in omega (arith, other))
one_form words Feed Serve is also = absurd (let other : 102 ≡ 115 = ap (letter 0) (sym is.spelled ∙ also.spelled) in omega (arith, other))
one_form words (Load number) (Mine class count) is also = absurd (let other : 108 ≡ 109 = ap (letter 0) (sym is.spelled ∙ also.spelled) in omega (arith, other))
one_form words (Mine class count) (Load number) is also = absurd (let other : 109 ≡ 108 = ap (letter 0) (sym is.spelled ∙ also.spelled) in omega (arith, other))
one_form words (Load number) Feed is also = absurd (let other : 108 ≡ 102 = ap (letter 0) (sym is.spelled ∙ also.spelled) in omega (arith, other))
one_form words Feed (Load number) is also = absurd (let other : 102 ≡ 108 = ap (letter 0) (sym is.spelled ∙ also.spelled) in omega (arith, other))
one_form words (Mine class count) (Mine other most) is also =
    let joined = sym is.spelled ∙ also.spelled in
    ap (λ z. Mine z count) (one_number is.class_digits also.class_digits class other (let same : is.class_digits ≡ also.class_digits = cc in same) is.is_class also.is_class)
    ∙ ap (Mine other) (one_number is.count_digits also.count_digits count most (let same : is.count_digits ≡ also.count_digits = cc in same) is.is_count also.is_count)
one_form words (Mine class count) Feed is also = absurd (let other : 109 ≡ 102 = ap (letter 0) (sym is.spelled ∙ also.spelled) in omega (arith, other))
one_form words Feed (Mine class count) is also = absurd (let other : 102 ≡ 109 = ap (letter 0) (sym is.spelled ∙ also.spelled) in omega (arith, other))
one_form words Feed Feed is also = refl
one_form words (Proxy count) (SoloFixed class job) is also = absurd (let other : 112 ≡ 115 = ap (letter 0) (sym is.spelled ∙ also.spelled) in omega (arith, other))
one_form words (SoloFixed class job) (Proxy count) is also = absurd (let other : 115 ≡ 112 = ap (letter 0) (sym is.spelled ∙ also.spelled) in omega (arith, other))
one_form words (Proxy count) Frames is also = absurd (let other : 112 ≡ 102 = ap (letter 0) (sym is.spelled ∙ also) in omega (arith, other))
one_form words Frames (Proxy count) is also = absurd (let other : 102 ≡ 112 = ap (letter 0) (sym is ∙ also.spelled) in omega (arith, other))
one_form words (Proxy count) Solo is also = absurd (let other : 112 ≡ 115 = ap (letter 0) (sym is.spelled ∙ also.spelled) in omega (arith, other))
one_form words Solo (Proxy count) is also = absurd (let other : 115 ≡ 112 = ap (letter 0) (sym is.spelled ∙ also.spelled) in omega (arith, other))
one_form words (Proxy count) Declare is also = absurd (let other : 112 ≡ 100 = ap (letter 0) (sym is.spelled ∙ also.spelled) in omega (arith, other))
one_form words Declare (Proxy count) is also = absurd (let other : 100 ≡ 112 = ap (letter 0) (sym is.spelled ∙ also.spelled) in omega (arith, other))
one_form words (Proxy count) Serve is also = absurd (let other : 112 ≡ 115 = ap (letter 0) (sym is.spelled ∙ also.spelled) in omega (arith, other))
one_form words Serve (Proxy count) is also = absurd (let other : 115 ≡ 112 = ap (letter 0) (sym is.spelled ∙ also.spelled) in omega (arith, other))
one_form words (Proxy count) Audit is also = absurd (let other : 112 ≡ 97 = ap (letter 0) (sym is.spelled ∙ also.spelled) in omega (arith, other))
one_form words Audit (Proxy count) is also = absurd (let other : 97 ≡ 112 = ap (letter 0) (sym is.spelled ∙ also.spelled) in omega (arith, other))
one_form words (Proxy count) Migrate is also = absurd (let other : 112 ≡ 109 = ap (letter 0) (sym is.spelled ∙ also.spelled) in omega (arith, other))
one_form words Migrate (Proxy count) is also = absurd (let other : 109 ≡ 112 = ap (letter 0) (sym is.spelled ∙ also.spelled) in omega (arith, other))
one_form words (Proxy count) (Load number) is also = absurd (let other : 112 ≡ 108 = ap (letter 0) (sym is.spelled ∙ also.spelled) in omega (arith, other))
one_form words (Load number) (Proxy count) is also = absurd (let other : 108 ≡ 112 = ap (letter 0) (sym is.spelled ∙ also.spelled) in omega (arith, other))
one_form words (Proxy count) (Mine class most) is also = absurd (let other : 112 ≡ 109 = ap (letter 0) (sym is.spelled ∙ also.spelled) in omega (arith, other))
one_form words (Mine class most) (Proxy count) is also = absurd (let other : 109 ≡ 112 = ap (letter 0) (sym is.spelled ∙ also.spelled) in omega (arith, other))
one_form words (Proxy count) Feed is also = absurd (let other : 112 ≡ 102 = ap (letter 0) (sym is.spelled ∙ also.spelled) in omega (arith, other))
one_form words Feed (Proxy count) is also = absurd (let other : 102 ≡ 112 = ap (letter 0) (sym is.spelled ∙ also.spelled) in omega (arith, other))
one_form words (Proxy count) (Durable command) is also = absurd (let other : 112 ≡ 100 = ap (λ (w : List ℕ). get_or w 0 0) (sym (ap (λ (ws : List (List ℕ)). get_or ws 0 []) is.spelled) ∙ durably words command also) in omega (arith, other))
one_form words (Durable command) (Proxy count) is also = absurd (let other : 100 ≡ 112 = ap (λ (w : List ℕ). get_or w 0 0) (sym (durably words command is) ∙ ap (λ (ws : List (List ℕ)). get_or ws 0 []) also.spelled) in omega (arith, other))
one_form words (Proxy count) (Proxy other) is also =
    let joined = sym is.spelled ∙ also.spelled in
    ap Proxy (one_number is.digits also.digits count other (let same : is.digits ≡ also.digits = cc in same) is.is_count also.is_count)
one_form words (SoloFixed class job) (Durable command) is also = absurd (let other : 115 ≡ 100 = ap (λ (w : List ℕ). get_or w 0 0) (sym (ap (λ (ws : List (List ℕ)). get_or ws 0 []) is.spelled) ∙ durably words command also) in omega (arith, other))
one_form words (Durable command) (SoloFixed class job) is also = absurd (let other : 100 ≡ 115 = ap (λ (w : List ℕ). get_or w 0 0) (sym (durably words command is) ∙ ap (λ (ws : List (List ℕ)). get_or ws 0 []) also.spelled) in omega (arith, other))
one_form words Frames (Durable command) is also = absurd (let other : 102 ≡ 100 = ap (λ (w : List ℕ). get_or w 0 0) (sym (ap (λ (ws : List (List ℕ)). get_or ws 0 []) is) ∙ durably words command also) in omega (arith, other))
one_form words (Durable command) Frames is also = absurd (let other : 100 ≡ 102 = ap (λ (w : List ℕ). get_or w 0 0) (sym (durably words command is) ∙ ap (λ (ws : List (List ℕ)). get_or ws 0 []) also) in omega (arith, other))
one_form words Solo (Durable command) is also = absurd (let other : 115 ≡ 100 = ap (λ (w : List ℕ). get_or w 0 0) (sym (ap (λ (ws : List (List ℕ)). get_or ws 0 []) is.spelled) ∙ durably words command also) in omega (arith, other))
one_form words (Durable command) Solo is also = absurd (let other : 100 ≡ 115 = ap (λ (w : List ℕ). get_or w 0 0) (sym (durably words command is) ∙ ap (λ (ws : List (List ℕ)). get_or ws 0 []) also.spelled) in omega (arith, other))
one_form words Serve (Durable command) is also = absurd (let other : 115 ≡ 100 = ap (λ (w : List ℕ). get_or w 0 0) (sym (ap (λ (ws : List (List ℕ)). get_or ws 0 []) is.spelled) ∙ durably words command also) in omega (arith, other))
one_form words (Durable command) Serve is also = absurd (let other : 100 ≡ 115 = ap (λ (w : List ℕ). get_or w 0 0) (sym (durably words command is) ∙ ap (λ (ws : List (List ℕ)). get_or ws 0 []) also.spelled) in omega (arith, other))
one_form words Audit (Durable command) is also = absurd (let other : 97 ≡ 100 = ap (λ (w : List ℕ). get_or w 0 0) (sym (ap (λ (ws : List (List ℕ)). get_or ws 0 []) is.spelled) ∙ durably words command also) in omega (arith, other))
one_form words (Durable command) Audit is also = absurd (let other : 100 ≡ 97 = ap (λ (w : List ℕ). get_or w 0 0) (sym (durably words command is) ∙ ap (λ (ws : List (List ℕ)). get_or ws 0 []) also.spelled) in omega (arith, other))
one_form words Migrate (Durable command) is also = absurd (let other : 109 ≡ 100 = ap (λ (w : List ℕ). get_or w 0 0) (sym (ap (λ (ws : List (List ℕ)). get_or ws 0 []) is.spelled) ∙ durably words command also) in omega (arith, other))
one_form words (Durable command) Migrate is also = absurd (let other : 100 ≡ 109 = ap (λ (w : List ℕ). get_or w 0 0) (sym (durably words command is) ∙ ap (λ (ws : List (List ℕ)). get_or ws 0 []) also.spelled) in omega (arith, other))
one_form words (Load number) (Durable command) is also = absurd (let other : 108 ≡ 100 = ap (λ (w : List ℕ). get_or w 0 0) (sym (ap (λ (ws : List (List ℕ)). get_or ws 0 []) is.spelled) ∙ durably words command also) in omega (arith, other))
one_form words (Durable command) (Load number) is also = absurd (let other : 100 ≡ 108 = ap (λ (w : List ℕ). get_or w 0 0) (sym (durably words command is) ∙ ap (λ (ws : List (List ℕ)). get_or ws 0 []) also.spelled) in omega (arith, other))
one_form words (Mine class count) (Durable command) is also = absurd (let other : 109 ≡ 100 = ap (λ (w : List ℕ). get_or w 0 0) (sym (ap (λ (ws : List (List ℕ)). get_or ws 0 []) is.spelled) ∙ durably words command also) in omega (arith, other))
one_form words (Durable command) (Mine class count) is also = absurd (let other : 100 ≡ 109 = ap (λ (w : List ℕ). get_or w 0 0) (sym (durably words command is) ∙ ap (λ (ws : List (List ℕ)). get_or ws 0 []) also.spelled) in omega (arith, other))
one_form words Feed (Durable command) is also = absurd (let other : 102 ≡ 100 = ap (λ (w : List ℕ). get_or w 0 0) (sym (ap (λ (ws : List (List ℕ)). get_or ws 0 []) is.spelled) ∙ durably words command also) in omega (arith, other))
one_form words (Durable command) Feed is also = absurd (let other : 100 ≡ 102 = ap (λ (w : List ℕ). get_or w 0 0) (sym (durably words command is) ∙ ap (λ (ws : List (List ℕ)). get_or ws 0 []) also.spelled) in omega (arith, other))
one_form words (Durable command) (Durable other) is also = ap Durable (one_command words command other is also)

pub within_limits : (words : List (List ℕ)) (form : Form) → IsForm words form → IsWithinLimits form
within_limits words (SoloFixed class job) is = is.limit
within_limits words Frames is = tt
within_limits words Solo is = tt
within_limits words Declare is = tt
within_limits words Serve is = tt
within_limits words Audit is = tt
within_limits words Migrate is = tt
within_limits words (Load number) is = tt
within_limits words (Mine class count) is = (is.easy, is.some)
within_limits words Feed is = tt
within_limits words (Proxy count) is = is.few
within_limits words (Durable command) is = tt

-- words that ask for nothing at an address are of a form that doesn't
pub alone : (words : List (List ℕ)) (form : Form) → IsForm words form → (AskAtAddress words → ⊥) → IsAlone form
alone words (SoloFixed class job) is none = tt
alone words Frames is none = tt
alone words Solo is none = tt
alone words Declare is none = tt
alone words Serve is none = none (inl is)
alone words Audit is none = tt
alone words Migrate is none = tt
alone words (Load number) is none = tt
alone words (Mine class count) is none = none (inr (inl (class, count, is)))
alone words Feed is none = none (inr (inr (inl is)))
alone words (Proxy count) is none = none (inr (inr (inr (inl (count, is)))))
alone words (Durable disk.Solo) is none = tt
alone words (Durable disk.Serve) is none = none (inr (inr (inr (inr is))))
alone words (Durable disk.Audit) is none = tt

-- words that ask for no disk are of a form that doesn't
pub off_disk : (words : List (List ℕ)) (form : Form) → IsForm words form → (AskForDisk words → ⊥) → IsOffDisk form
off_disk words (SoloFixed class job) is none = tt
off_disk words Frames is none = tt
off_disk words Solo is none = tt
off_disk words Declare is none = tt
off_disk words Serve is none = tt
off_disk words Audit is none = tt
off_disk words Migrate is none = tt
off_disk words (Load number) is none = tt
off_disk words (Mine class count) is none = tt
off_disk words Feed is none = tt
off_disk words (Proxy count) is none = tt
off_disk words (Durable command) is none = none (command, is)
