-- The forms of a command line.
use Rattle.std.specs.Prelude.{ℕ, ◌≡◌, ◌⊎◌, ◌<◌, ◌≤◌, ◌^◌, List, [], ◌∷◌, ◌++◌, length, Ok, codes}
use Rattle.std.specs.Int.{w32, to_le_bytes}
use Rattle.hex.specs.Hex.{decode_sized}
use Rattle.stream_programs.specs.declared.judge.Job.{Job}
use Rattle.pool_history.specs.Accounts.{account_of}
use Rattle.command_line.specs.declared.words.Form.{Form}
use Rattle.command_line.specs.declared.words.Form.TheVariants.{SoloFixed, Frames, Solo, Declare, Serve, Audit, Migrate, Load, Mine, Feed, Proxy, Durable}
use Rattle.command_line.specs.declared.words.OnDisk.{OnDisk}
use Rattle.command_line.specs.declared.words.OnDisk.TheVariants as disk
use Rattle.command_line.specs.Numbers.{IsNumber}

-- the bytes are the job's previous hash, merkle root and nbits, as they stand in a header
pub record IsJob (bytes : List ℕ) (job : Job) : Type 0 where
  pub prev_hash : length job.prev_hash ≡ 32
  pub root : length job.root ≡ 32
  pub nbits : job.nbits < 2 ^ 32
  pub parts : bytes ≡ job.prev_hash ++ (job.root ++ to_le_bytes w32 job.nbits)

-- `solo fixed CLASS JOBHEX`: a class of at most 60, and a job in 136 hex digits of either case
pub record IsSoloFixed (words : List (List ℕ)) (class : ℕ) (job : Job) : Type 0 where
  pub number : List ℕ
  pub digits : List ℕ
  pub bytes : List ℕ
  pub spelled : words ≡ codes "solo" ∷ codes "fixed" ∷ number ∷ digits ∷ []
  pub is_number : IsNumber number class
  pub limit : class ≤ 60
  pub decoded : decode_sized digits 68 ≡ Ok bytes
  pub is_job : IsJob bytes job

-- `frames`
abbrev pub IsFrames : List (List ℕ) → Type 0
IsFrames words = words ≡ codes "frames" ∷ []

-- `solo SETTINGS LEDGER`: the names of two files
pub record IsSolo (words : List (List ℕ)) : Type 0 where
  pub settings : List ℕ
  pub ledger : List ℕ
  pub spelled : words ≡ codes "solo" ∷ settings ∷ ledger ∷ []

-- `declare SETTINGS LEDGER`: the names of two files
pub record IsDeclare (words : List (List ℕ)) : Type 0 where
  pub settings : List ℕ
  pub ledger : List ℕ
  pub spelled : words ≡ codes "declare" ∷ settings ∷ ledger ∷ []

-- `serve SETTINGS LEDGER`: the names of two files
pub record IsServe (words : List (List ℕ)) : Type 0 where
  pub settings : List ℕ
  pub ledger : List ℕ
  pub spelled : words ≡ codes "serve" ∷ settings ∷ ledger ∷ []

-- `audit LEDGER`: the name of a file
pub record IsAudit (words : List (List ℕ)) : Type 0 where
  pub ledger : List ℕ
  pub spelled : words ≡ codes "audit" ∷ ledger ∷ []

-- `migrate OLD NEW`: the names of two files
pub record IsMigrate (words : List (List ℕ)) : Type 0 where
  pub old_ledger : List ℕ
  pub new_ledger : List ℕ
  pub spelled : words ≡ codes "migrate" ∷ old_ledger ∷ new_ledger ∷ []

-- `load NUMBER`: a number of 64 bits
pub record IsLoad (words : List (List ℕ)) (number : ℕ) : Type 0 where
  pub digits : List ℕ
  pub spelled : words ≡ codes "load" ∷ digits ∷ []
  pub is_number : IsNumber digits number
  pub limit : number < 2 ^ 64

-- `mine ADDRESS USER CLASS COUNT`: a user of 1 to 255 bytes, a class of at most 24, and a count of 1 to
-- 1,000,000
pub record IsMine (words : List (List ℕ)) (class count : ℕ) : Type 0 where
  pub address : List ℕ
  pub user : List ℕ
  pub class_digits : List ℕ
  pub count_digits : List ℕ
  pub spelled : words
      ≡ codes "mine" ∷ address ∷ user ∷ class_digits ∷ count_digits ∷ []
  pub has_user : 0 < length user
  pub short_user : length user ≤ 255
  pub is_class : IsNumber class_digits class
  pub easy : class ≤ 24
  pub is_count : IsNumber count_digits count
  pub some : 0 < count
  pub most : count ≤ 1000000

-- `feed SCRIPT ADDRESS`: the name of a file, and an address
pub record IsFeed (words : List (List ℕ)) : Type 0 where
  pub script : List ℕ
  pub address : List ℕ
  pub spelled : words ≡ codes "feed" ∷ script ∷ address ∷ []

-- `proxy UPSTREAM USER ADDRESS COUNT`: two addresses, a user of at most 255 bytes with an account, and a
-- count of 1 to 64
pub record IsProxy (words : List (List ℕ)) (count : ℕ) : Type 0 where
  pub upstream : List ℕ
  pub user : List ℕ
  pub address : List ℕ
  pub digits : List ℕ
  pub spelled : words ≡ codes "proxy" ∷ upstream ∷ user ∷ address ∷ digits ∷ []
  pub has_account : 0 < length (account_of user)
  pub short_user : length user ≤ 255
  pub is_count : IsNumber digits count
  pub some : 0 < count
  pub few : count ≤ 64

-- `durable solo SETTINGS LEDGER`: the names of a file and of a disk
pub record IsDurableSolo (words : List (List ℕ)) : Type 0 where
  pub settings : List ℕ
  pub ledger : List ℕ
  pub spelled : words ≡ codes "durable" ∷ codes "solo" ∷ settings ∷ ledger ∷ []

-- `durable serve SETTINGS LEDGER`: the names of a file and of a disk
pub record IsDurableServe (words : List (List ℕ)) : Type 0 where
  pub settings : List ℕ
  pub ledger : List ℕ
  pub spelled : words ≡ codes "durable" ∷ codes "serve" ∷ settings ∷ ledger ∷ []

-- `durable audit LEDGER`: the name of a disk
pub record IsDurableAudit (words : List (List ℕ)) : Type 0 where
  pub ledger : List ℕ
  pub spelled : words ≡ codes "durable" ∷ codes "audit" ∷ ledger ∷ []

-- the words ask for this command over a disk
abbrev pub IsDurable : List (List ℕ) → OnDisk → Type 0
IsDurable words disk.Solo = IsDurableSolo words
IsDurable words disk.Serve = IsDurableServe words
IsDurable words disk.Audit = IsDurableAudit words

-- the words are of this form
abbrev pub IsForm : List (List ℕ) → Form → Type 0
IsForm words (SoloFixed class job) = IsSoloFixed words class job
IsForm words Frames = IsFrames words
IsForm words Solo = IsSolo words
IsForm words Declare = IsDeclare words
IsForm words Serve = IsServe words
IsForm words Audit = IsAudit words
IsForm words Migrate = IsMigrate words
IsForm words (Load number) = IsLoad words number
IsForm words (Mine class count) = IsMine words class count
IsForm words Feed = IsFeed words
IsForm words (Proxy count) = IsProxy words count
IsForm words (Durable command) = IsDurable words command

-- the words are none of the forms
abbrev pub HasNoForm : List (List ℕ) → Type 0
HasNoForm words = (form : Form) → IsForm words form → ⊥

-- the words ask for something at an address
abbrev pub AskAtAddress : List (List ℕ) → Type 0
AskAtAddress words =
    IsServe words ⊎ ((class : ℕ) × (count : ℕ) × IsMine words class count) ⊎ IsFeed words
    ⊎ ((count : ℕ) × IsProxy words count) ⊎ IsDurableServe words

-- the words ask for a disk
abbrev pub AskForDisk : List (List ℕ) → Type 0
AskForDisk words = (command : OnDisk) × IsDurable words command

-- the words ask to serve whoever calls, so what they ask for may wait
abbrev pub AskToServe : List (List ℕ) → Type 0
AskToServe words =
    IsServe words ⊎ ((count : ℕ) × IsProxy words count) ⊎ IsDurableServe words
