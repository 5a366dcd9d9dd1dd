-- The messages of a session can be written.
use Rattle.std.proofs.Common.{◌≡◌, ℕ, ◌*◌, ◌<◌, ◌≤◌, ◌^◌, Bool, true, false, None, Some, Option, List, [], ◌∷◌, ◌++◌, length, drop, get_or, zero, suc, refl, arith}
use Rattle.std.proofs.lemmas.List.{length-append}
use Rattle.std.specs.List.{AllByRecursion, flat_map}
use Rattle.std.specs.Prelude.{map, nat_lt}
use Rattle.std.proofs.lemmas.Bool.{lt-ltb}
use Rattle.std.proofs.lemmas.Str.{IsUtf8-nil}
use Rattle.coinbase.specs.Coin.{pool_output}
use Rattle.coinbase.specs.Compact.{compact}
use Rattle.coinbase.specs.Form.{output_bytes}
use Rattle.pool_history.specs.declared.telling.Note.{Note}
use Rattle.std.specs.Str.{IsUtf8}
use Rattle.sv2_types.specs.Spelling.{spelled_boolean, spelled_option_u32}
use Rattle.sv2_types.specs.Fields.{U8, U16, U32, U64, UINT256, BOOL, STR0_255, B0_255, B0_32, B0_64K, OPTION_U32, SEQ0_255_U256, FitsPerhaps, Number, Truth, Bytes, Perhaps, Parts}
use Rattle.sv2_messages.specs.declared.kinds.TheConstants as kinds
use Rattle.sv2_messages.specs.Messages.{FitsFrame, types_of}
use Rattle.sv2_messages.specs.Tables.{mining_table, template_table, declare_table}
use Rattle.session_steps.specs.Asking.{message_of}

-- a number and a code, of the errors with one number
pub code_fits : (kind n : ℕ) (code : List ℕ) → types_of mining_table kind ≡ Some (U32 ∷ STR0_255 ∷ []) → n < 2 ^ 32 → length code ≤ 255 → IsUtf8 code
    → FitsFrame mining_table (message_of kind (Number n ∷ Bytes code ∷ []))
code_fits kind n code row n_fits short text = record {
  types = U32 ∷ STR0_255 ∷ [];
  row = row;
  fields = record { admitted = (n_fits, ((omega arith, text), tt)); within = omega (arith, length-append code []) };
}

-- and of those with two
pub pair_code_fits : (kind n m : ℕ) (code : List ℕ) → types_of mining_table kind ≡ Some (U32 ∷ U32 ∷ STR0_255 ∷ []) → n < 2 ^ 32 → m < 2 ^ 32 → length code ≤ 255 → IsUtf8 code
    → FitsFrame mining_table (message_of kind (Number n ∷ Number m ∷ Bytes code ∷ []))
pair_code_fits kind n m code row n_fits m_fits short text = record {
  types = U32 ∷ U32 ∷ STR0_255 ∷ [];
  row = row;
  fields = record { admitted = (n_fits, (m_fits, ((omega arith, text), tt))); within = omega (arith, length-append code []) };
}

pub success_fits : (channel sequence count sum : ℕ) → channel < 2 ^ 32 → sequence < 2 ^ 32 → count < 2 ^ 32 → sum < 2 ^ 64
    → FitsFrame mining_table (message_of kinds.SUBMIT_SHARES_SUCCESS (Number channel ∷ Number sequence ∷ Number count ∷ Number sum ∷ []))
success_fits channel sequence count sum channel_fits sequence_fits count_fits sum_fits = record {
  types = U32 ∷ U32 ∷ U32 ∷ U64 ∷ [];
  row = refl;
  fields = record { admitted = (channel_fits, (sequence_fits, (count_fits, (sum_fits, tt)))); within = omega arith };
}

pub own_job_fits : (channel request job : ℕ) → channel < 2 ^ 32 → request < 2 ^ 32 → job < 2 ^ 32
    → FitsFrame mining_table (message_of kinds.SET_CUSTOM_MINING_JOB_SUCCESS (Number channel ∷ Number request ∷ Number job ∷ []))
own_job_fits channel request job channel_fits request_fits job_fits = record {
  types = U32 ∷ U32 ∷ U32 ∷ [];
  row = refl;
  fields = record { admitted = (channel_fits, (request_fits, (job_fits, tt))); within = omega arith };
}

pub setup_success_fits : FitsFrame mining_table (message_of kinds.SETUP_CONNECTION_SUCCESS (Number 2 ∷ Number 0 ∷ []))
setup_success_fits = record {
  types = U16 ∷ U32 ∷ [];
  row = refl;
  fields = record { admitted = (omega arith, (omega arith, tt)); within = omega arith };
}

pub target_fits : (channel : ℕ) (target : List ℕ) → channel < 2 ^ 32 → length target ≡ 32
    → FitsFrame mining_table (message_of kinds.SET_TARGET (Number channel ∷ Bytes target ∷ []))
target_fits channel target channel_fits whole = record {
  types = U32 ∷ UINT256 ∷ [];
  row = refl;
  fields = record { admitted = (channel_fits, (whole, tt)); within = omega (arith, length-append target []) };
}

pub standard_fits : (request channel : ℕ) (target prefix : List ℕ) (group : ℕ) → request < 2 ^ 32 → channel < 2 ^ 32 → length target ≡ 32 → length prefix ≤ 32 → group < 2 ^ 32
    → FitsFrame mining_table (message_of kinds.OPEN_STANDARD_MINING_CHANNEL_SUCCESS (Number request ∷ Number channel ∷ Bytes target ∷ Bytes prefix ∷ Number group ∷ []))
standard_fits request channel target prefix group request_fits channel_fits whole short group_fits = record {
  types = U32 ∷ U32 ∷ UINT256 ∷ B0_32 ∷ U32 ∷ [];
  row = refl;
  fields = record { admitted = (request_fits, (channel_fits, (whole, (short, (group_fits, tt))))); within = simp length-append (omega arith) };
}

pub extended_fits : (request channel : ℕ) (target : List ℕ) (size : ℕ) (prefix : List ℕ) → request < 2 ^ 32 → channel < 2 ^ 32 → length target ≡ 32 → size < 2 ^ 16 → length prefix ≤ 32
    → FitsFrame mining_table (message_of kinds.OPEN_EXTENDED_MINING_CHANNEL_SUCCESS (Number request ∷ Number channel ∷ Bytes target ∷ Number size ∷ Bytes prefix ∷ []))
extended_fits request channel target size prefix request_fits channel_fits whole size_fits short = record {
  types = U32 ∷ U32 ∷ UINT256 ∷ U16 ∷ B0_32 ∷ [];
  row = refl;
  fields = record { admitted = (request_fits, (channel_fits, (whole, (size_fits, (short, tt))))); within = simp length-append (omega arith) };
}

pub token_fits : (request : ℕ) (token outputs : List ℕ) → request < 2 ^ 32 → length token ≡ 8 → length outputs ≤ 109
    → FitsFrame declare_table (message_of kinds.ALLOCATE_MINING_JOB_TOKEN_SUCCESS (Number request ∷ Bytes token ∷ Bytes outputs ∷ []))
token_fits request token outputs request_fits eight short = record {
  types = U32 ∷ B0_255 ∷ B0_64K ∷ [];
  row = refl;
  fields = record { admitted = (request_fits, (omega arith, (omega arith, tt))); within = simp length-append (omega arith) };
}

pub tip_fits : (channel job : ℕ) (hash : List ℕ) (ntime nbits : ℕ) → channel < 2 ^ 32 → job < 2 ^ 32 → length hash ≡ 32 → ntime < 2 ^ 32 → nbits < 2 ^ 32
    → FitsFrame mining_table (message_of kinds.MINING_SET_NEW_PREV_HASH (Number channel ∷ Number job ∷ Bytes hash ∷ Number ntime ∷ Number nbits ∷ []))
tip_fits channel job hash ntime nbits channel_fits job_fits whole ntime_fits nbits_fits = record {
  types = U32 ∷ U32 ∷ UINT256 ∷ U32 ∷ U32 ∷ [];
  row = refl;
  fields = record { admitted = (channel_fits, (job_fits, (whole, (ntime_fits, (nbits_fits, tt))))); within = simp length-append (omega arith) };
}

pub solution_fits : (template version timestamp nonce : ℕ) (coinbase : List ℕ) → template < 2 ^ 64 → version < 2 ^ 32 → timestamp < 2 ^ 32 → nonce < 2 ^ 32 → length coinbase < 2 ^ 16
    → FitsFrame template_table (message_of kinds.SUBMIT_SOLUTION (Number template ∷ Number version ∷ Number timestamp ∷ Number nonce ∷ Bytes coinbase ∷ []))
solution_fits template version timestamp nonce coinbase template_fits version_fits timestamp_fits nonce_fits short = record {
  types = U64 ∷ U32 ∷ U32 ∷ U32 ∷ B0_64K ∷ [];
  row = refl;
  fields = record { admitted = (template_fits, (version_fits, (timestamp_fits, (nonce_fits, (short, tt))))); within = simp length-append (omega arith) };
}

-- a number that may be there has five bytes at most, and the hashes of a path have 32 each
perhaps_length : (value : Option ℕ) → length (spelled_option_u32 value) ≤ 5
perhaps_length None = omega arith
perhaps_length (Some n) = omega arith

truth_length : (value : Bool) → length (spelled_boolean value) ≤ 1
truth_length true = omega arith
truth_length false = omega arith

path_length : (items : List (List ℕ)) → AllByRecursion (λ item. length item ≡ 32) items → length (flat_map (λ item. item) items) ≡ 32 * length items
path_length [] each = refl
path_length (item ∷ items) each =
    let here : length item ≡ 32 = each.0 in
    let rest : length (flat_map (λ x. x) items) ≡ 32 * length items = path_length items each.1 in
    omega (arith, length-append item (flat_map (λ x. x) items))

pub job_fits : (channel job : ℕ) (ntime : Option ℕ) (version : ℕ) (root : List ℕ) → channel < 2 ^ 32 → job < 2 ^ 32 → FitsPerhaps ntime → version < 2 ^ 32 → length root ≡ 32
    → FitsFrame mining_table (message_of kinds.NEW_MINING_JOB (Number channel ∷ Number job ∷ Perhaps ntime ∷ Number version ∷ Bytes root ∷ []))
job_fits channel job ntime version root channel_fits fits ntime_fits version_fits whole =
    let time : length (spelled_option_u32 ntime) ≤ 5 = perhaps_length ntime in
    record {
      types = U32 ∷ U32 ∷ OPTION_U32 ∷ U32 ∷ UINT256 ∷ [];
      row = refl;
      fields = record { admitted = (channel_fits, (fits, (ntime_fits, (version_fits, (whole, tt))))); within = simp length-append (omega arith) };
    }

pub extended_job_fits : (channel job : ℕ) (ntime : Option ℕ) (version : ℕ) (rolling : Bool) (path : List (List ℕ)) (prefix suffix : List ℕ)
    → channel < 2 ^ 32 → job < 2 ^ 32 → FitsPerhaps ntime → version < 2 ^ 32
    → length path < 2 ^ 8 → AllByRecursion (λ item. length item ≡ 32) path → length prefix < 2 ^ 16 → length suffix < 2 ^ 16
    → FitsFrame mining_table (message_of kinds.NEW_EXTENDED_MINING_JOB
    (Number channel ∷ Number job ∷ Perhaps ntime ∷ Number version ∷ Truth rolling ∷ Parts path ∷ Bytes prefix ∷ Bytes suffix ∷ []))
extended_job_fits channel job ntime version rolling path prefix suffix channel_fits fits ntime_fits version_fits few each prefix_fits suffix_fits =
    let time : length (spelled_option_u32 ntime) ≤ 5 = perhaps_length ntime in
    let truth : length (spelled_boolean rolling) ≤ 1 = truth_length rolling in
    let hashes : length (flat_map (λ x. x) path) ≡ 32 * length path = path_length path each in
    record {
      types = U32 ∷ U32 ∷ OPTION_U32 ∷ U32 ∷ BOOL ∷ SEQ0_255_U256 ∷ B0_64K ∷ B0_64K ∷ [];
      row = refl;
      fields = record {
        admitted = (channel_fits, (fits, (ntime_fits, (version_fits, (tt, ((few, each), (prefix_fits, (suffix_fits, tt))))))));
        within = simp length-append (omega arith);
      };
    }

-- no text is one
abbrev nothing : List ℕ
nothing = []

no_text : (length nothing < 2 ^ 8) × IsUtf8 nothing
no_text = (omega arith, IsUtf8-nil)

-- the pool's own setup, and the room for its output
pub own_setup_fits : FitsFrame mining_table (message_of kinds.SETUP_CONNECTION (Number 2 ∷ Number 2 ∷ Number 2 ∷ Number 0 ∷ Bytes [] ∷ Number 0 ∷ Bytes [] ∷ Bytes [] ∷ Bytes [] ∷ Bytes [] ∷ []))
own_setup_fits = record {
  types = U8 ∷ U16 ∷ U16 ∷ U32 ∷ STR0_255 ∷ U16 ∷ STR0_255 ∷ STR0_255 ∷ STR0_255 ∷ STR0_255 ∷ [];
  row = refl;
  fields = record {
    admitted = (omega arith, (omega arith, (omega arith, (omega arith, (no_text, (omega arith, (no_text, (no_text, (no_text, (no_text, tt))))))))));
    within = omega arith;
  };
}

pub constraints_fits : FitsFrame template_table (message_of kinds.COINBASE_OUTPUT_CONSTRAINTS (Number 109 ∷ Number 400 ∷ []))
constraints_fits = record {
  types = U32 ∷ U16 ∷ [];
  row = refl;
  fields = record { admitted = (omega arith, (omega arith, tt)); within = omega arith };
}

-- an output that pays nothing, byte for byte
pub empty_output_bytes : (script : List ℕ) → length script ≤ 100
    → (0 ∷ 0 ∷ 0 ∷ 0 ∷ 0 ∷ 0 ∷ 0 ∷ 0 ∷ length script ∷ []) ++ script ≡ output_bytes (pool_output 0 script)
unfolding compact
empty_output_bytes script short =
    let few : nat_lt (length script) 253 ≡ true = lt-ltb (length script) 253 (omega arith) in
    rw few refl

-- one of the frames of notes
pub part_of : {B : Type 0} (f : Note → B) (notes : List Note) (n : ℕ) (note other : Note) → n < length notes → note ≡ get_or notes n other
    → drop n (map f notes) ≡ f note ∷ map f (drop (suc n) notes)
part_of f [] n note other within found = absurd (omega arith)
part_of f (first ∷ notes) zero note other within found = rw found refl
part_of f (first ∷ notes) (suc n) note other within found = part_of f notes n note other (omega arith) found
