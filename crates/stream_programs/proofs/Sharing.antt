-- Which headers and payloads bring shares.
use Rattle.std.proofs.Common.{◌≡◌, ℕ, zero, suc, ◌*◌, ◌%◌, ◌<◌, ◌^◌, nat_eq, IsTrue, ◌↔◌, List, [], ◌∷◌, length, take, drop, refl, sym, ap, ◌∙◌, arith, length-drop, inl, inr}
use Rattle.std.proofs.lemmas.List.{take-append-drop}
use Rattle.std.proofs.lemmas.Bool.{le-ltb, cases_lt, eqb-true}
use Rattle.sv2_types.specs.Fields.{FieldType, FieldValue, U32, Number}
use Rattle.sv2_types.specs.Reading.{said}
use Rattle.sv2_types.proofs.Items.{IsBytes}
use Rattle.sv2_messages.specs.declared.kinds.TheConstants as kinds
use Rattle.sv2_messages.specs.Messages.{Message, AreSpelled, MsgOf}
use Rattle.sv2_messages.specs.Tables.{mining_table}
use Rattle.sv2_messages.proofs.Numbers.{IsBytes-drop}
use Rattle.sv2_messages.proofs.Readable.{lies}
use Rattle.sv2_frames.specs.Framing.{header_of, payload_length}
use Rattle.sv2_frames.proofs.Cutting.{payload_length-header}
use Rattle.stream_programs.specs.Submitting.{IsShareHeader, IsPlainOrChannel}

-- numbers of four bytes, one after the other
abbrev numbers : ℕ → List ℕ → List FieldValue
numbers zero bytes = []
numbers (suc count) bytes = Number (said 4 bytes) ∷ numbers count (drop 4 bytes)

abbrev types : ℕ → List FieldType
types zero = []
types (suc count) = U32 ∷ types count

numbers_spelled : (count : ℕ) (bytes : List ℕ) → IsBytes bytes → length bytes ≡ 4 * count → AreSpelled (types count) (numbers count bytes) bytes
numbers_spelled zero [] fits long = refl
numbers_spelled zero (byte ∷ bytes) fits long = absurd (omega (arith, long))
numbers_spelled (suc count) bytes fits long =
    let there = le-ltb (length bytes) 4 (omega (arith, long)) in (
      take 4 bytes,
      drop 4 bytes,
      (lies U32 bytes fits (rw there refl)).spells,
      sym (take-append-drop 4 bytes),
      numbers_spelled count (drop 4 bytes) (IsBytes-drop 4 bytes fits) (omega (arith, long, length-drop 4 bytes)),
    )

-- the message that 24 bytes are
abbrev pub share_message : List ℕ → Message
share_message payload = record { kind = kinds.SUBMIT_SHARES_STANDARD; fields = numbers 6 payload }

pub is_share : (payload : List ℕ) → IsBytes payload → length payload ≡ 24 → MsgOf mining_table kinds.SUBMIT_SHARES_STANDARD payload (share_message payload)
is_share payload fits long = record {
  same_kind = refl;
  types = types 6;
  row = refl;
  spelled = numbers_spelled 6 payload fits long;
}

-- no bit of an extension type is set but the channel bit
plain : (ext : ℕ) → ext < 2 ^ 16 → ext % 0x8000 ≡ 0 → IsPlainOrChannel ext
plain ext fits none = elim (cases_lt ext 0x8000) [
  | inl few ↦ inl (omega (arith, none))
  | inr many ↦ inr (omega (arith, none))
]

-- of a plain header of a share's kind the length decides
pub length_decides : (ext kind len : ℕ) → ext < 2 ^ 16 → len < 2 ^ 24 → ext % 0x8000 ≡ 0 → kind ≡ kinds.SUBMIT_SHARES_STANDARD
    → IsTrue (nat_eq len 24) ↔ IsShareHeader (header_of ext kind len)
length_decides ext kind len ext_fits len_fits none is = (
  λ long. (ext, plain ext ext_fits none, ap (λ k. header_of ext k len) is ∙ ap (λ n. header_of ext kinds.SUBMIT_SHARES_STANDARD n) (eqb-true len 24 long)),
  λ header.
      let says = ap payload_length header.2 in
      let long : len ≡ 24 = sym (payload_length-header ext kind len [] len_fits) ∙ says ∙ payload_length-header header.0 kinds.SUBMIT_SHARES_STANDARD 24 [] (omega arith) in
      rw long refl,
)
