use Rattle.std.proofs.Common.{◌≡◌, ◌∙◌, ◌-◌, ◌*◌, ◌%◌, ◌^◌, ◌++◌, ◌∷◌, [], replicate, take, arith}
use Rattle.std.proofs.lemmas.List.{append_assoc, take-replicate}
use Rattle.std.specs.Int.{w64, to_be_bytes}
use Rattle.sha256_lanes.proofs.common_text.pad.Goals as goal

pub returns : goal.returns
returns c =
    let text = c.args.text.now.items in
    let count = (119 - c.args.total % 64) % 64 in
    let bits = to_be_bytes w64 (c.args.total * 8 % 2 ^ 64) in
    let first : c.push.new.self.items ≡ text ++ 0x80 ∷ [] = c.in_ok-push.ensures.items in
    let zeros : c.extend_from_slice.new.self.items ≡ c.push.new.self.items ++ take count (replicate 64 0) = c.in_ok-extend_from_slice.ensures.items in
    c.in_ok-extend_from_slice-2.ensures.items
    ∙ (λ t. (zeros ∙ (λ u. first u ++ take-replicate count 64 0 (omega arith) u)) t ++ c.to_be_bytes.ensures t)
    ∙ append_assoc (text ++ 0x80 ∷ []) (replicate count 0) bits
    ∙ append_assoc text (0x80 ∷ []) (replicate count 0 ++ bits)
