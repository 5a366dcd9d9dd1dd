use Rattle.std.proofs.Common.{◌∷◌, [], ap, length, ◌∙◌, arith}
use Rattle.std.specs.Prelude.{slice_index}
use Rattle.std.specs.Int.{from_be_bytes, w64}
use Rattle.prefix_space.proofs.Keys.{short-lead, whole-key}
use Rattle.prefix_space.proofs.paths.key_of.Goals as goal

pub returns-clause-value : goal.returns-clause-value
returns-clause-value c =
    c.spelled.ensures.value
    ∙ ap (λ n. from_be_bytes w64 (0 ∷ 0 ∷ 0 ∷ n ∷ slice_index c.padded.result.now 0 ∷ slice_index c.padded.result.now 1 ∷ slice_index c.padded.result.now 2 ∷ slice_index c.padded.result.now 3 ∷ [])) c.len.ensures.value
    ∙ ap (λ l. from_be_bytes w64 (0 ∷ 0 ∷ 0 ∷ length c.args.lead.now ∷ slice_index l 0 ∷ slice_index l 1 ∷ slice_index l 2 ∷ slice_index l 3 ∷ [])) c.padded.ensures
    ∙ whole-key c.args.lead.now (omega (arith, c.len.ensures.some, c.len.ensures.value)) (omega (arith, c.len.ensures.most, c.len.ensures.value))

pub returns-clause-short : goal.returns-clause-short
returns-clause-short c =
    short-lead c.args.lead.now c.padded.result.now (omega (arith, c.len.ensures.some, c.len.ensures.value)) (omega (arith, c.len.ensures.most, c.len.ensures.value))
    c.padded.ensures c.spelled.ensures.bytes
