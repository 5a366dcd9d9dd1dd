use Rattle.std.proofs.Common.{◌<◌, ◌^◌, length, arith, refl, sym, ◌∙◌}
use Rattle.sv2_types.specs.Fields.{STR0_255, Bytes}
use Rattle.sv2_types.specs.Spelling.{spelled_u8}
use Rattle.sv2_types.proofs.Moved.{content_of, length-content, moved_content, only_value, no_value, defect-text, text_is_good, text_is_bad}
use Rattle.sv2_types.proofs.reading.Reader.str255.Goals as goal

pub returns-in-Ok-clause-refused : goal.returns-in-Ok-clause-refused
returns-in-Ok-clause-refused c =
    let there = defect-text _ _ _ _ _ c.in_ok-part.ensures.taken c.in_ok-part.ensures.count c.rest.ensures c.said_u8-len.ensures.value in
    text_is_good _ c.in-Ok.ensures.cases.1 ∙ sym there

pub returns-in-Err-clause-refused : goal.returns-in-Err-clause-refused
returns-in-Err-clause-refused c =
    let there = defect-text _ _ _ _ _ c.in_ok-part.ensures.taken c.in_ok-part.ensures.count c.rest.ensures c.said_u8-len.ensures.value in
    text_is_bad _ c.in-Err.ensures.cases.0 ∙ sym there

pub returns-in-Err-clause-only : goal.returns-in-Err-clause-only
returns-in-Err-clause-only c = no_value STR0_255 _ _ (returns-in-Err-clause-refused c)

pub returns-in-Ok-clause-only : goal.returns-in-Ok-clause-only
returns-in-Ok-clause-only c =
    let moves = moved_content 1 _ spelled_u8 _ _ _ _ c.in_ok-part.ensures.taken c.in_ok-part.ensures.count c.rest.ensures c.said_u8-len.ensures.spelled in
    let short = length-content 1 c.said_u8-len.result c.in_ok-part.part.now c.in_ok-part.ensures.count in
    let fits : length (content_of 1 c.in_ok-part.part.now) < 2 ^ 8 = omega (arith, short) in
    rw c.in-Ok.ensures.cases.0
    (only_value STR0_255 (Bytes _) _ _ _ (record { admits = (fits, c.in-Ok.ensures.cases.1); form = refl }) moves)
