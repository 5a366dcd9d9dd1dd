use Rattle.std.proofs.Common.{◌≡◌, Some, length, ap, ◌∙◌, arith}
use Rattle.v1_lines.proofs.Digits.{word_read, word_refused}
use Rattle.v1_lines.proofs.hex_numbers.number_in.Goals as goal

pub returns-in-Ok : goal.returns-in-Ok
returns-in-Ok c =
    let len : length c.args.digits ≡ 8 = omega arith in
    ap Some c.from_be_bytes.ensures ∙ word_read c.args.digits c.in-Ok.bytes len c.in-Ok.ensures

pub returns-in-Err : goal.returns-in-Err
returns-in-Err c =
    let len : length c.args.digits ≡ 8 = omega arith in
    word_refused c.args.digits c.in-Err.field-0 len c.in-Err.ensures
