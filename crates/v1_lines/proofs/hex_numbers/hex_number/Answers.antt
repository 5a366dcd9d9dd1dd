use Rattle.std.proofs.Common.{◌-◌, length, ap, ◌∙◌, arith}
use Rattle.v1_lines.specs.HexNumbers.{number_behind}
use Rattle.v1_lines.proofs.Digits.{zeros_before, hex_number-digits}
use Rattle.v1_lines.proofs.hex_numbers.hex_number.Goals as goal

pub returns-then-text-le-MOST_DIGITS : goal.returns-then-text-le-MOST_DIGITS
returns-then-text-le-MOST_DIGITS c =
    let text = c.args.text.now in
    c.number_in.ensures ∙ ap (number_behind 0) c.padded.ensures ∙ zeros_before (8 - length text) text
    ∙ hex_number-digits text (omega arith) (omega arith)
