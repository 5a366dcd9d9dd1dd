use Rattle.std.proofs.Common.{◌≡◌, ◌⊎◌, ℕ, ◌+◌, ◌≤◌, List, [], ◌++◌, length, take, ap, sym, ◌∙◌, refl, inl, inr, arith}
use Rattle.std.proofs.lemmas.Bool.{cases_lt}
use Rattle.std.proofs.lemmas.List.{length-append, length-take, length-take-le, nil_from_length}
use Rattle.v1_lines.specs.Lines.{line_end}
use Rattle.v1_lines.specs.Reading.{TakesPiece}
use Rattle.v1_lines.proofs.Held.{taken_is, one_line, nothing_taken, full_takes_nothing, text_takes_all}
use Rattle.v1_lines.proofs.buffer.take_in.Goals as goal

pub returns-clause-taken : goal.returns-clause-taken
returns-clause-taken c =
    let piece = c.args.piece.now in
    let held : List ℕ = take c.args.held c.args.buffer.now in
    let count = c.count_taken-count.result in
    let within : count ≤ length piece = c.count_taken-count.ensures.within in
    let part : length (take count piece) ≡ count = length-take-le count piece within in
    let bytes : take (c.args.held + count) c.put_behind.new.buffer ≡ held ++ take count piece =
    ap (λ n. take (c.args.held + n) c.put_behind.new.buffer) (sym part) ∙ c.put_behind.ensures in
    record { within = within; bytes = bytes; end = bytes ∙ taken_is held piece count within c.count_taken-count.ensures.count }

pub returns-clause-none : goal.returns-clause-none
returns-clause-none c =
    let piece = c.args.piece.now in
    let held : List ℕ = take c.args.held c.args.buffer.now in
    let count = c.count_taken-count.result in
    let counted = c.count_taken-count.ensures.count in
    let len : length held ≡ c.args.held = length-take-le c.args.held c.args.buffer.now (omega (arith, c.requires.room, c.requires.within)) in (
      λ zero. elim (cases_lt 0 (length piece)) [
        | inl some ↦ inr (nothing_taken held piece (omega (arith, len, c.requires.present)) some (omega (arith, zero, counted)))
        | inr none ↦ inl (nil_from_length piece (omega arith))
      ],
      λ given. elim given [
        | inl none ↦ omega (arith, ap length none, c.count_taken-count.ensures.within)
        | inr full ↦ full_takes_nothing held piece count full counted
      ],
    )

pub returns-clause-all : goal.returns-clause-all
returns-clause-all c =
    text_takes_all (take c.args.held c.args.buffer.now) c.args.piece.now _ c.count_taken-count.result (returns-clause-taken c) c.count_taken-count.ensures.count

pub returns-clause-kept : goal.returns-clause-kept
returns-clause-kept c =
    let held : List ℕ = take c.args.held c.args.buffer.now in
    let all : List ℕ = held ++ c.args.piece.now in
    let count = c.count_taken-count.result in
    let counted = c.count_taken-count.ensures.count in
    let len : length held ≡ c.args.held = length-take-le c.args.held c.args.buffer.now (omega (arith, c.requires.room, c.requires.within)) in
    let within : c.args.held + count ≤ 4097 = omega (arith, len, counted) in
    let room : length c.put_behind.new.buffer ≡ 4097 = omega (arith, c.requires.room, c.put_behind.auto.buffer) in
    let end = (returns-clause-taken c).end in
    let now : length (take (c.args.held + count) c.put_behind.new.buffer) ≡ c.args.held + count =
    length-take-le (c.args.held + count) c.put_behind.new.buffer (omega (arith, within, room)) in
    record {
      room = room;
      within = within;
      present = omega (arith, now, ap length end, ap line_end end, one_line all);
    }
