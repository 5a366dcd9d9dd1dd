use Rattle.std.proofs.Common.{◌≡◌, ℕ, ◌+◌, ◌-◌, ◌≤◌, min, List, ◌++◌, length, take, drop, sym, ap, ◌∙◌, subst, inl, inr, arith, rules}
use Rattle.std.proofs.lemmas.Bool.{cases_lt}
use Rattle.std.proofs.lemmas.List.{append-nil, nil_from_length, length-take-le, length-drop, take_rest}
use Rattle.sv2_frames.specs.Holding.{frame_end}
use Rattle.sv2_frames.proofs.Cutting.{IsBytes}
use Rattle.sv2_frames.proofs.Feeding.{fed_bytes, fed_end, present_after, nothing_taken, taken_nothing}
use Rattle.sv2_frames.proofs.Standing.{IsBytes-take, full_stands, full_is, cut_takes_all}
use Rattle.sv2_frames.proofs.buffer.take_in.Goals as goal

pub returns-clause-bytes : goal.returns-clause-bytes
returns-clause-bytes c =
    let joined : c.args.held + (c.fill-first.result + c.fill-second.result) ≡ c.args.held + c.fill-first.result + c.fill-second.result = omega arith in
    ap (λ n. take n c.fill-second.new.buffer) joined
    ∙ fed_bytes _ _ _ c.args.piece.now c.fill-first.result c.fill-second.result c.fill-first.ensures.bytes c.fill-second.ensures.bytes

pub returns-clause-end : goal.returns-clause-end
returns-clause-end c =
    let piece = c.args.piece.now in
    let old : List ℕ = take c.args.held c.args.buffer.now in
    let first = c.fill-first.result in
    let len : length old ≡ c.args.held = length-take-le c.args.held c.args.buffer.now (omega (arith, c.requires.room, c.requires.within)) in
    let start : first ≡ min (6 - length old) (length piece) = rw len c.fill-first.ensures.count in
    let rest : length (take (length piece - first) (drop first piece)) ≡ length piece - first = ap length (take_rest piece first) ∙ length-drop first piece in
    let end : c.frame_end-end.result ≡ frame_end c.args.limit (old ++ take first piece) =
    c.frame_end-end.ensures ∙ ap (frame_end c.args.limit) c.fill-first.ensures.bytes in
    let next : c.fill-second.result ≡ min (frame_end c.args.limit (old ++ take first piece) - (length old + first)) (length piece - first) =
    rw (len, ← end, ← rest) c.fill-second.ensures.count in
    fed_end c.args.limit old piece _ first c.fill-second.result (omega (arith, len, c.requires.present)) start next (returns-clause-bytes c)

pub returns-clause-within : goal.returns-clause-within
returns-clause-within c =
    let piece = c.args.piece.now in
    let first = c.fill-first.result in
    omega (arith, c.fill-first.ensures.count, c.fill-second.ensures.count, length-drop first piece, ap length (take_rest piece first))

pub returns-clause-none : goal.returns-clause-none
returns-clause-none c =
    let piece = c.args.piece.now in
    let limit = c.args.limit in
    let taken = c.fill-first.result + c.fill-second.result in
    let old : List ℕ = take c.args.held c.args.buffer.now in
    let new : List ℕ = take (c.args.held + taken) c.fill-second.new.buffer in
    let len : length old ≡ c.args.held = length-take-le c.args.held c.args.buffer.now (omega (arith, c.requires.room, c.requires.within)) in
    let present : length old ≤ frame_end limit old = omega (arith, len, c.requires.present) in
    let bytes : new ≡ old ++ take taken piece = returns-clause-bytes c in
    let end : new ≡ take (frame_end limit (old ++ piece)) (old ++ piece) = returns-clause-end c in
    let fits : taken ≤ length piece = returns-clause-within c in (
      λ zero. elim (cases_lt 0 (length piece)) [
        | inl some ↦
            let same : new ≡ old = bytes ∙ ap (λ n. old ++ take n piece) zero ∙ append-nil old in
            let stands = nothing_taken limit old piece some present (sym same ∙ end) in
            let are_bytes : IsBytes old = subst IsBytes same (IsBytes-take (c.args.held + taken) c.fill-second.new.buffer (λ i. omega (arith, c.type_inv.buffer i))) in
            inr (full_stands limit old are_bytes stands.0 stands.1)
        | inr none ↦ inl (nil_from_length piece (omega arith))
      ],
      λ given. elim given [
        | inl none ↦ omega (arith, ap length none, fits)
        | inr full ↦
            let stands = full_is limit old full in
            taken_nothing limit taken old piece stands.0 stands.1 fits (sym bytes ∙ end)
      ],
    )

pub returns-clause-kept : goal.returns-clause-kept
returns-clause-kept c =
    let limit = c.args.limit in
    let old : List ℕ = take c.args.held c.args.buffer.now in
    let all : List ℕ = old ++ c.args.piece.now in
    let held : ℕ = c.args.held + (c.fill-first.result + c.fill-second.result) in
    let new : List ℕ = take held c.fill-second.new.buffer in
    let room : held ≤ limit + 6 = search rules in
    let end : new ≡ take (frame_end limit all) all = returns-clause-end c in
    let len : length new ≡ held = length-take-le held c.fill-second.new.buffer (omega arith) in
    let present : length new ≤ frame_end limit new = rw end (present_after limit all) in
    record { room = search rules; within = room; present = omega (arith, present, len) }

pub returns-clause-all : goal.returns-clause-all
returns-clause-all c =
    let piece = c.args.piece.now in
    let old : List ℕ = take c.args.held c.args.buffer.now in
    let taken = c.fill-first.result + c.fill-second.result in
    let are_bytes : IsBytes (take (c.args.held + taken) c.fill-second.new.buffer) =
    IsBytes-take (c.args.held + taken) c.fill-second.new.buffer (λ i. omega (arith, c.type_inv.buffer i)) in
    cut_takes_all c.args.limit taken old piece _ (returns-clause-bytes c) (returns-clause-end c) (returns-clause-within c) are_bytes
