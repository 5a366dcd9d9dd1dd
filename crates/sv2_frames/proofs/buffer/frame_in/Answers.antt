use Rattle.std.proofs.Common.{◌<◌, ◌≤◌, ◌-◌, length, take, drop, ap, refl, arith, rules}
use Rattle.std.proofs.lemmas.List.{take_rest}
use Rattle.std.proofs.lemmas.Grind.{common_steps}
use Rattle.sv2_frames.specs.Framing.{payload_length}
use Rattle.sv2_frames.specs.Holding.{HoldsOver, IsHeldFrame}
use Rattle.sv2_frames.proofs.Cutting.{IsBytes, cut_short, cut_behind_header, short_not_over, within_not_over}
use Rattle.sv2_frames.proofs.Standing.{frame_is_held}
use Rattle.sv2_frames.proofs.buffer.frame_in.Goals as goal

pub returns-in_default-clause-none : goal.returns-in_default-clause-none
returns-in_default-clause-none c =
    let held = c.args.held.now in
    let fits : IsBytes held = λ i. omega (arith, c.type_inv.held i) in
    let short : length held < 6 = search rules in
    (λ _. record { cut = cut_short held fits short; not_over = short_not_over _ short }, λ _. refl)

pub returns-then-header-limit-clause-none : goal.returns-then-header-limit-clause-none
returns-then-header-limit-clause-none c =
    let over : HoldsOver c.in-Some.header.len (record { held = c.args.held.now; limit = c.args.limit }) = grind (arith, common_steps) in
    (λ none. absurd none, λ within. within.not_over _ over)

pub returns-then-payload-header-clause-none : goal.returns-then-payload-header-clause-none
returns-then-payload-header-clause-none c =
    let held = c.args.held.now in
    let header = c.in-Some.header in
    let short : length (drop 6 held) < header.len = omega (arith, c.if-payload-header.true, ap length (take_rest held 6)) in
    let within : payload_length held ≤ c.args.limit = omega (arith, c.in-Some.ensures.says, c.if-header-limit.false) in (
      λ _. record {
        cut = cut_behind_header header.ext header.kind header.len held (search rules) (search rules) c.in-Some.ensures.fits c.in-Some.ensures.header short;
        not_over = within_not_over _ within;
      },
      λ _. refl,
    )

pub returns-clause-held : goal.returns-clause-held
returns-clause-held c =
    let held = c.args.held.now in
    let frame : IsHeldFrame c.in-Some.header.ext c.in-Some.header.kind (take (length held - 6) (drop 6 held)) (record { held = held; limit = c.args.limit }) =
    grind (arith, common_steps) in
    frame_is_held _ _ _ _ frame
