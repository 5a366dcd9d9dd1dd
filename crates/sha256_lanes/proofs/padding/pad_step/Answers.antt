use Rattle.std.proofs.Common.{◌∙◌, ℕ, ap, sym, slice_index, List}
use Rattle.sha2.specs.Sha256.{padding, round, round_constants, schedule}
use Rattle.sha2.proofs.Schedule256.{rounds_next}
use Rattle.sha256_lanes.proofs.Fixed.{sums_at}
use Rattle.sha256_lanes.proofs.padding.pad_step.Goals as goal

pub returns : goal.returns
returns c = λ l lt h held.
    let t = c.args.t in
    let ws = schedule (padding 64) 48 in
    c.round_with.ensures l lt (slice_index round_constants t) (slice_index ws t) (sums_at t c.requires)
    ∙ ap (λ (v : List ℕ). round v (slice_index round_constants t) (slice_index ws t)) held
    ∙ sym (rounds_next h ws t)
