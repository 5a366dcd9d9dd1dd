use Rattle.std.proofs.Common.{◌≡◌, ℕ, List, slice_index, length, refl, ap, ◌*◌, ◌∙◌, arith}
use Rattle.std.proofs.lemmas.List.{length-map}
use Rattle.sha2.specs.Sha256.{add_state, compress, rounds}
use Rattle.sha2.proofs.Schedule256.{IsRoundsAt_at, IsWindow_first}
use Rattle.sha256_lanes.specs.Lanes.{lane}
use Rattle.sha256_lanes.proofs.rounds.compress_words.Goals as goal

pub schedule-init : goal.schedule-init
unfolding rounds
schedule-init c = λ l lt b words.
    let w = c.args.words in
    let long : length w ≡ 16 = omega arith in
    let window = IsWindow_first b (lane l w) (length-map w (λ (v : List ℕ). slice_index v l) ∙ long) words in
    (window, c.sixteen_first-v.ensures l lt b (lane l c.args.state) window refl)

pub schedule-preserved : goal.schedule-preserved
schedule-preserved c = λ l lt b words.
    let h = lane l c.args.state in
    IsRoundsAt_at b h _ _ _ _ (omega arith) (c.sixteen_steps-next.ensures l lt b h (c.schedule.invariant l lt b words))

pub returns : goal.returns
unfolding compress
returns c = λ l lt b words.
    let done : 16 * c.schedule.turn ≡ 64 = omega (arith, c.schedule.auto.turn-end (omega arith)) in
    c.add_state.ensures l lt ∙ ap (add_state (lane l c.args.state)) (rw done at (c.schedule.invariant l lt b words).1)
