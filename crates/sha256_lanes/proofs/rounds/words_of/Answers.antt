use Rattle.std.proofs.Common.{◌≡◌, ℕ, List, [], slice_index, inl, inr, ap, ◌∙◌, arith}
use Rattle.std.proofs.lemmas.List.{get_or-set_same, get_or-set_other, length-set, length-replicate}
use Rattle.std.proofs.lemmas.Bool.{cases_lt}
use Rattle.sha256_lanes.proofs.LaneFacts.{lane_at}
use Rattle.sha256_lanes.proofs.rounds.words_of.Goals as goal

pub load-init : goal.load-init
load-init g c = (
  length-replicate g.row.W _,
  λ j lt k below. absurd (omega arith),
  λ some. absurd (omega arith),
)

pub load-preserved : goal.load-preserved
load-preserved g c = (
  length-set c.load.words c.load.i c.load_words.result ∙ c.load.invariant.0,
  λ j lt k below. elim (cases_lt k c.load.i) [
    | inl a ↦ ap (λ (v : List ℕ). slice_index v j) (get_or-set_other c.load.words c.load.i k c.load_words.result [] (omega arith)) ∙ c.load.invariant.1 j lt k a
    | inr b ↦
        let e : c.load.i ≡ k = omega arith in
        rw (← e) (ap (λ (v : List ℕ). slice_index v j) (get_or-set_same c.load.words c.load.i c.load_words.result [] (omega (arith, c.load.invariant.0))) ∙ c.load_words.ensures.words j lt)
  ],
  λ some. c.load_words.ensures.long,
)

pub returns-clause-words : goal.returns-clause-words
returns-clause-words g c = λ l lt k below.
    lane_at l c.load.words k ∙ c.load.invariant.1 l lt k (omega arith)

pub returns-clause-long : goal.returns-clause-long
returns-clause-long g c = λ l lt. c.load.invariant.2 (omega arith) l lt
