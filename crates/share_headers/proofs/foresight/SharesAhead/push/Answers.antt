use Rattle.std.proofs.Common.{arith, ◌≡◌, ◌∙◌, ◌<◌, sym, length}
use Rattle.std.proofs.lemmas.Bool.{le-ltb}
use Rattle.share_headers.proofs.Ahead.{goes-on-by-its-job, none-goes-on-four}
use Rattle.share_headers.proofs.foresight.SharesAhead.push.Goals.{then-self-lt3, else-self-lt3}
use Rattle.share_headers.proofs.foresight.SharesAhead.push.Goals as goal

pub returns-then-is_taken-clause-taken : goal.returns-then-is_taken-clause-taken
returns-then-is_taken-clause-taken c =
    let four : length c.self.inside.candidates ≡ 4 = search in
    let within : c.self.inside.others < length c.self.inside.candidates = omega arith in
    rw (← c.self.view_is) (elim c.if-self-lt3.branch [
      | then-self-lt3 w ↦ w.is_taken-is ∙ goes-on-by-its-job c.self.inside.candidates c.self.inside.others c.args.candidate w.index-self-0.result within w.if-self-lt3.true
      | else-self-lt3 w ↦ w.is_taken-is ∙ le-ltb c.self.inside.others 3 w.if-self-lt3.false
          ∙ sym (none-goes-on-four c.self.inside.candidates c.self.inside.others c.args.candidate within w.if-self-lt3.false)
    ])

pub returns-else-is_taken-clause-taken : goal.returns-else-is_taken-clause-taken
returns-else-is_taken-clause-taken c =
    let four : length c.self.inside.candidates ≡ 4 = search in
    let within : c.self.inside.others < length c.self.inside.candidates = omega arith in
    rw (← c.self.view_is) (elim c.if-self-lt3.branch [
      | then-self-lt3 w ↦ w.is_taken-is ∙ goes-on-by-its-job c.self.inside.candidates c.self.inside.others c.args.candidate w.index-self-0.result within w.if-self-lt3.true
      | else-self-lt3 w ↦ w.is_taken-is ∙ le-ltb c.self.inside.others 3 w.if-self-lt3.false
          ∙ sym (none-goes-on-four c.self.inside.candidates c.self.inside.others c.args.candidate within w.if-self-lt3.false)
    ])
