use Rattle.std.proofs.Common.{◌≡◌, true, sym, ap, ◌∙◌}
use Rattle.std.specs.Option.{is_some}
use Rattle.block_header.specs.Hash.{meets}
use Rattle.stream_programs.specs.Answers.{first_refusal, hash_of}
use Rattle.stream_programs.proofs.Keeping.{refused_more}
use Rattle.stream_programs.proofs.judge.Judge.judge.Goals as goal

pub returns-else-is_none-clause-remembers : goal.returns-else-is_none-clause-remembers
returns-else-is_none-clause-remembers c = λ earlier remembers r strong.
    let old = c.args.self.now in
    let new = c.first_refusal-refusal.new.self in
    let told = c.first_refusal-refusal.ensures in
    let now = told.remembers earlier remembers in
    let refused : is_some (first_refusal old.class old.job earlier c.args.share.now) ≡ true =
    ap is_some (sym (told.verdict earlier remembers)) ∙ c.if-is_none.ensures in
    let before : meets (hash_of old.job r) old.class ≡ true =
    ap (λ j. meets (hash_of j r) old.class) (sym told.job)
    ∙ ap (λ z. meets (hash_of new.job r) z) (sym told.class) ∙ strong in
    now r strong ∙ sym (refused_more old.class old.job earlier c.args.share.now r before refused)
