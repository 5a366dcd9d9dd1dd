use Rattle.command_line.proofs.OneForm.{alone, off_disk, one_form}
use Rattle.command_line.proofs.top_call.run_alone.Goals as goal

pub returns-in-Some-clause-does : goal.returns-in-Some-clause-does
returns-in-Some-clause-does g c = λ form is. record {
  status = c.perform_alone.result;
  told_as = c.code-in-Some.ensures;
  owed = rw (one_form c.args.words.now form c.in-Some.form is c.in-Some.ensures.found) c.perform_alone.ensures.row;
}

pub returns-in-Some-clause-alone : goal.returns-in-Some-clause-alone
returns-in-Some-clause-alone g c = λ none. c.perform_alone.ensures.alone (alone c.args.words.now c.in-Some.form c.in-Some.ensures.found none)

pub returns-in-Some-clause-undisked : goal.returns-in-Some-clause-undisked
returns-in-Some-clause-undisked g c = λ none. c.perform_alone.ensures.undisked (off_disk c.args.words.now c.in-Some.form c.in-Some.ensures.found none)

pub returns-in-Some-clause-counts : goal.returns-in-Some-clause-counts
returns-in-Some-clause-counts g c = λ none undisked.
    rw c.code-in-Some.ensures
    (c.perform_alone.ensures.counts (alone c.args.words.now c.in-Some.form c.in-Some.ensures.found none) (off_disk c.args.words.now c.in-Some.form c.in-Some.ensures.found undisked))
