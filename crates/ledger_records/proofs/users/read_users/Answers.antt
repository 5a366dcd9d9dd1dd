use Rattle.std.proofs.Common.{◌≡◌, ℕ, List, [], ap, drop, length, length-drop, ◌∙◌, arith}
use Rattle.ledger_records.proofs.Accounts.{no_next, no_more}
use Rattle.ledger_records.proofs.users.read_users.Goals as goal

pub returns-in-Err : goal.returns-in-Err
returns-in-Err c = λ others counted texts utf8 is.
    no_next c.args.accounts.now (drop c.loop-place.reader.at c.args.accounts.now) c.loop-place.users.items others c.loop-place.invariant.texts texts utf8
    (omega (arith, c.loop-place.invariant.counted, counted, c.loop-place-test.true)) c.loop-place.invariant.spelled is
    (λ value spelled more spells e.
    c.in-Err.ensures.only value spelled more spells (ap (λ (x : List ℕ). drop c.loop-place.reader.at x) c.loop-place.invariant.same ∙ e))

pub returns-then-left-gt0 : goal.returns-then-left-gt0
returns-then-left-gt0 c = λ others counted texts utf8 is.
    let nothing : drop c.loop-place.reader.at c.args.accounts.now ≡ [] =
    no_more c.args.accounts.now (drop c.loop-place.reader.at c.args.accounts.now) c.loop-place.users.items others c.loop-place.invariant.texts texts
    (omega (arith, c.loop-place.invariant.counted, counted, c.loop-place-test.false, c.loop-place.auto._place-end)) c.loop-place.invariant.spelled is in
    absurd (omega (arith, length-drop c.loop-place.reader.at c.args.accounts.now, ap length nothing, ap length c.loop-place.invariant.same, c.left.ensures, c.if-left-gt0.true))
