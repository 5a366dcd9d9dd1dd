use Rattle.std.proofs.Common.{◌≡◌, ℕ, ◌-◌, ◌^◌, false, List, length, refl, sym, ap, ◌∙◌, arith}
use Rattle.std.specs.Prelude.{min}
use Rattle.std.proofs.lemmas.List.{append-nil}
use Rattle.sv2_frames.specs.Holding.{Holding}
use Rattle.test_miner.specs.declared.script.ScriptReader.{ScriptReader}
use Rattle.test_miner.specs.ScriptValues.{ScriptValue}
use Rattle.test_miner.proofs.ScriptRead.{bad_read, cut_read, fresh_script, over_read, whole_read}
use Rattle.test_miner.proofs.script.Script.read.Goals as goal

-- the reader that reads nothing yet
abbrev reader : ScriptValue → ScriptReader
reader script = record { script = script; count = 0; lacks_memory = false }

pub returns-then-held-eq0 : goal.returns-then-held-eq0
returns-then-held-eq0 c =
    let run = rw (append-nil c.args.bytes.now) at c.in-Done.ensures in
    let empty = c.in_ok-splitter.ensures.empty in
    let small : c.in_ok-splitter.splitter.limit ≡ min (length c.args.bytes.now) (2 ^ 24 - 1) = omega (arith, ap (λ (h : Holding). h.limit) empty, c.min-limit.ensures) in
    let fresh = c.new-2.ensures ∙ ap (λ (b : List ℕ). fresh_script b) c.in_ok-copy.ensures in
    whole_read c.args.bytes.now c.in_ok-splitter.splitter (reader c.new-2.result) c.run-end.new.taker c.run-end.new.self (ap (λ (h : Holding). h.held) empty) small refl c.if-reader.false run
    (sym c.held.ensures.count ∙ c.if-held-eq0.true) fresh

pub returns-in-Done : goal.returns-in-Done
returns-in-Done c =
    let run = rw (append-nil c.args.bytes.now) at c.in-Done.ensures in
    let empty = c.in_ok-splitter.ensures.empty in
    let small : c.in_ok-splitter.splitter.limit ≡ min (length c.args.bytes.now) (2 ^ 24 - 1) = omega (arith, ap (λ (h : Holding). h.limit) empty, c.min-limit.ensures) in
    cut_read c.args.bytes.now c.in_ok-splitter.splitter (reader c.new-2.result) c.run-end.new.taker c.run-end.new.self (ap (λ (h : Holding). h.held) empty) small refl c.if-reader.false run
    (λ none. c.if-held-eq0.false (c.held.ensures.count ∙ ap length none))

pub returns-in-Stopped : goal.returns-in-Stopped
returns-in-Stopped c =
    let run = rw (append-nil c.args.bytes.now) at c.in-Stopped.ensures in
    let empty = c.in_ok-splitter.ensures.empty in
    let small : c.in_ok-splitter.splitter.limit ≡ min (length c.args.bytes.now) (2 ^ 24 - 1) = omega (arith, ap (λ (h : Holding). h.limit) empty, c.min-limit.ensures) in
    bad_read c.args.bytes.now c.in_ok-splitter.splitter (reader c.new-2.result) c.run-end.new.taker c.run-end.new.self (ap (λ (h : Holding). h.held) empty) small refl c.if-reader.false run

pub returns : goal.returns
returns c =
    let run = rw (append-nil c.args.bytes.now) at c.in-TooLong.ensures in
    let empty = c.in_ok-splitter.ensures.empty in
    let small : c.in_ok-splitter.splitter.limit ≡ min (length c.args.bytes.now) (2 ^ 24 - 1) = omega (arith, ap (λ (h : Holding). h.limit) empty, c.min-limit.ensures) in
    over_read c.args.bytes.now c.in_ok-splitter.splitter (reader c.new-2.result) c.run-end.new.taker c.run-end.new.self (ap (λ (h : Holding). h.held) empty) small refl c.if-reader.false c.in-TooLong.field-0 run
