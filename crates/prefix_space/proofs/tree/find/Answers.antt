use Rattle.std.proofs.Common.{◌≡◌, ℕ, ◌+◌, ◌<◌, ◌≤◌, ◌++◌, ◌∷◌, [], Some, List, length, ap, subst, sym, ◌∙◌, arith, length-append}
use Rattle.std.specs.Prelude.{nat_eq}
use Rattle.std.specs.List.{AllByRecursion}
use Rattle.indexmap.specs.IndexMap.{get}
use Rattle.history_laws.proofs.NotesFit.{all-append}
use Rattle.prefix_space.specs.Paths.{IsPrefix}
use Rattle.prefix_space.specs.Trees.{nodes_of}
use Rattle.prefix_space.proofs.Finding.{IsOpen, find-leaf, find-missing, find-none, find-start, find-step}
use Rattle.prefix_space.proofs.tree.find.Goals as goal

-- the path of the search is a prefix
is-prefix : (len level : ℕ) (path : List ℕ) → AllByRecursion (λ byte. byte < 256) path → length path ≡ level → level < len → len ≤ 4 → IsPrefix path
is-prefix len level path each long below most = record { most = omega (arith, long, below, most); each = each }

pub loop-level-init : goal.loop-level-init
loop-level-init g c = record {
  long = ap length c.root-path.ensures;
  each = subst (AllByRecursion (λ byte. byte < 256)) (sym c.root-path.ensures) tt;
  opens = λ held fits. subst (IsOpen c.args.len held) (sym c.root-path.ensures) (find-start c.args.len held);
  cost = omega arith;
}

pub returns-in_default-clause-value : goal.returns-in_default-clause-value
returns-in_default-clause-value g c held fits =
    ap (λ l. Some l) c.lead.ensures
    ∙ find-missing c.args.len held (nodes_of c.args.nodes.now) c.loop-level.path fits
    (is-prefix c.args.len c.loop-level._level c.loop-level.path c.loop-level.invariant.each c.loop-level.invariant.long c.loop-level-test.true c.requires.most)
    (sym (c.in_default.ensures.value ∙ ap (get nat_eq c.args.nodes.now) c.key.ensures)) (omega (arith, c.loop-level.invariant.long, c.loop-level-test.true))
    (c.loop-level.invariant.opens held fits)

pub returns-in_default-first_zero-clause-value : goal.returns-in_default-first_zero-clause-value
returns-in_default-first_zero-clause-value g c held fits =
    find-none c.args.len held (nodes_of c.args.nodes.now) c.loop-level.path c.in-Some.node.now fits
    (is-prefix c.args.len c.loop-level._level c.loop-level.path c.loop-level.invariant.each c.loop-level.invariant.long c.loop-level-test.true c.requires.most)
    (sym (c.in-Some.ensures.value ∙ ap (get nat_eq c.args.nodes.now) c.key.ensures)) (omega (arith, c.loop-level.invariant.long, c.loop-level-test.true)) c.requires.most
    c.in_default-first_zero.ensures.value (c.loop-level.invariant.opens held fits)

pub loop-level-preserved : goal.loop-level-preserved
loop-level-preserved g c =
    let longer : length (c.loop-level.path ++ c.in-Some-first_zero.byte ∷ []) ≡ length c.loop-level.path + 1 = length-append c.loop-level.path (c.in-Some-first_zero.byte ∷ []) in
    let next : length c.then-path.result ≡ length (c.loop-level.path ++ c.in-Some-first_zero.byte ∷ []) = ap length c.then-path.ensures in
    record {
      long = omega (arith, longer, next, c.loop-level.invariant.long);
      each =
          subst (AllByRecursion (λ byte. byte < 256)) (sym c.then-path.ensures)
          (all-append (λ byte. byte < 256) c.loop-level.path (c.in-Some-first_zero.byte ∷ []) c.loop-level.invariant.each (c.in-Some-first_zero.ensures.within, tt));
      opens = λ held fits.
          subst (IsOpen c.args.len held) (sym c.then-path.ensures)
          (find-step c.args.len held (nodes_of c.args.nodes.now) c.loop-level.path c.in-Some.node.now c.in-Some-first_zero.byte fits
          (is-prefix c.args.len c.loop-level._level c.loop-level.path c.loop-level.invariant.each c.loop-level.invariant.long c.loop-level-test.true c.requires.most)
          (sym (c.in-Some.ensures.value ∙ ap (get nat_eq c.args.nodes.now) c.key.ensures)) (omega (arith, c.loop-level.invariant.long, c.loop-level-test.true)) c.requires.most
          c.in-Some-first_zero.ensures.within c.in-Some-first_zero.ensures.value.0 c.in-Some-first_zero.ensures.value.1 (c.loop-level.invariant.opens held fits));
      cost = omega (arith, c.loop-level.invariant.cost, c.first_zero.ensures.cost);
    }

pub returns-clause-value : goal.returns-clause-value
returns-clause-value g c held fits =
    ap (λ l. Some l) c.lead-2.ensures
    ∙ find-leaf c.args.len held c.loop-level.path c.loop-level.invariant.each
    (omega (arith, c.loop-level.invariant.long, c.loop-level-test.false, c.loop-level.auto._level-end)) c.requires.some (c.loop-level.invariant.opens held fits)
