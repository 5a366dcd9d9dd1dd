-- What a crash may always leave, and what calls leave that were done.
use Rattle.std.proofs.Common.{◌≡◌, ◌⊎◌, inl, inr, ℕ, ◌+◌, ◌-◌, ◌≤◌, List, [], ◌∷◌, ◌++◌, length, min, take, drop, refl, sym, ◌∙◌, ap, arith, append_assoc, length-append, length-drop}
use Rattle.std.proofs.lemmas.List.{drop-drop, length-take, length-take-le, take_at, take_all, take_min}
use Rattle.std.proofs.Math.Seq.{drop-append-add}
use Rattle.ledger_disk.specs.declared.disk.Doing.{Doing}
use Rattle.ledger_disk.specs.declared.disk.Doing.TheVariants.{Wrote, CutTo, Synced}
use Rattle.ledger_disk.specs.Calls.{overwritten}
use Rattle.ledger_disk.specs.Moments.{BreaksOff, MayLeave, Moment, TornCut, TornWrite, content_if_synced, last_content, synced_content}

-- a write may not be done
pub write_undone : (at count : ℕ) (content : List ℕ) → TornWrite at count content content
write_undone at count content = record {
  before = refl;
  after = refl;
  no_shorter = omega arith;
  no_longer = omega arith;
}

-- or it is done in part
pub write_part : (at count : ℕ) (bytes content : List ℕ) → at ≤ length content → length bytes ≤ count → TornWrite at count content (overwritten at bytes content)
write_part at count bytes content inside some =
    let behind = drop (at + length bytes) content in
    let front = take at content ++ bytes in
    let front_size : length (take at content) ≡ at = length-take-le at content inside in
    let size : length front ≡ at + length bytes = omega (arith, front_size, length-append (take at content) bytes) in
    let whole : overwritten at bytes content ≡ take at content ++ (bytes ++ behind) = append_assoc (take at content) bytes behind in
    let more : ℕ = count - length bytes in
    record {
      before = ap (λ (l : List ℕ). take at l) whole ∙ take_at (take at content) (bytes ++ behind) at front_size;
      after = ap (λ (n : ℕ). drop n (front ++ behind)) (omega (arith, size, some)) ∙ drop-append-add front behind more
          ∙ drop-drop more (at + length bytes) content ∙ ap (λ (n : ℕ). drop n content) (omega (arith, some));
      no_shorter = omega (arith, length-append front behind, size, length-drop (at + length bytes) content);
      no_longer = omega (arith, length-append front behind, size, length-drop (at + length bytes) content, some);
    }

-- or it is done
pub write_done : (at : ℕ) (bytes content : List ℕ) → at ≤ length content → TornWrite at (length bytes) content (overwritten at bytes content)
write_done at bytes content inside = write_part at (length bytes) bytes content inside (omega arith)

-- a cut may not be done
pub cut_undone : (count : ℕ) (content : List ℕ) → TornCut count content content
cut_undone count content = record {
  no_shorter = omega arith;
  front = take_all (length content) content (omega arith);
}

-- or it is done
pub cut_done : (count : ℕ) (content : List ℕ) → TornCut count content (take count content)
cut_done count content = record {
  no_shorter = omega (arith, length-take count content);
  front = ap (λ (n : ℕ). take n content) (length-take count content) ∙ take_min count content;
}

-- a crash may leave what a read gives
pub content_left : (log : List Moment) → MayLeave log (last_content log)
content_left [] = refl
content_left (moment ∷ older) = inl refl

one_left : (older : List Moment) → MayLeave older (synced_content older) → (doing : Doing) (content : List ℕ)
    → (content_if_synced doing content (synced_content older) ≡ content)
    ⊎ ((before : List ℕ) × MayLeave older before × BreaksOff doing before (content_if_synced doing content (synced_content older)))
one_left older may (Wrote at count) content = inr (synced_content older, may, write_undone at count (synced_content older))
one_left older may (CutTo count) content = inr (synced_content older, may, cut_undone count (synced_content older))
one_left older may Synced content = inl refl

-- and what a read gave at the last sync
pub synced_left : (log : List Moment) → MayLeave log (synced_content log)
synced_left [] = refl
synced_left (moment ∷ older) = one_left older (synced_left older) moment.doing moment.content
