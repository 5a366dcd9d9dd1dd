-- Frames that are put one after the other.
use Rattle.std.proofs.Common.{◌≡◌, ℕ, ◌+◌, ◌<◌, List, [], ◌∷◌, ◌++◌, length, drop, Option, sym, ap, ◌∙◌, append_assoc, add-one, arith, drop-cons, length-drop}
use Rattle.pool_base.specs.Lists.{Begins}
use Rattle.pool_io.specs.Outside.{AddsBytes}
use Rattle.pool_io.proofs.Puts.{Adds-more}
use Rattle.session_steps.specs.Steps.{bytes_of_frames}

-- behind the first of what is left stands the rest
pub drop_next : {B : Type 0} (frames : List B) (number : ℕ) (frame : B) (later : List B) → drop number frames ≡ frame ∷ later → drop (number + 1) frames ≡ later
drop_next frames number frame later is =
    let some : number < length frames = omega (arith, length-drop number frames, ap length is) in
    let whole = sym (drop-cons frames number frame some) ∙ is in
    rw add-one (cc whole)

module _ (frames : List (List ℕ)) (before now : Option (List ℕ)) (number next : ℕ) (old new : List ℕ)
    (put : (front : List ℕ) × (front ++ bytes_of_frames (drop number frames) ≡ bytes_of_frames frames) × AddsBytes before now front)
    (none : old ≡ []) (part : (frame : List ℕ) × (later : List (List ℕ)) × (drop number frames ≡ frame ∷ later) × (next ≡ number + 1) × (new ≡ old ++ frame)) where
  same : new ≡ part.0
  same = part.4 ∙ ap (λ l. l ++ part.0) none

  whole : put.0 ++ (new ++ bytes_of_frames part.1) ≡ bytes_of_frames frames
  whole = ap (λ l. put.0 ++ (l ++ bytes_of_frames part.1)) same ∙ ap (λ l. put.0 ++ bytes_of_frames l) (sym part.2) ∙ put.1

  pub part_more : (after : Option (List ℕ)) → AddsBytes now after new
      → (front : List ℕ) × (front ++ bytes_of_frames (drop next frames) ≡ bytes_of_frames frames) × AddsBytes before after front
  part_more after added = (
    put.0 ++ new,
    ap (λ n. (put.0 ++ new) ++ bytes_of_frames (drop n frames)) part.3
        ∙ ap (λ l. (put.0 ++ new) ++ bytes_of_frames l) (drop_next frames number part.0 part.1 part.2) ∙ append_assoc put.0 new (bytes_of_frames part.1) ∙ whole,
    Adds-more before now after put.0 new put.2 added,
  )

  pub part_front : (bytes : List ℕ) (after : Option (List ℕ)) → Begins bytes new → AddsBytes now after bytes
      → (front : List ℕ) × Begins front (bytes_of_frames frames) × AddsBytes before after front
  part_front bytes after begins added = (
    put.0 ++ bytes,
    (
      begins.0 ++ bytes_of_frames part.1,
      append_assoc put.0 bytes (begins.0 ++ bytes_of_frames part.1)
          ∙ ap (λ l. put.0 ++ l) (sym (append_assoc bytes begins.0 (bytes_of_frames part.1)) ∙ ap (λ l. l ++ bytes_of_frames part.1) begins.1) ∙ whole,
    ),
    Adds-more before now after put.0 bytes put.2 added,
  )
