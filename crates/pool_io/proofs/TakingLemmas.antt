-- What a source in memory gives of the piece that comes next.
use Rattle.std.proofs.Common.{◌≡◌, ℕ, zero, suc, ◌+◌, ◌-◌, ◌<◌, ◌≤◌, List, [], ◌∷◌, ◌++◌, length, get_or, take, drop, refl, ap, sym, ◌∙◌, arith, length-drop, drop-cons, add-one}
use Rattle.std.proofs.lemmas.List.{drop-drop, take_at, length-take-le}
use Rattle.std.proofs.Math.Seq.{take-length}
use Rattle.pool_io.specs.declared.turn.Turn.{Turn}
use Rattle.pool_io.specs.declared.turn.Turn.TheVariants.{Piece}
use Rattle.pool_io.specs.Outside.{turns_behind, TakesBytes}
use Rattle.pool_io.specs.Taking.{turns_from}

-- what is left of a piece is the first turn
turns_from-piece : (taken : ℕ) (piece : List ℕ) (later : List Turn) → turns_from taken (Piece piece ∷ later) ≡ Piece (drop taken piece) ∷ later
turns_from-piece zero piece later = refl
turns_from-piece (suc n) piece later = refl

rest_of-some : (bytes : List ℕ) (later : List Turn) → 0 < length bytes → turns_behind bytes later ≡ Piece bytes ∷ later
rest_of-some [] later some = absurd (omega arith)
rest_of-some (b ∷ bytes) later some = refl

rest_of-none : (bytes : List ℕ) (later : List Turn) → length bytes ≡ 0 → turns_behind bytes later ≡ later
rest_of-none [] later none = refl
rest_of-none (b ∷ bytes) later none = absurd (omega arith)

-- the turn at a place is the first of those from there on
pub first_at : (turns : List Turn) (next : ℕ) (t : Turn) → next < length turns → t ≡ get_or turns next t
    → drop next turns ≡ t ∷ drop (next + 1) turns
first_at turns next t within is = rw (add-one, drop-cons turns next t within, ← is) refl

-- of the piece's rest, n bytes were copied
module _ (taken next n : ℕ) (turns : List Turn) (piece copied tail : List ℕ)
    (first : drop next turns ≡ Piece piece ∷ drop (next + 1) turns)
    (copies : copied ≡ take n (take (length piece - taken) (drop taken piece)))
    (enough : n ≤ length piece - taken) where
  same_front : take n (copied ++ tail) ≡ take n (drop taken piece)
  same_front =
      let whole : take (length piece - taken) (drop taken piece) ≡ drop taken piece =
      (rw (← length-drop taken piece) (take-length (drop taken piece))) in
      let fits : n ≤ length (drop taken piece) = simp length-drop enough in
      let is : copied ≡ take n (drop taken piece) = copies ∙ ap (take n) whole in
      rw is (take_at (take n (drop taken piece)) tail n (length-take-le n (drop taken piece) fits))

  -- all of it was copied
  pub takes_all : n ≡ length piece - taken → TakesBytes (turns_from taken (drop next turns)) (drop (next + 1) turns) n (copied ++ tail)
  takes_all all = record {
    piece = drop taken piece;
    later = drop (next + 1) turns;
    next = rw first (turns_from-piece taken piece (drop (next + 1) turns));
    enough = simp length-drop enough;
    taken = same_front;
    rest = sym (rest_of-none (drop n (drop taken piece)) (drop (next + 1) turns) (simp length-drop (omega arith)));
  }

  -- some of it is left
  pub takes_part : n < length piece - taken → TakesBytes (turns_from taken (drop next turns)) (turns_from (taken + n) (drop next turns)) n (copied ++ tail)
  takes_part part = record {
    piece = drop taken piece;
    later = drop (next + 1) turns;
    next = rw first (turns_from-piece taken piece (drop (next + 1) turns));
    enough = simp length-drop enough;
    taken = same_front;
    rest = rw (
      first,
      turns_from-piece (taken + n) piece (drop (next + 1) turns),
      rest_of-some (drop n (drop taken piece)) (drop (next + 1) turns) (simp length-drop (omega arith)),
      drop-drop n taken piece,
    ) refl;
  }
