-- One put after another.
use Rattle.std.proofs.Common.{◌≡◌, ℕ, ◌-◌, List, ◌++◌, length, take, drop, Option, Some, None, sym, ap, ◌∙◌, append_assoc, append-nil, length-drop, []}
use Rattle.std.proofs.lemmas.List.{take-append-drop}
use Rattle.std.proofs.Math.Seq.{take-length}
use Rattle.pool_io.specs.Outside.{AddsBytes}

pub Adds-more : (a b c : Option (List ℕ)) (x y : List ℕ) → AddsBytes a b x → AddsBytes b c y → AddsBytes a c (x ++ y)
Adds-more None b c x y first then = tt
Adds-more (Some held) b c x y first then =
    let more = rw first at then in
    more ∙ ap Some (append_assoc held x y)

-- the first n bytes of the rest were put
pub put_more : (before now after : Option (List ℕ)) (bytes rest : List ℕ) (n : ℕ)
    → (front : List ℕ) × (front ++ rest ≡ bytes) × AddsBytes before now front
    → AddsBytes now after (take n rest)
    → (front : List ℕ) × (front ++ take (length rest - n) (drop n rest) ≡ bytes) × AddsBytes before after front
put_more before now after bytes rest n put taken =
    let whole : take (length rest - n) (drop n rest) ≡ drop n rest = rw (← length-drop n rest) (take-length (drop n rest)) in (
      put.0 ++ take n rest,
      rw whole (append_assoc put.0 (take n rest) (drop n rest) ∙ ap (λ r. put.0 ++ r) (take-append-drop n rest) ∙ put.1),
      Adds-more before now after put.0 (take n rest) put.2 taken,
    )

-- nothing more is held
pub Adds-none : (held : Option (List ℕ)) → AddsBytes held held []
Adds-none None = tt
Adds-none (Some bytes) = ap Some (sym (append-nil bytes))
