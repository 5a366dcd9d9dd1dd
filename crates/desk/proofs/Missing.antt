-- Which workers have a pass.
use Rattle.std.proofs.Common.{◌≡◌, ◌≢◌, ℕ, zero, suc, ◌<◌, List, [], ◌∷◌, length, get_or, map, sym, ap, ◌∙◌, arith}
use Rattle.std.specs.List.{Contains}

module _ {X : Type 0} (f : X → ℕ) where
  pub contains-at : (xs : List X) (i w : ℕ) (x : X) → i < length xs → x ≡ get_or xs i x → f x ≡ w → Contains (map f xs) w
  contains-at [] i w x less is at = absurd (omega arith)
  contains-at (y ∷ ys) zero w x less is at = (0, omega arith, ap f (sym is) ∙ at)
  contains-at (y ∷ ys) (suc i) w x less is at =
      let h = contains-at ys i w x (omega arith) is at in
      (suc h.0, omega (arith, h.1), h.2)

  not-at : (xs : List X) (w k : ℕ) → ((j : ℕ) (d : X) → j < length xs → f (get_or xs j d) ≢ w) → k < length (map f xs) → get_or (map f xs) k w ≡ w → ⊥
  not-at [] w k none less is = omega (arith, less)
  not-at (y ∷ ys) w zero none less is = none 0 y (omega arith) is
  not-at (y ∷ ys) w (suc k) none less is = not-at ys w k (λ j d l. none (suc j) d (omega arith)) (omega arith) is

  pub not-found : (xs : List X) (w : ℕ) → ((j : ℕ) (d : X) → j < length xs → f (get_or xs j d) ≢ w) → Contains (map f xs) w → ⊥
  not-found xs w none h = not-at xs w h.0 none h.1 h.2

  pub some-there : (xs : List X) (w : ℕ) → Contains (map f xs) w → 0 < length xs
  some-there [] w h = let less = h.1 in absurd (omega arith)
  some-there (y ∷ ys) w h = omega arith
