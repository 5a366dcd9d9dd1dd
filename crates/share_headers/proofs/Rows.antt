-- Rows of hashes, each with its own way up.
use Rattle.std.proofs.Common.{◌≡◌, ℕ, ◌+◌, List, [], ◌∷◌, ◌++◌, map, take, refl, sym, ap, ◌∙◌}
use Rattle.std.proofs.lemmas.List.{reverse-append}
use Rattle.block_header.specs.Hash.{dsha}
use Rattle.block_header.specs.Root.{root, root_upward}

-- two maps, one after the other
pub map_twice : {X Y Z : Type 0} (f : Y → Z) (g : X → Y) (xs : List X)
    → map f (map g xs) ≡ map (λ x. f (g x)) xs
map_twice f g [] = refl
map_twice f g (x ∷ xs) = λ i. f (g x) ∷ map_twice f g xs i

-- one hash more on the way up
root_more : (path : List (List ℕ)) (i : ℕ) (sibling id : List ℕ)
    → take (i + 1) path ≡ take i path ++ sibling ∷ []
    → dsha (root id (take i path) ++ sibling) ≡ root id (take (i + 1) path)
root_more path i sibling id next =
    ap (root_upward id) (sym (reverse-append (take i path) (sibling ∷ []))) ∙ ap (root id) (sym next)

pub roots_more : (path : List (List ℕ)) (i : ℕ) (sibling : List ℕ) (ids : List (List ℕ))
    → take (i + 1) path ≡ take i path ++ sibling ∷ []
    → map (λ hash. dsha (hash ++ sibling)) (map (λ id. root id (take i path)) ids)
    ≡ map (λ id. root id (take (i + 1) path)) ids
roots_more path i sibling [] next = refl
roots_more path i sibling (id ∷ ids) next =
    λ t. root_more path i sibling id next t ∷ roots_more path i sibling ids next t
