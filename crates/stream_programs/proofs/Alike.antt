-- Headers that begin alike are what they begin with, and their tails.
use Rattle.std.proofs.Common.{◌≡◌, ℕ, suc, arith, List, [], ◌∷◌, ◌++◌, map, drop, refl, sym, ap, ◌∙◌}
use Rattle.std.proofs.lemmas.List.{take-append-drop}
use Rattle.stream_programs.specs.Fronts.{BeginWith}

pub map-tails : (f : List ℕ → List ℕ) (front : List ℕ) (headers : List (List ℕ))
    → BeginWith front headers
    → map (λ tail. f (front ++ tail)) (map (drop 64) headers) ≡ map f headers
map-tails f front [] alike = refl
map-tails f front (h ∷ hs) alike =
    let whole : front ++ drop 64 h ≡ h =
    ap (λ (b : List ℕ). b ++ drop 64 h) (sym (alike 0 [] (omega arith))) ∙ take-append-drop 64 h in
    λ i. f (whole i) ∷ map-tails f front hs (λ k d lt. alike (suc k) d (omega arith)) i
