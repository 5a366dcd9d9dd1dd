-- A row of like steps before others: what goes through steps one by one, and what such a step adds.
use Rattle.std.proofs.Common.{◌≡◌, ℕ, List, ◌∷◌, ◌++◌, None, replicate, suc, zero, refl, ap, ◌∙◌}
use Rattle.pool_io.specs.Steps.{ReadStep}

abbrev pub row : ℕ → List ReadStep
row idles = replicate idles None

-- a step that changes nothing of it
pub unchanged_by : {A B : Type 0} (of : List A → B) (x : A) → ((xs : List A) → of (x ∷ xs) ≡ of xs) → (k : ℕ) (xs : List A) → of (replicate k x ++ xs) ≡ of xs
unchanged_by of x same zero xs = refl
unchanged_by of x same (suc k) xs = same (replicate k x ++ xs) ∙ unchanged_by of x same k xs

-- a step that is one Idle turn
pub row_before : {A : Type 0} (turns : List A → List ReadStep) (x : A) → ((xs : List A) → turns (x ∷ xs) ≡ None ∷ turns xs) → (k : ℕ) (xs : List A)
    → turns (replicate k x ++ xs) ≡ row k ++ turns xs
row_before turns x one zero xs = refl
row_before turns x one (suc k) xs = one (replicate k x ++ xs) ∙ ap (λ l. None ∷ l) (row_before turns x one k xs)
