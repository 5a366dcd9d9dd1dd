-- One step after another, each of which may fail (this project's own).
use Rattle.std.specs.Prelude.{Result, Ok, Err}

-- the first failure ends the steps
infixl 10 ◌>>=◌
abbrev pub ◌>>=◌ : {A B E : Type 0} → Result A E → (A → Result B E) → Result B E
(Ok x) >>= f = f x
(Err e) >>= f = Err e
