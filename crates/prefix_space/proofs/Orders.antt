-- Leads that don't overlap differ.
use Rattle.std.proofs.Common.{◌≡◌, ℕ, Bool, true, false, List, [], ◌∷◌, ◌++◌, refl, ap, sym, ◌∙◌}
use Rattle.std.proofs.lemmas.Bool.{false≢true, or_from}
use Rattle.std.proofs.lemmas.Slice.Eq.{bytes_eq-Decides}
use Rattle.std.specs.List.{AllByRecursion}
use Rattle.std.specs.Str.{bytes_eq}
use Rattle.pool_history.specs.Spaces.{overlap}
use Rattle.history_laws.proofs.Holding.{fronts-overlap}
use Rattle.prefix_space.specs.HeldLeads.{is_held}

pub apart-differ : (a b : List ℕ) → overlap a b ≡ false → bytes_eq b a ≡ false
apart-differ a b apart = by_test (bytes_eq b a) refl where
  by_test : (t : Bool) → bytes_eq b a ≡ t → bytes_eq b a ≡ false
  by_test false is = is
  by_test true is =
      let same : b ≡ a = (bytes_eq-Decides b a).0 is in
      absurd (false≢true (sym apart ∙ fronts-overlap a b [] [] (ap (λ l. l ++ []) (sym same))))

pub none-same : (lead : List ℕ) (held : List (List ℕ)) → AllByRecursion (λ other. overlap lead other ≡ false) held → is_held held lead ≡ false
none-same lead [] apart = refl
none-same lead (l ∷ held) apart = or_from (bytes_eq l lead) (is_held held lead) (apart-differ lead l apart.0) (none-same lead held apart.1)
