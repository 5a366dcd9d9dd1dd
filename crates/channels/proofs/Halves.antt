-- The class at a place, by a walk and by halves.
use Rattle.std.proofs.Common.{◌≡◌, ℕ, zero, suc, ◌<◌, ◌≤◌, Bool, true, false, cond, Option, None, Some, List, [], ◌∷◌, ◌++◌, length, map, get_or, refl, ap, ◌∙◌, arith}
use Rattle.std.proofs.lemmas.List.{map-append, reverse-append}
use Rattle.std.specs.List.{AllWithin}
use Rattle.std.specs.Prelude.{find, nat_lt, reverse}
use Rattle.pool_history.specs.Channels.{ClassSet, class_before}
use Rattle.channels.specs.ClassSettings.{class_set, sets_of}
use Rattle.channels.specs.declared.settings.Setting.{Setting}

-- a setting's class, or else that of the opening
abbrev pub class_or : ℕ → Option Setting → ℕ
class_or opening None = opening
class_or opening (Some setting) = setting.class

-- the last setting before a place has its class there
pub class-found : (place opening : ℕ) (settings : List Setting)
    → class_or opening (find (λ setting. nat_lt setting.at place) settings) ≡ class_before place (map class_set settings) opening
class-found place opening [] = refl
class-found place opening (s ∷ older) = by_test (nat_lt s.at place) (class-found place opening older) where
  by_test : (t : Bool) → class_or opening (find (λ setting. nat_lt setting.at place) older) ≡ class_before place (map class_set older) opening
      → class_or opening (cond t (Some s) (find (λ setting. nat_lt setting.at place) older)) ≡ cond t s.class (class_before place (map class_set older) opening)
  by_test true rest = refl
  by_test false rest = rest

-- the first setting is asked last
class-last : (place opening : ℕ) (sets : List ClassSet) (first : ClassSet)
    → class_before place (sets ++ first ∷ []) opening ≡ class_before place sets (cond (nat_lt first.at place) first.class opening)
class-last place opening [] first = refl
class-last place opening (set ∷ sets) first = ap (λ n. cond (nat_lt set.at place) set.class n) (class-last place opening sets first)

pub sets-first : (s : Setting) (later : List Setting) → sets_of (s ∷ later) ≡ sets_of later ++ class_set s ∷ []
sets-first s later = ap (map class_set) (reverse-append (s ∷ []) later) ∙ map-append class_set (reverse later) (s ∷ [])

class-first : (place opening : ℕ) (s : Setting) (later : List Setting) (t : Bool) → nat_lt s.at place ≡ t
    → class_before place (sets_of (s ∷ later)) opening ≡ class_before place (sets_of later) (cond t s.class opening)
class-first place opening s later t is =
    ap (λ l. class_before place l opening) (sets-first s later) ∙ class-last place opening (sets_of later) (class_set s)
    ∙ ap (λ b. class_before place (sets_of later) (cond b s.class opening)) is

-- the class of the last of so many settings
abbrev pub last_of : ℕ → List Setting → ℕ → ℕ
last_of opening settings zero = opening
last_of opening [] (suc k) = opening
last_of opening (s ∷ later) (suc k) = last_of s.class later k

-- where so many settings stand before a place, and the others do not, the last of them counts there
pub class-parted : (place opening count : ℕ) (settings : List Setting) → AllWithin (λ setting. nat_lt setting.at place ≡ true) settings 0 count
    → AllWithin (λ setting. nat_lt setting.at place ≡ false) settings count (length settings) → count ≤ length settings
    → class_before place (sets_of settings) opening ≡ last_of opening settings count
class-parted place opening zero [] low high within = refl
class-parted place opening (suc count) [] low high within = absurd (omega (arith, within))
class-parted place opening zero (s ∷ later) low high within =
    class-first place opening s later false (high 0 s (omega arith) (omega arith))
    ∙ class-parted place opening zero later (λ k d from to. absurd (omega (arith, to))) (λ k d from to. high (suc k) d (omega arith) (omega (arith, to)))
    (omega arith)
class-parted place opening (suc count) (s ∷ later) low high within =
    class-first place opening s later true (low 0 s (omega arith) (omega arith))
    ∙ class-parted place s.class count later (λ k d from to. low (suc k) d (omega arith) (omega (arith, to)))
    (λ k d from to. high (suc k) d (omega (arith, from)) (omega (arith, to))) (omega (arith, within))

pub last-at : (opening k : ℕ) (settings : List Setting) (d : Setting) → k < length settings → last_of opening settings (suc k) ≡ (get_or settings k d).class
last-at opening k [] d within = absurd (omega (arith, within))
last-at opening zero (s ∷ later) d within = refl
last-at opening (suc k) (s ∷ later) d within = last-at s.class k later d (omega (arith, within))
