-- Settings that nothing asks for are forgotten.
use Rattle.std.proofs.Common.{◌≡◌, ℕ, suc, ◌<◌, Bool, true, false, cond, List, [], ◌∷◌, ◌++◌, length, map, take, drop, get_or, refl, ap, sym, ◌∙◌, arith}
use Rattle.std.proofs.Math.Seq.{drop-cons, drop-length, take-length, take-suc}
use Rattle.std.proofs.lemmas.List.{append_assoc, append-nil, reverse-append}
use Rattle.std.specs.Prelude.{nat_le, nat_lt}
use Rattle.channels.specs.ClassSettings.{class_set, sets_of}
use Rattle.channels.specs.Cuts.{asked_since, without_unasked}
use Rattle.channels.specs.declared.settings.Setting.{Setting}
use Rattle.channels.proofs.Halves.{sets-first}

-- one setting more is the last that was set
pub sets-pushed : (settings : List Setting) (s : Setting) → sets_of (settings ++ s ∷ []) ≡ class_set s ∷ sets_of settings
sets-pushed settings s = ap (map class_set) (reverse-append settings (s ∷ []))

-- so is the last of the first settings
sets-taken : (settings : List Setting) (j : ℕ) (d : Setting) → j < length settings → sets_of (take (suc j) settings) ≡ class_set (get_or settings j d) ∷ sets_of (take j settings)
sets-taken settings j d within = ap sets_of (take-suc settings j d within) ∙ sets-pushed (take j settings) (get_or settings j d)

-- and the first of the later ones was set first
sets-dropped : (settings : List Setting) (j : ℕ) (d : Setting) → j < length settings
    → sets_of (drop j settings) ≡ sets_of (drop (suc j) settings) ++ class_set (get_or settings j d) ∷ []
sets-dropped settings j d within = ap sets_of (drop-cons settings j d within) ∙ sets-first (get_or settings j d) (drop (suc j) settings)

-- all of them, the last one apart
taken : (settings : List Setting) (j : ℕ) (d : Setting) → length settings ≡ suc j → j < length settings
    → sets_of settings ≡ class_set (get_or settings j d) ∷ sets_of (take j settings)
taken settings j d long within =
    ap sets_of (sym (ap (λ n. take n settings) (sym long) ∙ take-length settings)) ∙ sets-taken settings j d within

-- the last setting goes where it isn't asked for
pub last-goes : (newest : ℕ) (settings : List Setting) (j : ℕ) (d : Setting) → length settings ≡ suc j → j < length settings → nat_le newest (get_or settings j d).at ≡ true
    → sets_of (take j settings) ≡ without_unasked newest (sets_of settings)
last-goes newest settings j d long within is =
    sym
    (ap (without_unasked newest) (taken settings j d long within)
    ∙ ap (λ t. cond t (sets_of (take j settings)) (class_set (get_or settings j d) ∷ sets_of (take j settings))) is)

-- and stays where it is
pub last-stays : (newest : ℕ) (settings : List Setting) (j : ℕ) (d : Setting) → length settings ≡ suc j → j < length settings → nat_le newest (get_or settings j d).at ≡ false
    → sets_of settings ≡ without_unasked newest (sets_of settings)
last-stays newest settings j d long within is =
    taken settings j d long within
    ∙ sym
    (ap (without_unasked newest) (taken settings j d long within)
    ∙ ap (λ t. cond t (sets_of (take j settings)) (class_set (get_or settings j d) ∷ sets_of (take j settings))) is)

-- none is there to go
pub none-goes : (newest : ℕ) (settings : List Setting) → length settings ≡ 0 → sets_of settings ≡ without_unasked newest (sets_of settings)
none-goes newest [] none = refl
none-goes newest (s ∷ settings) none = absurd (omega (arith, none))

-- what is asked for among settings, where so many are still to be looked at
abbrev pub AreLookedAt : ℕ → List Setting → ℕ → Type 0
AreLookedAt oldest settings count = asked_since oldest (sets_of settings) ≡ sets_of (drop count settings) ++ asked_since oldest (sets_of (take count settings))

pub none-looked_at : (oldest : ℕ) (settings : List Setting) → AreLookedAt oldest settings (length settings)
none-looked_at oldest settings =
    sym
    (ap (λ l. sets_of l ++ asked_since oldest (sets_of (take (length settings) settings))) (drop-length settings)
    ∙ ap (λ l. asked_since oldest (sets_of l)) (take-length settings))

-- one more is looked at
next : (oldest : ℕ) (settings : List Setting) (j : ℕ) (d : Setting) (t : Bool) → j < length settings → nat_lt (get_or settings j d).at oldest ≡ t
    → AreLookedAt oldest settings (suc j)
    → asked_since oldest (sets_of settings)
    ≡ sets_of (drop (suc j) settings)
    ++ cond t (class_set (get_or settings j d) ∷ []) (class_set (get_or settings j d) ∷ asked_since oldest (sets_of (take j settings)))
next oldest settings j d t within is looked =
    looked ∙ ap (λ l. sets_of (drop (suc j) settings) ++ asked_since oldest l) (sets-taken settings j d within)
    ∙ ap (λ b. sets_of (drop (suc j) settings)
    ++ cond b (class_set (get_or settings j d) ∷ []) (class_set (get_or settings j d) ∷ asked_since oldest (sets_of (take j settings)))) is

pub one-stays : (oldest : ℕ) (settings : List Setting) (j : ℕ) (d : Setting) → j < length settings → nat_lt (get_or settings j d).at oldest ≡ false
    → AreLookedAt oldest settings (suc j) → AreLookedAt oldest settings j
one-stays oldest settings j d within is looked =
    next oldest settings j d false within is looked
    ∙ sym (append_assoc (sets_of (drop (suc j) settings)) (class_set (get_or settings j d) ∷ []) (asked_since oldest (sets_of (take j settings))))
    ∙ ap (λ l. l ++ asked_since oldest (sets_of (take j settings))) (sym (sets-dropped settings j d within))

-- it is the last before the place: none before it is asked for
pub one-found : (oldest : ℕ) (settings : List Setting) (j : ℕ) (d : Setting) → j < length settings → nat_lt (get_or settings j d).at oldest ≡ true
    → AreLookedAt oldest settings (suc j) → sets_of (drop j settings) ≡ asked_since oldest (sets_of settings)
one-found oldest settings j d within is looked = sets-dropped settings j d within ∙ sym (next oldest settings j d true within is looked)

-- or all are asked for
pub none-found : (oldest : ℕ) (settings : List Setting) → AreLookedAt oldest settings 0 → sets_of settings ≡ asked_since oldest (sets_of settings)
none-found oldest settings looked = sym (looked ∙ append-nil (sets_of settings))
