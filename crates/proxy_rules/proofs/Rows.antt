-- What a change of a miner leaves: its caller, whether it is joined, and its seat.
use Rattle.std.proofs.Common.{◌≡◌, ℕ, ◌==◌, true, false, Option, None, Some, List, [], ◌∷◌, map, inl, inr, refl, sym, ap, ◌∙◌}
use Rattle.std.specs.Prelude.{is_some}
use Rattle.std.proofs.lemmas.Bool.{cases_Bool}
use Rattle.serde_json.specs.Data.{Data}
use Rattle.v1_translate.specs.Heard.{Told}
use Rattle.v1_translate.specs.State.{Terms, Saying}
use Rattle.proxy_rules.specs.Miners.{at_caller, is_joined, relayed_seat, relayed_session, relayed_to, seat_in, told_all, told_session, told_to, with_line}
use Rattle.proxy_rules.specs.State.{Miner, Seat, SentOn, Session}
use Rattle.proxy_rules.specs.Steps.{handed_over, handed_over_session, line_said, line_said_by, named, named_session, said_each}

pub record SameRow (old new : Miner) : Type 0 where
  pub caller : new.caller ≡ old.caller
  pub seat : seat_in new.session ≡ seat_in old.session
  pub joined : is_some new.session ≡ is_some old.session

pub same_row : (miner : Miner) → SameRow miner miner
same_row miner = record { caller = refl; seat = refl; joined = refl }

pub row_after : (a b c : Miner) → SameRow a b → SameRow b c → SameRow a c
row_after a b c one other =
    record {
      caller = other.caller ∙ one.caller;
      seat = other.seat ∙ one.seat;
      joined = other.joined ∙ one.joined;
    }

-- ---- changes of one miner

told_by_session : (terms : Terms) (told : Told) (miner : Miner) (session : Option Session) → miner.session ≡ session
    → SameRow miner (told_session terms told miner session)
told_by_session terms told miner None is = same_row miner
told_by_session terms told miner (Some session) is =
    record { caller = refl; seat = sym (ap seat_in is); joined = sym (ap is_some is) }

pub told_row : (terms : Terms) (told : Told) (miner : Miner) → SameRow miner (told_to terms told miner)
told_row terms told miner = told_by_session terms told miner miner.session refl

pub told_all_row : (terms : Terms) (told : List Told) (miner : Miner) → SameRow miner (told_all terms told miner)
told_all_row terms [] miner = same_row miner
told_all_row terms (x ∷ told) miner =
    row_after miner (told_to terms x miner) (told_all terms told (told_to terms x miner)) (told_row terms x miner)
    (told_all_row terms told (told_to terms x miner))

relayed_by_seat : (terms : Terms) (told : Told) (miner : Miner) (session : Session) (seat : Option Seat)
    → miner.session ≡ Some session → session.seat ≡ seat → SameRow miner (relayed_seat terms told miner session seat)
relayed_by_seat terms told miner session None is at = same_row miner
relayed_by_seat terms told miner session (Some seat) is at =
    record { caller = refl; seat = sym (ap seat_in is ∙ at); joined = sym (ap is_some is) }

relayed_by_session : (terms : Terms) (told : Told) (miner : Miner) (session : Option Session) → miner.session ≡ session
    → SameRow miner (relayed_session terms told miner session)
relayed_by_session terms told miner None is = same_row miner
relayed_by_session terms told miner (Some session) is = relayed_by_seat terms told miner session session.seat is refl

pub relayed_row : (terms : Terms) (told : Told) (miner : Miner) → SameRow miner (relayed_to terms told miner)
relayed_row terms told miner = relayed_by_session terms told miner miner.session refl

pub line_row : (said : Saying) (miner : Miner) → SameRow miner (with_line said miner)
line_row said miner = record { caller = refl; seat = refl; joined = refl }

said_by_session : (terms : Terms) (line : List ℕ) (miner : Miner) (session : Option Session) → miner.session ≡ session
    → SameRow miner (line_said_by terms line miner session)
said_by_session terms line miner None is = same_row miner
said_by_session terms line miner (Some session) is =
    record { caller = refl; seat = sym (ap seat_in is); joined = sym (ap is_some is) }

pub said_row : (terms : Terms) (line : List ℕ) (miner : Miner) → SameRow miner (line_said terms line miner)
said_row terms line miner = said_by_session terms line miner miner.session refl

named_by_session : (account : List ℕ) (miner : Miner) (session : Option Session) → miner.session ≡ session
    → SameRow miner (named_session account miner session)
named_by_session account miner None is = same_row miner
named_by_session account miner (Some session) is =
    record { caller = refl; seat = sym (ap seat_in is); joined = sym (ap is_some is) }

pub named_row : (account : List ℕ) (miner : Miner) → SameRow miner (named account miner)
named_row account miner = named_by_session account miner miner.session refl

handed_by_session : (sequence : ℕ) (miner : Miner) (session : Option Session) → miner.session ≡ session
    → SameRow miner (handed_over_session sequence miner session)
handed_by_session sequence miner None is = same_row miner
handed_by_session sequence miner (Some session) is =
    record { caller = refl; seat = sym (ap seat_in is); joined = sym (ap is_some is) }

pub handed_row : (sequence : ℕ) (miner : Miner) → SameRow miner (handed_over sequence miner)
handed_row sequence miner = handed_by_session sequence miner miner.session refl

-- ---- changes of all

abbrev pub SameRows : List Miner → List Miner → Type 0
SameRows [] [] = Unit {0}
SameRows [] (b ∷ bs) = ⊥
SameRows (a ∷ as') [] = ⊥
SameRows (a ∷ as') (b ∷ bs) = SameRow a b × SameRows as' bs

pub same_rows : (miners : List Miner) → SameRows miners miners
same_rows [] = tt
same_rows (miner ∷ miners) = (same_row miner, same_rows miners)

pub rows_after : (xs ys zs : List Miner) → SameRows xs ys → SameRows ys zs → SameRows xs zs
rows_after [] [] [] one other = tt
rows_after [] [] (z ∷ zs) one other = absurd other
rows_after [] (y ∷ ys) zs one other = absurd one
rows_after (x ∷ xs) [] zs one other = absurd one
rows_after (x ∷ xs) (y ∷ ys) [] one other = absurd other
rows_after (x ∷ xs) (y ∷ ys) (z ∷ zs) one other = (row_after x y z one.0 other.0, rows_after xs ys zs one.1 other.1)

pub at_rows : (caller : ℕ) (change : Miner → Miner) (miners : List Miner) → ((miner : Miner) → SameRow miner (change miner))
    → SameRows miners (at_caller caller change miners)
at_rows caller change [] keeps = tt
at_rows caller change (miner ∷ miners) keeps = elim (cases_Bool (miner.caller == caller)) [
  | inl here ↦ rw here (keeps miner, same_rows miners)
  | inr other ↦ rw other (same_row miner, at_rows caller change miners keeps)
]

-- one change instead of another, where they leave the same
pub at_rows_both : (caller : ℕ) (one other : Miner → Miner) (miners : List Miner) → ((miner : Miner) → SameRow (one miner) (other miner))
    → SameRows (at_caller caller one miners) (at_caller caller other miners)
at_rows_both caller one other [] keeps = tt
at_rows_both caller one other (miner ∷ miners) keeps = elim (cases_Bool (miner.caller == caller)) [
  | inl here ↦ rw here (keeps miner, same_rows miners)
  | inr there ↦ rw there (same_row miner, at_rows_both caller one other miners keeps)
]

pub map_rows : (change : Miner → Miner) (miners : List Miner) → ((miner : Miner) → SameRow miner (change miner))
    → SameRows miners (map change miners)
map_rows change [] keeps = tt
map_rows change (miner ∷ miners) keeps = (keeps miner, map_rows change miners keeps)

pub said_rows : (said : Data → Saying) (list : List SentOn) (miners : List Miner) → SameRows miners (said_each said list miners)
said_rows said [] miners = same_rows miners
said_rows said (sent ∷ more) miners =
    rows_after miners (at_caller sent.caller (with_line (said sent.id)) miners) (said_each said more (at_caller sent.caller (with_line (said sent.id)) miners))
    (at_rows sent.caller (with_line (said sent.id)) miners (line_row (said sent.id)))
    (said_rows said more (at_caller sent.caller (with_line (said sent.id)) miners))

-- ---- who is joined

pub joined_same : (caller : ℕ) (xs ys : List Miner) → SameRows xs ys → is_joined caller ys ≡ is_joined caller xs
joined_same caller [] [] rows = refl
joined_same caller [] (y ∷ ys) rows = absurd rows
joined_same caller (x ∷ xs) [] rows = absurd rows
joined_same caller (x ∷ xs) (y ∷ ys) rows = elim (cases_Bool (x.caller == caller)) [
  | inl here ↦
      let there : (y.caller == caller) ≡ true = ap (λ c. c == caller) rows.0.caller ∙ here in
      rw (here, there) rows.0.joined
  | inr other ↦
      let there : (y.caller == caller) ≡ false = ap (λ c. c == caller) rows.0.caller ∙ other in
      rw (other, there) (joined_same caller xs ys rows.1)
]
