-- Contents that have room.
use Rattle.std.proofs.Common.{◌≡◌, ◌⊎◌, inl, inr, ℕ, ◌-◌, ◌≤◌, List, [], ◌∷◌, ◌++◌, length, take, drop, sym, subst, arith}
use Rattle.std.proofs.lemmas.List.{take_all}
use Rattle.ledger_disk.specs.Memory.{HaveRoom}
use Rattle.ledger_disk.specs.Moments.{Moment}

-- more room is room
pub room_grows : (less more : ℕ) → less ≤ more → (moments : List Moment) → HaveRoom less moments → HaveRoom more moments
room_grows less more grows [] rooms = tt
room_grows less more grows (moment ∷ moments) rooms = (omega (arith, rooms.0), room_grows less more grows moments rooms.1)

-- one more moment with room
pub room_behind : (room : ℕ) (moments : List Moment) (last : Moment) → HaveRoom room moments → length last.content ≤ room → HaveRoom room (moments ++ last ∷ [])
room_behind room [] last rooms fits = (fits, tt)
room_behind room (moment ∷ moments) last rooms fits = (rooms.0, room_behind room moments last rooms.1 fits)

-- the latest moment joins the earlier ones
pub room_pushed : (room : ℕ) (earlier : List Moment) (latest next : Moment) → (earlier ≡ []) ⊎ HaveRoom room (latest ∷ earlier)
    → length latest.content ≤ room → length next.content ≤ room → HaveRoom room (next ∷ earlier ++ latest ∷ [])
room_pushed room earlier latest next (inl none) before fits = (fits, subst (λ (l : List Moment). HaveRoom room (l ++ latest ∷ [])) (sym none) (before, tt))
room_pushed room earlier latest next (inr rooms) before fits = (fits, room_behind room earlier latest rooms.1 before)

-- as does more room
pub room_kept : (less more : ℕ) → less ≤ more → (earlier : List Moment) (latest : Moment) → (earlier ≡ []) ⊎ HaveRoom less (latest ∷ earlier)
    → (earlier ≡ []) ⊎ HaveRoom more (latest ∷ earlier)
room_kept less more grows earlier latest (inl none) = inl none
room_kept less more grows earlier latest (inr rooms) = inr (room_grows less more grows (latest ∷ earlier) rooms)

-- what is behind the first moment has room, too
pub room_rest : (less more : ℕ) → less ≤ more → (moments : List Moment) → HaveRoom less moments → HaveRoom more (take (length moments - 1) (drop 1 moments))
room_rest less more grows [] rooms = tt
room_rest less more grows (moment ∷ moments) rooms =
    subst (λ (l : List Moment). HaveRoom more l) (sym (take_all (length (moment ∷ moments) - 1) moments (omega arith))) (room_grows less more grows moments rooms.1)
