-- A list of one door was given, and came back.
use Rattle.std.proofs.Common.{◌≡◌, ℕ, ◌-◌, List, [], ◌∷◌, ◌++◌, Ok, map, length, get_or, set, sym, ap, ◌∙◌, subst, refl, arith}
use Rattle.pool_io.specs.Lending.{Lending, lent_one, with_back}
use Rattle.pool_network.specs.declared.network.Reaching.TheVariants as reaching
use Rattle.pool_network.specs.Networks.{GivesNext, NetworkSeen, calls_after}
use Rattle.pool_network.specs.Seen.{DoorSeen}
use Rattle.peer_commands.specs.Feeding.{LendsDoor}

module _ {D : Type 0} (seen : D → DoorSeen) where
  one_given : (items : List D) (door : D) → length items ≡ 1 → door ≡ get_or items 0 door → map seen items ≡ seen door ∷ []
  one_given [] door many is = absurd (omega (arith, many))
  one_given (first ∷ []) door many is = ap (λ d. seen d ∷ []) (sym is)
  one_given (first ∷ second ∷ others) door many is = absurd (omega (arith, many))

  one_back : (items : List D) (door : D) → length items ≡ 1 → map seen (set items 0 door) ≡ seen door ∷ []
  one_back [] door many = absurd (omega (arith, many))
  one_back (first ∷ []) door many = refl
  one_back (first ∷ second ∷ others) door many = absurd (omega (arith, many))

  pub lends_door : (address : List ℕ) (items : List D) (door door_back : D) (old given new : NetworkSeen) → GivesNext old.to_open given.to_open (map seen items)
      → length items ≡ 1 → door ≡ get_or items 0 door → given.doors ≡ lent_one old.doors
      → given ≡ record old { calls = given.calls; to_open = given.to_open; doors = given.doors }
      → given.calls ≡ calls_after {A = Unit {0}} (reaching.Doors address 1) (Ok tt) old.calls
      → new ≡ record given { doors = with_back given.doors (map seen (set items 0 door_back)) } → LendsDoor address old new (seen door) (seen door_back)
  lends_door address items door door_back old given new gives many is lent stays called back = record {
    opened =
        subst (λ o. GivesNext old.to_open o (seen door ∷ [])) (ap (λ (n : NetworkSeen). n.to_open) (sym back))
        (subst (GivesNext old.to_open given.to_open) (one_given items door many is) gives);
    lists = record {
      lent = ap (λ (n : NetworkSeen). n.doors.lent) back ∙ ap (λ (l : Lending (List DoorSeen)). l.lent - 1) lent ∙ omega arith;
      back =
          ap (λ (n : NetworkSeen). n.doors.back) back ∙ ap (λ (l : Lending (List DoorSeen)). l.back ++ map seen (set items 0 door_back) ∷ []) lent
          ∙ ap (λ doors. old.doors.back ++ doors ∷ []) (one_back items door_back many);
    };
    stays = λ i. record {
      faults = (ap (λ (n : NetworkSeen). n.faults) back ∙ ap (λ (n : NetworkSeen). n.faults) stays) i;
      calls = new.calls;
      to_dial = (ap (λ (n : NetworkSeen). n.to_dial) back ∙ ap (λ (n : NetworkSeen). n.to_dial) stays) i;
      to_open = new.to_open;
      links = (ap (λ (n : NetworkSeen). n.links) back ∙ ap (λ (n : NetworkSeen). n.links) stays) i;
      doors = new.doors;
    };
    calls = ap (λ (n : NetworkSeen). n.calls) back ∙ called;
  }
