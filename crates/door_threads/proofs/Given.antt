-- What a network gave, and what came back of it.
use Rattle.std.proofs.Common.{◌≡◌, List, [], ◌∷◌, sym, ap, subst, ◌∙◌, arith}
use Rattle.pool_io.specs.Hosts.{CameBack}
use Rattle.pool_io.specs.Lending.{Lending, lent_one, with_back}
use Rattle.pool_network.specs.Networks.{GivesNext, NetworkSeen}
use Rattle.pool_network.specs.Seen.{DoorSeen, LinkSeen}
use Rattle.door_threads.specs.Places.{AreOpened, GivesBoth, Places}

-- what was given comes back behind the others, and as many are out as before
pub came_back : {T : Type 0} (old new : Lending T) (item : T) → new ≡ with_back (lent_one old) item → CameBack old new item
came_back {T} old new item is = record {
  lent = ap (λ (s : Lending T). s.lent) is ∙ (omega arith);
  back = ap (λ (s : Lending T). s.back) is;
}

-- both came back
pub gives_both : {places : Places} {old opened : NetworkSeen} {link : LinkSeen} {doors : List DoorSeen}
    → AreOpened places old opened link doors → (new : NetworkSeen) (link_back : LinkSeen) (doors_back : List DoorSeen)
    → new ≡ record opened { links = with_back opened.links link_back; doors = with_back opened.doors doors_back }
    → GivesBoth places old new link link_back doors doors_back
gives_both {old = old} {link = link} {doors = doors} out new link_back doors_back back = record {
  dialled = subst (λ left. GivesNext old.to_dial left (link ∷ [])) (sym (ap (λ (v : NetworkSeen). v.to_dial) back)) out.dialled;
  opened = subst (λ left. GivesNext old.to_open left doors) (sym (ap (λ (v : NetworkSeen). v.to_open) back)) out.opened;
  as_many = out.as_many;
  links =
      came_back old.links new.links link_back
      (ap (λ (v : NetworkSeen). v.links) back ∙ ap (λ (l : Lending LinkSeen). with_back l link_back) out.links);
  lists =
      came_back old.doors new.doors doors_back
      (ap (λ (v : NetworkSeen). v.doors) back ∙ ap (λ (l : Lending (List DoorSeen)). with_back l doors_back) out.lists);
  faults = ap (λ (v : NetworkSeen). v.faults) back ∙ out.faults;
  calls = ap (λ (v : NetworkSeen). v.calls) back ∙ out.calls;
}
