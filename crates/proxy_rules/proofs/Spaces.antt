-- The two bytes of a lead tell it.
use Rattle.std.proofs.Common.{◌≡◌, ℕ, ◌+◌, ◌<◌, ◌==◌, ◌||◌, Bool, true, false, Option, None, Some, List, [], ◌∷◌, ◌++◌, length, take, refl, sym, ap, subst, ◌∙◌, arith, append_assoc}
use Rattle.std.specs.Int.{from_be_bytes, to_be_bytes, w16}
use Rattle.std.proofs.lemmas.Bool.{eq-eqb}
use Rattle.std.proofs.lemmas.List.{append_cancel_left, length-append, take_at}
use Rattle.std.proofs.lemmas.Nat.{from_be_bytes-to_be_bytes_2}
use Rattle.v1_translate.specs.Heard.{OpenedChannel}
use Rattle.proxy_rules.specs.declared.events.ProxyEvent.{ProxyEvent}
use Rattle.proxy_rules.specs.Laws.{AllFit, AreApart, AreSpaces, FitsChannel, IsApartFrom, IsInChannel, IsInSeat, is_among, lead_of, leads_in, seat_list, seats_in}
use Rattle.proxy_rules.specs.Miners.{lead_bytes, seat_in}
use Rattle.proxy_rules.specs.State.{Miner, Seat}
use Rattle.proxy_rules.specs.Steps.{after, started}
use Rattle.proxy_rules.proofs.Stepping.{leads_apart}

same_lead : (one other : ℕ) → one < 65536 → other < 65536 → lead_bytes one ≡ lead_bytes other → one ≡ other
same_lead one other small small' same =
    let back : from_be_bytes w16 (to_be_bytes w16 one) ≡ one = from_be_bytes-to_be_bytes_2 one (omega arith) in
    let back' : from_be_bytes w16 (to_be_bytes w16 other) ≡ other = from_be_bytes-to_be_bytes_2 other (omega arith) in
    sym back ∙ ap (from_be_bytes w16) same ∙ back'

pub one_lead : (prefix : List ℕ) (one other : ℕ) (behind behind' : List ℕ) → one < 65536 → other < 65536
    → prefix ++ lead_bytes one ++ behind ≡ prefix ++ lead_bytes other ++ behind' → one ≡ other
one_lead prefix one other behind behind' small small' same =
    let rest = append_cancel_left prefix (lead_bytes one ++ behind) (lead_bytes other ++ behind')
    (sym (append_assoc prefix (lead_bytes one) behind) ∙ same ∙ append_assoc prefix (lead_bytes other) behind') in
    same_lead one other small small'
    (sym (take_at (lead_bytes one) behind 2 refl) ∙ ap (take 2) rest ∙ take_at (lead_bytes other) behind' 2 refl)

-- ---- the spaces of seats

seat_within : (opened : OpenedChannel) (seat : Seat) → seat.rolled + 2 ≡ opened.rolled → (extranonce : List ℕ)
    → IsInSeat opened seat extranonce → IsInChannel opened extranonce
seat_within opened seat rolled extranonce is =
    record {
      rest = lead_bytes seat.lead ++ is.rest;
      whole = is.whole ∙ append_assoc opened.lead (lead_bytes seat.lead) is.rest;
      size =
          let two : length (lead_bytes seat.lead) ≡ 2 = refl in
          length-append (lead_bytes seat.lead) is.rest ∙ (let whole : length (lead_bytes seat.lead) + length is.rest ≡ opened.rolled = omega (arith, two, is.size, rolled) in whole);
    }

either_no : (a b : Bool) → (a || b) ≡ false → (a ≡ false) × (b ≡ false)
either_no true b none = absurd (cc)
either_no false b none = (refl, none)

two_apart : (opened : OpenedChannel) (seat other : Seat) → seat.lead < 65536 → other.lead < 65536 → (other.lead == seat.lead) ≡ false
    → (extranonce : List ℕ) → IsInSeat opened seat extranonce → ¬ (IsInSeat opened other extranonce)
two_apart opened seat other small small' differ extranonce one two =
    let same = one_lead opened.lead seat.lead other.lead one.rest two.rest small small' (sym one.whole ∙ two.whole) in
    let is : (other.lead == seat.lead) ≡ true = eq-eqb other.lead seat.lead (sym same) in
    absurd (cc)

one_more_apart : (opened : OpenedChannel) (seat : Seat) (next : Option Seat) (rest : List Miner) → seat.lead < 65536 → FitsChannel (Some opened) next
    → is_among seat.lead (lead_of next ++ leads_in rest) ≡ false
    → (is_among seat.lead (leads_in rest) ≡ false → IsApartFrom opened seat (seats_in rest))
    → IsApartFrom opened seat (seat_list next ++ seats_in rest)
one_more_apart opened seat None rest small fits none behind = behind none
one_more_apart opened seat (Some other) rest small fits none behind =
    let parts = either_no (other.lead == seat.lead) (is_among seat.lead (leads_in rest)) none in
    (two_apart opened seat other small fits.lead parts.0, behind parts.1)

apart_from : (opened : OpenedChannel) (seat : Seat) (miners : List Miner) → seat.lead < 65536 → AllFit (Some opened) miners
    → is_among seat.lead (leads_in miners) ≡ false → IsApartFrom opened seat (seats_in miners)
apart_from opened seat [] small fit none = tt
apart_from opened seat (miner ∷ miners) small fit none =
    one_more_apart opened seat (seat_in miner.session) miners small fit.0 none (λ behind. apart_from opened seat miners small fit.1 behind)

one_more_space : (opened : OpenedChannel) (next : Option Seat) (rest : List Miner) → FitsChannel (Some opened) next → AllFit (Some opened) rest
    → AreApart (lead_of next ++ leads_in rest) → (AreApart (leads_in rest) → AreSpaces opened (seats_in rest))
    → AreSpaces opened (seat_list next ++ seats_in rest)
one_more_space opened None rest fits fit apart behind = behind apart
one_more_space opened (Some seat) rest fits fit apart behind =
    let more = behind apart.1 in
    record {
      apart = (apart_from opened seat rest fits.lead fit apart.0, more.apart);
      within = (seat_within opened seat fits.rolled, more.within);
    }

are_spaces : (opened : OpenedChannel) (miners : List Miner) → AllFit (Some opened) miners → AreApart (leads_in miners) → AreSpaces opened (seats_in miners)
are_spaces opened [] fit apart = record { apart = tt; within = tt }
are_spaces opened (miner ∷ miners) fit apart =
    one_more_space opened (seat_in miner.session) miners fit.0 fit.1 apart (λ behind. are_spaces opened miners fit.1 behind)

pub spaces_apart : (user : List ℕ) (base : ℕ) (inputs : List ProxyEvent) (opened : OpenedChannel) → (after (started user base) inputs).opened ≡ Some opened
    → AreSpaces opened (seats_in (after (started user base) inputs).miners)
spaces_apart user base inputs opened is =
    let good = leads_apart user base inputs in
    let P : Option OpenedChannel → Type 0 = λ channel. AllFit channel (after (started user base) inputs).miners in
    are_spaces opened (after (started user base) inputs).miners (subst P is good.fit) good.apart
