-- The miners of a proxy, and what each is told (Stratum V1).
use Rattle.std.specs.Prelude.{ℕ, zero, suc, ◌+◌, ◌==◌, Bool, false, if◌then◌else◌, Option, None, Some, List, [], ◌∷◌, ◌++◌, is_some}
use Rattle.std.specs.Int.{w16, to_be_bytes}
use Rattle.std.specs.List.{list_any}
use Rattle.std.specs.Option.{option_and_then}
use Rattle.v1_translate.specs.Heard.{Told}
use Rattle.v1_translate.specs.Messages.{message_reaction}
use Rattle.v1_translate.specs.State.{Terms, Saying, Reaction, start}
use Rattle.v1_translate.specs.Saying.{line_of, with_lines}
use Rattle.proxy_rules.specs.State.{Miner, Seat, Session}

-- ---- callers

abbrev pub miner_of : ℕ → List Miner → Option Miner
miner_of caller [] = None
miner_of caller (miner ∷ miners) =
    if miner.caller == caller then Some miner else miner_of caller miners

-- a change of the miner with this caller
abbrev pub at_caller : ℕ → (Miner → Miner) → List Miner → List Miner
at_caller caller change [] = []
at_caller caller change (miner ∷ miners) =
    if miner.caller == caller then change miner ∷ miners
    else miner ∷ at_caller caller change miners

abbrev pub session_of : ℕ → List Miner → Option Session
session_of caller miners = option_and_then (λ miner. miner.session) (miner_of caller miners)

abbrev pub is_joined : ℕ → List Miner → Bool
is_joined caller miners = is_some (session_of caller miners)

abbrev pub output_in : Option Miner → List ℕ
output_in None = []
output_in (Some miner) = miner.output

-- ---- joining and leaving

abbrev pub new_session : Session
new_session = record { seat = None; v1 = start }

abbrev pub new_miner : ℕ → Miner
new_miner caller = record { caller = caller; output = []; session = Some new_session }

-- what was written to a caller before is gone
abbrev pub rejoined : Miner → Miner
rejoined miner = new_miner miner.caller

abbrev pub with_new : ℕ → Option Miner → List Miner → List Miner
with_new caller None miners = miners ++ new_miner caller ∷ []
with_new caller (Some miner) miners = at_caller caller rejoined miners

abbrev pub left : Miner → Miner
left miner = record { caller = miner.caller; output = miner.output; session = None }

-- ---- leads

-- two bytes, the high one first
abbrev pub lead_bytes : ℕ → List ℕ
lead_bytes lead = to_be_bytes w16 lead

abbrev pub seat_in : Option Session → Option Seat
seat_in None = None
seat_in (Some session) = session.seat

abbrev pub seat_holds : ℕ → Option Seat → Bool
seat_holds lead None = false
seat_holds lead (Some seat) = seat.lead == lead

-- a miner that is joined holds this lead
abbrev pub holds_lead : ℕ → Miner → Bool
holds_lead lead miner = seat_holds lead (seat_in miner.session)

abbrev pub is_held : ℕ → List Miner → Bool
is_held lead miners = list_any (holds_lead lead) miners

-- the first lead that is free from one on, among so many
unfoldable pub least_from : ℕ → List Miner → ℕ → Option ℕ
least_from zero miners lead = None
least_from (suc more) miners lead =
    if is_held lead miners then least_from more miners (lead + 1) else Some lead

abbrev pub least_free : List Miner → Option ℕ
least_free miners = least_from 65536 miners 0

-- ---- what is told

-- a session goes on, and this is said
abbrev pub with_said : Miner → Session → List Saying → Miner
with_said miner session says =
    record {
      caller = miner.caller;
      output = with_lines miner.output says;
      session = Some session;
    }

abbrev pub reacted : Miner → Option Seat → Reaction → Miner
reacted miner seat reaction =
    with_said miner (record { seat = seat; v1 = reaction.after }) reaction.says

-- a joined miner is told this
abbrev pub told_session : Terms → Told → Miner → Option Session → Miner
told_session terms told miner None = miner
told_session terms told miner (Some session) =
    reacted miner session.seat (message_reaction terms session.v1 told)

abbrev pub told_to : Terms → Told → Miner → Miner
told_to terms told miner = told_session terms told miner miner.session

abbrev pub told_all : Terms → List Told → Miner → Miner
told_all terms [] miner = miner
told_all terms (told ∷ more) miner = told_all terms more (told_to terms told miner)

-- one that is subscribed too is told this, no other
abbrev pub relayed_seat : Terms → Told → Miner → Session → Option Seat → Miner
relayed_seat terms told miner session None = miner
relayed_seat terms told miner session (Some seat) =
    reacted miner (Some seat) (message_reaction terms session.v1 told)

abbrev pub relayed_session : Terms → Told → Miner → Option Session → Miner
relayed_session terms told miner None = miner
relayed_session terms told miner (Some session) =
    relayed_seat terms told miner session session.seat

abbrev pub relayed_to : Terms → Told → Miner → Miner
relayed_to terms told miner = relayed_session terms told miner miner.session

-- one more line
abbrev pub with_line : Saying → Miner → Miner
with_line said miner =
    record {
      caller = miner.caller;
      output = miner.output ++ line_of said;
      session = miner.session;
    }
