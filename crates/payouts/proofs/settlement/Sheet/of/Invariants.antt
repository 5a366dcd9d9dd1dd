use Rattle.std.proofs.Common.{◌≡◌, map, take}
use Rattle.std.specs.String.{string_bytes}
use Rattle.std.specs.Vec.{vec_len}
use Rattle.payouts.specs.Sheets.{listed_at}
use Rattle.payouts.proofs.settlement.Sheet.of.Given as goal

abbrev pub invariant-loop-place : goal.invariant-loop-place
invariant-loop-place l = record {
  listed : l.listed.items ≡ map (listed_at (map string_bytes l.names) l.newcomer) (take l.place-index l.places);
  long : vec_len l.listed ≡ l.place-index;
}
