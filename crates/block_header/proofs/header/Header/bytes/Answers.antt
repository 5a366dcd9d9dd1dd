use Rattle.block_header.proofs.Places.{filled}
use Rattle.block_header.proofs.header.Header.bytes.Goals as goal

pub returns : goal.returns
returns c =
    filled _ _ _ _ _ _ _ _ _ _ _ _ _ _ _ _
    c.place.ensures c.place-2.ensures c.place-3.ensures c.place-4.ensures c.place-5.ensures c.place-6.ensures
    c.place-6.array_long c.to_le_bytes.ensures c.to_le_bytes-2.ensures c.to_le_bytes-3.ensures c.to_le_bytes-4.ensures
