use Rattle.bench.proofs.Numbering.{digested-64, doubled-64, doubled-80}
use Rattle.bench.proofs.lanes.hash_from.Goals as goal

pub returns-in-Digest64 : goal.returns-in-Digest64
returns-in-Digest64 c = digested-64 _ _ _ _ c.in-Digest64.is c.four_from.ensures c.digests_64.ensures

pub returns-in-Double64 : goal.returns-in-Double64
returns-in-Double64 c = doubled-64 _ _ _ _ c.in-Double64.is c.four_from-in-Double64.ensures c.doubles_64.ensures

pub returns-in-Double80 : goal.returns-in-Double80
returns-in-Double80 c = doubled-80 _ _ _ _ c.in-Double80.is c.four_from-in-Double80.ensures c.doubles_80.ensures
