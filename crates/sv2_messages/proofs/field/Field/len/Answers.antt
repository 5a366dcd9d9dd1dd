use Rattle.std.proofs.Common.{length, ap, arith}
use Rattle.sv2_types.proofs.Items.{length-items}
use Rattle.sv2_messages.proofs.field.Field.len.Goals as goal

pub returns-in-SeqU256 : goal.returns-in-SeqU256
returns-in-SeqU256 c = rw (c.in-SeqU256.is, ← c.items.ensures.value) (omega (arith, length-items c.items.result.now c.items.ensures.fits))

pub returns-in-Seq64kU256 : goal.returns-in-Seq64kU256
returns-in-Seq64kU256 c = rw (c.in-Seq64kU256.is, ← c.items-in-Seq64kU256.ensures.value) (omega (arith, length-items c.items-in-Seq64kU256.result.now c.items-in-Seq64kU256.ensures.fits))

pub returns-in-SeqU16 : goal.returns-in-SeqU16
returns-in-SeqU16 c = rw (c.in-SeqU16.is) (omega (arith, ap length c.of.ensures.numbers, ap length c.of.ensures.spelled))
