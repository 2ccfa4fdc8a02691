use Rattle.std.proofs.Common.{◌∙◌, arith, length-set}
use Rattle.gates.proofs.Writing.{bit_written}
use Rattle.gates.proofs.nets.Nets.write_bits.Goals as goal

pub loop-value-preserved : goal.loop-value-preserved
loop-value-preserved c =
    let inv = c.loop-value.invariant in
    (length-set c.loop-value.value-items c.loop-value.value-index _ ∙ inv.0, bit_written c.loop-value.value-items c.args.count c.loop-value.rest c.loop-value.value-index (omega arith) (omega arith) ∙ inv.1)
