use Rattle.std.proofs.Common.{refl, sym, arith}
use Rattle.report.proofs.Writes.{adds_next, sets_past}
use Rattle.report.proofs.writing.Writer.push_all.Goals as goal

pub returns-then-self : goal.returns-then-self
returns-then-self c = record {
  counted = omega arith;
  bytes = sym (sets_past c.args.self.now.out.now c.args.self.now.count c.args.bytes.now c.if-self.true);
  same_slice = refl;
}

pub loop-byte-preserved : goal.loop-byte-preserved
loop-byte-preserved c = adds_next _ _ c.loop-byte-test.true c.loop-byte.invariant c.push.ensures
