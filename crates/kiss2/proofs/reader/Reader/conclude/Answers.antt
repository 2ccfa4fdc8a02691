use Rattle.std.proofs.Common.{arith}
use Rattle.kiss2.proofs.Giving.{cells_few}
use Rattle.kiss2.proofs.reader.Reader.conclude.Goals as goal

pub all_given-requires : goal.all_given-requires
all_given-requires c = omega (arith, c.cell_count-cells.ensures, cells_few c.args.names.now.count c.unwrap_or.result (omega arith) (omega (arith, c.unwrap_or.ensures, c.requires)))
