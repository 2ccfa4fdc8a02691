use Rattle.std.proofs.Common.{◌+◌, length, arith}
use Rattle.kiss2.proofs.Giving.{cells_few}
use Rattle.kiss2.proofs.filling.Filling.give_row.Goals as goal

pub give_all-requires-clause-few : goal.give_all-requires-clause-few
give_all-requires-clause-few c = cells_few (c.args.state + 1) (length c.args.digits.now) (omega (arith, c.requires.state)) c.requires.digits
