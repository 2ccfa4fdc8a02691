use Rattle.std.proofs.Common.{length}
use Rattle.kiss2.proofs.filling.Filling.+give_all.Given as goal

abbrev pub decreases-give_all : goal.decreases-give_all
decreases-give_all l = length l.digits.now
