use Rattle.std.proofs.Common.{List, get_or, set, ap, ◌∙◌, arith}
use Rattle.machine.specs.declared.pair.Pair.{Pair}
use Rattle.search.specs.declared.visit.Visit.{Visit}
use Rattle.compare.proofs.Listing.{images_more}
use Rattle.compare.proofs.comparing.write_pairs.Goals as goal

pub loop-i-preserved : goal.loop-i-preserved
loop-i-preserved c =
    let xs = c.args.visits.now in
    let i = c.loop-i.i in
    let none : Visit Pair = record { position = record { first = 0; second = 0 }; from = 0; letter = 0 } in
    ap (λ (ps : List Pair). set ps i (get_or xs i none).position) c.loop-i.invariant ∙ images_more (λ v. v.position) xs c.args.pairs.now i none (omega arith) (omega arith)
