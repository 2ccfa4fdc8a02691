use Rattle.std.proofs.Common.{take}
use Rattle.std.specs.List.{flat_map}
use Rattle.report.specs.Names.{visit_names}
use Rattle.report.specs.Outcomes.{pair_line}
use Rattle.report.specs.Writing.{Adds}
use Rattle.report.proofs.listing.Listing.write.Given as goal

abbrev pub invariant-loop-visit : goal.invariant-loop-visit
invariant-loop-visit l = Adds (flat_map (λ v. pair_line (visit_names l.fn.self.good l.fn.self.faulty v)) (take l.visit-index l.fn.self.visits.now)) l.initial.out l.out
