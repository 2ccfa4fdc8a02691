use Rattle.std.proofs.Common.{◌≡◌, ◌+◌, reverse, length, refl, ◌∙◌, inl, arith}
use Rattle.std.proofs.lemmas.Iterator.Consumers.{count_from_yields_List, YieldsList-from_first}
use Rattle.std.proofs.lemmas.List.{length-reverse, length-take-le}
use Rattle.search.specs.Visits.{path}
use Rattle.search.proofs.Paths.{path_short}
use Rattle.search.proofs.path.write_path.Given.{Over}
use Rattle.search.proofs.path.write_path.Goals as goal
use Rattle.search.proofs.path.write_path.Goals.{After-count-length}

counted : (g : Over) (c : After-count-length g) → c.count-length.result ≡ length (path c.args.visits.now c.args.at)
counted g c =
    count_from_yields_List _ _ c.count-length.ensures.ran (YieldsList-from_first (λ x. x) (λ s. reverse (path s.visits.now s.at)) _ refl)
    ∙ length-reverse (path c.args.visits.now c.args.at)

pub count-length-requires-clause-fits : goal.count-length-requires-clause-fits
count-length-requires-clause-fits g c = inl (omega (arith, length-reverse (path c.args.visits.now c.args.at), path_short c.args.visits.now c.args.at))

pub overflow_add-length : goal.overflow_add-length
overflow_add-length g c = omega (arith, counted g (goal.at.overflow_add-length g c).After-count-length, path_short c.args.visits.now c.args.at)

pub write_back-requires : goal.write_back-requires
write_back-requires g c =
    let n = counted g (goal.at.write_back-requires g c).After-count-length in
    omega (arith, length-take-le (c.count-length.result + 1) c.args.answer.now (omega arith))

pub returns-clause-few : goal.returns-clause-few
returns-clause-few g c = omega (arith, counted g (goal.at.returns-clause-few g c).After-count-length, path_short c.args.visits.now c.args.at)
