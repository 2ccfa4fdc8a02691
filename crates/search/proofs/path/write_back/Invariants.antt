use Rattle.std.proofs.Common.{◌≡◌, ◌<◌, [], ◌∷◌, ◌++◌, length, drop}
use Rattle.std.specs.Iterator.Adapters.{zip_first, zip_second, rev_source}
use Rattle.search.specs.Visits.{path}
use Rattle.search.proofs.path.write_back.Given as goal

abbrev pub invariant-loop-place : goal.invariant-loop-place
invariant-loop-place g l =
    let range = rev_source (zip_first l.place-iterator) in
    let links = zip_second l.place-iterator in
    (range.start ≡ 0)
    × (range.end < length l.out)
    × (range.end ≡ length (path links.visits.now links.at))
    × (path links.visits.now links.at ++ drop range.end l.out ≡ path l.links.visits.now l.links.at ++ l.last ∷ [])
