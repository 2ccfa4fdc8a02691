use Rattle.std.proofs.Common.{◌≡◌, ℕ, ◌+◌, List, [], ◌∷◌, ◌++◌, length, drop, set, sym, ap, ◌∙◌, ⊎_elim, arith, length-set}
use Rattle.std.proofs.lemmas.List.{length-reverse}
use Rattle.std.specs.Iterator.Adapters.{zip_first, zip_second, rev_source}
use Rattle.search.specs.Visits.{path}
use Rattle.search.proofs.Paths.{written_more}
use Rattle.search.proofs.path.write_back.Goals as goal

pub loop-place-preserved : goal.loop-place-preserved
loop-place-preserved g c =
    let out = c.loop-place.out in
    let inv = c.loop-place.invariant in
    let before = zip_second c.loop-place.place-iterator in
    let after = zip_second c.next.new.self in
    let s = path before.visits.now before.at in
    let t = path after.visits.now after.at in
    let range = c.in-Some.ensures.steps.0 in
    let step = c.in-Some.ensures.steps.1 in
    let fewer : length s ≡ length t + 1 = omega (arith, ap length step, length-reverse s, length-reverse t) in
    let place : c.in-Some.place ≡ (rev_source (zip_first c.next.new.self)).end = range.1.1 in
    let next : (rev_source (zip_first c.loop-place.place-iterator)).end ≡ c.in-Some.place + 1 = omega (arith, range.1.2) in
    let more = written_more s t out c.in-Some.letter c.in-Some.place step (omega arith) in
    (range.0 ∙ inv.0, omega (arith, length-set out c.in-Some.place c.in-Some.letter), omega arith, ap (λ (x : ℕ). t ++ drop x (set out c.in-Some.place c.in-Some.letter)) (sym place) ∙ sym more ∙ ap (λ (x : ℕ). s ++ drop x out) (sym next) ∙ inv.3)

none_left : (s out : List ℕ) (end : ℕ) → end ≡ 0 → end ≡ length s → s ++ drop end out ≡ out
none_left [] out end z n = ap (λ x. drop x out) z
none_left (x ∷ s) out end z n = absurd (omega arith)

pub returns : goal.returns
returns g c =
    let inv = c.loop-place.invariant in
    let range = rev_source (zip_first c.loop-place.place-iterator) in
    let links = zip_second c.loop-place.place-iterator in
    let s = path links.visits.now links.at in
    let z : range.end ≡ 0 = ⊎_elim (λ a. omega (arith, a.1.1.0)) (λ b. omega (arith, ap length b.1.0, length-reverse s)) c.in-None.ensures.steps in
    sym (none_left s c.loop-place.out range.end z inv.2) ∙ inv.3
