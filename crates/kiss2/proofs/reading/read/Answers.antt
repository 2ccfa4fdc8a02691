use Rattle.std.proofs.Common.{◌≡◌, ℕ, Bor, List, length, Result, sym, ap, ◌∙◌, subst, rules, arith}
use Rattle.devices.specs.declared.cell.Cell.{Cell}
use Rattle.kiss2.specs.Concluding.{Read, shape_held}
use Rattle.kiss2.specs.Readers.{filled, progress}
use Rattle.kiss2.specs.declared.part.Part.{Part}
use Rattle.kiss2.specs.declared.refused.Refused.{Refused}
use Rattle.kiss2.specs.declared.shape.Shape.{Shape}
use Rattle.kiss2.proofs.Conclusions.{read_is}
use Rattle.kiss2.proofs.reading.read.Goals as goal

-- what was read into the slices, where these are what the caller has
same_read : (text : List ℕ) (cells : List Cell) (names : List Part) (r : Result Shape Refused) (after after' : List Cell) (ns ns' : List Part) → Read text cells names r after' ns' → after ≡ after' → ns ≡ ns' → Read text cells names r after ns
same_read text cells names r after after' ns ns' read e f =
    subst (λ (x : List Cell). Read text cells names r x ns) (sym e) (subst (λ (x : List Part). Read text cells names r after' x) (sym f) read)

pub returns : goal.returns
returns c =
    let text = c.args.text.now in
    let r = c.read_lines.new.self in
    let names = c.read_lines.new.names in
    let t = c.read_lines.new.table in
    let x = c.in_ok-read_lines.ensures.read in
    let same = c.read_lines.ensures.lent.same_names.text in
    same_read text c.args.cells.now c.args.names.now c.conclude.result _ t.cells.now _ names.entries.now
    (read_is text c.args.cells.now c.args.names.now (progress r names t) names.entries.now (filled t) x.0 x.2 x.3 x.1 (omega (arith, c.if-names-from.false, c.from.ensures)) (omega (arith, names.short, ap (λ (b : Bor (List ℕ)). length b.now) same)) t.whole c.read_lines.ensures.lent.same_cells.size c.conclude.result (c.conclude.ensures ∙ ap (λ (b : Bor (List ℕ)). shape_held b.now (progress r names t) names.entries.now (length t.cells.now) t.given) same))
    (search rules) (search rules)
