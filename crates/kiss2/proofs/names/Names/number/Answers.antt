use Rattle.std.proofs.Common.{ℕ, set, sym, ap, ◌∙◌, take, refl, arith}
use Rattle.std.proofs.lemmas.List.{length-take-le}
use Rattle.kiss2.specs.Rows.{number_among}
use Rattle.kiss2.specs.Texts.{bytes_of, part_of}
use Rattle.kiss2.proofs.Numbers.{entries_new, number_new}
use Rattle.kiss2.proofs.names.Names.number.Goals as goal

pub returns-clause-enlisted : goal.returns-clause-enlisted
returns-clause-enlisted c =
    let names = c.args.self.now in
    let text = names.text.now in
    let n = names.count in
    let entries = names.entries.now in
    let p = part_of c.args.word in
    let long = length-take-le n entries (omega arith) in
    let number = number_new text (take n entries) (bytes_of text p) (ap (number_among text (take n entries)) (sym c.requires.bytes) ∙ sym c.number_of.ensures ∙ c.in_default.is) ∙ long in
    let new = entries_new text entries n p (take n entries) refl (omega (arith, c.if-number-eq-MOST_STATES.false)) number in
    (sym number, (new.0.0, ap (λ (k : ℕ). set entries k c.part.result) c.from.ensures ∙ ap (set entries n) c.part.ensures ∙ new.0.1), new.1, omega (arith, c.if-number-eq-MOST_STATES.false))
