use Rattle.std.proofs.Common.{◌≡◌, ℕ, List, Ok, Result, sym, ap, ◌∙◌, subst}
use Rattle.machine.specs.declared.refusal.Refusal.{Refusal}
use Rattle.kiss2.specs.Lines.{Line, line_of, line_said}
use Rattle.kiss2.specs.Readers.{Steps}
use Rattle.kiss2.specs.Readings.{take_said}
use Rattle.kiss2.specs.Texts.{words_left}
use Rattle.kiss2.proofs.reader.Reader.read_line.Goals as goal

pub returns : goal.returns
returns c =
    let names = c.args.names.now in
    let text = names.text.now in
    let words = c.args.words in
    let after = c.take_line.new in
    let said : line_of text (words_left text words.at words.end) ≡ Ok (line_said c.in_ok-said.said) = ap (λ (t : List ℕ). line_of t (words_left t words.at words.end)) (sym c.requires.text) ∙ c.in_ok-said.ensures.0 in
    subst (λ (x : Result Line Refusal). Steps (λ s. take_said text c.args.line s x) c.args.self.now names c.args.table.now c.take_line.result after.self after.names after.table) (sym said) c.take_line.ensures
