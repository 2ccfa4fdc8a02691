use Rattle.std.proofs.Common.{◌≡◌, ℕ, ◌+◌, List, length, take, Ok, Result, sym, ap, ◌∙◌, subst, arith}
use Rattle.machine.specs.declared.refusal.Refusal.{Refusal}
use Rattle.kiss2.specs.Lines.{RowStands}
use Rattle.kiss2.specs.Progressing.{BothEnlisted}
use Rattle.kiss2.specs.Readers.{filled, progress}
use Rattle.kiss2.specs.Rows.{output_word, row_refusal}
use Rattle.kiss2.specs.Texts.{bytes_of, part_of}
use Rattle.kiss2.specs.declared.heading.Heading.{Heading}
use Rattle.kiss2.specs.declared.line.Row.{Row}
use Rattle.kiss2.specs.declared.part.Part.{Part}
use Rattle.kiss2.specs.declared.part.Word.{Word}
use Rattle.kiss2.proofs.Giving.{cells_few}
use Rattle.kiss2.proofs.Stepping.{current_small, input_width, row_step}
use Rattle.kiss2.proofs.reader.Reader.take_row.Goals as goal

-- a row is refused by its words as by the parts of the text that they are
by_parts : (text : List ℕ) (h : Heading) (r : Row) → RowStands text r → row_refusal h (bytes_of text (part_of r.input)) (bytes_of text (part_of r.current)) (bytes_of text (part_of r.next)) (bytes_of text (part_of r.output)) ≡ row_refusal h r.input.bytes.now r.current.bytes.now r.next.bytes.now r.output.bytes.now
by_parts text h r stands =
    ap (λ (x : List ℕ). row_refusal h x (bytes_of text (part_of r.current)) (bytes_of text (part_of r.next)) (bytes_of text (part_of r.output))) (sym stands.input.bytes)
    ∙ ap (λ (x : List ℕ). row_refusal h r.input.bytes.now x (bytes_of text (part_of r.next)) (bytes_of text (part_of r.output))) (sym stands.current.bytes)
    ∙ ap (λ (x : List ℕ). row_refusal h r.input.bytes.now r.current.bytes.now x (bytes_of text (part_of r.output))) (sym stands.next.bytes)
    ∙ ap (λ (x : List ℕ). row_refusal h r.input.bytes.now r.current.bytes.now r.next.bytes.now x) (sym stands.output.bytes)

-- the words that were numbered are the current and the next state
in_order : (text : List ℕ) (ps : List Part) (first second current next : Word) (names : List Part) (r : Result (ℕ × ℕ) Refusal) (names' : List Part) (count : ℕ) → first ≡ current → second ≡ next → BothEnlisted text ps (part_of first) (part_of second) names r names' count → BothEnlisted text ps (part_of current) (part_of next) names r names' count
in_order text ps first second current next names r names' count e f both =
    subst (λ (w : Word). BothEnlisted text ps (part_of current) (part_of w) names r names' count) f (subst (λ (w : Word). BothEnlisted text ps (part_of w) (part_of second) names r names' count) e both)

pub give_row-requires-clause-state : goal.give_row-requires-clause-state
give_row-requires-clause-state c =
    let r = c.args.self.now in
    let names = c.args.names.now in
    let t = c.args.table.now in
    let row : Row = c.args.row in
    current_small names.text.now (take names.count names.entries.now) (part_of c.states.result.0) (part_of c.states.result.1) names.entries.now (c.in_ok-current.current, c.in_ok-current.next) _ _ c.in_ok-current.ensures.enlisted

pub returns : goal.returns
returns c = record {
  taken = λ old_cells old_names s sound holds.
      let r = c.args.self.now in
      let names = c.args.names.now in
      let t = c.args.table.now in
      let text = names.text.now in
      let row : Row = c.args.row in
      let m : ℕ × ℕ = (c.in_ok-current.current, c.in_ok-current.next) in
      let narrow = input_width sound holds row.input.bytes.now row.current.bytes.now row.next.bytes.now row.output.bytes.now c.in_ok-check.ensures.fits in
      let both = in_order text (take names.count names.entries.now) c.states.result.0 c.states.result.1 row.current row.next names.entries.now (Ok m) _ _ c.states.ensures.current c.states.ensures.next c.in_ok-current.ensures.enlisted in
      let small = current_small text (take names.count names.entries.now) (part_of row.current) (part_of row.next) names.entries.now m _ _ both in
      row_step text old_cells old_names (progress r names t) names.entries.now (filled t) s sound holds c.args.line (part_of row.input) (part_of row.current) (part_of row.next) (part_of row.output)
      (ap (λ (h : Heading). h.ended) (sym holds.heading) ∙ c.requires.unended)
      (c.requires.stands.input.inside, c.requires.stands.current.inside, c.requires.stands.next.inside, c.requires.stands.output.inside)
      (by_parts text r.heading row c.requires.stands ∙ c.in_ok-check.ensures.fits)
      m _ _ both row.input.bytes.now c.output_word.result c.requires.stands.input.bytes (c.output_word.ensures ∙ ap output_word c.requires.stands.output.bytes)
      (omega (arith, cells_few (m.0 + 1) (length row.input.bytes.now) (omega (arith, small)) narrow, t.whole)) _ _ c.give_row.ensures.gave c.give_row.ensures.lent.size;
  more = omega arith;
  lent = record { same_names = c.number_both.ensures.lent; same_cells = c.give_row.ensures.lent };
}
