use Rattle.std.proofs.Common.{◌≡◌, ℕ, Bor, List, Result, rules, ap, ◌∙◌, subst, arith}
use Rattle.std.proofs.lemmas.Result.{err_from_is_err_and}
use Rattle.machine.specs.declared.refusal.Refusal.{Refusal}
use Rattle.kiss2.specs.Lines.{line_of}
use Rattle.kiss2.specs.Placing.{Table}
use Rattle.kiss2.specs.Progressing.{Progress, Stepped}
use Rattle.kiss2.specs.Readers.{filled, progress}
use Rattle.kiss2.specs.Readings.{take_said}
use Rattle.kiss2.specs.Texts.{words_left}
use Rattle.kiss2.specs.declared.part.Part.{Part}
use Rattle.kiss2.proofs.LineByLine.{line_refused, line_taken}
use Rattle.kiss2.proofs.reader.Reader.read_lines.Goals as goal

-- a line of the text that a reader has, where that is the text meant
of_text : (text text' : List ℕ) (start end n : ℕ) (p : Progress) (names : List Part) (t : Table) (r : Result Unit Refusal) (p' : Progress) (names' : List Part) (t' : Table) → text ≡ text' → Stepped text (λ s. take_said text n s (line_of text (words_left text start end))) p names t r p' names' t' → Stepped text' (λ s. take_said text' n s (line_of text' (words_left text' start end))) p names t r p' names' t'
of_text text text' start end n p names t r p' names' t' e step =
    subst (λ (x : List ℕ). Stepped x (λ s. take_said x n s (line_of x (words_left x start end))) p names t r p' names' t') e step

pub loop-line-preserved : goal.loop-line-preserved
loop-line-preserved c =
    let inv = c.loop-line.invariant in
    let r = c.loop-line.self in
    let names = c.loop-line.names in
    let t = c.loop-line.table in
    let text = c.args.names.now.text.now in
    let left = c.next.new.self.b in
    let step = c.in-Some.ensures.steps.1 in
    let next = c.in-Some.ensures.steps.0 in
    let words = c.in-Some.words in
    let r' = c.read_line.new.self in
    let names' = c.read_line.new.names in
    let t' = c.read_line.new.table in
    let read = c.read_line.ensures in
    let said = of_text names.text.now text words.at words.end c.in-Some.line (progress r names t) names.entries.now (filled t) c.read_line.result (progress r' names' t') names'.entries.now (filled t') (ap (λ (b : Bor (List ℕ)). b.now) inv.lent.same_names.text) read.taken in
    record {
      same_text = step.same_text ∙ inv.same_text;
      few_lines = omega (arith, inv.few_lines, next.1, step.place, step.next_place, words.ordered);
      few_rows = omega (arith, inv.few_rows, read.more, next.1);
      lent = record {
        same_names = record { text = read.lent.same_names.text ∙ inv.lent.same_names.text; size = read.lent.same_names.size ∙ inv.lent.same_names.size; slice = read.lent.same_names.slice ∙ inv.lent.same_names.slice };
        same_cells = record { size = read.lent.same_cells.size ∙ inv.lent.same_cells.size; slice = read.lent.same_cells.slice ∙ inv.lent.same_cells.slice };
      };
      seen = line_taken text _ _ _ _ c.in-Some.line next.0 next.1 c.loop-line.line-iterator.b left words step inv.same_text _ _ _ _ _ _ c.read_line.result c.in_ok-map_err.ensures.variant said inv.seen;
    }

pub returns-in_err-map_err-clause-read : goal.returns-in_err-map_err-clause-read
returns-in_err-map_err-clause-read c =
    let inv = c.loop-line.invariant in
    let r = c.loop-line.self in
    let names = c.loop-line.names in
    let t = c.loop-line.table in
    let text = c.args.names.now.text.now in
    let words = c.in-Some.words in
    let r' = c.read_line.new.self in
    let names' = c.read_line.new.names in
    let t' = c.read_line.new.table in
    let said = of_text names.text.now text words.at words.end c.in-Some.line (progress r names t) names.entries.now (filled t) c.read_line.result (progress r' names' t') names'.entries.now (filled t') (ap (λ (b : Bor (List ℕ)). b.now) inv.lent.same_names.text) c.read_line.ensures.taken in
    let e = err_from_is_err_and c.from_residual.result c.from_residual.ensures.1 in
    rw (e.1, e.2) (line_refused text c.args.table.now.cells.now c.args.names.now.entries.now _ _ c.in-Some.line c.in-Some.ensures.steps.0.0 c.in-Some.ensures.steps.0.1 c.loop-line.line-iterator.b c.next.new.self.b words c.in-Some.ensures.steps.1 inv.same_text _ _ _ _ _ _ c.read_line.result _ _ c.in_err-map_err.ensures.cases (λ d k. search rules) said inv.seen)
