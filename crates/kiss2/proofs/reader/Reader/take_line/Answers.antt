use Rattle.std.proofs.Common.{sym, refl, ap, ◌∙◌, subst, arith}
use Rattle.kiss2.specs.Lines.{LineStands, directive, end, line_said}
use Rattle.kiss2.specs.Readers.{filled, progress}
use Rattle.kiss2.specs.Progressing.{Stepped}
use Rattle.kiss2.specs.Readings.{take_line}
use Rattle.kiss2.specs.Texts.{part_of}
use Rattle.kiss2.specs.declared.line.Line.{Line as ReadLine}
use Rattle.kiss2.proofs.Stepping.{directive_said, end_said, heading_step, row_stepped}
use Rattle.kiss2.proofs.reader.Reader.take_line.Goals as goal

pub returns-in_ok-self-in-Directive : goal.returns-in_ok-self-in-Directive
returns-in_ok-self-in-Directive c = record {
  taken = λ old_cells old_names s sound holds.
      let r = c.args.self.now in
      let names = c.args.names.now in
      let t = c.args.table.now in
      let text = names.text.now in
      let w = c.in-Directive.value in
      let stands = subst (LineStands text) c.in-Directive.is c.requires.stands in
      let h = c.in_ok-self-in-Directive.field-0 in
      let e = directive_said text old_cells old_names (progress r names t) names.entries.now (filled t) s sound holds c.args.line c.in-Directive.key (part_of w) w.bytes.now h stands.bytes (sym c.take.ensures ∙ c.in_ok-self-in-Directive.was) in
      let x = heading_step text old_cells old_names (progress r names t) names.entries.now (filled t) s sound holds c.args.line (directive c.in-Directive.key (part_of w)) h stands.inside e in
      (x.0, ap (λ (l : ReadLine). take_line text c.args.line s (line_said l)) c.in-Directive.is ∙ x.1, x.2, x.3);
  more = omega arith;
  lent = record { same_names = record { text = refl; size = refl; slice = refl }; same_cells = record { size = refl; slice = refl } };
}

pub returns-in_ok-self-in-End : goal.returns-in_ok-self-in-End
returns-in_ok-self-in-End c = record {
  taken = λ old_cells old_names s sound holds.
      let r = c.args.self.now in
      let names = c.args.names.now in
      let t = c.args.table.now in
      let text = names.text.now in
      let h = c.in_ok-self-in-End.field-0 in
      let e = end_said text old_cells old_names (progress r names t) names.entries.now (filled t) s sound holds c.args.line h (sym c.close.ensures ∙ c.in_ok-self-in-End.was) in
      let x = heading_step text old_cells old_names (progress r names t) names.entries.now (filled t) s sound holds c.args.line end h tt e in
      (x.0, ap (λ (l : ReadLine). take_line text c.args.line s (line_said l)) c.in-End.is ∙ x.1, x.2, x.3);
  more = omega arith;
  lent = record { same_names = record { text = refl; size = refl; slice = refl }; same_cells = record { size = refl; slice = refl } };
}

pub returns-else-self : goal.returns-else-self
returns-else-self c =
    let r = c.args.self.now in
    let names = c.args.names.now in
    let t = c.args.table.now in
    let r' = c.take_row.new.self in
    let names' = c.take_row.new.names in
    let t' = c.take_row.new.table in
    let row = c.in-Row.row in
    record {
      taken = subst (λ (l : ReadLine). Stepped names.text.now (λ s. take_line names.text.now c.args.line s (line_said l)) (progress r names t) names.entries.now (filled t) c.take_row.result (progress r' names' t') names'.entries.now (filled t')) (sym c.in-Row.is)
          (row_stepped names.text.now c.args.line (part_of row.input) (part_of row.current) (part_of row.next) (part_of row.output) (progress r names t) names.entries.now (filled t) c.take_row.result (progress r' names' t') names'.entries.now (filled t') c.if-self.false c.take_row.ensures.taken);
      more = c.take_row.ensures.more;
      lent = c.take_row.ensures.lent;
    }
