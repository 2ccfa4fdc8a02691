use Rattle.std.proofs.Common.{◌≡◌, ◌+◌, ◌<◌, ◌≤◌}
use Rattle.kiss2.specs.Readers.{SameLoans, filled, progress}
use Rattle.kiss2.proofs.LineByLine.{ReadSoFar}
use Rattle.kiss2.proofs.reader.Reader.read_lines.Given as goal

-- the lines that are left are those of the text, and what was read is held
abbrev pub invariant-loop-line : goal.invariant-loop-line
invariant-loop-line l =
    let number = l.line-iterator.a.start in
    let left = l.line-iterator.b in
    let text = l.initial.names.text.now in
    record {
      same_text : left.text.now ≡ text;
      few_lines : number ≤ left.place + 1;
      few_rows : l.self.rows < number;
      lent : SameLoans l.initial.names l.initial.table l.names l.table;
      seen : ReadSoFar text l.initial.table.cells.now l.initial.names.entries.now number left (progress l.self l.names l.table) l.names.entries.now (filled l.table);
    }
