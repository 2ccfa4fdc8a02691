-- What a reader holds, as lines and rows.
use Rattle.std.specs.Prelude.{◌≡◌, ◌+◌, ◌^◌, ◌<◌, ◌≤◌, length, Result}
use Rattle.machine.specs.declared.refusal.Refusal.{Refusal}
use Rattle.kiss2.specs.Placing.{Table, table}
use Rattle.kiss2.specs.Progressing.{Held, Progress, Stepped}
use Rattle.kiss2.specs.Readings.{Seen}
use Rattle.kiss2.specs.declared.filling.Filling.{Filling}
use Rattle.kiss2.specs.declared.names.Names.{Names}
use Rattle.kiss2.specs.declared.reader.Reader.{Reader}

-- how far it has come
abbrev pub progress : Reader → Names → Filling → Progress
progress r names t = record { heading = r.heading; states = names.count; rows = r.rows; clash = t.clash }

-- the table that is being filled
abbrev pub filled : Filling → Table
filled t = table t.cells.now t.given

-- before a line, all three hold what the lines seen say
pub record Reads (r : Reader) (names : Names) (t : Filling) : Type 0 where
  pub held : Held names.text.now (progress r names t) names.entries.now (filled t)
  pub few_rows : r.rows < 2 ^ 32

-- the text and the slice of names are those that were lent
pub record SameNames (names names' : Names) : Type 0 where
  pub text : names'.text ≡ names.text
  pub size : length names'.entries.now ≡ length names.entries.now
  pub slice : names'.entries.ghost_name ≡ names.entries.ghost_name

-- the slice of cells is the one that was lent
pub record SameCells (t t' : Filling) : Type 0 where
  pub size : length t'.cells.now ≡ length t.cells.now
  pub slice : t'.cells.ghost_name ≡ t.cells.ghost_name

-- the text and both slices are those that were lent
pub record SameLoans (names : Names) (t : Filling) (names' : Names) (t' : Filling) : Type 0 where
  pub same_names : SameNames names names'
  pub same_cells : SameCells t t'

-- a step takes what they hold of lines seen to what they hold of the lines that next gives, or refuses as next does; it takes at most one row, and what was lent stays
pub record Steps (next : Seen → Result Seen Refusal) (r : Reader) (names : Names) (t : Filling) (result : Result Unit Refusal) (r' : Reader) (names' : Names) (t' : Filling) : Type 0 where
  pub taken : Stepped names.text.now next (progress r names t) names.entries.now (filled t) result (progress r' names' t') names'.entries.now (filled t')
  pub more : r'.rows ≤ r.rows + 1
  pub lent : SameLoans names t names' t'
