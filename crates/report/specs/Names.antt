-- The names of states.
use Rattle.std.specs.Prelude.{ℕ, List}
use Rattle.machine.specs.declared.pair.Pair.{Pair}
use Rattle.search.specs.declared.visit.Visit.{Visit}
use Rattle.kiss2.specs.Laws.{entry_at}
use Rattle.kiss2.specs.Texts.{bytes_of}
use Rattle.kiss2.specs.declared.part.Part.{Part}
use Rattle.report.specs.declared.names.Names.{Names}

-- the name of state q, by the text and its name entries
abbrev pub name_of : List ℕ → List Part → ℕ → List ℕ
name_of text entries q = bytes_of text (entry_at entries q)

-- the names of the two states of a pair
abbrev pub pair_names : (ℕ → List ℕ) → (ℕ → List ℕ) → Pair → List ℕ × List ℕ
pair_names good faulty p = (good p.first, faulty p.second)

-- the name of state q out of some names
abbrev pub named : Names → ℕ → List ℕ
named n q = name_of n.text.now n.entries.now q

-- the names of the states that a visit is at
abbrev pub visit_names : Names → Names → Visit Pair → List ℕ × List ℕ
visit_names good faulty v = pair_names (named good) (named faulty) v.position
