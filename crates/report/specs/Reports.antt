-- What a report says of two texts, and what the call leaves in its slice.
use Rattle.std.specs.Prelude.{◌≡◌, ℕ, ◌*◌, ◌^◌, ◌<◌, ◌≤◌, Bool, true, false, ◌&&◌, ◌⊎◌, List, [], map, length, Some, None, Ok, Err, Result, ◌==◌}
use Rattle.machine.specs.Machines.{Machine}
use Rattle.machine.specs.Outputs.{Equivalent, LeastDistinguishing}
use Rattle.machine.specs.Products.{ReachablePairs}
use Rattle.machine.specs.Slices.{FirstEntries}
use Rattle.machine.specs.declared.pair.Pair.{Pair}
use Rattle.machine.specs.declared.refusal.Refusal.{Refusal}
use Rattle.machine.specs.declared.refusal.Refusal.TheVariants.{AnswerTooShort, WidthsDiffer, WorkTooShort}
use Rattle.devices.specs.Tables.{table_machine}
use Rattle.layers.specs.Layers.{rivals}
use Rattle.kiss2.specs.Readings.{Reading, reading}
use Rattle.kiss2.specs.declared.refused.Refused.{Refused}
use Rattle.kiss2.specs.declared.shape.Shape.{Shape}
use Rattle.report.specs.Outcomes.{Outcome, differ, equivalent, refused, rendering}
use Rattle.report.specs.Names.{name_of, pair_names}
use Rattle.kiss2.specs.declared.side.Side.TheVariants.{Good, Faulty}

-- the machine of a text that was read
abbrev pub text_machine : Reading → Machine
text_machine x = table_machine (2 ^ x.shape.inputs) x.shape.states x.shape.reset x.cells []

-- the machines of two texts side by side: member 0 is that of the good text, member 1 that of the faulty one
abbrev pub both_machines : Reading → Reading → Machine
both_machines x y = rivals (text_machine x) (text_machine y)

-- whether two texts have the same input and the same output width
abbrev pub same_widths : Shape → Shape → Bool
same_widths s t = s.inputs == t.inputs && s.outputs == t.outputs

-- the names of a pair of states, the first out of the good text and the second out of the faulty one
abbrev pub names_of : List ℕ → List ℕ → Reading → Reading → Pair → List ℕ × List ℕ
names_of good faulty x y p = pair_names (name_of good x.names) (name_of faulty y.names) p

-- v visits and w mark words are enough for the comparison
abbrev pub Enough : Machine → ℕ → ℕ → Type 0
Enough m v w = (m.states * m.states ≤ v) × (m.states * m.states ≤ w)

-- they are not
abbrev pub TooFew : Machine → ℕ → ℕ → Type 0
TooFew m v w = (v < m.states * m.states) ⊎ (w < m.states * m.states)

-- the outcome of the comparison of two machines side by side over v visits and w mark words; `names` are those of a pair of states
abbrev pub Compared : Machine → ℕ → (Pair → List ℕ × List ℕ) → ℕ → ℕ → Outcome → Type 0
Compared m width names v w o =
    ((o ≡ refused WorkTooShort None 0) × TooFew m v w)
    ⊎ (Enough m v w × (((s : List ℕ) × (o ≡ differ width s) × LeastDistinguishing m 0 1 s)
    ⊎ ((ps : List Pair) × (o ≡ equivalent (map names ps)) × Equivalent m 0 1 × ReachablePairs m 0 1 ps)))

-- the outcome of two texts that were read: their widths come first
abbrev pub BothRead : List ℕ → List ℕ → Reading → Reading → ℕ → ℕ → Outcome → Type 0
BothRead good faulty x y v w o =
    ((o ≡ refused WidthsDiffer None 0) × (same_widths x.shape y.shape ≡ false))
    ⊎ ((same_widths x.shape y.shape ≡ true) × Compared (both_machines x y) x.shape.inputs (names_of good faulty x y) v w o)

-- the outcome by what the faulty text was read as
abbrev pub FaultyRead : List ℕ → List ℕ → Reading → Result Reading Refused → ℕ → ℕ → Outcome → Type 0
FaultyRead good faulty x (Err e) v w o = o ≡ refused e.refusal (Some Faulty) e.line
FaultyRead good faulty x (Ok y) v w o = BothRead good faulty x y v w o

-- the outcome by what the good text was read as: it comes first
abbrev pub GoodRead : List ℕ → List ℕ → Result Reading Refused → Result Reading Refused → ℕ → ℕ → Outcome → Type 0
GoodRead good faulty (Err e) y v w o = o ≡ refused e.refusal (Some Good) e.line
GoodRead good faulty (Ok x) y v w o = FaultyRead good faulty x y v w o

-- the outcome of two texts, over slices of so many cells and name entries for each, v visits and w mark words
abbrev pub Concludes : List ℕ → List ℕ → ℕ → ℕ → ℕ → ℕ → ℕ → ℕ → Outcome → Type 0
Concludes good faulty good-cells good-names faulty-cells faulty-names v w o =
    GoodRead good faulty (reading good good-names good-cells) (reading faulty faulty-names faulty-cells) v w o

-- the text stands in the first bytes of the slice and its length is the answer, or it does not fit and the slice is as it was
abbrev pub Answered : List ℕ → List ℕ → Result ℕ Refusal → List ℕ → Type 0
Answered text old (Ok n) new = (length text ≡ n) × FirstEntries text old new
Answered text old (Err r) new = (r ≡ AnswerTooShort) × (length old < length text) × (new ≡ old)

-- some outcome of two texts is spelled in the slice, or does not fit
abbrev pub Reported : (Outcome → Type 0) → List ℕ → Result ℕ Refusal → List ℕ → Type 0
Reported Concluded old r new = (o : Outcome) × Concluded o × Answered (rendering o) old r new
