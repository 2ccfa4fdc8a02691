-- Numbering the states of a text.
use Rattle.std.specs.Prelude.{◌≡◌, ℕ, ◌<◌, ◌≤◌, List, length, Ok, Err, Result}
use Rattle.machine.specs.Slices.{FirstEntries}
use Rattle.machine.specs.declared.refusal.Refusal.{Refusal}
use Rattle.machine.specs.declared.refusal.Refusal.TheVariants.{BadName}
use Rattle.kiss2.specs.Rows.{named, number_of}
use Rattle.kiss2.specs.Texts.{bytes_of}
use Rattle.kiss2.specs.declared.part.Part.{Part}

-- the state named p among the states ps gets its number; they stand in the first entries of a slice, as many as counted, and a 257th is refused
abbrev pub Enlisted : List ℕ → List Part → Part → List Part → Result ℕ Refusal → List Part → ℕ → Type 0
Enlisted text ps p entries (Ok n) entries' count = (n ≡ number_of text ps (bytes_of text p)) × FirstEntries (named text ps p) entries entries' × (count ≡ length (named text ps p)) × (count ≤ 256)
Enlisted text ps p entries (Err r) entries' count = (r ≡ BadName) × (256 < length (named text ps p))
