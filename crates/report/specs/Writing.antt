-- Text that is written into a slice piece behind piece.
use Rattle.std.specs.Prelude.{◌≡◌, ℕ, ◌+◌, ◌-◌, ◌^◌, ◌≤◌, List, length, min}
use Rattle.std.proofs.lemmas.List.Edits.{sets}
use Rattle.machine.specs.Slices.{FirstEntries}
use Rattle.report.specs.declared.writing.Writer.{Writer}

-- the text is written behind what stood there, as far as the slice reaches, and all of it is counted, up to the largest word
pub record Adds (text : List ℕ) (old new : Writer) : Type 0 where
  pub counted : new.count ≡ min (old.count + length text) (2 ^ 64 - 1)
  pub bytes : new.out.now ≡ sets old.out.now old.count text
  pub same_slice : new.out.ghost_name ≡ old.out.ghost_name

-- the text has that many bytes, or more than a word counts, and they stand in the first entries of the slice where they fit
pub record Rendered (text old new : List ℕ) (count : ℕ) : Type 0 where
  pub counted : count ≡ min (length text) (2 ^ 64 - 1)
  pub first : length text ≤ length old → FirstEntries text old new
