-- What a call leaves in a slice that it was handed.
use Rattle.std.specs.Prelude.{◌≡◌, ◌≤◌, List, ◌++◌, length, drop}

-- xs fits the slice and now stands in its first entries; the others are as they were
abbrev pub FirstEntries : {A : Type 0} → List A → List A → List A → Type 0
FirstEntries xs old new = (length xs ≤ length old) × (new ≡ xs ++ drop (length xs) old)
