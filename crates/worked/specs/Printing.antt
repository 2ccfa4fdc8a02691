-- Lists as the programs print them: each item behind a space.
use Rattle.std.specs.Prelude.{ℕ, List, [], ◌∷◌, Some, Option, codes}
use Rattle.std.specs.Fmt.{◌++?◌}

-- a space and the item's text for each, by what the item's type says of its text
abbrev pub spaced_text : {T : Type 0} → (T → Option (List ℕ)) → List T → Option (List ℕ)
spaced_text text [] = Some []
spaced_text text (x ∷ xs) = Some (codes " ") ++? text x ++? spaced_text text xs
