-- Tests over lists.
use Rattle.std.specs.Prelude.{Bool, List}
use Rattle.std.specs.List.{list_all}

-- whether each element passes the test
abbrev pub all : {X : Type 0} → (X → Bool) → List X → Bool
all test xs = list_all test xs
