-- Tests that each element of a list passes.
use Rattle.std.proofs.Common.{◌≡◌, ℕ, ◌<◌, Bool, true, List, length, get_or}
use Rattle.std.proofs.lemmas.List.Elements.{All-get_or}
use Rattle.std.proofs.lemmas.List.Sums.{AllPass-from_list_all}
use Rattle.machine.specs.Lists.{all}

-- what holds of all holds of each
pub all_at : {X : Type 0} (test : X → Bool) (xs : List X) (i : ℕ) (d : X) → i < length xs → all test xs ≡ true → test (get_or xs i d) ≡ true
all_at test xs i d h p = All-get_or (λ x. test x ≡ true) xs i d h (AllPass-from_list_all test xs p)
