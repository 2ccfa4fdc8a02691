-- What the check of a list of pairs answers.
use Rattle.std.specs.Prelude.{◌≡◌, ℕ, zero, suc, ◌+◌, Bool, true, false, ◌&&◌, ◌||◌, List, [], ◌∷◌, Some, None, Ok, Err, Option, Result, ◌==◌, if◌then◌else◌, nat_lt, slice_index_or}
use Rattle.std.specs.Option.{option_or}
use Rattle.machine.specs.Lists.{all}
use Rattle.machine.specs.Machines.{Machine, step_of}
use Rattle.machine.specs.Outputs.{differ}
use Rattle.machine.specs.Products.{pair, reset_pair}
use Rattle.machine.specs.declared.pair.Pair.{Pair}
use Rattle.machine.specs.declared.refusal.Refusal.{Refusal}
use Rattle.machine.specs.declared.refusal.Refusal.TheVariants.{NoSuchMember, OutOfRange}
use Rattle.compare.specs.Replays.{are_members}
use Rattle.compare.specs.Walks.{pair_number}
use Rattle.compare.specs.declared.flaw.Flaw.{Flaw}
use Rattle.compare.specs.declared.flaw.Flaw.TheVariants.{NoResetPair, OutputsDiffer, SuccessorMissing}

-- whether both states of the pair are below n
abbrev pub pair_inside : ℕ → Pair → Bool
pair_inside n p = nat_lt p.first n && nat_lt p.second n

-- whether each pair is so
abbrev pub pairs_inside : ℕ → List Pair → Bool
pairs_inside n ps = all (pair_inside n) ps

-- whether the pair p is in the list
abbrev pub listed : List Pair → Pair → Bool
listed [] p = false
listed (q ∷ qs) p = (q.first == p.first && q.second == p.second) || listed qs p

-- the pair that a letter leads to
abbrev pub next_pair : Machine → ℕ → ℕ → Pair → ℕ → Pair
next_pair m a b p l = pair (step_of m a p.first l).0 (step_of m b p.second l).0

-- what is wrong at the pair p, at place k, and the letter l, if anything, where `has` says which pairs are listed: outputs come first
abbrev pub flaw_at : Machine → ℕ → ℕ → (Pair → Bool) → ℕ → Pair → ℕ → Option Flaw
flaw_at m a b has k p l = if differ (step_of m a p.first l).1 (step_of m b p.second l).1 then Some (OutputsDiffer k l) else (if has (next_pair m a b p l) then None else Some (SuccessorMissing k l))

-- the same at the least of n letters from l on
abbrev pub flaw_at_letters : Machine → ℕ → ℕ → (Pair → Bool) → ℕ → Pair → ℕ → ℕ → Option Flaw
flaw_at_letters m a b has k p l zero = None
flaw_at_letters m a b has k p l (suc n) = option_or (flaw_at m a b has k p l) (flaw_at_letters m a b has k p (l + 1) n)

-- the same at the least place of a list, counted from k on
abbrev pub flaw_at_places : Machine → ℕ → ℕ → (Pair → Bool) → ℕ → List Pair → Option Flaw
flaw_at_places m a b has k [] = None
flaw_at_places m a b has k (p ∷ ps) = option_or (flaw_at_letters m a b has k p 0 m.letters) (flaw_at_places m a b has (k + 1) ps)

-- what is found wrong with a list of pairs for a and b, if anything: a missing reset pair comes first
abbrev pub finding : Machine → ℕ → ℕ → List Pair → Option Flaw
finding m a b ps = if listed ps (reset_pair m a b) then flaw_at_places m a b (listed ps) 0 ps else Some NoResetPair

-- the finding, or a refusal: the checks in their order
abbrev pub checked : Machine → ℕ → ℕ → List Pair → Result (Option Flaw) Refusal
checked m a b ps = if are_members m a b then (if pairs_inside m.states ps then Ok (finding m a b ps) else Err OutOfRange) else Err NoSuchMember

-- whether a table over pair numbers has the pair
abbrev pub in_table : ℕ → List Bool → Pair → Bool
in_table n table p = slice_index_or table (pair_number n p) false

-- the table has the pairs of the list and no others
abbrev pub TableOf : ℕ → List Pair → List Bool → Type 0
TableOf n ps table = (p : Pair) → pair_inside n p ≡ true → in_table n table p ≡ listed ps p
