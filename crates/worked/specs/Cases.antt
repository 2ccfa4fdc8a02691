-- The worked cases, as one list under one proposition.
use Rattle.std.specs.Prelude.{◌≡◌, ℕ, List, [], ◌∷◌, Some, None, Ok, Option}
use Rattle.machine.specs.Machines.{Machine}
use Rattle.machine.specs.Outputs.{Equivalent, LeastDistinguishing}
use Rattle.machine.specs.Products.{pair, LeastWay, ReachablePairs}
use Rattle.machine.specs.declared.pair.Pair.{Pair}
use Rattle.machine.specs.declared.refusal.Refusal.{Refusal}
use Rattle.machine.specs.declared.refusal.Refusal.TheVariants.{FaultNotOpen}
use Rattle.compare.specs.Checks.{checked}
use Rattle.compare.specs.Replays.{replayed}
use Rattle.compare.specs.declared.flaw.Flaw.{Flaw}
use Rattle.compare.specs.declared.flaw.Flaw.TheVariants.{NoResetPair, SuccessorMissing}
use Rattle.campaign.specs.Books.{Entry, entry}
use Rattle.campaign.specs.Histories.{Call, judge, KeptBy, First, TrueRefusal}
use Rattle.worked.specs.Controller.{controller, unseen}

-- what a case says
pub data Case : Type 0 where
  -- the two members differ, and s is the least sequence that shows it
  differ : Machine → ℕ → ℕ → List ℕ → Case
  -- the two members are equivalent, and these are the reachable pairs
  equivalent : Machine → ℕ → ℕ → List Pair → Case
  -- the replay of s answers this place
  replay : Machine → ℕ → ℕ → List ℕ → Option ℕ → Case
  -- s is the least sequence to the state q
  reach : Machine → ℕ → ℕ → List ℕ → Case
  -- the check of these pairs finds this, or nothing wrong
  check : Machine → ℕ → ℕ → List Pair → Option Flaw → Case
  -- the calls, the latest first, keep these sequences
  keeps : Machine → List Call → List Entry → Case
  -- after these calls, with these sequences kept, fault f is found by n
  found : Machine → List Call → List Entry → ℕ → ℕ → Case
  -- after these calls, with these sequences kept, the judgement of f over 16 visits and 16 marks is refused
  refused : Machine → List Call → List Entry → ℕ → Refusal → Case

abbrev pub Holds : Case → Type 0
Holds (differ m a b s) = LeastDistinguishing m a b s
Holds (equivalent m a b ps) = Equivalent m a b × ReachablePairs m a b ps
Holds (replay m a b s place) = replayed m a b s ≡ Ok place
Holds (reach m a q s) = LeastWay m a q s
Holds (check m a b ps flaw) = checked m a b ps ≡ Ok flaw
Holds (keeps m cs es) = KeptBy m cs es
Holds (found m cs es f n) = KeptBy m cs es × First m es f n
Holds (refused m cs es f r) = KeptBy m cs es × TrueRefusal m cs es f 16 16 r

abbrev pub AllHold : List Case → Type 0
AllHold [] = Unit {0}
AllHold (c ∷ cs) = Holds c × AllHold cs

-- the four pairs of a state with itself
abbrev pub diagonal : List Pair
diagonal = pair 0 0 ∷ pair 1 1 ∷ pair 2 2 ∷ pair 3 3 ∷ []

-- the least sequence for fault 1
abbrev pub telling : List ℕ
telling = 0 ∷ 1 ∷ 0 ∷ 1 ∷ 1 ∷ []

abbrev pub cases : List Case
cases =
    differ controller 0 1 telling
    ∷ equivalent controller 0 0 diagonal
    ∷ equivalent controller 0 2 diagonal
    ∷ equivalent unseen 0 1 (pair 0 0 ∷ pair 1 1 ∷ pair 2 2 ∷ pair 3 3 ∷ pair 0 3 ∷ pair 1 2 ∷ [])
    ∷ replay controller 0 1 (0 ∷ 1 ∷ 0 ∷ 1 ∷ []) None
    ∷ replay controller 0 1 telling (Some 4)
    ∷ reach controller 0 3 (0 ∷ 1 ∷ 0 ∷ [])
    ∷ check controller 0 2 (pair 0 0 ∷ pair 1 1 ∷ pair 2 2 ∷ []) (Some (SuccessorMissing 2 0))
    ∷ check controller 0 2 (pair 1 1 ∷ pair 2 2 ∷ pair 3 3 ∷ []) (Some NoResetPair)
    ∷ found controller (judge 1 16 16 ∷ []) (entry telling 1 ∷ []) 1 1
    ∷ found controller (judge 1 16 16 ∷ []) (entry telling 1 ∷ []) 3 1
    ∷ refused controller (judge 1 16 16 ∷ []) (entry telling 1 ∷ []) 3 FaultNotOpen
    ∷ keeps controller (judge 1 16 16 ∷ judge 3 16 16 ∷ []) (entry (1 ∷ []) 3 ∷ entry telling 1 ∷ [])
    ∷ []
