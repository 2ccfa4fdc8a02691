-- How many faults have each mark.
use Rattle.std.specs.Prelude.{ℕ, ◌-◌, Bool, true, false, Ok, Err, Result, count_by}
use Rattle.std.specs.List.{range_with_len}
use Rattle.machine.specs.Machines.{Machine}
use Rattle.machine.specs.declared.refusal.Refusal.{Refusal}
use Rattle.campaign.specs.Books.{Book}
use Rattle.campaign.specs.Rules.{marked}
use Rattle.campaign.specs.declared.mark.Mark.{Mark}
use Rattle.campaign.specs.declared.mark.Mark.TheVariants.{Open, Found, Undetectable}

abbrev pub is_open : Mark → Bool
is_open Open = true
is_open (Found n) = false
is_open Undetectable = false

abbrev pub is_found : Mark → Bool
is_found Open = false
is_found (Found n) = true
is_found Undetectable = false

abbrev pub is_undetectable : Mark → Bool
is_undetectable Open = false
is_undetectable (Found n) = false
is_undetectable Undetectable = true

-- whether the answer is a mark that passes
abbrev pub answers : (Mark → Bool) → Result Mark Refusal → Bool
answers p (Ok k) = p k
answers p (Err r) = false

-- how many faults have a mark that passes
abbrev pub faults_marked : (Mark → Bool) → Machine → Book → ℕ
faults_marked p m b = count_by (λ f. answers p (marked m b f)) (range_with_len 1 (m.members - 1))
