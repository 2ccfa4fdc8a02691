use Rattle.worked.proofs.Shown.{all_hold}
use Rattle.worked.proofs.cases.worked_cases.Goals as goal

pub returns-clause-hold : goal.returns-clause-hold
returns-clause-hold c = all_hold
