use borrow.Author.Tests.{tests}
use Rattle.std.proofs.Common.{rules, ltb, ◌∙◌}
use Rattle.std.proofs.lemmas.Iterator.{YieldsList-from_slice}
use Rattle.std.proofs.lemmas.Iterator.Search.{all_from_yields_List}
use Rattle.gates.proofs.Checking.{all_named}
use Rattle.gates.proofs.rules.name_nets.Goals as goal

pub returns : goal.returns
returns c =
    all_from_yields_List (λ k. ltb k c.args.count) _ _ _ c.all.ensures.ran (YieldsList-from_slice c.args.numbers.now cc) (λ x b q k. search (rules, tests))
    ∙ all_named c.args.count c.args.numbers.now
