use borrow.Author.Tests.{tests}
use Rattle.std.proofs.Common.{◌≡◌, rules, ◌+◌, ◌%◌, ◌^◌, ◌∙◌, ap, arith}
use Rattle.std.proofs.lemmas.Iterator.{YieldsList-from_slice}
use Rattle.std.proofs.lemmas.Iterator.Consumers.{YieldsList-from_enumerate}
use Rattle.std.proofs.lemmas.Iterator.Search.{all_from_yields_List}
use Rattle.gates.specs.Rules.{gate_ordered, gates_ordered}
use Rattle.gates.proofs.Checking.{all_ordered}
use Rattle.gates.proofs.rules.gates_ordered.Goals as goal

pub returns : goal.returns
returns c =
    let begins : c.args.first + 0 ≡ c.args.first = omega arith in
    all_from_yields_List (λ p. gate_ordered ((c.args.first + p.0) % 2 ^ 64) p.1) c.all.new.self _ c.all.result c.all.ensures.ran (YieldsList-from_enumerate {s = c.enumerate.result} (YieldsList-from_slice c.args.gates.now cc) cc) (λ x b q k. search (rules, tests))
    ∙ all_ordered c.args.first 0 c.args.gates.now (omega arith)
    ∙ ap (λ i. gates_ordered i c.args.gates.now) begins
