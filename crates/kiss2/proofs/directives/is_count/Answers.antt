use Rattle.std.proofs.Common.{◌<◌, ◌≤◌, Bool, ◌&&◌, leb, length, sym, ap, ◌∙◌, rules, tests}
use Rattle.std.proofs.lemmas.Bool.{le-leb, lt-ltb}
use Rattle.std.proofs.lemmas.Iterator.{YieldsList-from_slice}
use Rattle.std.proofs.lemmas.Iterator.Search.{all_from_yields_List}
use Rattle.machine.specs.Lists.{all}
use Rattle.kiss2.specs.Headings.{is_digit}
use Rattle.kiss2.proofs.directives.is_count.Goals as goal

pub returns-then-contains : goal.returns-then-contains
returns-then-contains c =
    let bytes = c.args.bytes.now in
    let some : 0 < length bytes = search (rules, tests) in
    let few : length bytes ≤ 5 = search (rules, tests) in
    all_from_yields_List is_digit _ _ _ c.all.ensures.ran (YieldsList-from_slice bytes cc) (λ x b q k. search (rules, tests))
    ∙ ap (λ (b : Bool). b && all is_digit bytes) (sym (le-leb (length bytes) 5 few))
    ∙ ap (λ (b : Bool). b && (leb (length bytes) 5 && all is_digit bytes)) (sym (lt-ltb 0 (length bytes) some))
