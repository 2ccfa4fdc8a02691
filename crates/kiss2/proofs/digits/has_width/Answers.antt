use Rattle.std.proofs.Common.{Bool, ◌&&◌, length, sym, ap, ◌∙◌, rules, tests}
use Rattle.std.proofs.lemmas.Bool.{eq-eqb}
use Rattle.std.proofs.lemmas.Iterator.{YieldsList-from_slice}
use Rattle.std.proofs.lemmas.Iterator.Search.{all_from_yields_List}
use Rattle.machine.specs.Lists.{all}
use Rattle.kiss2.specs.Rows.{is_bit}
use Rattle.kiss2.proofs.digits.has_width.Goals as goal

pub returns-then-bytes-from : goal.returns-then-bytes-from
returns-then-bytes-from c =
    let bytes = c.args.bytes.now in
    all_from_yields_List is_bit _ _ _ c.all.ensures.ran (YieldsList-from_slice bytes cc) (λ x b q k. search (rules, tests))
    ∙ ap (λ (b : Bool). b && all is_bit bytes) (sym (eq-eqb (length bytes) c.args.width (c.if-bytes-from.true ∙ c.from.ensures)))
