use Rattle.std.proofs.Common.{ℕ, ◌+◌, refl, ap, ◌∙◌}
use Rattle.std.proofs.lemmas.List.{take_rest}
use Rattle.kiss2.specs.Texts.{line_length}
use Rattle.kiss2.proofs.Lining.{first_left}
use Rattle.kiss2.proofs.lines.LinesIterator.next.Goals as goal

pub returns-clause-steps : goal.returns-clause-steps
returns-clause-steps c =
    let left = c.args.self.now in
    let text = left.text.now in
    let rest = c.in_ok-get.ensures.lookup.0 in
    record {
      first = first_left text left.place _ rest.0 (ap (λ (k : ℕ). left.place + k) (c.line_length.ensures.value ∙ ap line_length (rest.2 ∙ take_rest text left.place)));
      place = refl;
      next_place = refl;
      text = refl;
      same_text = refl;
    }
