use Rattle.std.proofs.Common.{◌≡◌, ℕ, ◌+◌, ◌-◌, ◌∷◌, take, drop, sym, refl, ap, ◌∙◌, arith}
use Rattle.std.proofs.lemmas.Bool.{eq-eqb, ne_eqb, cond-true, cond-false}
use Rattle.kiss2.specs.Texts.{part, words_left}
use Rattle.kiss2.proofs.Scans.{next_found, cut_length}
use Rattle.kiss2.proofs.scanning.WordsIterator.next.Goals as goal

pub returns-then-length-eq0-clause-steps : goal.returns-then-length-eq0-clause-steps
returns-then-length-eq0-clause-steps c =
    let w = c.args.self.now in
    let found = next_found w.text.now w.at w.end c.blank_count.result c.word_length-length.result w.ordered w.inside c.blank_count.ensures.value c.blank_count.ensures.bound c.word_length-length.ensures.value c.word_length-length.ensures.bound in
    ((found.0 ∙ cond-true _ _ _ (eq-eqb _ 0 c.if-length-eq0.true), refl), refl, refl)

pub returns-clause-steps : goal.returns-clause-steps
returns-clause-steps c =
    let w = c.args.self.now in
    let text = w.text.now in
    let place : ℕ = w.at + c.blank_count.result in
    let n : ℕ = c.word_length-length.result in
    let found = next_found text w.at w.end c.blank_count.result n w.ordered w.inside c.blank_count.ensures.value c.blank_count.ensures.bound c.word_length-length.ensures.value c.word_length-length.ensures.bound in
    let long = cut_length text place n found.1 in (
      (
        found.0 ∙ cond-false _ _ _ (ne_eqb _ 0 c.if-length-eq0.false) ∙ ap (λ (k : ℕ). part place k ∷ words_left text (place + n) w.end) (sym long),
        record {
          bytes = ap (λ (k : ℕ). take k (drop place text)) (let e : place + n - place ≡ n = omega arith in e ∙ sym long);
          inside = omega (arith, long, found.1);
        },
      ),
      refl,
      refl,
    )
