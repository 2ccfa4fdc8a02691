-- The lines of a text, found one after another.
use Rattle.std.proofs.Common.{◌≡◌, ℕ, suc, ◌+◌, ◌-◌, ◌<◌, ◌≤◌, Bool, true, false, cond, leb, List, [], ◌∷◌, length, drop, refl, ap, ◌∙◌, arith, length-drop}
use Rattle.std.proofs.lemmas.Bool.{cond-true, le-leb, leb-false, leb-true}
use Rattle.std.proofs.lemmas.List.{drop-drop}
use Rattle.std.proofs.lemmas.List.Sums.{prefix_len-le-length}
use Rattle.kiss2.specs.Scanning.{lines_left}
use Rattle.kiss2.specs.Texts.{in_line, line_length, lines, lines_after, part}
use Rattle.kiss2.specs.declared.part.Part.{Part}

-- a line at place q of the text, which goes on by s, and the lines behind it
abbrev pub from_line : ℕ → List ℕ → List Part
from_line q s = part q (line_length s) ∷ lines_after q s

-- no line follows one that ends with the text
lines_end : (p : ℕ) (s : List ℕ) → line_length s ≡ length s → lines_after p s ≡ []
lines_end p [] h = refl
lines_end p (b ∷ s) h = go (in_line b) (lines_end (p + 1) s) h
  where
    go : (t : Bool) → (line_length s ≡ length s → lines_after (p + 1) s ≡ []) → cond t (1 + line_length s) 0 ≡ suc (length s) → cond t (lines_after (p + 1) s) (from_line (p + 1) s) ≡ []
    go true more e = more (omega (arith, e))
    go false more e = absurd (omega (arith, e))

-- the next line begins behind the end of this one
lines_more : (p : ℕ) (s : List ℕ) → line_length s < length s → lines_after p s ≡ from_line (p + line_length s + 1) (drop (line_length s + 1) s)
lines_more p [] h = absurd (omega (arith, h))
lines_more p (b ∷ s) h = go (in_line b) (lines_more (p + 1) s) h
  where
    n : ℕ
    n = line_length s

    go : (t : Bool) → (n < length s → lines_after (p + 1) s ≡ from_line (p + 1 + n + 1) (drop (n + 1) s)) → cond t (1 + n) 0 < suc (length s) → cond t (lines_after (p + 1) s) (from_line (p + 1) s) ≡ from_line (p + cond t (1 + n) 0 + 1) (drop (cond t (1 + n) 0 + 1) (b ∷ s))
    go true more e =
        let q : p + 1 + n + 1 ≡ p + (1 + n) + 1 = omega arith in
        let k : suc (n + 1) ≡ 1 + n + 1 = omega arith in
        more (omega (arith, e)) ∙ ap (λ (i : ℕ). from_line i (drop (n + 1) s)) q ∙ ap (λ (i : ℕ). from_line (p + (1 + n) + 1) (drop i (b ∷ s))) k
    go false more e = let q : p + 1 ≡ p + 0 + 1 = omega arith in ap (λ (i : ℕ). from_line i s) q

-- before the first line all are left
pub all_left : (text : List ℕ) → lines_left text 0 ≡ lines text
all_left text = cond-true _ _ _ (le-leb 0 (length text) (omega arith))

module _ (text : List ℕ) (start end : ℕ) (inside : start ≤ length text) (is : end ≡ start + line_length (drop start text)) where
  -- a line ends in the text
  line_ends : end ≤ length text
  line_ends = omega (arith, is, prefix_len-le-length in_line (drop start text), length-drop start text, inside)

  -- no line follows the last one
  last_line : end ≡ length text → lines_after start (drop start text) ≡ []
  last_line e = lines_end start (drop start text) (omega (arith, e, is, length-drop start text, inside))

  -- behind any other the next begins
  next_line : end < length text → lines_after start (drop start text) ≡ from_line (end + 1) (drop (end + 1) text)
  next_line h =
      let n : ℕ = line_length (drop start text) in
      let less : n < length (drop start text) = omega (arith, h, is, length-drop start text, inside) in
      let q : start + n + 1 ≡ end + 1 = omega (arith, is) in
      let k : start + (n + 1) ≡ end + 1 = omega (arith, is) in
      lines_more start (drop start text) less
      ∙ ap (λ (i : ℕ). from_line i (drop (n + 1) (drop start text))) q
      ∙ ap (from_line (end + 1)) (drop-drop (n + 1) start text ∙ ap (λ (i : ℕ). drop i text) k)

  -- the lines behind this one are those from the place behind its end
  behind : lines_after start (drop start text) ≡ lines_left text (end + 1)
  behind = go (leb (end + 1) (length text)) refl
    where
      go : (t : Bool) → leb (end + 1) (length text) ≡ t → lines_after start (drop start text) ≡ cond t (from_line (end + 1) (drop (end + 1) text)) []
      go true e = next_line (omega (arith, leb-true (end + 1) (length text) e))
      go false e = last_line (omega (arith, leb-false (end + 1) (length text) e, line_ends))

  -- the first line that is left, and the others
  pub first_left : lines_left text start ≡ part start (end - start) ∷ lines_left text (end + 1)
  first_left =
      let e : line_length (drop start text) ≡ end - start = omega (arith, is) in
      cond-true (leb start (length text)) (from_line start (drop start text)) [] (le-leb start (length text) inside)
      ∙ ap (λ (k : ℕ). part start k ∷ lines_after start (drop start text)) e
      ∙ ap (λ (ls : List Part). part start (end - start) ∷ ls) behind
