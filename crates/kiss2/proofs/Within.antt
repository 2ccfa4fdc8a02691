-- The lines of a text, the words of a line, and what a line says lie in the text.
use Rattle.std.proofs.Common.{◌≡◌, ℕ, ◌+◌, ◌≤◌, Bool, true, false, cond, ◌||◌, eqb, List, [], ◌∷◌, length, Some, None, Ok, Err, Option, subst, arith, length-drop, length-take}
use Rattle.std.specs.List.{AllByRecursion}
use Rattle.std.proofs.lemmas.List.Sums.{prefix_len-le-length}
use Rattle.machine.specs.declared.refusal.Refusal.TheVariants.{BadLine}
use Rattle.kiss2.specs.Laws.{Inside}
use Rattle.kiss2.specs.Lines.{Line, blank, directive, end, row, behind_stop, directive_of, key_of, keyed, line_of, opens_with_stop, row_of, said}
use Rattle.kiss2.specs.Seeing.{LineInside}
use Rattle.kiss2.specs.Texts.{bytes_of, in_line, is_blank, line_length, lines, lines_after, part, word_length, words, words_from}
use Rattle.kiss2.specs.declared.line.Key.{Key}
use Rattle.kiss2.specs.declared.part.Part.{Part}
use Rattle.kiss2.proofs.Soundness.{no_value, ok_same}

-- the part ends at place m or before
abbrev Upto : ℕ → Part → Type 0
Upto m p = p.place + p.length ≤ m

-- the lines behind the line ends of s end with s
lines_after_upto : (p m : ℕ) (s : List ℕ) → p + length s ≤ m → AllByRecursion (Upto m) (lines_after p s)
lines_after_upto p m [] h = tt
lines_after_upto p m (b ∷ s) h = go (in_line b) (lines_after_upto (p + 1) m s (omega arith))
  where
    go : (t : Bool) → AllByRecursion (Upto m) (lines_after (p + 1) s) → AllByRecursion (Upto m) (cond t (lines_after (p + 1) s) (part (p + 1) (line_length s) ∷ lines_after (p + 1) s))
    go true more = more
    go false more = (omega (arith, prefix_len-le-length in_line s), more)

-- the lines of a text lie in it
pub lines_inside : (text : List ℕ) → AllByRecursion (Inside text) (lines text)
lines_inside text = (omega (arith, prefix_len-le-length in_line text), lines_after_upto 0 (length text) text (omega arith))

-- a word is no longer than what it is cut from
word_upto : (s : List ℕ) → word_length s ≤ length s
word_upto s = prefix_len-le-length _ s

-- the words of s end with s
words_from_upto : (p m : ℕ) (inside : Bool) (s : List ℕ) → p + length s ≤ m → AllByRecursion (Upto m) (words_from p inside s)
words_from_upto p m inside [] h = tt
words_from_upto p m inside (b ∷ s) h = go (eqb b 35) (is_blank b) inside (words_from_upto (p + 1) m false s (omega arith)) (words_from_upto (p + 1) m true s (omega arith))
  where
    go : (t u v : Bool) → AllByRecursion (Upto m) (words_from (p + 1) false s) → AllByRecursion (Upto m) (words_from (p + 1) true s) → AllByRecursion (Upto m) (cond t [] (cond u (words_from (p + 1) false s) (cond v (words_from (p + 1) true s) (part p (word_length (b ∷ s)) ∷ words_from (p + 1) true s))))
    go true u v out in' = tt
    go false true v out in' = out
    go false false true out in' = in'
    go false false false out in' = (omega (arith, word_upto (b ∷ s)), in')

-- the words of a line in the text lie in it
pub words_inside : (text : List ℕ) (l : Part) → Inside text l → AllByRecursion (Inside text) (words text l)
words_inside text l h = words_from_upto l.place (length text) false (bytes_of text l) (simp (length-take, length-drop) (omega arith))

module _ (text : List ℕ) (l : Line) where
  -- so do those of a row
  row_inside : (a : Part) (ws : List Part) → AllByRecursion (Inside text) (a ∷ ws) → row_of text a ws ≡ Ok l → LineInside text l
  row_inside a [] h e = no_value BadLine l e
  row_inside a (b ∷ []) h e = no_value BadLine l e
  row_inside a (b ∷ c ∷ []) h e = no_value BadLine l e
  row_inside a (b ∷ c ∷ d ∷ []) h e = go (opens_with_stop (bytes_of text b) || opens_with_stop (bytes_of text c)) e
    where
      go : (t : Bool) → cond t (Err BadLine) (Ok (row a b c d)) ≡ Ok l → LineInside text l
      go true f = no_value BadLine l f
      go false f = subst (LineInside text) (ok_same (row a b c d) l f) (h.0, h.1.0, h.1.1.0, h.1.1.1.0)
  row_inside a (b ∷ c ∷ d ∷ e ∷ ws) h f = no_value BadLine l f

  -- and that of a directive
  directive_inside : (letter : ℕ) (ws : List Part) → AllByRecursion (Inside text) ws → directive_of letter ws ≡ Ok l → LineInside text l
  directive_inside letter [] h e = go (eqb letter 101) e
    where
      go : (t : Bool) → cond t (Ok end) (Err BadLine) ≡ Ok l → LineInside text l
      go true f = subst (LineInside text) (ok_same end l f) tt
      go false f = no_value BadLine l f
  directive_inside letter (w ∷ []) h e = go (key_of letter) e
    where
      go : (k : Option Key) → keyed k w ≡ Ok l → LineInside text l
      go None f = no_value BadLine l f
      go (Some k) f = subst (LineInside text) (ok_same (directive k w) l f) h.0
  directive_inside letter (w ∷ v ∷ ws) h e = no_value BadLine l e

  -- behind a full stop
  stop_inside : (s : List ℕ) (ws : List Part) → AllByRecursion (Inside text) ws → behind_stop s ws ≡ Ok l → LineInside text l
  stop_inside [] ws h e = no_value BadLine l e
  stop_inside (letter ∷ []) ws h e = directive_inside letter ws h e
  stop_inside (letter ∷ b ∷ s) ws h e = no_value BadLine l e

  -- by the bytes of the first word
  said_inside : (w : Part) (ws : List Part) (s : List ℕ) → AllByRecursion (Inside text) (w ∷ ws) → said text w ws s ≡ Ok l → LineInside text l
  said_inside w ws [] h e = row_inside w ws h e
  said_inside w ws (b ∷ s) h e = go (eqb b 46) e
    where
      go : (t : Bool) → cond t (behind_stop s ws) (row_of text w ws) ≡ Ok l → LineInside text l
      go true f = stop_inside s ws h.1 f
      go false f = row_inside w ws h f

  -- what words in the text say lies in it
  said_by_words : (ws : List Part) → AllByRecursion (Inside text) ws → line_of text ws ≡ Ok l → LineInside text l
  said_by_words [] h e = subst (LineInside text) (ok_same blank l e) tt
  said_by_words (w ∷ ws) h e = said_inside w ws (bytes_of text w) h e

-- what a line in the text says lies in it
pub line_inside : (text : List ℕ) (p : Part) (l : Line) → Inside text p → line_of text (words text p) ≡ Ok l → LineInside text l
line_inside text p l h e = said_by_words text l (words text p) (words_inside text p h) e
