-- The lines of a text, read one after another.
use Rattle.std.proofs.Common.{◌≡◌, ℕ, ◌+◌, ◌-◌, Bool, true, false, List, ◌∷◌, length, get_or, replicate, is_ok, None, Ok, Err, MatchResult, Result, sym, refl, ap, ◌∙◌, subst, arith}
use Rattle.std.proofs.lemmas.List.{get_or-replicate, length-replicate}
use Rattle.machine.specs.declared.refusal.Refusal.{Refusal}
use Rattle.devices.specs.declared.cell.Cell.{Cell}
use Rattle.kiss2.specs.Headings.{nothing_said}
use Rattle.kiss2.specs.Lines.{line_of}
use Rattle.kiss2.specs.Placing.{Table, table}
use Rattle.kiss2.specs.Progressing.{Holds, Progress, Stepped, nothing_read}
use Rattle.kiss2.specs.Readings.{Seen, nothing_seen, on_from, refused, take_lines, take_said}
use Rattle.kiss2.specs.Scanning.{LineTaken, lines_left}
use Rattle.kiss2.specs.Seeing.{Sound}
use Rattle.kiss2.specs.Texts.{lines, part, words_left}
use Rattle.kiss2.specs.declared.lines.Lines.{Lines}
use Rattle.kiss2.specs.declared.part.Part.{Part}
use Rattle.kiss2.specs.declared.refused.Refused.{Refused}
use Rattle.kiss2.specs.declared.scanning.Words.{Words}
use Rattle.kiss2.proofs.Lining.{all_left}
use Rattle.kiss2.proofs.Soundness.{sound_nothing}

-- before the first line nothing is held
pub holds_nothing : (old_cells : List Cell) (old_names : List Part) (given : List Bool) → given ≡ replicate 16384 false → Holds old_cells old_names (record { heading = nothing_said; states = 0; rows = 0; clash = None }) old_names (table old_cells given) nothing_seen
holds_nothing old_cells old_names given none = record {
  heading = refl;
  rows = refl;
  states = refl;
  names_stand = (omega arith, refl);
  cells_stand = λ _. (
    refl,
    λ _. record {
      marked = λ k h. ap (λ (bs : List Bool). get_or bs k false) none ∙ get_or-replicate 16384 k false false (omega (arith, h, ap length none, length-replicate 16384 false));
      filled = λ k h. refl;
    },
  );
}

-- the lines that are left decide, and what was read of the others is held
abbrev pub ReadSoFar : List ℕ → List Cell → List Part → ℕ → Lines → Progress → List Part → Table → Type 0
ReadSoFar text old_cells old_names number left p names t = (s : Seen) × (take_lines text number s (lines_left text left.place) ≡ take_lines text 1 nothing_seen (lines text)) × Sound text s × Holds old_cells old_names p names t s

-- before the first line nothing was read
pub starts : (text : List ℕ) (old_cells : List Cell) (old_names : List Part) (number : ℕ) (left : Lines) (p : Progress) (given : List Bool) → number ≡ 1 → left.place ≡ 0 → p ≡ nothing_read → given ≡ replicate 16384 false → ReadSoFar text old_cells old_names number left p old_names (table old_cells given)
starts text old_cells old_names number left p given first place none ungiven = (
  nothing_seen,
  ap (λ (n : ℕ). take_lines text n nothing_seen (lines_left text left.place)) first ∙ ap (λ (q : ℕ). take_lines text 1 nothing_seen (lines_left text q)) place ∙ ap (take_lines text 1 nothing_seen) (all_left text),
  sound_nothing text,
  subst (λ (q : Progress). Holds old_cells old_names q old_names (table old_cells given) nothing_seen) (sym none) (holds_nothing old_cells old_names given ungiven),
)

module _ (text : List ℕ) (old_cells : List Cell) (old_names : List Part) (number number' n : ℕ) (is : n ≡ number) (next : number' ≡ n + 1) (left left' : Lines) (line : Words) (taken : LineTaken left line left') (same : left.text.now ≡ text) (p : Progress) (names : List Part) (t : Table) (p' : Progress) (names' : List Part) (t' : Table) where
  -- what the line says
  abbrev said : Seen → Result Seen Refusal
  said s = take_said text n s (line_of text (words_left text line.at line.end))

  -- the lines behind it
  abbrev rest : Seen → Result Seen Refused
  rest s = take_lines text (n + 1) s (lines_left text left'.place)

  -- both decide
  line_first : (s : Seen) → take_lines text number s (lines_left text left.place) ≡ on_from (said s) n rest
  line_first s =
      ap (λ (k : ℕ). take_lines text k s (lines_left text left.place)) (sym is)
      ∙ ap (take_lines text n s) (subst (λ (x : List ℕ). lines_left x left.place ≡ part line.at (line.end - line.at) ∷ lines_left x left'.place) same taken.first)

  -- a line that is taken
  pub line_taken : (r : Result Unit Refusal) → true ≡ is_ok r → Stepped text said p names t r p' names' t' → ReadSoFar text old_cells old_names number left p names t → ReadSoFar text old_cells old_names number' left' p' names' t'
  line_taken (Ok _) ok step seen =
      let x = step old_cells old_names seen.0 seen.2 seen.3 in
      (x.0, ap (λ (k : ℕ). take_lines text k x.0 (lines_left text left'.place)) next ∙ sym (line_first seen.0 ∙ ap (λ (y : Result Seen Refusal). on_from y n rest) x.1) ∙ seen.1, x.2, x.3)
  line_taken (Err e) ok step seen = absurd (let z : ◌≡◌ {A = ℕ} 0 1 = cc in omega arith)

  -- a line that is refused: what the code says of the refusal gives it this line's number
  pub line_refused : (r : Result Unit Refusal) (e : Refused) (Says : Refusal → Type 0) → MatchResult r (λ x. ◌≡◌ {A = Result Unit Refused} (Err e) (Ok x)) Says → ((d : Refusal) → Says d → e ≡ refused d n) → Stepped text said p names t r p' names' t' → ReadSoFar text old_cells old_names number left p names t → take_lines text 1 nothing_seen (lines text) ≡ Err e
  line_refused (Ok x) e Says cases is step seen = absurd (let z : ◌≡◌ {A = ℕ} 0 1 = cc in omega arith)
  line_refused (Err d) e Says cases is step seen =
      sym seen.1 ∙ line_first seen.0 ∙ ap (λ (y : Result Seen Refusal). on_from y n rest) (step old_cells old_names seen.0 seen.2 seen.3) ∙ ap (λ (x : Refused). Err x) (sym (is d cases))
