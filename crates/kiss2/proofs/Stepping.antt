-- A line takes what a reader holds to what it holds with this line.
use Rattle.std.proofs.Common.{◌≡◌, ℕ, ◌+◌, ◌<◌, ◌≤◌, Bool, true, false, cond, eqb, ltb, leb, List, [], ◌∷◌, ◌++◌, length, take, Some, None, Ok, Err, Option, Result, unwrap_or, sym, refl, ap, ◌∙◌, subst, ⊎_elim, arith}
use Rattle.std.specs.List.{AllByRecursion}
use Rattle.std.proofs.lemmas.List.{length_push}
use Rattle.std.proofs.lemmas.Bool.{and_parts, cond-true, cond-false, eqb-true, le-leb}
use Rattle.machine.specs.declared.refusal.Refusal.{Refusal}
use Rattle.machine.specs.declared.refusal.Refusal.TheVariants.{BadLine, BadName}
use Rattle.devices.specs.declared.cell.Cell.{Cell}
use Rattle.kiss2.specs.Laws.{Inside}
use Rattle.kiss2.specs.Headings.{take_directive, with_end}
use Rattle.kiss2.specs.Lines.{Line, directive, end, row}
use Rattle.kiss2.specs.Placing.{Table}
use Rattle.kiss2.specs.Progressing.{BothEnlisted, Filled, Gave, Holds, Progress, RowRoom, Stepped}
use Rattle.kiss2.specs.Readings.{Seen, headed, names_with, or_else, take_line, take_row, transition, unless, with_heading, with_row}
use Rattle.kiss2.specs.Rows.{Transition, output_word, fits_rows, has_width, named, number_of, row_refusal}
use Rattle.kiss2.specs.Seeing.{LineInside, Sound, WidthUpto}
use Rattle.kiss2.specs.Texts.{bytes_of}
use Rattle.kiss2.specs.declared.heading.Heading.{Heading}
use Rattle.kiss2.specs.declared.line.Key.{Key}
use Rattle.kiss2.specs.declared.part.Part.{Part}
use Rattle.kiss2.proofs.Enlisting.{first_again, first_are, first_length}
use Rattle.kiss2.proofs.Entries.{named_below, named_grows}
use Rattle.kiss2.proofs.Filled.{row_filled}
use Rattle.kiss2.proofs.Soundness.{RowFits, row_fits, sound_line}

-- the names that are held are those of the states
pub names_held : {old_cells : List Cell} {old_names : List Part} {p : Progress} {names : List Part} {t : Table} {s : Seen} → Holds old_cells old_names p names t s → take p.states names ≡ s.names
names_held {s = s} h = first_are s.names _ _ _ h.names_stand h.states

-- the table once a row was given, where all cells of all rows lie in it
clash_more : (old : List Cell) (n : ℕ) (ts : List Transition) (tr : Transition) (clash r : Option ℕ) (t u : Table) → (clash ≡ None → Filled old ts t) → RowRoom (length t.cells) tr → RowRoom (length t.given) tr → Gave clash n tr t r u → (r ≡ or_else clash (cond (fits_rows ts tr) None (Some n))) × (or_else clash (cond (fits_rows ts tr) None (Some n)) ≡ None → Filled old (ts ++ tr ∷ []) u)
clash_more old n ts tr (Some m) r t u filled h i gave = (gave, λ e. absurd (let z : ◌≡◌ {A = ℕ} 0 1 = cc in omega arith))
clash_more old n ts tr None r t u filled h i gave =
    ⊎_elim
    (λ fit. ⊎_elim
    (λ put. (put.0 ∙ sym (cond-true _ _ _ fit.0), λ _. let same : fit.1.0 ≡ u = (let a = fit.1.1 in let b = put.1 in cc) in subst (Filled old (ts ++ tr ∷ [])) same fit.1.2))
    (λ odd. absurd (let a = fit.1.1 in let b = odd.1 in let z : ◌≡◌ {A = ℕ} 0 1 = cc in omega arith))
    (gave h))
    (λ odd. ⊎_elim
    (λ put. absurd (let a = odd.1 in let b = put.1 in let z : ◌≡◌ {A = ℕ} 0 1 = cc in omega arith))
    (λ no'. (no'.0 ∙ sym (cond-false _ _ _ odd.0), λ e. absurd (let a : ◌≡◌ {A = Option ℕ} (Some n) None = sym (cond-false (fits_rows ts tr) None (Some n) odd.0) ∙ e in let z : ◌≡◌ {A = ℕ} 0 1 = cc in omega arith)))
    (gave h))
    (row_filled old ts tr t (filled refl) h i)

-- why a row is refused by itself
abbrev refusal_of : List ℕ → Heading → Part → Part → Part → Part → Option Refusal
refusal_of text h a b c d = row_refusal h (bytes_of text a) (bytes_of text b) (bytes_of text c) (bytes_of text d)

-- what else becomes of it
abbrev unrefused : List ℕ → ℕ → Seen → Part → Part → Part → Part → Result Seen Refusal
unrefused text n s a b c d = cond (leb (length (names_with text s.names b c)) 256) (Ok (with_row n s (names_with text s.names b c) (transition text s.names a b c d))) (Err BadName)

-- a row with these numbers
abbrev numbered : List ℕ → ℕ × ℕ → ℕ → Transition
numbered input m output = record { input = input; current = m.0; next = m.1; output = output }

-- a list with one element more
all_parts : {X : Type 0} (P : X → Type 0) (xs : List X) (x : X) → AllByRecursion P (xs ++ x ∷ []) → AllByRecursion P xs × P x
all_parts P [] x h = (tt, h.0)
all_parts P (y ∷ xs) x (h, hs) = let more = all_parts P xs x hs in ((h, more.0), more.1)

module _ (text : List ℕ) (old_cells : List Cell) (old_names : List Part) (p : Progress) (names : List Part) (t : Table) (s : Seen) (sound : Sound text s) (holds : Holds old_cells old_names p names t s) (n : ℕ) (a b c d : Part) where
  -- the names of a row that stand in the slice are those that the row leads to
  enlisted : (r : Result (ℕ × ℕ) Refusal) (names' : List Part) (count : ℕ) → BothEnlisted text (take p.states names) b c names r names' count → BothEnlisted text s.names b c names r names' count
  enlisted r names' count e = subst (λ (ps : List Part). BothEnlisted text ps b c names r names' count) (names_held holds) e

  checked : (o : Option Refusal) → refusal_of text p.heading a b c d ≡ o → take_row text n s a b c d ≡ unless o (unrefused text n s a b c d)
  checked o e = ap (λ (x : Option Refusal). unless x (unrefused text n s a b c d)) (ap (λ (h : Heading). refusal_of text h a b c d) (sym holds.heading) ∙ e)

  -- a row that is taken
  pub row_step : s.heading.ended ≡ false → Inside text a × Inside text b × Inside text c × Inside text d → refusal_of text p.heading a b c d ≡ None → (m : ℕ × ℕ) (names' : List Part) (count : ℕ) → BothEnlisted text (take p.states names) b c names (Ok m) names' count → (input : List ℕ) (output : ℕ) → input ≡ bytes_of text a → output ≡ output_word (bytes_of text d) → RowRoom (length t.given) (numbered input m output) → (r : Option ℕ) (u : Table) → Gave p.clash n (numbered input m output) t r u → length u.cells ≡ length t.cells → (s' : Seen) × (take_row text n s a b c d ≡ Ok s') × Sound text s' × Holds old_cells old_names (record { heading = p.heading; states = count; rows = p.rows + 1; clash = r }) names' u s'
  row_step unended inside checks m names' count held input output ei eo room r u gave kept =
      let both = enlisted (Ok m) names' count held in
      let tr : Transition = transition text s.names a b c d in
      let s' : Seen = with_row n s (names_with text s.names b c) tr in
      let few : length (names_with text s.names b c) ≤ 256 = omega (arith, both.3, both.4) in
      let is : take_row text n s a b c d ≡ Ok s' = checked None checks ∙ cond-true (leb (length (names_with text s.names b c)) 256) (Ok s') (Err BadName) (le-leb (length (names_with text s.names b c)) 256 few) in
      let same : numbered input m output ≡ tr =
      ap (λ (x : List ℕ). numbered x m output) ei ∙ ap (λ (x : ℕ). numbered (bytes_of text a) (x, m.1) output) both.0
      ∙ ap (λ (x : ℕ). numbered (bytes_of text a) (number_of text s.names (bytes_of text b), x) output) both.1
      ∙ ap (λ (x : ℕ). numbered (bytes_of text a) (number_of text s.names (bytes_of text b), number_of text (named text s.names b) (bytes_of text c)) x) eo in
      let grows : length s.names ≤ length (names_with text s.names b c) = omega (arith, named_grows text s.names b, named_grows text (named text s.names b) c) in (
        s',
        is,
        sound_line text n s (row a b c d) s' sound inside (cond-false s.heading.ended (Err BadLine) _ unended ∙ is),
        record {
          heading = holds.heading;
          rows = ap (λ (k : ℕ). k + 1) holds.rows ∙ sym (length_push s.rows tr);
          states = both.3;
          names_stand = first_again s.names (names_with text s.names b c) old_names names names' holds.names_stand both.2 grows (first_length s.names old_names names holds.names_stand);
          cells_stand = λ rooms.
              let parts = all_parts (RowRoom (length u.cells)) s.rows tr rooms in
              let stands = holds.cells_stand (subst (λ (k : ℕ). AllByRecursion (RowRoom k) s.rows) kept parts.0) in
              clash_more old_cells n s.rows tr s.clash r t u stands.1 (subst (λ (k : ℕ). RowRoom k tr) kept parts.1) (subst (RowRoom (length t.given)) same room)
              (subst (λ (x : Option ℕ). Gave x n tr t r u) stands.0 (subst (λ (x : Transition). Gave p.clash n x t r u) same gave));
        },
      )

-- the words of a row that is not refused by itself are as wide as the heading says
wide : (most : ℕ) (o : Option ℕ) (ds : List ℕ) → WidthUpto most o → has_width (unwrap_or o 0) ds ≡ true → length ds ≤ most
wide most None ds w e = omega (arith, eqb-true (length ds) 0 (and_parts (eqb (length ds) 0) _ e).0)
wide most (Some n) ds w e = omega (arith, eqb-true (length ds) n (and_parts (eqb (length ds) n) _ e).0, w.1)

module _ {text : List ℕ} {old_cells : List Cell} {old_names : List Part} {p : Progress} {names : List Part} {t : Table} {s : Seen} (sound : Sound text s) (holds : Holds old_cells old_names p names t s) (input current next output : List ℕ) (checks : row_refusal p.heading input current next output ≡ None) where
  fits : RowFits s.heading input current next output
  fits = row_fits s.heading input current next output (ap (λ (h : Heading). row_refusal h input current next output) (sym holds.heading) ∙ checks)

  pub input_width : length input ≤ 6
  input_width = wide 6 s.heading.inputs input sound.inputs fits.input_wide

-- a row's current state is one of 256
pub current_small : (text : List ℕ) (ps : List Part) (b c : Part) (names : List Part) (m : ℕ × ℕ) (names' : List Part) (count : ℕ) → BothEnlisted text ps b c names (Ok m) names' count → m.0 < 256
current_small text ps b c names m names' count both = omega (arith, both.0, named_below text ps b, named_grows text (named text ps b) c, both.3, both.4)

module _ (text : List ℕ) (old_cells : List Cell) (old_names : List Part) (p : Progress) (names : List Part) (t : Table) (s : Seen) (sound : Sound text s) (holds : Holds old_cells old_names p names t s) (n : ℕ) where
  -- a line that changes the heading
  pub heading_step : (l : Line) (h : Heading) → LineInside text l → take_line text n s l ≡ Ok (with_heading s h) → (s' : Seen) × (take_line text n s l ≡ Ok s') × Sound text s' × Holds old_cells old_names (record { heading = h; states = p.states; rows = p.rows; clash = p.clash }) names t s'
  heading_step l h inside e = (
    with_heading s h,
    e,
    sound_line text n s l (with_heading s h) sound inside e,
    record {
      heading = refl;
      rows = holds.rows;
      states = holds.states;
      names_stand = holds.names_stand;
      cells_stand = holds.cells_stand;
    },
  )

  headed_so : (b : Bool) (x : Result Heading Refusal) (h : Heading) → cond b (Err BadLine) x ≡ Ok h → cond b (Err BadLine) (headed s x) ≡ Ok (with_heading s h)
  headed_so true x h e = absurd (let z : ◌≡◌ {A = ℕ} 0 1 = cc in omega arith)
  headed_so false x h e = ap (headed s) e

  -- a directive that is taken
  pub directive_said : (key : Key) (w : Part) (bytes : List ℕ) (h : Heading) → bytes ≡ bytes_of text w → cond p.heading.ended (Err BadLine) (take_directive (ltb 0 p.rows) p.heading key w bytes) ≡ Ok h → take_line text n s (directive key w) ≡ Ok (with_heading s h)
  directive_said key w bytes h same e =
      headed_so s.heading.ended (take_directive (ltb 0 (length s.rows)) s.heading key w (bytes_of text w)) h
      (ap (λ (x : Heading). cond x.ended (Err BadLine) (take_directive (ltb 0 (length s.rows)) x key w (bytes_of text w))) (sym holds.heading)
      ∙ ap (λ (k : ℕ). cond p.heading.ended (Err BadLine) (take_directive (ltb 0 k) p.heading key w (bytes_of text w))) (sym holds.rows)
      ∙ ap (λ (x : List ℕ). cond p.heading.ended (Err BadLine) (take_directive (ltb 0 p.rows) p.heading key w x)) (sym same) ∙ e)

  -- the end that is taken
  pub end_said : (h : Heading) → cond p.heading.ended (Err BadLine) (Ok (with_end p.heading)) ≡ Ok h → take_line text n s end ≡ Ok (with_heading s h)
  end_said h e = headed_so s.heading.ended (Ok (with_end s.heading)) h (ap (λ (x : Heading). cond x.ended (Err BadLine) (Ok (with_end x))) (sym holds.heading) ∙ e)

-- before the end a row is taken by itself
pub row_stepped : (text : List ℕ) (n : ℕ) (a b c d : Part) (p : Progress) (names : List Part) (t : Table) (r : Result Unit Refusal) (p' : Progress) (names' : List Part) (t' : Table) → p.heading.ended ≡ false → Stepped text (λ s. take_row text n s a b c d) p names t r p' names' t' → Stepped text (λ s. take_line text n s (row a b c d)) p names t r p' names' t'
row_stepped text n a b c d p names t (Ok _) p' names' t' unended step = λ old_cells old_names s sound holds.
    let x = step old_cells old_names s sound holds in
    (x.0, cond-false s.heading.ended (Err BadLine) _ (ap (λ (h : Heading). h.ended) (sym holds.heading) ∙ unended) ∙ x.1, x.2, x.3)
row_stepped text n a b c d p names t (Err e) p' names' t' unended step = λ old_cells old_names s sound holds.
    cond-false s.heading.ended (Err BadLine) _ (ap (λ (h : Heading). h.ended) (sym holds.heading) ∙ unended) ∙ step old_cells old_names s sound holds
