-- The ranges of a table, from its ghost fields.
use Rattle.std.specs.Prelude.{◌≡◌, ℕ, ◌+◌, ◌-◌, ◌*◌, ◌<◌, true, length, take, ◌==◌, nat_lt, slice_index_or}
use Rattle.std.proofs.Common.{subst, arith}
use Rattle.std.proofs.lemmas.Nat.{mul-add-lt}
use Rattle.std.proofs.lemmas.List.{length-take-le, get_or-take}
use Rattle.std.proofs.lemmas.Bool.{and_parts, ltb-true, eqb-false, cond_both}
use Rattle.machine.specs.Machines.{Sound}
use Rattle.machine.proofs.All.{all_at}
use Rattle.devices.specs.Cells.{cell_inside, altered_cell_inside, good_cell, no_cell, no_altered_cell}
use Rattle.devices.specs.Tables.{machine_of}
use Rattle.devices.specs.declared.cell.Cell.{Cell}
use Rattle.devices.specs.declared.table.Table.{Table}

-- a good cell leads to a state
good_inside : (t : Table) (q l : ℕ) → q < t.states → l < t.letters → (good_cell t.letters t.cells.now q l).next < t.states
good_inside t q l hq hl =
    let n : ℕ = t.states * t.letters in
    let i : ℕ = q * t.letters + l in
    let b : i < n = omega (arith, mul-add-lt q t.letters l t.states hq hl) in
    let m : i < length (take n t.cells.now) = rw (length-take-le n t.cells.now t.all_cells) b in
    let h : cell_inside t.states (slice_index_or (take n t.cells.now) i no_cell) ≡ true = all_at (cell_inside t.states) (take n t.cells.now) i no_cell m t.next_inside in
    ltb-true _ _ (subst (λ (c : Cell). nat_lt c.next t.states ≡ true) (get_or-take n t.cells.now i no_cell b) h)

-- an altered cell leads to a state
altered_leads : (t : Table) (k : ℕ) → k < length t.altered.now → (slice_index_or t.altered.now k no_altered_cell).next < t.states
altered_leads t k h =
    ltb-true _ _ (and_parts _ _ (all_at (altered_cell_inside t.letters t.states) t.altered.now k no_altered_cell h t.alterations_inside)).1

-- the counts of a table are in range, and its resets and next states are states
pub table_sound : (t : Table) → Sound (machine_of t)
table_sound t = record {
  some_member = omega arith;
  few_members = omega (arith, t.few_altered);
  some_letter = t.some_letter;
  few_letters = t.few_letters;
  some_state = omega (arith, t.reset_inside);
  few_states = t.few_states;
  reset_inside = λ a h. t.reset_inside;
  next_inside = λ a q l ha hq hl.
      let Inside : Cell → Type 0 = λ c. c.next < t.states in
      let good : Inside (good_cell t.letters t.cells.now q l) = good_inside t q l hq hl in
      cond_both (a == 0) _ _ Inside (λ _. good) (λ e. cond_both _ _ _ Inside (λ _. altered_leads t (a - 1) (omega (arith, eqb-false a 0 e, ha))) (λ _. good));
}
