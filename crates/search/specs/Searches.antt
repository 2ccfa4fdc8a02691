-- A search under way, over the list of its visits.
use Rattle.std.specs.Prelude.{◌≡◌, ℕ, ◌+◌, ◌<◌, ◌≤◌, Bool, true, false, length, Some, None, Option}
use Rattle.search.specs.Visits.{visit, Among, Marked, Searched}
use Rattle.search.specs.declared.breadth_first.Search.{Search}
use Rattle.search.specs.declared.visit.Visit.{Visit}
use Rattle.search.specs.declared.walk.Walk.{Ghosts}
use Rattle.search.specs.declared.worklist.Worklist.{Worklist}

module _ {W P : Type 0} {w : Ghosts W P} where
  -- a later state of the search: of the same walk, and of the list over the same lent slice, with the same entry next and none gone
  pub record Continues (s t : Search W P w) (old new : Worklist (Visit P)) : Type 0 where
    pub walk : t.walk ≡ s.walk
    pub lent : new.items.ghost_name ≡ old.items.ghost_name
    pub size : length new.items.now ≡ length old.items.now
    pub head : new.head ≡ old.head
    pub grows : old.tail ≤ new.tail

  -- each visit is inside, and its mark leads to it
  abbrev pub IsMarked : Search W P w → Worklist (Visit P) → Type 0
  IsMarked s list = Marked (w.graph s.walk.now) (w.Inside s.walk.now) list.items.now s.marks.now list.tail

  -- the visits are those found by the pairs (visit, letter) that stand before (h, l), and none of these met the goal
  abbrev pub HasTried : Search W P w → Worklist (Visit P) → ℕ → ℕ → Type 0
  HasTried s list h l = Searched (w.graph s.walk.now) (w.Inside s.walk.now) list.items.now s.marks.now list.tail h l

  -- whether the position is among the visits
  abbrev pub Knows : Search W P w → Worklist (Visit P) → P → Bool → Type 0
  Knows s list p known = Among (w.graph s.walk.now) list.items.now list.tail p known

  -- where the letter l leads from the visit h
  abbrev pub step_at : Search W P w → Worklist (Visit P) → ℕ → ℕ → Option P
  step_at s list h l = (w.graph s.walk.now).step (visit (w.graph s.walk.now) list.items.now h).position l

  -- the pair (h, l) meets the goal, or it is done
  abbrev pub Tried : Search W P w → Worklist (Visit P) → ℕ → ℕ → Bool → Type 0
  Tried s list h l true = HasTried s list h l × (step_at s list h l ≡ None)
  Tried s list h l false = HasTried s list h (l + 1)

  -- a letter of the visit h meets the goal, or all its letters are done
  abbrev pub Expanded : Search W P w → Worklist (Visit P) → ℕ → Option ℕ → Type 0
  Expanded s list h (Some l) = HasTried s list h l × (l < (w.graph s.walk.now).letters) × (h < list.tail) × (step_at s list h l ≡ None)
  Expanded s list h None = HasTried s list (h + 1) 0
