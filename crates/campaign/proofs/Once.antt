-- A list of calls keeps one list of sequences.
use Rattle.std.proofs.Common.{◌≡◌, ℕ, List, sym, refl, subst}
use Rattle.machine.specs.Machines.{Machine}
use Rattle.campaign.specs.Books.{Entry, entry}
use Rattle.campaign.specs.Histories.{Call, judge, admit, mark, read_out, CallKeeps, KeptBy, none, one_more, no_more, KeptOnce}
use Rattle.campaign.proofs.Differences.{least_same}

module _ (m : Machine) where
  -- a call keeps one sequence, with one origin
  one_entry : (c : Call) (cs : List Call) (es : List Entry) (s t : List ℕ) (o p : ℕ) → CallKeeps m cs es c s o → CallKeeps m cs es c t p → entry s o ≡ entry t p
  one_entry (judge f v w) cs es s t o p x y = cc (x.0, y.0, least_same m 0 f s t x.4 y.4)
  one_entry (admit u) cs es s t o p x y = cc (x.0, y.0, x.1, y.1)
  one_entry (mark f) cs es s t o p x y = absurd x
  one_entry (read_out n old place) cs es s t o p x y = absurd x

  -- what a call keeps does not change with an equal list before it
  moved : (c : Call) (cs : List Call) {es fs : List Entry} (s : List ℕ) (o : ℕ) → es ≡ fs → CallKeeps m cs es c s o → CallKeeps m cs fs c s o
  moved c cs s o e x = subst (λ (ks : List Entry). CallKeeps m cs ks c s o) e x

  same : {cs : List Call} {es fs : List Entry} → KeptBy m cs es → KeptBy m cs fs → es ≡ fs
  same none none = refl
  same (one_more {c = c} {cs = cs} s o k x) (one_more {es = fs} t p l y) =
      let before = same k l in
      cc (before, one_entry c cs fs s t o p (moved c cs s o before x) y)
  same (one_more {c = c} {cs = cs} s o k x) (no_more l not) = absurd (not s o (moved c cs s o (same k l) x))
  same (no_more k not) (one_more {c = c} {cs = cs} t p l y) = absurd (not t p (moved c cs t p (sym (same k l)) y))
  same (no_more k not) (no_more l never) = same k l

  pub kept_once : KeptOnce m
  kept_once cs es fs k l = same k l
