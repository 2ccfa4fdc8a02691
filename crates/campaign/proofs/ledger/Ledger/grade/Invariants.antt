use Rattle.std.proofs.Common.{◌≡◌, ℕ, ◌<◌, ◌≤◌, get_or}
use Rattle.campaign.specs.Books.{part}
use Rattle.campaign.specs.Ledgers.{SameKept}
use Rattle.campaign.specs.Rules.{graded}
use Rattle.campaign.specs.declared.mark.Mark.TheVariants.{Open}
use Rattle.campaign.proofs.ledger.Ledger.grade.Given as goal

-- the faults that were passed are graded, the others are as they were
abbrev pub invariant-loop-fault : goal.invariant-loop-fault
invariant-loop-fault g l =
    let m = g.D.Device.meaning l.device in
    record {
      end : l.fault-iterator.end ≡ m.members;
      passed : (f : ℕ) → 0 < f → f < l.fault-iterator.start → get_or l.self.marks f Open ≡ graded m (part l.kept.start l.kept.length l.initial.self.letters) l.number f (get_or l.initial.self.marks f Open);
      others : (f : ℕ) → l.fault-iterator.start ≤ f → get_or l.self.marks f Open ≡ get_or l.initial.self.marks f Open;
      same : SameKept l.initial.self l.self;
    }
