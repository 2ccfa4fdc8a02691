use Rattle.std.proofs.Common.{◌≡◌, ◌+◌, ◌≤◌}
use Rattle.campaign.specs.Tallies.{is_found, is_open, is_undetectable}
use Rattle.campaign.proofs.Tallied.{marked_before}
use Rattle.campaign.proofs.campaign.Campaign.tally.Given as goal

-- the faults that were passed are counted
abbrev pub invariant-loop-fault : goal.invariant-loop-fault
invariant-loop-fault g l =
    let m = g.D.Device.meaning l.self.device in
    let b = l.self.book in
    record {
      some : 1 ≤ l.fault-iterator.start;
      within : l.fault-iterator.start ≤ m.members;
      end : l.fault-iterator.end ≡ m.members;
      found : l.tally.found ≡ marked_before is_found m b l.fault-iterator.start;
      undetectable : l.tally.undetectable ≡ marked_before is_undetectable m b l.fault-iterator.start;
      «open» : l.tally.open ≡ marked_before is_open m b l.fault-iterator.start;
      few : l.tally.found + l.tally.undetectable + l.tally.open + 1 ≤ l.fault-iterator.start;
    }
