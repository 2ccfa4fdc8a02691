use Rattle.std.proofs.Common.{rules}
use Rattle.campaign.specs.Tallies.{is_found, is_open, is_undetectable}
use Rattle.campaign.proofs.Tallied.{counted_more}
use Rattle.campaign.proofs.campaign.Campaign.tally.Goals as goal

pub loop-fault-preserved : goal.loop-fault-preserved
loop-fault-preserved g c =
    let m = g.D.Device.meaning c.args.self.now.device in
    let b = c.args.self.now.book in
    let l = c.loop-fault in
    let t = c.with-tally.result in
    let f = l.fault-iterator.start in
    let h = c.next.new.self.start in
    record {
      some = search rules;
      within = search rules;
      end = search rules;
      found = counted_more is_found m b l.tally.found t.found f h l.invariant.found (search rules) (search rules) (search rules);
      undetectable = counted_more is_undetectable m b l.tally.undetectable t.undetectable f h l.invariant.undetectable (search rules) (search rules) (search rules);
      «open» = counted_more is_open m b l.tally.open t.open f h l.invariant.open (search rules) (search rules) (search rules);
      few = search rules;
    }
