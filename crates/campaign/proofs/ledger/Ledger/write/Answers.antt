use Rattle.std.proofs.Common.{◌≡◌, length, arith, rules}
use Rattle.std.proofs.lemmas.Slice.{take-put_mid_below}
use Rattle.campaign.proofs.Entries.{book_same}
use Rattle.campaign.proofs.ledger.Ledger.write.Goals as goal

pub returns-clause-same : goal.returns-clause-same
returns-clause-same c =
    let l = c.args.self.now in
    let few = l.few in
    let full : length l.letters ≡ 16384 = search rules in
    book_same l _ (take-put_mid_below l.used _ l.letters _ l.used (omega arith) (omega arith))
