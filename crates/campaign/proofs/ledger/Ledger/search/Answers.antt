use Rattle.std.proofs.Common.{◌≡◌, length, refl, rules}
use Rattle.campaign.proofs.Searching.{searched_into, start_of}
use Rattle.campaign.proofs.ledger.Ledger.search.Goals as goal

pub returns : goal.returns
returns g c =
    let full : length c.args.self.now.letters ≡ 16384 = search rules in
    searched_into (g.D.Device.meaning c.args.device.now) c.args.self.now _ c.args.fault _ _ c.unwrap_or-start.result c.search_pairs.new.letters full (start_of c.args.self.now _ _ c.unwrap_or-start.ensures c.next_place.ensures) refl refl refl refl c.search_pairs.result _ c.search_pairs.ensures.answer
