use Rattle.campaign.specs.Books.{book}
use Rattle.campaign.proofs.Laws.{fresh_lawful}
use Rattle.campaign.proofs.Once.{kept_once}
use Rattle.campaign.proofs.campaign.Campaign.make.Goals as goal

pub returns-clause-lawful : goal.returns-clause-lawful
returns-clause-lawful g c = fresh_lawful (g.D.Device.meaning c.args.device) (book c.new.result) c.new.ensures

pub returns-clause-once : goal.returns-clause-once
returns-clause-once g c = kept_once (g.D.Device.meaning c.args.device)
