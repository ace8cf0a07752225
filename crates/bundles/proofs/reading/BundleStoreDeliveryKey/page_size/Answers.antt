use Rattle.bundles.specs.Bundles.{listed_by}
use Rattle.bundles.proofs.Placed.{section_sized}
use Rattle.bundles.proofs.reading.BundleStoreDeliveryKey.page_size.Goals as goal

pub returns-clause-law : goal.returns-clause-law
returns-clause-law c =
    let b = c.args.self.now in
    λ k page e. section_sized b.page_size (listed_by b) b.pages.now k page b.exact e
