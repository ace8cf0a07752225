use Rattle.std.proofs.Common.{arith}
use Rattle.chains.proofs.Rewired.{relinked, tied_ahead, tied_back, framed_on}
use Rattle.chains.proofs.link.tie.Goals as goal

pub returns : goal.returns
returns g c =
    let w = c.args.which in
    let s = relinked c.args.cells.now w c.args.a.0 c.index-cells-a.result c.set_links.new.links _ c.requires.0 c.set_links.ensures.here c.set_links.ensures.others in
    let t = relinked _ w c.args.b.0 c.index-cells-b.result c.set_links-2.new.links _ (omega arith) c.set_links-2.ensures.here c.set_links-2.ensures.others in
    record {
      ahead = tied_ahead _ _ _ w c.args.a.0 c.args.b.0 _ _ s t c.links_of-to.ensures.ahead;
      back = tied_back _ _ _ w c.args.a.0 c.args.b.0 _ _ s t c.links_of-from.ensures.back;
      others = framed_on _ _ _ _ s.others t.others;
    }
