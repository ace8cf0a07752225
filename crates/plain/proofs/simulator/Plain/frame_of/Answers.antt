use Rattle.std.proofs.Common.{vec_items, sym, ap, ◌∙◌}
use Rattle.machine.specs.Entry.{named}
use Rattle.records.specs.Reading.{frame_of}
use Rattle.plain.specs.Simulator.{held_in}
use Rattle.plain.proofs.Placing.{first_found, none_found}
use Rattle.plain.proofs.simulator.Plain.frame_of.Goals as goal

pub returns-in_err-at : goal.returns-in_err-at
returns-in_err-at g c =
    let w = g.K.Key.meaning in
    ap frame_of c.from_residual.ensures ∙ sym (ap held_in (none_found w (named (w c.args.key)) (vec_items c.args.self.now.state.ring) c.place_of.ensures c.in_err-at.was))

pub returns : goal.returns
returns g c =
    let w = g.K.Key.meaning in let es = vec_items c.args.self.now.state.ring in let e = c.index.result.now in
    sym (ap held_in (first_found w (named (w c.args.key)) es c.place_of.ensures c.in_ok-at.was c.index.ensures))
