use Rattle.std.proofs.Common.{None, sym, subst}
use Rattle.machine.specs.Facts.{Mid}
use Rattle.machine.proofs.Laws.{mark_mid}
use Rattle.plain.specs.Hands.{machine_of}
use Rattle.plain.proofs.Once.{opened_sound, closed_sound}
use Rattle.plain.proofs.simulator.Plain.mark_page.Goals as goal

pub invariant_of-self : goal.invariant_of-self
invariant_of-self g c =
    let p = c.args.self.now in let w = g.K.Key.meaning in let s = opened_sound w p in
    let z = closed_sound w s c.mark_page.ensures.kept
    (subst (λ x. Mid p.state.frames None x) (sym c.mark_page.ensures.step) (mark_mid p.state.frames c.args.frame.0 c.args.altered (machine_of w p.state) s.facts)) in
    record { few = z.few; memory = z.memory; facts = z.facts }
