use Rattle.std.proofs.Common.{sym, refl}
use Rattle.keys.specs.Same.{same_list}
use Rattle.machine.specs.Entry.{named}
use Rattle.machine.proofs.Calls.{borrow_kept}
use Rattle.ring.proofs.States.{none_found}
use Rattle.ring.proofs.Ring.borrow.Goals as goal

pub cold_fault-requires-clause-outside : goal.cold_fault-requires-clause-outside
cold_fault-requires-clause-outside g c =
    let w = g.K.Key.meaning in let k = w c.args.key in
    none_found w c.args.cells.now c.args.self.now (named k) (λ e. same_list k (w e.key)) (λ e. refl) (sym c.in_default.ensures)

pub returns-in_default-clause-facts : goal.returns-in_default-clause-facts
returns-in_default-clause-facts g c = (borrow_kept c.args.m (g.K.Key.meaning c.args.key) c.cold_fault.ensures.borrowed c.requires.facts).well

pub returns-in-Some-frame-clause-facts : goal.returns-in-Some-frame-clause-facts
returns-in-Some-frame-clause-facts g c = (borrow_kept c.args.m (g.K.Key.meaning c.args.key) c.hit.ensures.borrowed c.requires.facts).well

pub returns-in-None-clause-facts : goal.returns-in-None-clause-facts
returns-in-None-clause-facts g c = (borrow_kept c.args.m (g.K.Key.meaning c.args.key) c.test_fault.ensures.borrowed c.requires.facts).well
