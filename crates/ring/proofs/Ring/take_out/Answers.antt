use Rattle.std.proofs.Common.{[], refl}
use Rattle.keys.specs.Same.{same_list}
use Rattle.machine.specs.Entry.{named}
use Rattle.machine.specs.Borrow.{recalled}
use Rattle.ring.specs.Model.{machine_of}
use Rattle.ring.specs.declared.Ring.{Ring}
use Rattle.ring.proofs.States.{found_cut, state_is}
use Rattle.ring.proofs.Ring.take_out.Goals as goal

pub returns-clause-step : goal.returns-clause-step
unfolding machine_of
returns-clause-step g c =
    let w = g.K.Key.meaning in let x = c.args.cells.now in let n = c.args.self.now in let t = c.take_out in
    let b : Ring = record { table = t.new.self; cold = c.raise-self.result; used = n.used } in
    λ k e. state_is w t.new.cells b (recalled c.args.m k (machine_of w x n)) (found_cut w x n c.requires.stands (named k) (λ e. same_list k (w e.key)) (λ e. refl) c.args.row e t.new.cells b (λ _. []) refl t.ensures.rows) c.raise-self.ensures refl
