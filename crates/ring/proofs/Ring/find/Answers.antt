use Rattle.std.proofs.Common.{sym, refl}
use Rattle.keys.specs.Same.{same_list}
use Rattle.machine.specs.Entry.{named}
use Rattle.ring.proofs.States.{none_found, found_first}
use Rattle.ring.proofs.Ring.find.Goals as goal

pub returns : goal.returns
returns g c =
    let w = g.K.Key.meaning in let k = w c.args.key.now in
    sym (found_first w c.args.cells.now c.args.self.now c.requires (named k) (λ e. same_list k (w e.key)) (λ e. refl) c.in_ok-row.row (sym c.in_ok-row.ensures))

pub returns-in_err-row : goal.returns-in_err-row
returns-in_err-row g c =
    let w = g.K.Key.meaning in let k = w c.args.key.now in
    rw c.from_residual.ensures (sym (none_found w c.args.cells.now c.args.self.now (named k) (λ e. same_list k (w e.key)) (λ e. refl) (sym c.in_err-row.ensures)))
