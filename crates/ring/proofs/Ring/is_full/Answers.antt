use Rattle.std.proofs.Common.{◌≤◌, arith}
use Rattle.std.proofs.lemmas.Bool.{lt-leb}
use Rattle.machine.specs.Entry.{count, idle}
use Rattle.ring.specs.Model.{machine_of}
use Rattle.ring.proofs.States.{idles_are}
use Rattle.ring.proofs.Faults.{full_unused, full_used}
use Rattle.ring.proofs.Ring.is_full.Goals as goal

pub returns-then-m-self : goal.returns-then-m-self
unfolding machine_of
returns-then-m-self g c =
    let w = g.K.Key.meaning in let n = c.args.self.now in
    let h : c.args.m ≤ n.used = omega arith in
    full_used c.args.m n.used c.idle_count.result (count idle (machine_of w c.args.cells.now n).ring) h (idles_are w c.args.cells.now n c.idle_count.result c.idle_count.ensures)

pub returns-else-m-self : goal.returns-else-m-self
unfolding machine_of
returns-else-m-self g c =
    let w = g.K.Key.meaning in let n = c.args.self.now in
    let z = full_unused c.args.m n.used (count idle (machine_of w c.args.cells.now n).ring) c.if-m-self.false in
    rw (lt-leb c.args.m n.used c.if-m-self.false) z
