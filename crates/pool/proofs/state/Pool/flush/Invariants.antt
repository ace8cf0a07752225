use Rattle.std.proofs.Common.{◌≡◌}
use Rattle.rows.specs.Rows.{Stands}
use Rattle.ring.specs.Model.{machine_of}
use Rattle.pool.specs.Reading.{state_of}
use Rattle.pool.proofs.Frames.{Flushing}
use Rattle.pool.proofs.state.Pool.flush.Given as goal

abbrev pub invariant-loop-f : goal.invariant-loop-f
invariant-loop-f g l = record {
  stands : Stands l.cells l.self.ring.table;
  flushing : Flushing (state_of g.K.Key.meaning l.initial.self l.initial.frames l.initial.cells (g.S.Store.meant l.initial.store)) l.f
      (machine_of g.K.Key.meaning l.cells l.self.ring) (g.S.Store.meant l.store) l.written;
  number : l.self.number ≡ l.initial.self.number;
  count : l.self.frames ≡ l.initial.self.frames;
}
