use Rattle.std.proofs.Common.{◌≡◌, true, cond, not, ◌&&◌, [], ◌∷◌, is_some, sym, refl, ap, ◌∙◌}
use Rattle.std.proofs.lemmas.Bool.{false≢true}
use Rattle.records.specs.Questions.{evictable, unlent}
use Rattle.machine.specs.Entry.{free}
use Rattle.machine.specs.Hands.{left, evicted, promote, retest, evict}
use Rattle.records.specs.Reading.{entry_of, frame_of}
use Rattle.ring.specs.Model.{machine_of}
use Rattle.ring.specs.declared.Ring.{Ring}
use Rattle.ring.proofs.Lists.{free_is}
use Rattle.ring.proofs.States.{none_found, found_has, found_passes, found_first, found_cut, found_put, found_turned, state_is}
use Rattle.ring.proofs.Ring.cold_step.Goals as goal

pub returns-in_default-clause-step : goal.returns-in_default-clause-step
returns-in_default-clause-step g c =
    let w = g.K.Key.meaning in
    (none_found w c.args.cells.now c.args.self.now free evictable (free_is w) (sym c.in_default.ensures), refl)

pub turn-requires-clause-there : goal.turn-requires-clause-there
turn-requires-clause-there g c =
    let w = g.K.Key.meaning in
    found_has w c.args.cells.now c.args.self.now c.requires free evictable (free_is w) c.in-Some.row (sym c.in-Some.ensures)

pub turn-requires-in_default-Some-false-true-clause-there : goal.turn-requires-in_default-Some-false-true-clause-there
turn-requires-in_default-Some-false-true-clause-there g c =
    let w = g.K.Key.meaning in
    found_has w c.args.cells.now c.args.self.now c.requires free evictable (free_is w) c.in-Some.row (sym c.in-Some.ensures)

pub rewrite-requires-clause-there : goal.rewrite-requires-clause-there
rewrite-requires-clause-there g c =
    let w = g.K.Key.meaning in
    found_has w c.args.cells.now c.args.self.now c.requires free evictable (free_is w) c.in-Some.row (sym c.in-Some.ensures)

pub take_out-requires-clause-there : goal.take_out-requires-clause-there
take_out-requires-clause-there g c =
    let w = g.K.Key.meaning in
    found_has w c.args.cells.now c.args.self.now c.requires free evictable (free_is w) c.in-Some.row (sym c.in-Some.ensures)

pub unreachable-requires : goal.unreachable-requires
unreachable-requires g c =
    let w = g.K.Key.meaning in let e = c.in-Some.row.entry in
    let p = found_passes w c.args.cells.now c.args.self.now c.requires free evictable (free_is w) c.in-Some.row (sym c.in-Some.ensures) in
    false≢true (sym (ap (λ o. (is_some o && not e.hot) && unlent e) c.in_default-None-default-default.is-1) ∙ p)

pub returns-in_default-Some-true-true-clause-step : goal.returns-in_default-Some-true-true-clause-step
unfolding machine_of
returns-in_default-Some-true-true-clause-step g c =
    let w = g.K.Key.meaning in let x = c.args.cells.now in let n = c.args.self.now in let t = c.turn in let a = c.in_default-Some-true-true in
    let e = entry_of w c.in-Some.row.entry in
    let b : Ring = record { table = t.new.self; cold = c.raise-self.result; used = n.used } in
    record {
      candidate = e;
      first = found_first w x n c.requires free evictable (free_is w) c.in-Some.row (sym c.in-Some.ensures);
      bit = a.is-3;
      test = a.is-2;
      step = state_is w t.new.cells b (promote c.args.m e (machine_of w x n)) (found_turned w x n c.requires free evictable (free_is w) c.in-Some.row (sym c.in-Some.ensures) t.new.cells b _ t.ensures.rows) c.raise-self.ensures refl;
    }

pub returns-in_default-Some-false-true-clause-step : goal.returns-in_default-Some-false-true-clause-step
unfolding machine_of
returns-in_default-Some-false-true-clause-step g c =
    let w = g.K.Key.meaning in let x = c.args.cells.now in let n = c.args.self.now in let t = c.turn-in_default-Some-false-true in let a = c.in_default-Some-false-true in
    let e = entry_of w c.in-Some.row.entry in
    let b : Ring = record { table = t.new.self; cold = n.cold; used = n.used } in
    record {
      candidate = e;
      first = found_first w x n c.requires free evictable (free_is w) c.in-Some.row (sym c.in-Some.ensures);
      bit = a.is-3;
      test = a.is-2;
      step = state_is w t.new.cells b (retest e (machine_of w x n)) (found_turned w x n c.requires free evictable (free_is w) c.in-Some.row (sym c.in-Some.ensures) t.new.cells b _ t.ensures.rows) refl refl;
    }

pub returns-in_default-Some-true-false-clause-step : goal.returns-in_default-Some-true-false-clause-step
unfolding machine_of
returns-in_default-Some-true-false-clause-step g c =
    let w = g.K.Key.meaning in let x = c.args.cells.now in let n = c.args.self.now in let t = c.rewrite in let a = c.in_default-Some-true-false in
    let e = entry_of w c.in-Some.row.entry in
    let b : Ring = record { table = t.new.self; cold = n.cold; used = n.used } in
    let k = a.is-2 in let l : c.in-Some.row.entry.test ≡ true = cc in
    let h = ap (λ y. cond y (evicted e ∷ []) []) l in
    record {
      candidate = e;
      first = found_first w x n c.requires free evictable (free_is w) c.in-Some.row (sym c.in-Some.ensures);
      bit = a.is-3;
      step = state_is w t.new.cells b (evict (machine_of w x n)) (found_put w x n c.requires free evictable (free_is w) c.in-Some.row (sym c.in-Some.ensures) t.new.cells b left _ h t.ensures.rows) refl refl;
      sent = record { lies = ap frame_of a.is-1; named = ap (λ v. w v.key) (sym c.from.ensures); altered = ap (λ v. v.altered) (sym c.from.ensures) };
    }

pub returns-in_default-Some-false-false-clause-step : goal.returns-in_default-Some-false-false-clause-step
unfolding machine_of
returns-in_default-Some-false-false-clause-step g c =
    let w = g.K.Key.meaning in let x = c.args.cells.now in let n = c.args.self.now in let t = c.take_out in let a = c.in_default-Some-false-false in
    let e = entry_of w c.in-Some.row.entry in
    let b : Ring = record { table = t.new.self; cold = n.cold; used = n.used } in
    let h = ap (λ y. cond y (evicted e ∷ []) []) a.is-2 in
    record {
      candidate = e;
      first = found_first w x n c.requires free evictable (free_is w) c.in-Some.row (sym c.in-Some.ensures);
      bit = a.is-3;
      step = state_is w t.new.cells b (evict (machine_of w x n)) (found_cut w x n c.requires free evictable (free_is w) c.in-Some.row (sym c.in-Some.ensures) t.new.cells b left h t.ensures.rows) refl refl;
      sent = record { lies = ap frame_of a.is-1; named = ap (λ v. w v.key) (sym c.from-in_default-Some-false-false.ensures); altered = ap (λ v. v.altered) (sym c.from-in_default-Some-false-false.ensures) };
    }
