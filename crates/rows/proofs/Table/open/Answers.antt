use Rattle.std.proofs.Common.{◌≡◌, ◌+◌, ◌<◌, [], length, None, sym, ap, ◌∙◌, subst, arith}
use Rattle.std.specs.List.{AllByRecursion}
use Rattle.chains.specs.Orders.{Misses}
use Rattle.chains.specs.declared.cell.Chain.TheVariants.{Ring, Cold, Test, Free}
use Rattle.chains.specs.Shape.{shape_of, pushed}
use Rattle.chains.proofs.Shapes.{size_is}
use Rattle.rows.proofs.Opening.{Emptied, next_free, one_more, all_empty}
use Rattle.rows.proofs.Stand.{stands_on}
use Rattle.rows.specs.declared.Table.{Table}
use Rattle.rows.proofs.Table.open.Goals as goal

pub loop-i-init : goal.loop-i-init
loop-i-init g c =
    let s = shape_of c.args.cells.now c.empty-chains.result in
    let n = c.empty-chains.ensures.none in (
      c.empty-chains.ensures.intact,
      record {
        ring = n Ring;
        cold = n Cold;
        test = n Test;
        vacant = subst (AllByRecursion (λ j. s.entry j ≡ None)) (sym (n Free)) tt;
        below = subst (AllByRecursion (λ j. j < 0)) (sym (n Free)) tt;
        many = ap length (n Free);
      },
    )

pub put-requires : goal.put-requires
put-requires g c = record {
  intact = c.loop-i.invariant.0;
  cell = omega (arith, size_is c.loop-i.cells c.loop-i.chains);
}

pub push-requires : goal.push-requires
push-requires g c =
    let e = c.put.ensures.shape in
    record {
      intact = c.put.ensures.intact;
      cell = omega (arith, ap (λ s. s.size) e, size_is c.loop-i.cells c.loop-i.chains);
      away = subst (λ s. Misses c.loop-i.i (s.order Free)) (sym e) (next_free (shape_of c.loop-i.cells c.loop-i.chains) c.loop-i.i c.loop-i.invariant.1);
    }

pub loop-i-preserved : goal.loop-i-preserved
loop-i-preserved g c =
    let s = shape_of c.loop-i.cells c.loop-i.chains in
    let e = c.push.ensures.shape ∙ ap (pushed Free c.loop-i.i) c.put.ensures.shape in (
      c.push.ensures.intact,
      subst (λ s. Emptied s (c.loop-i.i + 1)) (sym e) (one_more s c.loop-i.i c.loop-i.invariant.1),
    )

pub returns : goal.returns
returns g c =
    let s = shape_of c.loop-i.cells c.loop-i.chains in
    let b : Table = record { chains = c.loop-i.chains; counts = c.default.result } in
    stands_on c.loop-i.cells b [] c.loop-i.invariant.0 (all_empty s c.loop-i.i c.loop-i.invariant.1 (omega (arith, size_is c.loop-i.cells c.loop-i.chains)) c.default.result c.default.ensures)
