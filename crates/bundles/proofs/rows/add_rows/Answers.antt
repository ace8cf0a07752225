use Rattle.std.proofs.Common.{sym, refl, ◌∙◌}
use Rattle.bundles.proofs.Passed.{added_more, added_again}
use Rattle.bundles.proofs.rows.add_rows.Goals as goal

pub returns-then-is_listed : goal.returns-then-is_listed
returns-then-is_listed c =
    let e = c.in_ok-delivery.ensures in
    (added_again _ _ _ _ c.loop-i-test.true e.1 (sym c.is_listed.ensures ∙ c.if-is_listed.true) c.loop-i.invariant, refl)

pub loop-i-preserved : goal.loop-i-preserved
loop-i-preserved c =
    let e = c.in_ok-delivery.ensures in
    added_more _ _ _ _ c.loop-i-test.true e.1 e.0 (sym c.is_listed.ensures ∙ c.if-is_listed.false) c.loop-i.invariant
