use Rattle.std.proofs.Common.{arith}
use Rattle.bundles.proofs.Chunks.{rows_split}
use Rattle.bundles.proofs.opening.split_rows.Goals as goal

pub returns : goal.returns
returns c =
    let front = rw c.in_ok-count.ensures.ok_part at c.split_first_chunk.ensures.cases in
    let cut = rw c.in_ok-rows.ensures.ok_part at c.split_at_checked.ensures.cases in
    rows_split c.args.bytes.now c.in_ok-count.count.now c.in_ok-count.rest.now c.in_ok-rows.rows.now c.in_ok-rows.rest.now c.as_chunks.result.0.now c.from-count.result
    front.0 front.1 front.2 (omega arith) (omega arith) cut.0 cut.1 cut.3 cut.2 c.as_chunks.ensures.front c.as_chunks.ensures.front_len
