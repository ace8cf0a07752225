use Rattle.std.proofs.Common.{◌≡◌, ◌+◌, take, vec_len, fold}
use Rattle.plain_reader.proofs.keys_in_order.Given as goal

-- the keys of the rows before, and then one for each page of this row
abbrev pub invariant-loop-page : goal.invariant-loop-page
invariant-loop-page l = vec_len l.list ≡ vec_len l.initial.list + l.page

-- the keys of the rows before
abbrev pub invariant-loop-row : goal.invariant-loop-row
invariant-loop-row l = vec_len l.list ≡ fold (λ n row. n + row.pages) 0 (take l.row-index l.rows)
