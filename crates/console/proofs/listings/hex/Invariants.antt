use Rattle.std.proofs.Common.{◌≡◌, take, string_bytes}
use Rattle.console.specs.Lines.{hexed}
use Rattle.console.proofs.listings.hex.Given as goal

abbrev pub invariant-loop-b : goal.invariant-loop-b
invariant-loop-b l = string_bytes l.text ≡ hexed (take l.b-index l.bytes)
