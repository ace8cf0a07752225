use Rattle.std.specs.Prelude.{ℕ}
use Rattle.plain_reader.specs.declared.PlainFault.{PlainFault}
use Rattle.plain_reader.specs.declared.PlainFault.TheVariants.{PageSize, SectionOne, Rows, SectionTwo}

-- the number of each refusal
abbrev pub number : PlainFault → ℕ
number PageSize = 1
number SectionOne = 5
number Rows = 6
number SectionTwo = 7
