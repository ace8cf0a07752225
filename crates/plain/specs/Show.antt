-- What a ring shows of an entry.
--   letter_of, seen_of   the letters, in the words of the sample runs
--   spelled            the letters as text
use Rattle.std.specs.Prelude.{ℕ, cond, List, [], ◌++◌, codes}
use Rattle.machine.specs.Rows as rows
use Rattle.plain.specs.declared.show.Letter.{Letter}
use Rattle.plain.specs.declared.show.Letter.TheVariants.{Hot, Cold, Remembered}
use Rattle.plain.specs.declared.show.Letters.{Letters}

abbrev pub letter_of : Letter → rows.Letter
letter_of Hot = rows.hot_letter
letter_of Cold = rows.cold_letter
letter_of Remembered = rows.away_letter

abbrev pub seen_of : List ℕ → Letters → rows.Seen
seen_of k l = record { key = k; letter = letter_of l.letter; t = l.test; star = l.bit }

abbrev pub initial : Letter → List ℕ
initial Hot = codes "H"
initial Cold = codes "C"
initial Remembered = codes "N"

abbrev pub spelled : Letters → List ℕ
spelled l = initial l.letter ++ (cond l.test (codes "t") [] ++ cond l.bit (codes "*") [])
