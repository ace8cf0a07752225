-- How the steps of a borrow and its report are written.
--   counts   1 1 0
--   line     test fault, victim 3, steps 1 1 0, c 1
use Rattle.std.specs.Prelude.{ℕ, List, ◌++◌, Some, None, Option, codes, decimal}
use Rattle.std.specs.Fmt.{◌++?◌}
use Rattle.records.specs.declared.answers.Steps.{Steps}
use Rattle.records.specs.declared.answers.Report.{Report}
use Rattle.records.specs.Reading.{spelled}

abbrev pub counts : Steps → List ℕ
counts n = decimal n.cold ++ (codes " " ++ (decimal n.hot ++ (codes " " ++ decimal n.test)))

-- what is written of the victim, if there is one
abbrev pub named : {V : Type 0} → (V → Option (List ℕ)) → Option V → Option (List ℕ)
named output None = Some (codes "none")
named output (Some v) = output v

abbrev pub line : {V : Type 0} → (V → Option (List ℕ)) → Report V → Option (List ℕ)
line output r =
    Some (spelled r.outcome ++ codes ", victim ") ++? (named output r.victim ++? Some (codes ", steps " ++ (counts r.steps ++ (codes ", c " ++ decimal r.cold))))
