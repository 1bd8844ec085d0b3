-- What the case runner prints of a case.
use Rattle.std.specs.Prelude.{ℕ, List, Bool, ◌++◌, cond, codes, decimal}
use Rattle.refusals.specs.declared.Report.{Report}

-- A number after a space.
abbrev pub field : ℕ → List ℕ
field n = codes " " ++ decimal n

-- 1 if it is so, else 0.
abbrev pub flag : Bool → List ℕ
flag so = field (cond so 1 0)

-- A refusal's number and place.
abbrev pub answer : Report → List ℕ
answer report = field report.0 ++ field report.1
