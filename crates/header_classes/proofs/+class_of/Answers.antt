use native.Mathlib.Omega.{arith}
use Rattle.header_classes.proofs.Headable.{few}
use Rattle.header_classes.proofs.+class_of.Goals as goal

pub class_with-requires-2 : goal.class_with-requires-2
class_with-requires-2 t c = let q = c.requires in (q, few q, omega arith)
