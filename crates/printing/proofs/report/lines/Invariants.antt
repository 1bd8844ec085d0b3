-- The words so far are written.
use Rattle.std.proofs.Common.{take}
use Rattle.std.specs.Io.KnownBytes.{Appends}
use Rattle.printing.specs.Report.{lines}
use Rattle.printing.proofs.report.lines.Given as goal

abbrev pub invariant-loop-w : goal.invariant-loop-w
invariant-loop-w g l = Appends (g.W.Write.contents l.initial.out) (g.W.Write.contents l.out) (lines (take l.w-index l.form))
