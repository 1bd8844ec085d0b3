-- One byte for each of the three cases.
use borrow.Author.Rules.{rules}
use Rattle.operator_bytes.proofs.byte.binary.Goals as goal

pub returns-in-Boolean : goal.returns-in-Boolean
returns-in-Boolean c = rw c.in-Boolean.is

pub returns-in-Least : goal.returns-in-Least
returns-in-Least c = rw c.in-Least.is c.least.ensures

pub returns-in-Greatest : goal.returns-in-Greatest
returns-in-Greatest c = rw c.in-Greatest.is c.greatest.ensures
