-- The proof of the cycle of calls {class_of}: the number falls.
use Rattle.header_classes.proofs.+class_of.Given as goal

abbrev pub decreases-class_of : goal.decreases-class_of
decreases-class_of l = l.most
