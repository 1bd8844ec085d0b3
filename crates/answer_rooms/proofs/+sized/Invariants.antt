-- The proof of the cycle of calls {sized}: the number falls.
use Rattle.answer_rooms.proofs.+sized.Given as goal

abbrev pub decreases-sized : goal.decreases-sized
decreases-sized l = l.most
