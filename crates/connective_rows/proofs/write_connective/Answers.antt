-- In each arm the connective is the one that its loop is given.
use Rattle.connective_rows.proofs.write_connective.Goals as goal

pub returns-in-Never : goal.returns-in-Never
returns-in-Never c A B ea eb = rw c.in-Never.is (c.join_words.ensures A B ea eb)

pub returns-in-Always : goal.returns-in-Always
returns-in-Always c A B ea eb = rw c.in-Always.is (c.join_words-in-Always.ensures A B ea eb)

pub returns-in-Left : goal.returns-in-Left
returns-in-Left c A B ea eb = rw c.in-Left.is (c.join_words-in-Left.ensures A B ea eb)

pub returns-in-Right : goal.returns-in-Right
returns-in-Right c A B ea eb = rw c.in-Right.is (c.join_words-in-Right.ensures A B ea eb)

pub returns-in-And : goal.returns-in-And
returns-in-And c A B ea eb = rw c.in-And.is (c.join_words-in-And.ensures A B ea eb)

pub returns-in-Or : goal.returns-in-Or
returns-in-Or c A B ea eb = rw c.in-Or.is (c.join_words-in-Or.ensures A B ea eb)

pub returns-in-Implies : goal.returns-in-Implies
returns-in-Implies c A B ea eb = rw c.in-Implies.is (c.join_words-in-Implies.ensures A B ea eb)

pub returns-in-Not : goal.returns-in-Not
returns-in-Not c A B ea eb = rw c.in-Not.is (c.join_words-in-Not.ensures A B ea eb)
