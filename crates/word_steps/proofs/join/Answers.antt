-- Each connective has its law over packed positions.
use Rattle.row_words.proofs.Bits.{pack_and, pack_or, pack_not, pack-ones, pack-zeros}
use Rattle.word_steps.proofs.Words.{pack-implies}
use borrow.Author.Rules.{rules}
use Rattle.word_steps.proofs.join.Goals as goal

pub returns-in-Never : goal.returns-in-Never
returns-in-Never c A B i ea eb = rw c.in-Never.is (pack-zeros i _)

pub returns-in-Always : goal.returns-in-Always
returns-in-Always c A B i ea eb = rw (c.in-Always.is, c.ones.ensures) (pack-ones i _)

pub returns-in-Left : goal.returns-in-Left
returns-in-Left c A B i ea eb = rw c.in-Left.is ea

pub returns-in-Right : goal.returns-in-Right
returns-in-Right c A B i ea eb = rw c.in-Right.is eb

pub returns-in-And : goal.returns-in-And
returns-in-And c A B i ea eb = rw (c.in-And.is, ea, eb) (pack_and A B i _)

pub returns-in-Or : goal.returns-in-Or
returns-in-Or c A B i ea eb = rw (c.in-Or.is, ea, eb) (pack_or A B i _)

pub returns-in-Implies : goal.returns-in-Implies
returns-in-Implies c A B i ea eb = rw (c.in-Implies.is, c.ones-in-Implies.ensures, ea, eb) (pack-implies A B i _)

pub returns-in-Not : goal.returns-in-Not
returns-in-Not c A B i ea eb = rw (c.in-Not.is, c.ones-in-Not.ensures, eb) (pack_not B i _)
