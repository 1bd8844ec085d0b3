-- The accepting classes are those of the bits 2 and 5.
use mathlib.Core.Path.{◌≡◌, ◌∙◌}
use mathlib.Core.Logic.{◌⊎◌, inl, inr}
use Prim.Native.Nat.{ℕ}
use borrow.Author.Rules.{rules}
use borrow.Author.Tests.{eq-eqb, ne_eqb}
use Rattle.table.specs.Node.{pack}
use Rattle.state_classes.specs.Classes.{bit_word}
use Rattle.state_words.proofs.state_word.Goals as goal

accepting : (j b : ℕ) → (b ≡ 2) ⊎ (b ≡ 5) → pack 1 b j ≡ bit_word j b
accepting j b (inl e) = rw (eq-eqb b 2 e)
accepting j b (inr e) = rw e

other : (j b : ℕ) → ((b ≡ 2) ⊎ (b ≡ 5) → ⊥) → pack 0 b j ≡ bit_word j b
other j b f = rw (ne_eqb b 2 (λ e. f (inl e)), ne_eqb b 5 (λ e. f (inr e)))

pub returns-in-2 : goal.returns-in-2
returns-in-2 c = c.pack.ensures ∙ accepting _ _ c.in-2.is

pub returns-in_default : goal.returns-in_default
returns-in_default c = c.pack-in_default.ensures ∙ other c.args.number c.args.class (search rules)
