-- What the rewriting of a word puts into its slot, by whether the word is chosen.
use Rattle.std.specs.Prelude.{ℕ, ◌≡◌, Bool, true}
use Rattle.logic.specs.Formula.{Formula}
use Rattle.transforms.specs.NormalForm.{is_least, is_greatest}
use Rattle.form_places.specs.declared.Rewriting.{Rewriting}
use Rattle.rewriting.specs.Slots.{by, word_by, slot_by}

-- x is the slot of the rewriting of word w, over operands at the slots l and r, by whether the word is in M or N
pub record Rewritten (m : Rewriting) (w : ℕ) (chosen : Bool) (l r x : ℕ) : Type 0 where
  pub is : (M N : Formula → Bool) (a b : Formula)
      → (is_least (word_by w a b) ≡ true → M (word_by w a b) ≡ chosen)
      → (is_greatest (word_by w a b) ≡ true → N (word_by w a b) ≡ chosen)
      → x ≡ slot_by (by m M N (word_by w a b)) l r
