-- The check table of document 01, numbers 1 to 10: conditions, order, numbers and places.
use Rattle.std.specs.Prelude.{ℕ, zero, suc, ◌-◌, Bool, true, false, not, ◌&&◌, ◌||◌, List, [], ◌∷◌, ◌++◌, length, ltb, leb, eqb}
use Rattle.refusals.specs.declared.Refusal.TheVariants.{NoWord, TooManyWords, KindZero, NotPlain, OperandZero, OperandNotEarlier, LetterOutOfRange, FieldNotZero, Repeated, Unused}
use Rattle.refusals.specs.Refusals.{Outcome}
use Rattle.refusals.specs.Refusals.{Check, ◌⇒◌, first}
use Rattle.table.specs.Node.{Field, blank, proposition, operand, kind, left, right, shape, left_field, right_field}

abbrev pub is_blank : Field → Bool
is_blank blank = true
is_blank proposition = false
is_blank operand = false

abbrev pub is_proposition : Field → Bool
is_proposition blank = false
is_proposition proposition = true
is_proposition operand = false

abbrev pub is_operand : Field → Bool
is_operand blank = false
is_operand proposition = false
is_operand operand = true

-- what the two fields of a word hold
abbrev pub holds_left : ℕ → Field
holds_left w = left_field (shape (kind w))

abbrev pub holds_right : ℕ → Field
holds_right w = right_field (shape (kind w))

-- a number among others
unfoldable pub occurs : ℕ → List ℕ → Bool
occurs w [] = false
occurs w (v ∷ vs) = eqb v w || occurs w vs

-- the checks of word number n, w, after the earlier words, in a step that takes all kinds or plain ones only
unfoldable pub word_checks : Bool → List ℕ → ℕ → ℕ → List Check
word_checks plain_only earlier n w =
    (eqb (kind w) 0 ⇒ KindZero n)
    ∷ ((plain_only && leb 12 (kind w)) ⇒ NotPlain n)
    ∷ ((is_blank (holds_left w) && not (eqb (left w) 0) || is_blank (holds_right w) && not (eqb (right w) 0)) ⇒ FieldNotZero n)
    ∷ ((is_operand (holds_left w) && eqb (left w) 0) ⇒ OperandZero n)
    ∷ ((is_operand (holds_left w) && leb n (left w)) ⇒ OperandNotEarlier n)
    ∷ ((is_operand (holds_right w) && eqb (right w) 0) ⇒ OperandZero n)
    ∷ ((is_operand (holds_right w) && leb n (right w)) ⇒ OperandNotEarlier n)
    ∷ ((is_proposition (holds_right w) && (eqb (right w) 0 || ltb 32 (right w))) ⇒ LetterOutOfRange n)
    ∷ (occurs w earlier ⇒ Repeated n)
    ∷ []

-- the checks of all words in rising order, after the earlier ones
unfoldable pub words_checks : Bool → List ℕ → List ℕ → List Check
words_checks plain_only earlier [] = []
words_checks plain_only earlier (w ∷ ws) = word_checks plain_only earlier (suc (length earlier)) w ++ words_checks plain_only (earlier ++ (w ∷ [])) ws

-- whether a word has n for an operand
unfoldable pub uses : ℕ → ℕ → Bool
uses n w = is_operand (holds_left w) && eqb (left w) n || is_operand (holds_right w) && eqb (right w) n

unfoldable pub used : ℕ → List ℕ → Bool
used n [] = false
used n (w ∷ ws) = uses n w || used n ws

-- the checks that each of k words from number n on is used by some word
unfoldable pub use_checks : List ℕ → ℕ → ℕ → List Check
use_checks t n zero = []
use_checks t n (suc k) = (not (used n t) ⇒ Unused n) ∷ use_checks t (suc n) k

-- each word, then that all but the last are used
abbrev pub content_checks : Bool → List ℕ → List Check
content_checks plain_only t = words_checks plain_only [] t ++ use_checks t 1 (length t - 1)

-- of words without a header: how many they are, then what they are
unfoldable pub table_checks : Bool → ℕ → List ℕ → List Check
table_checks plain_only limit t =
    (eqb (length t) 0 ⇒ NoWord)
    ∷ (ltb limit (length t) ⇒ TooManyWords)
    ∷ content_checks plain_only t

unfoldable pub checked : Bool → ℕ → List ℕ → Outcome
checked plain_only limit t = first (table_checks plain_only limit t)
