-- The table of a formula with letters 1 to 32 is accepted by the checks 1 to 10: it is well formed. Where only plain tables are taken, that of a plain one.
use Prim.Native.Nat.{ℕ, suc, ◌≤◌, ◌<◌}
use native.Mathlib.Omega.{arith}
use mathlib.Core.Path.{◌≡◌, refl, sym, ◌∙◌}
use mathlib.Core.Bool.{Bool, true, false, ◌&&◌, cond, false≢true}
use mathlib.Core.List.{List}
use lib.ListN.{length, get_or, take}
use lib.Seq.{length-take-le, get_or-take}
use lib.Dec.{T, lit<}
use Rattle.logic.specs.Formula.{Formula, Unary, Binary, const, lit, un, bin, next, neg, finally, globally, conj, disj, until, weak, release, strong, implies}
use Rattle.logic.specs.NegationNormalForm.{is_plain, plain_unary, plain_binary}
use Rattle.logic.proofs.Tests.{T_and}
use Rattle.table.specs.Node.{Shape, constant, letter, unary, binary, pack, shape, left_field, right_field, unary_kind, binary_kind}
use Rattle.std.specs.Prelude.{Ok}
use Rattle.table.specs.Checks.{is_blank, is_operand, is_proposition, occurs, checked}
use Rattle.table.specs.Numbering.{table_of}
use Rattle.table.proofs.Fields.{kind-pack, left_pack, right_pack}
use Rattle.table.proofs.Shapes.{shape-constant, shape-letter, shape-unary, shape-binary}
use Rattle.table.proofs.Accepted.{WellFormedWord, none_occurs, well-formed-accepted, accepted-well-formed}
use Rattle.table.proofs.Letters.{formula-letters}
use Rattle.table.specs.Table.{rule}
use Rattle.numbering.specs.Held.{Distinct}
use Rattle.logic.specs.Letters.{Letters}
use Rattle.numbering.proofs.Building.{table_of-distinct, table_of_long, held_within}
use Rattle.numbering.proofs.Built.{Made, Hereditary, table_of-built}
use Rattle.numbering.proofs.Used.{table_of-used}

-- a word that is apart from the earlier ones is not among them
distinct-absent : (t : List ℕ) → Distinct t → (i : ℕ) → i < length t → occurs (get_or t i 0) (take i t) ≡ false
distinct-absent t d i h =
    none_occurs (get_or t i 0) (take i t)
    (λ j l e.
    let b : j < i = omega (arith, length-take-le i t (omega arith)) in
    omega (arith, d.apart j i (omega arith) h (sym (get_or-take i t j 0 b) ∙ e)))

-- a word made from fields that are as its kind asks is well formed
module _ (plain_only : Bool) (earlier : List ℕ) (n k l r : ℕ) (s : Shape) (e : shape k ≡ s) (hl : l < 16384) (hr : r < 16384) where
  made_word : 0 < k → (plain_only ≡ true → k < 12)
      → (is_blank (left_field s) ≡ true → l ≡ 0) → (is_blank (right_field s) ≡ true → r ≡ 0)
      → (is_operand (left_field s) ≡ true → (0 < l) × (l < n)) → (is_operand (right_field s) ≡ true → (0 < r) × (r < n))
      → (is_proposition (right_field s) ≡ true → (0 < r) × (r ≤ 32)) → occurs (pack k l r) earlier ≡ false
      → WellFormedWord plain_only earlier n (pack k l r)
  made_word p q bl br ol or le f =
      let kind = kind-pack k l r hl hr in
      let left = left_pack k l r hl hr in
      let right = right_pack k l r hr in
      record {
        kinded = rw kind p;
        plain = λ h. rw kind (q h);
        blank_left = rw (kind, e, left) bl;
        blank_right = rw (kind, e, right) br;
        operand_left = rw (kind, e, left) ol;
        operand_right = rw (kind, e, right) or;
        letter = rw (kind, e, right) le;
        new = f;
      }

-- the kinds of constants and letters are 1 to 4
constant-kind : (c : Bool) → (0 < cond c 2 1) × (cond c 2 1 < 12)
constant-kind true = (omega arith, omega arith)
constant-kind false = (omega arith, omega arith)

letter-kind : (c : Bool) → (0 < cond c 3 4) × (cond c 3 4 < 12)
letter-kind true = (omega arith, omega arith)
letter-kind false = (omega arith, omega arith)

-- those of operators are above 0, and of plain ones below 12
unary_kind_lem : (o : Unary) → (0 < unary_kind o) × (T (plain_unary o) → unary_kind o < 12)
unary_kind_lem next = (omega arith, λ h. omega arith)
unary_kind_lem neg = (omega arith, λ h. absurd h)
unary_kind_lem finally = (omega arith, λ h. absurd h)
unary_kind_lem globally = (omega arith, λ h. absurd h)

binary_kind_lem : (o : Binary) → (0 < binary_kind o) × (T (plain_binary o) → binary_kind o < 12)
binary_kind_lem conj = (omega arith, λ h. omega arith)
binary_kind_lem disj = (omega arith, λ h. omega arith)
binary_kind_lem until = (omega arith, λ h. omega arith)
binary_kind_lem weak = (omega arith, λ h. omega arith)
binary_kind_lem release = (omega arith, λ h. omega arith)
binary_kind_lem strong = (omega arith, λ h. omega arith)
binary_kind_lem implies = (omega arith, λ h. absurd h)

-- a plain formula with letters 1 to 32
abbrev pub Plain : Formula → Type 0
Plain φ = T (is_plain φ) × Letters (λ p. (0 < p) × (p ≤ 32)) φ

-- a formula with letters 1 to 32, plain where only plain ones are taken
abbrev pub Formed : Bool → Formula → Type 0
Formed b φ = (b ≡ true → T (is_plain φ)) × Letters (λ p. (0 < p) × (p ≤ 32)) φ

plain-un : (o : Unary) (a : Formula) → T (is_plain (un o a)) → T (plain_unary o) × T (is_plain a)
unfolding is_plain
plain-un o a h = (T_and (plain_unary o) (is_plain a)).0 h

plain-bin : (o : Binary) (a b : Formula) → T (is_plain (bin o a b)) → T (plain_binary o && is_plain a) × T (is_plain b)
unfolding is_plain
plain-bin o a b h = (T_and (plain_binary o && is_plain a) (is_plain b)).0 h

formed_hereditary : (t : Bool) → Hereditary (Formed t)
formed_hereditary t = record {
  under = λ o a p. (λ e. (plain-un o a (p.0 e)).1, p.1);
  first = λ o a b p. (λ e. ((T_and (plain_binary o) (is_plain a)).0 (plain-bin o a b (p.0 e)).0).1, p.1.0);
  second = λ o a b p. (λ e. (plain-bin o a b (p.0 e)).1, p.1.1);
}

pub plain_small : (φ : Formula) → Letters (λ p. (0 < p) × (p ≤ 32)) φ → Letters (λ p. p < 16384) φ
plain_small (const b) h = tt
plain_small (lit b p) h = omega arith
plain_small (un o a) h = plain_small a h
plain_small (bin o a b) h = (plain_small a h.0, plain_small b h.1)

-- the letters of an accepted table fit the fields of its words
pub rule_small : (b : Bool) (limit : ℕ) (t : List ℕ) → checked b limit t ≡ Ok tt → Letters (λ p. p < 16384) (rule t)
unfolding rule
rule_small b limit t ok =
    let f = accepted-well-formed b limit t ok in
    formula-letters (λ p. p < 16384) f (λ i h p. omega (arith, (f.word i h).letter p)) (length t) (omega arith)

no : {A : Type 0} → false ≡ true → A
no e = absurd (false≢true e)

module _ (b : Bool) (t : List ℕ) (d : Distinct t) (k : length t < 16384) where
  -- the word of such a formula is well formed
  made_well-formed : (i : ℕ) → i < length t → (φ : Formula) → Formed b φ → Made t i φ → WellFormedWord b (take i t) (suc i) (get_or t i 0)
  made_well-formed i h (const c) p m =
      let q = constant-kind c in
      rw m (made_word b (take i t) (suc i) (cond c 2 1) 0 0 (constant c) (shape-constant c) (lit< tt) (lit< tt) q.0 (λ e. q.1)
      (λ e. refl) (λ e. refl) no no no (rw m at (distinct-absent t d i h)))
  made_well-formed i h (lit c a) p m =
      let q = letter-kind c in
      rw m (made_word b (take i t) (suc i) (cond c 3 4) 0 a (letter c) (shape-letter c) (lit< tt) (omega (arith, p.1.1)) q.0 (λ e. q.1)
      (λ e. refl) no no no (λ e. p.1) (rw m at (distinct-absent t d i h)))
  made_well-formed i h (un o a) p m =
      let g = held_within t a m.0 m.1 in
      let q = unary_kind_lem o in
      rw m.3 (made_word b (take i t) (suc i) (unary_kind o) 0 m.0 (unary o) (shape-unary o) (lit< tt) (omega (arith, g.1)) q.0 (λ e. q.1 (plain-un o a (p.0 e)).0)
      (λ e. refl) no no (λ e. (g.0, omega (arith, m.2))) no (rw m.3 at (distinct-absent t d i h)))
  made_well-formed i h (bin o a c) p m =
      let gl = held_within t a m.0 m.2 in
      let gr = held_within t c m.1 m.3 in
      let q = binary_kind_lem o in
      rw m.6 (made_word b (take i t) (suc i) (binary_kind o) m.0 m.1 (binary o) (shape-binary o) (omega (arith, gl.1)) (omega (arith, gr.1)) q.0 (λ e. q.1 ((T_and (plain_binary o) (is_plain a)).0 (plain-bin o a c (p.0 e)).0).0)
      no no (λ e. (gl.0, omega (arith, m.4))) (λ e. (gr.0, omega (arith, m.5))) no (rw m.6 at (distinct-absent t d i h)))

accepted-formed : (b : Bool) (limit : ℕ) (φ : Formula) → Formed b φ → length (table_of φ) ≤ limit → limit ≤ 16383 → checked b limit (table_of φ) ≡ Ok tt
accepted-formed b limit φ p h k =
    let t : List ℕ = table_of φ in
    let short : length t < 16384 = omega arith in
    well-formed-accepted b limit t (record {
      some = omega (arith, table_of_long φ);
      few = h;
      word = λ i g. let f = (table_of-built (formed_hereditary b) φ p).formula i g in made_well-formed b t (table_of-distinct φ) short i g f.0 f.2 f.1;
      all_used = table_of-used φ (plain_small φ p.1) short;
    })

-- the table of a plain formula is accepted, also where only plain tables are taken
pub accepted-table_of : (b : Bool) (limit : ℕ) (φ : Formula) → Plain φ → length (table_of φ) ≤ limit → limit ≤ 16383 → checked b limit (table_of φ) ≡ Ok tt
accepted-table_of b limit φ p = accepted-formed b limit φ (λ e. p.0, p.1)

-- that of any formula where all kinds are taken
pub accepted-written : (limit : ℕ) (φ : Formula) → Letters (λ p. (0 < p) × (p ≤ 32)) φ → length (table_of φ) ≤ limit → limit ≤ 16383 → checked false limit (table_of φ) ≡ Ok tt
accepted-written limit φ p = accepted-formed false limit φ (λ e. absurd (false≢true e), p)
