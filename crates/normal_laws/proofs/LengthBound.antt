-- The length of a folded normal form, by the formulas that it is made of before it is folded: what each word adds under each rewriting, each chosen word as a conjunct, and each choice as a disjunct.
use Prim.Native.Nat.{ℕ, zero, suc, ◌+◌, ◌*◌, ◌^◌, ◌≤◌, ◌<◌}
use native.Mathlib.Omega.{arith}
use native.Mathlib.Nat.{suc-mul, mul-add, mul-le-mul_right}
use mathlib.Core.Path.{◌≡◌, refl, sym, ap, subst}
use mathlib.Core.Logic.{◌⊎◌, ⊎_elim}
use mathlib.Core.Bool.{Bool, true, false, cond}
use mathlib.Core.List.{List, [], ◌∷◌, ◌++◌, map, foldl, Memᴰ}
use lib.ListN.{length, length-append, length-map}
use Rattle.logic.specs.Formula.{Formula, Binary, const, lit, un, bin, conj, disj, until, weak, release, strong, implies, F, G}
use Rattle.transforms.specs.Folding.{fold}
use Rattle.transforms.specs.Rewriting.{steady_op, steady, recurring_op, recurring, opening}
use lib.Dec.{eqb}
use lib.Count.{ones}
use native.Mathlib.Decide.{ℕ_discrete}
use borrow.Author.Tests.{ne_eqb, eq-eqb}
use Rattle.normal_laws.proofs.ChoiceOrder.{choices_below, up_to, choices_first, normal_form-disjoined}
use Rattle.transforms.specs.NormalForm.{is_least, is_greatest, is_fixpoint, chosen, least_of, greatest_of, member, part, from, join_all, choices_of, choices, normal_form}
use Rattle.table.specs.Table.{formulas, rule}
use Rattle.table.specs.Numbering.{table_of}
use Rattle.table.specs.Steps.{fixpoints, normal_table}
use Rattle.table.proofs.Accepted.{WellFormed}
use Rattle.table.proofs.Formulas.{length-formulas}
use Rattle.numbering.proofs.Built.{Hereditary}
use Rattle.numbering.proofs.Lengths.{hereditary_sub, folded_length}
use Rattle.transforms.specs.Subformula as subformula
use Rattle.transforms.proofs.Normal.PlainFormula.{sub_trans}
use Rattle.normal_laws.proofs.Subformulas.{complete, inside}
use Rattle.transforms.proofs.Normal.Membership.{mem_join_all, mem_keep}
use Rattle.normal_laws.proofs.Chosen.{mem_chosen, members_few}

-- what holds of the operands of a formula
abbrev Under : (Formula → Type 0) → Formula → Type 0
Under P (const b) = Unit {0}
Under P (lit b n) = Unit {0}
Under P (un o a) = P a
Under P (bin o a b) = P a × P b

module _ (P : Formula → Type 0) where
  steady_op_under : (m : Bool) (o : Binary) (a b : Formula) → P a → P b → Under P (steady_op m o a b)
  steady_op_under m conj a b p q = (p, q)
  steady_op_under m disj a b p q = (p, q)
  steady_op_under true until a b p q = (p, q)
  steady_op_under false until a b p q = tt
  steady_op_under m weak a b p q = (p, q)
  steady_op_under m release a b p q = (p, q)
  steady_op_under true strong a b p q = (p, q)
  steady_op_under false strong a b p q = tt
  steady_op_under m implies a b p q = (p, q)

  steady_under : (M : Formula → Bool) (φ : Formula) → Under (λ a. P (steady M a)) φ → Under P (steady M φ)
  unfolding steady
  steady_under M (const b) u = tt
  steady_under M (lit b n) u = tt
  steady_under M (un o a) u = u
  steady_under M (bin o a b) u = steady_op_under (M (bin o a b)) o (steady M a) (steady M b) u.0 u.1

  recurring_op_under : (n : Bool) (o : Binary) (a b : Formula) → P a → P b → Under P (recurring_op n o a b)
  recurring_op_under n conj a b p q = (p, q)
  recurring_op_under n disj a b p q = (p, q)
  recurring_op_under n until a b p q = (p, q)
  recurring_op_under true weak a b p q = tt
  recurring_op_under false weak a b p q = (p, q)
  recurring_op_under true release a b p q = tt
  recurring_op_under false release a b p q = (p, q)
  recurring_op_under n strong a b p q = (p, q)
  recurring_op_under n implies a b p q = (p, q)

  recurring_under : (N : Formula → Bool) (φ : Formula) → Under (λ a. P (recurring N a)) φ → Under P (recurring N φ)
  unfolding recurring
  recurring_under N (const b) u = tt
  recurring_under N (lit b n) u = tt
  recurring_under N (un o a) u = u
  recurring_under N (bin o a b) u = recurring_op_under (N (bin o a b)) o (recurring N a) (recurring N b) u.0 u.1

-- the G and the or that an opening form adds for W and for R
always : (Formula → Bool) → Formula → Formula
always M (const b) = const false
always M (lit b n) = const false
always M (un o a) = const false
always M (bin conj a b) = const false
always M (bin disj a b) = const false
always M (bin until a b) = const false
always M (bin weak a b) = G (steady M a)
always M (bin release a b) = G (steady M b)
always M (bin strong a b) = const false
always M (bin implies a b) = const false

either_or : (Formula → Bool) → Formula → Formula
either_or M (const b) = const false
either_or M (lit b n) = const false
either_or M (un o a) = const false
either_or M (bin conj a b) = const false
either_or M (bin disj a b) = const false
either_or M (bin until a b) = const false
either_or M (bin weak a b) = bin disj (opening M b) (G (steady M a))
either_or M (bin release a b) = bin disj (opening M a) (G (steady M b))
either_or M (bin strong a b) = const false
either_or M (bin implies a b) = const false

module _ (P : Formula → Type 0) (M : Formula → Bool) where
  opening_under : (φ : Formula) → Under (λ a. P (opening M a)) φ → P (either_or M φ) → Under P (opening M φ)
  unfolding opening either_or
  opening_under (const b) u e = tt
  opening_under (lit b n) u e = tt
  opening_under (un o a) u e = u
  opening_under (bin conj a b) u e = u
  opening_under (bin disj a b) u e = u
  opening_under (bin until a b) u e = u
  opening_under (bin weak a b) u e = (u.0, e)
  opening_under (bin release a b) u e = (e, u.1)
  opening_under (bin strong a b) u e = u
  opening_under (bin implies a b) u e = u

  either_or_under : (φ : Formula) → Under (λ a. P (opening M a)) φ → P (always M φ) → Under P (either_or M φ)
  unfolding always either_or
  either_or_under (const b) u e = tt
  either_or_under (lit b n) u e = tt
  either_or_under (un o a) u e = tt
  either_or_under (bin conj a b) u e = tt
  either_or_under (bin disj a b) u e = tt
  either_or_under (bin until a b) u e = tt
  either_or_under (bin weak a b) u e = (u.1, e)
  either_or_under (bin release a b) u e = (u.0, e)
  either_or_under (bin strong a b) u e = tt
  either_or_under (bin implies a b) u e = tt

  always_under : (φ : Formula) → P (const false) → Under (λ a. P (steady M a)) φ → Under P (always M φ)
  unfolding always
  always_under (const b) z u = tt
  always_under (lit b n) z u = tt
  always_under (un o a) z u = tt
  always_under (bin conj a b) z u = tt
  always_under (bin disj a b) z u = tt
  always_under (bin until a b) z u = tt
  always_under (bin weak a b) z u = (z, u.0)
  always_under (bin release a b) z u = (z, u.1)
  always_under (bin strong a b) z u = tt
  always_under (bin implies a b) z u = tt

under_map : {P R : Formula → Type 0} (φ : Formula) → ((a : Formula) → P a → R a) → Under P φ → Under R φ
under_map (const b) f u = tt
under_map (lit b n) f u = tt
under_map (un o a) f u = f a u
under_map (bin o a b) f u = (f a u.0, f b u.1)

-- formulas joined from the left, one more at a time
joins : Binary → Formula → List Formula → List Formula
joins o φ [] = []
joins o φ (ψ ∷ ψs) = bin o φ ψ ∷ joins o (bin o φ ψ) ψs

joins_under : (P : Formula → Type 0) (o : Binary) (φ : Formula) (ψs : List Formula) → P φ → ((ψ : Formula) → Memᴰ ψ ψs → P ψ)
    → ((χ : Formula) → Memᴰ χ (joins o φ ψs) → P χ) → (χ : Formula) → Memᴰ χ (joins o φ ψs) → Under P χ
unfolding joins
joins_under P o φ [] p q r χ m = absurd (mathlib.Core.List.Memᴰ.not-nil m)
joins_under P o φ (ψ ∷ ψs) p q r χ m =
    ⊎_elim (λ e. subst (Under P) (sym e) (p, q ψ (mathlib.Core.List.Memᴰ.head refl)))
    (λ n. joins_under P o (bin o φ ψ) ψs (r (bin o φ ψ) (mathlib.Core.List.Memᴰ.head refl)) (λ x y. q x (mathlib.Core.List.Memᴰ.tail y)) (λ x y. r x (mathlib.Core.List.Memᴰ.tail y)) χ n)
    (mathlib.Core.List.Memᴰ.cases_cons m)

joins_last : (P : Formula → Type 0) (o : Binary) (φ : Formula) (ψs : List Formula) → P φ → ((χ : Formula) → Memᴰ χ (joins o φ ψs) → P χ) → P (foldl (bin o) φ ψs)
unfolding joins
joins_last P o φ [] p r = p
joins_last P o φ (ψ ∷ ψs) p r = joins_last P o (bin o φ ψ) ψs (r (bin o φ ψ) (mathlib.Core.List.Memᴰ.head refl)) (λ x y. r x (mathlib.Core.List.Memᴰ.tail y))

joins-length : (o : Binary) (φ : Formula) (ψs : List Formula) → length (joins o φ ψs) ≡ length ψs
unfolding joins
joins-length o φ [] = refl
joins-length o φ (ψ ∷ ψs) = ap suc (joins-length o (bin o φ ψ) ψs)

-- where an element of a list of lists comes from
mem_mapped : {A B : Type 0} (g : A → B) {b : B} (l : List A) → Memᴰ b (map g l) → (a : A) × Memᴰ a l × (b ≡ g a)
mem_mapped g [] m = absurd (mathlib.Core.List.Memᴰ.not-nil m)
mem_mapped g {b} (x ∷ l) m =
    ⊎_elim {C = (a : _) × Memᴰ a (x ∷ l) × (b ≡ g a)} (λ e. (x, mathlib.Core.List.Memᴰ.head refl, e)) (λ n. let r = mem_mapped g l n in (r.0, mathlib.Core.List.Memᴰ.tail r.1, r.2)) (mathlib.Core.List.Memᴰ.cases_cons m)

pub mem_flat : {A B : Type 0} (g : A → List B) {b : B} (l : List A) → Memᴰ b (join_all (map g l)) → (a : A) × Memᴰ a l × Memᴰ b (g a)
mem_flat g [] m = absurd (mathlib.Core.List.Memᴰ.not-nil m)
mem_flat g {b} (x ∷ l) m =
    ⊎_elim {C = (a : _) × Memᴰ a (x ∷ l) × Memᴰ b (g a)} (λ e. (x, mathlib.Core.List.Memᴰ.head refl, e)) (λ n. let r = mem_flat g l n in (r.0, mathlib.Core.List.Memᴰ.tail r.1, r.2)) (mathlib.Core.List.Memᴰ.append_cases (g x) m)

flat_mem : {A B : Type 0} (g : A → List B) {b : B} {a : A} {l : List A} → Memᴰ a l → Memᴰ b (g a) → Memᴰ b (join_all (map g l))
flat_mem g m n = mem_join_all n (mathlib.Core.List.Memᴰ.map g m)

flat-length : {A B : Type 0} (g : A → List B) (d : ℕ) (l : List A) → ((a : A) → length (g a) ≤ d) → length (join_all (map g l)) ≤ length l * d
flat-length g d [] h = omega arith
flat-length g d (x ∷ l) h = omega (arith, length-append (g x) (join_all (map g l)), suc-mul (length l) d, h x, flat-length g d l h)

-- a choice has one count of chosen words, so no more choices are listed than there are numbers
hit : ℕ → ℕ → ℕ → List ℕ
hit x c n = cond (eqb x n) (c ∷ []) []

no_hit : (x c a m : ℕ) → x < a → length (join_all (map (hit x c) (from a m))) ≤ 0
unfolding hit
no_hit x c a zero h = omega arith
no_hit x c a (suc m) h = rw (ne_eqb x a (λ e. omega arith)) (no_hit x c (suc a) m (omega arith))

one_hit : (x c a m : ℕ) → length (join_all (map (hit x c) (from a m))) ≤ 1
unfolding hit
one_hit x c a zero = omega arith
one_hit x c a (suc m) = go (ℕ_discrete x a) (one_hit x c (suc a) m)
  where
    go : Dec (x ≡ a) → length (join_all (map (hit x c) (from (suc a) m))) ≤ 1 → length (hit x c a ++ join_all (map (hit x c) (from (suc a) m))) ≤ 1
    go (yes e) r = rw (eq-eqb x a e) (omega (arith, no_hit x c (suc a) m (omega arith)))
    go (no f) r = rw (ne_eqb x a f) r

flat_sum : (g h : ℕ → List ℕ) (l : List ℕ) → length (join_all (map (λ n. g n ++ h n) l)) ≡ length (join_all (map g l)) + length (join_all (map h l))
flat_sum g h [] = refl
flat_sum g h (x ∷ l) =
    omega (
      arith,
      length-append (g x ++ h x) (join_all (map (λ n. g n ++ h n) l)),
      length-append (g x) (h x),
      length-append (g x) (join_all (map g l)),
      length-append (h x) (join_all (map h l)),
      flat_sum g h l,
    )

same_flat : (g h : ℕ → List ℕ) → ((n : ℕ) → g n ≡ h n) → (l : List ℕ) → length (join_all (map g l)) ≡ length (join_all (map h l))
same_flat g h e [] = refl
same_flat g h e (x ∷ l) = omega (arith, length-append (g x) (join_all (map g l)), length-append (h x) (join_all (map h l)), ap length (e x), same_flat g h e l)

below_more : (c n : ℕ) → choices_below (suc c) n ≡ hit (ones c) c n ++ choices_below c n
unfolding hit
below_more c n = go (eqb (ones c) n)
  where
    go : (b : Bool) → cond b (c ∷ choices_below c n) (choices_below c n) ≡ cond b (c ∷ []) [] ++ choices_below c n
    go true = refl
    go false = refl

below_length : (c a m : ℕ) → length (join_all (map (choices_below c) (from a m))) ≤ c
unfolding hit
below_length zero a m = omega (arith, flat-length (choices_below zero) 0 (from a m) (λ n. omega arith))
below_length (suc c) a m =
    omega (
      arith,
      same_flat (choices_below (suc c)) (λ n. hit (ones c) c n ++ choices_below c n) (λ n. below_more c n) (from a m),
      flat_sum (hit (ones c) c) (choices_below c) (from a m),
      one_hit (ones c) c a m,
      below_length c a m,
    )

choices-length : (k : ℕ) → length (choices k) ≤ 2 ^ k
unfolding choices choices_of
choices-length k = below_length (2 ^ k) 0 (suc k)

-- the formulas that the part of a choice is made of
module _ (ψs fs : List Formula) (φ : Formula) where
  abbrev opens : ℕ → Formula → List Formula
  opens c ψ = opening (member (least_of ψs c)) ψ ∷ either_or (member (least_of ψs c)) ψ ∷ always (member (least_of ψs c)) ψ ∷ []

  abbrev GF : ℕ → Formula → Formula
  GF c ψ = G (F (recurring (member (greatest_of ψs c)) ψ))

  abbrev FG : ℕ → Formula → Formula
  FG c ψ = F (G (steady (member (least_of ψs c)) ψ))

  abbrev often : ℕ → Formula → List Formula
  often c ψ = F (recurring (member (greatest_of ψs c)) ψ) ∷ GF c ψ ∷ []

  abbrev lasting : ℕ → Formula → List Formula
  lasting c ψ = G (steady (member (least_of ψs c)) ψ) ∷ FG c ψ ∷ []

  abbrev conjuncts : ℕ → List Formula
  conjuncts c = map (GF c) (least_of ψs c) ++ map (FG c) (greatest_of ψs c)

  abbrev A₁ : ℕ → List Formula
  A₁ c = map (steady (member (least_of ψs c))) fs

  abbrev A₂ : ℕ → List Formula
  A₂ c = map (recurring (member (greatest_of ψs c))) fs

  abbrev A₃ : ℕ → List Formula
  A₃ c = join_all (map (opens c) fs)

  abbrev A₄ : ℕ → List Formula
  A₄ c = join_all (map (often c) (least_of ψs c))

  abbrev A₅ : ℕ → List Formula
  A₅ c = join_all (map (lasting c) (greatest_of ψs c))

  abbrev A₆ : ℕ → List Formula
  A₆ c = joins conj (opening (member (least_of ψs c)) φ) (conjuncts c)

  abbrev block : ℕ → List Formula
  block c = A₁ c ++ (A₂ c ++ (A₃ c ++ (A₄ c ++ (A₅ c ++ A₆ c))))

  block-length : (c : ℕ) → length (block c) ≤ 5 * length fs + 3 * length ψs
  unfolding least_of greatest_of
  block-length c =
      let m = least_of ψs c in
      let n = greatest_of ψs c in
      omega (
        arith,
        length-append (A₁ c) (A₂ c ++ (A₃ c ++ (A₄ c ++ (A₅ c ++ A₆ c)))),
        length-append (A₂ c) (A₃ c ++ (A₄ c ++ (A₅ c ++ A₆ c))),
        length-append (A₃ c) (A₄ c ++ (A₅ c ++ A₆ c)),
        length-append (A₄ c) (A₅ c ++ A₆ c),
        length-append (A₅ c) (A₆ c),
        length-map fs (steady (member m)),
        length-map fs (recurring (member n)),
        flat-length (opens c) 3 fs (λ a. omega arith),
        flat-length (often c) 2 m (λ a. omega arith),
        flat-length (lasting c) 2 n (λ a. omega arith),
        joins-length conj (opening (member m) φ) (conjuncts c),
        length-append (map (GF c) m) (map (FG c) n),
        length-map m (GF c),
        length-map n (FG c),
        members_few ψs c,
      )

  -- what the whole form is made of
  abbrev whole : List ℕ → List Formula
  whole cs = const true ∷ const false ∷ (join_all (map block (0 ∷ cs)) ++ joins disj (part ψs φ 0) (map (part ψs φ) cs))

  whole_length : (cs : List ℕ) → length (whole cs) ≤ suc (length cs) * (5 * length fs + 3 * length ψs + 1) + 2
  whole_length cs =
      omega (
        arith,
        length-append (join_all (map block (0 ∷ cs))) (joins disj (part ψs φ 0) (map (part ψs φ) cs)),
        flat-length block (5 * length fs + 3 * length ψs) (0 ∷ cs) block-length,
        joins-length disj (part ψs φ 0) (map (part ψs φ) cs),
        length-map cs (part ψs φ),
        mul-add (suc (length cs)) (5 * length fs + 3 * length ψs) 1,
      )

  -- every operand of one of these formulas is one of them
  module _ (closed : (ψ : Formula) → Memᴰ ψ fs → Under (λ a. Memᴰ a fs) ψ) (own : Memᴰ φ fs) (inner : (ψ : Formula) → Memᴰ ψ ψs → Memᴰ ψ fs) (cs : List ℕ) where
    abbrev In : Formula → Type 0
    In χ = Memᴰ χ (whole cs)

    module _ (c : ℕ) (mc : Memᴰ c (0 ∷ cs)) where
      in_block : {χ : Formula} → Memᴰ χ (block c) → In χ
      in_block m = mathlib.Core.List.Memᴰ.tail (mathlib.Core.List.Memᴰ.tail (mathlib.Core.List.Memᴰ.append_left (joins disj (part ψs φ 0) (map (part ψs φ) cs)) (flat_mem block mc m)))

      steady_in : (ψ : Formula) → Memᴰ ψ fs → In (steady (member (least_of ψs c)) ψ)
      steady_in ψ m = in_block (mathlib.Core.List.Memᴰ.append_left (A₂ c ++ (A₃ c ++ (A₄ c ++ (A₅ c ++ A₆ c)))) (mathlib.Core.List.Memᴰ.map (steady (member (least_of ψs c))) m))

      recurring_in : (ψ : Formula) → Memᴰ ψ fs → In (recurring (member (greatest_of ψs c)) ψ)
      recurring_in ψ m = in_block (mathlib.Core.List.Memᴰ.append_right (A₁ c) (mathlib.Core.List.Memᴰ.append_left (A₃ c ++ (A₄ c ++ (A₅ c ++ A₆ c))) (mathlib.Core.List.Memᴰ.map (recurring (member (greatest_of ψs c))) m)))

      opens_in : (ψ χ : Formula) → Memᴰ ψ fs → Memᴰ χ (opens c ψ) → In χ
      opens_in ψ χ m n = in_block (mathlib.Core.List.Memᴰ.append_right (A₁ c) (mathlib.Core.List.Memᴰ.append_right (A₂ c) (mathlib.Core.List.Memᴰ.append_left (A₄ c ++ (A₅ c ++ A₆ c)) (flat_mem (opens c) m n))))

      often_in : (ψ χ : Formula) → Memᴰ ψ (least_of ψs c) → Memᴰ χ (often c ψ) → In χ
      often_in ψ χ m n = in_block (mathlib.Core.List.Memᴰ.append_right (A₁ c) (mathlib.Core.List.Memᴰ.append_right (A₂ c) (mathlib.Core.List.Memᴰ.append_right (A₃ c) (mathlib.Core.List.Memᴰ.append_left (A₅ c ++ A₆ c) (flat_mem (often c) m n)))))

      lasting_in : (ψ χ : Formula) → Memᴰ ψ (greatest_of ψs c) → Memᴰ χ (lasting c ψ) → In χ
      lasting_in ψ χ m n = in_block (mathlib.Core.List.Memᴰ.append_right (A₁ c) (mathlib.Core.List.Memᴰ.append_right (A₂ c) (mathlib.Core.List.Memᴰ.append_right (A₃ c) (mathlib.Core.List.Memᴰ.append_right (A₄ c) (mathlib.Core.List.Memᴰ.append_left (A₆ c) (flat_mem (lasting c) m n))))))

      joins_in : (χ : Formula) → Memᴰ χ (joins conj (opening (member (least_of ψs c)) φ) (conjuncts c)) → In χ
      joins_in χ m = in_block (mathlib.Core.List.Memᴰ.append_right (A₁ c) (mathlib.Core.List.Memᴰ.append_right (A₂ c) (mathlib.Core.List.Memᴰ.append_right (A₃ c) (mathlib.Core.List.Memᴰ.append_right (A₄ c) (mathlib.Core.List.Memᴰ.append_right (A₅ c) m)))))

      conjuncts_in : (χ : Formula) → Memᴰ χ (conjuncts c) → In χ
      conjuncts_in χ m =
          ⊎_elim
          (λ n. let r = mem_mapped (GF c) (least_of ψs c) n in often_in r.0 χ r.1 (mathlib.Core.List.Memᴰ.tail (mathlib.Core.List.Memᴰ.head r.2)))
          (λ n. let r = mem_mapped (FG c) (greatest_of ψs c) n in lasting_in r.0 χ r.1 (mathlib.Core.List.Memᴰ.tail (mathlib.Core.List.Memᴰ.head r.2)))
          (mathlib.Core.List.Memᴰ.append_cases (map (GF c) (least_of ψs c)) m)

      opening-own : In (opening (member (least_of ψs c)) φ)
      opening-own = opens_in φ _ own (mathlib.Core.List.Memᴰ.head refl)

      part_in : In (part ψs φ c)
      unfolding part
      part_in = joins_last In conj (opening (member (least_of ψs c)) φ) (conjuncts c) opening-own joins_in

      false_in : In (const false)
      false_in = mathlib.Core.List.Memᴰ.tail (mathlib.Core.List.Memᴰ.head refl)

      true_in : In (const true)
      true_in = mathlib.Core.List.Memᴰ.head refl

      least-inner : (ψ : Formula) → Memᴰ ψ (least_of ψs c) → Memᴰ ψ fs
      unfolding least_of
      least-inner ψ m = inner ψ (mem_chosen ψs c (mem_keep is_least (chosen ψs c) m).0)

      greatest-inner : (ψ : Formula) → Memᴰ ψ (greatest_of ψs c) → Memᴰ ψ fs
      unfolding greatest_of
      greatest-inner ψ m = inner ψ (mem_chosen ψs c (mem_keep is_greatest (chosen ψs c) m).0)

      opens_under : (ψ χ : Formula) → Memᴰ ψ fs → Memᴰ χ (opens c ψ) → Under In χ
      opens_under ψ χ m n =
          let u = under_map ψ (λ a k. opens_in a (opening (member (least_of ψs c)) a) k (mathlib.Core.List.Memᴰ.head refl)) (closed ψ m) in
          let v = under_map ψ steady_in (closed ψ m) in
          ⊎_elim
          (λ e. subst (Under In) (sym e) (opening_under In (member (least_of ψs c)) ψ u (opens_in ψ _ m (mathlib.Core.List.Memᴰ.tail (mathlib.Core.List.Memᴰ.head refl)))))
          (λ n₂. ⊎_elim
          (λ e. subst (Under In) (sym e) (either_or_under In (member (least_of ψs c)) ψ u (opens_in ψ _ m (mathlib.Core.List.Memᴰ.tail (mathlib.Core.List.Memᴰ.tail (mathlib.Core.List.Memᴰ.head refl))))))
          (λ n₃. subst (Under In) (sym (mathlib.Core.List.Memᴰ.eq_of_singleton n₃)) (always_under In (member (least_of ψs c)) ψ false_in v))
          (mathlib.Core.List.Memᴰ.cases_cons n₂))
          (mathlib.Core.List.Memᴰ.cases_cons n)

      often_under : (ψ χ : Formula) → Memᴰ ψ (least_of ψs c) → Memᴰ χ (often c ψ) → Under In χ
      often_under ψ χ m n =
          ⊎_elim
          (λ e. subst (Under In) (sym e) (true_in, recurring_in ψ (least-inner ψ m)))
          (λ k. subst (Under In) (sym (mathlib.Core.List.Memᴰ.eq_of_singleton k)) (false_in, often_in ψ _ m (mathlib.Core.List.Memᴰ.head refl)))
          (mathlib.Core.List.Memᴰ.cases_cons n)

      lasting_under : (ψ χ : Formula) → Memᴰ ψ (greatest_of ψs c) → Memᴰ χ (lasting c ψ) → Under In χ
      lasting_under ψ χ m n =
          ⊎_elim
          (λ e. subst (Under In) (sym e) (false_in, steady_in ψ (greatest-inner ψ m)))
          (λ k. subst (Under In) (sym (mathlib.Core.List.Memᴰ.eq_of_singleton k)) (true_in, lasting_in ψ _ m (mathlib.Core.List.Memᴰ.head refl)))
          (mathlib.Core.List.Memᴰ.cases_cons n)

      block_under : (χ : Formula) → Memᴰ χ (block c) → Under In χ
      block_under χ m =
          ⊎_elim
          (λ n. let r = mem_mapped (steady (member (least_of ψs c))) fs n in
          subst (Under In) (sym r.2) (steady_under In (member (least_of ψs c)) r.0 (under_map r.0 steady_in (closed r.0 r.1))))
          (λ m₂. ⊎_elim
          (λ n. let r = mem_mapped (recurring (member (greatest_of ψs c))) fs n in
          subst (Under In) (sym r.2) (recurring_under In (member (greatest_of ψs c)) r.0 (under_map r.0 recurring_in (closed r.0 r.1))))
          (λ m₃. ⊎_elim
          (λ n. let r = mem_flat (opens c) fs n in opens_under r.0 χ r.1 r.2)
          (λ m₄. ⊎_elim
          (λ n. let r = mem_flat (often c) (least_of ψs c) n in often_under r.0 χ r.1 r.2)
          (λ m₅. ⊎_elim
          (λ n. let r = mem_flat (lasting c) (greatest_of ψs c) n in lasting_under r.0 χ r.1 r.2)
          (joins_under In conj (opening (member (least_of ψs c)) φ) (conjuncts c) opening-own conjuncts_in joins_in χ)
          (mathlib.Core.List.Memᴰ.append_cases (join_all (map (lasting c) (greatest_of ψs c))) m₅))
          (mathlib.Core.List.Memᴰ.append_cases (join_all (map (often c) (least_of ψs c))) m₄))
          (mathlib.Core.List.Memᴰ.append_cases (join_all (map (opens c) fs)) m₃))
          (mathlib.Core.List.Memᴰ.append_cases (map (recurring (member (greatest_of ψs c))) fs) m₂))
          (mathlib.Core.List.Memᴰ.append_cases (map (steady (member (least_of ψs c))) fs) m)

    parts_in : (χ : Formula) → Memᴰ χ (map (part ψs φ) cs) → In χ
    parts_in χ m = let r = mem_mapped (part ψs φ) cs m in subst In (sym r.2) (part_in r.0 (mathlib.Core.List.Memᴰ.tail r.1))

    sums_in : (χ : Formula) → Memᴰ χ (joins disj (part ψs φ 0) (map (part ψs φ) cs)) → In χ
    sums_in χ m = mathlib.Core.List.Memᴰ.tail (mathlib.Core.List.Memᴰ.tail (mathlib.Core.List.Memᴰ.append_right (join_all (map block (0 ∷ cs))) m))

    whole_under : (χ : Formula) → In χ → Under In χ
    whole_under χ m =
        ⊎_elim
        (λ e. subst (Under In) (sym e) tt)
        (λ m₂. ⊎_elim
        (λ e. subst (Under In) (sym e) tt)
        (λ m₃. ⊎_elim
        (λ n. let r = mem_flat block (0 ∷ cs) n in block_under r.0 r.1 χ r.2)
        (joins_under In disj (part ψs φ 0) (map (part ψs φ) cs) (part_in 0 (mathlib.Core.List.Memᴰ.head refl)) parts_in sums_in χ)
        (mathlib.Core.List.Memᴰ.append_cases (join_all (map block (0 ∷ cs))) m₃))
        (mathlib.Core.List.Memᴰ.cases_cons m₂))
        (mathlib.Core.List.Memᴰ.cases_cons m)

    whole_closed : Hereditary In
    whole_closed = record {
      under = λ o a m. whole_under (un o a) m;
      first = λ o a b m. (whole_under (bin o a b) m).0;
      second = λ o a b m. (whole_under (bin o a b) m).1;
    }

    sum_in : In (foldl (bin disj) (part ψs φ 0) (map (part ψs φ) cs))
    sum_in = joins_last In disj (part ψs φ 0) (map (part ψs φ) cs) (part_in 0 (mathlib.Core.List.Memᴰ.head refl)) sums_in

module _ {limit : ℕ} {t : List ℕ} (small : limit ≤ 16383) (f : WellFormed true limit t) where
  words_closed : (ψ : Formula) → Memᴰ ψ (formulas t) → Under (λ a. Memᴰ a (formulas t)) ψ
  words_closed (const b) m = tt
  words_closed (lit b n) m = tt
  words_closed (un o a) m = complete small f a (sub_trans (subformula.under subformula.self) (inside small f (un o a) m))
  words_closed (bin o a b) m =
      (complete small f a (sub_trans (subformula.left subformula.self) (inside small f (bin o a b) m)), complete small f b (sub_trans (subformula.right subformula.self) (inside small f (bin o a b) m)))

  fixpoints-inner : (ψ : Formula) → Memᴰ ψ (fixpoints t) → Memᴰ ψ (formulas t)
  unfolding fixpoints
  fixpoints-inner ψ m = (mem_keep is_fixpoint (formulas t) m).0

  -- the length bound, for n words of which k are until-like
  pub normal_table-length : length (normal_table t) ≤ 2 ^ length (fixpoints t) * (5 * length t + 3 * length (fixpoints t) + 1) + 2
  unfolding normal_table
  normal_table-length =
      let k = length (fixpoints t) in
      let cs = up_to k k in
      let ψs = fixpoints t in
      let fs = formulas t in
      let own = complete small f (rule t) subformula.self in
      let a : length (table_of (fold (normal_form ψs (rule t)))) ≤ length (whole ψs fs (rule t) cs) =
      subst (λ (χ : Formula). length (table_of (fold χ)) ≤ length (whole ψs fs (rule t) cs)) (normal_form-disjoined t)
      (folded_length (foldl (bin disj) (part ψs (rule t) 0) (map (part ψs (rule t)) cs)) (whole ψs fs (rule t) cs)
      (λ χ s. hereditary_sub (whole_closed ψs fs (rule t) words_closed own fixpoints-inner cs) s (sum_in ψs fs (rule t) words_closed own fixpoints-inner cs))) in
      let b : length (whole ψs fs (rule t) cs) ≤ suc (length cs) * (5 * length t + 3 * k + 1) + 2 =
      subst (λ (n : ℕ). length (whole ψs fs (rule t) cs) ≤ suc (length cs) * (5 * n + 3 * k + 1) + 2) (length-formulas t) (whole_length ψs fs (rule t) cs) in
      let c : suc (length cs) ≤ 2 ^ k = subst (λ (l : List ℕ). length l ≤ 2 ^ k) (choices_first k) (choices-length k) in
      omega (arith, mul-le-mul_right (5 * length t + 3 * k + 1) c)
