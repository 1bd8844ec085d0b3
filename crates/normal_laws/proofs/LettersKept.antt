-- A normal form has no letters but those of its formula.
use Prim.Native.Nat.{ℕ}
use mathlib.Core.Path.{refl, sym, subst}
use mathlib.Core.Logic.{⊎_elim}
use mathlib.Core.Bool.{Bool, true, false}
use mathlib.Core.List.Memᴰ
use mathlib.Core.List.{List, [], ◌∷◌, map, foldl, Memᴰ}
use lib.ListN.{length}
use Rattle.logic.specs.Formula.{Formula, Binary, const, lit, un, bin, conj, disj, until, weak, release, strong, implies, F, G}
use Rattle.transforms.specs.Rewriting.{steady_op, steady, recurring_op, recurring, opening_op, opening}
use Rattle.transforms.specs.NormalForm.{is_least, is_greatest, member, chosen, least_of, greatest_of, part, choices, disjoin, normal_form}
use Rattle.logic.specs.Letters.{Letters}
use Rattle.transforms.proofs.Normal.Membership.{mem_keep}
use Rattle.normal_laws.proofs.Chosen.{mem_chosen}

module _ (Q : ℕ → Type 0) where
  steady_op-letters : (m : Bool) (o : Binary) (a b : Formula) → Letters Q a → Letters Q b → Letters Q (steady_op m o a b)
  steady_op-letters m conj a b p q = (p, q)
  steady_op-letters m disj a b p q = (p, q)
  steady_op-letters true until a b p q = (p, q)
  steady_op-letters false until a b p q = tt
  steady_op-letters m weak a b p q = (p, q)
  steady_op-letters m release a b p q = (p, q)
  steady_op-letters true strong a b p q = (p, q)
  steady_op-letters false strong a b p q = tt
  steady_op-letters m implies a b p q = (p, q)

  pub steady-letters : (M : Formula → Bool) (φ : Formula) → Letters Q φ → Letters Q (steady M φ)
  unfolding steady
  steady-letters M (const b) l = l
  steady-letters M (lit b n) l = l
  steady-letters M (un o a) l = steady-letters M a l
  steady-letters M (bin o a b) l = steady_op-letters (M (bin o a b)) o (steady M a) (steady M b) (steady-letters M a l.0) (steady-letters M b l.1)

  recurring_op-letters : (n : Bool) (o : Binary) (a b : Formula) → Letters Q a → Letters Q b → Letters Q (recurring_op n o a b)
  recurring_op-letters n conj a b p q = (p, q)
  recurring_op-letters n disj a b p q = (p, q)
  recurring_op-letters n until a b p q = (p, q)
  recurring_op-letters true weak a b p q = tt
  recurring_op-letters false weak a b p q = (p, q)
  recurring_op-letters true release a b p q = tt
  recurring_op-letters false release a b p q = (p, q)
  recurring_op-letters n strong a b p q = (p, q)
  recurring_op-letters n implies a b p q = (p, q)

  pub recurring-letters : (N : Formula → Bool) (φ : Formula) → Letters Q φ → Letters Q (recurring N φ)
  unfolding recurring
  recurring-letters N (const b) l = l
  recurring-letters N (lit b n) l = l
  recurring-letters N (un o a) l = recurring-letters N a l
  recurring-letters N (bin o a b) l = recurring_op-letters (N (bin o a b)) o (recurring N a) (recurring N b) (recurring-letters N a l.0) (recurring-letters N b l.1)

  opening_op-letters : (o : Binary) (a b a' b' : Formula) → Letters Q a → Letters Q b → Letters Q a' → Letters Q b' → Letters Q (opening_op o a b a' b')
  opening_op-letters conj a b a' b' p q p' q' = (p, q)
  opening_op-letters disj a b a' b' p q p' q' = (p, q)
  opening_op-letters until a b a' b' p q p' q' = (p, q)
  opening_op-letters weak a b a' b' p q p' q' = (p, (q, (tt, p')))
  opening_op-letters release a b a' b' p q p' q' = ((p, (tt, q')), q)
  opening_op-letters strong a b a' b' p q p' q' = (p, q)
  opening_op-letters implies a b a' b' p q p' q' = (p, q)

  pub opening-letters : (M : Formula → Bool) (φ : Formula) → Letters Q φ → Letters Q (opening M φ)
  unfolding opening
  opening-letters M (const b) l = l
  opening-letters M (lit b n) l = l
  opening-letters M (un o a) l = opening-letters M a l
  opening-letters M (bin o a b) l =
      opening_op-letters o (opening M a) (opening M b) (steady M a) (steady M b)
      (opening-letters M a l.0) (opening-letters M b l.1) (steady-letters M a l.0) (steady-letters M b l.1)

  -- joined from the left
  joined-letters : (o : Binary) (φ : Formula) (l : List Formula) → Letters Q φ → ((ψ : Formula) → Memᴰ ψ l → Letters Q ψ) → Letters Q (foldl (bin o) φ l)
  joined-letters o φ [] p q = p
  joined-letters o φ (ψ ∷ l) p q = joined-letters o (bin o φ ψ) l (p, q ψ (Memᴰ.head refl)) (λ χ m. q χ (Memᴰ.tail m))

  mapped_letters : (g : Formula → Formula) (l : List Formula) → ((ψ : Formula) → Memᴰ ψ l → Letters Q (g ψ)) → (χ : Formula) → Memᴰ χ (map g l) → Letters Q χ
  mapped_letters g [] q χ m = absurd (Memᴰ.not-nil m)
  mapped_letters g (ψ ∷ l) q χ m =
      ⊎_elim (λ e. subst (Letters Q) (sym e) (q ψ (Memᴰ.head refl))) (λ n. mapped_letters g l (λ x y. q x (Memᴰ.tail y)) χ n) (Memᴰ.cases_cons m)

  module _ (ψs : List Formula) (φ : Formula) (all : (ψ : Formula) → Memᴰ ψ ψs → Letters Q ψ) (l : Letters Q φ) where
    part_letters : (c : ℕ) → Letters Q (part ψs φ c)
    unfolding part least_of greatest_of
    part_letters c =
        joined-letters conj _ _ (opening-letters (member (least_of ψs c)) φ l)
        (λ χ m.
        ⊎_elim
        (mapped_letters (λ ψ. G (F (recurring (member (greatest_of ψs c)) ψ))) (least_of ψs c) (λ ψ n. (tt, (tt, recurring-letters (member (greatest_of ψs c)) ψ (all ψ (mem_chosen ψs c (mem_keep is_least (chosen ψs c) n).0))))) χ)
        (mapped_letters (λ ψ. F (G (steady (member (least_of ψs c)) ψ))) (greatest_of ψs c) (λ ψ n. (tt, (tt, steady-letters (member (least_of ψs c)) ψ (all ψ (mem_chosen ψs c (mem_keep is_greatest (chosen ψs c) n).0))))) χ)
        (Memᴰ.append_cases (map (λ ψ. G (F (recurring (member (greatest_of ψs c)) ψ))) (least_of ψs c)) m))

    parts-letters : (cs : List ℕ) (χ : Formula) → Memᴰ χ (map (part ψs φ) cs) → Letters Q χ
    parts-letters [] χ m = absurd (Memᴰ.not-nil m)
    parts-letters (c ∷ cs) χ m = ⊎_elim (λ e. subst (Letters Q) (sym e) (part_letters c)) (λ n. parts-letters cs χ n) (Memᴰ.cases_cons m)

    disjoined-letters : (cs : List ℕ) → Letters Q (disjoin (map (part ψs φ) cs))
    disjoined-letters [] = tt
    disjoined-letters (c ∷ cs) = joined-letters disj (part ψs φ c) (map (part ψs φ) cs) (part_letters c) (parts-letters cs)

    pub normal_form-letters : Letters Q (normal_form ψs φ)
    unfolding normal_form
    normal_form-letters = disjoined-letters (choices (length ψs))
