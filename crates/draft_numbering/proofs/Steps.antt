-- What the turn of a slot tells of the formula that the slot stands for, where the numbers are those of the table so far.
use Prim.Native.Nat.{ℕ, zero, suc, ◌≤◌, ◌<◌, ◌^◌}
use native.Mathlib.Omega.{arith}
use mathlib.Core.Path.{◌≡◌, refl, sym, ap, ◌∙◌}
use mathlib.Core.Bool.{cond}
use mathlib.Core.List.{List}
use lib.ListN.{length, get_or}
use Rattle.logic.specs.Formula.{Formula, const, lit, un, bin}
use Rattle.table.specs.Node.{Shape, shape, unary_kind, binary_kind}
use Rattle.table.specs.Numbering.{put, build}
use Rattle.table.proofs.Shapes.{shape-unary, shape-binary, shape-constant, shape-letter}
use Rattle.numbering.specs.Held.{Distinct}
use Rattle.numbering.proofs.Building.{build-const, build-lit, build-un, build-bin, held_build, held_within}
use Rattle.drafts.specs.Drafted.{Drafted}
use Rattle.slots.specs.Slot.{kind, left, right, pack}
use Rattle.slot_turns.specs.Turn.{arity, needing, turn_of, Slotted, Turnable}
use Rattle.draft_numbering.specs.Numberable.{Remembered}
use Rattle.slot_turns.specs.declared.Turn.{Turn}
use Rattle.slot_turns.specs.declared.Turn.TheVariants.{Operand, Word}
use Rattle.table.proofs.Shapes.{Known, known-kind}
use Rattle.drafts.proofs.Drafts.{drafted_within}
use Rattle.slots.proofs.Fields.{kind-pack, left_pack, right_pack}
use Rattle.draft_numbering.proofs.Next.{Next, here, under, first, second}

-- slot j stands for what the formula of slot i needs next, and has no number yet
pub record Needed (d numbers t : List ℕ) (φ : Formula) (i j : ℕ) : Type 0 where
  pub formula : Formula
  pub drafted : Drafted d formula j
  pub next : Next t φ formula
  pub earlier : j < i
  pub none : get_or numbers j 0 ≡ 0

-- an operand that is needed next, or the word that building the formula puts
abbrev pub Stepped : List ℕ → List ℕ → List ℕ → Formula → ℕ → Turn → Type 0
Stepped d numbers t φ i (Operand j) = Needed d numbers t φ i j
Stepped d numbers t φ i (Word w) = build t φ ≡ put t w

module _ (d numbers t : List ℕ) (few : length d ≤ 2 ^ 20) (kept : Remembered d numbers t) (apart : Distinct t) where
  needed : {φ : Formula} (i j : ℕ) (c : Formula) (u : Turn) → Drafted d c j → Next t φ c → j < i
      → (0 < get_or numbers j 0 → Stepped d numbers t φ i u) → Stepped d numbers t φ i (needing (get_or numbers j 0) j u)
  needed {φ} i j c u h k l f = go (get_or numbers j 0) refl
    where
      go : (n : ℕ) → get_or numbers j 0 ≡ n → Stepped d numbers t φ i (needing n j u)
      go zero e = record { formula = c; drafted = h; next = k; earlier = l; none = e }
      go (suc n) e = f (omega (arith, e))

  pub turn-stepped : (φ : Formula) (i : ℕ) → Drafted d φ i → Stepped d numbers t φ i (turn_of (get_or d i 0) numbers)
  unfolding turn_of
  turn-stepped (const b) i r =
      let k = kind-pack (cond b 2 1) 0 0 (omega arith) (omega arith) in
      rw (r.is, k, shape-constant b, k, right_pack (cond b 2 1) 0 0 (omega arith)) (build-const t b)
  turn-stepped (lit b p) i r =
      let k = kind-pack (cond b 3 4) 0 p (omega arith) (omega (arith, r.0)) in
      rw (r.1.is, k, shape-letter b, k, right_pack (cond b 3 4) 0 p (omega (arith, r.0))) (build-lit t b p)
  turn-stepped (un o a) i r =
      let m = r.0 in
      let hm : m < 2 ^ 20 = omega (arith, r.1, r.3.within) in
      let k = kind-pack (unary_kind o) 0 m (omega arith) hm in
      rw (r.3.is, k, shape-unary o, k, right_pack (unary_kind o) 0 m hm)
      (needed i m a _ r.2 (under here) r.1 (λ g. build-un t o a ∙ rw (held_build t a _ apart (kept.held m a r.2 g))))
  turn-stepped (bin o a b) i r =
      let l = r.0 in
      let m = r.1 in
      let hl : l < 2 ^ 20 = omega (arith, r.2, r.6.within) in
      let hm : m < 2 ^ 20 = omega (arith, r.3, r.6.within) in
      let k = kind-pack (binary_kind o) l m hl hm in
      rw (r.6.is, k, shape-binary o, k, left_pack (binary_kind o) l m hl hm, right_pack (binary_kind o) l m hm)
      (needed i l a _ r.4 (first here) r.2 (λ g.
      needed i m b _ r.5 (second _ (kept.held l a r.4 g) here) r.3 (λ h.
      build-bin t o a b ∙ rw (held_build t a _ apart (kept.held l a r.4 g), held_build t b _ apart (kept.held m b r.5 h)))))

  -- the fields of a slot that stands for a formula are what its kind has
  module _ (short : length t < 16384) (long : length d ≤ length numbers) where
    slotted : (c : Formula) (j : ℕ) → Drafted d c j → Slotted numbers j
    slotted c j h = record { within = omega (arith, drafted_within d c j h); small = go (get_or numbers j 0) refl }
      where
        go : (n : ℕ) → get_or numbers j 0 ≡ n → get_or numbers j 0 < 16384
        go zero e = omega (arith, e)
        go (suc n) e = omega (arith, held_within t c _ (kept.held j c h (omega (arith, e))))

    fielded : {x : ℕ} (k l m : ℕ) (s : Shape) → shape k ≡ s → Known s → l < 2 ^ 20 → m < 2 ^ 20 → x ≡ pack k l m
        → (arity s ≡ 0 → m < 16384) → (0 < arity s → Slotted numbers m) → (1 < arity s → Slotted numbers l) → Turnable (kind x) (left x) (right x) numbers
    fielded k l m s e q hl hm f p v w =
        let g = known-kind k (rw e q) in
        rw (f, kind-pack k l m hl hm, left_pack k l m hl hm, right_pack k l m hm)
        (record { some = g.0; known = g.1; letter = λ z. p (sym (ap arity e) ∙ z); last = λ z. v (rw e at z); first = λ z. w (rw e at z) })

    pub slot_turnable : (φ : Formula) (i : ℕ) → Drafted d φ i → Turnable (kind (get_or d i 0)) (left (get_or d i 0)) (right (get_or d i 0)) numbers
    slot_turnable (const b) i r =
        fielded (cond b 2 1) 0 0 _ (shape-constant b) tt (omega arith) (omega arith) r.is (λ z. omega arith) (λ z. absurd (omega arith)) (λ z. absurd (omega arith))
    slot_turnable (lit b p) i r =
        fielded (cond b 3 4) 0 p _ (shape-letter b) tt (omega arith) (omega (arith, r.0)) r.1.is (λ z. r.0) (λ z. absurd (omega arith)) (λ z. absurd (omega arith))
    slot_turnable (un o a) i r =
        fielded (unary_kind o) 0 r.0 _ (shape-unary o) tt (omega arith) (omega (arith, r.1, r.3.within)) r.3.is
        (λ z. absurd (omega arith)) (λ z. slotted a r.0 r.2) (λ z. absurd (omega arith))
    slot_turnable (bin o a b) i r =
        fielded (binary_kind o) r.0 r.1 _ (shape-binary o) tt (omega (arith, r.2, r.6.within)) (omega (arith, r.3, r.6.within)) r.6.is
        (λ z. absurd (omega arith)) (λ z. slotted b r.1 r.5) (λ z. slotted a r.0 r.4)
