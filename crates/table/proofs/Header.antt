-- A table with its header is accepted exactly where its words are and the header is theirs; what it is refused for is never the length of a result.
use Prim.Native.Nat.{ℕ, ◌≤◌, ◌<◌, ◌^◌}
use mathlib.Core.Path.{◌≡◌, refl, ap, sym, ◌∙◌}
use mathlib.Core.Bool.{Bool, true, false, not, ◌||◌}
use mathlib.Core.List.{List, [], ◌∷◌, ◌++◌}
use native.Mathlib.Omega.{arith}
use lib.ListN.{length}
use borrow.Author.Tests.{eqb-true, eq-eqb, not-false}
use Rattle.logic.proofs.Hierarchy.ClassBit.{class_byte_lt}
use Rattle.refusals.specs.declared.Refusal.{Refusal}
use Rattle.refusals.specs.declared.Refusal.TheVariants.{HeaderWrong}
use Rattle.std.specs.Prelude.{Ok, Err}
use Rattle.refusals.specs.Refusals.{◌⇒◌, number_of}
use Rattle.refusals.proofs.First.{first_passed, passed_first, first_append_both, all_refusals_append, all_refusals_map, first_refusal}
use Rattle.table.specs.Node.{kind, left, right}
use Rattle.table.specs.Table.{rule}
use Rattle.table.specs.Checks.{content_checks, table_checks, checked}
use Rattle.table.specs.Header.{is_written, class_of, header_of, headed, header, count, body, is_misheaded, headed_checks, headed_checked}
use Rattle.table.proofs.Fields.{kind-pack, left_pack, right_pack, pack-fields}
use Rattle.table.proofs.Accepted.{accepted-well-formed, OfWords, content_refusals}

or-false : (a b : Bool) → (a || b) ≡ false → (a ≡ false) × (b ≡ false)
or-false true b h = (h, cc)
or-false false b h = (refl, h)

class_by_lt : (b : Bool) (t : List ℕ) → is_written t ≡ b → class_of t < 128
unfolding class_of
class_by_lt true t e = rw e (omega arith)
class_by_lt false t e = rw e (class_byte_lt (rule t))

pub class_lt : (t : List ℕ) → class_of t < 128
class_lt t = class_by_lt (is_written t) t refl

-- a header that is not wrong, of as many words as there are, is that of the words
pub header_is : (s : List ℕ) → count s ≡ length (body s) → is_misheaded s ≡ false → header s ≡ header_of (body s)
unfolding is_misheaded header_of
header_is s n e =
    let p = or-false _ _ e in
    let k : kind (header s) ≡ 0 = eqb-true (kind (header s)) 0 (not-false _ p.0) in
    let l : left (header s) ≡ class_of (body s) = eqb-true (left (header s)) (class_of (body s)) (not-false _ p.1) in
    sym (pack-fields (header s)) ∙ rw (k, l, n)

-- and the words' own header is not
module _ (t : List ℕ) (few : length t < 2 ^ 14) where
  byte : class_of t < 2 ^ 14
  byte = omega (arith, class_lt t)

  pub count-headed : count (headed t) ≡ length t
  unfolding header_of
  count-headed = right_pack 0 (class_of t) (length t) few

  pub header-theirs : (s : List ℕ) → header s ≡ header_of t → body s ≡ t → is_misheaded s ≡ false
  unfolding header_of is_misheaded
  header-theirs s e b = rw (e, b, kind-pack 0 (class_of t) (length t) byte few, left_pack 0 (class_of t) (length t) byte few, eq-eqb (class_of t) (class_of t) refl)

-- what acceptance tells of a table with its header
pub record Headed (plain_only : Bool) (limit : ℕ) (s : List ℕ) : Type 0 where
  pub words : checked plain_only limit (body s) ≡ Ok tt
  pub whole : s ≡ headed (body s)

module _ (plain_only : Bool) (limit : ℕ) where
  pub accepted-headed : (s : List ℕ) → headed_checked plain_only limit s ≡ Ok tt → Headed plain_only limit s
  unfolding headed_checked headed_checks checked table_checks right
  accepted-headed [] e = absurd (let z : ◌≡◌ {A = ℕ} 0 1 = cc in omega arith)
  accepted-headed (w ∷ t) e =
      let p = first_passed (headed_checks plain_only limit (w ∷ t)) e in
      let n : right w ≡ length t = eqb-true (right w) (length t) (not-false _ p.1.1.0) in
      let rest = (first_append_both (content_checks plain_only t) ((is_misheaded (w ∷ t) ⇒ HeaderWrong) ∷ [])).0 (passed_first (content_checks plain_only t ++ ((is_misheaded (w ∷ t) ⇒ HeaderWrong) ∷ [])) p.1.1.1) in
      record {
        words = passed_first (table_checks plain_only limit t) (rw n at p.0, (rw n at p.1.0, first_passed (content_checks plain_only t) rest.0));
        whole = ap (λ (x : ℕ). x ∷ t) (header_is (w ∷ t) n (first_passed ((is_misheaded (w ∷ t) ⇒ HeaderWrong) ∷ []) rest.1).0);
      }

  -- words that are accepted are accepted under their header
  pub headed-accepted : (t : List ℕ) → limit ≤ 16383 → checked plain_only limit t ≡ Ok tt → headed_checked plain_only limit (headed t) ≡ Ok tt
  unfolding headed_checked headed_checks checked table_checks
  headed-accepted t small e =
      let q = first_passed (table_checks plain_only limit t) e in
      let few : length t < 2 ^ 14 = omega (arith, (accepted-well-formed plain_only limit t e).few) in
      let n : count (headed t) ≡ length t = count-headed t few in
      let theirs : is_misheaded (headed t) ≡ false = header-theirs t few (headed t) refl refl in
      passed_first (headed_checks plain_only limit (headed t)) (
        rw n q.0,
        (
          rw n q.1.0,
          (
            rw n (ap not (eq-eqb (length t) (length t) refl)),
            first_passed (content_checks plain_only t ++ ((is_misheaded (headed t) ⇒ HeaderWrong) ∷ [])) ((first_append_both (content_checks plain_only t) ((is_misheaded (headed t) ⇒ HeaderWrong) ∷ [])).1 (passed_first (content_checks plain_only t) q.1.1, rw theirs)),
          ),
        ),
      )

  -- never for the length of a result
  pub headed-refusal : (s : List ℕ) (r : Refusal) → headed_checked plain_only limit s ≡ Err r → number_of r ≡ 12 → ⊥
  unfolding headed_checked headed_checks
  headed-refusal s r e =
      first_refusal (λ x. number_of x ≡ 12 → ⊥) (headed_checks plain_only limit s) r (
        λ z. omega arith,
        (
          λ z. omega arith,
          (
            λ z. omega arith,
            all_refusals_append (λ x. number_of x ≡ 12 → ⊥) (content_checks plain_only (body s)) ((is_misheaded s ⇒ HeaderWrong) ∷ [])
                (all_refusals_map OfWords _ (content_checks plain_only (body s)) (λ x p z. omega arith) (content_refusals plain_only (body s)))
                (λ z. omega arith, tt),
          ),
        ),
      )
      e
