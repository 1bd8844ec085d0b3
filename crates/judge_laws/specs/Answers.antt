-- A judgement's answer by document 01: its number and place, and the values of an accepted one; and what those values say of a rule.
use Rattle.std.specs.Prelude.{ℕ, zero, suc, ◌/◌, ◌%◌, ◌<◌, ◌≡◌, ◌↔◌, ◌⊎◌, Bool, false, List, get_or, T, Ok, Err}
use Rattle.logic.specs.Bit.{bit}
use Rattle.logic.specs.Semantics.{Predicate}
use Rattle.refusals.specs.Refusals.{number_of, place_of}
use Rattle.judging.specs.Judging.{JudgeAnswer}

pub record Said : Type 0 where
  pub number : ℕ
  pub place : ℕ
  pub holds : Bool
  pub moments : ℕ
  pub failing : ℕ

-- number and place are 0 where the judgement is accepted; where it is refused, nothing holds
abbrev pub said : JudgeAnswer → Said
said (Ok j) = record { number = 0; place = 0; holds = j.holds; moments = j.moments; failing = j.failing }
said (Err why) = record { number = number_of why; place = place_of why; holds = false; moments = 0; failing = 0 }

-- m of the n first positions satisfy P
pub data Count (P : Predicate) : ℕ → ℕ → Type 0 where
  none : Count P zero zero
  one_more : {n m : ℕ} → P n → Count P n m → Count P (suc n) (suc m)
  no_more : {n m : ℕ} → (P n → ⊥) → Count P n m → Count P (suc n) m

-- every position before k satisfies P; k doesn't, or it is L
pub record FirstFailing (P : Predicate) (L k : ℕ) : Type 0 where
  pub before : (i : ℕ) → i < k → P i
  pub there : (k ≡ L) ⊎ ((k < L) × (P k → ⊥))

-- whether a row says that position i holds
abbrev pub holds_in : List ℕ → ℕ → Bool
holds_in r i = bit (get_or r (i / 64) 0) (i % 64)

-- the answer of an accepted judgement of a rule that means P, over L recorded positions, and the part that the row call hands back
pub record Judges (P : Predicate) (L : ℕ) (s : Said) (part : List ℕ) : Type 0 where
  pub accepted : (s.number ≡ 0) × (s.place ≡ 0)
  pub held : T s.holds ↔ P 0
  pub counted : Count P L s.moments
  pub first : FirstFailing P L s.failing
  pub bits : (i : ℕ) → i < L → T (holds_in part i) ↔ P i
