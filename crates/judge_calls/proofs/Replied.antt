-- A reply in lent numbers speaks of the answer that the contract names.
use Prim.Native.Nat.{ℕ}
use mathlib.Core.Path.{◌≡◌, subst}
use mathlib.Core.Bool.{Bool}
use Rattle.judging.specs.Judging.{JudgeAnswer}
use Rattle.judge_replies.specs.Replies.{JudgeReply}

pub judge_replied : {a b : JudgeAnswer} {number moments failing place : ℕ} {holds : Bool} → a ≡ b
    → JudgeReply a number holds moments failing place → JudgeReply b number holds moments failing place
judge_replied {number = number} {moments = moments} {failing = failing} {place = place} {holds = holds} e r =
    subst (λ (x : JudgeAnswer). JudgeReply x number holds moments failing place) e r
