-- The clauses of the check's contract, from its first: the answer is the definition's. The others are the claims over the definition.
-- Assumes nothing.
use Prim.Native.Nat.{ℕ}
use mathlib.Core.Path.{◌≡◌, sym, ◌∙◌}
use mathlib.Core.List.{List}
use Rattle.air.specs.Check.{check_all}
use Rattle.air.proofs.Claims as Claims
use Rattle.check_table.specs.Verdicts.{Verdict, verdict_answer, ZeroIff, Sound, Sums}

module _ (table aux challenges : List ℕ) (r : Verdict) (exact : verdict_answer r ≡ check_all table aux challenges) where
  pub zero_iff : ZeroIff table aux challenges r
  zero_iff = (λ z. (Claims.zero_iff table aux challenges).0 (sym exact ∙ z), λ h. exact ∙ (Claims.zero_iff table aux challenges).1 h)

  pub sound : Sound table r
  sound = λ z. Claims.sound table aux challenges (sym exact ∙ z)

  pub sum : Sums table aux challenges r
  sum = λ z. Claims.sum table aux challenges (sym exact ∙ z)
