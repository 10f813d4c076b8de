-- The clauses of the check's contract, from its first: the words handed over are those of the answer that is due. So they say zero exactly where that
-- answer is zero, and then the claims over the definition hold. Assumes nothing.
use Prim.Native.Nat.{ℕ, ◌≤◌, ◌<◌}
use mathlib.Core.Path.{◌≡◌, refl, sym, ap, ◌∙◌}
use mathlib.Core.Bool.{Bool, true, false}
use mathlib.Core.List.{List, [], ◌∷◌}
use native.Mathlib.Omega.{arith}
use borrow.Author.Tests.{ltb-false, le-ltb}
use lib.Dec.{ltb}
use lib.ListN.{length, get_or}
use lib.Seq.{sets}
use Rattle.words.specs.Answers.{Answer, done}
use Rattle.words.proofs.Sets.{get_d_sets_in}
use Rattle.air.specs.Check.{check_all}
use Rattle.air.proofs.Claims as Claims
use Rattle.c_answers.specs.Exports.{Exported}
use Rattle.c_tables.specs.TableAnswers.{verdict_words, verdict_due, SaysZero, SaysZeroIff, SaysZeroSound, SaysZeroSums}

-- the first word of a verdict tells whether there are values
first_word_zero : (values : List ℕ) → get_or (verdict_words values) 0 1 ≡ 0 → values ≡ []
first_word_zero [] e = refl
first_word_zero (v ∷ vs) e = absurd (omega arith)

has_words : (values : List ℕ) → 0 < length (verdict_words values)
has_words [] = omega arith
has_words (v ∷ vs) = omega arith

module _ (due : Answer) (before after : List ℕ) (r : ℕ) (x : Exported 7 (verdict_due due) before r after) where
  -- where `answers` is long enough and the work is done, its first word is the verdict's
  first_word : 7 ≤ length before → due.number ≡ 0 → get_or after 0 1 ≡ get_or (verdict_words due.values) 0 1
  first_word h z =
      let stored : after ≡ sets before 0 (verdict_words due.values) = x.answers ∙ rw (le-ltb (length before) 7 h, z) in
      ap (λ (l : List ℕ). get_or l 0 1) stored
      ∙ get_d_sets_in (verdict_words due.values) before 0 0 1 (has_words due.values) (omega (arith, x.fits h z))

  is_done : due.number ≡ 0 → due.values ≡ [] → due ≡ done []
  is_done n v = ap (λ (k : ℕ). record { number = k; values = due.values }) n ∙ ap done v

  said : (short : Bool) → ltb (length before) 7 ≡ short → SaysZero r after → due ≡ done []
  said true e (z, w) =
      let one : r ≡ 1 = x.number ∙ rw e in
      absurd (omega arith)
  said false e (z, w) =
      let number : due.number ≡ 0 = sym (x.number ∙ rw e) ∙ z in
      is_done number (first_word_zero due.values (sym (first_word (ltb-false (length before) 7 e) number) ∙ w))

  says_zero : SaysZero r after → due ≡ done []
  says_zero = said (ltb (length before) 7) refl

  zero_said : 7 ≤ length before → due ≡ done [] → SaysZero r after
  zero_said h e =
      let number : due.number ≡ 0 = ap (λ (a : Answer). a.number) e in
      let values : due.values ≡ [] = ap (λ (a : Answer). a.values) e in
      (x.number ∙ rw (le-ltb (length before) 7 h) number, first_word h number ∙ rw values)

pub clauses : (table aux challenges before after : List ℕ) (r : ℕ) → Exported 7 (verdict_due (check_all table aux challenges)) before r after
    → Exported 7 (verdict_due (check_all table aux challenges)) before r after
    × (SaysZeroIff table aux challenges before r after × (SaysZeroSound table r after × SaysZeroSums table aux challenges r after))
clauses table aux challenges before after r x =
    let claims = Claims.zero_iff table aux challenges in (
      x,
      (
        λ h. (λ z. claims.0 (says_zero (check_all table aux challenges) before after r x z), λ held. zero_said (check_all table aux challenges) before after r x h (claims.1 held)),
        (
          λ z. Claims.sound table aux challenges (says_zero (check_all table aux challenges) before after r x z),
          λ z. Claims.sum table aux challenges (says_zero (check_all table aux challenges) before after r x z),
        ),
      ),
    )
