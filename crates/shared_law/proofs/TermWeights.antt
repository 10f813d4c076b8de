-- The sum of multiplicity × inverse of the denominator over the places of a list goes by weights: each of its three words is a sum of such words modulo p, and
-- of a key without count they are 0. So it is the same for a shared list and the list that it covers (covers_sum), and places without count and holds do not
-- change it (longer_sum). Assumes nothing.
use Prim.Native.Nat.{ℕ, zero, suc, ◌+◌, ◌%◌}
use mathlib.Core.Path.{◌≡◌, refl, sym, ap, ◌∙◌}
use native.Mathlib.Nat.{mod-add-mod}
use Rattle.field.specs.Elements.{p, add_f}
use Rattle.xfield.specs.Extension.{Ext, ext, add_x}
use Rattle.xfield.specs.Inverses.{inv_x}
use Rattle.xfield.proofs.Laws.{scale_x_zero}
use Rattle.list_record.proofs.Views.{View}
use Rattle.table.specs.Challenges.{Challenges}
use Rattle.sums.proofs.PlainSums.{sum_x}
use Rattle.client_sum.specs.Client.{entry_denominator}
use Rattle.client_law.proofs.TermSums.{term_of, term_at, term_sum}
use Rattle.shared_law.proofs.Sums.{sum_to}
use Rattle.shared_law.proofs.Weighed.{Weight, Light, weigh, Longer, longer_weigh}
use Rattle.shared_law.proofs.Covering.{Covers}

-- ---- word by word

first_word : (f : ℕ → Ext) (n : ℕ) → (sum_x f n).a ≡ sum_to (λ i. (f i).a) n % p
unfolding sum_x sum_to add_x add_f
first_word f zero = refl
first_word f (suc n) = ap (λ (s : ℕ). (s + (f n).a) % p) (first_word f n) ∙ mod-add-mod (sum_to (λ i. (f i).a) n) p (f n).a

second_word : (f : ℕ → Ext) (n : ℕ) → (sum_x f n).b ≡ sum_to (λ i. (f i).b) n % p
unfolding sum_x sum_to add_x add_f
second_word f zero = refl
second_word f (suc n) = ap (λ (s : ℕ). (s + (f n).b) % p) (second_word f n) ∙ mod-add-mod (sum_to (λ i. (f i).b) n) p (f n).b

third_word : (f : ℕ → Ext) (n : ℕ) → (sum_x f n).c ≡ sum_to (λ i. (f i).c) n % p
unfolding sum_x sum_to add_x add_f
third_word f zero = refl
third_word f (suc n) = ap (λ (s : ℕ). (s + (f n).c) % p) (third_word f n) ∙ mod-add-mod (sum_to (λ i. (f i).c) n) p (f n).c

same_words : (x y : Ext) → x.a ≡ y.a → x.b ≡ y.b → x.c ≡ y.c → x ≡ y
same_words x y e f g = let r : ext x.a x.b x.c ≡ ext y.a y.b y.c = cc in r

-- ---- the weights

module _ (c : Challenges) where
  abbrev a_weight : Weight
  a_weight m g k = (term_of c m k).a

  abbrev b_weight : Weight
  b_weight m g k = (term_of c m k).b

  abbrev c_weight : Weight
  c_weight m g k = (term_of c m k).c

  a_light : Light a_weight
  a_light k = ap (λ (x : Ext). x.a) (scale_x_zero (inv_x (entry_denominator c k)))

  b_light : Light b_weight
  b_light k = ap (λ (x : Ext). x.b) (scale_x_zero (inv_x (entry_denominator c k)))

  c_light : Light c_weight
  c_light k = ap (λ (x : Ext). x.c) (scale_x_zero (inv_x (entry_denominator c k)))

  -- two lists that weigh the same have the same sum
  weighed_sum : (v w : View) → ((x : Weight) → Light x → weigh x v ≡ weigh x w) → term_sum c v ≡ term_sum c w
  unfolding term_sum weigh
  weighed_sum v w same =
      same_words (sum_x (term_at c v) v.used) (sum_x (term_at c w) w.used)
      (first_word (term_at c v) v.used ∙ ap (λ (n : ℕ). n % p) (same a_weight a_light) ∙ sym (first_word (term_at c w) w.used))
      (second_word (term_at c v) v.used ∙ ap (λ (n : ℕ). n % p) (same b_weight b_light) ∙ sym (second_word (term_at c w) w.used))
      (third_word (term_at c v) v.used ∙ ap (λ (n : ℕ). n % p) (same c_weight c_light) ∙ sym (third_word (term_at c w) w.used))

  pub covers_sum : {S O : View} → Covers S O → term_sum c S ≡ term_sum c O
  covers_sum {S} {O} h = weighed_sum S O h.sums

  pub longer_sum : {v w : View} → Longer v w → term_sum c w ≡ term_sum c v
  longer_sum {v} {w} r = weighed_sum w v (λ x light. longer_weigh x light r)
