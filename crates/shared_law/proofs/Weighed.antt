-- The places of a list weighed: the sum over the used places of a weight that goes by count, holds and key. Rows, open holds and the lookup's sum are such
-- weights. What a change or an append does to the sum (changed_weigh, appended_weigh); places that come into use without count and holds add nothing, where
-- nothing weighs nothing (longer_weigh). Assumes nothing.
use Prim.Native.Nat.{ℕ, ◌+◌, ◌-◌, ◌≤◌, ◌<◌}
use mathlib.Core.Path.{◌≡◌}
use native.Mathlib.Nat.{add-sub_of_le}
use native.Mathlib.Omega.{arith}
use Rattle.isa.specs.declared.U32TableEntry.{U32TableEntry}
use Rattle.list_record.proofs.Views.{View, Changed, Appended}
use Rattle.shared_law.proofs.Sums.{sum_to, sum_cong, sum_one, sum_longer}

-- of a count, of holds and of a key
abbrev pub Weight : Type 0
Weight = ℕ → ℕ → U32TableEntry → ℕ

-- a key without count and holds weighs nothing
abbrev pub Light : Weight → Type 0
Light w = (k : U32TableEntry) → w 0 0 k ≡ 0

abbrev pub weight_at : Weight → View → ℕ → ℕ
weight_at w v i = w (v.count i) (v.hold i) (v.key i)

unfoldable pub weigh : Weight → View → ℕ
weigh w v = sum_to (weight_at w v) v.used

pub changed_weigh : (w : Weight) {a b : View} {i c g : ℕ} → Changed a b i c g
    → weigh w b + w (a.count i) (a.hold i) (a.key i) ≡ weigh w a + w c g (a.key i)
unfolding weigh
changed_weigh w {a} {b} {i} {c} {g} r =
    let here : weight_at w b i ≡ w c g (a.key i) = rw (r.count_here, r.hold_here, r.keys i r.inside) in
    let one = sum_one (weight_at w a) (weight_at w b) a.used i r.inside
    (λ j h n. rw (r.count_there j h n, r.hold_there j h n, r.keys j h)) in
    rw r.same_used (omega arith)

pub appended_weigh : (w : Weight) {a b : View} {k : U32TableEntry} {c g : ℕ} → Appended a b k c g → weigh w b ≡ weigh w a + w c g k
unfolding weigh sum_to
appended_weigh w {a} {b} {k} {c} {g} r =
    let new : weight_at w b a.used ≡ w c g k = rw (r.count_new, r.hold_new, r.key_new) in
    let old = sum_cong (weight_at w b) (weight_at w a) a.used (λ j h. rw (r.count_old j h, r.hold_old j h, r.keys j h)) in
    rw r.more_used (omega arith)

-- ---- places come into use

-- b has the places of a, and maybe more, without count and holds
pub record Longer (a b : View) : Type 0 where
  pub more : a.used ≤ b.used
  pub keys : (j : ℕ) → j < a.used → b.key j ≡ a.key j
  pub count_old : (j : ℕ) → j < a.used → b.count j ≡ a.count j
  pub hold_old : (j : ℕ) → j < a.used → b.hold j ≡ a.hold j
  pub count_new : (j : ℕ) → a.used ≤ j → j < b.used → b.count j ≡ 0
  pub hold_new : (j : ℕ) → a.used ≤ j → j < b.used → b.hold j ≡ 0

pub longer_weigh : (w : Weight) {a b : View} → Light w → Longer a b → weigh w b ≡ weigh w a
unfolding weigh
longer_weigh w {a} {b} light r =
    let d = b.used - a.used in
    let all : a.used + d ≡ b.used = add-sub_of_le r.more in
    rw (← all)
    (sum_longer (weight_at w a) (weight_at w b) a.used d
    (λ j h. rw (r.count_old j h, r.hold_old j h, r.keys j h))
    (λ j h m. let k : j < b.used = omega arith in rw (r.count_new j h k, r.hold_new j h k) (light (b.key j))))
