-- A shared list as one recorder sees it (S), and the list that its own calls alone make (O): what is kept from call to call (Covers). Every key of O is among
-- those of S, with the same count and the same holds; the other keys of S have none; S has as many places with keys of O as O has places; and whatever is
-- weighed, the two weigh the same. The order of the keys may differ. Kept where a key that both have is changed on both (both_changed), where it is changed
-- on S and appended on O (changed_and_new), where it is appended on both (both_new), and where the other's keys come to S (covers_longer). O never has more
-- places than S (no_more), and fewer where S has a key that O has not (fewer). Assumes nothing.
use Prim.Native.Nat.{ℕ, ◌+◌, ◌-◌, ◌≤◌, ◌<◌}
use mathlib.Core.Path.{◌≡◌, sym, ap, ◌∙◌}
use mathlib.Core.Logic.{◌⊎◌, inl, inr, ◌≢◌}
use native.Mathlib.Nat.{add-sub_of_le}
use native.Mathlib.Decide.{ℕ_discrete, dec_lt}
use native.Mathlib.Omega.{arith}
use Rattle.isa.specs.declared.U32TableEntry.{U32TableEntry}
use Rattle.list_record.proofs.Views.{View, Unknown, Changed, Appended, old_or_new}
use Rattle.list_laws.proofs.Distinct.{Distinct, changed_distinct, appended_distinct}
use Rattle.shared_law.proofs.Sums.{sum_to, sum_cong, sum_one, sum_longer, sum_bound, sum_less}
use Rattle.shared_law.proofs.Occurring.{Known, occurs, known_occurs, unknown_occurs, bit, bit_below, changed_occurs, appended_occurs}
use Rattle.shared_law.proofs.Weighed.{Weight, Light, weigh, changed_weigh, appended_weigh, Longer, longer_weigh}

pub record Covers (S O : View) : Type 0 where
  pub distinct_s : Distinct S
  pub distinct_o : Distinct O
  pub into : (j : ℕ) → j < O.used → Known S (O.key j)
  pub agree : (i j : ℕ) → i < S.used → j < O.used → S.key i ≡ O.key j → (S.count i ≡ O.count j) × (S.hold i ≡ O.hold j)
  pub rest : (i : ℕ) → i < S.used → Unknown O (S.key i) → (S.count i ≡ 0) × (S.hold i ≡ 0)
  pub room : sum_to (λ i. bit (occurs O (S.key i))) S.used ≡ O.used
  pub sums : (w : Weight) → Light w → weigh w S ≡ weigh w O

-- ---- an own call: the key is known on both

pub both_changed : {S O S' O' : View} {i j c g : ℕ} → Covers S O → Changed S S' i c g → Changed O O' j c g → S.key i ≡ O.key j → Covers S' O'
both_changed {S} {O} {S'} {O'} {i} {j} {c} {g} h r s e =
    let us = r.same_used in
    let uo = s.same_used in
    let a = h.agree i j r.inside s.inside e in
    record {
      distinct_s = changed_distinct r h.distinct_s;
      distinct_o = changed_distinct s h.distinct_o;
      into = λ y hy. let w = h.into y (omega arith) in
          (w.0, (omega (arith, w.1.0), r.keys w.0 w.1.0 ∙ w.1.1 ∙ sym (s.keys y (omega arith))));
      agree = λ x y hx hy q. pair x y (omega arith) (omega arith) (sym (r.keys x (omega arith)) ∙ q ∙ s.keys y (omega arith)) (ℕ_discrete x i);
      rest = λ x hx u. alone x (omega arith) u (ℕ_discrete x i);
      room =
          ap (λ (n : ℕ). sum_to (λ x. bit (occurs O' (S'.key x))) n) us
          ∙ sum_cong (λ x. bit (occurs O' (S'.key x))) (λ x. bit (occurs O (S.key x))) S.used
          (λ x hx. ap bit (changed_occurs s (S'.key x) ∙ ap (occurs O) (r.keys x hx)))
          ∙ h.room ∙ sym uo;
      sums = λ w z.
          let t = h.sums w z in
          let p = changed_weigh w r in
          let q : weigh w O' + w (S.count i) (S.hold i) (S.key i) ≡ weigh w O + w c g (S.key i) = rw (a.0, a.1, e) (changed_weigh w s) in
          omega arith;
    }
  where
    pair : (x y : ℕ) → x < S.used → y < O.used → S.key x ≡ O.key y → Dec (x ≡ i) → (S'.count x ≡ O'.count y) × (S'.hold x ≡ O'.hold y)
    pair x y hx hy q (yes z) =
        let w : y ≡ j = h.distinct_o y j hy s.inside (sym q ∙ ap S.key z ∙ e) in
        rw (z, w) (r.count_here ∙ sym s.count_here, r.hold_here ∙ sym s.hold_here)
    pair x y hx hy q (no z) =
        let w : y ≢ j = λ v. z (h.distinct_s x i hx r.inside (q ∙ ap O.key v ∙ sym e)) in
        let b = h.agree x y hx hy q in
        (r.count_there x hx z ∙ b.0 ∙ sym (s.count_there y hy w), r.hold_there x hx z ∙ b.1 ∙ sym (s.hold_there y hy w))

    alone : (x : ℕ) → x < S.used → Unknown O' (S'.key x) → Dec (x ≡ i) → (S'.count x ≡ 0) × (S'.hold x ≡ 0)
    alone x hx u (yes z) =
        absurd (let uo = s.same_used in let d = s.inside in u j (omega arith) (s.keys j s.inside ∙ sym e ∙ ap S.key (sym z) ∙ sym (r.keys x hx)))
    alone x hx u (no z) =
        let uo = s.same_used in
        let b = h.rest x hx (λ y hy q. u y (omega arith) (s.keys y hy ∙ q ∙ sym (r.keys x hx))) in
        (r.count_there x hx z ∙ b.0, r.hold_there x hx z ∙ b.1)

-- ---- room: 6 is never met alone where it is not met on the shared list

pub no_more : {S O : View} → Covers S O → O.used ≤ S.used
no_more {S} {O} h = omega (arith, h.room, sum_bound (λ i. bit (occurs O (S.key i))) S.used (λ i k. bit_below (occurs O (S.key i))))

pub fewer : {S O : View} {k : U32TableEntry} → Covers S O → Known S k → Unknown O k → O.used < S.used
fewer {S} {O} {k} h w u =
    let z : bit (occurs O (S.key w.0)) ≡ 0 =
    ap bit (unknown_occurs O.key (S.key w.0) O.used (λ j hj q. u j hj (q ∙ w.1.1))) in
    omega (arith, h.room, sum_less (λ i. bit (occurs O (S.key i))) S.used w.0 (λ i n. bit_below (occurs O (S.key i))) w.1.0 z)

-- ---- an own call: the key is known on the shared list alone

pub changed_and_new : {S O S' O' : View} {i c g : ℕ} {k : U32TableEntry} → Covers S O → Changed S S' i c g → Appended O O' k c g
    → S.key i ≡ k → Unknown O k → Covers S' O'
changed_and_new {S} {O} {S'} {O'} {i} {c} {g} {k} h r s e u =
    let us = r.same_used in
    let uo = s.more_used in
    let a = h.rest i r.inside (λ y hy q. u y hy (q ∙ e)) in
    record {
      distinct_s = changed_distinct r h.distinct_s;
      distinct_o = appended_distinct s u h.distinct_o;
      into = λ y hy. known y (old_or_new O.used y (omega arith));
      agree = λ x y hx hy q. pair x y (omega arith) (sym (r.keys x (omega arith)) ∙ q) (old_or_new O.used y (omega arith));
      rest = λ x hx n. alone x (omega arith) n (ℕ_discrete x i);
      room =
          let one = sum_one (λ x. bit (occurs O (S.key x))) (λ x. bit (occurs O' (S'.key x))) S.used i r.inside other in
          let before : bit (occurs O (S.key i)) ≡ 0 = ap bit (unknown_occurs O.key (S.key i) O.used (λ y hy q. u y hy (q ∙ e))) in
          let after : bit (occurs O' (S'.key i)) ≡ 1 =
          ap bit (known_occurs O'.key (S'.key i) O'.used O.used (omega arith) (s.key_new ∙ sym e ∙ sym (r.keys i r.inside))) in
          let t = h.room in
          rw us (omega arith);
      sums = λ w z.
          let t = h.sums w z in
          let p : weigh w S' + w 0 0 k ≡ weigh w S + w c g k = rw (a.0, a.1, e) at (changed_weigh w r) in
          let q = appended_weigh w s in
          let none = z k in
          omega arith;
    }
  where
    known : (y : ℕ) → (y < O.used) ⊎ (y ≡ O.used) → Known S' (O'.key y)
    known y (inl p) =
        let us = r.same_used in
        let w = h.into y p in
        (w.0, (omega (arith, w.1.0), r.keys w.0 w.1.0 ∙ w.1.1 ∙ sym (s.keys y p)))
    known y (inr p) = let us = r.same_used in let d = r.inside in (i, (omega arith, r.keys i r.inside ∙ e ∙ sym s.key_new ∙ ap O'.key (sym p)))

    pair : (x y : ℕ) → x < S.used → S.key x ≡ O'.key y → (y < O.used) ⊎ (y ≡ O.used) → (S'.count x ≡ O'.count y) × (S'.hold x ≡ O'.hold y)
    pair x y hx q (inl p) =
        let b = h.agree x y hx p (q ∙ s.keys y p) in
        let n : x ≢ i = λ z. u y p (sym (s.keys y p) ∙ sym q ∙ ap S.key z ∙ e) in
        (r.count_there x hx n ∙ b.0 ∙ sym (s.count_old y p), r.hold_there x hx n ∙ b.1 ∙ sym (s.hold_old y p))
    pair x y hx q (inr p) =
        let z : x ≡ i = h.distinct_s x i hx r.inside (q ∙ ap O'.key p ∙ s.key_new ∙ sym e) in
        rw (z, p) (r.count_here ∙ sym s.count_new, r.hold_here ∙ sym s.hold_new)

    alone : (x : ℕ) → x < S.used → Unknown O' (S'.key x) → Dec (x ≡ i) → (S'.count x ≡ 0) × (S'.hold x ≡ 0)
    alone x hx n (yes z) =
        absurd (let uo = s.more_used in n O.used (omega arith) (s.key_new ∙ sym e ∙ ap S.key (sym z) ∙ sym (r.keys x hx)))
    alone x hx n (no z) =
        let uo = s.more_used in
        let b = h.rest x hx (λ y hy q. n y (omega arith) (s.keys y hy ∙ q ∙ sym (r.keys x hx))) in
        (r.count_there x hx z ∙ b.0, r.hold_there x hx z ∙ b.1)

    other : (x : ℕ) → x < S.used → x ≢ i → bit (occurs O (S.key x)) ≡ bit (occurs O' (S'.key x))
    other x hx n =
        ap bit
        (sym
        (ap (occurs O') (r.keys x hx)
        ∙ appended_occurs s (S.key x) (λ q. n (h.distinct_s x i hx r.inside (q ∙ sym e)))))

-- ---- an own call: the key is new on both

pub both_new : {S O S' O' : View} {c g : ℕ} {k : U32TableEntry} → Covers S O → Appended S S' k c g → Appended O O' k c g
    → Unknown S k → Covers S' O'
unfolding sum_to
both_new {S} {O} {S'} {O'} {c} {g} {k} h r s u =
    let us = r.more_used in
    let uo = s.more_used in
    record {
      distinct_s = appended_distinct r u h.distinct_s;
      distinct_o = appended_distinct s fresh h.distinct_o;
      into = λ y hy. known y (old_or_new O.used y (omega arith));
      agree = λ x y hx hy q. pair x y q (old_or_new S.used x (omega arith)) (old_or_new O.used y (omega arith));
      rest = λ x hx n. alone x n (old_or_new S.used x (omega arith));
      room =
          let old = sum_cong (λ x. bit (occurs O' (S'.key x))) (λ x. bit (occurs O (S.key x))) S.used
          (λ x hx. ap bit (ap (occurs O') (r.keys x hx) ∙ appended_occurs s (S.key x) (u x hx))) in
          let new : bit (occurs O' (S'.key S.used)) ≡ 1 =
          ap bit (known_occurs O'.key (S'.key S.used) O'.used O.used (omega arith) (s.key_new ∙ sym r.key_new)) in
          let t = h.room in
          rw us (omega arith);
      sums = λ w z.
          let t = h.sums w z in
          let p = appended_weigh w r in
          let q = appended_weigh w s in
          omega arith;
    }
  where
    fresh : Unknown O k
    fresh y hy q = let w = h.into y hy in u w.0 w.1.0 (w.1.1 ∙ q)

    known : (y : ℕ) → (y < O.used) ⊎ (y ≡ O.used) → Known S' (O'.key y)
    known y (inl p) =
        let us = r.more_used in
        let w = h.into y p in
        (w.0, (omega (arith, w.1.0), r.keys w.0 w.1.0 ∙ w.1.1 ∙ sym (s.keys y p)))
    known y (inr p) = let us = r.more_used in (S.used, (omega arith, r.key_new ∙ sym s.key_new ∙ ap O'.key (sym p)))

    pair : (x y : ℕ) → S'.key x ≡ O'.key y → (x < S.used) ⊎ (x ≡ S.used) → (y < O.used) ⊎ (y ≡ O.used)
        → (S'.count x ≡ O'.count y) × (S'.hold x ≡ O'.hold y)
    pair x y q (inl a) (inl b) =
        let v = h.agree x y a b (sym (r.keys x a) ∙ q ∙ s.keys y b) in
        (r.count_old x a ∙ v.0 ∙ sym (s.count_old y b), r.hold_old x a ∙ v.1 ∙ sym (s.hold_old y b))
    pair x y q (inl a) (inr b) = absurd (u x a (sym (r.keys x a) ∙ q ∙ ap O'.key b ∙ s.key_new))
    pair x y q (inr a) (inl b) = absurd (fresh y b (sym (s.keys y b) ∙ sym q ∙ ap S'.key a ∙ r.key_new))
    pair x y q (inr a) (inr b) = rw (a, b) (r.count_new ∙ sym s.count_new, r.hold_new ∙ sym s.hold_new)

    alone : (x : ℕ) → Unknown O' (S'.key x) → (x < S.used) ⊎ (x ≡ S.used) → (S'.count x ≡ 0) × (S'.hold x ≡ 0)
    alone x n (inl a) =
        let uo = s.more_used in
        let v = h.rest x a (λ y hy q. n y (omega arith) (s.keys y hy ∙ q ∙ sym (r.keys x a))) in
        (r.count_old x a ∙ v.0, r.hold_old x a ∙ v.1)
    alone x n (inr a) =
        absurd (let uo = s.more_used in n O.used (omega arith) (s.key_new ∙ sym r.key_new ∙ ap S'.key (sym a)))

-- ---- the other's call brings keys: they have no count and no holds here

pub covers_longer : {S O S' : View} → Covers S O → Longer S S' → Distinct S' → Covers S' O
covers_longer {S} {O} {S'} h r d = record {
  distinct_s = d;
  distinct_o = h.distinct_o;
  into = λ y hy. let w = h.into y hy in (w.0, (omega (arith, w.1.0, r.more), r.keys w.0 w.1.0 ∙ w.1.1));
  agree = λ x y hx hy q. pair x y hx hy q (dec_lt x S.used);
  rest = λ x hx n. alone x hx n (dec_lt x S.used);
  room =
      let m = S'.used - S.used in
      let all : S.used + m ≡ S'.used = add-sub_of_le r.more in
      rw (← all)
      (sum_longer (λ x. bit (occurs O (S.key x))) (λ x. bit (occurs O (S'.key x))) S.used m
      (λ x hx. ap bit (ap (occurs O) (r.keys x hx)))
      (λ x a b. ap bit (unknown_occurs O.key (S'.key x) O.used (λ y hy q. strange x y a (omega arith) hy (sym q)))))
      ∙ h.room;
  sums = λ w z. longer_weigh w z r ∙ h.sums w z;
}
  where
    -- a key that is new on the shared list is no key of the list alone
    strange : (x y : ℕ) → S.used ≤ x → x < S'.used → y < O.used → S'.key x ≡ O.key y → ⊥
    strange x y a b hy q =
        let w = h.into y hy in
        let same : x ≡ w.0 = d x w.0 b (omega (arith, w.1.0, r.more)) (q ∙ sym w.1.1 ∙ sym (r.keys w.0 w.1.0)) in
        omega (arith, w.1.0)

    pair : (x y : ℕ) → x < S'.used → y < O.used → S'.key x ≡ O.key y → Dec (x < S.used) → (S'.count x ≡ O.count y) × (S'.hold x ≡ O.hold y)
    pair x y hx hy q (yes a) =
        let v = h.agree x y a hy (sym (r.keys x a) ∙ q) in
        (r.count_old x a ∙ v.0, r.hold_old x a ∙ v.1)
    pair x y hx hy q (no a) = absurd (strange x y (omega arith) hx hy q)

    alone : (x : ℕ) → x < S'.used → Unknown O (S'.key x) → Dec (x < S.used) → (S'.count x ≡ 0) × (S'.hold x ≡ 0)
    alone x hx n (yes a) =
        let v = h.rest x a (λ y hy q. n y hy (q ∙ sym (r.keys x a))) in
        (r.count_old x a ∙ v.0, r.hold_old x a ∙ v.1)
    alone x hx n (no a) = let b : S.used ≤ x = omega arith in (r.count_new x b hx, r.hold_new x b hx)
