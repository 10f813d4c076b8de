-- Numbers as bytes: `le` and `le_at` undo each other, a number is read from its own bytes alone, and std's conversions make these numbers and bytes.
-- Both definitions go by the number of bytes, le_at from its highest byte and le from its lowest: `le_at_head` is the bridge.
use mathlib.Core.Path.{◌≡◌, refl, ap, ◌∙◌}
use mathlib.Core.List.{List, ◌∷◌, ◌++◌}
use Prim.Native.Nat.{ℕ, zero, suc, ◌+◌, ◌-◌, ◌*◌, ◌/◌, ◌%◌, ◌^◌, ◌≤◌, ◌<◌}
use native.Mathlib.Nat.{add-zero, add-suc, zero-add, suc-add, add_assoc, add-mul, mul_assoc, mul_comm, pow-suc}
use native.Mathlib.Omega.{arith}
use lib.ListN.{length, get_or, take, drop, replicate, get_or-append}
use lib.Pow.{pow-add}
use lib.Seq.{sets, take_at, drop-cons, get_or-append-add}
use Rattle.std.specs.Int.{byte_at, byte_worth, sum_through, bytes_low_first}
use Rattle.std.specs.Prelude.{slice_index}
use Rattle.std.proofs.lemmas.List.{get_or-take, get_or-drop}
use Rattle.std.proofs.Math.Nat.{div-div-eq-div-mul, div-one, pow-succ'}
use Rattle.words.specs.LittleEndian.{le_at, le}
use Rattle.words.proofs.Sets.{get_d_sets_in}

-- ---- the bytes of a number

pub length_le : (k n : ℕ) → length (le k n) ≡ k
unfolding le
length_le zero n = refl
length_le (suc k) n = ap suc (length_le k _)

pub le_byte : (k n j : ℕ) → get_or (le k n) j 0 < 256
unfolding le
le_byte zero n j = omega arith
le_byte (suc k) n zero = omega arith
le_byte (suc k) n (suc j) = le_byte k _ j

-- the j lowest, and the k after them
pub le_parts : (j k n : ℕ) → le (j + k) n ≡ le j n ++ le k (n / 256 ^ j)
unfolding le
le_parts zero k n = rw (zero-add, div-one)
le_parts (suc j) k n =
    let e : n / 256 ^ suc j ≡ n / 256 / 256 ^ j = rw (pow-succ', div-div-eq-div-mul) in
    rw (suc-add, le_parts j k (n / 256), e)

pub take_le : (j k n : ℕ) → j ≤ k → take j (le k n) ≡ le j n
take_le j k n h =
    let e : k ≡ j + (k - j) = omega arith in
    rw (e, le_parts j (k - j) n) (take_at (le j n) _ j (length_le j n))

-- above the number they are 0
pub le_zero : (k : ℕ) → le k 0 ≡ replicate k 0
unfolding le
le_zero zero = refl
le_zero (suc k) = ap (λ (l : List ℕ). 0 ∷ l) (le_zero k)

-- ---- the number in bytes

-- the lowest byte, and 256 times the number in the rest
pub le_at_head : (s : List ℕ) (at k : ℕ) → le_at s at (suc k) ≡ get_or s at 0 + 256 * le_at s (suc at) k
unfolding le_at
le_at_head s at zero = rw add-zero (omega arith)
le_at_head s at (suc k) =
    let h = le_at_head s at k in
    let e : at + suc k ≡ suc at + k = omega arith in
    let p : get_or s (at + suc k) 0 * 256 ^ suc k ≡ (get_or s (suc at + k) 0 * 256 ^ k) * 256 = rw (e, pow-suc, mul_assoc) in
    omega (arith, h, p)

pub le_at_one : (s : List ℕ) (at : ℕ) → get_or s at 0 ≡ le_at s at 1
unfolding le_at
le_at_one s at = rw add-zero (omega arith)

-- the number in j bytes and in the k bytes after them
pub le_at_parts : (s : List ℕ) (at j k : ℕ) → le_at s at (j + k) ≡ le_at s at j + le_at s (at + j) k * 256 ^ j
unfolding le_at
le_at_parts s at j zero = rw add-zero (omega arith)
le_at_parts s at j (suc k) =
    let b = get_or s (at + (j + k)) 0 in
    let h = le_at_parts s at j k in
    let p : b * 256 ^ (j + k) ≡ b * 256 ^ k * 256 ^ j = rw (pow-add, mul_comm (256 ^ j), mul_assoc) in
    rw (add-suc, add-mul, add_assoc) (omega (arith, h, p))

-- eight bytes, written out
pub le_at_eight : (s : List ℕ) (at : ℕ)
    → le_at s at 8
    ≡ get_or s at 0
    + get_or s (at + 1) 0 * 256
    + get_or s (at + 2) 0 * 256 ^ 2
    + get_or s (at + 3) 0 * 256 ^ 3
    + get_or s (at + 4) 0 * 256 ^ 4
    + get_or s (at + 5) 0 * 256 ^ 5
    + get_or s (at + 6) 0 * 256 ^ 6
    + get_or s (at + 7) 0 * 256 ^ 7
unfolding le_at
le_at_eight s at = rw add-zero (omega arith)

-- ---- the number depends on those k bytes alone

pub le_at_same : (s t : List ℕ) (a b k : ℕ) → ((j : ℕ) → j < k → get_or s (a + j) 0 ≡ get_or t (b + j) 0) → le_at s a k ≡ le_at t b k
unfolding le_at
le_at_same s t a b zero e = refl
le_at_same s t a b (suc k) e = rw (le_at_same s t a b k (λ j p. e j (omega arith)), e k (omega arith))

pub le_at_left : (xs ys : List ℕ) (at k : ℕ) → at + k ≤ length xs → le_at (xs ++ ys) at k ≡ le_at xs at k
le_at_left xs ys at k h = le_at_same (xs ++ ys) xs at at k (λ j p. get_or-append xs ys 0 (at + j) (omega arith))

pub le_at_right : (xs ys : List ℕ) (at k : ℕ) → le_at (xs ++ ys) (length xs + at) k ≡ le_at ys at k
le_at_right xs ys at k = le_at_same (xs ++ ys) ys (length xs + at) at k (λ j p. rw add_assoc (get_or-append-add xs ys (at + j) 0))

-- ---- writing, then reading

pub le_at_le : (k n : ℕ) → n < 256 ^ k → le_at (le k n) 0 k ≡ n
unfolding le le_at
le_at_le zero n h = let z : n < 1 = h in omega arith
le_at_le (suc k) n h =
    let z : n < 256 ^ k * 256 = rw pow-suc at h in
    let bytes = n % 256 ∷ le k (n / 256) in
    let rest : le_at bytes 1 k ≡ le_at (le k (n / 256)) 0 k = le_at_same bytes (le k (n / 256)) 1 0 k (λ j p. rw (suc-add 0 j, zero-add)) in
    let ih = le_at_le k (n / 256) (omega arith) in
    le_at_head bytes 0 k ∙ rw (rest, ih) (omega arith)

-- where the bytes of n stand at a place
pub le_at_of : (s : List ℕ) (at k n : ℕ) → n < 256 ^ k → ((j : ℕ) → j < k → get_or s (at + j) 0 ≡ get_or (le k n) j 0) → le_at s at k ≡ n
le_at_of s at k n h e = le_at_same s (le k n) at 0 k (λ j p. e j p ∙ rw zero-add) ∙ le_at_le k n h

pub le_at_sets : (s : List ℕ) (at k n : ℕ) → at + k ≤ length s → n < 256 ^ k → le_at (sets s at (le k n)) at k ≡ n
le_at_sets s at k n r h =
    le_at_of (sets s at (le k n)) at k n h
    (λ j p. get_d_sets_in (le k n) s at j 0 (omega (arith, length_le k n)) (omega (arith, length_le k n)))

-- ---- reading, then writing

pub le_le_at : (s : List ℕ) → ((j : ℕ) → get_or s j 0 < 256) → (k at : ℕ) → at + k ≤ length s → le k (le_at s at k) ≡ take k (drop at s)
unfolding le
le_le_at s b zero at h = refl
le_le_at s b (suc k) at h =
    let x = get_or s at 0 in
    let r = le_at s (suc at) k in
    let bx : x < 256 = b at in
    let l : at < length s = omega arith in
    let m : (x + 256 * r) % 256 ≡ x = omega arith in
    let d : (x + 256 * r) / 256 ≡ r = omega arith in
    rw (le_at_head s at k, m, d, drop-cons s at 0 l, le_le_at s b k (suc at) (omega arith))

-- ---- std's conversions: a sum of worths, and bytes that are counted up

sum_is_le_at : (bytes : List ℕ) (k : ℕ) → sum_through (λ i. byte_worth i (slice_index bytes i)) k ≡ le_at bytes 0 (suc k)
unfolding le_at
sum_is_le_at bytes zero = omega arith
sum_is_le_at bytes (suc k) = rw (sum_is_le_at bytes k, zero-add (suc k))

-- the number that `from_le_bytes` makes of a part is the number at its place
pub le_at_part : (s part : List ℕ) (a b k : ℕ) → part ≡ take (b - a) (drop a s) → b ≡ a + suc k
    → sum_through (λ i. byte_worth i (slice_index part i)) k ≡ le_at s a (suc k)
le_at_part s part a b k e f =
    let w : b - a ≡ suc k = omega arith in
    sum_is_le_at part k
    ∙ le_at_same part s 0 a (suc k) (λ j p. rw (e, w, zero-add) (get_or-take (suc k) (drop a s) j 0 p ∙ get_or-drop a s j 0))

byte_is : (i n : ℕ) → byte_at i n ≡ n / 256 ^ i % 256
byte_is zero n = rw div-one
byte_is (suc i) n = refl

-- the bytes that `to_le_bytes` makes, from byte i upward
pub bytes_are_le : (i k n : ℕ) → bytes_low_first i k n ≡ le k (n / 256 ^ i)
unfolding le
bytes_are_le i zero n = refl
bytes_are_le i (suc k) n =
    let e : n / 256 ^ suc i ≡ n / 256 ^ i / 256 = rw (pow-suc, div-div-eq-div-mul) in
    rw (byte_is i n, bytes_are_le (suc i) k n, e)
