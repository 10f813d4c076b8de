-- Words in blocks of one size: where a word of a block stands, bytes of blocks, and blocks that are one run; and a run at the front of a part. No
-- product of two numbers that are not known is compared but by `in_blocks` and `block_end`. Assumes nothing.
use Prim.Native.Nat.{ℕ, zero, suc, ◌+◌, ◌*◌, ◌-◌, ◌≤◌, ◌<◌}
use mathlib.Core.Path.{◌≡◌, refl, sym, ap, ap₂, ◌∙◌}
use mathlib.Core.List.{List, [], ◌∷◌, ◌++◌, map, flat_map, append_assoc}
use native.Mathlib.Nat.{zero-add, add-zero, add-suc, suc-add, mul-suc, mul-zero}
use native.Mathlib.Numerals.{add-one}
use native.Mathlib.Omega.{arith}
use lib.ListN.{length, get_or, set, take, drop, length-drop}
use lib.Seq.{sets, sets-eq, length-take-le, drop-drop}
use borrow.Rule.Slice.PartMut.{put_mid}
use Rattle.std.proofs.lemmas.List.{take-append-drop, drop-append-le}
use Rattle.std.proofs.lemmas.Grind.{flat_map-append}
use Rattle.words.proofs.Sets.{sets_front}
use Rattle.words.specs.Places.{places_from, places}
use Rattle.words.proofs.Places.{places_step}
pub use Rattle.words.proofs.Places.{block_end}

-- ---- where a word of a block stands

pub in_blocks : (n w c i : ℕ) → c < w → i < n → n * c + i < n * w
in_blocks n w c i h l = omega (arith, block_end n c w h)

-- ---- parts

-- a run at the front of a part, when the part is back
pub part_put : (a k : ℕ) (xs vs ys : List ℕ) → ys ≡ sets (take k (drop a xs)) 0 vs → length vs ≤ k → a + k ≤ length xs
    → put_mid a k xs ys ≡ sets xs a vs
part_put a k xs vs ys e fits within =
    let n = length vs in
    let rest = drop a xs in
    let long : length (take k rest) ≡ k = length-take-le k rest (omega (arith, length-drop a xs)) in
    let after : drop n (take k rest) ++ drop k rest ≡ drop (a + n) xs
    = sym (drop-append-le n (take k rest) (drop k rest) (omega (arith, long))) ∙ ap (drop n) (take-append-drop k rest) ∙ drop-drop n a xs in
    ap (λ (l : List ℕ). take a xs ++ (l ++ drop k rest)) (e ∙ sets_front vs (take k rest) (omega (arith, long)))
    ∙ ap (λ (l : List ℕ). take a xs ++ l) (append_assoc vs (drop n (take k rest)) (drop k rest) ∙ ap (λ (l : List ℕ). vs ++ l) after)
    ∙ sym (append_assoc (take a xs) vs (drop (a + n) xs))
    ∙ sym (sets-eq vs xs a (omega arith))

-- ---- a value for each element

pub flat_flat : (f g : ℕ → List ℕ) (is : List ℕ) → flat_map f (flat_map g is) ≡ flat_map (λ i. flat_map f (g i)) is
unfolding flat_map
flat_flat f g [] = refl
flat_flat f g (i ∷ is) = flat_map-append f (g i) (flat_map g is) ∙ ap (λ (l : List ℕ). flat_map f (g i) ++ l) (flat_flat f g is)

-- a turn of a loop that stores a word for each place
pub word_turn : (m : ℕ → ℕ) (i n v : ℕ) (d : List ℕ) → i < n → v ≡ m i
    → sets d i (map m (places_from i (n - i))) ≡ sets (set d i v) (i + 1) (map m (places_from (i + 1) (n - (i + 1))))
word_turn m i n v d h e = rw (places_step i n h, e, add-one)

-- ---- blocks that are one run

-- a run moved along
pub map_moved : (f : ℕ → ℕ) (a i n : ℕ) → map (λ j. f (a + j)) (places_from i n) ≡ map f (places_from (a + i) n)
unfolding places_from
map_moved f a i zero = refl
map_moved f a i (suc n) =
    ap (λ (l : List ℕ). f (a + i) ∷ l) (map_moved f a (suc i) n ∙ ap (λ (k : ℕ). map f (places_from k n)) (add-suc a i))

-- two runs
pub run_append : (f : ℕ → ℕ) (i m n : ℕ) → map f (places_from i m) ++ map f (places_from (i + m) n) ≡ map f (places_from i (m + n))
unfolding places_from
run_append f i zero n = rw (add-zero i, zero-add n)
run_append f i (suc m) n =
    let e : i + suc m ≡ suc i + m = omega arith in
    rw (e, suc-add m n) (ap (λ (l : List ℕ). f i ∷ l) (run_append f (suc i) m n))

blocks_from : (f : ℕ → ℕ) (n c w : ℕ) → flat_map (λ c. map (λ i. f (n * c + i)) (places n)) (places_from c w) ≡ map f (places_from (n * c) (n * w))
unfolding places_from flat_map
blocks_from f n c zero = rw mul-zero
blocks_from f n c (suc w) =
    let first : map (λ i. f (n * c + i)) (places n) ≡ map f (places_from (n * c) n)
    = map_moved f (n * c) 0 n ∙ ap (λ (k : ℕ). map f (places_from k n)) (add-zero (n * c)) in
    let at : n * suc c ≡ n * c + n = rw mul-suc (omega arith) in
    let size : n * suc w ≡ n + n * w = rw mul-suc (omega arith) in
    ap₂ (λ (a b : List ℕ). a ++ b) first (blocks_from f n (suc c) w)
    ∙ rw (at, size) (run_append f (n * c) n (n * w))

-- blocks of n words
pub blocks_join : (f : ℕ → ℕ) (n w : ℕ) → flat_map (λ c. map (λ i. f (n * c + i)) (places n)) (places w) ≡ map f (places (n * w))
blocks_join f n w = blocks_from f n 0 w ∙ ap (λ (k : ℕ). map f (places_from k (n * w))) (mul-zero n)

-- the words at all places of a list are the list
words_from : (ws vs : List ℕ) (i : ℕ) → ((j : ℕ) → j < length vs → get_or ws (i + j) 0 ≡ get_or vs j 0) → map (λ k. get_or ws k 0) (places_from i (length vs)) ≡ vs
unfolding places_from
words_from ws [] i h = refl
words_from ws (v ∷ vs) i h =
    let first : get_or ws i 0 ≡ v = ap (λ (k : ℕ). get_or ws k 0) (sym (add-zero i)) ∙ h 0 (omega arith) in
    ap₂ (λ (x : ℕ) (l : List ℕ). x ∷ l) first
    (words_from ws vs (suc i) (λ j p. ap (λ (k : ℕ). get_or ws k 0) (suc-add i j ∙ sym (add-suc i j)) ∙ h (suc j) (omega arith)))

pub map_places : (ws : List ℕ) (n : ℕ) → length ws ≡ n → map (λ k. get_or ws k 0) (places n) ≡ ws
map_places ws n e = rw (← e) (words_from ws ws 0 (λ j p. ap (λ (k : ℕ). get_or ws k 0) (zero-add j)))
