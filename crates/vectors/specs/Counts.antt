-- Counts of calls: 32 kinds, a row of 32 places each. At place n of a kind's row stand the calls that answered number n, at the last place those that differ.
use Rattle.std.specs.Prelude.{ℕ, ◌+◌, ◌%◌, ◌^◌, Bool, cond, ◌&&◌, List, [], nat_lt, slice_index, slice_index_or, slice_set}

-- the row of a kind; none past the last kind
abbrev pub row : List (List ℕ) → (kind : ℕ) → List ℕ
row counts kind = slice_index_or counts kind []

-- one more at a place of a kind; nothing past the last kind or place
unfoldable pub counted : List (List ℕ) → (kind place : ℕ) → List (List ℕ)
counted counts kind place =
    cond (nat_lt kind 32 && nat_lt place 32)
    (slice_set counts kind (slice_set (row counts kind) place ((slice_index (row counts kind) place + 1) % 2 ^ 64)))
    counts

-- the number that a call answered is counted
unfoldable pub answered : List (List ℕ) → (kind number : ℕ) → List (List ℕ)
answered counts kind number = cond (nat_lt number 31) (counted counts kind number) counts

-- and that the call differs from what was wanted, where it does
unfoldable pub tallied : List (List ℕ) → (kind number : ℕ) → (same : Bool) → List (List ℕ)
tallied counts kind number same = cond same (answered counts kind number) (counted (answered counts kind number) kind 31)
