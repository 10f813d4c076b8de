-- Reason 9 of the lookup tables' sums (change request 13): "met by a denominator of (0, 0, 0) and by nothing else, in .. the lookup tables' sums".
use Rattle.std.specs.Prelude.{ℕ, ◌≡◌, ◌↔◌, true, ◌&&◌, List, take}
use Rattle.words.specs.Limits.{byte_rows}
use Rattle.words.specs.Answers.{declined}
use Rattle.words.specs.declared.Refusal.TheVariants.{Flat}
use Rattle.table.specs.Columns.{all_reduced}
use Rattle.sums.specs.RunningSum.{ZeroDenominator}
use Rattle.lookup.specs.Cascades.{Cascade, capacity, used, cascade_shape, bytes_shape}
use Rattle.lookup_sums.specs.LookupSums.{sum_shape, byte_summand, cascade_summand, byte_sum_all, cascade_sum_all}

-- 1 and 8 are not met, and some byte's denominator is zero
pub record OnlyByteFlat (bytes challenges aux : List ℕ) : Type 0 where
  pub shapes : (bytes_shape bytes && sum_shape byte_rows challenges aux) ≡ true
  pub reduced : (all_reduced challenges && all_reduced (take byte_rows bytes)) ≡ true
  pub zero_denominator : ZeroDenominator (byte_summand bytes challenges) byte_rows

-- exactly then the answer is 9
abbrev pub ByteFlatExactly : (bytes challenges aux : List ℕ) → Type 0
ByteFlatExactly bytes challenges aux = ((byte_sum_all bytes challenges aux).answer ≡ declined Flat) ↔ OnlyByteFlat bytes challenges aux

-- the same of the cascade's used places
pub record OnlyCascadeFlat (c : Cascade) (challenges aux : List ℕ) : Type 0 where
  pub shapes : (cascade_shape c && sum_shape (capacity c) challenges aux) ≡ true
  pub reduced : (all_reduced challenges && all_reduced (take (used c) c.multiplicities)) ≡ true
  pub zero_denominator : ZeroDenominator (cascade_summand c.keys c.multiplicities challenges) (used c)

abbrev pub CascadeFlatExactly : Cascade → (challenges aux : List ℕ) → Type 0
CascadeFlatExactly c challenges aux = ((cascade_sum_all c challenges aux).answer ≡ declined Flat) ↔ OnlyCascadeFlat c challenges aux
