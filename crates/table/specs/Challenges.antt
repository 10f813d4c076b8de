-- Challenges (document 01, "Extension"): five elements, and the denominator of a row.
use Rattle.std.specs.Prelude.{ℕ, Bool, List, eqb, length}
use Rattle.xfield.specs.Extension.{Ext, add_x, sub_x, scale_x}
use Rattle.table.specs.Columns.{Row, element_at}

-- "Fifteen challenge words, three per element: U32Indeterminate, U32LhsWeight, U32RhsWeight, U32CiWeight, U32ResultWeight."
abbrev pub challenge_words : ℕ
challenge_words = 15

pub record Challenges : Type 0 where
  pub u32_indeterminate : Ext
  pub u32_lhs_weight : Ext
  pub u32_rhs_weight : Ext
  pub u32_ci_weight : Ext
  pub u32_result_weight : Ext

unfoldable pub challenges_of : List ℕ → Challenges
challenges_of ws = record {
  u32_indeterminate = element_at ws 0;
  u32_lhs_weight = element_at ws 1;
  u32_rhs_weight = element_at ws 2;
  u32_ci_weight = element_at ws 3;
  u32_result_weight = element_at ws 4;
}

-- reason 1 is "challenges not 15 words"
unfoldable pub challenges_shape : List ℕ → Bool
challenges_shape ws = eqb (length ws) challenge_words

-- "The compressed row is the weighted sum of LHS, RHS, CI, Result"
unfoldable pub compressed_row : Challenges → ℕ → ℕ → ℕ → ℕ → Ext
compressed_row c lhs rhs ci result =
    add_x
    (add_x (add_x (scale_x lhs c.u32_lhs_weight) (scale_x rhs c.u32_rhs_weight)) (scale_x ci c.u32_ci_weight))
    (scale_x result c.u32_result_weight)

-- "the denominator is U32Indeterminate minus it"
unfoldable pub denominator : Challenges → ℕ → ℕ → ℕ → ℕ → Ext
denominator c lhs rhs ci result = sub_x c.u32_indeterminate (compressed_row c lhs rhs ci result)

-- of a row. The source adds the four weighted words in another order in the transition constraint than in the initial one, which
-- changes no value (proofs/Denominators.antt)
abbrev pub row_denominator : Challenges → Row → Ext
row_denominator c row = denominator c row.lhs row.rhs row.ci row.result
