pub mod RunningSums
pub mod SumWords
pub mod SumsAlike
pub mod ZeroDenominators
pub mod LookupSums
pub mod PlainSums
