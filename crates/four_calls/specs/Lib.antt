pub mod FourCalls
pub mod LeastRows
pub mod Run
pub mod Examples
