pub mod LookupAnswers
