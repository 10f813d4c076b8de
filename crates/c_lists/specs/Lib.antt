pub mod ListAnswers
