pub mod PrintedExample
