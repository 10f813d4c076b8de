pub mod SameLaws
pub mod CountLaws
