pub mod Recorders
pub mod Alone
pub mod NotNoticed
pub mod OwnCalls
