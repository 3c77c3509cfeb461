pub mod First
pub mod Shown
pub mod Tokens
