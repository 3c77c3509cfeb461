pub mod Held
pub mod Lines
pub mod Report
pub mod Rows
pub mod Tally
