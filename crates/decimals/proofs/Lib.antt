pub mod NormalForm
pub mod Numbers
pub mod Numerals
