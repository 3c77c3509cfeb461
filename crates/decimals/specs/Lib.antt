pub mod Digits
pub mod Held
pub mod Laws
pub mod NormalForm
