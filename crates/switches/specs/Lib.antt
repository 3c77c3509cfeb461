pub mod Laws
pub mod Switch
