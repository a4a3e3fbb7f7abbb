pub mod Digits
pub mod Subkey
pub mod Value
