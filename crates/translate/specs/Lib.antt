pub mod Bytes
pub mod Meanings
pub mod Split
pub mod Keeping
pub mod Numbers
pub mod Padding
