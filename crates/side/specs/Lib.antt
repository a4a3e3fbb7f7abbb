pub mod Table
pub mod Known
pub mod Tables
