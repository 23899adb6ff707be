-- The laws of bytes written one behind the other.
pub mod Puts
