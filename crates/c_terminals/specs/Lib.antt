pub mod Texts
pub mod Words
pub mod Lexemes
pub mod Law
pub mod Places
