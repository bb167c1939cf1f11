pub mod Lexemes
pub mod Tokens
pub mod Numerals
pub mod Grammar
pub mod Form
pub mod Reading
