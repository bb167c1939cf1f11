pub mod Firsts
pub mod Numbering
pub mod LawProofs
