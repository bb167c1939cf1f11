pub mod CountLemmas
pub mod OutsideLemmas
