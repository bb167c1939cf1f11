pub mod Declarators
pub mod Outermost
pub mod Parameters
