pub mod WordMap
pub mod HeapCells
pub mod KeptMap
pub mod Codings
pub mod Contents
pub mod Halves
pub mod MapLaws
