pub mod Partition
pub mod Covers
pub mod CellLemmas
pub mod Sites
pub mod Contents
pub mod MapProofs
