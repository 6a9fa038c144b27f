-- Whole numbers, real and complex: the words that the contracts of all crates use. proofs/ has their laws and the two provers.
pub mod Order
pub mod Gauss
pub mod Rounding
pub mod Size
