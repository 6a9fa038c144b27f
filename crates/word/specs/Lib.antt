-- The one test that contracts use of words; proofs/ leads from machine words to ℤ.
pub mod Compare
