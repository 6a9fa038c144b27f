-- The truncated exponential, over any unit; proofs/ has its laws.
pub mod Series
