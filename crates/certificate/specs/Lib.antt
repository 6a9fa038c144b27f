-- What a receiver can check with a remainder (02, E7). No contract has it; the laws exp-certified and log-certified state it.
pub mod Exponential
pub mod Logarithm
