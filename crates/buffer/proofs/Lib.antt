-- Why: the laws of writing, and what serves the code.
--   Words     eight bytes of a number are read back
--   Halves    the digits of a number are those of its higher part, and behind them those of its lower part with zeros in front
--   Written, Lines, Put, Fitting   the writer's way
pub mod Written
pub mod Halves
pub mod Lines
pub mod Words
pub mod Put
pub mod Fitting
