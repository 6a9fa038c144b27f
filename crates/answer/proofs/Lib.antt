-- The one law of tests in order, and how small the remainder is.
pub mod Tests
pub mod Remainder
