-- Points, digits, the step and the limits, over ℤ. Read beside 01 (Points and units; The step; the limits of EXP and LOG) in this order.
pub mod Point
pub mod Digit
pub mod Step
pub mod Limits
