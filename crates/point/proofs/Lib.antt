-- Laws of digits, of the step's rounding (nothing else looks inside `quotient`) and of the limits; that nothing overflows.
pub mod Digits
pub mod Rounding
pub mod InLimits
pub mod Fits
