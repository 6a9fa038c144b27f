-- The remainder is a certificate: multiplied back in, it leaves of an answer's error what the rounding, the tables, the scale and the
-- reduction made. Nothing rests on this.
--   Exponential   start · e^exponent is 2^k · answer · e^remainder, nearly
--   Logarithm     the point is 2^k · i^q · e^answer · (1 + remainder), nearly
pub mod Exponential
pub mod Logarithm
