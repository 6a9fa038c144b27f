-- Why EXP's answer is right.
--   Close            when each refusal is given; the answer is close, and what is left over small, with no hypothesis left
--   Seam             the answer does not jump at the rectangle's edge by more than both error bounds
--   Ranges           the ranges of the figures of every answer
--   Bound            the error bound is the least whole number that it can be
--   Zero             a zero start answers zero
--   Cases            the limits, and what the reduction leaves, by 01's and 02's numbers
--
-- The argument, over any width F (one is 2^F units; 01 has F = 48) and any table and constants that keep the promise (table_numbers,
-- Promises):
--   Box              one step of one part of the exponent
--   Convergence      after n steps each part of the exponent is below 1/2^n in size
--   Error            the iteration's drift and what is left of the exponent: 8M/2^N + rounding-share·N
--
-- Exponents outside the rectangle, up to eight (02, E5):
--   Reduced          p and k are small, the factor, and the reduced exponent, which lies in the rectangle
--   Moves, Outward   from the reduced exponent back to the given one: its exponential is 2^k times the factor, but for 36 units
--   Far              the error of the whole: (8M/2^N + rounding-share·N)·2^k
--   Given            what the steps are given, inside the rectangle and outside
--
-- For the code: Begun (what is known before the first step), Fits (every state of the run, the error bound, what an accepted input is
-- reduced to), Divided (the nearest multiple by a division), Back (what an exponent and a start are brought back to).
pub mod Box
pub mod Convergence
pub mod Error
pub mod Reduced
pub mod Moves
pub mod Outward
pub mod Far
pub mod Given
pub mod Bound
pub mod Close
pub mod Seam
pub mod Cases
pub mod Fits
pub mod Divided
pub mod Back
pub mod Ranges
pub mod Zero
pub mod Begun
