-- Why LOG's answer is right.
--   Close         when each refusal is given; convergence, the answer is close, and what is left over small
--   Ranges        the ranges of the figures of every answer
--   Bound         the error bound is the least whole number that it can be
--
-- The argument, over any width F up to 48 (one is 2^F units; 01 has F = 48) and any tables that keep the promise (table_numbers, Promises):
--   Quadrant      q and w are the only ones with their properties, the angle lies above −π and at most at π, and wx is M
--   Scale         k is the only one with its property; what scaling loses, and where the scaled point lies
--   Cell          every scaled point has its cell, and the reciprocal brings it within 7/64 of one
--   Convergence   what the steps keep: before each step n from 4 on each part of 2^n·u is at most 3/2 in size, u the point less one; the
--                 sum is at most 27/16 long
--   Together      remainder, rounding and tables together, as algebra
--   Error         the reciprocal is a factor like those of the steps, and the iteration's drift bounds the rounding and the tables; with
--                 the remainder and the scale: 3M/2^N
--
-- For the code: Fits.
-- (01's cases marked P are computed in crate edges.)
pub mod Quadrant
pub mod Scale
pub mod Cell
pub mod Convergence
pub mod Together
pub mod Error
pub mod Close
pub mod Bound
pub mod Fits
pub mod Ranges
