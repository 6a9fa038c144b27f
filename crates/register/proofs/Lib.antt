-- Why the register answers as EXP does.
--   Simulation   the register is 2^n times the exponent: the same digits, points and remainders, and so the same answer, at any width
--   Hardware     digits off a few leading bits; how many bits the register and its table have, at a width from 16 to 48
--
-- For the code: Loop (one turn of the loop), Fits (nothing overflows), Whole (what was begun fits the engine, and what it makes is the
-- answer).
pub mod Simulation
pub mod Hardware
pub mod Loop
pub mod Fits
pub mod Whole
