-- EXP by a register (02, E9). What one must believe of it; read beside 02 and 000 in this order, after EXP (crate exponential):
--   Register   the digits off the register, a step of it, the run
--   Answer     the answer for every input
--   Hardware   what the register's maker may rely on: digits off a few leading bits, and how many bits the register and its table have
-- Code is cited by the contracts of private functions alone.
pub mod Register
pub mod Answer
pub mod Hardware
pub mod Code
