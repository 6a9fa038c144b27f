-- Why the iteration does what EXP and LOG need of it, over any width F (one is 2^F units) and any table that keeps the promise:
--   Digits   what a digit says of the number that it was read off; LOG's brings the point nearer to one
--   Runs     what each step keeps the run keeps; fewer steps take the opening digits
--   Factor   one factor more, as algebra of plain numbers
--   Drift    after n steps the point is the first one times the exact product of the factors, but for drift-a-step·n units, and exp(sum)
--            times that product is what it was, but for n/(128·2^M) of it
--
-- For the code: Fits (nothing overflows), Loop (one turn).
pub mod Digits
pub mod Runs
pub mod Factor
pub mod Drift
pub mod Fits
pub mod Loop
