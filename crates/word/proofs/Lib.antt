-- From machine words to ℤ: what the proofs of signed code cite.
--
-- HOW A PROOF OF SIGNED CODE GOES
--
-- A signed local holds a word, so a goal speaks of `to_z w64 (of_z w64 x)`, which is x where x fits (`back`). Let a private function require
-- a record of the facts `SFits w64 ..`, one for each number that it makes, and copy fields by `let` first. Then `search needs` answers
-- every operation, and one line proves the equation:
--
--   returns c = let f = c.before.before.pre in simp (back, f.fx, f.fy, f.sum)
--
-- One lemma makes the record from sizes (algebra, Parts): at a bound that computes, the last argument is `tt`.
--
--   sum-fits : {x y : ℤ} → Size x (two 61) → Size y (two 61) → SFits w64 (x +ℤ y)
--   sum-fits h g = sfits-size (size-add h g) tt
--
-- A branch tells of a test, `simp (back, f.fx) at c.if1.taken : lt_z x (pos 0) ≡ true`; the library's `lt_z_yes` of `holds` makes the order
-- of it.
pub mod Fits
pub mod Shift
pub mod Compare
pub mod Bits
