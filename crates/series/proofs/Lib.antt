-- The truncated exponential, over any unit: its definition, and the laws that the error argument of the engines rests on.
--
-- Series has the definition (S T z over the divisor D T) with paper 01's sentence beside it, PlainSum the sum term by term. Laws is what
-- the engines cite, one record of four laws and the instances:
--
--   (laws-at 48).product : {a b : 𝔾} {α β : ℤ} → Within a α → Within b β → pos 4 *ℤ (α +ℤ β) ⩽ pos 9 *ℤ two 48 → (T : ℕ) → 24 ≤ T → …
--
-- says that |exp a · exp b − exp (a + b)| ≤ 2^−50 for the series of T terms, T from 24 on, where the lengths of a and b are 9/4 together.
-- Between the two: Majorant and Decay (the real series majorises the complex one, and its terms fall), NearOne, Tail, Carry (a test at n
-- terms holds at every T from n on), Coefficient and Cauchy (the product of two series, exactly), Product.
pub mod Series
pub mod Coefficient
pub mod PlainSum
pub mod Majorant
pub mod Decay
pub mod NearOne
pub mod NearOneSize
pub mod Tail
pub mod Carry
pub mod Cauchy
pub mod Product
pub mod Bounds
pub mod Laws
