-- The laws of whole numbers, real and complex, and two provers: what the proofs of every crate cite, so that none of them writes algebra
-- of its own.
--
-- HOW TO USE THE TWO PROVERS (Examples has more worked lines, each of them checked)
--
--   cube : (a b : ℤ) → (a +ℤ b) *ℤ (a +ℤ b) ≡ a *ℤ a +ℤ pos 2 *ℤ (a *ℤ b) +ℤ b *ℤ b
--   cube a b = ring! ℤR (a ∷ b ∷ []) (search reify depth 20) tt
--
-- `ring!` proves an identity in a commutative ring: over ℤ with ℤR and `reify`, over complex whole numbers with 𝔾R and `reifyᵍ`, over any
-- ring R with `reifyᴿ`. The list has the atoms: whatever is to count as a variable, `z.re` and `two n` as well as a bound name.
-- `search` reads the expression off the goal. Where it finds nothing, an atom is missing from the list.
--
--   chain : (a b c : ℤ) → a +ℤ b ⩽ c → pos 0 ⩽ b → a ⩽ c
--   chain a b c h k = lin (a ∷ b ∷ c ∷ []) (h & k & none) (search reify depth 20) tt
--
-- `lin` proves an inequality from facts: `&` adds one a ⩽ b, `&<` one a ⋖ b, `&≡` an equation, `&ℕ` one of ℕ; `lin<` proves a ⋖ b and
-- `lin_false` an absurdity. It looks for nonnegative multiples of the facts that add up to the goal, with every product of atoms as an
-- atom of its own. So for a goal that is not linear list the products it needs: `nonneg_mul (sub_nonneg h) (sub_nonneg k)`, `nonneg_sq a`.
-- A `?` for `tt` shows what is left over. Some 16 facts in 6 variables reach the checker's limit: split, or give `lin_by` the multiples.
--
-- State algebra over plain variables and apply it: at `pos 3` or a field of a record the terms compute away and hide their structure.
-- `◌≤ℤ◌` binds tighter than `◌+ℤ◌`, so statements are written with its synonym `◌⩽◌`.
pub mod Test
pub mod Ring
pub mod Integer
pub mod Solver
pub mod Gauss
pub mod Reify
pub mod Order
pub mod Certificate
pub mod Elimination
pub mod Linear
pub mod Inequality
pub mod Range
pub mod Power
pub mod Floor
pub mod Nearest
pub mod Sum
pub mod Choose
pub mod Binomial
pub mod Within
pub mod Parts
pub mod Larger
pub mod Examples
