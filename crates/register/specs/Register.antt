-- THE REGISTER (02, E9): "the doubled form of 000, where the register holds 2^n times the exponent and its table entries are scaled
-- likewise". 000, II.C: "one would directly compute the sequence α_{n+1} = 2α_n − 2^{n+1} ln(1 + d_n 2^{−n})". A state is a point and, in the
-- place of the sum, the register, which is α_n before step n. One is 2^F units; 01 has F = 48.
use Rattle.std.specs.Prelude.{List, [], ◌∷◌, ℕ, zero, suc, ◌-◌, ◌^◌, pos, neg_ℤ, ◌*ℤ◌}
use Rattle.algebra.specs.Gauss.{𝔾, gi, ιᵍ, ◌-ᵍ◌, ◌*ᵍ◌, two, twoᵍ}
use Rattle.algebra.specs.Rounding.{floorᵍ}
use Rattle.point.specs.Point.{gauss}
use Rattle.point.specs.Step.{step}
use Rattle.table_numbers.specs.Promise.{StepTable, look}
use Rattle.iteration.specs.declared.State.{State}
use Rattle.iteration.specs.Select.{cut}
use Rattle.iteration.specs.Run.{state}

-- the digit, by the same thresholds at every step: −1/2 and 3/8 for dx, −3/4 and 13/16 for dy
unfoldable pub register_select : ℕ → 𝔾 → 𝔾
register_select F r = gi (cut (neg_ℤ (two (F - 1))) (pos 3 *ℤ two (F - 3)) r.re)
    (cut (neg_ℤ (pos 3 *ℤ two (F - 2))) (pos 13 *ℤ two (F - 4)) r.im)

-- 2^(n+1) times the stored entry of step n
abbrev pub scaled_entry : StepTable → ℕ → 𝔾 → 𝔾
scaled_entry t n d = twoᵍ (suc n) *ᵍ look t n d

-- step n by the digit d; the point takes the step of 01
unfoldable pub register_next : StepTable → ℕ → 𝔾 → State → State
register_next t n d x = state (step n d (gauss x.point)) (ιᵍ (pos 2) *ᵍ gauss x.sum -ᵍ scaled_entry t n d)

module _ (F : ℕ) (t : StepTable) where
  -- step n by its own digit
  abbrev pub register_moved : ℕ → State → State
  register_moved n x = register_next t n (register_select F (gauss x.sum)) x

  -- the steps n + 1 to n + k
  unfoldable pub register_run : ℕ → ℕ → State → State
  register_run n zero x = x
  register_run n (suc k) x = let y = register_moved (suc n) x in register_run (suc n) k y

  -- their digits
  unfoldable pub register_digits : ℕ → ℕ → State → List 𝔾
  register_digits n zero x = []
  register_digits n (suc k) x = let y = register_moved (suc n) x in register_select F (gauss x.sum) ∷ register_digits (suc n) k y

-- ---- from a state of start and exponent and back
-- before step 1 the register holds twice the exponent
abbrev pub loaded : State → State
loaded x = state (gauss x.point) (ιᵍ (pos 2) *ᵍ gauss x.sum)

-- after step n it holds 2^(n+1) times what is left of the exponent
abbrev pub read_back : ℕ → State → State
read_back n x = state (gauss x.point) (floorᵍ (gauss x.sum) (2 ^ suc n))
