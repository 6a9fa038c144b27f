-- THE PROMISE of a whole table, and of the constants.
use Prim.Native.Nat.{ℕ, ◌≤◌}
use lib.IntN.{ℤ, pos, ◌*ℤ◌}
use Rattle.algebra.specs.Gauss.{𝔾, gi, iᵍ, negᵍ, ιᵍ, two}
use Rattle.algebra.specs.Order.{◌⩽◌}
use Rattle.point.specs.Digit.{IsDigit}
use Rattle.table_numbers.specs.Reciprocal.{reciprocal, centre, InTable}
use Rattle.table_numbers.specs.Promise.{Rule, StepTable, look, StepEntry, ReciprocalTable, ReciprocalEntry, Constants}

-- for the steps 1 to M
abbrev pub StepPromise : (F M : ℕ) → StepTable → Type 0
StepPromise F M t = (n : ℕ) → 1 ≤ n → n ≤ M → (d : 𝔾) → IsDigit d → StepEntry F n d (look t n d)

-- for each of the 256 cells
abbrev pub ReciprocalPromise : (F : ℕ) → ReciprocalTable → Type 0
ReciprocalPromise F t = (column row : ℤ) → InTable column row →
    ReciprocalEntry F (reciprocal (centre column) (centre row)) (t (centre column) (centre row))

-- ---- the constants of EXP's reduction (02, E5): "The constants are tied to 2 and i by the series, as table entries are"
-- a move of the reduction: where the exponent loses w, the start is multiplied by c/m
pub record Move : Type 0 where
  pub m : ℕ
  pub c : 𝔾
  pub w : 𝔾

abbrev pub Tied : ℕ → Move → Type 0
Tied F v = (T : ℕ) → 24 ≤ T → Rule F T v.m v.c v.w

module _ (k : Constants) where
  -- an eighth of a turn with half a doubling: 1 + i
  abbrev pub eighth : Move
  eighth = record { m = 1; c = gi (pos 1) (pos 1); w = gi (pos k.half_ln_2) (pos k.quarter_pi) }

  -- a quarter of a turn, and one back: i and −i
  abbrev pub quarter : Move
  quarter = record { m = 1; c = iᵍ; w = gi (pos 0) (pos 2 *ℤ pos k.quarter_pi) }

  abbrev pub quarter_back : Move
  quarter_back = record { m = 1; c = negᵍ iᵍ; w = negᵍ quarter.w }

  -- a doubling, and a halving: 2 and 1/2
  abbrev pub doubling : Move
  doubling = record { m = 1; c = ιᵍ (pos 2); w = gi (pos k.ln_2) (pos 0) }

  abbrev pub halving : Move
  halving = record { m = 2; c = ιᵍ (pos 1); w = negᵍ doubling.w }

-- the rule for each move, and the sizes, which no rule about the exponential bounds
pub record ConstantsPromise (F : ℕ) (k : Constants) : Type 0 where
  pub eighths : Tied F (eighth k)
  pub quarters : Tied F (quarter k)
  pub quarters_back : Tied F (quarter_back k)
  pub doubles : Tied F (doubling k)
  pub halves : Tied F (halving k)
  pub quarter_pi_low : pos 78 *ℤ two F ⩽ pos 100 *ℤ pos k.quarter_pi
  pub quarter_pi_high : pos 100 *ℤ pos k.quarter_pi ⩽ pos 79 *ℤ two F
  pub ln_2_low : pos 69 *ℤ two F ⩽ pos 100 *ℤ pos k.ln_2
  pub ln_2_high : pos 100 *ℤ pos k.ln_2 ⩽ pos 70 *ℤ two F
  pub half_ln_2_high : pos 100 *ℤ pos k.half_ln_2 ⩽ pos 35 *ℤ two F
