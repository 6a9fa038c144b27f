-- The promise of a table and of the constants at any width, from one computed test over it.
use mathlib.Core.Bool.{Bool, ◌&&◌}
use mathlib.Core.List.{List, [], ◌∷◌, ◌++◌}
use Prim.Native.Nat.{ℕ, zero, suc, ◌-◌, ◌^◌}
use native.Mathlib.Nat.{not-suc-le-zero}
use lib.Dec.{T}
use lib.IntN.{ℤ, pos, negsuc, ◌+ℤ◌, ◌-ℤ◌, ◌*ℤ◌}
use Rattle.algebra.specs.Gauss.{𝔾, gi, ιᵍ, ◌+ᵍ◌, ◌*ᵍ◌, N, two, twoᵍ}
use Rattle.algebra.proofs.Test.{and_left, and_right, all, all_at}
use Rattle.algebra.proofs.Range.{les, Les, les_say, all_from}
use Rattle.algebra.proofs.Order.{nonneg_mul, nonneg_pos}
use Rattle.point.proofs.Digits.{nine, nine_at}
use Rattle.table_numbers.specs.Window.{Span, Lies, pick, real, imag}
use Rattle.table_numbers.specs.Reciprocal.{reciprocal, centre, InTable}
use Rattle.table_numbers.specs.Promise.{StepTable, StepEntry, ReciprocalTable, ReciprocalEntry, look, Constants}
use Rattle.table_numbers.proofs.Promises.{StepPromise, ReciprocalPromise, Move, Tied, eighth, quarter, quarter_back, doubling, halving, ConstantsPromise}
use Rattle.table_numbers.proofs.RuleTest.{rule_facts, rule_holds}

-- ---- the step table: the rule and the two windows at each n and d
abbrev lies : Span → ℤ → ℤ → List (ℤ × ℤ)
lies s h w = (s.lo *ℤ h, pos 2048 *ℤ (w +ℤ pos 2)) ∷ (pos 2048 *ℤ (w -ℤ pos 2), s.hi *ℤ h) ∷ []

lies_said : {s : Span} {h w : ℤ} → Les (lies s h w) → Lies (pos 2) s h w
lies_said (low, (high, _)) = record { low = low; high = high }

module _ (F : ℕ) (t : StepTable) where
  unfoldable pub step_test : ℕ → ℤ → ℤ → Bool
  step_test n dx dy =
      let z = t n dx dy in
      les (rule_facts F (2 ^ n) (twoᵍ n +ᵍ gi dx dy) z) && (les (lies (pick (real n) dx) (two (F - n)) z.re) && les
      (lies (pick (imag n) dy) (two (F - n)) z.im))

  step_said : (n : ℕ) (d : 𝔾) → T (step_test n d.re d.im) → StepEntry F n d (look t n d)
  unfolding step_test
  step_said n d p = record {
    rule = rule_holds F (2 ^ n) (twoᵍ n +ᵍ d) (look t n d)
        (les_say (rule_facts F (2 ^ n) (twoᵍ n +ᵍ d) (look t n d)) (and_left A (B && C) p));
    re = lies_said (les_say (lies (pick (real n) d.re) (two (F - n)) (look t n d).re) (and_left B C (and_right A (B && C) p)));
    im = lies_said (les_say (lies (pick (imag n) d.im) (two (F - n)) (look t n d).im) (and_right B C (and_right A (B && C) p)));
  }
    where
      A : Bool
      A = les (rule_facts F (2 ^ n) (twoᵍ n +ᵍ d) (look t n d))

      B : Bool
      B = les (lies (pick (real n) d.re) (two (F - n)) (look t n d).re)

      C : Bool
      C = les (lies (pick (imag n) d.im) (two (F - n)) (look t n d).im)

  abbrev pub steps_test : ℕ → Bool
  steps_test M = all M (λ i. nine (step_test (suc i)))

  pub steps_kept : (M : ℕ) → T (steps_test M) → StepPromise F M t
  steps_kept M p zero lo hi d k = absurd (not-suc-le-zero lo)
  steps_kept M p (suc n) lo hi d k = step_said (suc n) d (nine_at (step_test (suc n)) (all_at M (λ i. nine (step_test (suc i))) p n hi) k)

-- ---- the logarithms of the reciprocals: the rule and the size at each cell
abbrev pub cells : (ℤ → ℤ → Bool) → Bool
cells f = all 8 (λ i. all 32 (λ j. f (pos 8 +ℤ pos i) (negsuc 15 +ℤ pos j)))

pub cells_at : (f : ℤ → ℤ → Bool) → T (cells f) → (column row : ℤ) → InTable column row → T (f column row)
cells_at f p column row i = all_from (negsuc 15) 32 (λ y. f column y)
    (all_from (pos 8) 8 (λ x. all 32 (λ j. f x (negsuc 15 +ℤ pos j))) p column i.left i.right) row i.low i.high

module _ (F : ℕ) (t : ReciprocalTable) where
  abbrev size_facts : 𝔾 → List (ℤ × ℤ)
  size_facts z = (N (ιᵍ (pos 8) *ᵍ z), pos 9 *ℤ two F *ℤ (pos 9 *ℤ two F)) ∷ []

  unfoldable pub reciprocal_test : ℤ → ℤ → Bool
  reciprocal_test column row =
      let z = t (centre column) (centre row) in
      les (rule_facts F 64 (reciprocal (centre column) (centre row)) z) && les (size_facts z)

  reciprocal_said : (column row : ℤ) → T (reciprocal_test column row) →
      ReciprocalEntry F (reciprocal (centre column) (centre row)) (t (centre column) (centre row))
  unfolding reciprocal_test
  reciprocal_said column row p = record {
    rule = rule_holds F 64 c z (les_say (rule_facts F 64 c z) (and_left A B p));
    size = record { sign = nonneg_mul (nonneg_pos 9) (nonneg_pos (2 ^ F)); size = (les_say (size_facts z) (and_right A B p)).0 };
  }
    where
      c : 𝔾
      c = reciprocal (centre column) (centre row)

      z : 𝔾
      z = t (centre column) (centre row)

      A : Bool
      A = les (rule_facts F 64 c z)

      B : Bool
      B = les (size_facts z)

  pub reciprocals_kept : T (cells reciprocal_test) → ReciprocalPromise F t
  reciprocals_kept p column row i = reciprocal_said column row (cells_at reciprocal_test p column row i)

-- ---- the constants: the rule of each move, and the sizes
module _ (F : ℕ) where
  abbrev move_facts : Move → List (ℤ × ℤ)
  move_facts v = rule_facts F v.m v.c v.w

  move_said : (v : Move) → Les (move_facts v) → Tied F v
  move_said v = rule_holds F v.m v.c v.w

  module _ (k : Constants) where
    abbrev span_facts : List (ℤ × ℤ)
    span_facts =
        (pos 78 *ℤ two F, pos 100 *ℤ pos k.quarter_pi) ∷ (pos 100 *ℤ pos k.quarter_pi, pos 79 *ℤ two F)
        ∷ (pos 69 *ℤ two F, pos 100 *ℤ pos k.ln_2) ∷ (pos 100 *ℤ pos k.ln_2, pos 70 *ℤ two F)
        ∷ (pos 100 *ℤ pos k.half_ln_2, pos 35 *ℤ two F) ∷ []

    abbrev constant_facts : List (ℤ × ℤ)
    constant_facts = move_facts (eighth k) ++ move_facts (quarter k) ++ move_facts (quarter_back k) ++ move_facts (doubling k)
        ++ move_facts (halving k) ++ span_facts

    unfoldable pub constants_test : Bool
    constants_test = les constant_facts

    pub constants_kept : T constants_test → ConstantsPromise F k
    unfolding constants_test
    constants_kept p = said (les_say constant_facts p)
      where
        said : Les constant_facts → ConstantsPromise F k
        said (a₁, (a₂, (a₃, (b₁, (b₂, (b₃, (c₁, (c₂, (c₃, (d₁, (d₂, (d₃, (e₁, (e₂, (e₃, (q₁, (q₂, (l₁, (l₂, (h, _))))))))))))))))))))
            = record {
              eighths = move_said (eighth k) (a₁, (a₂, (a₃, tt)));
              quarters = move_said (quarter k) (b₁, (b₂, (b₃, tt)));
              quarters_back = move_said (quarter_back k) (c₁, (c₂, (c₃, tt)));
              doubles = move_said (doubling k) (d₁, (d₂, (d₃, tt)));
              halves = move_said (halving k) (e₁, (e₂, (e₃, tt)));
              quarter_pi_low = q₁;
              quarter_pi_high = q₂;
              ln_2_low = l₁;
              ln_2_high = l₂;
              half_ln_2_high = h;
            }
