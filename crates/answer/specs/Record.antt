-- The record of an answer, a list of numbers: what stands in it, and a name for each place (01, Points and units).
use Rattle.std.specs.Prelude.{List, [], ◌∷◌, ℕ, ℤ, pos, get_or, Ok, Err}
use Rattle.point.specs.Point.{point, nought}
use Rattle.answer.specs.declared.Figures.{Figures}
use Rattle.answer.specs.Answer.{Answer}
use Rattle.answer.specs.Refusal.{refusal_number}

-- "the refusal number or 0, the two parts, k, q (both 0 for EXP) and the column"; 02, E5: EXP's k stands "in the controller's k field";
-- 02, E7: "the controller's 48 bytes become 64 with the remainder last"
abbrev pub numbers : ℤ → Figures → List ℤ
numbers refusal f = refusal ∷ f.value.x ∷ f.value.y ∷ f.binary_exponent ∷ f.quadrant ∷ f.error_bound
    ∷ f.remainder.x ∷ f.remainder.y ∷ []

-- "All figures, k, q and the column are zero"; 02, E7: "zeros in a refused record"
abbrev pub no_figures : Figures
no_figures = record {
  value = point nought;
  binary_exponent = pos 0;
  quadrant = pos 0;
  error_bound = pos 0;
  remainder = point nought;
}

unfoldable pub record_of : Answer → List ℤ
record_of (Ok f) = numbers (pos 0) f
record_of (Err r) = numbers (refusal_number r) no_figures

-- ---- the places
abbrev number_at : ℕ → List ℤ → ℤ
number_at place r = get_or r place (pos 0)

abbrev pub refusal_in : List ℤ → ℤ
refusal_in = number_at 0

abbrev pub re_in : List ℤ → ℤ
re_in = number_at 1

abbrev pub im_in : List ℤ → ℤ
im_in = number_at 2

abbrev pub binary_exponent_in : List ℤ → ℤ
binary_exponent_in = number_at 3

abbrev pub quadrant_in : List ℤ → ℤ
quadrant_in = number_at 4

abbrev pub error_bound_in : List ℤ → ℤ
error_bound_in = number_at 5

abbrev pub remainder_re_in : List ℤ → ℤ
remainder_re_in = number_at 6

abbrev pub remainder_im_in : List ℤ → ℤ
remainder_im_in = number_at 7
