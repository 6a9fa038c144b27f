-- `logarithm::less_one` meets its contract, part by part, so that a refusal names what was taken off.
use mathlib.Core.Path.{◌≡◌, ◌∙◌, ap}
use lib.IntN.{ℤ, pos, ◌-ℤ◌}
use mir.Syntax.{w64}
use mir.Val.{SFits, to_z, of_z}
use Rattle.algebra.specs.Gauss.{◌+ᵍ◌, negᵍ, two}
use Rattle.word.proofs.Fits.{back}
use Rattle.logarithm.proofs.Fits.{less_one_fits}
use Rattle.logarithm.proofs.less_one.Goals as goal

less : (a : ℤ) {x : ℤ} → SFits w64 x → SFits w64 (x -ℤ a) → to_z w64 (of_z w64 (to_z w64 (of_z w64 x) -ℤ a)) ≡ x -ℤ a
less a f g = ap (λ u. to_z w64 (of_z w64 (u -ℤ a))) (back f) ∙ back g

pub returns : goal.returns
unfolding ◌+ᵍ◌ negᵍ
returns c = let f = less_one_fits c.requires in λ i. record { x = less (two 48) f.x f.less_x i; y = less (pos 0) f.y f.less_y i }
