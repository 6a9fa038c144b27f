-- The digit of LOG meets its contract.
use mathlib.Core.Path.{◌≡◌, ◌∙◌}
use Prim.Native.Nat.{ℕ, ◌/◌, ◌^◌, ◌≤◌}
use native.Mathlib.Omega.{arith}
use lib.IntN.{pos, +ℤ_idr}
use mir.Syntax.{w64}
use mir.Val.{SFits, to_z}
use Rattle.algebra.specs.Gauss.{two}
use Rattle.algebra.specs.Size.{Size}
use borrow.Author.Rules.{rules}
use Rattle.word.proofs.Fits.{back}
use Rattle.iteration.specs.Select.{half, log_select}
use Rattle.iteration.specs.Run.{select}
use Rattle.iteration.proofs.Fits.{half_word, around}
use Rattle.iteration.proofs.LogSelect.digit.Goals as goal

halved : (n : ℕ) → n ≤ 40 → to_z w64 (140737488355328 / 2 ^ n) ≡ half 48 n
halved n h = half_word 48 n (omega arith) (omega arith)

-- the parts of one
one : Size (two 48) (two 48)
one = record { lo = record { le = tt }; hi = record { le = tt } }

nought : Size (pos 0) (two 48)
nought = record { lo = record { le = tt }; hi = record { le = tt } }

pub cut_back-requires : goal.cut_back-requires
cut_back-requires c = rw (halved c.args.n c.requires) (around 48 c.args.n (omega arith) one)

pub cut_back-requires-2 : goal.cut_back-requires-2
cut_back-requires-2 c = rw (halved c.args.n c.requires) (around 48 c.args.n (omega arith) nought)

pub returns : goal.returns
unfolding select log_select
returns c =
    let v = c.args.s.point in
    let x : SFits w64 v.x = search rules in
    let y : SFits w64 v.y = search rules in
    let dx : SFits w64 c.cut_back.result = search rules in
    let dy : SFits w64 c.cut_back-2.result = search rules in
    let h = halved c.args.n c.requires in
    let re = simp (back, x, h) at c.cut_back.ensures in
    let im = simp (back, y, h, +ℤ_idr) at c.cut_back-2.ensures in
    λ i. record { dx = (back dx ∙ re) i; dy = (back dy ∙ im) i }
