-- `logarithm::reduction::turned_back` meets its contract.
use mathlib.Core.Path.{◌∙◌, ap}
use Rattle.algebra.specs.Gauss.{iᵍ, conj, ◌*ᵍ◌}
use Rattle.point.specs.Point.{gauss, point}
use Rattle.logarithm.proofs.Quadrant.{turn_back_is}
use Rattle.logarithm.proofs.Fits.{parts_conj, parts_i}
use Rattle.logarithm.proofs.reduction.turned_back.Goals as goal

pub quarter_turn-requires : goal.quarter_turn-requires
quarter_turn-requires c = rw c.conjugate.ensures (parts_conj c.before.requires)

pub conjugate-requires-2 : goal.conjugate-requires-2
conjugate-requires-2 c = rw (c.quarter_turn.ensures, c.before.conjugate.ensures) (parts_i (parts_conj c.before.before.requires))

pub returns : goal.returns
returns c =
    let t = c.before in
    let s = t.before in
    c.conjugate-2.ensures
    ∙ (ap (λ p. point (conj (gauss p))) (t.quarter_turn.ensures ∙ ap (λ p. point (iᵍ *ᵍ gauss p)) s.conjugate.ensures)
    ∙ ap point (turn_back_is (gauss s.before.args.p)))
