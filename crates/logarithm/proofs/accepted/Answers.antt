-- `logarithm::accepted` meets its contract.
use mathlib.Core.Path.{◌≡◌, sym, ◌∙◌, ap, subst, subst₂}
use Prim.Native.Nat.{ℕ, ◌-◌}
use native.Mathlib.Omega.{arith}
use borrow.Author.Rules.{rules}
use lib.Dec.{lit≤}
use lib.IntN.{pos, nat_abs, ◌-ℤ◌}
use mir.Syntax.{w64}
use mir.Val.{SFits, to_z, of_z}
use Rattle.algebra.specs.Gauss.{◌-ᵍ◌, two}
use Rattle.algebra.specs.Order.{◌⩽◌}
use Rattle.algebra.specs.Size.{Parts}
use Rattle.word.proofs.Fits.{back, word_pos}
use Rattle.point.specs.declared.Point.{Point}
use Rattle.point.specs.Point.{gauss, point, one}
use Rattle.table_numbers.specs.Table.{step_table, reciprocal_table}
use Rattle.tables.proofs.Promises.{step_promise, reciprocal_promise}
use Rattle.iteration.specs.declared.State.{State}
use Rattle.iteration.specs.Select.{Log}
use Rattle.iteration.specs.Run.{run, Fits}
use Rattle.logarithm.specs.declared.reduction.Turn.{Turn}
use Rattle.logarithm.specs.Reduction.{turned, bits, bit_length, binary_exponent_of}
use Rattle.logarithm.specs.Answer.{begun, ended}
use Rattle.logarithm.specs.Code.{turn_of, ScalePre, BoundPre, bound_at, Accepted}
use Rattle.logarithm.proofs.Fits.{scale_length, exponent_fits, turn_ok, turned_pos, scale_ok, bound_ok, bound_made, run_ok}
use Rattle.logarithm.proofs.accepted.Goals as goal

-- ---- what the code found: the turned point t, the length b of its x
module _ {n : ℕ} {p : Point} (given : Accepted 48 (pos n) (gauss p)) {t : Turn} (fits : SFits w64 t.point.x) (turn : t ≡ turn_of p) where
  x_is : to_z w64 (of_z w64 t.point.x) ≡ (turned (gauss p)).re
  x_is = back fits ∙ ap (λ (t : Turn). t.point.x) turn

  module _ {b : ℕ} (length : b ≡ bits (nat_abs (to_z w64 (of_z w64 t.point.x)))) where
    length_is : b ≡ bits (nat_abs (turned (gauss p)).re)
    length_is = length ∙ ap (λ x. bits (nat_abs x)) x_is

    scalable : ScalePre 48 t.point b
    scalable = subst₂ (ScalePre 48) (sym (ap (λ (t : Turn). t.point) turn)) (sym length_is) (scale_ok (lit≤ tt) given)

    word_is : to_z w64 b ≡ pos b
    word_is = word_pos b (omega (arith, scale_length scalable))

    exponent_fit : SFits w64 (to_z w64 b -ℤ pos 48)
    exponent_fit = subst (λ b. SFits w64 (b -ℤ pos 48)) (sym word_is) (exponent_fits scalable (lit≤ tt))

-- the state x before the steps and the state y after them
module _ (n : ℕ) (p : Point) {t : Turn} {x : State} (turn : t ≡ turn_of p) (start : x ≡ begun 48 reciprocal_table (gauss t.point)) where
  begun_is : x ≡ begun 48 reciprocal_table (turned (gauss p))
  begun_is = start ∙ ap (λ (t : Turn). begun 48 reciprocal_table (gauss t.point)) turn

  ran : {y : State} → y ≡ run 48 step_table Log 2 (n - 2) x → y ≡ ended 48 step_table reciprocal_table n (turned (gauss p))
  ran end = end ∙ ap (run 48 step_table Log 2 (n - 2)) begun_is

steps_fit : {n : ℕ} {p : Point} → Accepted 48 (pos n) (gauss p) → Fits 48 step_table Log 2 n (begun 48 reciprocal_table (turned (gauss p)))
steps_fit given = run_ok (lit≤ tt) given (lit≤ tt) step_table reciprocal_table step_promise reciprocal_promise

-- ---- the contract
pub returns : goal.returns
unfolding binary_exponent_of bit_length
returns c =
    let x : SFits w64 c.turned-t.result.point.x = search rules in
    let quadrant : SFits w64 c.turned-t.result.quadrant = search rules in
    let bound : SFits w64 c.error_bound.result = search rules in
    let t = c.turned-t.ensures in
    let b = c.bit_length-b.ensures in
    let end = ran c.args.n c.args.p t c.begun.ensures c.run-end.ensures in
    let exponent_is = back (exponent_fit c.requires x t b) ∙ ap (λ b. b -ℤ pos 48) (word_is c.requires x t b ∙ ap pos (length_is c.requires x t b)) in
    let quadrant_is = back quadrant ∙ ap (λ (t : Turn). t.quadrant) t in
    let bound_is = back bound ∙ (c.error_bound.ensures ∙ (ap (bound_at c.args.n) (x_is c.requires x t) ∙ bound_made (lit≤ tt) c.requires)) in
    let left = c.less_one.ensures ∙ ap (λ (e : State). point (gauss e.point -ᵍ one 48)) end in
    λ i. record { value = (end i).sum; binary_exponent = exponent_is i; quadrant = quadrant_is i; error_bound = bound_is i; remainder = left i }

-- ---- the needs
pub turned-t-requires : goal.turned-t-requires
turned-t-requires c = turn_ok (lit≤ tt) c.requires (lit≤ tt)

pub bit_length-b-requires : goal.bit_length-b-requires
bit_length-b-requires c = subst (λ x. pos 1 ⩽ x) (sym (x_is c.requires (search rules) c.turned-t.ensures)) (turned_pos (lit≤ tt) c.requires)

pub begun-requires : goal.begun-requires
begun-requires c = scalable c.requires (search rules) c.turned-t.ensures c.bit_length-b.ensures

pub run-end-requires : goal.run-end-requires
run-end-requires c = subst (Fits 48 step_table Log 2 c.args.n) (sym (begun_is c.args.n c.args.p c.turned-t.ensures c.begun.ensures)) (steps_fit c.requires)

pub less_one-requires : goal.less_one-requires
less_one-requires c = subst (λ (e : State). Parts (gauss e.point) (two 61)) (sym (ran c.args.n c.args.p c.turned-t.ensures c.begun.ensures c.run-end.ensures))
    ((steps_fit c.requires).small (c.args.n - 2) (omega arith)).point

pub overflow_cast-result : goal.overflow_cast-result
overflow_cast-result c =
    let scale = scalable c.requires (search rules) c.turned-t.ensures c.bit_length-b.ensures in
    record { sfits = omega (arith, scale_length scale) }

pub overflow_sub-result : goal.overflow_sub-result
overflow_sub-result c = exponent_fit c.requires (search rules) c.turned-t.ensures c.bit_length-b.ensures

pub error_bound-requires : goal.error_bound-requires
error_bound-requires c = subst (BoundPre 48 c.args.n) (sym (x_is c.requires (search rules) c.turned-t.ensures)) (bound_ok (lit≤ tt) c.requires)
