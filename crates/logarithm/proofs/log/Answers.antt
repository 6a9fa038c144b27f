-- `logarithm::log` meets its contract: its tests are those of the definition, in 01's order, and an answer is close.
use mathlib.Core.Path.{◌≡◌, sym, ◌∙◌, ap, ap₂, subst}
use mathlib.Core.Bool.{true, false, ◌&&◌}
use native.Mathlib.Omega.{arith}
use lib.IntN.{ℤ, pos, nat_abs}
use mir.Syntax.{w64}
use mir.Val.{SFits, to_z, of_z}
use Rattle.std.specs.Prelude.{Ok}
use Rattle.std.proofs.Common.{int_eq}
use Rattle.std.proofs.lemmas.Bool.Decides.{same_from_decides, Decides-int_eq}
use Rattle.algebra.specs.Gauss.{𝔾}
use Rattle.algebra.proofs.Order.{⩽_refl, ⩽_antisym}
use Rattle.word.specs.Compare.{between}
use Rattle.word.proofs.Compare.{between_true, is_between}
use Rattle.word.proofs.Fits.{back}
use Rattle.point.specs.declared.Point.{Point}
use Rattle.point.specs.Point.{gauss}
use Rattle.point.specs.Limits.{in_steps, in_parts, in_box}
use Rattle.point.proofs.InLimits.{steps_say, steps_cast}
use Rattle.table_numbers.specs.Table.{step_table, reciprocal_table}
use Rattle.logarithm.specs.Answer.{is_zero}
use Rattle.logarithm.specs.Code.{Accepted, figures_of}
use Rattle.logarithm.proofs.Close.{refused_steps, refused_part, refused_zero, answered, settled}
use Rattle.logarithm.proofs.log.Goals as goal

-- ---- the test for the zero point
nought_only : (x : ℤ) → between (pos 0) (pos 0) x ≡ int_eq x (pos 0)
nought_only x = same_from_decides (between (pos 0) (pos 0) x) (int_eq x (pos 0))
    ((λ t. let h = between_true t in ⩽_antisym h.1 h.0), λ e. rw e (is_between {x = pos 0} (⩽_refl (pos 0)) (⩽_refl (pos 0))))
    (Decides-int_eq x (pos 0))

zero_is : (p : 𝔾) → is_zero p ≡ int_eq p.re (pos 0) && int_eq p.im (pos 0)
unfolding is_zero in_box
zero_is p = ap₂ ◌&&◌ (nought_only p.re) (nought_only p.im)

-- ---- the tests that were passed, of the code's words
counts : (n : ℤ) → SFits w64 n → in_steps 48 3 n ≡ between (pos 3) (pos 40) (to_z w64 (of_z w64 n))
unfolding in_steps
counts n f = ap (between (pos 3) (pos 40)) (sym (back f))

allowed : {n : ℤ} {p : Point} → SFits w64 n → true ≡ between (pos 3) (pos 40) (to_z w64 (of_z w64 n)) → true ≡ in_parts 48 (gauss p) →
    false ≡ int_eq p.x (pos 0) && int_eq p.y (pos 0) → Accepted 48 n (gauss p)
allowed {n} {p} f s q z = record { steps = counts n f ∙ sym s; parts = sym q; nonzero = zero_is (gauss p) ∙ sym z }

-- ---- the contract
pub returns-then-not-is_between : goal.returns-then-not-is_between
returns-then-not-is_between c =
    let a = c.args in
    let all = settled a.n a.p.x a.p.y (refused_steps 48 step_table reciprocal_table a.n (gauss a.p)
    (counts a.n c.ranges.n ∙ sym c.if-not-is_between.ensures)) in
    record { answer = all.0; close = all.1.0; remainder = all.1.1 }

pub returns-then-not-is_in_parts : goal.returns-then-not-is_in_parts
returns-then-not-is_in_parts c =
    let a = c.args in
    let all = settled a.n a.p.x a.p.y (refused_part 48 step_table reciprocal_table a.n (gauss a.p)
    (counts a.n c.ranges.n ∙ sym c.if-not-is_between.ensures) (sym c.if-not-is_in_parts.ensures)) in
    record { answer = all.0; close = all.1.0; remainder = all.1.1 }

pub returns-then-eq : goal.returns-then-eq
returns-then-eq c =
    let a = c.args in
    let all = settled a.n a.p.x a.p.y (refused_zero 48 step_table reciprocal_table a.n (gauss a.p)
    (counts a.n c.ranges.n ∙ sym c.if-not-is_between.ensures) (sym c.if-not-is_in_parts.ensures)
    (zero_is (gauss a.p) ∙ sym c.if-eq.ensures)) in
    record { answer = all.0; close = all.1.0; remainder = all.1.1 }

pub returns : goal.returns
returns c =
    let a = c.args in
    let h = allowed c.ranges.n c.if-not-is_between.ensures c.if-not-is_in_parts.ensures c.if-eq.ensures in
    let all = settled a.n a.p.x a.p.y (answered 48 step_table reciprocal_table a.n (gauss a.p) h
    ∙ sym (ap Ok (c.accepted.ensures ∙ ap (λ n. figures_of (nat_abs n) a.p) (back c.ranges.n)))) in
    record { answer = all.0; close = all.1.0; remainder = all.1.1 }

-- ---- the needs
pub overflow_cast-n : goal.overflow_cast-n
overflow_cast-n c =
    let h = allowed c.ranges.n c.if-not-is_between.ensures c.if-not-is_in_parts.ensures c.if-eq.ensures in
    rw (back c.ranges.n) (steps_cast 48 3 c.args.n (omega arith) h.steps)

pub accepted-requires : goal.accepted-requires
accepted-requires c =
    let h = allowed c.ranges.n c.if-not-is_between.ensures c.if-not-is_in_parts.ensures c.if-eq.ensures in
    subst (λ n. Accepted 48 n (gauss c.args.p)) ((steps_say 48 3 c.args.n h.steps).whole ∙ ap (λ n. pos (nat_abs n)) (sym (back c.ranges.n))) h
