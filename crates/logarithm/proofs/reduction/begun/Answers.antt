-- `logarithm::reduction::begun` meets its contract: the cell that it finds is that of the definition, so the tables' promises speak of it.
use mathlib.Core.Path.{◌≡◌, sym, ◌∙◌, ap, ap₂, subst, subst₂}
use Prim.Native.Nat.{◌^◌}
use lib.Dec.{lit≤}
use lib.IntN.{ℤ}
use lib.Signed.{shr_z}
use mir.Syntax.{w64}
use mir.Val.{SFits, to_z, of_z}
use Rattle.algebra.specs.Gauss.{𝔾, ◌*ᵍ◌, negᵍ, two}
use Rattle.algebra.specs.Size.{Parts}
use Rattle.algebra.specs.Rounding.{floorᵍ}
use Rattle.word.proofs.Fits.{back, sfits_mag}
use Rattle.word.proofs.Shift.{sfits_shift}
use Rattle.point.specs.declared.Point.{Point}
use Rattle.point.specs.Point.{gauss, point}
use Rattle.table_numbers.specs.Reciprocal.{reciprocal, centre, InTable}
use Rattle.table_numbers.specs.Table.{reciprocal_table}
use Rattle.table_numbers.specs.Rows.{number}
use Rattle.table_numbers.proofs.TableLaws.{reciprocal_at_lem}
use Rattle.tables.proofs.Promises.{reciprocal_promise}
use Rattle.logarithm.specs.Reduction.{scaled, column, row, cell_x, cell_y, reciprocal_of, reduced}
use Rattle.logarithm.specs.Code.{ReducePre}
use Rattle.logarithm.proofs.Fits.{in_cell, reduce_ok, log_parts}
use Rattle.logarithm.proofs.reduction.begun.Goals as goal
use Rattle.logarithm.proofs.reduction.begun.Lts as lts
use Rattle.logarithm.proofs.reduction.begun.Reads as reads
use Rattle.logarithm.proofs.reduction.begun.Tie as tie

abbrev After-reciprocal-c : Type 0
After-reciprocal-c = lts.After-reciprocal tie.the-claims reads.Pre reads.Post tie.handed_clauses

abbrev After-reciprocal_log-l : Type 0
After-reciprocal_log-l = lts.After-reciprocal_log tie.the-claims reads.Pre reads.Post tie.handed_clauses

abbrev After-struct_told-2-1 : Type 0
After-struct_told-2-1 = lts.After-struct_told2 tie.the-claims reads.Pre reads.Post tie.handed_clauses

-- a part of the scaled point in cells, as the code has it
abbrev cells : ℤ → ℤ
cells x = to_z w64 (of_z w64 (shr_z (to_z w64 (of_z w64 x)) (2 ^ 44)))

cells_is : {x : ℤ} → SFits w64 x → cells x ≡ shr_z x (2 ^ 44)
cells_is f = ap (λ x. to_z w64 (of_z w64 (shr_z x (2 ^ 44)))) (back f) ∙ back (sfits_shift (2 ^ 44) f)

module _ (c : After-struct_told-2-1) where
  abbrev found : Point
  found = c.before.before.scaled-p.result

  abbrev p : 𝔾
  p = scaled 48 (gauss c.before.before.before.args.w)

  column_is : cells found.x ≡ column 48 p
  unfolding column
  column_is = cells_is (sfits_mag found.x c.before.struct_told-1.given.0.1) ∙ ap (λ (q : Point). shr_z q.x (2 ^ 44))
      c.before.before.scaled-p.ensures

  row_is : cells found.y ≡ row 48 p
  unfolding row
  row_is = cells_is (sfits_mag found.y c.struct_told-2-1.given.1.0.1) ∙ ap (λ (q : Point). shr_z q.y (2 ^ 44))
      c.before.before.scaled-p.ensures

  cell : InTable (cells found.x) (cells found.y)
  cell = subst₂ InTable (sym column_is) (sym row_is) (in_cell (lit≤ tt) c.before.before.before.requires)

log_is : (c : After-reciprocal_log-l) → let q = p c.before in number c.reciprocal_log-l.result ≡ reciprocal_table (cell_x 48 q) (cell_y 48 q)
log_is c = ap number c.reciprocal_log-l.ensures.value ∙ ap₂ (λ i j. reciprocal_table (centre i) (centre j)) (column_is c.before)
    (row_is c.before)

reciprocal_is : (c : After-reciprocal-c) → number c.reciprocal-c.result ≡ reciprocal_of 48 (p c.before.before)
reciprocal_is c = let b = c.before.before in ap number c.reciprocal-c.ensures ∙ reciprocal_at_lem (cell b) ∙ ap₂
    (λ i j. reciprocal (centre i) (centre j)) (column_is b) (row_is b)

pub reduced-point-requires : goal.reduced-point-requires
reduced-point-requires c =
    let s = c.before.before.before.before.before in
    subst (λ q. ReducePre 48 q c.before.reciprocal-c.result) (sym s.scaled-p.ensures)
    (reduce_ok (lit≤ tt) s.before.requires c.before.reciprocal-c.result (reciprocal_is c.before))

pub negated-sum-requires : goal.negated-sum-requires
negated-sum-requires c = let l = c.before.before in subst (λ z. Parts z (two 61)) (sym (log_is l))
    (log_parts (lit≤ tt) l.before.before.before.before.requires (lit≤ tt) reciprocal_table reciprocal_promise)

pub returns : goal.returns
unfolding reduced
returns c =
    let r = c.before in
    let b = r.before in
    let l = b.before in
    let s = l.before.before.before in
    let e = r.reduced-point.ensures ∙ ap₂ (λ (z : 𝔾) (q : Point). point (floorᵍ (z *ᵍ gauss q) 64)) (reciprocal_is b) s.scaled-p.ensures in
    let f = c.negated-sum.ensures ∙ ap (λ z. point (negᵍ z)) (log_is l) in
    λ i. record { point = e i; sum = f i }
