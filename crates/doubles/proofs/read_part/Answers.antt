-- `doubles::read_part` meets its contract.
use Rattle.std.proofs.Common.{T, sym, subst, lit≤}
use Rattle.word.proofs.Fits.{back, sfits_mag}
use Rattle.doubles.specs.Code.{part_in}
use Rattle.doubles.proofs.Tests.{product_number}
use Rattle.doubles.proofs.Found.{two_48, two_49, passed, cut_small, read_whole, read_other, outside_low, outside_high}
use Rattle.doubles.proofs.read_part.Goals as goal
use Rattle.doubles.proofs.read_part.Goals.{else-product-via-then-product+else-product-2, else-product-via-else-product}

-- ---- the contract, first, so that a wrong body is refused for its answer
pub returns-then-again-x : goal.returns-then-again-x
returns-then-again-x c =
    let k = c.truncating_f64_to_i64-units in
    let z = back (sfits_mag k.result k.type_inv) in
    rw z
    (sym (read_whole 48 (lit≤ tt) two_48 two_49 c.args.x c.if-product.true c.if-product-2.true k.ensures c.well_formed.0.1
    (rw z at c.write_part-again.ensures) c.if-again-x.true))

pub returns-else-again-x : goal.returns-else-again-x
returns-else-again-x c =
    let k = c.truncating_f64_to_i64-units in
    let z = back (sfits_mag k.result k.type_inv) in
    sym (read_other 48 (lit≤ tt) two_48 two_49 c.args.x c.if-product.true c.if-product-2.true k.ensures c.well_formed.0.1
    (rw z at c.write_part-again.ensures) c.if-again-x.false)

pub returns-else-product : goal.returns-else-product
unfolding part_in
returns-else-product c = elim c.else-product.branch [
  | else-product-via-then-product+else-product-2 w ↦ rw (outside_high 48 (lit≤ tt) two_48 two_49 c.args.x w.if-product-2.false)
  | else-product-via-else-product w ↦ rw (outside_low 48 (lit≤ tt) two_48 two_49 c.args.x w.if-product.false)
]

-- ---- the needs
pub truncating_f64_to_i64-units-requires : goal.truncating_f64_to_i64-units-requires
truncating_f64_to_i64-units-requires c =
    let i = passed 48 (lit≤ tt) two_48 two_49 c.args.x c.if-product.true c.if-product-2.true in
    record { lower_bound = i.low; upper_bound = i.high }

pub write_part-again-requires : goal.write_part-again-requires
write_part-again-requires c =
    let k = c.truncating_f64_to_i64-units in
    rw (back (sfits_mag k.result k.type_inv))
    (cut_small 48 (lit≤ tt) two_48 two_49 c.args.x c.if-product.true c.if-product-2.true k.ensures)

pub float_to_bits-x : goal.float_to_bits-x
float_to_bits-x c = product_number c.args.x _ _ (subst T (sym c.if-product.true) tt)
