-- `text::put_figures` meets its contract: the fields of each kind are the definition's.
use mathlib.Core.Path.{◌≡◌, refl}
use mathlib.Core.List.{List}
use Prim.Native.Nat.{ℕ}
use lib.IntN.{ℤ}
use mir.Syntax.{w64}
use mir.Val.{SFits}
use borrow.Author.Rules.{rules}
use Rattle.word.proofs.Fits.{back}
use Rattle.buffer.specs.Lines.{line_bytes}
use Rattle.buffer.proofs.Fitting.{Fitted}
use Rattle.answer.specs.Record.{record_of}
use Rattle.text.proofs.Call.{replied}
use Rattle.text.proofs.put_figures.Goals as goal

-- a line that was put is that of a serial and fields which equal its own
put_as : (b b' word : List ℕ) (serial serial' : ℤ) (zs zs' : List ℤ) (end : ℕ) → Fitted b 0 (line_bytes serial word zs) b' end →
    serial ≡ serial' → zs ≡ zs' → Fitted b 0 (line_bytes serial' word zs') b' end
put_as b b' word serial serial' zs zs' end p s z = rw (s, z) at p

pub returns-in-Exp : goal.returns-in-Exp
unfolding record_of
returns-in-Exp c =
    let f = c.args.f in
    let p = c.put_line.ensures in
    let x : SFits w64 f.value.x = search rules in
    let y : SFits w64 f.value.y = search rules in
    let left_x : SFits w64 f.remainder.x = search rules in
    let left_y : SFits w64 f.remainder.y = search rules in
    let k : SFits w64 f.binary_exponent = search rules in
    let bound : SFits w64 f.error_bound = search rules in
    rw c.in-Exp.is (replied refl (put_as _ _ _ _ _ _ _ _ (p.count, p.bytes) (back c.ranges.serial)
    (simp (back, c.ranges.n, x, y, left_x, left_y, k, bound))))

pub returns-in-Log : goal.returns-in-Log
unfolding record_of
returns-in-Log c =
    let f = c.args.f in
    let p = c.put_line-in-Log.ensures in
    let x : SFits w64 f.value.x = search rules in
    let y : SFits w64 f.value.y = search rules in
    let left_x : SFits w64 f.remainder.x = search rules in
    let left_y : SFits w64 f.remainder.y = search rules in
    let k : SFits w64 f.binary_exponent = search rules in
    let q : SFits w64 f.quadrant = search rules in
    let bound : SFits w64 f.error_bound = search rules in
    rw c.in-Log.is (replied refl (put_as _ _ _ _ _ _ _ _ (p.count, p.bytes) (back c.ranges.serial)
    (simp (back, c.ranges.n, x, y, left_x, left_y, k, q, bound))))
