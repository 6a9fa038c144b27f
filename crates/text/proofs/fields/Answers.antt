-- `text::fields` meets its contract: so many numbers, or none.
use Rattle.std.specs.Prelude.{Some, None}
use Rattle.std.specs.Bool.{then_some}
use mathlib.Core.Path.{◌≡◌, refl, sym, ◌∙◌}
use mathlib.Core.Bool.{Bool, cond, true, false}
use mathlib.Core.List.{List}
use lib.IntN.{ℤ, pos}
use lib.ListN.{length-replicate}
use Rattle.scan.proofs.Numbers.{numbers_read}
use Rattle.text.proofs.fields.Goals as goal

if_there : (b : Bool) (zs : List ℤ) → then_some b zs ≡ cond b (Some zs) None
if_there true zs = refl
if_there false zs = refl

pub returns : goal.returns
returns g c =
    let e = c.read_numbers.ensures in
    c.then_some.ensures ∙ (if_there c.read_numbers.result _ ∙ sym (rw (length-replicate g.row.N (pos 0)) at (numbers_read _ _ (e.value, e.into))))
