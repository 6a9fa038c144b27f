-- `merge::sure_front` meets its contract: of a line that passes the serial stands before the first tab.
use mathlib.Core.Path.{◌≡◌, sym, ◌∙◌}
use borrow.Author.Rules.{rules}
use lib.IntN.{ℤ}
use lib.ListN.{length}
use Rattle.stream.specs.Machine.{lines}
use Rattle.merge.proofs.Found.{front_none}
use Rattle.merge.specs.Merge.{front}
use Rattle.merge.specs.Code.{Passes}
use Rattle.merge.specs.declared.Front.TheVariants.{Risen}
use Rattle.merge.proofs.Sure.{Sure, sure}
use Rattle.merge.proofs.sure_front.Goals as goal
use Rattle.merge.proofs.sure_front.Goals.{After-map_or}

-- what is read is the serial of the line in front
sure_here : (c : After-map_or) (last : ℤ) → Passes (front last (lines c.args.s.now)) → Sure last c.args.s.now c.read_number.result
sure_here c last h =
    let some : length c.args.s.now ≡ 0 → ⊥ = search rules in
    let is = rw c.find_byte-tab.ensures at c.read_number.ensures in
    rw is (sure c.args.s.now last some h)

pub returns-then-is_empty : goal.returns-then-is_empty
returns-then-is_empty c = λ last h. let n : length c.args.s.now ≡ 0 = search rules in sym (front_none last c.args.s.now n)

pub returns : goal.returns
returns c = λ last h.
    let s = sure_here c last h in
    let risen : c.map_or.result ≡ Risen s.serial = rw s.«read» at c.map_or.ensures in
    risen ∙ sym s.is
