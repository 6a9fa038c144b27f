-- `stream::answer_ended` meets its contract: the machine at the line where it lies, or at the line put together.
use mathlib.Core.Path.{ap, ◌∙◌}
use Rattle.stream.specs.declared.State.{State}
use Rattle.stream.specs.Machine.{Place, go_on, line_end}
use Rattle.stream.specs.Sheet.{machine, place_of}
use Rattle.stream.proofs.Pieces.{told}
use Rattle.stream.proofs.answer_ended.Goals as goal

pub returns : goal.returns
returns c =
    let p = go_on (place_of c.args.place) c.args.more.now in
    let same = ap (λ (q : Place State). line_end machine q) c.extended.ensures ∙ told p.state p.begun in
    rw same at c.answer_begun.ensures
