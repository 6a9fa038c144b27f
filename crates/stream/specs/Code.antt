-- Only private contracts cite this: what the answer to one line leaves in the buffer.
use Rattle.std.specs.Prelude.{◌≡◌, List, ℕ}
use Rattle.buffer.specs.Code.{Front}
use Rattle.stream.specs.declared.State.{State}
use Rattle.stream.specs.declared.Answered.{Answered}
use Rattle.stream.specs.Machine.{Outcome}

pub record Wrote (o : Outcome State) (b b' : List ℕ) (a : Answered) : Type 0 where
  pub bytes : Front o.bytes b b' a.written
  pub state : a.state ≡ o.state
