-- What holds of an answer that is turned away unless a test holds.
use mathlib.Core.Path.{◌≡◌, refl}
use mathlib.Core.Bool.{Bool, true, false}
use Rattle.answer.specs.declared.Refusal.{Refusal}
use Rattle.answer.specs.Answer.{Answer}
use Rattle.std.specs.Prelude.{Err}
use Rattle.answer.specs.Refusal.{unless}

-- what holds of the refusal, and of the answer where the test holds
pub unless_keeps : (P : Answer → Type 0) (b : Bool) (r : Refusal) (a : Answer) → P (Err r) → (b ≡ true → P a) → P (unless b r a)
unless_keeps P true r a h k = k refl
unless_keeps P false r a h k = h
