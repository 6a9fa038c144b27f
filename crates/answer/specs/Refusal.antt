-- Inputs that are turned away (01, Turned away, by operation).
use Rattle.std.specs.Prelude.{Bool, true, false, ℤ, pos, Err}
use Rattle.answer.specs.declared.Refusal.{Refusal}
use Rattle.answer.specs.declared.Refusal.TheVariants.{Steps, Exponent, Part, Zero}
use Rattle.answer.specs.Answer.{Answer}

-- the number of each refusal
abbrev pub refusal_number : Refusal → ℤ
refusal_number Steps = pos 1
refusal_number Exponent = pos 2
refusal_number Part = pos 3
refusal_number Zero = pos 4

-- "Each is given when its condition holds and none earlier does": turned away with r, unless the test holds
abbrev pub unless : Bool → Refusal → Answer → Answer
unless true r a = a
unless false r a = Err r
