-- What an operation answers: its figures, or the refusal.
use Rattle.std.specs.Prelude.{Result}
use Rattle.answer.specs.declared.Refusal.{Refusal}
use Rattle.answer.specs.declared.Figures.{Figures}

abbrev pub Answer : Type 0
Answer = Result Figures Refusal
