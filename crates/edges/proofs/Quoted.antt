-- The first line of the run that 01 quotes, as the checker computes it: 1|EXP|40|0|0|281474976710656|0 answers 281474976710656|0|0|0|0|2128
-- (02, E1: "the answer to kernel 1 in 01's run ends in 2128").
use mathlib.Core.Path.{◌≡◌, refl}
use mathlib.Core.List.{[], ◌∷◌}
use lib.IntN.{ℤ, pos}
use Rattle.algebra.specs.Gauss.{◌+ᵍ◌, negᵍ}
use Rattle.algebra.specs.Rounding.{nearest, ceiling}
use Rattle.algebra.specs.Size.{abs, larger}
use Rattle.word.specs.Compare.{between}
use Rattle.point.specs.Limits.{in_steps, in_box, in_parts}
use Rattle.point.specs.Step.{quotient, step}
use Rattle.answer.specs.Record.{record_of}
use Rattle.table_numbers.specs.Numbers48.{step_logs}
use Rattle.table_numbers.specs.Table.{step_table}
use Rattle.iteration.specs.Select.{exp_select}
use Rattle.iteration.specs.Run.{select, next, run}
use Rattle.exponential.specs.Reduction.{in_rectangle, in_reach, reduction}
use Rattle.exponential.specs.Answer.{error_bound_of, answer, exp_answer}

abbrev one : ℤ
one = pos 281474976710656

pub quoted_line : record_of (exp_answer (pos 40) (pos 0) (pos 0) one (pos 0))
    ≡ pos 0 ∷ one ∷ pos 0 ∷ pos 0 ∷ pos 0 ∷ pos 2128 ∷ pos 0 ∷ pos 0 ∷ []
unfolding record_of exp_answer answer in_steps in_reach in_rectangle reduction in_parts in_box between error_bound_of ceiling larger abs run next select exp_select step
    quotient nearest step_table step_logs ◌+ᵍ◌ negᵍ
quoted_line = refl
