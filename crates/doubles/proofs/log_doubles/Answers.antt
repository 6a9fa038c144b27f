-- `doubles::log_doubles` meets its contract.
use Rattle.std.proofs.Common.{◌≡◌, sym, ap, ◌∙◌, ap₂, rules, arith}
use mir.Syntax.{w64}
use mir.Val.{SFits}
use Rattle.std.specs.Prelude.{Ok}
use Rattle.word.proofs.Fits.{back}
use Rattle.logarithm.specs.Answer.{log_answer}
use Rattle.doubles.specs.Units.{double_of}
use Rattle.doubles.specs.Record.{in_doubles}
use Rattle.doubles.proofs.Kept.{Small, log_small, given}
use Rattle.doubles.proofs.log_doubles.Goals as goal
use Rattle.doubles.proofs.log_doubles.Goals.{In_ok-value}

-- LOG's answer is figures
logged : (c : In_ok-value) → log_answer c.args.n c.args.p.x c.args.p.y ≡ Ok c.in_ok-value.field-0
logged c = sym (rw (back c.ranges.n) at c.in_ok-value.ensures.answer)

-- its parts as the machine holds them
held : (c : In_ok-value) → SFits w64 c.in_ok-value.field-0.value.x × SFits w64 c.in_ok-value.field-0.value.y
held c = (search rules, search rules)

-- and they are small
small : (c : In_ok-value) → Small 48 c.in_ok-value.field-0.value
small c = log_small c.args.n c.args.p.x c.args.p.y (logged c)

-- ---- the contract, first, so that a wrong body is refused for its answer
pub returns-clause-kept : goal.returns-clause-kept
returns-clause-kept c =
    let w = (goal.at.returns-clause-kept c).In_ok-value in
    let h = held w in
    given c.args.n c.args.p.x c.args.p.y
    (ap₂ (λ p q. Ok (record { x = p; y = q })) (c.write_part.ensures ∙ ap (double_of 48) (back h.0)) (c.write_part-2.ensures ∙ ap (double_of 48) (back h.1))
    ∙ ap (in_doubles 48) (sym (logged w)))

-- ---- the needs
pub write_part-requires : goal.write_part-requires
write_part-requires c = let w = (goal.at.write_part-requires c).In_ok-value in simp (back (held w).0) (omega (arith, (small w).x))

pub write_part-requires-2 : goal.write_part-requires-2
write_part-requires-2 c = let w = (goal.at.write_part-requires-2 c).In_ok-value in simp (back (held w).1) (omega (arith, (small w).y))
