-- The whole call, over a width F up to 48: what was begun fits the engine, and what the engine makes of it is the answer.
use mathlib.Core.Path.{◌≡◌, sym, ◌∙◌, ap, subst}
use mathlib.Core.List.{[], ◌∷◌}
use Prim.Native.Nat.{ℕ, ◌+◌, ◌-◌, ◌≤◌}
use native.Mathlib.Omega.{arith}
use lib.IntN.{ℤ, nat_abs}
use Rattle.algebra.specs.Gauss.{𝔾, gi, two}
use Rattle.algebra.specs.Size.{Parts}
use Rattle.algebra.proofs.Reify.{reify}
use Rattle.algebra.proofs.Linear.{lin, ◌&◌, none}
use Rattle.algebra.proofs.Parts.{parts_weaken}
use Rattle.algebra.proofs.Power.{two_mono}
use Rattle.point.specs.Point.{gauss}
use Rattle.answer.specs.Answer.{Answer}
use Rattle.std.specs.Prelude.{Ok, Err}
use Rattle.answer.specs.declared.Refusal.{Refusal}
use Rattle.answer.specs.declared.Figures.{Figures}
use Rattle.answer.specs.Remainder.{RemainderBelow}
use Rattle.table_numbers.specs.Promise.{StepTable, Constants}
use Rattle.table_numbers.specs.Numbers48.{constants48}
use Rattle.table_numbers.specs.Table.{step_table}
use Rattle.table_numbers.proofs.Promises.{StepPromise, ConstantsPromise}
use Rattle.table_numbers.proofs.Promise48.{constants_promise}
use Rattle.tables.proofs.Promises.{step_promise}
use Rattle.iteration.specs.Run.{run, Small}
use Rattle.exponential.specs.declared.reduction.Reduced.{Reduced}
use Rattle.exponential.specs.Reduction.{reduction}
use Rattle.exponential.specs.Answer.{begun, figures_at, beginning, exp_beginning, exp_answer, Close}
use Rattle.exponential.specs.Code.{Accepted}
use Rattle.exponential.proofs.Fits.{ReducedFits, reduced_fits}
use Rattle.exponential.proofs.Begun.{begun_says, refused_says}
use Rattle.exponential.proofs.Close.{not_refused, settled}
use Rattle.register.specs.Answer.{register_ended, register_figures, register_answer_by, register_answer}
use Rattle.register.specs.Code.{TakePre, taken}
use Rattle.register.proofs.Simulation.{same_ended, same_answer_by}
use Rattle.register.proofs.Hardware.{register_narrow}

module _ (F : ℕ) (wide : 16 ≤ F) (narrow : F ≤ 48) (t : StepTable) (table : StepPromise F (F - 8) t)
    (c : Constants) (promise : ConstantsPromise F c) (n : ℤ) (e s : 𝔾) where
  abbrev g : Reduced
  g = reduction F c e s

  fits : Accepted F n e s → TakePre F t (nat_abs n) (figures_at (nat_abs n) g (begun g))
  unfolding run
  fits p = record {
    exponent = (first.steps.small 0 (omega arith)).sum;
    fits = record { least = omega arith; most = omega (arith, few); small = small };
  }
    where
      first : ReducedFits F t (nat_abs n) g
      first = reduced_fits F wide narrow t table c promise p

      few : nat_abs n ≤ F - 8
      few = first.few

      small : (j : ℕ) → j ≤ nat_abs n - 0 → Small (register_ended F t j g)
      small j l = record {
        point = subst (λ x. Parts (gauss x.point) (two 61)) (sym (same_ended F t j g (omega (arith, few, l))))
            (first.steps.small j l).point;
        sum = parts_weaken (register_narrow F wide narrow t table c promise e s j (omega (arith, few, l)))
            (lin (two (F + 1) ∷ two 61 ∷ []) (two_mono (F + 1) 61 (omega arith) & none) (search reify depth 20) tt);
      }

  -- what was begun fits
  pub begun_fits : {f : Figures} → beginning F c n e s ≡ Ok f → TakePre F t (nat_abs n) f
  begun_fits b = let h = begun_says F c n e s b in subst (TakePre F t (nat_abs n)) (sym h.1) (fits h.0)

  -- and gives the answer
  pub begun_gives : {f : Figures} → beginning F c n e s ≡ Ok f → Ok (taken F t (nat_abs n) f) ≡ register_answer_by F t c n e s
  unfolding register_answer_by
  begun_gives b = let h = begun_says F c n e s b in
      ap (λ f. Ok (taken F t (nat_abs n) f)) h.1 ∙ sym (not_refused F n e s h.0 (Ok (register_figures F t (nat_abs n) g)))

  pub refused_gives : {x : Refusal} → beginning F c n e s ≡ Err x → Err x ≡ register_answer_by F t c n e s
  unfolding register_answer_by
  refused_gives b = sym (refused_says F c n e s b (Ok (register_figures F t (nat_abs n) g)))

-- ---- at the width 48, with no hypothesis left
module _ (n ex ey sx sy : ℤ) where
  pub begun_fits_48 : {f : Figures} → exp_beginning n ex ey sx sy ≡ Ok f → TakePre 48 step_table (nat_abs n) f
  unfolding exp_beginning
  begun_fits_48 b = begun_fits 48 (omega arith) (omega arith) step_table step_promise constants48 constants_promise n (gi ex ey) (gi sx sy) b

  -- what equals the register's answer meets the four clauses of the call
  pub meets : {x : Answer} → x ≡ register_answer n ex ey sx sy →
      (x ≡ register_answer n ex ey sx sy) × ((x ≡ exp_answer n ex ey sx sy) × (Close n ex ey sx sy x × RemainderBelow 48 n x))
  unfolding register_answer
  meets h = (h, settled n ex ey sx sy (sym (same_answer_by 48 step_table constants48 n (gi ex ey) (gi sx sy)) ∙ sym h))

  pub begun_gives_48 : {f : Figures} → exp_beginning n ex ey sx sy ≡ Ok f →
      Ok (taken 48 step_table (nat_abs n) f) ≡ register_answer n ex ey sx sy
  unfolding exp_beginning register_answer
  begun_gives_48 b = begun_gives 48 (omega arith) (omega arith) step_table step_promise constants48 constants_promise n (gi ex ey) (gi sx sy) b

  pub refused_gives_48 : {x : Refusal} → exp_beginning n ex ey sx sy ≡ Err x → Err x ≡ register_answer n ex ey sx sy
  unfolding exp_beginning register_answer
  refused_gives_48 b = refused_gives 48 (omega arith) (omega arith) step_table step_promise constants48 constants_promise n (gi ex ey) (gi sx sy) b
