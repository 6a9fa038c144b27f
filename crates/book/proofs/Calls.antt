-- One call: what an answered one costs at least, what each case gives, and what holds of every one.
use mathlib.Core.Path.{◌≡◌, refl, sym, subst}
use mathlib.Core.Bool.{true, false}
use mathlib.Core.List.{[], ◌∷◌}
use native.Mathlib.Omega.{arith}
use lib.IntN.{ℤ, pos, negsuc, ◌-ℤ◌}
use lib.Signed.{lt_z}
use mir.Syntax.{w64}
use mir.Val.{SFits}
use Rattle.algebra.specs.Gauss.{gi}
use Rattle.algebra.specs.Order.{◌⩽◌}
use Rattle.algebra.proofs.Test.{either}
use Rattle.algebra.proofs.Reify.{reify}
use Rattle.algebra.proofs.Order.{pos_inj_le}
use Rattle.algebra.proofs.Linear.{lin, ◌&◌, none}
use Rattle.word.proofs.Compare.{lt_z_false, between_true}
use Rattle.point.specs.Limits.{in_steps}
use Rattle.answer.specs.declared.Figures.{Figures}
use Rattle.answer.specs.declared.Refusal.{Refusal}
use Rattle.std.specs.Prelude.{Option, Some, None, Ok, Err, IfOk}
use Rattle.answer.specs.Answer.{Answer}
use Rattle.table_numbers.specs.Numbers48.{constants48}
use Rattle.table_numbers.specs.Table.{step_table, reciprocal_table}
use Rattle.exponential.specs.Answer.{exp_answer}
use Rattle.exponential.proofs.Close.{answer_keeps as exp-keeps}
use Rattle.logarithm.specs.Answer.{log_answer}
use Rattle.logarithm.proofs.Close.{answer_keeps as log-keeps}
use Rattle.book.specs.declared.Book.{Book}
use Rattle.book.specs.declared.Institute.{Institute}
use Rattle.book.specs.declared.Rejection.TheVariants.{Refused, Denied}
use Rattle.book.specs.declared.Settled.{Settled}
use Rattle.book.specs.Code.{Payable}
use Rattle.book.specs.Book.{balance, charged}
use Rattle.book.specs.Call.{Operation, Exp, Log, Call, caller_of, answer_to, cost, settled, paid, charge, outcome_for, outcome, OfAnswer}

-- ---- an answered call costs a step at least
abbrev CostOf : ℤ → Answer → Type 0
CostOf c (Ok f) = pos 1 ⩽ c
CostOf c (Err r) = Unit {0}

cost_of : (o : Operation) → CostOf (cost o) (answer_to o)
unfolding exp_answer log_answer in_steps
cost_of (Exp n ex ey sx sy) = exp-keeps 48 step_table constants48 n (gi ex ey) (gi sx sy) (CostOf n) (λ r. tt) (λ a. (between_true a.steps).0)
cost_of (Log n x y) = log-keeps 48 step_table reciprocal_table n (gi x y) (CostOf (n -ℤ pos 2)) (λ r. tt)
    (λ a. lin (n ∷ []) ((between_true a.steps).0 & none) (search reify depth 20) tt)

pub costs : (o : Operation) {f : Figures} → answer_to o ≡ Ok f → pos 1 ⩽ cost o
costs o e = subst (CostOf (cost o)) e (cost_of o)

-- ---- what is left of a number that covers another fits where the number does
pub left_fits : {b c : ℤ} → SFits w64 b → pos 0 ⩽ c → c ⩽ b → SFits w64 (b -ℤ c)
left_fits {b} {c} f h k = below (b -ℤ c) b f
    (lin (b ∷ c ∷ []) (k & none) (search reify depth 20) tt)
    (lin (b ∷ c ∷ []) (h & none) (search reify depth 20) tt)
  where
    below : (x b : ℤ) → SFits w64 b → pos 0 ⩽ x → x ⩽ b → SFits w64 x
    below (pos m) (pos n) f h k = record { sfits = omega (arith, f.sfits, pos_inj_le k) }
    below (pos m) (negsuc n) f h k = absurd k.le
    below (negsuc m) b f h k = absurd h.le

-- so an answered call's cost, the steps less some that are skipped, can be worked out
pub payable : (o : Operation) (n skipped : ℤ) → SFits w64 n → pos 0 ⩽ skipped → n -ℤ skipped ≡ cost o → {a : Answer} → a ≡ answer_to o →
    IfOk a (λ f. Payable (n -ℤ skipped))
payable o n skipped fits h e {a} is = go a is
  where
    go : (a : Answer) → a ≡ answer_to o → IfOk a (λ f. Payable (n -ℤ skipped))
    go (Err r) is = tt
    go (Ok f) is =
        let least : pos 1 ⩽ n -ℤ skipped = rw e (costs o (sym is)) in record {
          fits = left_fits fits h (lin (n ∷ skipped ∷ []) (least & none) (search reify depth 20) tt);
          least = lin (n ∷ skipped ∷ []) (least & none) (search reify depth 20) tt;
        }

-- ---- what is paid and the outcome by their cases, as the code has them
module _ (who : Institute) (n : ℤ) (f : Figures) (b : Book) where
  pub short : lt_z (balance who b) n ≡ true → settled (Err Denied) b ≡ paid who n f b
  unfolding paid
  short e = rw e

  pub covered : lt_z (balance who b) n ≡ false → settled (Ok f) (charged who n b) ≡ paid who n f b
  unfolding paid
  covered e = rw e

module _ (k : ℤ) (o : Operation) (b : Book) where
  abbrev asked : Call
  asked = record { caller = k; operation = o }

  pub denied : caller_of k ≡ None → settled (Err Denied) b ≡ outcome asked b
  unfolding outcome
  denied e = rw e

  pub called : {who : Institute} → caller_of k ≡ Some who → charge who (cost o) (answer_to o) b ≡ outcome asked b
  unfolding outcome
  called e = rw e

-- ---- what holds of a call that is refused, denied or paid for holds of every call by an institute
pub charge_keeps : (P : Settled → Type 0) (p : Institute) (o : Operation) (b : Book) →
    ((r : Refusal) → answer_to o ≡ Err r → P (settled (Err (Refused r)) b)) →
    P (settled (Err Denied) b) →
    ((f : Figures) → answer_to o ≡ Ok f → cost o ⩽ balance p b → P (settled (Ok f) (charged p (cost o) b))) →
    P (charge p (cost o) (answer_to o) b)
unfolding paid
charge_keeps P p o b free short paying = go (answer_to o) refl
  where
    go : (a : Answer) → answer_to o ≡ a → P (charge p (cost o) a b)
    go (Err r) e = free r e
    go (Ok f) e = either (lt_z (balance p b) (cost o)) (λ t. rw t short) (λ t. rw t (paying f e (lt_z_false t)))

-- a reply gives just what EXP or LOG answers, or nothing
pub reply_says : (P : Answer → Type 0) (c : Call) (b : Book) → P (answer_to c.operation) → OfAnswer P (outcome c b).reply
unfolding outcome
reply_says P c b h = go (caller_of c.caller) c.operation h
  where
    go : (k : Option Institute) (o : Operation) → P (answer_to o) → OfAnswer P (outcome_for k o b).reply
    go None o h = tt
    go (Some who) o h = charge_keeps (λ s. OfAnswer P s.reply) who o b (λ r e. subst P e h) tt (λ f e l. subst P e h)

-- so what equals the outcome meets the three clauses of the call
pub meets : (c : Call) (b : Book) (P Q : Answer → Type 0) → P (answer_to c.operation) → Q (answer_to c.operation) →
    {s : Settled} → s ≡ outcome c b → (s ≡ outcome c b) × (OfAnswer P s.reply × OfAnswer Q s.reply)
meets c b P Q p q e = (
  e,
  (subst (λ s. OfAnswer P s.reply) (sym e) (reply_says P c b p), subst (λ s. OfAnswer Q s.reply) (sym e) (reply_says Q c b q)),
)
