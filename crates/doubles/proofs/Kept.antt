-- LOG's parts are below two in size, so its record loses nothing and is read back; and what is read is written back, bit for bit.
use Rattle.std.proofs.Common.{◌≡◌, ℕ, suc, ◌+◌, ◌-◌, ◌*◌, ◌^◌, ◌<◌, ◌≤◌, Bool, true, false, cond, ◌&&◌, T, ℤ, pos, nat_abs, sym, refl, ap, ◌∙◌, subst, arith, lit≤, pow_pos, pow-add}
use lib.Ieee.{binary64, fits, of_bits, to_bits}
use lib.Ieee.Bits.{of_bits-fits, to_bits-of_bits}
use Rattle.algebra.specs.Gauss.{𝔾, gi}
use Rattle.algebra.specs.Size.{Size, Parts, abs}
use Rattle.algebra.proofs.Order.{pos_inj_le}
use Rattle.algebra.proofs.Parts.{size_abs}
use Rattle.point.specs.declared.Point.{Point}
use Rattle.point.specs.Point.{gauss}
use Rattle.answer.specs.declared.Refusal.{Refusal}
use Rattle.answer.specs.declared.Figures.{Figures}
use Rattle.answer.specs.Answer.{Answer}
use Rattle.std.specs.Prelude.{Result, Ok, Err, Some, None}
use Rattle.logarithm.specs.Answer.{log_answer}
use Rattle.logarithm.proofs.Convergence.{most}
use Rattle.logarithm.proofs.Ranges.{Ranged, log_ranges}
use Rattle.doubles.specs.declared.Doubles.{Doubles}
use Rattle.doubles.specs.declared.UnitsAnswer.{UnitsAnswer}
use Rattle.doubles.specs.Units.{is_negative, double_of, is_units, units_of}
use Rattle.doubles.specs.Record.{doubles, in_doubles, doubles_record, units_in, units_record, doubles_answer, units_answer, Kept, AnswerKept, WrittenBack}
use Rattle.doubles.proofs.Value.{double_value}
use Rattle.doubles.proofs.Reading.{units_say, read_written, written_read}
use Rattle.doubles.proofs.Tests.{value_number}

-- ---- LOG's parts are below two: at most 27/16 in size
pub record Small (F : ℕ) (p : Point) : Type 0 where
  pub x : nat_abs p.x < 2 ^ suc F
  pub y : nat_abs p.y < 2 ^ suc F

below_two : (F : ℕ) → 4 ≤ F → {z : ℤ} → Size z (most F) → nat_abs z < 2 ^ suc F
unfolding abs
below_two F wide {z} s = go (nat_abs z) (2 ^ (F - 4)) (2 ^ suc F) (pos_inj_le (size_abs s)) (pow_pos (F - 4))
    (ap (λ n. 2 ^ n) split ∙ pow-add 2 5 (F - 4))
  where
    split : suc F ≡ 5 + (F - 4)
    split = omega arith

    go : (a c b : ℕ) → a ≤ 27 * c → 0 < c → b ≡ 32 * c → a < b
    go a c b h k e = omega arith

small : (F : ℕ) → 4 ≤ F → {p : Point} → Parts (gauss p) (most F) → Small F p
small F wide s = record { x = below_two F wide s.re; y = below_two F wide s.im }

pub log_small : (n x y : ℤ) {f : Figures} → log_answer n x y ≡ Ok f → Small 48 f.value
log_small n x y e = small 48 (lit≤ tt) (subst (Ranged 48 n (gi x y)) e (log_ranges n x y)).value

-- ---- NOTHING IS LOST of an answer: each double has its part's value, and the record is read back to the same two numbers
pub small_kept : (F : ℕ) (p : Point) → Small F p → Kept F p (doubles F p.x p.y)
unfolding units_answer units_in
small_kept F p s =
    let k = read_written F p.x s.x in
    let l = read_written F p.y s.y in
    record { x = double_value F p.x; y = double_value F p.y; back = rw (k.0, l.0, k.1, l.1) }

answer_kept : (F : ℕ) → 4 ≤ F → (n : ℤ) (p : 𝔾) (a : Answer) → Ranged F n p a → AnswerKept F a (doubles_answer F a)
unfolding doubles_answer
answer_kept F wide n p (Ok f) r = small_kept F f.value (small F wide r.value)
answer_kept F wide n p (Err e) r = tt

pub log_kept : (n x y : ℤ) → AnswerKept 48 (log_answer n x y) (doubles_answer 48 (log_answer n x y))
log_kept n x y = answer_kept 48 (lit≤ tt) n (gi x y) (log_answer n x y) (log_ranges n x y)

pub given : (n x y : ℤ) {r : Result Doubles Refusal} → r ≡ in_doubles 48 (log_answer n x y) → AnswerKept 48 (log_answer n x y) (doubles_record r)
unfolding doubles_answer
given n x y e = subst (AnswerKept 48 (log_answer n x y)) (sym (ap doubles_record e)) (log_kept n x y)

-- ---- WHAT IS READ is written back to the same two doubles
pub read_back : (F : ℕ) → F ≤ 52 → (d : Doubles) → T (fits binary64 d.x) → T (fits binary64 d.y) → WrittenBack F d (units_answer F d)
unfolding units_answer units_in
read_back F narrow d f g = go (is_units F d.x) (is_units F d.y) refl refl
  where
    R : Bool → Bool → UnitsAnswer
    R a b = units_record (cond (a && b) (Some (record { x = units_of F d.x; y = units_of F d.y })) None)

    refused : {A : Type 0} → ◌≡◌ {A = ℤ} (pos 9) (pos 0) → A
    refused e = let z : ◌≡◌ {A = ℕ} 9 0 = cc in absurd (omega arith)

    go : (a b : Bool) → is_units F d.x ≡ a → is_units F d.y ≡ b → WrittenBack F d (R a b)
    go true true p q e = rw (
      written_read F d.x narrow f (subst T (sym p) tt),
      written_read F d.y narrow g (subst T (sym q) tt),
    )
    go true false p q e = refused e
    go false b p q e = refused e

-- likewise of bits: every pattern of 64 that is accepted comes back
pub bits_back : (F : ℕ) → F ≤ 52 → (b : ℕ) → b < 2 ^ 64 → T (is_units F (of_bits binary64 b)) →
    to_bits binary64 (double_of F (units_of F (of_bits binary64 b))) ≡ b
bits_back F narrow b h p =
    let x = of_bits binary64 b in
    let u = units_say F x p in
    ap (to_bits binary64) (written_read F x narrow (of_bits-fits binary64 b) p)
    ∙ to_bits-of_bits binary64 b h (value_number x (is_negative (units_of F x)) (nat_abs (units_of F x)) (2 ^ F) u.value)

pub settled : (F : ℕ) → F ≤ 52 → (d : Doubles) {p : Point} → fits binary64 d.x ≡ true → fits binary64 d.y ≡ true → units_in F d ≡ Some p →
    doubles F p.x p.y ≡ d
unfolding units_answer
settled F narrow d f g e =
    subst (WrittenBack F d) (ap units_record e) (read_back F narrow d (subst T (sym f) tt) (subst T (sym g) tt)) refl
