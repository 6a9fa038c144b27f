-- `exponential::reduction::brought_back` meets its contract.
use mathlib.Core.Path.{◌≡◌, ◌∙◌, ap}
use Prim.Native.Nat.{ℕ, ◌%◌}
use lib.IntN.{ℤ, pos, ◌+ℤ◌}
use mir.Syntax.{w64}
use mir.Val.{SFits}
use Rattle.algebra.specs.Gauss.{gi, ◌*ᵍ◌}
use Rattle.algebra.specs.Rounding.{nearest}
use Rattle.algebra.proofs.Parts.{parts_weaken}
use Rattle.word.proofs.Fits.{back, sfits_size}
use Rattle.point.specs.Point.{gauss, point}
use Rattle.table_numbers.specs.Numbers48.{constants48}
use Rattle.exponential.specs.Reduction.{factor, eighths, doublings}
use Rattle.exponential.proofs.Reduced.{eight_digit}
use Rattle.exponential.proofs.Back.{turns_pre, TurnedFits, turned_fits, turned_is, factor_is, LeftFits, left_fits}
use Rattle.exponential.proofs.reduction.brought_back.Goals as goal
use Rattle.exponential.proofs.reduction.brought_back.Goals.{After-nearest-k, After-nearest-p, Start}

-- ---- the exponent's parts
module _ (s : Start) where
  abbrev x : ℤ
  x = s.args.exponent.x

  abbrev y : ℤ
  y = s.args.exponent.y

  x_fits : SFits w64 x
  x_fits = sfits_size s.requires.exponent_parts.re tt

  y_fits : SFits w64 y
  y_fits = sfits_size s.requires.exponent_parts.im tt

-- ---- p and k, 16 more than they are
abbrev p_of : After-nearest-p → ℕ
p_of c = c.nearest-p.result

p_is : (c : After-nearest-p) → let s = c.before.before.before in
    pos (p_of c) ≡ eighths constants48 (gi (x s) (y s)) +ℤ pos 16
unfolding eighths constants48
p_is c = let s = c.before.before.before in rw (back (y_fits s)) at c.nearest-p.ensures

turned_facts : (c : After-nearest-p) → TurnedFits (x c.before.before.before) (p_of c)
turned_facts c = let s = c.before.before.before in turned_fits (x s) (y s) s.requires.exponent_parts (p_of c) (p_is c)

k_is : (c : After-nearest-k) → let s = c.before.before.before.before in
    pos c.nearest-k.result ≡ doublings constants48 (gi (x s) (y s)) +ℤ pos 16
unfolding doublings constants48
k_is c =
    let s = c.before.before.before.before in
    let f = turned_facts c.before in
    (simp (back, x_fits s, f.bit, f.half, f.left) at c.nearest-k.ensures)
    ∙ ap (λ t. nearest t 195103586505167 +ℤ pos 16) (turned_is (x s) (y s) s.requires.exponent_parts (p_of c.before) (p_is c.before))

pub nearest-p-requires : goal.nearest-p-requires
nearest-p-requires c = let s = c.before.before in rw (back (y_fits s)) (turns_pre (x s) (y s) s.requires.exponent_parts)

pub overflow_mul-turned : goal.overflow_mul-turned
overflow_mul-turned c = let f = turned_facts c in rw f.bit f.half

pub overflow_sub-turned : goal.overflow_sub-turned
overflow_sub-turned c = let s = c.before.before.before in let f = turned_facts c in simp (back, x_fits s, f.bit, f.half) f.left

pub nearest-k-requires : goal.nearest-k-requires
nearest-k-requires c = let s = c.before.before.before in let f = turned_facts c in
    simp (back, x_fits s, f.bit, f.half, f.left) f.next

left : (c : After-nearest-k) → let s = c.before.before.before.before in
    LeftFits (x s) (y s) s.requires.exponent_parts (p_of c.before) (p_is c.before) c.nearest-k.result (k_is c)
left c = let s = c.before.before.before.before in
    left_fits (x s) (y s) s.requires.exponent_parts (p_of c.before) (p_is c.before) c.nearest-k.result (k_is c)

pub overflow_cast-turns : goal.overflow_cast-turns
overflow_cast-turns c = (left c).p_count.cast

pub overflow_sub-turns : goal.overflow_sub-turns
overflow_sub-turns c = let f = left c in rw f.p_count.word f.p_count.less

pub overflow_cast-doublings : goal.overflow_cast-doublings
overflow_cast-doublings c = (left c).k_count.cast

pub overflow_sub-doublings : goal.overflow_sub-doublings
overflow_sub-doublings c = let f = left c in rw f.k_count.word f.k_count.less

pub overflow_mul-left_x : goal.overflow_mul-left_x
overflow_mul-left_x c = let f = left c in simp (back, f.k_count.word, f.k_count.less) f.lost_x

pub overflow_sub-left_x : goal.overflow_sub-left_x
overflow_sub-left_x c = let s = c.before.before.before.before in let f = left c in let g = turned_facts c.before in
    simp (back, x_fits s, g.bit, g.half, g.left, f.k_count.word, f.k_count.less, f.lost_x) f.x_left

pub overflow_mul-left_y : goal.overflow_mul-left_y
overflow_mul-left_y c = let f = left c in simp (back, f.p_count.word, f.p_count.less) f.lost_y

pub overflow_sub-left_y : goal.overflow_sub-left_y
overflow_sub-left_y c = let s = c.before.before.before.before in let f = left c in
    simp (back, y_fits s, f.p_count.word, f.p_count.less, f.lost_y) f.y_left

pub times-requires : goal.times-requires
times-requires c =
    let n = c.before.before in
    record { parts = parts_weaken n.before.before.before.requires.start_parts (record { le = tt }); digit = rw c.factor.ensures (eight_digit (p_of n % 8)) }

pub returns : goal.returns
returns c =
    let a = c.before in
    let n = a.before in
    let q = n.before in
    let s = q.before.before.before in
    let f = left n in
    let g = turned_facts q in
    let turned_start : c.times.result ≡ point (gauss s.args.start *ᵍ factor (eighths constants48 (gi (x s) (y s)))) =
    c.times.ensures ∙ ap (λ d. point (gauss s.args.start *ᵍ d))
    (a.factor.ensures ∙ factor_is (x s) (y s) s.requires.exponent_parts (p_of q) (p_is q)) in
    simp (
      back,
      x_fits s,
      y_fits s,
      g.bit,
      g.half,
      g.left,
      f.p_count.word,
      f.p_count.less,
      f.k_count.word,
      f.k_count.less,
      f.lost_x,
      f.lost_y,
      f.x_left,
      f.y_left,
    )
    (λ i. record { exponent = f.point_is i; start = turned_start i; binary_exponent = f.k_left i })
