-- What is proved of LOG's answer: its four cases, the ranges of its figures, convergence, that it is close and that what is left over is
-- small.
use mathlib.Core.Path.{◌≡◌, sym, ◌∙◌, ap, ap₂, subst, refl}
use mathlib.Core.Bool.{true, false, not, ◌&&◌}
use mathlib.Core.List.{[], ◌∷◌}
use mathlib.Core.Logic.{⊎_elim}
use Prim.Native.Nat.{ℕ, suc, ◌+◌, ◌-◌, ◌^◌, ◌≤◌}
use native.Mathlib.Omega.{arith}
use lib.Dec.{T, lit≤}
use borrow.Author.Tests.{not-true}
use lib.IntN.{ℤ, pos, nat_abs, ◌+ℤ◌, ◌-ℤ◌, ◌*ℤ◌, negsuc, neg_ℤ, neg_ℤ-neg_ℤ}
use Rattle.algebra.specs.Gauss.{𝔾, gi, ιᵍ, negᵍ, ◌-ᵍ◌, ◌*ᵍ◌, two, twoᵍ}
use Rattle.algebra.specs.Order.{◌⩽◌, ◌⋖◌}
use Rattle.algebra.specs.Size.{Within, Size, Parts, abs, larger}
use Rattle.algebra.proofs.Inequality.{below_next, nonneg, one_mul}
use Rattle.algebra.proofs.Gauss.{𝔾R}
use Rattle.algebra.proofs.Reify.{ring!, reify, reifyᵍ}
use Rattle.algebra.proofs.Order.{le_or_gt, pos_mono, ⩽_refl, nonneg_mul, nonneg_pos, sub_nonneg}
use Rattle.algebra.proofs.Linear.{lin, lin<, ◌&◌, ◌&≡◌, none}
use Rattle.algebra.proofs.Power.{two≥1, two_mul_le, two_pos, two_mono}
use Rattle.algebra.proofs.Within.{within_mul, within_neg, within_weaken}
use Rattle.algebra.proofs.Parts.{size_abs, parts_abs, within_parts, abs_size, abs_scaled, size_neg, size_sign, scaled_re, scaled_im}
use Rattle.algebra.proofs.Larger.{larger_parts, larger_le}
use Rattle.word.specs.Compare.{between}
use Rattle.word.proofs.Compare.{is_between}
use Rattle.series.specs.Series.{Dᶻ, Sᵍ}
use Rattle.series.proofs.Series.{D-pos}
use Rattle.point.specs.Limits.{in_steps, in_box, in_parts}
use Rattle.point.specs.Point.{gauss}
use Rattle.point.proofs.InLimits.{Counts, steps_say, parts_say}
use Rattle.answer.specs.declared.Figures.{Figures}
use Rattle.answer.specs.declared.Refusal.{Refusal}
use Rattle.answer.specs.declared.Refusal.TheVariants.{Steps, Part, Zero}
use Rattle.answer.specs.Answer.{Answer}
use Rattle.std.specs.Prelude.{Ok, Err}
use Rattle.answer.specs.Remainder.{PartsBelow, RemainderBelow}
use Rattle.answer.proofs.Tests.{unless_keeps}
use Rattle.answer.proofs.Remainder.{part_below}
use Rattle.table_numbers.specs.Promise.{StepTable, ReciprocalTable}
use Rattle.table_numbers.specs.Table.{step_table, reciprocal_table}
use Rattle.table_numbers.proofs.Promises.{StepPromise, ReciprocalPromise}
use Rattle.tables.proofs.Promises.{step_promise, reciprocal_promise}
use Rattle.iteration.specs.Select.{half}
use Rattle.iteration.proofs.Drift.{Short}
use Rattle.logarithm.specs.Reduction.{quadrant, turned, bit_length, binary_exponent_of, scaled, reduced}
use Rattle.logarithm.specs.Answer.{i^, power, begun, ended, is_zero, figures, answer, log_answer, miss, CloseAt, Close, two_to}
use Rattle.logarithm.specs.Code.{Cone, Accepted}
use Rattle.logarithm.proofs.Quadrant.{point_is, within_i, cone_pos, turned_cone, turned_re}
use Rattle.logarithm.proofs.Scale.{length_pos, length_le, scaled_ranges, power_is}
use Rattle.logarithm.proofs.Cell.{reduced_near}
use Rattle.logarithm.proofs.Convergence.{sum_size, Converging, converges, converges_times, most, log_short, begun_converging, begun_entry}
use Rattle.logarithm.proofs.Error.{turned_error}

-- ---- the zero point: M is nought at nought alone
nought : (x b : ℤ) → Size x b → b +ℤ pos 1 ⩽ pos 1 → between (pos 0) (pos 0) x ≡ true
nought x b s h = is_between (lin (x ∷ b ∷ []) (s.lo & h & none) (search reify depth 20) tt)
    (lin (x ∷ b ∷ []) (s.hi & h & none) (search reify depth 20) tt)

pub zero_says : (p : 𝔾) → is_zero p ≡ false → pos 1 ⩽ larger p
unfolding is_zero in_box
zero_says p e = ⊎_elim (λ h. h) (λ h. absurd (subst T (sym (zero h) ∙ e) tt)) (le_or_gt (pos 1) (larger p))
  where
    zero : larger p +ℤ pos 1 ⩽ pos 1 → between (pos 0) (pos 0) p.re && between (pos 0) (pos 0) p.im ≡ true
    zero h = rw (nought p.re (larger p) (larger_parts p).re h, nought p.im (larger p) (larger_parts p).im h)

-- ---- when each answer is given
module _ (F : ℕ) (steps : StepTable) (logs : ReciprocalTable) (n : ℤ) (p : 𝔾) where
  pub refused_steps : in_steps F 3 n ≡ false → answer F steps logs n p ≡ Err Steps
  unfolding answer
  refused_steps a = rw a

  pub refused_part : in_steps F 3 n ≡ true → in_parts F p ≡ false → answer F steps logs n p ≡ Err Part
  unfolding answer
  refused_part a b = rw (a, b)

  pub refused_zero : in_steps F 3 n ≡ true → in_parts F p ≡ true → is_zero p ≡ true → answer F steps logs n p ≡ Err Zero
  unfolding answer
  refused_zero a b c = rw (a, b, c)

  pub answered : Accepted F n p → answer F steps logs n p ≡ Ok (figures F steps logs (nat_abs n) p)
  unfolding answer
  answered a = rw (a.steps, a.parts, a.nonzero)

  -- what holds of every refusal, and of the figures where none is met, holds of the answer
  pub answer_keeps : (P : Answer → Type 0) → ((r : Refusal) → P (Err r)) →
      (Accepted F n p → P (Ok (figures F steps logs (nat_abs n) p))) → P (answer F steps logs n p)
  unfolding answer
  answer_keeps P refused given =
      unless_keeps P (in_steps F 3 n) Steps _ (refused Steps)
      (λ a. unless_keeps P (in_parts F p) Part _ (refused Part)
      (λ b. unless_keeps P (not (is_zero p)) Zero _ (refused Zero)
      (λ c. given (record { steps = a; parts = b; nonzero = not-true _ c }))))

-- ---- of an accepted point
module _ (F : ℕ) (wide : 11 ≤ F) {n : ℤ} {p : 𝔾} (a : Accepted F n p) where
  abbrev N : ℕ
  N = nat_abs n

  abbrev w : 𝔾
  w = turned p

  count : Counts F 3 n
  count = steps_say F 3 n a.steps

  fits : nat_abs n + 8 ≤ F
  fits = omega (arith, count.at_most)

  pub cone : Cone (turned p)
  cone = turned_cone p (zero_says p a.nonzero)

  -- M is the turned point's real part
  pub M-is : (turned p).re ≡ larger p
  M-is = turned_re p cone

  -- "k runs from −47 to 11"
  pub k_low : pos 1 -ℤ pos F ⩽ binary_exponent_of F (turned p)
  unfolding binary_exponent_of
  k_low = lin (pos F ∷ pos (bit_length w) ∷ []) (pos_mono (length_pos w (cone_pos cone)) & none) (search reify depth 20) tt

  pub k_high : binary_exponent_of F (turned p) ⩽ pos 11
  unfolding binary_exponent_of
  k_high = lin (pos F ∷ pos (bit_length w) ∷ []) (pos_mono (length_le w (F + 10) (cone_pos cone) small) & none) (search reify depth 20) tt
    where
      small : (turned p).re ⩽ two (F + 10)
      small = subst (λ x. x ⩽ two (F + 10)) (sym M-is) (larger_le (parts_say F p a.parts))

  -- "it then lies within 7/64 of one in each part"
  pub begun_near : Parts (ιᵍ (pos 64) *ᵍ (reduced F (scaled F (turned p)) -ᵍ twoᵍ F)) (pos 7 *ℤ two F)
  begun_near = reduced_near F (omega arith) (scaled F w) (scaled_ranges F (omega arith) w cone)

  module _ (steps : StepTable) (logs : ReciprocalTable) where
    start : Converging F 2 (begun F logs w)
    start = begun_converging F (omega arith) logs w cone

    -- "Before each step n from 4 on, and after the last step with n = N + 1, each part of 2^n·u is at most 3/2 in size", twice
    pub converging : (j : ℕ) → 4 ≤ j → j ≤ nat_abs n + 1 →
        Parts (ιᵍ (pos 2 *ℤ two j) *ᵍ (gauss (ended F steps logs (j - 1) (turned p)).point -ᵍ twoᵍ F)) (pos 3 *ℤ two F)
    converging j lo hi = subst (λ i. Parts (ιᵍ (pos 2 *ℤ two i) *ᵍ (gauss (ended F steps logs (j - 1) w).point -ᵍ twoᵍ F))
        (pos 3 *ℤ two F)) before
        (converges_times F steps (begun F logs w) start (j - 1) (omega arith) (omega (arith, fits)))
      where
        before : suc (j - 1) ≡ j
        before = omega arith

    -- 02, E7: "every remainder part is below 1/2^N in size": 3/2 of 1/2^(N + 1) is
    pub left_below : PartsBelow F (nat_abs n) (figures F steps logs (nat_abs n) p).remainder
    unfolding ιᵍ
    left_below = let u = converges F steps (begun F logs w) start N count.at_least fits in
        record { x = below u.re; y = below u.im }
      where
        below : {x : ℤ} → Size x (pos 3 *ℤ half F (suc N)) → abs x *ℤ two N ⋖ two F
        below {x} h = part_below F N (omega (arith, fits)) {a = abs x} (lin< (abs x ∷ two (F - N) ∷ half F (suc N) ∷ [])
            (size_abs h & two_mul_le 2 (F - suc (suc N)) (F - N) (omega (arith, fits)) & two≥1 (F - suc (suc N)) & none)
            (search reify depth 20) tt)

    -- the size of the seat's logarithm
    pub begun_short : ReciprocalPromise F logs → Short F (most F) 2 (gauss (begun F logs (turned p)).sum)
    begun_short reciprocals = within_neg (log_short F (omega arith) (begun_entry F (omega arith) logs w cone reciprocals))

    module _ (narrow : F ≤ 48) (entries : StepPromise F (F - 8) steps) (reciprocals : ReciprocalPromise F logs) where
      -- the answer's length: at most 27/16
      pub answer_within : Within (gauss (ended F steps logs (nat_abs n) (turned p)).sum) (most F)
      answer_within = sum_size F (F - 8) (omega arith) steps entries (begun F logs w) (begun_short reciprocals)
          N (N - 2) (omega (arith, count.at_least)) count.at_most

      -- demand 3: from the turned point back to the given one, with 2^(F+k) for the length of wx in bits
      module _ (T : ℕ) (enough : 24 ≤ T) where
        abbrev P : ℤ
        P = Dᶻ (2 ^ F) T

        abbrev q : 𝔾
        q = i^ (quadrant p)

        turn_back : (Z : ℤ) (z : 𝔾) → negᵍ (q *ᵍ (ιᵍ Z *ᵍ (w *ᵍ ιᵍ P -ᵍ ιᵍ (two (bit_length w)) *ᵍ z))) ≡ ιᵍ Z *ᵍ
            (ιᵍ (power F (binary_exponent_of F w)) *ᵍ q *ᵍ z -ᵍ p *ᵍ ιᵍ P)
        turn_back Z z = ring! 𝔾R (q ∷ ιᵍ Z ∷ w ∷ ιᵍ P ∷ ιᵍ (two (bit_length w)) ∷ z ∷ []) (search reifyᵍ depth 20) tt
            ∙ ap₂ (λ h x. ιᵍ Z *ᵍ (ιᵍ h *ᵍ q *ᵍ z -ᵍ x *ᵍ ιᵍ P)) (sym (power_is F w)) (point_is p)

        pub close_at : CloseAt F (nat_abs n) T p (figures F steps logs (nat_abs n) p)
        close_at = let g = parts_abs (two N) (miss F T p (figures F steps logs N p)) off in record { re = g.0; im = g.1 }
          where
            off : Parts (twoᵍ N *ᵍ miss F T p (figures F steps logs N p)) (pos 3 *ℤ larger p *ℤ P)
            off = within_parts (subst (λ z. Within z (pos 3 *ℤ larger p *ℤ P)) (turn_back (two N) _)
                (within_weaken (within_neg (within_mul (within_i p)
                (turned_error F narrow (F - 8) steps logs entries reciprocals T enough N count.at_least fits count.at_most w cone)))
                (lin (w.re ∷ larger p ∷ P ∷ []) (ap (λ x. x *ℤ P) M-is &≡ none) (search reify depth 20) tt)))

-- ---- no answer is close whose k is below −F, where there is no 2^(F+k): nought is further off the point than 3M/2^N
-- each part of P·p, of which m is the opposite
opposite_re : (P : ℤ) (p : 𝔾) {m : 𝔾} → m ≡ negᵍ (ιᵍ P *ᵍ p) → Size (P *ℤ p.re) (abs m.re)
unfolding negᵍ
opposite_re P p {m} e = subst (λ t. Size t (abs m.re)) (ap (λ z. neg_ℤ z.re) e ∙ neg_ℤ-neg_ℤ _ ∙ scaled_re P p)
    (size_neg (abs_size (⩽_refl (abs m.re))))

opposite_im : (P : ℤ) (p : 𝔾) {m : 𝔾} → m ≡ negᵍ (ιᵍ P *ᵍ p) → Size (P *ℤ p.im) (abs m.im)
unfolding negᵍ
opposite_im P p {m} e = subst (λ t. Size t (abs m.im)) (ap (λ z. neg_ℤ z.im) e ∙ neg_ℤ-neg_ℤ _ ∙ scaled_im P p)
    (size_neg (abs_size (⩽_refl (abs m.im))))

pub close_whole : {F N T : ℕ} (p : 𝔾) (f : Figures) → 2 ≤ N → pos 1 ⩽ larger p → CloseAt F N T p f →
    pos 0 ⩽ pos F +ℤ f.binary_exponent
close_whole {F} {N} {T} p f many M≥1 close = go (pos F +ℤ f.binary_exponent) refl
  where
    P : ℤ
    P = Dᶻ (2 ^ F) T

    P≥1 : pos 1 ⩽ P
    P≥1 = pos_mono (D-pos (2 ^ F) (two_pos F) T)

    smaller : (x : ℤ) {a : ℤ} → Size (P *ℤ x) a → a *ℤ two N ⩽ pos 3 *ℤ larger p *ℤ P → Size x (larger p -ℤ pos 1)
    smaller x {a} h g = abs_size (below_next (pos 4 *ℤ P) (one_mul {a = pos 4} (record { le = tt }) P≥1)
        (lin (abs x ∷ a ∷ P ∷ larger p ∷ two N ∷ [])
        (abs_scaled P x h & g & nonneg_mul (size_sign h) (sub_nonneg (two_mono 2 N many)) & nonneg_mul (sub_nonneg M≥1) (nonneg P≥1) & P≥1
        & none)
        (search reify depth 20) tt))

    go : (b : ℤ) → pos F +ℤ f.binary_exponent ≡ b → pos 0 ⩽ b
    go (pos b) e = nonneg_pos b
    go (negsuc b) e = absurd less_than_itself.le
      where
        nothing : miss F T p f ≡ negᵍ (ιᵍ P *ᵍ p)
        nothing = ap (λ h. ιᵍ (two_to h) *ᵍ i^ f.quadrant *ᵍ Sᵍ (2 ^ F) T (gauss f.value) -ᵍ p *ᵍ ιᵍ P) e
            ∙ ring! 𝔾R (i^ f.quadrant ∷ Sᵍ (2 ^ F) T (gauss f.value) ∷ p ∷ ιᵍ P ∷ []) (search reifyᵍ depth 20) tt

        less_than_itself : pos 1 ⩽ pos 0
        less_than_itself = lin (larger p ∷ []) (larger_le (record {
          re = smaller p.re (opposite_re P p nothing) close.re;
          im = smaller p.im (opposite_im P p nothing) close.im;
        }) & none) (search reify depth 20) tt

-- ---- at the width 48: THE ANSWER IS CLOSE, for all inputs
pub log_close : (n x y : ℤ) → Close n x y (log_answer n x y)
unfolding log_answer
log_close n x y = answer_keeps 48 step_table reciprocal_table n (gi x y) (Close n x y) (λ r. tt)
    (λ a. close_at 48 (lit≤ tt) a step_table reciprocal_table (lit≤ tt) step_promise reciprocal_promise)

-- WHAT IS LEFT OVER IS SMALL, likewise
pub log_remainder : (n x y : ℤ) → RemainderBelow 48 n (log_answer n x y)
unfolding log_answer
log_remainder n x y = answer_keeps 48 step_table reciprocal_table n (gi x y) (RemainderBelow 48 n) (λ r. tt)
    (λ a. left_below 48 (lit≤ tt) a step_table reciprocal_table)

-- so what equals it meets the three clauses of the call
pub settled : (n x y : ℤ) {r : Answer} → answer 48 step_table reciprocal_table n (gi x y) ≡ r →
    (r ≡ log_answer n x y) × (Close n x y r × RemainderBelow 48 n r)
unfolding log_answer
settled n x y p = (
  sym p,
  (subst (λ a. Close n x y a) p (log_close n x y), subst (RemainderBelow 48 n) p (log_remainder n x y)),
)
