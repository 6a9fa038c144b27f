-- Parts joined by a mark are split into the same parts, where none of them has the mark; and a written number has neither tab nor newline.
use Rattle.std.proofs.Common.{◌≡◌, ℕ, suc, ◌+◌, ◌%◌, ◌<◌, Bool, true, false, cond, T, eqb, List, [], ◌∷◌, ◌++◌, map, ℤ, pos, negsuc, refl, ap, ◌∙◌, append_assoc, append-nil, arith, eq-eqb, ne_eqb}
use borrow.Author.Tests.{eqb-false}
use Rattle.algebra.proofs.Test.{either}
use Rattle.buffer.specs.Decimal.{show_natural, show_number}
use Rattle.buffer.proofs.Written.{digits_ind}
use Rattle.scan.specs.Fields.{split}
use Rattle.scan.proofs.Find.{Without}

-- ---- joining
-- each part behind a mark
unfoldable pub marked : ℕ → List (List ℕ) → List ℕ
marked m [] = []
marked m (p ∷ ps) = m ∷ p ++ marked m ps

-- no part has the mark
abbrev pub AllWithout : ℕ → List (List ℕ) → Type 0
AllWithout m [] = Unit {0}
AllWithout m (p ∷ ps) = Without m p × AllWithout m ps

-- behind q, which was already read of the first part
split_marked : (m : ℕ) (ps : List (List ℕ)) (p q : List ℕ) → Without m p → AllWithout m ps → split m q (p ++ marked m ps) ≡ (q ++ p) ∷ ps
unfolding split marked
split_marked m [] [] q w a = rw append-nil
split_marked m [] (c ∷ p) q w a = rw (ne_eqb c m w.0) (split_marked m [] p (q ++ c ∷ []) w.1 a ∙ rw append_assoc)
split_marked m (p ∷ ps) [] q w a = rw (eq-eqb m m refl, append-nil)
    (ap (λ (l : List (List ℕ)). q ∷ l) (split_marked m ps p [] a.0 a.1))
split_marked m (r ∷ ps) (c ∷ p) q w a = rw (ne_eqb c m w.0) (split_marked m (r ∷ ps) p (q ++ c ∷ []) w.1 a ∙ rw append_assoc)

-- THE LAW: splitting undoes joining
pub split_joined : (m : ℕ) (p : List ℕ) (ps : List (List ℕ)) → Without m p → AllWithout m ps → split m [] (p ++ marked m ps) ≡ p ∷ ps
split_joined m p ps w a = split_marked m ps p [] w a

-- a byte that stands in no part, and is not the mark, does not stand in the whole
pub without_append : (m : ℕ) (xs ys : List ℕ) → Without m xs → Without m ys → Without m (xs ++ ys)
without_append m [] ys v w = w
without_append m (c ∷ xs) ys v w = (v.0, without_append m xs ys v.1 w)

pub without_marked : (m k : ℕ) (ps : List (List ℕ)) → (k ≡ m → ⊥) → AllWithout m ps → Without m (marked k ps)
unfolding marked
without_marked m k [] n a = tt
without_marked m k (p ∷ ps) n a = (n, without_append m p (marked k ps) a.0 (without_marked m k ps n a.1))

-- whether a list of bytes lacks one, as the checker computes it for a word
abbrev lacks : ℕ → List ℕ → Bool
lacks m [] = true
lacks m (c ∷ cs) = cond (eqb c m) false (lacks m cs)

pub lacks_says : (m : ℕ) (l : List ℕ) → T (lacks m l) → Without m l
lacks_says m [] t = tt
lacks_says m (c ∷ cs) t = either (eqb c m) (λ e. absurd (rw e at t)) (λ e. (eqb-false c m e, lacks_says m cs (rw e at t)))

-- ---- written numbers
-- a byte below '0' is no digit
pub digits_without : (m v : ℕ) → m < 48 → Without m (show_natural v)
digits_without m v h = digits_ind (λ v l. Without m l) (λ v g. (not_digit v, tt))
    (λ v l g w. without_append m l _ w (not_digit (v % 10), tt)) v
  where
    not_digit : (d : ℕ) → 48 + d ≡ m → ⊥
    not_digit d e = omega arith

-- a byte below '-', such as a tab or a newline, stands in no number
pub number_without : (m : ℕ) (z : ℤ) → m < 45 → Without m (show_number z)
unfolding show_number
number_without m (pos n) h = digits_without m n (omega arith)
number_without m (negsuc n) h = (not_minus, digits_without m (suc n) (omega arith))
  where
    not_minus : 45 ≡ m → ⊥
    not_minus e = omega arith

pub numbers_without : (m : ℕ) (zs : List ℤ) → m < 45 → AllWithout m (map show_number zs)
numbers_without m [] h = tt
numbers_without m (z ∷ zs) h = (number_without m z h, numbers_without m zs h)
