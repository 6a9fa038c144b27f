-- WHICH SHEET COMES FIRST does not matter where no serial stands in both.
use mathlib.Core.Path.{◌≡◌, refl, sym, ap, ◌∙◌}
use mathlib.Core.Bool.{Bool}
use mathlib.Core.List.{List, [], ◌∷◌}
use mathlib.Core.Logic.{inl, inr}
use Prim.Native.Nat.{ℕ}
use lib.IntN.{ℤ, pos}
use Rattle.algebra.specs.Order.{◌⋖◌}
use Rattle.word.proofs.Compare.{lt_lt_z, le_lt_z}
use Rattle.scan.specs.Fields.{same_bytes}
use Rattle.stream.specs.Machine.{lines}
use Rattle.merge.specs.declared.Front.{Front}
use Rattle.merge.specs.declared.Choice.{Choice}
use Rattle.merge.specs.declared.MergeError.{MergeError}
use Rattle.merge.specs.Merge.{by_serial, choice, Merge, ◌then◌, act, merge_from, merge}
use Rattle.merge.proofs.Rules.{Numbered, InFront, malformed, fallen, risen, in_front_lem, BySerial, below, above, twins, differ, by_serial_lem}
use Rattle.merge.proofs.Laws.{strictly, ◌among◌}
use Rattle.merge.proofs.Turn.{one_sheet}
use Rattle.merge.specs.declared.Choice.TheVariants.{First, Second}

abbrev pub Apart : List (List ℕ) → List (List ℕ) → Type 0
Apart xs ys = (l m : List ℕ) → l among xs → m among ys → (n : ℤ) → Numbered l n → Numbered m n → ⊥

module _ {m n : ℤ} (same : Bool) (h : m ⋖ n) where
  lower_first : by_serial m n same ≡ First m
  lower_first = rw (lt_lt_z h)

  lower_second : by_serial n m same ≡ Second m
  lower_second = rw (le_lt_z (strictly h), lt_lt_z h)

exchanged : (j k : ℤ) (xs ys : List (List ℕ)) → Apart xs ys → merge_from j k xs ys ≡ merge_from k j ys xs
unfolding merge_from choice
exchanged j k [] ys d = sym (one_sheet k j ys)
exchanged j k (a ∷ xs) [] d = refl
exchanged j k (a ∷ xs) (b ∷ ys) d =
    go (in_front_lem j a) (in_front_lem k b) (λ m. exchanged m k xs (b ∷ ys) (λ x y p. d x y (inr p)))
    (λ n. exchanged j n (a ∷ xs) ys (λ x y p q. d x y p (inr q)))
  where
    to : Choice MergeError → Merge
    to c = act c (λ n. a then merge_from n k xs (b ∷ ys)) (λ n. merge_from n k xs (b ∷ ys)) (λ n. b then merge_from j n (a ∷ xs) ys)

    fro : Choice MergeError → Merge
    fro c = act c (λ n. b then merge_from n j ys (a ∷ xs)) (λ n. merge_from n j ys (a ∷ xs)) (λ n. a then merge_from k n (b ∷ ys) xs)

    by_order : ((n : ℤ) → merge_from n k xs (b ∷ ys) ≡ merge_from k n (b ∷ ys) xs) → ((n : ℤ) → merge_from j n (a ∷ xs) ys ≡ merge_from n j ys (a ∷ xs)) →
        {m n : ℤ} → Numbered a m → Numbered b n → {c : Choice MergeError} → BySerial m n (same_bytes a b) c → to c ≡ fro (by_serial n m (same_bytes b a))
    by_order p q {m} e f (below h) = ap (λ r. a then r) (p m) ∙ rw (lower_second (same_bytes b a) h)
    by_order p q {n = n} e f (above h) = ap (λ r. b then r) (q n) ∙ rw (lower_first (same_bytes b a) h)
    by_order p q {n = n} e f (twins t u) = absurd (d a b (inl refl) (inl refl) n (rw t at e) f)
    by_order p q {n = n} e f (differ t u) = absurd (d a b (inl refl) (inl refl) n (rw t at e) f)

    go : {f g : Front} → InFront j a f → InFront k b g → ((n : ℤ) → merge_from n k xs (b ∷ ys) ≡ merge_from k n (b ∷ ys) xs) →
        ((n : ℤ) → merge_from j n (a ∷ xs) ys ≡ merge_from n j ys (a ∷ xs)) → to (choice f g (same_bytes a b)) ≡ fro (choice g f (same_bytes b a))
    go (malformed e) (malformed f) p q = refl
    go (malformed e) (fallen f i) p q = refl
    go (malformed e) (risen f i) p q = refl
    go (fallen e h) (malformed f) p q = refl
    go (fallen e h) (fallen f i) p q = refl
    go (fallen e h) (risen f i) p q = refl
    go (risen e h) (malformed f) p q = refl
    go (risen e h) (fallen f i) p q = refl
    go (risen {n = m} e h) (risen {n = n} f i) p q = by_order p q e f (by_serial_lem m n (same_bytes a b))

-- THE LAW: the refusal is the same too
pub either_first : (a b : List ℕ) → Apart (lines a) (lines b) → merge a b ≡ merge b a
unfolding merge
either_first a b d = exchanged (pos 0) (pos 0) (lines a) (lines b) d
