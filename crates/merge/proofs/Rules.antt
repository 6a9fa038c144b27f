-- The merge as rules: what a choice tells of the two lines in front, and the lines that a merge takes one after the other.
use Rattle.std.specs.Prelude.{Option, Some, None}
use mathlib.Core.Path.{◌≡◌, refl, sym, ap, ◌∙◌}
use mathlib.Core.Bool.{Bool, true, false, cond}
use mathlib.Core.Logic.{◌⊎◌, inl, inr}
use mathlib.Core.List.{List, [], ◌∷◌}
use Prim.Native.Nat.{ℕ}
use native.Mathlib.Omega.{arith}
use lib.IntN.{ℤ, pos}
use lib.Signed.{lt_z}
use Rattle.algebra.specs.Order.{◌⩽◌, ◌⋖◌}
use Rattle.algebra.proofs.Test.{either}
use Rattle.algebra.proofs.Order.{⩽_antisym, lt_of_suc_le, tested, tested<}
use Rattle.word.proofs.Compare.{lt_le_z}
use Rattle.scan.specs.Fields.{same_bytes}
use Rattle.scan.proofs.Fields.{same_list}
use Rattle.text.specs.Line.{read_line, serial_of}
use Rattle.merge.specs.declared.Front.{Front}
use Rattle.merge.specs.declared.Choice.{Choice}
use Rattle.merge.specs.declared.MergeError.{MergeError}
use Rattle.merge.specs.Merge.{merge_refusal, by_number, front_line, by_serial, choice, Merge, stopped, ◌then◌, act, alone, follow, merge_from}
use Rattle.merge.specs.declared.Front.TheVariants.{Malformed, Fallen, Risen}
use Rattle.merge.specs.declared.Choice.TheVariants.{Done, First, Passed, Second, Refused}
use Rattle.merge.specs.declared.MergeError.TheVariants as err

-- ---- a line and its serial
pub record Numbered (l : List ℕ) (n : ℤ) : Type 0 where
  pub is : serial_of (read_line l) ≡ Some n

abbrev number : Option ℤ → ℤ
number None = pos 0
number (Some n) = n

pub number_is : {m n : ℤ} → Some m ≡ Some n → m ≡ n
number_is e = ap number e

pub one_number : {l : List ℕ} {m n : ℤ} → Numbered l m → Numbered l n → m ≡ n
one_number e f = number_is (sym e.is ∙ f.is)

-- ---- the line in front, behind one with the serial `last`
pub data InFront (last : ℤ) (l : List ℕ) : Front → Type 0 where
  malformed : serial_of (read_line l) ≡ None → InFront last l Malformed
  fallen : {n : ℤ} → Numbered l n → n ⩽ last → InFront last l Fallen
  risen : {n : ℤ} → Numbered l n → last ⋖ n → InFront last l (Risen n)

pub in_front_lem : (last : ℤ) (l : List ℕ) → InFront last l (front_line last l)
unfolding front_line
in_front_lem last l = go (serial_of (read_line l)) refl
  where
    go : (r : Option ℤ) → serial_of (read_line l) ≡ r → InFront last l (by_number last r)
    go None e = malformed e
    go (Some n) e =
        tested (λ t. InFront last l (cond t Fallen (Risen n))) n last (λ h. fallen (record { is = e }) h)
        (λ h. risen (record { is = e }) (lt_of_suc_le h))

pub front_risen : {last n : ℤ} {l : List ℕ} → Numbered l n → last ⋖ n → front_line last l ≡ Risen n
unfolding front_line
front_risen e h = rw (e.is, lt_le_z h)

-- ---- two serials
pub data BySerial (m n : ℤ) (same : Bool) : Choice MergeError → Type 0 where
  below : m ⋖ n → BySerial m n same (First m)
  above : n ⋖ m → BySerial m n same (Second n)
  twins : m ≡ n → same ≡ true → BySerial m n same (Passed m)
  differ : m ≡ n → same ≡ false → BySerial m n same (Refused err.Differing)

pub by_serial_lem : (m n : ℤ) (same : Bool) → BySerial m n same (by_serial m n same)
by_serial_lem m n same =
    tested< (λ t. BySerial m n same (cond t (First m) (cond (lt_z n m) (Second n) (cond same (Passed m) (Refused err.Differing))))) m n (λ h. below h)
    (λ h. tested< (λ t. BySerial m n same (cond t (Second n) (cond same (Passed m) (Refused err.Differing)))) n m (λ k. above k)
    (λ k. either same (λ e. rw e (twins (⩽_antisym k h) refl)) (λ e. rw e (differ (⩽_antisym k h) refl))))

-- ---- what a choice tells of the pair of lines
pub record Above (n : ℤ) (l : List ℕ) : Type 0 where
  pub serial : ℤ
  pub is : Numbered l serial
  pub above : n ⋖ serial

-- what a merge is stopped with
abbrev pub Stops : ℕ → Type 0
Stops r = (r ≡ 5) ⊎ ((r ≡ 7) ⊎ (r ≡ 8))

pub no_stop : {A : Type 0} {r : ℕ} → Stops r → r ≡ 0 → A
no_stop h e = absurd (none h e)
  where
    none : {r : ℕ} → Stops r → r ≡ 0 → ⊥
    none (inl h) e = omega arith
    none (inr (inl h)) e = omega arith
    none (inr (inr h)) e = omega arith

five : Stops 5
five = inl refl

seven : Stops 7
seven = inr (inl refl)

eight : Stops 8
eight = inr (inr refl)

abbrev Told : ℤ → ℤ → List ℕ → List ℕ → Choice MergeError → Type 0
Told j k a b Done = ⊥
Told j k a b (Refused e) = Stops (merge_refusal e)
Told j k a b (First n) = Numbered a n × ((j ⋖ n) × Above n b)
Told j k a b (Passed n) = Numbered a n × ((j ⋖ n) × (a ≡ b))
Told j k a b (Second n) = Numbered b n × ((k ⋖ n) × Above n a)

by_order : {j k m n : ℤ} {a b : List ℕ} → Numbered a m → j ⋖ m → Numbered b n → k ⋖ n → {c : Choice MergeError} → BySerial m n (same_bytes a b) c → Told j k a b c
by_order {n = n} e h f i (below l) = (e, (h, record { serial = n; is = f; above = l }))
by_order {m = m} e h f i (above l) = (f, (i, record { serial = m; is = e; above = l }))
by_order {a = a} {b} e h f i (twins o s) = (e, (h, same_list a b s))
by_order e h f i (differ o s) = eight

told : {j k : ℤ} {a b : List ℕ} {f g : Front} → InFront j a f → InFront k b g → Told j k a b (choice f g (same_bytes a b))
unfolding choice
told (malformed e) y = five
told (fallen e h) (malformed f) = five
told (fallen e h) (fallen f i) = seven
told (fallen e h) (risen f i) = seven
told (risen e h) (malformed f) = five
told (risen e h) (fallen f i) = seven
told {a = a} {b} (risen {n = m} e h) (risen {n = n} f i) = by_order e h f i (by_serial_lem m n (same_bytes a b))

-- ---- THE RULES, behind lines of the serials j and k
-- n is below the serial of the first of the lines
abbrev pub Under : ℤ → List (List ℕ) → Type 0
Under n [] = Unit {0}
Under n (l ∷ ls) = Above n l

pub data Merges : ℤ → ℤ → List (List ℕ) → List (List ℕ) → Merge → Type 0 where
  none : {j k : ℤ} → Merges j k [] [] (stopped 0)
  stop : {j k : ℤ} {xs ys : List (List ℕ)} {r : ℕ} → Stops r → Merges j k xs ys (stopped r)
  first : {j k n : ℤ} {a : List ℕ} {xs ys : List (List ℕ)} {m : Merge} → Numbered a n → j ⋖ n → Under n ys → Merges n k xs ys m →
      Merges j k (a ∷ xs) ys (a then m)
  second : {j k n : ℤ} {b : List ℕ} {xs ys : List (List ℕ)} {m : Merge} → Numbered b n → k ⋖ n → Under n xs → Merges j n xs ys m →
      Merges j k xs (b ∷ ys) (b then m)
  passed : {j k n : ℤ} {a b : List ℕ} {xs ys : List (List ℕ)} {m : Merge} → Numbered a n → j ⋖ n → a ≡ b → Merges n k xs (b ∷ ys) m →
      Merges j k (a ∷ xs) (b ∷ ys) m

first_follows : (j k : ℤ) (xs : List (List ℕ)) → Merges j k xs [] (follow j xs)
unfolding follow
first_follows j k [] = none
first_follows j k (a ∷ xs) = go (in_front_lem j a) (λ n. first_follows n k xs)
  where
    go : {f : Front} → InFront j a f → ((n : ℤ) → Merges n k xs [] (follow n xs)) → Merges j k (a ∷ xs) [] (alone f (λ n. a then follow n xs))
    go (malformed e) next = stop five
    go (fallen e h) next = stop seven
    go (risen {n = n} e h) next = first e h tt (next n)

second_follows : (j k : ℤ) (ys : List (List ℕ)) → Merges j k [] ys (follow k ys)
unfolding follow
second_follows j k [] = none
second_follows j k (b ∷ ys) = go (in_front_lem k b) (λ n. second_follows j n ys)
  where
    go : {f : Front} → InFront k b f → ((n : ℤ) → Merges j n [] ys (follow n ys)) → Merges j k [] (b ∷ ys) (alone f (λ n. b then follow n ys))
    go (malformed e) next = stop five
    go (fallen e h) next = stop seven
    go (risen {n = n} e h) next = second e h tt (next n)

by_choice : {j k : ℤ} {a b : List ℕ} {xs ys : List (List ℕ)} {f g : ℤ → Merge} (c : Choice MergeError) → Told j k a b c →
    ((n : ℤ) → Merges n k xs (b ∷ ys) (f n)) → ((n : ℤ) → Merges j n (a ∷ xs) ys (g n)) →
    Merges j k (a ∷ xs) (b ∷ ys) (act c (λ n. a then f n) (λ n. f n) (λ n. b then g n))
by_choice Done t p q = absurd t
by_choice (Refused r) t p q = stop t
by_choice (First n) t p q = first t.0 t.1.0 t.1.1 (p n)
by_choice (Passed n) t p q = passed t.0 t.1.0 t.1.1 (p n)
by_choice (Second n) t p q = second t.0 t.1.0 t.1.1 (q n)

pub merges : (j k : ℤ) (xs ys : List (List ℕ)) → Merges j k xs ys (merge_from j k xs ys)
unfolding merge_from
merges j k [] ys = second_follows j k ys
merges j k (a ∷ xs) [] = first_follows j k (a ∷ xs)
merges j k (a ∷ xs) (b ∷ ys) =
    by_choice (choice (front_line j a) (front_line k b) (same_bytes a b)) (told (in_front_lem j a) (in_front_lem k b)) (λ n. merges n k xs (b ∷ ys))
    (λ n. merges j n (a ∷ xs) ys)
