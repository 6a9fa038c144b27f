-- Which lines stop a merge: a step at a time, and THE LAWS: the refusal is the merge's; it names a line; that line is there.
use mathlib.Core.Path.{◌≡◌, refl, sym, ap, ◌∙◌}
use mathlib.Core.Bool.{Bool, false, cond}
use mathlib.Core.List.{List, [], ◌∷◌}
use mathlib.Core.Logic.{◌⊎◌, inl, inr}
use Prim.Native.Nat.{ℕ, suc, ◌+◌, ◌≤◌, ◌<◌}
use native.Mathlib.Omega.{arith}
use native.Mathlib.Numerals.{add-one}
use lib.Dec.{eqb}
use lib.IntN.{ℤ, pos}
use lib.ListN.{length}
use Rattle.algebra.proofs.Test.{either}
use Rattle.scan.specs.Fields.{same_bytes}
use Rattle.stream.specs.Machine.{lines}
use Rattle.merge.specs.declared.Front.{Front}
use Rattle.merge.specs.declared.Choice.{Choice}
use Rattle.merge.specs.declared.MergeError.{MergeError}
use Rattle.merge_stop.specs.declared.Stop.{Stop}
use Rattle.merge.specs.Merge.{merge_refusal, front_line, front, choice, Merge, stopped, ◌then◌, act, follow, merge_from, merge}
use Rattle.merge.specs.Call.{first_line, behind, unread}
use Rattle.merge_stop.specs.Stop.{named, none, chosen, met, stop_from, stop}
use Rattle.merge.proofs.Rules.{BySerial, below, above, twins, differ, by_serial_lem}
use Rattle.merge.proofs.Turn.{hd, tl, one_sheet, lone_first, lone_second, front_line_lem, behind_lines, Left}
use Rattle.merge.specs.declared.Front.TheVariants.{End, Malformed, Fallen, Risen}
use Rattle.merge.specs.declared.Choice.TheVariants.{Done, First, Passed, Second, Refused}

-- ---- by lines: a choice does not fall on a sheet that has no line left, whatever would follow there
module _ (h i : ℕ) (same : Bool) (first second : ℤ → Stop) where
  second_met : (g : Front) → met h i End g false (λ n. none) second ≡ met h i End g same first second
  unfolding choice
  second_met End = refl
  second_met Malformed = refl
  second_met Fallen = refl
  second_met (Risen n) = refl

  first_met : (f : Front) → met h i f End false first (λ n. none) ≡ met h i f End same first second
  unfolding choice
  first_met End = refl
  first_met Malformed = refl
  first_met Fallen = refl
  first_met (Risen n) = refl

by_lines : (h i : ℕ) (j k : ℤ) (xs ys : List (List ℕ)) → stop_from h i j k xs ys
    ≡ met h i (front j xs) (front k ys) (same_bytes (hd xs) (hd ys)) (λ n. stop_from (suc h) i n k (tl xs) ys) (λ n. stop_from h (suc i) j n xs (tl ys))
unfolding stop_from front choice
by_lines h i j k [] [] = refl
by_lines h i j k [] (b ∷ ys) = second_met h i _ _ _ (front_line k b)
by_lines h i j k (a ∷ xs) [] = first_met h i _ _ _ (front_line j a)
by_lines h i j k (a ∷ xs) (b ∷ ys) = refl

-- ---- by the bytes of the rests
unfoldable pub stop_rest : ℕ → ℕ → ℤ → ℤ → List ℕ → List ℕ → Stop
stop_rest h i j k s t = stop_from h i j k (lines s) (lines t)

turn : (h i : ℕ) (j k : ℤ) (s t : List ℕ) → stop_rest h i j k s t
    ≡ met h i (front j (lines s)) (front k (lines t)) (same_bytes (first_line s) (first_line t)) (λ n. stop_rest (suc h) i n k (behind s) t)
    (λ n. stop_rest h (suc i) j n s (behind t))
unfolding stop_rest
turn h i j k s t = simp (front_line_lem, behind_lines) at (by_lines h i j k (lines s) (lines t))

-- by what the code has chosen; it counts a line that it has read
module _ (h i : ℕ) {s t : List ℕ} {f g : Front} (l : Left s t f g) {c : Choice MergeError} (e : c ≡ choice f g (same_bytes (first_line s) (first_line t))) where
  pub by : {d : Choice MergeError} → c ≡ d → stop_rest h i l.j l.k s t
      ≡ chosen h i f g d (λ n. stop_rest (suc h) i n l.k (behind s) t) (λ n. stop_rest h (suc i) l.j n s (behind t))
  by d = rw (← l.first_front, ← l.second_front, ← e, d) at (turn h i l.j l.k s t)

  pub first : {n : ℤ} {r : List ℕ} → (c ≡ First n) ⊎ (c ≡ Passed n) → r ≡ unread c s t → stop_rest (h + 1) i n l.k r t ≡ stop_rest h i l.j l.k s t
  first (inl d) p = rw (add-one, p, d) (sym (by d))
  first (inr d) p = rw (add-one, p, d) (sym (by d))

  pub second : {n : ℤ} {r : List ℕ} → c ≡ Second n → r ≡ unread c s t → stop_rest h (i + 1) l.j n s r ≡ stop_rest h i l.j l.k s t
  second d p = rw (add-one, p, d) (sym (by d))

-- ---- what is told of a stop from the h-th and the i-th line on, where the merge is refused with r
record Told (h i : ℕ) (xs ys : List (List ℕ)) (r : ℕ) (s : Stop) : Type 0 where
  pub refusal : s.refusal ≡ pos r
  pub some : (r ≡ 0) ⊎ (0 < s.first + s.second)
  pub first : s.first < h + length xs
  pub second : s.second < i + length ys

module _ {h i : ℕ} {xs ys : List (List ℕ)} {s : Stop} where
  behind_first : {r : ℕ} (a : List ℕ) → Told (suc h) i xs ys r s → Told h i (a ∷ xs) ys r s
  behind_first a t = record { refusal = t.refusal; some = t.some; first = omega (arith, t.first); second = t.second }

  behind_second : {r : ℕ} (b : List ℕ) → Told h (suc i) xs ys r s → Told h i xs (b ∷ ys) r s
  behind_second b t = record { refusal = t.refusal; some = t.some; first = t.first; second = omega (arith, t.second) }

  alone_first : (n k : ℤ) → Told h i xs ys (merge_from n k xs []).refusal s → Told h i xs ys (follow n xs).refusal s
  alone_first n k t = rw one_sheet at t

-- a line that is named is the one in front, which is there
cond_most : (t : Bool) (i : ℕ) → cond t i 0 ≤ i
cond_most t i = either t (λ e. rw e (omega arith)) (λ e. rw e (omega arith))

named_most : (r : ℕ) (f : Front) (i : ℕ) → named r f i ≤ i
unfolding named
named_most r End i = omega arith
named_most r Malformed i = cond_most (eqb r 5) i
named_most r Fallen i = cond_most (eqb r 7) i
named_most r (Risen n) i = cond_most (eqb r 8) i

named_there : (r : ℕ) (j : ℤ) (xs : List (List ℕ)) (h : ℕ) → 0 < h → named r (front j xs) h < h + length xs
unfolding front named
named_there r j [] h p = omega arith
named_there r j (a ∷ xs) h p = omega (arith, named_most r (front_line j a) h)

module _ {h i : ℕ} (p : 0 < h) (q : 0 < i) where
  -- and a refusal names one
  abbrev Names : Front → Front → Choice MergeError → Type 0
  Names f g Done = Unit {0}
  Names f g (Refused e) = let r = merge_refusal e in 0 < named r f h + named r g i
  Names f g (First n) = Unit {0}
  Names f g (Passed n) = Unit {0}
  Names f g (Second n) = Unit {0}

  names_both : {m n : ℤ} {same : Bool} {c : Choice MergeError} → BySerial m n same c → Names (Risen m) (Risen n) c
  unfolding named
  names_both (below e) = tt
  names_both (above e) = tt
  names_both (twins e t) = tt
  names_both (differ e t) = omega arith

  names : (f g : Front) (same : Bool) → Names f g (choice f g same)
  unfolding choice named
  names Malformed g same = omega arith
  names Fallen Malformed same = omega arith
  names Fallen Fallen same = omega arith
  names Fallen End same = omega arith
  names Fallen (Risen n) same = omega arith
  names End Malformed same = omega arith
  names End Fallen same = omega arith
  names End End same = tt
  names End (Risen n) same = tt
  names (Risen m) Malformed same = omega arith
  names (Risen m) Fallen same = omega arith
  names (Risen m) End same = tt
  names (Risen m) (Risen n) same = names_both (by_serial_lem m n same)

  module _ {xs ys : List (List ℕ)} where
    told_none : Told h i xs ys 0 none
    told_none = record { refusal = refl; some = inl refl; first = omega arith; second = omega arith }

    -- by what is chosen
    told : (j k : ℤ) (same : Bool) (a b : List ℕ) (u v : ℤ → Merge) {x y : ℤ → Stop} → ((n : ℤ) → Told h i xs ys (u n).refusal (x n)) →
        ((n : ℤ) → Told h i xs ys (v n).refusal (y n)) →
        Told h i xs ys (act (choice (front j xs) (front k ys) same) (λ n. a then u n) u (λ n. b then v n)).refusal
        (met h i (front j xs) (front k ys) same x y)
    told j k same a b u v {x} {y} next-first next-second = go (choice (front j xs) (front k ys) same) (names (front j xs) (front k ys) same)
      where
        go : (c : Choice MergeError) → Names (front j xs) (front k ys) c →
            Told h i xs ys (act c (λ n. a then u n) u (λ n. b then v n)).refusal (chosen h i (front j xs) (front k ys) c x y)
        go Done e = told_none
        go (Refused r) e =
            record { refusal = refl; some = inr e; first = named_there (merge_refusal r) j xs h p; second = named_there (merge_refusal r) k ys i q }
        go (First n) e = next-first n
        go (Passed n) e = next-first n
        go (Second n) e = next-second n

all_told : (h i : ℕ) → 0 < h → 0 < i → (j k : ℤ) (xs ys : List (List ℕ)) → Told h i xs ys (merge_from j k xs ys).refusal (stop_from h i j k xs ys)
unfolding merge_from follow stop_from front
all_told h i p q j k [] [] = told_none p q
all_told h i p q j k [] (b ∷ ys) =
    rw (lone_second false (λ n. [] then stopped 0) (λ n. stopped 0) (λ n. b then follow n ys) (front_line k b))
    (told p q j k false [] b _ _ (λ n. told_none p q) (λ n. behind_second b (all_told h (suc i) p (omega arith) j n [] ys)))
all_told h i p q j k (a ∷ xs) [] =
    rw (lone_first false (λ n. a then follow n xs) (λ n. follow n xs) (λ n. [] then stopped 0) (front_line j a))
    (told p q j k false a [] _ _ (λ n. behind_first a (alone_first n k (all_told (suc h) i (omega arith) q n k xs []))) (λ n. told_none p q))
all_told h i p q j k (a ∷ xs) (b ∷ ys) =
    told p q j k (same_bytes a b) a b _ _ (λ n. behind_first a (all_told (suc h) i (omega arith) q n k xs (b ∷ ys)))
    (λ n. behind_second b (all_told h (suc i) p (omega arith) j n (a ∷ xs) ys))

-- ---- THE LAWS of two sheets
module _ (a b : List ℕ) where
  told_of_sheets : Told 1 1 (lines a) (lines b) (merge a b).refusal (stop a b)
  unfolding merge stop
  told_of_sheets = all_told 1 1 (omega arith) (omega arith) (pos 0) (pos 0) (lines a) (lines b)

  pub stop_refusal : (stop a b).refusal ≡ pos (merge a b).refusal
  stop_refusal = told_of_sheets.refusal

  pub stop_names : ((merge a b).refusal ≡ 0) ⊎ (0 < (stop a b).first + (stop a b).second)
  stop_names = told_of_sheets.some

  pub stop_within : ((stop a b).first ≤ length (lines a)) × ((stop a b).second ≤ length (lines b))
  stop_within = (omega (arith, told_of_sheets.first), omega (arith, told_of_sheets.second))

  -- the two clauses of the call
  pub both : {s : Stop} → s ≡ stop a b → (s ≡ stop a b) × (s.refusal ≡ pos (merge a b).refusal)
  both e = (e, ap (λ (s : Stop). s.refusal) e ∙ stop_refusal)
