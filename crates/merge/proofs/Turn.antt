-- The merge a step at a time, by the choice at the lines in front of the two rests.
use mathlib.Core.Path.{◌≡◌, refl, ap}
use mathlib.Core.Bool.{Bool}
use mathlib.Core.List.{List, [], ◌∷◌}
use mathlib.Core.Logic.{◌⊎◌, inl, inr}
use Prim.Native.Nat.{ℕ, suc, ◌<◌}
use native.Mathlib.Omega.{arith}
use lib.IntN.{ℤ, pos}
use lib.ListN.{length, length-drop}
use mir.Syntax.{w64}
use mir.Val.{SFits, to_z, of_z}
use Rattle.word.proofs.Fits.{back}
use Rattle.scan.specs.Find.{before}
use Rattle.scan.specs.Fields.{same_bytes}
use Rattle.stream.specs.Machine.{lines, lines_from, last_line}
use Rattle.stream.proofs.Lines.{no_line, some_line}
use Rattle.merge.specs.declared.Front.{Front}
use Rattle.merge.specs.declared.Choice.{Choice}
use Rattle.merge.specs.declared.MergeError.{MergeError}
use Rattle.merge.specs.Merge.{merge_refusal, front_line, front, choice, Merge, stopped, ◌then◌, act, alone, follow, merge_from}
use Rattle.merge.specs.Call.{first_line, behind, unread}
use Rattle.merge.specs.declared.Front.TheVariants.{End, Malformed, Fallen, Risen}
use Rattle.merge.specs.declared.Choice.TheVariants.{Done, First, Passed, Second, Refused}

-- ---- by lines
abbrev pub hd : List (List ℕ) → List ℕ
hd [] = []
hd (x ∷ xs) = x

abbrev pub tl : List (List ℕ) → List (List ℕ)
tl [] = []
tl (x ∷ xs) = xs

pub one_sheet : (j k : ℤ) (xs : List (List ℕ)) → merge_from j k xs [] ≡ follow j xs
unfolding merge_from follow
one_sheet j k [] = refl
one_sheet j k (x ∷ xs) = refl

module _ (same : Bool) (first passed second : ℤ → Merge) where
  pub lone_second : (g : Front) → alone g second ≡ act (choice End g same) first passed second
  unfolding choice
  lone_second End = refl
  lone_second Malformed = refl
  lone_second Fallen = refl
  lone_second (Risen n) = refl

  pub lone_first : (f : Front) → alone f first ≡ act (choice f End same) first passed second
  unfolding choice
  lone_first End = refl
  lone_first Malformed = refl
  lone_first Fallen = refl
  lone_first (Risen n) = refl

by_lines : (j k : ℤ) (xs ys : List (List ℕ)) → merge_from j k xs ys
    ≡ act (choice (front j xs) (front k ys) (same_bytes (hd xs) (hd ys))) (λ n. hd xs then merge_from n k (tl xs) ys) (λ n. merge_from n k (tl xs) ys)
    (λ n. hd ys then merge_from j n xs (tl ys))
unfolding merge_from front choice follow
by_lines j k [] [] = refl
by_lines j k [] (b ∷ ys) = lone_second _ _ _ _ (front_line k b)
by_lines j k (a ∷ xs) [] = simp one_sheet (lone_first _ _ _ _ (front_line j a))
by_lines j k (a ∷ xs) (b ∷ ys) = refl

-- a step reads a line that is there
abbrev Reads : Choice MergeError → ℕ → ℕ → Type 0
Reads Done x y = Unit {0}
Reads (Refused r) x y = Unit {0}
Reads (First n) x y = 0 < x
Reads (Passed n) x y = 0 < x
Reads (Second n) x y = 0 < y

some : (n : ℕ) → 0 < suc n
some n = omega arith

module _ (same : Bool) where
  reads_both : (c : Choice MergeError) (x y : ℕ) → Reads c (suc x) (suc y)
  reads_both Done x y = tt
  reads_both (Refused r) x y = tt
  reads_both (First n) x y = some x
  reads_both (Passed n) x y = some x
  reads_both (Second n) x y = some y

  reads_second : (g : Front) (y : ℕ) → Reads (choice End g same) 0 (suc y)
  unfolding choice
  reads_second End y = tt
  reads_second Malformed y = tt
  reads_second Fallen y = tt
  reads_second (Risen n) y = some y

  reads_first : (f : Front) (x : ℕ) → Reads (choice f End same) (suc x) 0
  unfolding choice
  reads_first End x = tt
  reads_first Malformed x = tt
  reads_first Fallen x = tt
  reads_first (Risen n) x = some x

  reads_lines : (j k : ℤ) (xs ys : List (List ℕ)) → Reads (choice (front j xs) (front k ys) same) (length xs) (length ys)
  unfolding front choice
  reads_lines j k [] [] = tt
  reads_lines j k [] (b ∷ ys) = reads_second (front_line k b) (length ys)
  reads_lines j k (a ∷ xs) [] = reads_first (front_line j a) (length xs)
  reads_lines j k (a ∷ xs) (b ∷ ys) = reads_both (choice (front_line j a) (front_line k b) same) (length xs) (length ys)

-- ---- by the bytes of the rests
pub front_line_lem : (s : List ℕ) → hd (lines s) ≡ first_line s
unfolding lines_from last_line first_line before
front_line_lem [] = refl
front_line_lem (c ∷ cs) = ap hd (some_line (c ∷ cs) (λ e. omega arith))

pub behind_lines : (s : List ℕ) → tl (lines s) ≡ lines (behind s)
unfolding lines_from last_line behind before
behind_lines [] = refl
behind_lines (c ∷ cs) = ap tl (some_line (c ∷ cs) (λ e. omega arith))

unfoldable pub merge_rest : ℤ → ℤ → List ℕ → List ℕ → Merge
merge_rest j k s t = merge_from j k (lines s) (lines t)

turn : (j k : ℤ) (s t : List ℕ) → merge_rest j k s t
    ≡ act (choice (front j (lines s)) (front k (lines t)) (same_bytes (first_line s) (first_line t))) (λ n. first_line s then merge_rest n k (behind s) t)
    (λ n. merge_rest n k (behind s) t) (λ n. first_line t then merge_rest j n s (behind t))
unfolding merge_rest
turn j k s t = simp (front_line_lem, behind_lines) at (by_lines j k (lines s) (lines t))

some_bytes : (s : List ℕ) → 0 < length (lines s) → 0 < length s
some_bytes [] h = rw (no_line [] refl) at h
some_bytes (c ∷ cs) h = some (length cs)

less : (s : List ℕ) → 0 < length s → length (behind s) < length s
unfolding behind
less s h = rw length-drop (omega arith)

-- ---- THE REST to merge: of s and t, behind lines of the serials j and k, with the lines in front as the code holds them
pub record Left (s t : List ℕ) (f g : Front) : Type 0 where
  pub j : ℤ
  pub k : ℤ
  pub first_front : f ≡ front j (lines s)
  pub second_front : g ≡ front k (lines t)

abbrev pub rest : {s t : List ℕ} {f g : Front} → Left s t f g → Merge
rest {s} {t} l = merge_rest l.j l.k s t

abbrev pub whole : {a b : List ℕ} {f g : Front} → f ≡ front (pos 0) (lines a) → g ≡ front (pos 0) (lines b) → Left a b f g
whole e h = record { j = pos 0; k = pos 0; first_front = e; second_front = h }

module _ {s t : List ℕ} {f g : Front} (l : Left s t f g) where
  abbrev pub behind_first : (n : ℤ) (r : List ℕ) {f' : Front} → f' ≡ front n (lines r) → Left r t f' g
  behind_first n r h = record { j = n; k = l.k; first_front = h; second_front = l.second_front }

  abbrev pub behind_second : (n : ℤ) (r : List ℕ) {g' : Front} → g' ≡ front n (lines r) → Left s r f g'
  behind_second n r h = record { j = l.j; k = n; first_front = l.first_front; second_front = h }

  -- with the line in front read behind a serial as the code holds it
  abbrev pub read_behind_first : (n : ℤ) (r : List ℕ) {f' : Front} → SFits w64 n → f' ≡ front (to_z w64 (of_z w64 n)) (lines r) → Left r t f' g
  read_behind_first n r h e = behind_first n r (rw (back h) at e)

  abbrev pub read_behind_second : (n : ℤ) (r : List ℕ) {g' : Front} → SFits w64 n → g' ≡ front (to_z w64 (of_z w64 n)) (lines r) → Left s r f g'
  read_behind_second n r h e = behind_second n r (rw (back h) at e)

  module _ {c : Choice MergeError} (e : c ≡ choice f g (same_bytes (first_line s) (first_line t))) where
    by : {d : Choice MergeError} → c ≡ d → rest l
        ≡ act d (λ n. first_line s then merge_rest n l.k (behind s) t) (λ n. merge_rest n l.k (behind s) t)
        (λ n. first_line t then merge_rest l.j n s (behind t))
    by d = rw (← l.first_front, ← l.second_front, ← e, d) at (turn l.j l.k s t)

    pub done : c ≡ Done → rest l ≡ stopped 0
    done d = by d

    pub refused : {r : MergeError} → c ≡ Refused r → rest l ≡ stopped (merge_refusal r)
    refused d = by d

    pub ended : (c ≡ Done) ⊎ ((r : MergeError) × (c ≡ Refused r)) → (r : ℕ) × (rest l ≡ stopped r)
    ended (inl d) = (0, done d)
    ended (inr d) = (merge_refusal d.0, refused d.1)

    pub first : {n : ℤ} {r : List ℕ} → c ≡ First n → r ≡ unread c s t → rest l ≡ first_line s then merge_rest n l.k r t
    first d p = rw (p, d) (by d)

    pub passed : {n : ℤ} {r : List ℕ} → c ≡ Passed n → r ≡ unread c s t → rest l ≡ merge_rest n l.k r t
    passed d p = rw (p, d) (by d)

    pub second : {n : ℤ} {r : List ℕ} → c ≡ Second n → r ≡ unread c s t → rest l ≡ first_line t then merge_rest l.j n s r
    second d p = rw (p, d) (by d)

    reads : {d : Choice MergeError} → c ≡ d → Reads d (length (lines s)) (length (lines t))
    reads d = rw (← l.first_front, ← l.second_front, ← e, d) at (reads_lines (same_bytes (first_line s) (first_line t)) l.j l.k (lines s) (lines t))

    pub first_less : {n : ℤ} {r : List ℕ} → c ≡ First n → r ≡ unread c s t → length r < length s
    first_less d p = rw (p, d) (less s (some_bytes s (reads d)))

    pub passed_less : {n : ℤ} {r : List ℕ} → c ≡ Passed n → r ≡ unread c s t → length r < length s
    passed_less d p = rw (p, d) (less s (some_bytes s (reads d)))

    pub second_less : {n : ℤ} {r : List ℕ} → c ≡ Second n → r ≡ unread c s t → length r < length t
    second_less d p = rw (p, d) (less t (some_bytes t (reads d)))

    pub first_refusal : {n : ℤ} {r : List ℕ} → (c ≡ First n) ⊎ (c ≡ Passed n) → r ≡ unread c s t → (rest l).refusal ≡ (merge_rest n l.k r t).refusal
    first_refusal (inl d) p = ap (λ (m : Merge). m.refusal) (first d p)
    first_refusal (inr d) p = ap (λ (m : Merge). m.refusal) (passed d p)

    pub second_refusal : {n : ℤ} {r : List ℕ} → c ≡ Second n → r ≡ unread c s t → (rest l).refusal ≡ (merge_rest l.j n s r).refusal
    second_refusal d p = ap (λ (m : Merge). m.refusal) (second d p)

    pub first_behind_less : {n : ℤ} {r : List ℕ} → (c ≡ First n) ⊎ (c ≡ Passed n) → r ≡ unread c s t → length r < length s
    first_behind_less (inl d) p = first_less d p
    first_behind_less (inr d) p = passed_less d p

    pub second_behind_less : {n : ℤ} {r : List ℕ} → c ≡ Second n → r ≡ unread c s t → length r < length t
    second_behind_less d p = second_less d p
