-- KERNEL NUMBERS RISE (02, E3): what the machine carries, which lines it turns away with 7, and what it leaves as 01 has it.
use Rattle.std.specs.Prelude.{Option, Some, None}
use mathlib.Core.Path.{◌≡◌, refl, sym, ap, ◌∙◌}
use mathlib.Core.Bool.{Bool, false, cond, ◌||◌}
use mathlib.Core.Logic.{◌⊎◌, inl, inr}
use mathlib.Core.List.{List, [], ◌∷◌, ◌++◌, append_assoc}
use Prim.Native.Nat.{ℕ}
use lib.Dec.{eqb}
use lib.IntN.{ℤ, pos, negsuc}
use Rattle.algebra.specs.Order.{◌⩽◌, ◌⋖◌}
use Rattle.algebra.proofs.Test.{either}
use Rattle.algebra.proofs.Order.{⩽_trans, ⩽_refl, lt_of_suc_le, tested}
use Rattle.algebra.proofs.Reify.{reify}
use Rattle.algebra.proofs.Linear.{lin, lin<, ◌&◌, ◌&<◌, none}
use Rattle.word.proofs.Compare.{le_le_z, lt_le_z, between_true}
use Rattle.text.specs.declared.Line.{Line}
use Rattle.text.specs.Line.{serial_of, read_line}
use Rattle.text.specs.Answer.{Reply, refused_reply, reply_of, reply}
use Rattle.text.proofs.Serial.{Ranged, line_serial}
use Rattle.text.proofs.Call.{own_refusal}
use Rattle.stream.specs.declared.State.{State}
use Rattle.stream.specs.Machine.{lines, Machine, answers}
use Rattle.stream.specs.Sheet.{initial, largest_with, if_risen, reply_after, answer_line, machine, heading, sheet}
use Rattle.text.specs.declared.Line.TheVariants as line

-- ---- the serials of lines that have the form
abbrev pub with_serial : Option ℤ → List ℤ → List ℤ
with_serial None zs = zs
with_serial (Some serial) zs = serial ∷ zs

unfoldable pub serials : List (List ℕ) → List ℤ
serials [] = []
serials (l ∷ ls) = with_serial (serial_of (read_line l)) (serials ls)

-- numbers that rise from one on
abbrev pub Rises : ℤ → List ℤ → Type 0
Rises lo [] = Unit {0}
Rises lo (z ∷ zs) = (lo ⋖ z) × Rises z zs

rises_below : {lo hi : ℤ} (zs : List ℤ) → lo ⋖ hi → Rises hi zs → Rises lo zs
rises_below [] h r = tt
rises_below {lo} {hi} (z ∷ zs) h r = (lin< (lo ∷ hi ∷ z ∷ []) (h &< r.0 &< none) (search reify depth 20) tt, r.1)

-- ---- THE STATE behind some lines is the largest serial among theirs and the one that it began with, zero for a sheet
unfoldable pub after : State → List (List ℕ) → State
after s [] = s
after s (l ∷ ls) = after (answer_line s l).state ls

-- the lines behind them are answered from there
pub answers_behind : (ls ms : List (List ℕ)) (s : State) →
    answers machine s (ls ++ ms) ≡ answers machine s ls ++ answers machine (after s ls) ms
unfolding answers after
answers_behind [] ms s = refl
answers_behind (l ∷ ls) ms s =
    let o = answer_line s l in
    ap (λ (b : List ℕ). o.bytes ++ b) (answers_behind ls ms o.state)
    ∙ sym (append_assoc o.bytes (answers machine o.state ls) (answers machine (after o.state ls) ms))

abbrev pub AtMost : ℤ → List ℤ → Type 0
AtMost m [] = Unit {0}
AtMost m (z ∷ zs) = (z ⩽ m) × AtMost m zs

abbrev pub Among : ℤ → List ℤ → Type 0
Among m [] = ⊥
Among m (z ∷ zs) = (m ≡ z) ⊎ Among m zs

pub record Largest (m : ℤ) (zs : List ℤ) : Type 0 where
  pub most : AtMost m zs
  pub among : Among m zs

larger : {m : ℤ} (n : Option ℤ) (largest : ℤ) (zs : List ℤ) → Largest m (largest_with n largest ∷ zs) → Largest m (largest ∷ with_serial n zs)
larger None largest zs = λ h. h
larger {m} (Some serial) largest zs =
    tested (λ t. Largest m (cond t largest serial ∷ zs) → Largest m (largest ∷ serial ∷ zs)) serial largest
    (λ k h. record { most = (h.most.0, (⩽_trans k h.most.0, h.most.1)); among = passed h.among })
    (λ k h. record {
      most = (lin (largest ∷ serial ∷ m ∷ []) (k & h.most.0 & none) (search reify depth 20) tt, h.most);
      among = inr h.among;
    })
  where
    passed : Among m (largest ∷ zs) → Among m (largest ∷ serial ∷ zs)
    passed (inl e) = inl e
    passed (inr a) = inr (inr a)

pub largest_before : (ls : List (List ℕ)) (s : State) → Largest (after s ls).largest (s.largest ∷ serials ls)
unfolding after serials answer_line
largest_before [] s = record { most = (⩽_refl s.largest, tt); among = inl refl }
largest_before (l ∷ ls) s = larger (serial_of (read_line l)) s.largest (serials ls) (largest_before ls (answer_line s l).state)

-- ---- 7 is given to a line with a serial that is not above the largest, and to no other
pub seven_when : (l : Line) (serial largest : ℤ) → serial_of l ≡ Some serial → serial ⩽ largest →
    reply_after largest l ≡ refused_reply serial (pos 7)
unfolding reply_after
seven_when l serial largest e h = rw (e, le_le_z h)

not_own : (l : Line) → (reply_of l).refusal ≡ pos 7 → ⊥
not_own l e = (rw e at (own_refusal l).1).le

pub seven_only : (l : Line) (largest : ℤ) → (reply_after largest l).refusal ≡ pos 7 → (serial : ℤ) × (serial_of l ≡ Some serial) × (serial ⩽ largest)
unfolding reply_after
seven_only l largest e = go (serial_of l) refl e
  where
    go : (n : Option ℤ) → serial_of l ≡ n → (if_risen n largest (reply_of l)).refusal ≡ pos 7 →
        (serial : ℤ) × (serial_of l ≡ Some serial) × (serial ⩽ largest)
    go None h = λ e. absurd (not_own l e)
    go (Some serial) h =
        tested (λ t. (cond t (refused_reply serial (pos 7)) (reply_of l)).refusal ≡ pos 7 →
        (serial : ℤ) × (serial_of l ≡ Some serial) × (serial ⩽ largest)) serial largest
        (λ k e. (serial, h, k))
        (λ k e. absurd (not_own l e))

-- ---- THE LAW: of the lines that are answered neither 5 nor 7 the serials rise
-- a line of a sheet, with its answer there
pub record Entry : Type 0 where
  pub asked : Line
  pub answer : Reply

unfoldable pub entries : State → List (List ℕ) → List Entry
entries s [] = []
entries s (l ∷ ls) = record { asked = read_line l; answer = reply_after s.largest (read_line l) } ∷ entries (answer_line s l).state ls

-- their answers, one behind the other, are what the sheet is answered
unfoldable pub answers_of : List Entry → List ℕ
answers_of [] = []
answers_of (e ∷ es) = e.answer.bytes ++ answers_of es

entries_answer : (ls : List (List ℕ)) (s : State) → answers machine s ls ≡ answers_of (entries s ls)
unfolding answers answer_line entries answers_of
entries_answer [] s = refl
entries_answer (l ∷ ls) s = ap (λ (b : List ℕ). (answer_line s l).bytes ++ b) (entries_answer ls (answer_line s l).state)

-- the serials of those answered neither 5 nor 7
abbrev pub is : ℕ → ℤ → Bool
is k (pos n) = eqb k n
is k (negsuc n) = false

abbrev pub five_or_seven : Reply → Bool
five_or_seven a = is 5 a.refusal || is 7 a.refusal

unfoldable pub passing : List Entry → List ℤ
passing [] = []
passing (e ∷ es) = cond (five_or_seven e.answer) (passing es) (with_serial (serial_of e.asked) (passing es))

numbered_rises : (largest serial : ℤ) (own : Reply) (zs : List ℤ) → Rises (largest_with (Some serial) largest) zs →
    Rises largest (cond (five_or_seven (if_risen (Some serial) largest own)) zs (serial ∷ zs))
numbered_rises largest serial own zs =
    tested (λ t. Rises (cond t largest serial) zs → Rises largest (cond (five_or_seven (cond t (refused_reply serial (pos 7)) own)) zs (serial ∷ zs)))
    serial largest
    (λ k r. r)
    (λ k r. let h : largest ⋖ serial = lt_of_suc_le k in
    either (five_or_seven own) (λ e. rw e (rises_below zs h r)) (λ e. rw e (h, r)))

line_rises : (largest : ℤ) (l : Line) (zs : List ℤ) → Rises (largest_with (serial_of l) largest) zs →
    Rises largest (cond (five_or_seven (reply_after largest l)) zs (with_serial (serial_of l) zs))
unfolding reply_after reply_of
line_rises largest line.Malformed zs h = h
line_rises largest (line.Exp serial n exponent start) zs h = numbered_rises largest serial _ zs h
line_rises largest (line.Log serial n point) zs h = numbered_rises largest serial _ zs h

passing_rises : (ls : List (List ℕ)) (s : State) → Rises s.largest (passing (entries s ls))
unfolding passing entries answer_line
passing_rises [] s = tt
passing_rises (l ∷ ls) s = line_rises s.largest (read_line l) (passing (entries (answer_line s l).state ls)) (passing_rises ls (answer_line s l).state)

pub numbers_rise : (s : List ℕ) → let es = entries initial (lines s) in (sheet s ≡ heading ++ answers_of es) × Rises (pos 0) (passing es)
unfolding sheet
numbers_rise s = (ap (λ (b : List ℕ). heading ++ b) (entries_answer (lines s) initial), passing_rises (lines s) initial)

-- ---- AS BEFORE: a sheet whose serials rise is answered as 01 has it, where "the program doesn't look" at the lines before
abbrev pub looks_not : Machine (Unit {0})
looks_not = record { next = λ s l. record { bytes = (reply l).bytes; state = s }; end = λ s. [] }

own_line : (l : Line) (largest : ℤ) (zs : List ℤ) → Rises largest (with_serial (serial_of l) zs) →
    (reply_after largest l ≡ reply_of l) × Rises (largest_with (serial_of l) largest) zs
unfolding reply_after
own_line line.Malformed largest zs r = (refl, r)
own_line (line.Exp serial n exponent start) largest zs r = rw (lt_le_z r.0) (refl, r.1)
own_line (line.Log serial n point) largest zs r = rw (lt_le_z r.0) (refl, r.1)

as_before : (ls : List (List ℕ)) (s : State) → Rises s.largest (serials ls) → answers machine s ls ≡ answers looks_not tt ls
unfolding answers answer_line serials reply
as_before [] s r = refl
as_before (l ∷ ls) s r =
    let o = own_line (read_line l) s.largest (serials ls) r in
    let rest = as_before ls (answer_line s l).state o.1 in
    λ i. (o.0 i).bytes ++ rest i

pub rising_as_before : (s : List ℕ) → Rises (pos 0) (serials (lines s)) → sheet s ≡ heading ++ answers looks_not tt (lines s)
unfolding sheet
rising_as_before s r = ap (λ (b : List ℕ). heading ++ b) (as_before (lines s) initial r)

-- a line alone is such a sheet: so the call of a line, which has no sheet, answers it as the program does at the top of one
top_rises : (n : Option ℤ) → Ranged n → Rises (pos 0) (with_serial n [])
top_rises None h = tt
top_rises (Some serial) h = (lin< (serial ∷ []) ((between_true h).0 & none) (search reify depth 20) tt, tt)

pub line_alone : (l : List ℕ) → (answer_line initial l).bytes ≡ (reply l).bytes
unfolding answer_line reply
line_alone l = ap (λ (a : Reply). a.bytes) (own_line (read_line l) (pos 0) [] (top_rises (serial_of (read_line l)) (line_serial l))).0
