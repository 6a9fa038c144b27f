-- A machine that answers a sheet line by line, and the same sheet read in pieces (01, A sheet line).
use Rattle.std.specs.Prelude.{cond, ◌&&◌, List, [], ◌∷◌, ◌++◌, ℕ, suc, ◌-◌, ltb, eqb, length, take}
use Rattle.text.specs.Line.{longest_line}
use Rattle.text.specs.Answer.{answer_room}

-- ---- THE LINES of a sheet: "Lines end with byte 10; a last line without it counts if it isn't empty"
unfoldable pub last_line : List ℕ → List (List ℕ)
last_line [] = []
last_line (c ∷ cs) = (c ∷ cs) ∷ []

-- the first one behind what was already read of it
unfoldable pub lines_from : List ℕ → List ℕ → List (List ℕ)
lines_from begun [] = last_line begun
lines_from begun (c ∷ cs) = cond (eqb c 10) (begun ∷ lines_from [] cs) (lines_from (begun ++ c ∷ []) cs)

abbrev pub lines : List ℕ → List (List ℕ)
lines s = lines_from [] s

-- ---- A MACHINE: in a state it answers a line and goes on in another; it may add bytes at the sheet's end
pub record Outcome (σ : Type 0) : Type 0 where
  pub bytes : List ℕ
  pub state : σ

pub record Machine (σ : Type 0) : Type 0 where
  pub next : σ → List ℕ → Outcome σ
  pub end : σ → List ℕ

module _ {σ : Type 0} (m : Machine σ) where
  -- what lines are answered from a state on, one after the other, and then the sheet's end
  unfoldable pub answers : σ → List (List ℕ) → List ℕ
  answers s [] = m.end s
  answers s (l ∷ ls) = (m.next s l).bytes ++ answers (m.next s l).state ls

-- ---- A PLACE in a sheet: the state there, and what was read of the line that has begun
pub record Place (σ : Type 0) : Type 0 where
  pub state : σ
  pub begun : List ℕ

-- "an input line too long to have the form above is malformed up to its newline": so many bytes of a line that has begun are kept
abbrev pub kept_bytes : ℕ
kept_bytes = suc longest_line

module _ {σ : Type 0} where
  -- where a line begins
  abbrev pub new_line : σ → Place σ
  new_line s = record { state = s; begun = [] }

  -- where it goes on
  abbrev pub go_on : Place σ → List ℕ → Place σ
  go_on p xs = record { state = p.state; begun = p.begun ++ xs }

  -- with what is kept of it
  abbrev pub cut : Place σ → Place σ
  cut p = record { state = p.state; begun = take kept_bytes p.begun }

module _ {σ : Type 0} (m : Machine σ) where
  -- ---- a byte read at a place: byte 10 ends the line there, any other goes on with it
  abbrev pub line_end : Place σ → Outcome σ
  line_end p = m.next p.state p.begun

  abbrev pub byte_answer : Place σ → ℕ → List ℕ
  byte_answer p c = cond (eqb c 10) (line_end p).bytes []

  abbrev pub byte_after : Place σ → ℕ → Place σ
  byte_after p c = cond (eqb c 10) (new_line (line_end p).state) (go_on p (c ∷ []))

  -- ---- bytes read from a place on: what they are answered
  unfoldable pub answers_from : Place σ → List ℕ → List ℕ
  answers_from p [] = []
  answers_from p (c ∷ cs) = byte_answer p c ++ answers_from (byte_after p c) cs

  -- the place that they lead to
  unfoldable pub place_after : Place σ → List ℕ → Place σ
  place_after p [] = p
  place_after p (c ∷ cs) = place_after (byte_after p c) cs

  -- how many are read with room for so many bytes: up to the first byte 10 that finds too little room for a line's answer
  unfoldable pub read_within : ℕ → Place σ → List ℕ → ℕ
  read_within room p [] = 0
  read_within room p (c ∷ cs) =
      cond (eqb c 10 && ltb room answer_room) 0 (suc (read_within (room - length (byte_answer p c)) (byte_after p c) cs))

  -- ---- and what is answered where the sheet ends
  unfoldable pub answers_at_end : Place σ → List ℕ
  answers_at_end p = answers m p.state (last_line p.begun)
