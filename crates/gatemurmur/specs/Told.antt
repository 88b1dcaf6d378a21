-- What goes out to C: the definition's answers as structs of numbers. What a struct has nothing to say of is 0.
-- Assumes nothing.
use Rattle.std.specs.Prelude.{ℕ, List, ◌≡◌}
use Rattle.standard.specs.Segments.{Part}
use Rattle.standard.specs.Encode.{Answer, refused, accepted, Return}
use Rattle.standard.specs.Read.{Reading, unread, read_as, Read, Reads}
use Rattle.gatemurmur.specs.declared.Answer.{Answer as AnswerNumbers}
use Rattle.gatemurmur.specs.declared.Reading.{Reading as ReadingNumbers}

-- ---- encoding

-- a refusal: its number and two details
abbrev pub refused_as : ℕ → ℕ → ℕ → AnswerNumbers
refused_as n a b = record { number = n; version = 0; level = 0; mask = 0; first = a; second = b }

abbrev pub answer_as : Answer → AnswerNumbers
answer_as (refused e) = refused_as e.number e.first e.second
answer_as (accepted v l m) = record { number = 0; version = v; level = l; mask = m; first = 0; second = 0 }

-- the struct, and the lent memory at the return
pub record Told : Type 0 where
  pub answer : AnswerNumbers
  pub grid : List ℕ
  pub scratch : List ℕ

abbrev pub told : Return → Told
told r = record { answer = answer_as r.answer; grid = r.grid; scratch = r.scratch }

-- ---- reading

abbrev pub unread_as : ℕ → ℕ → ℕ → ReadingNumbers
unread_as n a b =
    record { number = n; version = 0; level = 0; mask = 0; records = 0; text = 0; first = a; second = b }

abbrev pub reading_as : Reading → ReadingNumbers
reading_as (unread e) = unread_as e.number e.first e.second
reading_as (read_as v l m n k) =
    record { number = 0; version = v; level = l; mask = m; records = n; text = k; first = 0; second = 0 }

pub record ReadTold : Type 0 where
  pub answer : ReadingNumbers
  pub text : List ℕ
  pub records : List Part
  pub scratch : List ℕ

abbrev pub read_told : Read → ReadTold
read_told r =
    record { answer = reading_as r.answer; text = r.text; records = r.records; scratch = r.scratch }

-- what is told is what the reader's relation allows
pub record Tells (g : List ℕ) (s : ℕ) (text : List ℕ) (records : List Part) (scratch : List ℕ) (out : ReadTold) : Type 0 where
  pub outcome : Read
  pub reads : Reads g s text records scratch outcome
  pub tells : out ≡ read_told outcome
