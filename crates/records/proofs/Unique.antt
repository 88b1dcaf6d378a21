-- Any two outcomes that meet the reading entry's promise are equal: the answer and all lent memory, the records and those beyond them.
-- Assumes nothing.
use Rattle.std.specs.Prelude.{ℕ, zero, suc, List, [], ◌∷◌, ◌++◌, map, ◌≡◌, refl, length, drop}
use Rattle.std.proofs.Common.{sym, ap, ◌∙◌, drop_at}
use Rattle.standard.specs.Segments.{Part, Segment}
use Rattle.standard.specs.Encode.{zeroed}
use Rattle.standard.specs.Label.{Label}
use Rattle.standard.specs.Read.{read_as, Read, characters, records_from, written, Reads}
use Rattle.reader.specs.Answers.{Outcome, answer_of, read_of}
use Rattle.reader.specs.Theorems.{read_unique, Accepts, accepts_only}
use Rattle.reader.specs.Redraw.{records_length}
use Rattle.records.specs.declared.Record.{Record}
use Rattle.records.specs.Records.{parts}

-- ---- no two lists of records are the same list of the definition's

record_of : Part → Record
record_of p = record { kind = p.kind; start = p.start; length = p.len; assign = p.assign }

records_back : (rs : List Record) → map record_of (parts rs) ≡ rs
unfolding record_of
records_back [] = refl
records_back (r ∷ rs) = ap (λ (l : List Record). r ∷ l) (records_back rs)

pub parts_one : (rs qs : List Record) → parts rs ≡ parts qs → rs ≡ qs
parts_one rs qs e = sym (records_back rs) ∙ ap (map record_of) e ∙ records_back qs

parts_drop : (n : ℕ) (rs : List Record) → drop n (parts rs) ≡ parts (drop n rs)
parts_drop zero rs = refl
parts_drop (suc n) [] = refl
parts_drop (suc n) (r ∷ rs) = parts_drop n rs

-- ---- the reading entry

pub read_records_unique : (g : List ℕ) (s : ℕ) (text : List ℕ) (rs : List Record) (scratch : List ℕ) (r t : Outcome) (o p : List ℕ) (q u : List Record) (y z : List ℕ)
    → Reads g s text (parts rs) scratch (read_of r o (parts q) y) → Reads g s text (parts rs) scratch (read_of t p (parts u) z) → (read_of r o (parts q) y ≡ read_of t p (parts u) z) × (q ≡ u)
read_records_unique g s text rs scratch r t o p q u y z a b =
    let e = read_unique g s text (parts rs) scratch (read_of r o (parts q) y) (read_of t p (parts u) z) a b in
    (e, parts_one q u (ap (λ (x : Read). x.records) e))

same_count : (v l m n k w j i c t : ℕ) → read_as v l m n k ≡ read_as w j i c t → n ≡ c
same_count v l m n k w j i c t e = cc

-- the records beyond those that are written stay
pub records_stay : (g : List ℕ) (s : ℕ) (text : List ℕ) (rs : List Record) (scratch : List ℕ) (r : Outcome) (o : List ℕ) (q : List Record) (y : List ℕ) (v l m n k : ℕ)
    → Reads g s text (parts rs) scratch (read_of r o (parts q) y) → answer_of r ≡ read_as v l m n k → drop n q ≡ drop n rs
unfolding written
records_stay g s text rs scratch r o q y v l m n k x e =
    let A : Accepts g text (parts rs) (zeroed scratch) (read_of r o (parts q) y) = accepts_only g s text (parts rs) scratch (read_of r o (parts q) y) v l m n k x e in
    let a : Label = A.label in
    let ss : List Segment = a.segments in
    let many : n ≡ length ss = same_count v l m n k a.version a.level a.mask (length ss) (length (characters ss)) (sym e ∙ ap (λ (t : Read). t.answer) A.returned) in
    let held : parts q ≡ records_from 0 ss ++ drop (length ss) (parts rs) = ap (λ (t : Read). t.records) A.returned in
    parts_one (drop n q) (drop n rs)
    (sym (parts_drop n q) ∙ ap (drop n) held ∙ ap (λ (c : ℕ). drop n (records_from 0 ss ++ drop c (parts rs))) (sym many)
    ∙ drop_at (records_from 0 ss) (drop n (parts rs)) n (records_length 0 ss ∙ sym many) ∙ parts_drop n rs)
