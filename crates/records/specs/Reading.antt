-- What the core reads into numbers, and the records that are packed from them.
-- Assumes nothing.
use Prim.Native.Nat.{ℕ, ◌*◌, ◌≤◌, min}
use Rattle.std.specs.Prelude.{true, false, ◌≡◌, refl, ltb, take, Ok, Err}
use mathlib.Core.List.{List, ◌++◌}
use Rattle.std.proofs.Common.{sym, ◌∙◌, subst, arith, length-take-le, take_at}
use Rattle.std.proofs.Math.Path.{ap}
use Rattle.std.proofs.Math.ListN.{length, drop}
use Rattle.standard.specs.Segments.{Part}
use Rattle.standard.specs.Plan.{Refusal, refusal}
use Rattle.standard.specs.Label.{Label}
use Rattle.standard.specs.Read.{unread, read_as, Read, refuse_to, characters, written, labelled, Reads}
use Rattle.reader.specs.Answers.{Outcome, answer_of, read_of}
use Rattle.reader.specs.Numbers.{ReadsNumbers}
use Rattle.records.specs.declared.Record.{Record}
use Rattle.records.specs.Records.{parts, packed}

-- how many records an answer says to have written
abbrev pub count : Outcome → ℕ
count (Ok a) = a.records
count (Err e) = 0

-- the core reads into the numbers of as many records as have room, and of at most 2,048
abbrev pub ReadsIn : List ℕ → ℕ → List ℕ → ℕ → List ℕ → List ℕ → Outcome → List ℕ → List ℕ → List ℕ → Type 0
ReadsIn g s text room ns scratch r o ns' z = ReadsNumbers g s text (take (4 * min room 2048) ns) scratch r o (take (4 * min room 2048) ns') z

-- the numbers as the code cuts them off and puts them back
pub part_read : (g : List ℕ) (s : ℕ) (text : List ℕ) (room : ℕ) (ns scratch : List ℕ) (r : Outcome) (o w z : List ℕ) (k : ℕ) → k ≡ min room 2048 → length w ≡ length (take (4 * k) ns) → 4 * min room 2048 ≤ length ns
    → ReadsNumbers g s text (take (4 * k) ns) scratch r o w z → ReadsIn g s text room ns scratch r o (w ++ drop (4 * k) ns) z
part_read g s text room ns scratch r o w z k e lw long f =
    let c : 4 * k ≡ 4 * min room 2048 = omega arith in
    let full : length w ≡ 4 * min room 2048 = lw ∙ ap (λ (i : ℕ). length (take i ns)) c ∙ length-take-le (4 * min room 2048) ns (omega arith) in
    let back : take (4 * min room 2048) (w ++ drop (4 * k) ns) ≡ w = take_at w (drop (4 * k) ns) (4 * min room 2048) full in
    subst (λ (q : List ℕ). ReadsNumbers g s text (take (4 * min room 2048) ns) scratch r o q z) (sym back) (subst (λ (i : ℕ). ReadsNumbers g s text (take i ns) scratch r o w z) c f)

-- ---- the parts of an answer

pub count_none : (r : Outcome) (e : Refusal) → answer_of r ≡ unread e → count r ≡ 0
count_none (Err f) e q = refl
count_none (Ok a) e q = absurd (let z : ◌≡◌ {A = ℕ} 0 1 = cc in omega arith)

count_some : (r : Outcome) (v l m n k : ℕ) → answer_of r ≡ read_as v l m n k → count r ≡ n
count_some (Err f) v l m n k q = absurd (let z : ◌≡◌ {A = ℕ} 0 1 = cc in omega arith)
count_some (Ok a) v l m n k q = same a.version.value _ a.mask.value a.records a.text q
  where
    same : (a b d c t : ℕ) → read_as a b d c t ≡ read_as v l m n k → c ≡ n
    same a b d c t q = cc

-- ---- a label, by how much room there is

module _ (a : Label) (text : List ℕ) (ps : List Part) (c : List ℕ) where
  pub text_short : ltb (length text) (length (characters a.segments)) ≡ true → labelled a text ps c ≡ refuse_to (refusal 15 (length (characters a.segments)) 0) text ps c
  unfolding labelled
  text_short e = rw e

  module _ (e : ltb (length text) (length (characters a.segments)) ≡ false) where
    pub records_short : ltb (length ps) (length a.segments) ≡ true → labelled a text ps c ≡ refuse_to (refusal 16 (length a.segments) 0) text ps c
    unfolding labelled
    records_short f = rw (e, f)

    pub all_fit : ltb (length ps) (length a.segments) ≡ false → labelled a text ps c ≡ written a text ps c
    unfolding labelled
    all_fit f = rw (e, f)

-- a label is written with as many records as it has segments
pub count_written : (r : Outcome) (a : Label) (text o : List ℕ) (ps qs : List Part) (c z : List ℕ) → read_of r o qs z ≡ written a text ps c → count r ≡ length a.segments
unfolding written
count_written r a text o ps qs c z q = count_some r a.version a.level a.mask (length a.segments) (length (characters a.segments)) (ap (λ (y : Read). y.answer) q)

-- ---- the relation

module _ (g : List ℕ) (s : ℕ) (text : List ℕ) (rs : List Record) (scratch : List ℕ) (r : Outcome) (o ns z : List ℕ) where
  -- the records that are packed, and the return
  abbrev after : List Part
  after = parts (packed (count r) ns rs)

  pub record Packed : Type 0 where
    pub reads : Reads g s text (parts rs) scratch (read_of r o after z)
    pub few : count r ≤ min (length rs) 2048
