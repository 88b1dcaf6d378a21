-- The core's records: numbers, four to a record, and up to three after the last whole one, which stay.
-- Assumes nothing.
use Rattle.std.specs.Prelude.{ℕ, zero, suc, ◌+◌, ◌-◌, ◌*◌, ◌/◌, ◌≤◌, ◌<◌, List, [], ◌∷◌, ◌++◌, ◌≡◌, refl, length, get_or, take, drop}
use Rattle.std.proofs.Common.{sym, ap, ap₂, ◌∙◌, arith, take-append-drop, drop-drop}
use Rattle.std.proofs.Math.Seq.{drop-append-add}
use Rattle.standard.specs.Numbers.{tabulate}
use Rattle.standard.specs.Segments.{Part}
use Rattle.standard.specs.Read.{Read, Finds, Reads}
use Rattle.laws.specs.Lists.{get_d_tabulate, is_tabulate}
use Rattle.segments.specs.Records.{part_of, part_at, parts_of, parts_length}
use Rattle.parser.specs.Written.{numbers_of}
use Rattle.parser.specs.Meaning.{length_numbers, part_later}
use Rattle.reader.specs.Answers.{Outcome, read_of}
use Rattle.reader.specs.Theorems.{read_unique}

-- what follows the last whole record is as it was
abbrev pub Rest : List ℕ → List ℕ → Type 0
Rest records q = drop (4 * (length records / 4)) q ≡ drop (4 * (length records / 4)) records

-- the definition's relations, of the records that the numbers stand for
pub record FindsNumbers (g text records z : List ℕ) (r : Outcome) (o q s : List ℕ) : Type 0 where
  pub finds : Finds g text (parts_of records) z (read_of r o (parts_of q) s)
  pub rest : Rest records q

pub record ReadsNumbers (g : List ℕ) (s : ℕ) (text records scratch : List ℕ) (r : Outcome) (o q z : List ℕ) : Type 0 where
  pub reads : Reads g s text (parts_of records) scratch (read_of r o (parts_of q) z)
  pub rest : Rest records q

-- ---- the first record, and the others

parts_cons : (a b c d : ℕ) (l : List ℕ) → parts_of (a ∷ b ∷ c ∷ d ∷ l) ≡ part_of a b c d ∷ parts_of l
unfolding parts_of
parts_cons a b c d l =
    let n : length (a ∷ b ∷ c ∷ d ∷ l) / 4 ≡ suc (length l / 4) = omega arith in
    let f : ℕ → Part = part_at (a ∷ b ∷ c ∷ d ∷ l) in
    ap (λ (k : ℕ). tabulate k f) n ∙ sym (is_tabulate (part_of 0 0 0 0) (part_of a b c d ∷ parts_of l) (suc (length l / 4)) f (ap suc (parts_length l)) at)
  where
    at : (i : ℕ) → i < suc (length l / 4) → get_or (part_of a b c d ∷ parts_of l) i (part_of 0 0 0 0) ≡ part_at (a ∷ b ∷ c ∷ d ∷ l) i
    at zero h = refl
    at (suc i) h = get_d_tabulate (length l / 4) (part_at l) i (part_of 0 0 0 0) (omega arith) ∙ sym (part_later (part_of a b c d) l i)

-- ---- records that are written from the start on

pub parts_after : (n : ℕ) (ps : List Part) (q : List ℕ) → length ps ≡ n → n ≤ length q / 4 → parts_of (numbers_of ps ++ drop (4 * n) q) ≡ ps ++ drop n (parts_of q)
parts_after zero [] q e h = refl
parts_after zero (p ∷ ps) q e h = absurd (omega arith)
parts_after (suc n) [] q e h = absurd (omega arith)
parts_after (suc n) (p ∷ ps) [] e h = absurd (omega arith)
parts_after (suc n) (p ∷ ps) (a ∷ []) e h = absurd (omega arith)
parts_after (suc n) (p ∷ ps) (a ∷ b ∷ []) e h = absurd (omega arith)
parts_after (suc n) (p ∷ ps) (a ∷ b ∷ c ∷ []) e h = absurd (omega arith)
parts_after (suc n) (p ∷ ps) (a ∷ b ∷ c ∷ d ∷ q) e h =
    let four : 4 * suc n ≡ suc (suc (suc (suc (4 * n)))) = omega arith in
    ap (λ (k : ℕ). parts_of (numbers_of (p ∷ ps) ++ drop k (a ∷ b ∷ c ∷ d ∷ q))) four
    ∙ parts_cons p.kind p.start p.len p.assign (numbers_of ps ++ drop (4 * n) q)
    ∙ ap (λ (l : List Part). p ∷ l) (parts_after n ps q (omega arith) (omega arith))
    ∙ ap (λ (l : List Part). p ∷ (ps ++ drop (suc n) l)) (sym (parts_cons a b c d q))

pub rest_after : (n : ℕ) (ps : List Part) (q : List ℕ) → length ps ≡ n → n ≤ length q / 4 → Rest q (numbers_of ps ++ drop (4 * n) q)
rest_after n ps q e h =
    let k : ℕ = 4 * (length q / 4) - 4 * n in
    let far : 4 * (length q / 4) ≡ length (numbers_of ps) + k = omega (arith, length_numbers ps) in
    let back : 4 * n + k ≡ 4 * (length q / 4) = omega arith in
    ap (λ (i : ℕ). drop i (numbers_of ps ++ drop (4 * n) q)) far ∙ drop-append-add (numbers_of ps) (drop (4 * n) q) k ∙ drop-drop k (4 * n) q ∙ ap (λ (i : ℕ). drop i q) back

-- ---- the numbers are determined

numbers_back : (q : List ℕ) → numbers_of (parts_of q) ≡ take (4 * (length q / 4)) q
unfolding parts_of
numbers_back [] = refl
numbers_back (a ∷ []) = refl
numbers_back (a ∷ b ∷ []) = refl
numbers_back (a ∷ b ∷ c ∷ []) = refl
numbers_back (a ∷ b ∷ c ∷ d ∷ q) =
    let n : 4 * (length (a ∷ b ∷ c ∷ d ∷ q) / 4) ≡ suc (suc (suc (suc (4 * (length q / 4))))) = omega arith in
    ap numbers_of (parts_cons a b c d q) ∙ ap (λ (l : List ℕ). a ∷ b ∷ c ∷ d ∷ l) (numbers_back q) ∙ sym (ap (λ (k : ℕ). take k (a ∷ b ∷ c ∷ d ∷ q)) n)

from_parts : (records q : List ℕ) → length q ≡ length records → Rest records q → q ≡ numbers_of (parts_of q) ++ drop (4 * (length records / 4)) records
from_parts records q e rest =
    sym (take-append-drop (4 * (length records / 4)) q)
    ∙ ap₂ (λ (x y : List ℕ). x ++ y) (ap (λ (n : ℕ). take (4 * (n / 4)) q) (sym e) ∙ sym (numbers_back q)) rest

-- THE LAW: any two outcomes that meet the core's relation are equal, and leave the same numbers
pub numbers_unique : (g : List ℕ) (s : ℕ) (text records scratch : List ℕ) (r t : Outcome) (o p q u y z : List ℕ) → length q ≡ length records → length u ≡ length records
    → ReadsNumbers g s text records scratch r o q y → ReadsNumbers g s text records scratch t p u z → (read_of r o (parts_of q) y ≡ read_of t p (parts_of u) z) × (q ≡ u)
numbers_unique g s text records scratch r t o p q u y z lq lu a b =
    let e = read_unique g s text (parts_of records) scratch (read_of r o (parts_of q) y) (read_of t p (parts_of u) z) a.reads b.reads in
    (e, from_parts records q lq a.rest ∙ ap (λ (x : Read). numbers_of x.records ++ drop (4 * (length records / 4)) records) e ∙ sym (from_parts records u lu b.rest))
