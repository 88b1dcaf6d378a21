-- The entry: what the first checks come to, and scratch that is drawn in and then zeroed.
-- Assumes nothing.
use Rattle.std.specs.Prelude.{ℕ, ◌+◌, ◌-◌, ◌*◌, ◌/◌, ◌≤◌, List, ◌++◌, ◌≡◌, refl, length, take, drop, replicate, Result, Ok, Err}
use Rattle.std.proofs.Common.{sym, ap, ap₂, ◌∙◌, subst, arith, length-append, length-take, length-drop, drop-drop, take_at}
use Rattle.std.proofs.lemmas.List.{length-replicate, replicate-append-replicate}
use Rattle.std.proofs.Math.Seq.{drop-append-add}
use Rattle.standard.specs.Sizes.{side, raw_modules, raw_codewords, data_codewords}
use Rattle.standard.specs.Encode.{zeroed}
use Rattle.laws.specs.Grid.{Square, area_small}
use Rattle.modules.specs.Work.{Small}
use Rattle.types.specs.declared.Version.{Version}
use Rattle.types.specs.declared.QrCodeEcc.{QrCodeEcc}
use Rattle.types.specs.Numbers.{level_of}
use Rattle.reader.specs.declared.Refusal.{Refusal}
use Rattle.reader.specs.Early.{above_none}
use Rattle.standard.specs.Read.{first_above, nothing, refused_by, first_refusal, Finds, refuses, looks}
use Rattle.segments.specs.Records.{parts_of}
use Rattle.reader.specs.Answers.{Outcome, refusal_of, read_of, Checks}
use Rattle.reader.specs.Numbers.{FindsNumbers, ReadsNumbers}
use Rattle.reader.specs.Recovered.{raw_fits, data_fits, Looks}

-- ---- parts of arrays

part_long : (n m : ℕ) (xs : List ℕ) → n ≤ length xs → n ≡ m → length (take (n - 0) xs) ≡ m
part_long n m xs h e = length-take (n - 0) xs ∙ omega arith

pub raw_part : (v n : ℕ) → n ≡ raw_modules v → 1 ≤ v → v ≤ 40 → take (n / 8 + 1 - 0) (replicate {A = ℕ} 3707 0) ≡ replicate (raw_codewords v + 1) 0
unfolding raw_codewords
raw_part v n e low high =
    let k : 3707 ≡ raw_modules v / 8 + 1 + (3706 - raw_modules v / 8) = omega (arith, raw_fits v n e low high) in
    let d : n / 8 + 1 - 0 ≡ raw_modules v / 8 + 1 = omega arith in
    ap₂ (λ (a b : ℕ). take a (replicate {A = ℕ} b 0)) d k
    ∙ ap (take (raw_modules v / 8 + 1)) (sym (replicate-append-replicate {A = ℕ} (raw_modules v / 8 + 1) (3706 - raw_modules v / 8) 0))
    ∙ take_at {A = ℕ} (replicate (raw_modules v / 8 + 1) 0) (replicate (3706 - raw_modules v / 8) 0) (raw_modules v / 8 + 1) (length-replicate {A = ℕ} (raw_modules v / 8 + 1) 0)

pub data_part : (v n : ℕ) (ecl : QrCodeEcc) (xs : List ℕ) → n ≡ data_codewords v (level_of ecl) → 1 ≤ v → v ≤ 40 → 2956 ≤ length xs
    → length (take (n - 0) xs) ≡ data_codewords v (level_of ecl)
data_part v n ecl xs e low high h = part_long n (data_codewords v (level_of ecl)) xs (omega (arith, data_fits v n ecl e low high)) e

-- ---- scratch

pub area_square : (v s : ℕ) (xs : List ℕ) → s ≡ side v → v ≤ 40 → 40_000 ≤ length xs → Square (take (s * s - 0) xs) (side v)
area_square v s xs e high h =
    let b : s * s ≤ 31329 = area_small v s e high in
    record { size = part_long (s * s) (side v * side v) xs (omega arith) (ap (λ (x : ℕ). x * x) e); small = omega arith }

pub zeroed_all : (s w z : List ℕ) (n : ℕ) → length w ≡ length (take (n - 0) s) → n ≤ 31329 → 40_000 ≤ length s → z ≡ replicate (length (take (40_000 - 0) (w ++ drop (n - 0) s))) 0
    → z ++ drop (40_000 - 0) (w ++ drop (n - 0) s) ≡ zeroed s
zeroed_all s w z n e small h q =
    let zn : n - 0 ≡ n = omega arith in
    let lw : length w ≡ n = e ∙ length-take (n - 0) s ∙ omega arith in
    let split : 40_000 ≡ length w + (40_000 - n) = omega arith in
    let back : n + (40_000 - n) ≡ 40_000 = omega arith in
    let long : length (take 40_000 (w ++ drop (n - 0) s)) ≡ 40_000 = length-take 40_000 (w ++ drop (n - 0) s) ∙ omega (arith, length-append w (drop (n - 0) s), length-drop (n - 0) s) in
    let tail : drop 40_000 (w ++ drop (n - 0) s) ≡ drop 40_000 s =
    ap (λ (k : ℕ). drop k (w ++ drop (n - 0) s)) split ∙ drop-append-add w (drop (n - 0) s) (40_000 - n)
    ∙ ap (λ (k : ℕ). drop (40_000 - n) (drop k s)) zn ∙ drop-drop (40_000 - n) n s ∙ ap (λ (k : ℕ). drop k s) back in
    ap₂ (λ (a b : List ℕ). a ++ b) (q ∙ ap (λ (k : ℕ). replicate k 0) long) tail

pub zeroed_length : (s : List ℕ) → 40_000 ≤ length s → length (zeroed s) ≡ length s
zeroed_length s h = length-append (replicate 40_000 0) (drop 40_000 s) ∙ omega (arith, length-replicate {A = ℕ} 40_000 0, length-drop 40_000 s)

pub finds_zeroed : (g text records s t : List ℕ) (r : Outcome) (o q : List ℕ) → Looks g text records r o q → t ≡ zeroed s → FindsNumbers g text records (zeroed s) r o q t
finds_zeroed g text records s t r o q l e =
    record { finds = subst (λ (z : List ℕ). Finds g text (parts_of records) (zeroed s) (read_of r o (parts_of q) z)) (sym e) (l.at (zeroed s)); rest = l.rest }

-- ---- the first checks

module _ (g : List ℕ) (s : ℕ) (scratch : List ℕ) (e : Result Version Refusal) (is : Checks g s (length scratch) e) where
  pub reads_refused : (text records : List ℕ) (f : Refusal) → e ≡ Err f → ReadsNumbers g s text records scratch (Err f) text records scratch
  reads_refused text records f was =
      let k : first_refusal g s (length scratch) ≡ refused_by (refusal_of f) = subst (Checks g s (length scratch)) was is in
      record { reads = refuses (refusal_of f) k refl; rest = refl }

  module _ (v : Version) (was : e ≡ Ok v) where
    fine : (first_refusal g s (length scratch) ≡ nothing) × (s ≡ side v.value) × (length g ≡ side v.value * side v.value) × (40_000 ≤ length scratch) × (length g ≤ first_above g)
    fine = subst (Checks g s (length scratch)) was is

    pub fine_grid : Square g (side v.value)
    fine_grid = record { size = fine.2; small = omega (arith, v.in_range.1) }

    pub fine_room : 40_000 ≤ length scratch
    fine_room = fine.3

    pub fine_small : Small v.value g
    fine_small i h = above_none g fine.4 i (omega (arith, fine.2))

    pub reads_found : (text records : List ℕ) (r : Outcome) (o q z : List ℕ) → FindsNumbers g text records (zeroed scratch) r o q z → ReadsNumbers g s text records scratch r o q z
    reads_found text records r o q z f = record { reads = looks fine.0 f.finds; rest = f.rest }
