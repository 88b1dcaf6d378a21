-- All codewords, as the code puts them together: the interleaved data bytes, then the interleaved check bytes.
-- n blocks, s data bytes in a short one, b short ones, c check bytes in each. Assumes nothing.
use Rattle.std.specs.Prelude.{ℕ, ◌+◌, ◌-◌, ◌*◌, ◌/◌, ◌%◌, ◌≤◌, ◌<◌, Bool, true, false, ◌≡◌, refl, length, take, drop, ltb}
use mathlib.Core.List.{List, [], ◌++◌, append-nil}
use Rattle.std.proofs.Math.Path.{sym}
use Rattle.std.proofs.Common.{ap, ap₂, ◌∙◌, div-lt_iff_lt-mul, arith, length-append, length-take, length-drop, take_all, drop_of_length-le, ext_get_or, get_or-append-add, ltb-true, ltb-false}
use Rattle.std.proofs.Math.Nat.{mod-lt, zero-add}
use Rattle.std.proofs.Math.ListN.{get_or, get_or-append}
use Rattle.std.proofs.Math.Seq.{take-append_seam, drop-append_seam}
use Rattle.std.proofs.Math.Arith.{digits_div, digits_mod, digits_lt}
use Rattle.standard.specs.Sizes.{raw_codewords, check_bytes, blocks, data_codewords, short_blocks, short_length}
use Rattle.standard.specs.Field.{divisor, check}
use Rattle.standard.specs.Blocks.{block_length, block_start, block, all_words}
use Rattle.counts.specs.Ranges.{PairRange}
use Rattle.field.specs.Division.{length_check, remainder_check}
use Rattle.laws.specs.Lists.{length_tabulate, get_d_tabulate}
use Rattle.laws.specs.Joins.{join_at}
use Rattle.laws.specs.Each.{each}
use Rattle.blocks.specs.Places.{check_some, all_long, all_data, all_check}
use Rattle.blocks.specs.Shape.{start_in, source_in}
use Rattle.blocks.specs.Running.{source_even}
use Rattle.blocks.specs.Checks.{length_in, rest_in, rests_in, checks_in}

pub length_each : (f : ℕ → ℕ → ℕ) (g : List ℕ) → length (each f g) ≡ length g
unfolding each
length_each f g = length_tabulate (length g) (λ k. f k (get_or g k 0))

pub get_d_each : (f : ℕ → ℕ → ℕ) (g : List ℕ) (i : ℕ) → i < length g → get_or (each f g) i 0 ≡ f i (get_or g i 0)
unfolding each
get_d_each f g i h = get_d_tabulate (length g) (λ k. f k (get_or g k 0)) i 0 h

rest_is : (v l : ℕ) (xs : List ℕ) (i : ℕ) → rest_in (divisor (check_bytes v l)) (short_length v l) (short_blocks v l) xs i ≡ check (check_bytes v l) (block v l xs i)
unfolding block block_length block_start
rest_is v l xs i = remainder_check (check_bytes v l) (take (length_in (short_length v l) (short_blocks v l) i) (drop (start_in (short_length v l) (short_blocks v l) i) xs))

rest_length : (v l : ℕ) (xs : List ℕ) (i : ℕ) → length (rest_in (divisor (check_bytes v l)) (short_length v l) (short_blocks v l) xs i) ≡ check_bytes v l
rest_length v l xs i = ap length (rest_is v l xs i) ∙ length_check (check_bytes v l) (block v l xs i)

module _ (v l : ℕ) (xs checks a b : List ℕ) (sh : PairRange v l) (full : length xs ≡ data_codewords v l) where
  check_read : (q : ℕ) → q < check_bytes v l * blocks v l
      → get_or (rests_in (divisor (check_bytes v l)) (short_length v l) (short_blocks v l) xs (blocks v l)) (q % blocks v l * check_bytes v l + q / blocks v l) 0
      ≡ get_or (all_words v l xs) (data_codewords v l + q) 0
  unfolding rests_in
  check_read q h =
      let m : q % blocks v l < blocks v l = mod-lt q sh.some in
      let d : q / blocks v l < check_bytes v l = (div-lt_iff_lt-mul sh.some).1 h in
      join_at 0 (blocks v l) (check_bytes v l) (rest_in (divisor (check_bytes v l)) (short_length v l) (short_blocks v l) xs)
      (λ i low high. rest_length v l xs i)
      (check_some v l sh) (q % blocks v l * check_bytes v l + q / blocks v l) (digits_lt m d)
      ∙ rw (digits_div (q % blocks v l) d, digits_mod (q % blocks v l) d, zero-add (q % blocks v l))
      (ap (λ (t : List ℕ). get_or t (q / blocks v l) 0) (rest_is v l xs (q % blocks v l)) ∙ sym (all_check v l xs sh full q h))

  -- the two parts that the code writes are all codewords
  pub all_written : length a ≡ data_codewords v l → length b ≡ check_bytes v l * blocks v l → checks ≡ rests_in (divisor (check_bytes v l)) (short_length v l) (short_blocks v l) xs (blocks v l)
      → each (λ p _. get_or xs (source_in (blocks v l) (short_length v l) (short_blocks v l) p) 0) a ++ each (λ q _. get_or checks (source_in (blocks v l) (check_bytes v l) (blocks v l) q) 0) b ≡ all_words v l xs
  all_written la lb rest =
      ext_get_or 0 (A ++ Z) (all_words v l xs) (long ∙ sym (all_long v l xs sh full)) (λ p h. go p h (ltb p (data_codewords v l)) refl)
    where
      A : List ℕ
      A = each (λ p _. get_or xs (source_in (blocks v l) (short_length v l) (short_blocks v l) p) 0) a

      Z : List ℕ
      Z = each (λ q _. get_or checks (source_in (blocks v l) (check_bytes v l) (blocks v l) q) 0) b

      long_a : length A ≡ data_codewords v l
      long_a = length_each _ a ∙ la

      long_z : length Z ≡ check_bytes v l * blocks v l
      long_z = length_each _ b ∙ lb

      long : length (A ++ Z) ≡ raw_codewords v
      long = length-append A Z ∙ ap₂ ◌+◌ long_a long_z ∙ sh.whole

      go : (p : ℕ) → p < length (A ++ Z) → (t : Bool) → ltb p (data_codewords v l) ≡ t → get_or (A ++ Z) p 0 ≡ get_or (all_words v l xs) p 0
      go p h true e =
          let s = ltb-true p (data_codewords v l) e in
          get_or-append A Z 0 p (omega (arith, long_a))
          ∙ get_d_each (λ p _. get_or xs (source_in (blocks v l) (short_length v l) (short_blocks v l) p) 0) a p (omega (arith, la))
          ∙ sym (all_data v l xs sh full p s)
      go p h false e =
          let s = ltb-false p (data_codewords v l) e in
          let at : length A + (p - data_codewords v l) ≡ p = omega (arith, long_a) in
          let at' : data_codewords v l + (p - data_codewords v l) ≡ p = omega arith in
          let small : p - data_codewords v l < check_bytes v l * blocks v l = omega (arith, long, sh.whole) in
          ap (λ (k : ℕ). get_or (A ++ Z) k 0) (sym at)
          ∙ get_or-append-add A Z (p - data_codewords v l) 0
          ∙ get_d_each (λ q _. get_or checks (source_in (blocks v l) (check_bytes v l) (blocks v l) q) 0) b (p - data_codewords v l) (omega (arith, lb))
          ∙ ap (λ (k : ℕ). get_or checks k 0) (source_even (blocks v l) (check_bytes v l) (p - data_codewords v l) sh.some small)
          ∙ ap (λ (t : List ℕ). get_or t ((p - data_codewords v l) % blocks v l * check_bytes v l + (p - data_codewords v l) / blocks v l) 0) rest
          ∙ check_read (p - data_codewords v l) small
          ∙ ap (λ (k : ℕ). get_or (all_words v l xs) k 0) at'

-- data and check bytes written over o
unfoldable pub written_in : ℕ → ℕ → ℕ → ℕ → List ℕ → List ℕ → List ℕ → List ℕ
written_in n s b c xs checks o =
    each (λ p _. get_or xs (source_in n s b p) 0) (take (length xs) o) ++ each (λ q _. get_or checks (source_in n c n q) 0) (drop (length xs) o)

-- THE LAW: what the code writes are all codewords
pub all_words_lem : (v l : ℕ) (xs o : List ℕ) → PairRange v l → length xs ≡ data_codewords v l → length o ≡ raw_codewords v
    → written_in (blocks v l) (short_length v l) (short_blocks v l) (check_bytes v l) xs (checks_in (check_bytes v l) (short_length v l) (short_blocks v l) xs (blocks v l)) o ≡ all_words v l xs
unfolding written_in
all_words_lem v l xs o sh full size =
    all_written v l xs (checks_in (check_bytes v l) (short_length v l) (short_blocks v l) xs (blocks v l)) (take (length xs) o) (drop (length xs) o) sh full
    (length-take (length xs) o ∙ omega (arith, sh.whole))
    (length-drop (length xs) o ∙ omega (arith, sh.whole))
    refl

-- two parts of one list, lent one after the other
pub two_parts : (f g : ℕ → ℕ → ℕ) (d : ℕ) (o A Z : List ℕ) → A ≡ each f (take d o)
    → Z ≡ each g (take (length (A ++ drop d o) - d) (drop d (A ++ drop d o))) → d ≤ length o
    → take d (A ++ drop d o) ++ (Z ++ drop (length (A ++ drop d o) - d) (drop d (A ++ drop d o))) ≡ each f (take d o) ++ each g (drop d o)
two_parts f g d o A Z e h l =
    let la : length A ≡ d = ap length e ∙ length_each f (take d o) ∙ length-take d o ∙ omega arith in
    let t : take d (A ++ drop d o) ≡ A = ap (λ (k : ℕ). take k (A ++ drop d o)) (sym la) ∙ take-append_seam A (drop d o) in
    let r : drop d (A ++ drop d o) ≡ drop d o = ap (λ (k : ℕ). drop k (A ++ drop d o)) (sym la) ∙ drop-append_seam A (drop d o) in
    let n : length (A ++ drop d o) - d ≡ length (drop d o) = omega (arith, length-append A (drop d o), length-drop d o) in
    let e_z : Z ≡ each g (drop d o) = h ∙ ap₂ (λ (k : ℕ) (s : List ℕ). each g (take k s)) n r ∙ ap (each g) (take_all (length (drop d o)) (drop d o) (omega arith)) in
    let q : drop (length (A ++ drop d o) - d) (drop d (A ++ drop d o)) ≡ [] = ap₂ (λ (k : ℕ) (s : List ℕ). drop k s) n r ∙ drop_of_length-le (drop d o) {i = length (drop d o)} (omega arith) in
    ap₂ (λ (a b : List ℕ). a ++ b) (t ∙ e) (ap₂ (λ (a b : List ℕ). a ++ b) e_z q ∙ append-nil (each g (drop d o)))
