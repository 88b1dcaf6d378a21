-- The numbers of a version and a level, as the code holds them, and what it does with them in the definition's terms.
-- Assumes nothing.
use Rattle.std.specs.Prelude.{ℕ, ◌+◌, ◌-◌, ◌*◌, ◌/◌, ◌%◌, ◌≤◌, ◌<◌, List, ◌≡◌, refl, length}
use Rattle.std.proofs.Math.Path.{ap}
use Rattle.std.proofs.Common.{◌∙◌, mod-lt, arith}
use Rattle.std.proofs.Math.Nat.{mul-le-mul}
use Rattle.std.proofs.Math.ListN.{get_or}
use Rattle.standard.specs.Sizes.{raw_modules, raw_codewords, check_bytes, blocks, data_codewords, short_blocks, short_length}
use Rattle.standard.specs.Blocks.{all_words}
use Rattle.counts.specs.Ranges.{PairRange, pair_range}
use Rattle.laws.specs.Lists.{is_tabulate}
use Rattle.laws.specs.Each.{each}
use Rattle.blocks.specs.Shape.{Shape, shape, data_in}
use Rattle.blocks.specs.Places.{data_sum}
use Rattle.blocks.specs.Undo.{position_in, data_of}
use Rattle.blocks.specs.Checks.{checks_in}
use Rattle.blocks.specs.Words.{written_in, length_each, get_d_each, all_words_lem}

-- n blocks, s data bytes in a short one, b short ones, c check bytes in each
pub record SharedOut (v l n s b c : ℕ) : Type 0 where
  pub range : PairRange v l
  pub blocks_is : n ≡ blocks v l
  pub short_is : s ≡ short_length v l
  pub first_is : b ≡ short_blocks v l
  pub check_is : c ≡ check_bytes v l
  pub shaped : Shape n s b
  pub data_is : data_in n s b ≡ data_codewords v l
  pub check_some : 0 < c
  pub check_few : c ≤ 30
  pub all_is : data_in n s b + c * n ≡ raw_codewords v
  pub checks_few : n * c ≤ 2430

module _ (v l r n c : ℕ) (er : r ≡ raw_modules v) (en : n ≡ blocks v l) (ec : c ≡ check_bytes v l) (low : 1 ≤ v) (high : v ≤ 40) (level : l ≤ 3) where
  pub some_blocks : 0 < n
  some_blocks = rw en (pair_range v l low high level).some

  pub rest_less : r / 8 % n ≤ n
  rest_less = omega (arith, mod-lt (r / 8) some_blocks)

  pub check_less : c ≤ r / 8 / n
  unfolding short_length raw_codewords
  check_less = let p = pair_range v l low high level in rw (er, en, ec) (omega (arith, p.full))

  pub shared_out : SharedOut v l n (r / 8 / n - c) (n - r / 8 % n) c
  unfolding short_length short_blocks raw_codewords
  shared_out =
      let p = pair_range v l low high level in
      rw (er, en, ec)
      (record {
        range = p;
        blocks_is = refl;
        short_is = refl;
        first_is = refl;
        check_is = refl;
        shaped = shape p;
        data_is = data_sum v l p;
        check_some = omega (arith, p.check_least);
        check_few = p.check_most;
        all_is = ap (λ (k : ℕ). k + check_bytes v l * blocks v l) (data_sum v l p) ∙ p.whole;
        checks_few = mul-le-mul p.few p.check_most;
      })

module _ (v l n s b c : ℕ) (k : SharedOut v l n s b c) where
  -- what is written are all codewords
  pub all_from : (xs o h : List ℕ) → h ≡ written_in n s b c xs (checks_in c s b xs n) o → length xs ≡ data_codewords v l → length o ≡ raw_codewords v → h ≡ all_words v l xs
  all_from xs o h e full size =
      rw (k.blocks_is, k.short_is, k.first_is, k.check_is) at e
      ∙ all_words_lem v l xs o k.range full size

  -- what is taken out are the data codewords
  pub data_from : (all o h : List ℕ) → h ≡ each (λ d _. get_or all (position_in n s b d) 0) o → length o ≡ data_codewords v l → h ≡ data_of v l all
  unfolding data_of
  data_from all o h e size =
      e
      ∙ is_tabulate 0 (each (λ d _. get_or all (position_in n s b d) 0) o) (data_codewords v l) (λ d. get_or all (position_in (blocks v l) (short_length v l) (short_blocks v l) d) 0)
      (length_each (λ d _. get_or all (position_in n s b d) 0) o ∙ size)
      (λ i h. get_d_each (λ d _. get_or all (position_in n s b d) 0) o i (omega arith) ∙ rw (k.blocks_is, k.short_is, k.first_is))
