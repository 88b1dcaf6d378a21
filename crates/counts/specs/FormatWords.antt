-- The 32 format words differ: a word tells its level and its mask.
-- Assumes nothing.
use Rattle.std.specs.Prelude.{ℕ, ◌+◌, ◌*◌, ◌/◌, ◌%◌, ◌≤◌, ◌<◌, Bool, ◌≡◌, T, eqb}
use Rattle.std.proofs.Common.{sym, ap, ◌∙◌, arith, eqb→eq}
use Rattle.std.proofs.Math.Arith.{digits_div, digits_mod}
use Rattle.standard.specs.Numbers.{least}
use Rattle.standard.specs.Format.{format_word}
use Rattle.standard.proofs.Open.{opened}
use Rattle.laws.specs.Computed.{among, below}

-- the first pair 8 l + m whose word is w
pub pair_of : ℕ → ℕ
pair_of w = least 0 32 (λ p. eqb (format_word (p / 8) (p % 8)) w)

found_test : ℕ → Bool
found_test p = eqb (pair_of (format_word (p / 8) (p % 8))) p

found_all : T (among 0 32 found_test)
unfolding opened pair_of found_test
found_all = tt

pub pair_of_word : (l m : ℕ) → l ≤ 3 → m ≤ 7 → pair_of (format_word l m) ≡ l * 8 + m
unfolding found_test
pair_of_word l m hl hm =
    let small : m < 8 = omega arith in
    let t : T (found_test (l * 8 + m)) = below found_test 32 found_all (l * 8 + m) (omega arith) in
    let e : pair_of (format_word ((l * 8 + m) / 8) ((l * 8 + m) % 8)) ≡ l * 8 + m = eqb→eq _ _ t in
    rw (digits_div l small, digits_mod l small) at e

pub formats_differ : (l m k n : ℕ) → l ≤ 3 → m ≤ 7 → k ≤ 3 → n ≤ 7 → format_word l m ≡ format_word k n → (l ≡ k) × (m ≡ n)
formats_differ l m k n hl hm hk hn e =
    let same : l * 8 + m ≡ k * 8 + n = sym (pair_of_word l m hl hm) ∙ ap pair_of e ∙ pair_of_word k n hk hn in
    (omega arith, omega arith)
