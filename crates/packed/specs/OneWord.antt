-- A line with room for n digits: what is framed fits it, and of a mask it needs the n lowest digits. A line of at most 56 modules fits one word.
-- Assumes nothing.
use Rattle.std.specs.Prelude.{◌≡◌, List, Bool, ℕ, ◌+◌, ◌*◌, ◌/◌, ◌%◌, ◌^◌, ◌≤◌, ◌<◌}
use Rattle.std.proofs.Common.{sym, ap, ap₂, ◌∙◌, subst, arith, lt_of_lt_of_le, mod-lt, pow-add, pow_mono, pow_pos}
use Rattle.std.proofs.Math.Pow.{split}
use Rattle.std.specs.Int.Bits.{bit_xor, bit_and}
use Rattle.std.proofs.lemmas.Nat.{and_block}
use Rattle.standard.specs.Numbers.{tabulate}
use Rattle.penalty.specs.Windows.{is}
use Rattle.packed.specs.Digits.{value}
use Rattle.packed.specs.Words.{join3}
use Rattle.packed.specs.Frame.{frame, value_frame}
use Rattle.packed.specs.Packs.{digit_at, at_lt, word_lt}

pub first_word : (a b c : ℕ) → join3 a b c < 2 ^ 64 → a ≡ join3 a b c
unfolding join3
first_word a b c h = go (c * 2 ^ 64 + b) h
  where
    go : (n : ℕ) → n * 2 ^ 64 + a < 2 ^ 64 → a ≡ n * 2 ^ 64 + a
    go n h = omega arith

pub framed_lt : (t : Bool) (g : List ℕ) (start step s room : ℕ) → s + 8 ≤ room → value (frame (tabulate s (digit_at t g start step))) < 2 ^ room
framed_lt t g start step s room l =
    lt_of_lt_of_le
    (subst (λ (n : ℕ). value (frame (tabulate s (digit_at t g start step))) < n) (sym (pow-add 2 s 4))
    (omega (arith, value_frame (tabulate s (digit_at t g start step)), word_lt (digit_at t g start step) (at_lt t g start step) 0 s s (omega arith))))
    (pow_mono {i = s + 4} {j = room} (omega arith))

-- what a line has of a mask are the mask's lowest digits
and_low : (n f x : ℕ) → f < 2 ^ n → bit_and f (x % 2 ^ n) ≡ bit_and f x
and_low n f x h =
    sym (ap₂ bit_and (is f (0 * 2 ^ n + f) (omega arith)) (sym (split x n)) ∙ and_block n 0 (x / 2 ^ n) f (x % 2 ^ n) h (mod-lt x (pow_pos n))
    ∙ is (0 * 2 ^ n + bit_and f (x % 2 ^ n)) (bit_and f (x % 2 ^ n)) (omega arith))

pub mask_low : (n c f m x r : ℕ) → r ≡ bit_xor c (bit_and f m) → m ≡ x % 2 ^ n → f < 2 ^ n → r ≡ bit_xor c (bit_and f x)
mask_low n c f m x r e em h = e ∙ ap (bit_xor c) (ap (bit_and f) em ∙ and_low n f x h)
