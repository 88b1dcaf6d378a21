-- The loops that compute check bits.
-- Assumes nothing.
use Rattle.std.specs.Prelude.{ℕ, zero, suc, ◌+◌, ◌-◌, ◌*◌, ◌/◌, ◌^◌, ◌≤◌, ◌<◌, Bool, ◌≡◌, T, ltb}
use Rattle.std.proofs.Common.{ap, ◌∙◌, add-one, arith, div-lt_iff_lt-mul, ltb-true}
use Rattle.std.specs.Int.Bits.{bit_xor}
use Rattle.std.proofs.lemmas.Nat.{xor_lt, pow_pos}
use Rattle.std.proofs.Math.Nat.{two-pow-succ}
use Rattle.standard.specs.Format.{checked, level_bits, format_word, version_word}
use Rattle.laws.specs.Tests.{T_true}
use Rattle.laws.specs.Computed.{among, below}

-- what is left to do after i of n turns does not change what comes out
pub Checking : ℕ → ℕ → ℕ → ℕ → ℕ → ℕ → Type 0
Checking w g n d i r = checked w g (n - i) r ≡ checked w g n d

pub checking_start : (w g n d : ℕ) → Checking w g n d 0 d
unfolding Checking
checking_start w g n d = let m : n - 0 ≡ n = omega arith in ap (λ (k : ℕ). checked w g k d) m

pub checking_next : (w g n d i r t : ℕ) → Checking w g n d i r → i < n → t ≡ bit_xor (2 * r) (r / 2 ^ w * g) → Checking w g n d (i + 1) t
unfolding Checking checked
checking_next w g n d i r t e h f =
    let m : n - i ≡ suc (n - (i + 1)) = omega arith in
    rw f ((rw m at e))

pub checking_end : (w g n d i r : ℕ) → Checking w g n d i r → i ≤ n → n ≤ i → r ≡ checked w g n d
unfolding Checking checked
checking_end w g n d i r e l h = let m : n - i ≡ 0 = omega arith in (rw m at e)

-- one turn, with the divisor g, keeps the rest below 2 h
turn_test : ℕ → ℕ → ℕ → Bool
turn_test h g r = ltb (bit_xor (2 * r) (r / h * g)) (2 * h)

turn_lt : (h g : ℕ) → T (among 0 (2 * h) (turn_test h g)) → (r : ℕ) → r < 2 * h → bit_xor (2 * r) (r / h * g) < 2 * h
unfolding turn_test
turn_lt h g all r b = ltb-true (bit_xor (2 * r) (r / h * g)) (2 * h) (T_true (turn_test h g r) (below (turn_test h g) (2 * h) all r b))

-- the generator g of degree w + 1 keeps what is left below 2 ^ (w + 1)
abbrev pub Reduces : ℕ → ℕ → Type 0
Reduces w g = (r : ℕ) → r < 2 ^ (w + 1) → bit_xor (2 * r) (r / 2 ^ w * g) < 2 ^ (w + 1)

-- the highest bit times g is 0 or g
pub high_small : (w r g n : ℕ) → r < 2 ^ (w + 1) → g < n → r / 2 ^ w * g < n
high_small w r g n h l =
    let double : 2 ^ (w + 1) ≡ 2 ^ w + 2 ^ w = ap (λ (k : ℕ). 2 ^ k) (add-one w) ∙ two-pow-succ w in
    go (r / 2 ^ w) ((div-lt_iff_lt-mul (pow_pos w)).1 (omega arith))
  where
    go : (q : ℕ) → q < 2 → q * g < n
    go zero b = omega arith
    go (suc zero) b = omega arith
    go (suc (suc q)) b = absurd (omega arith)

pub ten : Reduces 9 0x537
unfolding turn_test
ten r h = turn_lt 512 0x537 tt r h

pub twelve : Reduces 11 0x1F25
unfolding turn_test
twelve r h = turn_lt 2048 0x1F25 tt r h

pub word_lt : (d r : ℕ) → d < 32 → r < 1024 → bit_xor (1024 * d + r) 0x5412 < 32768
word_lt d r h l = xor_lt 15 (1024 * d + r) 0x5412 (omega arith) (omega arith)

pub format_is : (l m b k r : ℕ) → r ≡ checked 9 0x537 10 (8 * b + k) → b ≡ level_bits l → k ≡ m → bit_xor (1024 * (8 * b + k) + r) 0x5412 ≡ format_word l m
unfolding format_word
format_is l m b k r e q p = rw (e, q, p)

pub version_is : (v d r : ℕ) → r ≡ checked 11 0x1F25 12 d → d ≡ v → 4096 * d + r ≡ version_word v
unfolding version_word
version_is v d r e q = rw (e, q)

pub format_small : (m b r : ℕ) → r < 1024 → b < 4 → m < 8 → bit_xor (1024 * (8 * b + m) + r) 0x5412 < 32768
format_small m b r small few mask = word_lt (8 * b + m) r (omega arith) small

-- the level's two bits
pub level_small : (l b : ℕ) → b ≡ level_bits l → b < 4
unfolding level_bits
level_small zero b e = omega arith
level_small (suc zero) b e = omega arith
level_small (suc (suc zero)) b e = omega arith
level_small (suc (suc (suc zero))) b e = omega arith
level_small (suc (suc (suc (suc l)))) b e = omega arith
