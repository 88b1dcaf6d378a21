-- Bits that are shifted into zeroed bytes along the zigzag: above them stays 0, so the last bit and the bytes before it are found again.
-- Assumes nothing.
use Prim.Native.Nat.{ℕ, zero, suc, ◌+◌, ◌*◌, ◌/◌, ◌%◌, ◌^◌, ◌≤◌, ◌<◌}
use Rattle.std.specs.Prelude.{Bool, true, false, cond, ◌&&◌, List, ◌≡◌, refl, ltb, length, get_or, set, replicate}
use Rattle.std.proofs.Common.{sym, ap, ◌∙◌, pow-suc, arith, length-set, pow_mono, get_or-set_same, get_or-set_other, ext_get_or, ltb-true}
use Rattle.std.proofs.Math.Decide.{ℕ_discrete}
use Rattle.std.proofs.Math.ListN.{length-replicate}
use Rattle.standard.specs.Path.{cell}
use Rattle.laws.specs.Lists.{zeros_at}
use Rattle.laws.specs.Tests.{split}
use Rattle.modules.specs.Zigzag.{Laid, Laid.laid, read_at, walk, walk_suc, list_of, used_of}

-- i bits are in bytes o that were zero: the byte of the next is below 2 ^ (i % 8), and all after it are 0
pub record Low (o : List ℕ) (i : ℕ) : Type 0 where
  pub bytes : (b : ℕ) → get_or o b 0 < 256
  pub part : get_or o (i / 8) 0 < 2 ^ (i % 8)
  pub rest : (b : ℕ) → i / 8 < b → get_or o b 0 ≡ 0

low_start : (n : ℕ) → Low (replicate n 0) 0
low_start n = record { bytes = λ b. omega (arith, zeros_at n b); part = omega (arith, zeros_at n 0); rest = λ b h. zeros_at n b }

low_next : (o : List ℕ) (i w : ℕ) → Low o i → w < 2 → i < length o * 8 → Low (set o (i / 8) (get_or o (i / 8) 0 % 128 * 2 + w)) (i + 1)
low_next o i w low two room = split (i % 8) 7 within last
  where
    W : ℕ
    W = get_or o (i / 8) 0 % 128 * 2 + w

    at : get_or (set o (i / 8) W) (i / 8) 0 ≡ W
    at = get_or-set_same o (i / 8) W 0 (omega arith)

    other : (b : ℕ) → i / 8 < b → get_or (set o (i / 8) W) b 0 ≡ 0
    other b h = get_or-set_other o (i / 8) b W 0 (λ e. omega arith) ∙ low.rest b h

    byte : (b : ℕ) → get_or (set o (i / 8) W) b 0 < 256
    byte b = go (ℕ_discrete b (i / 8))
      where
        go : Dec (b ≡ i / 8) → get_or (set o (i / 8) W) b 0 < 256
        go (yes e) = rw e (omega (arith, at))
        go (no n) = rw (get_or-set_other o (i / 8) b W 0 n) (low.bytes b)

    within : i % 8 < 7 → Low (set o (i / 8) W) (i + 1)
    within h =
        let q : (i + 1) / 8 ≡ i / 8 = omega arith in
        let r : (i + 1) % 8 ≡ suc (i % 8) = omega arith in
        record { bytes = byte; part = rw (q, r, at) (omega (arith, low.part, pow-suc 2 (i % 8))); rest = λ b k. other b (omega arith) }

    last : 7 ≤ i % 8 → Low (set o (i / 8) W) (i + 1)
    last h =
        let q : (i + 1) / 8 ≡ i / 8 + 1 = omega arith in
        let r : (i + 1) % 8 ≡ 0 = omega arith in
        record { bytes = byte; part = rw (q, r, other (i / 8 + 1) (omega arith)) (omega arith); rest = λ b k. other b (omega arith) }

-- the last bit and the bytes before it
pub shifted_back : (o p : List ℕ) (i x y : ℕ) → Low o i → Low p i → length o ≡ length p → i < length o * 8 → x < 2 → y < 2
    → set o (i / 8) (get_or o (i / 8) 0 % 128 * 2 + x) ≡ set p (i / 8) (get_or p (i / 8) 0 % 128 * 2 + y) → (x ≡ y) × (o ≡ p)
shifted_back o p i x y lo lp long room hx hy e = (omega (arith, byte), ext_get_or 0 o p long (λ b h. go b (ℕ_discrete b (i / 8))))
  where
    U : ℕ
    U = get_or o (i / 8) 0 % 128 * 2 + x

    W : ℕ
    W = get_or p (i / 8) 0 % 128 * 2 + y

    top : 2 ^ (i % 8) ≤ 128
    top = pow_mono {i = i % 8} {j = 7} (omega arith)

    alike : (b : ℕ) → get_or (set o (i / 8) U) b 0 ≡ get_or (set p (i / 8) W) b 0
    alike b = ap (λ (l : List ℕ). get_or l b 0) e

    byte : U ≡ W
    byte = sym (get_or-set_same o (i / 8) U 0 (omega arith)) ∙ alike (i / 8) ∙ get_or-set_same p (i / 8) W 0 (omega arith)

    go : (b : ℕ) → Dec (b ≡ i / 8) → get_or o b 0 ≡ get_or p b 0
    go b (yes q) = rw q (omega (arith, byte, top, lo.part, lp.part))
    go b (no n) = sym (get_or-set_other o (i / 8) b U 0 n) ∙ alike b ∙ get_or-set_other p (i / 8) b W 0 n

-- ---- along the zigzag

low_step : (g : List ℕ) (at : ℕ) (s : Laid) → Low (list_of s) (used_of s) → Low (list_of (read_at g at s)) (used_of (read_at g at s))
unfolding read_at used_of
low_step g at (laid o i) low = go (ltb (get_or g at 0) 2) refl (ltb i (length o * 8)) refl
  where
    N : Laid
    N = laid (set o (i / 8) (get_or o (i / 8) 0 % 128 * 2 + get_or g at 0)) (i + 1)

    go : (a : Bool) → ltb (get_or g at 0) 2 ≡ a → (b : Bool) → ltb i (length o * 8) ≡ b → Low (list_of (cond (a && b) N (laid o i))) (used_of (cond (a && b) N (laid o i)))
    go true p true q = low_next o i (get_or g at 0) low (ltb-true (get_or g at 0) 2 p) (ltb-true i (length o * 8) q)
    go true p false q = low
    go false p b q = low

read_length : (g : List ℕ) (at : ℕ) (s : Laid) → length (list_of (read_at g at s)) ≡ length (list_of s)
unfolding read_at
read_length g at (laid o i) = go (ltb (get_or g at 0) 2 && ltb i (length o * 8))
  where
    go : (t : Bool) → length (list_of (cond t (laid (set o (i / 8) (get_or o (i / 8) 0 % 128 * 2 + get_or g at 0)) (i + 1)) (laid o i))) ≡ length o
    go true = length-set o (i / 8) (get_or o (i / 8) 0 % 128 * 2 + get_or g at 0)
    go false = refl

module _ (side n : ℕ) (g : List ℕ) where
  -- k cells are read into n zeroed bytes
  unfoldable pub reading : ℕ → Laid
  reading k = walk side (read_at g) 0 k (laid (replicate n 0) 0)

  pub reading_suc : (k : ℕ) → reading (suc k) ≡ read_at g (cell side k) (reading k)
  unfolding reading
  reading_suc k = walk_suc side (read_at g) k (laid (replicate n 0) 0)

  pub reading_low : (k : ℕ) → Low (list_of (reading k)) (used_of (reading k))
  unfolding reading walk used_of
  reading_low zero = low_start n
  reading_low (suc k) = low_step g (cell side (0 + k)) (reading k) (reading_low k)

  pub reading_length : (k : ℕ) → length (list_of (reading k)) ≡ n
  unfolding reading walk
  reading_length zero = length-replicate n 0
  reading_length (suc k) = read_length g (cell side (0 + k)) (reading k) ∙ reading_length k
