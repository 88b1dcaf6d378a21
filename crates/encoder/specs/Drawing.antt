-- Laws of the drawing: what the lent grid and the scratch hold at its return.
-- Assumes nothing.
use Rattle.std.specs.Prelude.{ℕ, zero, suc, ◌*◌, ◌/◌, ◌≤◌, Bool, false, cond, List, ◌∷◌, ◌++◌, ◌≡◌, refl, length, drop, take, replicate}
use Rattle.std.proofs.Math.Path.{ap}
use Rattle.std.proofs.Common.{◌∙◌, le_of_suc-le-suc, not-suc-le-zero, arith, length-take-le}
use borrow.Author.Tests.{le-ltb}
use Rattle.standard.specs.Sizes.{side, raw_modules, raw_codewords, data_codewords}
use Rattle.standard.specs.Blocks.{all_words}
use Rattle.standard.specs.Grid.{content, grid}
use Rattle.standard.specs.Choice.{chosen}
use Rattle.standard.specs.Plan.{refusal}
use Rattle.standard.specs.Encode.{Return, accepted, refuse, drawn, draw}
use Rattle.counts.specs.Ranges.{VersionRange, version_range}

-- ---- all codewords, in a local array

pub words_few : (v : ℕ) → 1 ≤ v → v ≤ 40 → raw_codewords v ≤ 4096
unfolding raw_codewords
words_few v low high = let r : VersionRange v = version_range v low high in let m = r.most in omega arith

-- the part for all codewords has room for just them
pub words_room : (v n : ℕ) (a : List ℕ) → n ≡ raw_modules v → n / 8 ≤ length a → length (take (n / 8) a) ≡ raw_codewords v
unfolding raw_codewords
words_room v n a e h = length-take-le (n / 8) a h ∙ rw e

-- ---- data codewords, in a local array

take_zeros : (n m : ℕ) → n ≤ m → take {A = ℕ} n (replicate m 0) ≡ replicate n 0
take_zeros zero m h = refl
take_zeros (suc n) zero h = absurd (not-suc-le-zero h)
take_zeros (suc n) (suc m) h = ap (λ (l : List ℕ). 0 ∷ l) (take_zeros n m (le_of_suc-le-suc h))

-- a part of a fresh array is zeros
pub fresh : (v l n m : ℕ) → n ≡ data_codewords v l → n ≤ m → take {A = ℕ} n (replicate m 0) ≡ replicate (data_codewords v l) 0
fresh v l n m e h = take_zeros n m h ∙ ap (λ (k : ℕ). replicate k 0) e

-- ---- the lent grid

-- as many zeros as a part has numbers
pub zeros_long : (s : List ℕ) → 40_000 ≤ length s → replicate {A = ℕ} (length (take 40_000 s)) 0 ≡ replicate 40_000 0
zeros_long s h = ap (λ (n : ℕ). replicate {A = ℕ} n 0) (length-take-le 40_000 s h)

-- two acceptances are the same, part by part
accept_from : (v l : ℕ) (g : List ℕ) {r k i j : ℕ} {part new t w : List ℕ} → r ≡ k → part ≡ new → t ≡ w → i ≡ j
    → ◌≡◌ {A = Return} (record { answer = accepted v l r; grid = part ++ drop i g; scratch = t }) (record { answer = accepted v l k; grid = new ++ drop j g; scratch = w })
accept_from v l g p q z e = rw (p, q, z, e)

-- the third of three cases
third : {a b : Bool} (x y z : Return) → a ≡ false → b ≡ false → z ≡ cond a x (cond b y z)
third x y z p q = rw (p, q)

module _ (v l m n : ℕ) («data» g s : List ℕ) (e : n ≡ side v) where
  -- what is accepted, from what its two parts leave
  pub label_drawn : (r : ℕ) (part t : List ℕ) → n * n ≤ length g → 40_000 ≤ length s
      → r ≡ chosen v l m (content v (all_words v l «data»))
      → part ≡ grid v l r (content v (all_words v l «data»))
      → t ≡ replicate 40_000 0
      → record { answer = accepted v l r; grid = part ++ drop (n * n) g; scratch = t ++ drop 40_000 s } ≡ draw v l m «data» g s
  unfolding draw drawn
  label_drawn r part t h k p q z =
      accept_from v l g p (q ∙ ap (λ (x : ℕ). grid v l x (content v (all_words v l «data»))) p) (ap (λ (x : List ℕ). x ++ drop 40_000 s) z) (rw e)
      ∙ third (refuse (refusal 8 (side v * side v) 0) g s) (refuse (refusal 9 40_000 0) g s) (drawn v l m «data» g s)
      (le-ltb (length g) (side v * side v) (rw (← e) h)) (le-ltb (length s) 40_000 k)
