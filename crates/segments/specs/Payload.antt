-- The payloads of the definition are runs.
-- Assumes nothing.
use Rattle.std.specs.Prelude.{◌≡◌, ℕ, zero, suc, ◌+◌, ◌-◌, ◌*◌, ◌<◌, ◌≤◌, List, [], ◌∷◌, ◌++◌, length, take, drop, refl}
use Rattle.std.proofs.Common.{sym, ap, ap₂, ◌∙◌, append-nil, arith}
use Rattle.standard.specs.Bits.{bits}
use Rattle.standard.specs.Kinds.{digit_bits, pair_bits, byte_bits, pair_number, code, digit}
use Rattle.standard.specs.Segments.{Segment, payload}
use Rattle.segments.specs.Kinds.{width, code_of, group_number}
use Rattle.segments.specs.Runs.{part, run_bits}

run_nil : (k f : ℕ) (cs : List ℕ) → run_bits k f 0 cs ≡ []
unfolding run_bits
run_nil k zero cs = refl
run_nil k (suc f) cs = refl

run_step : (k f n m rest : ℕ) (cs : List ℕ) → part k (suc n) ≡ m → suc n - m ≡ rest
    → run_bits k (suc f) (suc n) cs ≡ bits (width k m) (group_number k 0 (take m cs)) ++ run_bits k f rest (drop m cs)
unfolding run_bits
run_step k f n m rest cs e r =
    ap (λ (j : ℕ). bits (width k j) (group_number k 0 (take j cs)) ++ run_bits k f (suc n - j) (drop j cs)) e
    ∙ ap (λ (j : ℕ). bits (width k m) (group_number k 0 (take m cs)) ++ run_bits k f j (drop m cs)) r

-- the last group
run_last : (k f n : ℕ) (cs : List ℕ) → part k (suc n) ≡ suc n → run_bits k (suc f) (suc n) cs ≡ bits (width k (suc n)) (group_number k 0 (take (suc n) cs))
run_last k f n cs e =
    run_step k f n (suc n) 0 cs e (omega arith)
    ∙ ap (λ (l : List ℕ). bits (width k (suc n)) (group_number k 0 (take (suc n) cs)) ++ l) (run_nil k f (drop (suc n) cs))
    ∙ append-nil (bits (width k (suc n)) (group_number k 0 (take (suc n) cs)))

number_one : (b x : ℕ) → x ≡ 0 * b + x
number_one b x = omega arith

pub digits_run : (cs : List ℕ) (f : ℕ) → length cs ≤ f → digit_bits cs ≡ run_bits 0 f (length cs) cs
unfolding digit_bits group_number code_of
digits_run [] f h = sym (run_nil 0 f [])
digits_run (a ∷ []) zero h = absurd (omega arith)
digits_run (a ∷ []) (suc f) h =
    let e : digit a ≡ 0 * 10 + digit a = omega arith in
    ap (bits 4) e ∙ sym (run_last 0 f 0 (a ∷ []) refl)
digits_run (a ∷ b ∷ []) zero h = absurd (omega arith)
digits_run (a ∷ b ∷ []) (suc f) h =
    let e : 10 * digit a + digit b ≡ (0 * 10 + digit a) * 10 + digit b = omega arith in
    ap (bits 7) e ∙ sym (run_last 0 f 1 (a ∷ b ∷ []) refl)
digits_run (a ∷ b ∷ c ∷ r) zero h = absurd (omega arith)
digits_run (a ∷ b ∷ c ∷ r) (suc f) h =
    let e : 100 * digit a + 10 * digit b + digit c ≡ ((0 * 10 + digit a) * 10 + digit b) * 10 + digit c = omega arith in
    let p : part 0 (suc (suc (suc (length r)))) ≡ 3 = omega arith in
    let q : suc (suc (suc (length r))) - 3 ≡ length r = omega arith in
    ap₂ (λ (x y : List ℕ). x ++ y) (ap (bits 10) e) (digits_run r f (omega arith))
    ∙ sym (run_step 0 f (suc (suc (length r))) 3 (length r) (a ∷ b ∷ c ∷ r) p q)

pub pairs_run : (cs : List ℕ) (f : ℕ) → length cs ≤ f → pair_bits cs ≡ run_bits 1 f (length cs) cs
unfolding pair_bits group_number code_of pair_number
pairs_run [] f h = sym (run_nil 1 f [])
pairs_run (a ∷ []) zero h = absurd (omega arith)
pairs_run (a ∷ []) (suc f) h =
    ap (bits 6) (number_one 45 (code a)) ∙ sym (run_last 1 f 0 (a ∷ []) refl)
pairs_run (a ∷ b ∷ r) zero h = absurd (omega arith)
pairs_run (a ∷ b ∷ r) (suc f) h =
    let p : part 1 (suc (suc (length r))) ≡ 2 = omega arith in
    let q : suc (suc (length r)) - 2 ≡ length r = omega arith in
    ap₂ (λ (x y : List ℕ). x ++ y) (ap (bits 11) (pair (code a) (code b))) (pairs_run r f (omega arith))
    ∙ sym (run_step 1 f (suc (length r)) 2 (length r) (a ∷ b ∷ r) p q)
  where
    pair : (x y : ℕ) → 45 * x + y ≡ (0 * 45 + x) * 45 + y
    pair x y = omega arith

pub bytes_run : (cs : List ℕ) (f : ℕ) → length cs ≤ f → byte_bits cs ≡ run_bits 2 f (length cs) cs
unfolding byte_bits group_number code_of
bytes_run [] f h = sym (run_nil 2 f [])
bytes_run (a ∷ r) zero h = absurd (omega arith)
bytes_run (a ∷ r) (suc f) h =
    let p : part 2 (suc (length r)) ≡ 1 = omega arith in
    let q : suc (length r) - 1 ≡ length r = omega arith in
    ap₂ (λ (x y : List ℕ). x ++ y) (ap (bits 8) (number_one 256 a)) (bytes_run r f (omega arith))
    ∙ sym (run_step 2 f (length r) 1 (length r) (a ∷ r) p q)

abbrev pub segment : ℕ → List ℕ → ℕ → Segment
segment k cs n = record { kind = k; chars = cs; assign = n }

pub payload_run : (k : ℕ) (cs : List ℕ) (n : ℕ) → k < 3 → payload (segment k cs n) ≡ run_bits k (length cs) (length cs) cs
unfolding payload
payload_run zero cs n h = digits_run cs (length cs) (omega arith)
payload_run (suc zero) cs n h = pairs_run cs (length cs) (omega arith)
payload_run (suc (suc zero)) cs n h = bytes_run cs (length cs) (omega arith)
payload_run (suc (suc (suc k))) cs n h = absurd (omega arith)
