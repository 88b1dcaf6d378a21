-- Lists that are joined, and columns of blocks: one byte of each.
-- Assumes nothing.
use Rattle.std.specs.Prelude.{ℕ, zero, suc, ◌+◌, ◌-◌, ◌*◌, ◌/◌, ◌%◌, ◌≤◌, ◌<◌, Bool, true, false, ◌≡◌, refl, List, [], ◌∷◌, ◌++◌, length, get_or, take, drop, ltb}
use Rattle.std.proofs.Common.{sym, ap, ap₂, ◌∙◌, append_assoc, not-suc-le-zero, le_of_suc-le-suc, add-zero, mod-eq_of_lt, arith, length-append, get_or-append-add, ltb-true, ltb-false}
use Rattle.std.proofs.Math.Nat.{mul-add-div_right, mul-add-mod_self_right, div-eq_of_lt}
use Rattle.std.proofs.Math.ListN.{get_or-append}
use Rattle.standard.specs.Numbers.{from, join}
use Rattle.laws.specs.Lists.{from_append}

pub join_append : (xs ys : List (List ℕ)) → join (xs ++ ys) ≡ join xs ++ join ys
join_append [] ys = refl
join_append (x ∷ xs) ys = ap (λ (l : List ℕ). x ++ l) (join_append xs ys) ∙ sym (append_assoc x (join xs) (join ys))

-- ---- m lists of length n

pub join_length : (k m n : ℕ) (F : ℕ → List ℕ) → ((i : ℕ) → k ≤ i → i < k + m → length (F i) ≡ n) → length (join (from k m F)) ≡ m * n
join_length k zero n F h = omega arith
join_length k (suc m) n F h =
    length-append (F k) (join (from (suc k) m F))
    ∙ ap₂ ◌+◌ (h k (omega arith) (omega arith)) (join_length (suc k) m n F (λ i l b. h i (omega arith) (omega arith)))
    ∙ omega arith

pub join_at : (k m n : ℕ) (F : ℕ → List ℕ) → ((i : ℕ) → k ≤ i → i < k + m → length (F i) ≡ n) → 0 < n → (p : ℕ) → p < m * n
    → get_or (join (from k m F)) p 0 ≡ get_or (F (k + p / n)) (p % n) 0
join_at k zero n F h pos p b = absurd (omega arith)
join_at k (suc m) n F h pos p b =
    go (ltb p n) refl (λ q l. join_at (suc k) m n F (λ i l b. h i (omega arith) (omega arith)) pos q l)
  where
    here : length (F k) ≡ n
    here = h k (omega arith) (omega arith)

    go : (t : Bool) → ltb p n ≡ t → ((q : ℕ) → q < m * n → get_or (join (from (suc k) m F)) q 0 ≡ get_or (F (suc k + q / n)) (q % n) 0)
        → get_or (F k ++ join (from (suc k) m F)) p 0 ≡ get_or (F (k + p / n)) (p % n) 0
    go true e rest =
        let l = ltb-true p n e in
        get_or-append (F k) (join (from (suc k) m F)) 0 p (omega (arith, here))
        ∙ rw (div-eq_of_lt l, mod-eq_of_lt l, add-zero k)
    go false e rest =
        let l = ltb-false p n e in
        let q : ℕ = p - n in
        let s : length (F k) + (p - n) ≡ p = omega (arith, here) in
        let t : 1 * n + (p - n) ≡ p = omega arith in
        let d : p / n ≡ 1 + (p - n) / n = ap (λ (j : ℕ). j / n) (sym t) ∙ mul-add-div_right pos 1 (p - n) in
        let r : p % n ≡ (p - n) % n = ap (λ (j : ℕ). j % n) (sym t) ∙ mul-add-mod_self_right 1 n (p - n) in
        let u : k + (1 + (p - n) / n) ≡ suc k + (p - n) / n = omega arith in
        ap (λ (j : ℕ). get_or (F k ++ join (from (suc k) m F)) j 0) (sym s)
        ∙ get_or-append-add (F k) (join (from (suc k) m F)) (p - n) 0
        ∙ rest (p - n) (omega arith)
        ∙ rw (d, r, u)

-- ---- columns

one_byte : (c : ℕ) (b : List ℕ) → c < length b → take 1 (drop c b) ≡ get_or b c 0 ∷ []
one_byte c [] h = absurd (not-suc-le-zero h)
one_byte zero (x ∷ b) h = refl
one_byte (suc c) (x ∷ b) h = one_byte c b (le_of_suc-le-suc h)

no_byte : (c : ℕ) (b : List ℕ) → length b ≤ c → take 1 (drop c b) ≡ []
no_byte zero [] h = refl
no_byte (suc c) [] h = refl
no_byte zero (x ∷ b) h = absurd (omega arith)
no_byte (suc c) (x ∷ b) h = no_byte c b (omega arith)

-- byte c of each of the blocks B k, .. , B (k + m - 1)
abbrev pub bytes_of : (ℕ → List ℕ) → ℕ → ℕ → ℕ → List ℕ
bytes_of B c k m = join (from k m (λ i. take 1 (drop c (B i))))

pub each_has : (B : ℕ → List ℕ) (c k m : ℕ) → ((i : ℕ) → k ≤ i → i < k + m → c < length (B i)) → bytes_of B c k m ≡ from k m (λ i. get_or (B i) c 0)
each_has B c k zero h = refl
each_has B c k (suc m) h =
    rw (one_byte c (B k) (h k (omega arith) (omega arith)))
    (ap (λ (l : List ℕ). get_or (B k) c 0 ∷ l) (each_has B c (suc k) m (λ i l b. h i (omega arith) (omega arith))))

pub none_has : (B : ℕ → List ℕ) (c k m : ℕ) → ((i : ℕ) → k ≤ i → i < k + m → length (B i) ≤ c) → bytes_of B c k m ≡ []
none_has B c k zero h = refl
none_has B c k (suc m) h =
    rw (no_byte c (B k) (h k (omega arith) (omega arith)))
    (none_has B c (suc k) m (λ i l b. h i (omega arith) (omega arith)))

pub bytes_append : (B : ℕ → List ℕ) (c k a b : ℕ) → bytes_of B c k (a + b) ≡ bytes_of B c k a ++ bytes_of B c (k + a) b
bytes_append B c k a b =
    ap join (from_append k a b (λ i. take 1 (drop c (B i)))) ∙ join_append (from k a (λ i. take 1 (drop c (B i)))) (from (k + a) b (λ i. take 1 (drop c (B i))))
