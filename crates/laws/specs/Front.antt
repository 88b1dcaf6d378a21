-- A loop that rewrites a list in place from its start: it becomes another list.
-- Assumes nothing.
use Rattle.std.specs.Prelude.{ℕ, suc, ◌+◌, ◌-◌, ◌≤◌, ◌<◌, List, ◌∷◌, ◌++◌, ◌≡◌, length, get_or, set, take, drop}
use Rattle.std.proofs.Common.{append-nil, sym, ap, ap₂, ◌∙◌, add-one, arith, length-append, length-drop, drop_of_length-le, length-take-le, take_all, take-suc, drop-cons, get_or-append-add, get_or-drop}
use Rattle.std.proofs.Math.Seq.{append_snoc}
use Rattle.std.proofs.lemmas.List.{set_at}

-- the first j are s's, the rest r's
abbrev pub front : ℕ → List ℕ → List ℕ → List ℕ
front j s r = take j s ++ drop j r

pub front_rest : (s r : List ℕ) (j k : ℕ) → j ≤ length s → j ≤ k → get_or (front j s r) k 0 ≡ get_or r k 0
front_rest s r j k h l =
    ap (λ (n : ℕ). get_or (front j s r) n 0) (omega (arith, length-take-le j s h))
    ∙ get_or-append-add (take j s) (drop j r) (k - j) 0 ∙ get_or-drop j r (k - j) 0 ∙ ap (λ (n : ℕ). get_or r n 0) (omega arith)

pub front_suc : (s r : List ℕ) (j v : ℕ) → length s ≡ length r → j < length r → v ≡ get_or s j 0
    → set (front j s r) j v ≡ front (j + 1) s r
front_suc s r j v e h q =
    let hs : j < length s = omega arith in
    ap (λ (x : List ℕ). set (take j s ++ x) j v) (drop-cons r j 0 h)
    ∙ set_at (take j s) (get_or r j 0) (drop (suc j) r) v j (length-take-le j s (omega arith))
    ∙ ap (λ (x : ℕ). take j s ++ x ∷ drop (suc j) r) q
    ∙ sym (append_snoc (take j s) (get_or s j 0) (drop (suc j) r))
    ∙ ap (λ (x : List ℕ). x ++ drop (suc j) r) (sym (take-suc s j 0 hs))
    ∙ ap (λ (k : ℕ). front k s r) (sym (add-one j))

pub front_length : (s r : List ℕ) (j : ℕ) → length s ≡ length r → j ≤ length r → length (front j s r) ≡ length r
front_length s r j e h = length-append (take j s) (drop j r) ∙ omega (arith, length-take-le j s (omega arith), length-drop j r)

pub front_all : (s r : List ℕ) (j : ℕ) → length s ≡ length r → length r ≤ j → front j s r ≡ s
front_all s r j e h =
    ap₂ (λ (x y : List ℕ). x ++ y) (take_all j s (omega arith)) (drop_of_length-le r {i = j} h) ∙ append-nil s
