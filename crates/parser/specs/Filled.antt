-- A lent slice that is filled from its start on: q characters of s have been written, and the rest is as it was.
-- Assumes nothing.
use Rattle.std.specs.Prelude.{ℕ, ◌+◌, ◌≤◌, ◌<◌, ◌≡◌, refl, List, ◌++◌, length, get_or, set, take, drop}
use Rattle.std.proofs.Common.{sym, ap, ap₂, ◌∙◌, append_assoc, append-nil, arith, take-add, drop-drop, take_at, take_all, drop_of_length-le, length-take-le, length-drop}
use Rattle.std.proofs.Math.Seq.{drop-append-add}
use Rattle.std.proofs.lemmas.List.Edits.{paste_more, paste_all}
use Rattle.std.proofs.lemmas.Slice.{put_mid-paste}
use borrow.Rule.Slice.PartMut.{put_mid}

abbrev pub filled : List ℕ → List ℕ → ℕ → List ℕ
filled o s q = take q s ++ drop q o

pub filled_whole : (o s : List ℕ) (q : ℕ) → length o ≤ q → length s ≤ q → filled o s q ≡ s
filled_whole o s q h l = ap₂ (λ (a b : List ℕ). a ++ b) (take_all q s l) (drop_of_length-le o {i = q} h) ∙ append-nil s

-- one more
pub filled_set : (o s out : List ℕ) (i v : ℕ) → out ≡ filled o s i → i < length o → i < length s → v ≡ get_or s i 0 → set out i v ≡ filled o s (i + 1)
filled_set o s out i v e h l q =
    let z : 0 + i ≡ i = omega arith in
    let y : 0 + (i + 1) ≡ i + 1 = omega arith in
    ap₂ (λ (a : List ℕ) (b : ℕ). set a i b) e q
    ∙ ap₂ (λ (a b : ℕ). set (take i s ++ drop a o) b (get_or s i 0)) (sym z) (sym z)
    ∙ paste_more o 0 s i 0 (omega arith) l
    ∙ ap (λ (a : ℕ). take (i + 1) s ++ drop a o) y

-- m more
pub filled_mid : (o s out new : List ℕ) (q m k : ℕ) → out ≡ filled o s q → length s ≡ length o → q + m ≤ length o → k ≡ m → new ≡ take m (drop q s)
    → put_mid q k out new ≡ filled o s (q + m)
filled_mid o s out new q m k e long h ek en =
    let lt : length (take q s) ≡ q = length-take-le q s (omega arith) in
    let d : drop (q + m) (take q s ++ drop q o) ≡ drop (q + m) o
    = ap (λ (i : ℕ). drop (i + m) (take q s ++ drop q o)) (sym lt) ∙ drop-append-add (take q s) (drop q o) m ∙ drop-drop m q o in
    let ln : length new ≡ m = ap length en ∙ length-take-le m (drop q s) (omega (arith, length-drop q s)) in
    put_mid-paste q k out new new m refl (sym ek) (sym ln) ∙ paste_all out q new m (sym ln)
    ∙ ap (λ (x : List ℕ). take q x ++ (new ++ drop (q + m) x)) e
    ∙ ap₂ (λ (x y : List ℕ). x ++ (new ++ y)) (take_at (take q s) (drop q o) q lt) d
    ∙ ap (λ (x : List ℕ). take q s ++ (x ++ drop (q + m) o)) en
    ∙ sym (append_assoc (take q s) (take m (drop q s)) (drop (q + m) o))
    ∙ ap (λ (x : List ℕ). x ++ drop (q + m) o) (sym (take-add q m s))
