-- Laws on texts that are written into lent memory one after the other. Where a law has several texts, the last one comes first,
-- since a search then meets the memory that it writes over before it is asked for.
-- Assumes nothing.
use Rattle.std.specs.Prelude.{ℕ, ◌+◌, ◌≤◌, List, [], ◌∷◌, ◌++◌, ◌≡◌, refl, length, get_or, take, drop}
use Rattle.std.proofs.Common.{append_assoc, append-nil, sym, ap, ap₂, ◌∙◌, add-zero, arith, length-append, take-append-drop, drop-drop, take_at, drop_at, length-take-le}
use Rattle.standard.specs.Numbers.{tabulate, join}
use Rattle.laws.specs.Joins.{join_append}
use Rattle.laws.specs.Lists.{from_append}
use Rattle.terminal.specs.Text.{bytes, over, Said, decimal, letter, caption, escaped_byte, escaped_to, escaped}

-- ---- words over what is there

front_length : (p : ℕ) (u a : List ℕ) → p + length u ≤ length a → length (take p a ++ u) ≡ p + length u
front_length p u a h = length-append (take p a) u ∙ ap (λ (k : ℕ). k + length u) (length-take-le p a (omega arith))

over_then : (p : ℕ) (u w a : List ℕ) → p + length u + length w ≤ length a → over (p + length u) w (over p u a) ≡ over p (u ++ w) a
over_then p u w a h =
    let f : length (take p a ++ u) ≡ p + length u = front_length p u a (omega arith) in
    let rest : List ℕ = drop (p + length u) a in
    let b : over p u a ≡ (take p a ++ u) ++ rest = sym (append_assoc (take p a) u rest) in
    let t : take (p + length u) (over p u a) ≡ take p a ++ u
    = ap (λ (l : List ℕ). take (p + length u) l) b ∙ take_at (take p a ++ u) rest (p + length u) f in
    let d : drop (p + length u) (over p u a) ≡ rest
    = ap (λ (l : List ℕ). drop (p + length u) l) b ∙ drop_at (take p a ++ u) rest (p + length u) f in
    let n : p + length u + length w ≡ p + length (u ++ w) = omega (arith, length-append u w) in
    let s : drop (p + length u + length w) (over p u a) ≡ drop (p + length (u ++ w)) a
    = sym (drop-drop (length w) (p + length u) (over p u a)) ∙ ap (λ (l : List ℕ). drop (length w) l) d
    ∙ drop-drop (length w) (p + length u) a ∙ ap (λ (k : ℕ). drop k a) n in
    ap₂ (λ (x y : List ℕ). x ++ (w ++ y)) t s
    ∙ append_assoc (take p a) u (w ++ drop (p + length (u ++ w)) a)
    ∙ ap (λ (l : List ℕ). take p a ++ l) (sym (append_assoc u w (drop (p + length (u ++ w)) a)))

-- ---- one text, and one after the other

pub said_as : {o u v h : List ℕ} {at r s : ℕ} → Said o at u h r → u ≡ v → r ≡ s → Said o at v h s
said_as {o} {u} {v} {h} {at} {r} {s} p e f =
    record {
      whole = p.whole ∙ ap (λ (l : List ℕ). over at l o) e;
      size = p.size;
      end = sym f ∙ p.end ∙ ap (λ (l : List ℕ). at + length l) e;
    }

pub said_none : (o : List ℕ) (at : ℕ) → Said o at [] o at
said_none o at =
    record {
      whole = sym (ap (λ (k : ℕ). take at o ++ drop k o) (add-zero at) ∙ take-append-drop at o);
      size = refl;
      end = omega arith;
    }

pub said_then : {a b c u w : List ℕ} {p q r : ℕ} → Said a p u b q → Said b q w c r → r ≤ length a → Said a p (u ++ w) c r
said_then {a} {b} {c} {u} {w} {p} {q} {r} s t h =
    let e : r ≡ p + length u + length w = omega arith in
    record {
      whole =
          t.whole ∙ ap (λ (l : List ℕ). over q w l) s.whole ∙ ap (λ (k : ℕ). over k w (over p u a)) s.end ∙ over_then p u w a (omega arith);
      size = t.size ∙ s.size;
      end = omega (arith, length-append u w);
    }

-- ---- texts that are joined

join_snoc : (f : ℕ → List ℕ) (x : ℕ) → join (tabulate x f) ++ f x ≡ join (tabulate (x + 1) f)
join_snoc f x =
    ap (λ (t : List ℕ). join (tabulate x f) ++ t) (sym (append-nil (f x)))
    ∙ sym (join_append (tabulate x f) (f x ∷ []))
    ∙ ap join (sym (from_append 0 x 1 f ∙ ap (λ (k : ℕ). tabulate x f ++ (f k ∷ [])) (is x)))
  where
    is : (x : ℕ) → 0 + x ≡ x
    is x = omega arith

pub said_next : {o h i : List ℕ} {at q r : ℕ} (f : ℕ → List ℕ) (x : ℕ) → Said o at (join (tabulate x f)) h q → Said h q (f x) i r → r ≤ length o
    → Said o at (join (tabulate (x + 1) f)) i r
said_next f x s t h = said_as (said_then s t h) (join_snoc f x) refl

-- ---- the line under a picture

pub caption_said : {o o1 o2 o3 o4 o5 o6 o7 : List ℕ} {at a b c d e f r : ℕ} (v l m k : ℕ)
    → Said o6 f (bytes "\n") o7 r → Said o5 e (decimal m) o6 f → Said o4 d (bytes ", mask ") o5 e → Said o3 c (k ∷ []) o4 d → k ≡ letter l
    → Said o2 b (bytes ", level ") o3 c → Said o1 a (decimal v) o2 b → Said o at (bytes "version ") o1 a → r ≤ length o → Said o at (caption v l m) o7 r
caption_said {o} {o1} {o2} {o3} {o4} {o5} {o6} {o7} {at} {a} {b} {c} {d} {e} {f} {r} v l m k s7 s6 s5 s4 q s3 s2 s1 h =
    let t4 : Said o3 c (letter l ∷ []) o4 d = said_as s4 (ap (λ (x : ℕ). x ∷ []) q) refl in
    said_then s1 (said_then s2 (said_then s3 (said_then t4 (said_then s5 (said_then s6 s7 (omega arith)) (omega arith)) (omega arith)) (omega arith)) (omega arith)) h

-- ---- bytes that are escaped

module _ (t : List ℕ) where
  pub escape_start : (o : List ℕ) (at : ℕ) → Said o at (escaped_to t 0) o at
  escape_start o at = said_none o at

  pub escape_next : (o h i : List ℕ) (at q r n : ℕ) → Said h q (escaped_byte (get_or t n 0)) i r → Said o at (escaped_to t n) h q → r ≤ length o
      → Said o at (escaped_to t (n + 1)) i r
  escape_next o h i at q r n u s l = said_next (λ (i : ℕ). escaped_byte (get_or t i 0)) n s u l

  pub escape_end : (o h : List ℕ) (at q n : ℕ) → Said o at (escaped_to t n) h q → n ≤ length t → length t ≤ n → Said o at (escaped t) h q
  escape_end o h at q n s a b = let e : n ≡ length t = omega arith in said_as s (ap (escaped_to t) e) refl
