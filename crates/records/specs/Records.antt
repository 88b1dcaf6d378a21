-- Records of the code as records of the definition, and as numbers, four to each.
-- Assumes nothing.
use Prim.Native.Nat.{ℕ, zero, suc, ◌+◌, ◌*◌, ◌≤◌, ◌<◌}
use Rattle.std.proofs.Common.{zero-add, add-one, ◌∙◌, append_assoc, length-set, take_all, take_at, drop_at, drop-cons, length-take-le}
use borrow.Rule.Slice.PartMut.{put_mid}
use native.Mathlib.Omega.{arith}
use Rattle.std.specs.Prelude.{◌≡◌, refl, get_or, set}
use Rattle.std.proofs.Math.Path.{sym, ap, ap₂}
use mathlib.Core.List.{List, [], ◌∷◌, ◌++◌, map}
use Rattle.std.proofs.Math.ListN.{length, drop, take}
use Rattle.std.proofs.lemmas.List.{length-map, set_at, set-append_left, take-append-drop}
use Rattle.std.proofs.Math.Seq.{take-add, drop-nil, drop-drop, length_front, append_snoc}
use Rattle.standard.specs.Numbers.{tabulate}
use Rattle.standard.specs.Segments.{Part}
use Rattle.laws.specs.Lists.{length_tabulate, from_append}
use Rattle.segments.specs.Records.{part_at, parts_of}
use Rattle.parser.specs.Written.{numbers_of}
use Rattle.parser.specs.Meaning.{parts_read}
use Rattle.records.specs.declared.Record.{Record}

-- what is looked up past the end of a list of records
abbrev pub none : Record
none = record { kind = 0; start = 0; length = 0; assign = 0 }

abbrev pub part_of : Record → Part
part_of r = record { kind = r.kind; start = r.start; len = r.length; assign = r.assign }

abbrev pub parts : List Record → List Part
parts rs = map part_of rs

-- the four numbers of a record
abbrev pub fields : Record → List ℕ
fields r = r.kind ∷ r.start ∷ r.length ∷ r.assign ∷ []

-- ---- records to numbers

-- four stores, one after the other
pub four_put : (r : Record) (f l : List ℕ) → f ≡ fields r → length l ≡ 4
    → set (set (set (set l 0 (get_or f 0 0)) 1 (get_or f 1 0)) 2 (get_or f 2 0)) 3 (get_or f 3 0) ≡ fields r
four_put r f (a ∷ b ∷ c ∷ d ∷ []) e h = rw e
four_put r f [] e h = absurd (omega arith)
four_put r f (a ∷ []) e h = absurd (omega arith)
four_put r f (a ∷ b ∷ []) e h = absurd (omega arith)
four_put r f (a ∷ b ∷ c ∷ []) e h = absurd (omega arith)
four_put r f (a ∷ b ∷ c ∷ d ∷ x ∷ xs) e h = absurd (omega arith)

-- the numbers of the first n records are written from the start on
unfoldable pub unpacked : ℕ → List Record → List ℕ → List ℕ
unpacked n rs l = take (4 * n) (numbers_of (parts rs)) ++ drop (4 * n) l

pub none_unpacked : (rs : List Record) (l : List ℕ) → l ≡ unpacked 0 rs l
unfolding unpacked
none_unpacked rs l = refl

numbers_length : (rs : List Record) → length (numbers_of (parts rs)) ≡ 4 * length rs
numbers_length [] = refl
numbers_length (r ∷ rs) = let e = numbers_length rs in omega arith

numbers_drop : (rs : List Record) (i : ℕ) → drop (4 * i) (numbers_of (parts rs)) ≡ numbers_of (parts (drop i rs))
numbers_drop rs zero = refl
numbers_drop [] (suc i) = drop-nil (4 * suc i)
numbers_drop (r ∷ rs) (suc i) =
    let e : 4 * suc i ≡ suc (suc (suc (suc (4 * i)))) = omega arith in
    ap (λ (k : ℕ). drop k (numbers_of (parts (r ∷ rs)))) e ∙ numbers_drop rs i

module _ (rs : List Record) (l : List ℕ) (room : 4 * length rs ≤ length l) where
  head_long : (i : ℕ) → i ≤ length rs → length (take (4 * i) (numbers_of (parts rs))) ≡ 4 * i
  head_long i h = length-take-le (4 * i) (numbers_of (parts rs)) (omega (arith, numbers_length rs))

  pub length_unpacked : (i : ℕ) → i ≤ length rs → length (unpacked i rs l) ≡ length l
  unfolding unpacked
  length_unpacked i h = length_front l (take (4 * i) (numbers_of (parts rs))) (4 * i) (head_long i h ∙ sym (length-take-le (4 * i) l (omega arith)))

  -- k numbers, those of record i, are written in their place
  pub more_unpacked : (i k : ℕ) (f : List ℕ) → i < length rs → k ≡ 4 → f ≡ fields (get_or rs i none) → put_mid (4 * i) k (unpacked i rs l) f ≡ unpacked (i + 1) rs l
  unfolding unpacked
  more_unpacked i k f h ek ef =
      let ns : List ℕ = numbers_of (parts rs) in
      let p : List ℕ = take (4 * i) ns in
      let u : List ℕ = p ++ drop (4 * i) l in
      let long : length p ≡ 4 * i = head_long i (omega arith) in
      let here : take 4 (drop (4 * i) ns) ≡ f = ap (take 4) (numbers_drop rs i ∙ ap (λ (x : List Record). numbers_of (parts x)) (drop-cons rs i none h)) ∙ sym ef in
      let four : 4 * (i + 1) ≡ 4 * i + 4 = omega arith in
      let tail : drop k (drop (4 * i) u) ≡ drop (4 * (i + 1)) l =
      ap₂ (λ (j : ℕ) (x : List ℕ). drop j x) ek (drop_at p (drop (4 * i) l) (4 * i) long) ∙ drop-drop 4 (4 * i) l ∙ ap (λ (j : ℕ). drop j l) (sym four) in
      let front : take (4 * (i + 1)) ns ≡ p ++ f = ap (λ (j : ℕ). take j ns) four ∙ take-add (4 * i) 4 ns ∙ ap (λ (x : List ℕ). p ++ x) here in
      ap₂ (λ (x y : List ℕ). x ++ (f ++ y)) (take_at p (drop (4 * i) l) (4 * i) long) tail
      ∙ rw (front, append_assoc)

-- THE LAW: the numbers that are written stand for the records
pub unpacked_parts : (rs : List Record) (l : List ℕ) → parts_of (take (4 * length rs) (unpacked (length rs) rs l)) ≡ parts rs
unfolding unpacked
unpacked_parts rs l =
    let ns : List ℕ = numbers_of (parts rs) in
    let m : ℕ = 4 * length rs in
    ap parts_of (ap (λ (x : List ℕ). take m (x ++ drop m l)) (take_all m ns (omega (arith, numbers_length rs))) ∙ take_at ns (drop m l) m (numbers_length rs)) ∙ parts_read (parts rs)

-- ---- numbers to records

unfoldable pub record_at : List ℕ → ℕ → Record
record_at ns i = record { kind = get_or ns (4 * i) 0; start = get_or ns (4 * i + 1) 0; length = get_or ns (4 * i + 2) 0; assign = get_or ns (4 * i + 3) 0 }

-- the first n records of the numbers are stored, one after the other
unfoldable pub packed : ℕ → List ℕ → List Record → List Record
packed zero ns rs = rs
packed (suc n) ns rs = set (packed n ns rs) n (record_at ns n)

pub none_packed : (ns : List ℕ) (rs : List Record) → rs ≡ packed 0 ns rs
unfolding packed
none_packed ns rs = refl

pub more_packed : (ns : List ℕ) (rs : List Record) (i : ℕ) → set (packed i ns rs) i (record_at ns i) ≡ packed (i + 1) ns rs
unfolding packed
more_packed ns rs i = rw add-one

pub length_packed : (ns : List ℕ) (rs : List Record) (i : ℕ) → length (packed i ns rs) ≡ length rs
unfolding packed
length_packed ns rs zero = refl
length_packed ns rs (suc i) = length-set (packed i ns rs) i (record_at ns i) ∙ length_packed ns rs i

-- a part of the records is stored, and the others stay
packed_append : (ns : List ℕ) (rs qs : List Record) (i : ℕ) → i ≤ length rs → packed i ns (rs ++ qs) ≡ packed i ns rs ++ qs
unfolding packed
packed_append ns rs qs zero h = refl
packed_append ns rs qs (suc i) h =
    ap (λ (l : List Record). set l i (record_at ns i)) (packed_append ns rs qs i (omega arith))
    ∙ set-append_left (packed i ns rs) qs i (record_at ns i) (omega (arith, length_packed ns rs i))

pub packed_part : (n : ℕ) (ns : List ℕ) (rs : List Record) → n ≤ length rs → packed (length (take n rs)) ns (take n rs) ++ drop n rs ≡ packed n ns rs
packed_part n ns rs h =
    sym (packed_append ns (take n rs) (drop n rs) (length (take n rs)) (omega arith))
    ∙ ap₂ (λ (k : ℕ) (l : List Record). packed k ns l) (length-take-le n rs h) (take-append-drop n rs)

parts_set : (rs : List Record) (i : ℕ) (r : Record) → parts (set rs i r) ≡ set (parts rs) i (part_of r)
parts_set [] i r = refl
parts_set (x ∷ rs) zero r = refl
parts_set (x ∷ rs) (suc i) r = ap (λ (l : List Part). part_of x ∷ l) (parts_set rs i r)

-- THE LAW: the records that are stored are those that the numbers stand for, and the others stay
pub packed_parts : (n : ℕ) (ns : List ℕ) (rs : List Record) → n ≤ length rs → parts (packed n ns rs) ≡ tabulate n (part_at ns) ++ drop n (parts rs)
unfolding packed record_at
packed_parts zero ns rs h = refl
packed_parts (suc n) ns rs h =
    let f : ℕ → Part = part_at ns in
    let l : List Part = parts rs in
    let snoc : tabulate (suc n) f ≡ tabulate n f ++ (f n ∷ []) =
    ap (λ (k : ℕ). tabulate k f) (sym (add-one n)) ∙ from_append 0 n 1 f ∙ ap (λ (k : ℕ). tabulate n f ++ (f k ∷ [])) (zero-add n) in
    parts_set (packed n ns rs) n (record_at ns n)
    ∙ ap (λ (x : List Part). set x n (f n)) (packed_parts n ns rs (omega arith) ∙ ap (λ (x : List Part). tabulate n f ++ x) (drop-cons l n (part_of none) (omega (arith, length-map rs part_of))))
    ∙ set_at (tabulate n f) (get_or l n (part_of none)) (drop (suc n) l) (f n) n (length_tabulate n f)
    ∙ sym (append_snoc (tabulate n f) (f n) (drop (suc n) l)) ∙ ap (λ (x : List Part). x ++ drop (suc n) l) (sym snoc)
