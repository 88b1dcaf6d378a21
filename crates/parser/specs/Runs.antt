-- A run of characters, checked and read group after group: what is written is read, and what is read was written.
-- Assumes nothing.
use Rattle.std.specs.Prelude.{ℕ, zero, suc, ◌+◌, ◌-◌, ◌^◌, ◌≤◌, ◌<◌, Bool, true, false, ◌≡◌, refl, List, [], ◌∷◌, ◌++◌, T, leb, ltb, length, take, drop, Ok}
use Rattle.std.proofs.Common.{sym, ap, ap₂, ◌∙◌, subst, append_assoc, arith, lt_of_lt_of_le, mod-eq_of_lt, lt-ltb, le-leb, ltb-true, leb-true, length-append, length-drop, take-append-drop, take_at, drop_at, length-take-le}
use Rattle.standard.specs.Numbers.{every}
use Rattle.standard.specs.Bits.{bits}
use Rattle.standard.specs.Kinds.{allowed}
use Rattle.laws.specs.Lists.{every_append}
use Rattle.bits.specs.Fields.{field, Binary, field_hit, field_rest, field_room, field_split}
use Rattle.segments.specs.Kinds.{base, width, limit, group_number, group_chars, length_chars, good_chars, number_chars, chars_number, number_small, every_take, every_drop}
use Rattle.segments.specs.Runs.{part, part_le, part_size, part_less, run_bits}
use Rattle.parser.specs.Faults.{Ends, fault_at}

-- the bit after n characters that stand at a bit, or the bit at which the first group begins that is cut short or too large
unfoldable pub run_end : ℕ → List ℕ → ℕ → ℕ → ℕ → Ends
run_end k u zero at n = Ok at
run_end k u (suc f) at zero = Ok at
run_end k u (suc f) at (suc n) =
    elim (leb (at + width k (part k (suc n))) (length u)) [
      | true ↦ elim (ltb (field u at (width k (part k (suc n)))) (base k ^ part k (suc n))) [
        | true ↦ run_end k u f (at + width k (part k (suc n))) (suc n - part k (suc n))
        | false ↦ fault_at at
      ]
      | false ↦ fault_at at
    ]

-- the characters
unfoldable pub run_chars : ℕ → List ℕ → ℕ → ℕ → ℕ → List ℕ
run_chars k u zero at n = []
run_chars k u (suc f) at zero = []
run_chars k u (suc f) at (suc n) =
    group_chars k (part k (suc n)) (field u at (width k (part k (suc n)))) ++ run_chars k u f (at + width k (part k (suc n))) (suc n - part k (suc n))

-- ---- one group

pub run_end_room : (k : ℕ) (u : List ℕ) (f at n : ℕ) → leb (at + width k (part k (suc n))) (length u) ≡ true
    → ltb (field u at (width k (part k (suc n)))) (base k ^ part k (suc n)) ≡ true
    → run_end k u (suc f) at (suc n) ≡ run_end k u f (at + width k (part k (suc n))) (suc n - part k (suc n))
unfolding run_end
run_end_room k u f at n a b =
    ap (λ (t : Bool). elim t as (λ _. Ends) [ true ↦ elim (ltb (field u at (width k (part k (suc n)))) (base k ^ part k (suc n))) as (λ _. Ends) [ true ↦ run_end k u f (at + width k (part k (suc n))) (suc n - part k (suc n)) | false ↦ fault_at at ] | false ↦ fault_at at ]) a
    ∙ ap (λ (t : Bool). elim t as (λ _. Ends) [ true ↦ run_end k u f (at + width k (part k (suc n))) (suc n - part k (suc n)) | false ↦ fault_at at ]) b

pub run_end_short : (k : ℕ) (u : List ℕ) (f at n : ℕ) → leb (at + width k (part k (suc n))) (length u) ≡ false
    → run_end k u (suc f) at (suc n) ≡ fault_at at
unfolding run_end
run_end_short k u f at n a =
    ap (λ (t : Bool). elim t as (λ _. Ends) [ true ↦ elim (ltb (field u at (width k (part k (suc n)))) (base k ^ part k (suc n))) as (λ _. Ends) [ true ↦ run_end k u f (at + width k (part k (suc n))) (suc n - part k (suc n)) | false ↦ fault_at at ] | false ↦ fault_at at ]) a

pub run_end_large : (k : ℕ) (u : List ℕ) (f at n : ℕ) → leb (at + width k (part k (suc n))) (length u) ≡ true
    → ltb (field u at (width k (part k (suc n)))) (base k ^ part k (suc n)) ≡ false
    → run_end k u (suc f) at (suc n) ≡ fault_at at
unfolding run_end
run_end_large k u f at n a b =
    ap (λ (t : Bool). elim t as (λ _. Ends) [ true ↦ elim (ltb (field u at (width k (part k (suc n)))) (base k ^ part k (suc n))) as (λ _. Ends) [ true ↦ run_end k u f (at + width k (part k (suc n))) (suc n - part k (suc n)) | false ↦ fault_at at ] | false ↦ fault_at at ]) a
    ∙ ap (λ (t : Bool). elim t as (λ _. Ends) [ true ↦ run_end k u f (at + width k (part k (suc n))) (suc n - part k (suc n)) | false ↦ fault_at at ]) b

-- ---- what is written is read
pub record Found (k : ℕ) (u : List ℕ) (f at n : ℕ) (cs r : List ℕ) : Type 0 where
  pub end : ℕ
  pub ends : run_end k u f at n ≡ Ok end
  pub chars : run_chars k u f at n ≡ cs
  pub rest : drop end u ≡ r
  pub low : at ≤ end
  pub high : end ≤ length u

pub run_complete : (k : ℕ) (u : List ℕ) (f at n : ℕ) (cs r : List ℕ) → length cs ≡ n → n ≤ f → T (every (allowed k) cs) → at ≤ length u
    → drop at u ≡ run_bits k f n cs ++ r → Found k u f at n cs r
unfolding run_bits run_end run_chars
run_complete k u zero at n [] r l h g a e = record { end = at; ends = refl; chars = refl; rest = e; low = omega arith; high = a }
run_complete k u zero at n (c ∷ cs) r l h g a e = absurd (omega arith)
run_complete k u (suc f) at zero [] r l h g a e = record { end = at; ends = refl; chars = refl; rest = e; low = omega arith; high = a }
run_complete k u (suc f) at zero (c ∷ cs) r l h g a e = absurd (omega arith)
run_complete k u (suc f) at (suc n) cs r l h g a e =
    let m : ℕ = part k (suc n) in
    let w : ℕ = width k m in
    let gs : List ℕ = take m cs in
    let x : ℕ = group_number k 0 gs in
    let lm : m ≤ length cs = subst (λ (j : ℕ). m ≤ j) (sym l) (part_le k (suc n)) in
    let lg : length gs ≡ m = length-take-le m cs lm in
    let gg : T (every (allowed k) gs) = every_take (allowed k) m cs g in
    let small : x < base k ^ m = subst (λ (j : ℕ). x < base k ^ j) lg (number_small k gs gg) in
    let fits : x < 2 ^ w = lt_of_lt_of_le small (limit k m (part_size k (suc n))) in
    let split : drop at u ≡ bits w x ++ (run_bits k f (suc n - m) (drop m cs) ++ r) = e ∙ append_assoc (bits w x) (run_bits k f (suc n - m) (drop m cs)) r in
    let is : field u at w ≡ x = field_hit u at w x (run_bits k f (suc n - m) (drop m cs) ++ r) split fits in
    let room : at + w ≤ length u = field_room u at w x (run_bits k f (suc n - m) (drop m cs) ++ r) split a in
    let next : Found k u f (at + w) (suc n - m) (drop m cs) r
    = run_complete k u f (at + w) (suc n - m) (drop m cs) r
    (length-drop m cs ∙ ap (λ (j : ℕ). j - m) l)
    (part_less k n f h) (every_drop (allowed k) m cs g) room
    (field_rest u at w x (run_bits k f (suc n - m) (drop m cs) ++ r) split) in
    let own : group_chars k m x ≡ gs = ap (λ (j : ℕ). group_chars k j x) (sym lg) ∙ chars_number k 0 gs gg in
    record {
      end = next.end;
      ends = run_end_room k u f at n (le-leb (at + w) (length u) room)
          (lt-ltb (field u at w) (base k ^ m) (subst (λ (j : ℕ). j < base k ^ m) (sym is) small))
          ∙ next.ends;
      chars = ap₂ (λ (a b : List ℕ). a ++ b) (ap (group_chars k m) is ∙ own) next.chars ∙ take-append-drop m cs;
      rest = next.rest;
      low = omega (arith, next.low);
      high = next.high;
    }

-- ---- what is read was written
pub record Wrote (k : ℕ) (u : List ℕ) (f at n end : ℕ) : Type 0 where
  pub count : length (run_chars k u f at n) ≡ n
  pub goods : T (every (allowed k) (run_chars k u f at n))
  pub bits : drop at u ≡ run_bits k f n (run_chars k u f at n) ++ drop end u
  pub low : at ≤ end
  pub high : end ≤ length u

same_end : (a b : ℕ) → ◌≡◌ {A = Ends} (Ok a) (Ok b) → a ≡ b
same_end a b e = cc

pub no_end : {A : Type 0} (a b : ℕ) → ◌≡◌ {A = Ends} (fault_at a) (Ok b) → A
no_end a b e = let z : ◌≡◌ {A = ℕ} 0 1 = cc in absurd (omega arith)

pub run_sound : (k : ℕ) (u : List ℕ) (f at n end : ℕ) → k < 3 → Binary u → n ≤ f → at ≤ length u → run_end k u f at n ≡ Ok end → Wrote k u f at n end
unfolding run_bits run_end run_chars
run_sound k u zero at n end lk b h a e =
    let q : at ≡ end = same_end at end e in
    record { count = omega arith; goods = tt; bits = ap (λ (j : ℕ). drop j u) q; low = omega arith; high = omega arith }
run_sound k u (suc f) at zero end lk b h a e =
    let q : at ≡ end = same_end at end e in
    record { count = refl; goods = tt; bits = ap (λ (j : ℕ). drop j u) q; low = omega arith; high = omega arith }
run_sound k u (suc f) at (suc n) end lk b h a e =
    room_case (leb (at + width k (part k (suc n))) (length u)) refl
    (λ room. run_sound k u f (at + width k (part k (suc n))) (suc n - part k (suc n)) end lk b (part_less k n f h) (leb-true (at + width k (part k (suc n))) (length u) room)) e
  where
    m : ℕ
    m = part k (suc n)

    w : ℕ
    w = width k m

    x : ℕ
    x = field u at w

    build : at + w ≤ length u → x < base k ^ m → Wrote k u f (at + w) (suc n - m) end → Wrote k u (suc f) at (suc n) end
    build room small next =
        let more : List ℕ = run_chars k u f (at + w) (suc n - m) in
        let gs : List ℕ = group_chars k m x in
        let lg : length gs ≡ m = length_chars k m x in
        let back : group_number k 0 gs ≡ x = number_chars k 0 m x ∙ omega (arith, mod-eq_of_lt small) in
        let pm : m ≤ suc n = part_le k (suc n) in
        record {
          count = length-append gs more ∙ omega (arith, next.count, lg);
          goods = every_append (allowed k) gs more (good_chars k m x lk) next.goods;
          bits = field_split u at w b room
              ∙ ap (λ (l : List ℕ). bits w x ++ l) next.bits
              ∙ sym (append_assoc (bits w x) (run_bits k f (suc n - m) more) (drop end u))
              ∙ ap₂ (λ (y : ℕ) (l : List ℕ). bits w y ++ run_bits k f (suc n - m) l ++ drop end u)
              (sym back ∙ ap (group_number k 0) (sym (take_at gs more m lg)))
              (sym (drop_at gs more m lg));
          low = omega (arith, next.low);
          high = next.high;
        }

    limit_case : (t : Bool) → ltb x (base k ^ m) ≡ t → at + w ≤ length u
        → (run_end k u f (at + w) (suc n - m) ≡ Ok end → Wrote k u f (at + w) (suc n - m) end)
        → ◌≡◌ {A = Ends} (elim t [ true ↦ run_end k u f (at + w) (suc n - m) | false ↦ fault_at at ]) (Ok end)
        → Wrote k u (suc f) at (suc n) end
    limit_case true q room ih e = build room (ltb-true x (base k ^ m) q) (ih e)
    limit_case false q room ih e = no_end at end e

    room_case : (t : Bool) → leb (at + w) (length u) ≡ t
        → (leb (at + w) (length u) ≡ true → run_end k u f (at + w) (suc n - m) ≡ Ok end → Wrote k u f (at + w) (suc n - m) end)
        → ◌≡◌ {A = Ends} (elim t [
          | true ↦ elim (ltb x (base k ^ m)) [ true ↦ run_end k u f (at + w) (suc n - m) | false ↦ fault_at at ]
          | false ↦ fault_at at
        ]) (Ok end)
        → Wrote k u (suc f) at (suc n) end
    room_case true q ih e = limit_case (ltb x (base k ^ m)) refl (leb-true (at + w) (length u) q) (ih q) e
    room_case false q ih e = no_end at end e

-- ---- a run has as many characters as it should, whatever stands there
pub run_length : (k : ℕ) (u : List ℕ) (f at n : ℕ) → n ≤ f → length (run_chars k u f at n) ≡ n
unfolding run_chars
run_length k u zero at n h = omega arith
run_length k u (suc f) at zero h = refl
run_length k u (suc f) at (suc n) h =
    let p : part k (suc n) ≤ suc n = part_le k (suc n) in
    length-append (group_chars k (part k (suc n)) (field u at (width k (part k (suc n))))) (run_chars k u f (at + width k (part k (suc n))) (suc n - part k (suc n)))
    ∙ omega (arith, length_chars k (part k (suc n)) (field u at (width k (part k (suc n)))), run_length k u f (at + width k (part k (suc n))) (suc n - part k (suc n)) (part_less k n f h))
