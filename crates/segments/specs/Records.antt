-- Records as one list of numbers, four to a record: kind, start, length, assign. One list and not four:
-- the records of a call are then one lent slice, as the text is.
-- Assumes nothing.
use Rattle.std.specs.Prelude.{◌≡◌, ℕ, suc, ◌+◌, ◌-◌, ◌*◌, ◌/◌, ◌<◌, ◌≤◌, Bool, true, false, ◌&&◌, T, List, [], ◌∷◌, map, length, take, drop, get_or, zero, not, nat_lt, cond, Option, Some, None, MatchOption, slice_index, refl}
use Rattle.std.proofs.Common.{sym, ap₂, ◌∙◌, add-one, add-zero, drop-drop, lit<, ltb-true, ltb-false}
use Rattle.std.proofs.lemmas.List.{get_or-take, get_or-drop, get_or-map, length-map}
use Rattle.std.proofs.lemmas.List.Recursion.{is_position_or_len}
use Rattle.std.specs.Simd.{first_chunks}
use Rattle.std.specs.List.{position_or_len, position}
use Rattle.std.proofs.Math.Path.{ap, subst}
use native.Mathlib.Omega.{arith}
use Rattle.standard.specs.Numbers.{from, tabulate, every}
use Rattle.standard.specs.Segments.{Part, good_part, first_bad}
use Rattle.laws.specs.Tests.{true_T, and_pair}
use Rattle.laws.specs.Lists.{length_tabulate, get_d_tabulate, every_at}

abbrev pub part_of : ℕ → ℕ → ℕ → ℕ → Part
part_of k s n a = record { kind = k; start = s; len = n; assign = a }

-- record i
abbrev pub part_at : List ℕ → ℕ → Part
part_at ns i = part_of (slice_index ns (4 * i)) (slice_index ns (4 * i + 1)) (slice_index ns (4 * i + 2)) (slice_index ns (4 * i + 3))

-- the record that four numbers stand for
abbrev pub part_from : List ℕ → Part
part_from ns = part_of (slice_index ns 0) (slice_index ns 1) (slice_index ns 2) (slice_index ns 3)

-- the records that a list of numbers stands for
unfoldable pub parts_of : List ℕ → List Part
parts_of ns = tabulate (length ns / 4) (part_at ns)

-- those from record i on
abbrev pub rest_of : List ℕ → ℕ → List Part
rest_of ns i = from i (length ns / 4 - i) (part_at ns)

module _ (ns : List ℕ) where
  pub rest_all : rest_of ns 0 ≡ parts_of ns
  unfolding parts_of
  rest_all = let e : length ns / 4 - 0 ≡ length ns / 4 = omega arith in ap (λ (n : ℕ). from 0 n (part_at ns)) e

  pub rest_more : (i : ℕ) → i < length ns / 4 → rest_of ns i ≡ part_at ns i ∷ rest_of ns (i + 1)
  rest_more i h =
      let e : length ns / 4 - i ≡ suc (length ns / 4 - (i + 1)) = omega arith in
      ap (λ (n : ℕ). from i n (part_at ns)) e ∙ ap (λ (j : ℕ). part_at ns i ∷ from j (length ns / 4 - (i + 1)) (part_at ns)) (sym (add-one i))

  pub rest_none : (i : ℕ) → length ns / 4 ≤ i → rest_of ns i ≡ []
  rest_none i h = let e : length ns / 4 - i ≡ 0 = omega arith in ap (λ (n : ℕ). from i n (part_at ns)) e

  pub parts_length : length (parts_of ns) ≡ length ns / 4
  unfolding parts_of
  parts_length = length_tabulate (length ns / 4) (part_at ns)

  -- each record is good where all are
  pub good_at : (text : List ℕ) (i : ℕ) → T (every (good_part text) (parts_of ns)) → i < length ns / 4 → T (good_part text (part_at ns i))
  unfolding parts_of
  good_at text i t h =
      subst (λ (p : Part). T (good_part text p)) (get_d_tabulate (length ns / 4) (part_at ns) i (part_at ns 0) h)
      (every_at (good_part text) (parts_of ns) i (part_at ns 0) t (subst (λ (n : ℕ). i < n) (sym parts_length) h))

-- ---- records in fours

four_at : (ns : List ℕ) (n : ℕ) → part_from (take 4 (drop n ns)) ≡ part_of (slice_index ns (n + 0)) (slice_index ns (n + 1)) (slice_index ns (n + 2)) (slice_index ns (n + 3))
four_at ns n =
    ap₂ (λ (a b : ℕ). part_of a b (slice_index (take 4 (drop n ns)) 2) (slice_index (take 4 (drop n ns)) 3)) (at 0 (lit< tt)) (at 1 (lit< tt))
    ∙ ap₂ (λ (a b : ℕ). part_of (slice_index ns (n + 0)) (slice_index ns (n + 1)) a b) (at 2 (lit< tt)) (at 3 (lit< tt))
  where
    at : (j : ℕ) → j < 4 → slice_index (take 4 (drop n ns)) j ≡ slice_index ns (n + j)
    at j h = get_or-take 4 (drop n ns) j 0 h ∙ get_or-drop n ns j 0

chunks_from : (ns : List ℕ) (i n : ℕ) → map part_from (first_chunks 4 n (drop (4 * i) ns)) ≡ from i n (part_at ns)
chunks_from ns i zero = refl
chunks_from ns i (suc n) =
    ap₂ (λ (p : Part) (ps : List Part). p ∷ ps)
    (four_at ns (4 * i) ∙ ap (λ (a : ℕ). part_of (slice_index ns a) (slice_index ns (4 * i + 1)) (slice_index ns (4 * i + 2)) (slice_index ns (4 * i + 3))) (add-zero (4 * i)))
    (ap (λ (l : List ℕ). map part_from (first_chunks 4 n l)) (drop-drop 4 (4 * i) ns ∙ ap (λ (k : ℕ). drop k ns) (next i)) ∙ chunks_from ns (suc i) n)
  where
    next : (i : ℕ) → 4 * i + 4 ≡ 4 * suc i
    next i = omega arith

module _ (ns : List ℕ) where
  pub parts_chunks : map part_from (first_chunks 4 (length ns / 4) ns) ≡ parts_of ns
  unfolding parts_of
  parts_chunks = chunks_from ns 0 (length ns / 4)

  module _ (cs : List (List ℕ)) (ec : cs ≡ first_chunks 4 (length ns / 4) ns) where
    map_is : map part_from cs ≡ parts_of ns
    map_is = ap (map part_from) ec ∙ parts_chunks

    pub chunk_count : length cs ≡ length ns / 4
    chunk_count = sym (length-map cs part_from) ∙ ap length map_is ∙ parts_length ns

    pub chunk_at : (i : ℕ) → i < length cs → part_from (get_or cs i []) ≡ part_at ns i
    unfolding parts_of
    chunk_at i h =
        let l : i < length ns / 4 = omega (arith, chunk_count) in
        sym (get_or-map part_from cs i [] (part_at ns 0) h) ∙ ap (λ (ps : List Part). get_or ps i (part_at ns 0)) map_is
        ∙ get_d_tabulate (length ns / 4) (part_at ns) i (part_at ns 0) l

    -- four numbers of a list of good records are a good one
    pub good_chunk : (text : List ℕ) (i : ℕ) → T (every (good_part text) (parts_of ns)) → i < length cs → T (good_part text (part_from (get_or cs i [])))
    good_chunk text i t h = subst (λ (p : Part). T (good_part text p)) (sym (chunk_at i h)) (good_at ns text i t (omega (arith, chunk_count)))

-- ---- the first record that is not good

first_good : (text : List ℕ) (p : Part) (rs : List Part) → good_part text p ≡ true → first_bad text (p ∷ rs) ≡ suc (first_bad text rs)
unfolding first_bad
first_good text p rs e = ap (λ (b : Bool). elim b as (λ _. ℕ) [ true ↦ suc (first_bad text rs) | false ↦ 0 ]) e

first_bad_lem : (text : List ℕ) (p : Part) (rs : List Part) → good_part text p ≡ false → first_bad text (p ∷ rs) ≡ 0
unfolding first_bad
first_bad_lem text p rs e = ap (λ (b : Bool). elim b as (λ _. ℕ) [ true ↦ suc (first_bad text rs) | false ↦ 0 ]) e

-- it is found at the place of the first record that fails the test, and at the end where none does
first_bad_is : (text : List ℕ) (cs : List (List ℕ)) → position_or_len (λ c. not (good_part text (part_from c))) cs ≡ first_bad text (map part_from cs)
unfolding first_bad
first_bad_is text cs =
    sym (is_position_or_len (λ (l : List (List ℕ)). first_bad text (map part_from l)) (λ c. not (good_part text (part_from c))) refl (λ c l. step (good_part text (part_from c)) (first_bad text (map part_from l))) cs)
  where
    step : (b : Bool) (n : ℕ) → elim b as (λ _. ℕ) [ true ↦ suc n | false ↦ 0 ] ≡ cond (not b) 0 (1 + n)
    step true n = omega arith
    step false n = refl

first_le : (text : List ℕ) (ps : List Part) → first_bad text ps ≤ length ps
unfolding first_bad
first_le text [] = omega arith
first_le text (p ∷ ps) = go (good_part text p) (first_le text ps)
  where
    go : (b : Bool) → first_bad text ps ≤ length ps → elim b as (λ _. ℕ) [ true ↦ suc (first_bad text ps) | false ↦ 0 ] ≤ suc (length ps)
    go true h = omega arith
    go false h = omega arith

-- what the library's `position` answers of the records
pub bad_is : (text ns : List ℕ) (r : Option ℕ) → r ≡ position (λ c. not (good_part text (part_from c))) (first_chunks 4 (length ns / 4) ns)
    → MatchOption r (first_bad text (parts_of ns) ≡ length (parts_of ns)) (λ i. (i ≡ first_bad text (parts_of ns)) × (i < length (parts_of ns)))
bad_is text ns r e = subst (λ (o : Option ℕ). Says o) (sym (e ∙ is)) (go (nat_lt f (length (parts_of ns))) refl)
  where
    f : ℕ
    f = first_bad text (parts_of ns)

    Says : Option ℕ → Type 0
    Says o = MatchOption o (first_bad text (parts_of ns) ≡ length (parts_of ns)) (λ i. (i ≡ first_bad text (parts_of ns)) × (i < length (parts_of ns)))

    is : position (λ c. not (good_part text (part_from c))) (first_chunks 4 (length ns / 4) ns) ≡ cond (nat_lt f (length (parts_of ns))) (Some f) None
    is =
        ap₂ (λ (i n : ℕ). cond (nat_lt i n) (Some i) None)
        (first_bad_is text (first_chunks 4 (length ns / 4) ns) ∙ ap (first_bad text) (parts_chunks ns))
        (sym (length-map (first_chunks 4 (length ns / 4) ns) part_from) ∙ ap length (parts_chunks ns))

    go : (b : Bool) → nat_lt f (length (parts_of ns)) ≡ b → Says (cond b (Some f) None)
    go true q = (refl, ltb-true f (length (parts_of ns)) q)
    go false q = let h = ltb-false f (length (parts_of ns)) q in let l = first_le text (parts_of ns) in omega arith

-- where none is bad, each is good
pub all_good : (text : List ℕ) (rs : List Part) → length rs ≤ first_bad text rs → T (every (good_part text) rs)
all_good text [] h = tt
all_good text (p ∷ rs) h = go (good_part text p) refl (all_good text rs)
  where
    go : (b : Bool) → good_part text p ≡ b → (length rs ≤ first_bad text rs → T (every (good_part text) rs)) → T (good_part text p && every (good_part text) rs)
    go true e rest =
        let d = first_good text p rs e in
        and_pair (good_part text p) (every (good_part text) rs) (true_T (good_part text p) e) (rest (omega arith))
    go false e rest = let d = first_bad_lem text p rs e in absurd (omega arith)
