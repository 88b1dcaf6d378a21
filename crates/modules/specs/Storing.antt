-- Bits that are stored at places one after the other: laws of `store`.
-- Assumes nothing.
use Rattle.std.specs.Prelude.{ℕ, zero, suc, ◌≤◌, ◌<◌, Bool, true, false, ◌≡◌, refl, List, [], ◌∷◌, ◌++◌, length, get_or, set, drop, replicate, ltb}
use Rattle.std.proofs.Common.{true≢false, sym, ap, ◌∙◌, arith, length-set, get_or-set_same, get_or-set_other, lt-ltb, ltb-true}
use Rattle.std.proofs.Math.Decide.{ℕ_discrete, dec_lt}
use Rattle.std.proofs.lemmas.List.{set-get_or}
use Rattle.std.proofs.Math.Seq.{set_out}
use Rattle.standard.specs.Numbers.{cons_if, keep}
use Rattle.standard.specs.Grid.{store}
use Rattle.modules.specs.Kept.{Bits}

pub store_length : (ps bs g : List ℕ) → length (store ps bs g) ≡ length g
unfolding store
store_length [] bs g = refl
store_length (p ∷ ps) [] g = refl
store_length (p ∷ ps) (b ∷ bs) g = store_length ps bs (set g p b) ∙ length-set g p b

-- one place more
pub store_snoc_in : (ps bs g : List ℕ) (c : ℕ) → length ps < length bs → store (ps ++ (c ∷ [])) bs g ≡ set (store ps bs g) c (get_or bs (length ps) 0)
unfolding store
store_snoc_in [] [] g c h = absurd (omega arith)
store_snoc_in [] (b ∷ bs) g c h = refl
store_snoc_in (p ∷ ps) [] g c h = absurd (omega arith)
store_snoc_in (p ∷ ps) (b ∷ bs) g c h = store_snoc_in ps bs (set g p b) c (omega arith)

pub store_snoc_out : (ps bs g : List ℕ) (c : ℕ) → length bs ≤ length ps → store (ps ++ (c ∷ [])) bs g ≡ store ps bs g
unfolding store
store_snoc_out [] [] g c h = refl
store_snoc_out [] (b ∷ bs) g c h = absurd (omega arith)
store_snoc_out (p ∷ ps) [] g c h = refl
store_snoc_out (p ∷ ps) (b ∷ bs) g c h = store_snoc_out ps bs (set g p b) c (omega arith)

-- a place at which the test fails is none of those that are kept
pub store_off : (p : ℕ → Bool) (xs bs g : List ℕ) (i : ℕ) → p i ≡ false → get_or (store (keep p xs) bs g) i 0 ≡ get_or g i 0
unfolding store
store_off p [] bs g i e = refl
store_off p (x ∷ xs) bs g i e = go (p x) refl bs (λ bs h. store_off p xs bs h i e)
  where
    go : (t : Bool) → p x ≡ t → (bs : List ℕ) → ((bs h : List ℕ) → get_or (store (keep p xs) bs h) i 0 ≡ get_or h i 0) → get_or (store (cons_if t x (keep p xs)) bs g) i 0 ≡ get_or g i 0
    go false q bs rest = rest bs g
    go true q [] rest = refl
    go true q (b ∷ bs) rest =
        rest bs (set g x b)
        ∙ get_or-set_other g x i b 0 (λ z. absurd (true≢false (sym q ∙ ap p (sym z) ∙ e)))

set_same : (g h : List ℕ) (c b i : ℕ) → length g ≡ length h → get_or g i 0 ≡ get_or h i 0 → get_or (set g c b) i 0 ≡ get_or (set h c b) i 0
set_same g h c b i l e = go (ℕ_discrete i c) (dec_lt c (length g))
  where
    go : Dec (i ≡ c) → Dec (c < length g) → get_or (set g c b) i 0 ≡ get_or (set h c b) i 0
    go (no n) d = get_or-set_other g c i b 0 n ∙ e ∙ sym (get_or-set_other h c i b 0 n)
    go (yes y) (yes k) = rw y (get_or-set_same g c b 0 k ∙ sym (get_or-set_same h c b 0 (omega (arith, l))))
    go (yes y) (no n) = rw (set_out g c b (omega arith), set_out h c b (omega (arith, l))) e

-- two grids that agree at a place agree there afterwards
pub store_same : (ps bs g h : List ℕ) (i : ℕ) → length g ≡ length h → get_or g i 0 ≡ get_or h i 0 → get_or (store ps bs g) i 0 ≡ get_or (store ps bs h) i 0
unfolding store
store_same [] bs g h i l e = e
store_same (p ∷ ps) [] g h i l e = e
store_same (p ∷ ps) (b ∷ bs) g h i l e =
    store_same ps bs (set g p b) (set h p b) i (length-set g p b ∙ l ∙ sym (length-set h p b)) (set_same g h p b i l e)

set_small : (g : List ℕ) (c b i : ℕ) → b < 2 → get_or g i 0 < 2 → get_or (set g c b) i 0 < 2
set_small g c b i h l = go (ℕ_discrete i c) (dec_lt c (length g))
  where
    go : Dec (i ≡ c) → Dec (c < length g) → get_or (set g c b) i 0 < 2
    go (no n) d = rw (get_or-set_other g c i b 0 n) l
    go (yes y) (yes k) = rw (y, get_or-set_same g c b 0 k) h
    go (yes y) (no n) = rw (set_out g c b (omega arith)) l

pub store_small : (ps bs g : List ℕ) (i : ℕ) → Bits bs → get_or g i 0 < 2 → get_or (store ps bs g) i 0 < 2
unfolding store
store_small [] bs g i h l = l
store_small (p ∷ ps) [] g i h l = l
store_small (p ∷ ps) (b ∷ bs) g i h l = store_small ps bs (set g p b) i (λ j. h (suc j)) (set_small g p b i (h 0) l)

-- a data module stays one, and so does a function module
pub store_kind : (xs bs g : List ℕ) (i : ℕ) → Bits bs → ltb (get_or (store (keep (λ k. ltb (get_or g k 0) 2) xs) bs g) i 0) 2 ≡ ltb (get_or g i 0) 2
store_kind xs bs g i h = go (ltb (get_or g i 0) 2) refl
  where
    go : (t : Bool) → ltb (get_or g i 0) 2 ≡ t → ltb (get_or (store (keep (λ k. ltb (get_or g k 0) 2) xs) bs g) i 0) 2 ≡ ltb (get_or g i 0) 2
    go false e = ap (λ (n : ℕ). ltb n 2) (store_off (λ k. ltb (get_or g k 0) 2) xs bs g i e)
    go true e = lt-ltb _ 2 (store_small (keep (λ k. ltb (get_or g k 0) 2) xs) bs g i h (ltb-true (get_or g i 0) 2 e)) ∙ sym e

-- ---- more bits

pub store_append : (ps bs cs g : List ℕ) → store ps (bs ++ cs) g ≡ store (drop (length bs) ps) cs (store ps bs g)
unfolding store
store_append [] [] cs g = refl
store_append [] (b ∷ bs) cs g = refl
store_append (p ∷ ps) [] cs g = refl
store_append (p ∷ ps) (b ∷ bs) cs g = store_append ps bs cs (set g p b)

-- a place that takes no bit
pub store_other : (ps bs g : List ℕ) (i : ℕ) → ((j : ℕ) → j < length ps → j < length bs → get_or ps j 0 ≡ i → ⊥) → get_or (store ps bs g) i 0 ≡ get_or g i 0
unfolding store
store_other [] bs g i h = refl
store_other (p ∷ ps) [] g i h = refl
store_other (p ∷ ps) (b ∷ bs) g i h =
    store_other ps bs (set g p b) i (λ j k l e. h (suc j) (omega arith) (omega arith) e)
    ∙ get_or-set_other g p i b 0 (λ e. h 0 (omega arith) (omega arith) (sym e))

-- light bits at light places
pub store_light : (ps : List ℕ) (n : ℕ) (g : List ℕ) → ((j : ℕ) → j < length ps → get_or g (get_or ps j 0) 0 ≡ 0) → store ps (replicate n 0) g ≡ g
unfolding store
store_light [] n g h = refl
store_light (p ∷ ps) zero g h = refl
store_light (p ∷ ps) (suc n) g h =
    let e : set g p 0 ≡ g = ap (set g p) (sym (h 0 (omega arith))) ∙ set-get_or g p 0 in
    rw e (store_light ps n g (λ j l. h (suc j) (omega arith)))
