-- A finished grid: colours alone. And another format word on a work grid.
-- Assumes nothing.
use Rattle.std.specs.Prelude.{ℕ, ◌+◌, ◌-◌, ◌*◌, ◌/◌, ◌%◌, ◌^◌, ◌≤◌, ◌<◌, min, max, Bool, true, false, cond, not, ◌&&◌, ◌||◌, ◌≡◌, refl, List, length, get_or, replicate, leb, ltb, eqb}
use Rattle.std.proofs.Common.{true≢false, sym, ap, ◌∙◌, mod-lt, arith, ext_get_or, ltb-true, leb-true, ne_eqb}
use Rattle.std.proofs.lemmas.List.{length-replicate, get_or-replicate}
use Rattle.standard.specs.Numbers.{one}
use Rattle.standard.specs.Sizes.{side}
use Rattle.standard.specs.Patterns.{on_timing, timing_colour, on_finder, finder_ring, finder_colour, on_alignment, alignment_colour, nearest, alignment}
use Rattle.standard.specs.Format.{format_word, version_word, format_place, on_format, format_colour, in_version, on_version, version_colour}
use Rattle.standard.specs.Functions.{is_function, function_colour}
use Rattle.standard.specs.Masks.{inverts}
use Rattle.standard.specs.Grid.{content, module_at, grid}
use Rattle.laws.specs.Tests.{and_first, and_second}
use Rattle.laws.specs.Lists.{length_tabulate, get_d_tabulate, is_tabulate}
use Rattle.laws.specs.Grid.{Square, paint, length_paint, get_d_paint}
use Rattle.laws.specs.Each.{each, each_done, each_end}
use Rattle.patterns.specs.Layers.{layer, functions, formats}
use Rattle.modules.specs.Mask.{masked}
use Rattle.modules.specs.Zigzag.{drawn}
use Rattle.modules.specs.Work.{work_at, work, work_length, work_at_lem, turned, mask_content, mask_work, functions_work, codewords_work, content_small}

-- ---- colours alone

one_lt : (b : Bool) → one b < 2
one_lt true = omega arith
one_lt false = omega arith

cond_lt : (b : Bool) (m n : ℕ) → m < 2 → n < 2 → cond b m n < 2
cond_lt true m n p q = p
cond_lt false m n p q = q

timing_lt : (x y : ℕ) → timing_colour x y < 2
unfolding timing_colour
timing_lt x y = omega arith

finder_lt : (s x y : ℕ) → finder_colour s x y < 2
unfolding finder_colour
finder_lt s x y = one_lt (not (eqb (finder_ring s x y) 2 || eqb (finder_ring s x y) 4))

alignment_lt : (v x y : ℕ) → alignment_colour v x y < 2
unfolding alignment_colour
alignment_lt v x y = one_lt (not (eqb (max (nearest (alignment v) x) (nearest (alignment v) y)) 1))

format_lt : (s word x y : ℕ) → format_colour s word x y < 2
unfolding format_colour
format_lt s word x y = mod-lt ((2 ^ 15 + word) / 2 ^ format_place s x y) (omega arith)

version_lt : (v x y : ℕ) → version_colour v x y < 2
unfolding version_colour
version_lt v x y = mod-lt (version_word v / 2 ^ (3 * min x y + (max x y + 11 - side v))) (omega arith)

pub colour_lt : (v word x y : ℕ) → function_colour v word x y < 2
unfolding function_colour
colour_lt v word x y =
    cond_lt (on_version v x y) (version_colour v x y) _ (version_lt v x y)
    (cond_lt (on_format (side v) x y) (format_colour (side v) word x y) _ (format_lt (side v) word x y)
    (cond_lt (on_alignment v x y) (alignment_colour v x y) _ (alignment_lt v x y)
    (cond_lt (on_finder (side v) x y) (finder_colour (side v) x y) (timing_colour x y) (finder_lt (side v) x y) (timing_lt x y))))

pub finish_work : (v l m : ℕ) (g : List ℕ) → each (λ _ k. k % 2) (work v (format_word l m) (mask_content v m g)) ≡ grid v l m g
unfolding each grid module_at work_at mask_content turned
finish_work v l m g =
    is_tabulate 0 (each (λ _ k. k % 2) (work v (format_word l m) (mask_content v m g))) (side v * side v) (module_at v (format_word l m) m g)
    (length_tabulate (length (work v (format_word l m) (mask_content v m g))) _ ∙ work_length v (format_word l m) (mask_content v m g))
    (λ i h.
    get_d_tabulate (length (work v (format_word l m) (mask_content v m g))) (λ k. get_or (work v (format_word l m) (mask_content v m g)) k 0 % 2) i 0 (omega (arith, work_length v (format_word l m) (mask_content v m g)))
    ∙ rw (work_at_lem v (format_word l m) (mask_content v m g) i h, get_d_tabulate (side v * side v) (turned v m g) i 0 h)
    (go i (is_function v (i % side v) (i / side v))))
  where
    go : (i : ℕ) (b : Bool)
        → cond b (2 + function_colour v (format_word l m) (i % side v) (i / side v)) ((get_or g i 0 + one (inverts m (i % side v) (i / side v))) % 2) % 2
        ≡ cond b (function_colour v (format_word l m) (i % side v) (i / side v)) ((get_or g i 0 + one (inverts m (i % side v) (i / side v))) % 2)
    go i true = omega (arith, colour_lt v (format_word l m) (i % side v) (i / side v))
    go i false = omega arith

-- ---- another format word

in_version_lem : (s a b : ℕ) → in_version s a b ≡ true → (b < 6) × (s - 11 ≤ a)
unfolding in_version
in_version_lem s a b e = (
  ltb-true b 6 (and_first (ltb b 6) (leb (s - 11) a && ltb a (s - 8)) e),
  leb-true (s - 11) a (and_first (leb (s - 11) a) (ltb a (s - 8)) (and_second (ltb b 6) (leb (s - 11) a && ltb a (s - 8)) e)),
)

off_lines : (s x y : ℕ) → (x ≡ 8 → ⊥) → (y ≡ 8 → ⊥) → on_format s x y ≡ false
unfolding on_format format_place
off_lines s x y p q = rw (ne_eqb x 8 p, ne_eqb y 8 q)

off_format : (v x y : ℕ) → on_version v x y ≡ true → on_format (side v) x y ≡ false
unfolding on_version
off_format v x y e =
    let h = leb-true 7 v (and_first (leb 7 v) (in_version (side v) x y || in_version (side v) y x) e) in
    go h (in_version (side v) x y) refl (in_version (side v) y x) refl (and_second (leb 7 v) (in_version (side v) x y || in_version (side v) y x) e)
  where
    go : 7 ≤ v → (a : Bool) → in_version (side v) x y ≡ a → (b : Bool) → in_version (side v) y x ≡ b → a || b ≡ true → on_format (side v) x y ≡ false
    go h true p b q z = let n = in_version_lem (side v) x y p in off_lines (side v) x y (λ k. omega arith) (λ k. omega arith)
    go h false p true q z = let n = in_version_lem (side v) y x q in off_lines (side v) x y (λ k. omega arith) (λ k. omega arith)
    go h false p false q z = absurd (true≢false (sym z))

hidden : (t f : Bool) (n c : ℕ) → n ≡ cond (t || (f || true)) n c
hidden true f n c = refl
hidden false true n c = refl
hidden false false n c = refl

over : (v m t f a : Bool) (cv old new r c : ℕ) → (v ≡ true → m ≡ false)
    → cond m (2 + new) (cond (t || (f || (m || (v || a)))) (2 + cond v cv (cond m old r)) c) ≡ cond (t || (f || (m || (v || a)))) (2 + cond v cv (cond m new r)) c
over true true t f a cv old new r c h = absurd (true≢false (h refl))
over false true t f a cv old new r c h = hidden t f (2 + new) c
over true false t f a cv old new r c h = refl
over false false t f a cv old new r c h = refl

-- the format word drawn anew
pub reformat : (v word new : ℕ) (g : List ℕ) → paint (side v) (formats (side v) new) (work v word g) ≡ work v new g
unfolding layer work work_at is_function function_colour
reformat v word new g =
    is_tabulate 0 (paint (side v) (formats (side v) new) (work v word g)) (side v * side v) (work_at v new g) (length_paint (side v) (formats (side v) new) (work v word g) ∙ work_length v word g)
    (λ i h.
    get_d_paint (side v) (formats (side v) new) (work v word g) i (omega (arith, work_length v word g))
    ∙ rw (work_at_lem v word g i h) (go (i % side v) (i / side v) (get_or g i 0)))
  where
    go : (x y c : ℕ) → cond (on_format (side v) x y) (2 + format_colour (side v) new x y) (cond (is_function v x y) (2 + function_colour v word x y) c) ≡ cond (is_function v x y) (2 + function_colour v new x y) c
    go x y c =
        over (on_version v x y) (on_format (side v) x y) (on_timing x y) (on_finder (side v) x y) (on_alignment v x y) (version_colour v x y)
        (format_colour (side v) word x y) (format_colour (side v) new x y) _ c (off_format v x y)

-- ---- the steps, as the code takes them

pub clear_end : (n m : ℕ) (g h : List ℕ) → h ≡ each_done n (λ _ _. 0) g → length h ≡ m → m ≤ n → h ≡ replicate (length g) 0
unfolding each
clear_end n m g h e l k =
    each_end (λ _ _. 0) g n m h e l k
    ∙ ext_get_or 0 (each (λ _ _. 0) g) (replicate (length g) 0) (length_tabulate {A = ℕ} (length g) (λ _. 0) ∙ sym (length-replicate {A = ℕ} (length g) 0))
    (λ i b.
    let b' : i < length g = omega (arith, length_tabulate {A = ℕ} (length g) (λ _. 0)) in
    get_d_tabulate {A = ℕ} (length g) (λ _. 0) i 0 b' ∙ sym (get_or-replicate {A = ℕ} (length g) i 0 0 b'))

-- function modules and codewords, without a mask
pub modules_drawn : (v word : ℕ) (ws g a b c : List ℕ) → a ≡ replicate (length g) 0 → b ≡ paint (side v) (functions v word) a → c ≡ drawn (side v) ws b → Square g (side v)
    → c ≡ work v word (content v ws)
modules_drawn v word ws g a b c e f h sq =
    let e' : a ≡ replicate (side v * side v) 0 = e ∙ ap (λ (n : ℕ). replicate n 0) sq.size in
    let f' : b ≡ work v word (replicate (side v * side v) 0) = f ∙ ap (paint (side v) (functions v word)) e' ∙ functions_work v word (replicate (side v * side v) 0) (length-replicate (side v * side v) 0) in
    h ∙ ap (drawn (side v) ws) f' ∙ codewords_work v word ws

-- THE LAW: patterns and codewords, then the mask, then the format bits, then colours alone give the grid of the definition
pub label_drawn : (v l m word : ℕ) (ws a b c d : List ℕ) → a ≡ work v word (content v ws) → b ≡ paint (side v) (masked m) a
    → c ≡ paint (side v) (formats (side v) (format_word l m)) b → d ≡ each (λ _ k. k % 2) c → d ≡ grid v l m (content v ws)
label_drawn v l m word ws a b c d e f h i =
    let masks : b ≡ work v word (mask_content v m (content v ws)) = f ∙ ap (paint (side v) (masked m)) e ∙ mask_work v word m (content v ws) (content_small v ws) in
    let formatted : c ≡ work v (format_word l m) (mask_content v m (content v ws)) = h ∙ ap (paint (side v) (formats (side v) (format_word l m))) masks ∙ reformat v word (format_word l m) (mask_content v m (content v ws)) in
    i ∙ ap (each (λ _ k. k % 2)) formatted ∙ finish_work v l m (content v ws)
