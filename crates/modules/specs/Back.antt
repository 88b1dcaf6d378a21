-- A label's codewords are read back from its grid.
-- Assumes nothing.
use Prim.Native.Nat.{ℕ, ◌+◌, ◌-◌, ◌*◌, ◌/◌, ◌%◌, ◌≤◌, ◌<◌, min}
use Rattle.std.specs.Prelude.{Bool, true, false, cond, ◌≡◌, refl, take, drop, replicate, ltb}
use Rattle.std.proofs.Math.Path.{sym, ap}
use Rattle.std.proofs.Common.{◌∙◌, length-drop, get_or-drop, take_at, le-ltb}
use mathlib.Core.List.{List, [], ◌∷◌, ◌++◌, append_assoc}
use native.Mathlib.Omega.{arith}
use Rattle.std.proofs.Math.ListN.{length, get_or, length-append, get_or-append}
use Rattle.std.proofs.lemmas.List.{length-replicate, get_or-replicate}
use Rattle.std.proofs.Math.Seq.{get_or-append-add}
use Rattle.standard.specs.Sizes.{side, raw_codewords}
use Rattle.standard.specs.Format.{format_word}
use Rattle.standard.specs.Functions.{is_function, function_colour}
use Rattle.standard.specs.Path.{path}
use Rattle.standard.specs.Bits.{bits, unpack}
use Rattle.standard.specs.Grid.{store, content, module_at, grid}
use Rattle.laws.specs.Tests.{split}
use Rattle.laws.specs.Lists.{length_tabulate, get_d_tabulate, is_tabulate, zeros_at}
use Rattle.laws.specs.Grid.{Square, paint}
use Rattle.laws.specs.Each.{each, each_done, each_end}
use Rattle.counts.specs.Free.{path_length_lem}
use Rattle.counts.specs.Zigzag.{path_injective}
use Rattle.patterns.specs.Layers.{functions}
use Rattle.modules.specs.Mask.{masked, masked_twice}
use Rattle.modules.specs.Zigzag.{collected, used_of, path_length}
use Rattle.modules.specs.Storing.{store_append, store_other, store_light}
use Rattle.modules.specs.Zeroed.{reading, reading_low}
use Rattle.modules.specs.Trip.{bits_laid, read_back}
use Rattle.modules.specs.Way.{After, walked, places_path}
use Rattle.modules.specs.Work.{work_at, work, work_length, work_at_lem, functions_work, empty_small, kind_at, codewords_work, content_small, turned, mask_content, mask_work, Small}

-- the data modules of a grid, in the function modules of a work grid
unfoldable pub copied : List ℕ → List ℕ → List ℕ
copied g w = each (λ k c. cond (ltb c 2) (get_or g k 0) c) w

copied_work : (v word : ℕ) (g : List ℕ) → copied g (work v word (replicate (side v * side v) 0)) ≡ work v word g
unfolding copied each work work_at
copied_work v word g =
    is_tabulate 0 (copied g E) (side v * side v) (work_at v word g) (length_tabulate (length E) (λ k. cond (ltb (get_or E k 0) 2) (get_or g k 0) (get_or E k 0)) ∙ work_length v word (replicate (side v * side v) 0))
    (λ i h.
    get_d_tabulate (length E) (λ k. cond (ltb (get_or E k 0) 2) (get_or g k 0) (get_or E k 0)) i 0 (omega (arith, work_length v word (replicate (side v * side v) 0)))
    ∙ rw (work_at_lem v word (replicate (side v * side v) 0) i h) (go i h (is_function v (i % side v) (i / side v))))
  where
    E : List ℕ
    E = work v word (replicate (side v * side v) 0)

    go : (i : ℕ) → i < side v * side v → (b : Bool)
        → cond (ltb (cond b (2 + function_colour v word (i % side v) (i / side v)) (get_or (replicate (side v * side v) 0) i 0)) 2) (get_or g i 0) (cond b (2 + function_colour v word (i % side v) (i / side v)) (get_or (replicate (side v * side v) 0) i 0))
        ≡ cond b (2 + function_colour v word (i % side v) (i / side v)) (get_or g i 0)
    go i h true = rw (le-ltb (2 + function_colour v word (i % side v) (i / side v)) 2 (omega arith))
    go i h false = rw (get_or-replicate {A = ℕ} (side v * side v) i 0 0 h)

twice : (b : Bool) (a c d : ℕ) → cond b a (cond b c d) ≡ cond b a d
twice true a c d = refl
twice false a c d = refl

grid_at : (v l m : ℕ) (g : List ℕ) (i : ℕ) → i < side v * side v → work_at v (format_word l m) (grid v l m g) i ≡ work_at v (format_word l m) (mask_content v m g) i
unfolding work_at grid module_at mask_content turned
grid_at v l m g i h =
    rw (get_d_tabulate (side v * side v) (module_at v (format_word l m) m g) i 0 h, get_d_tabulate (side v * side v) (turned v m g) i 0 h)
    (twice (is_function v (i % side v) (i / side v)) (2 + function_colour v (format_word l m) (i % side v) (i / side v)) _ _)

-- the data modules of a label are its content, masked
grid_work : (v l m : ℕ) (g : List ℕ) → work v (format_word l m) (grid v l m g) ≡ work v (format_word l m) (mask_content v m g)
unfolding work
grid_work v l m g =
    is_tabulate 0 (work v (format_word l m) (grid v l m g)) (side v * side v) (work_at v (format_word l m) (mask_content v m g)) (work_length v (format_word l m) (grid v l m g))
    (λ i h. work_at_lem v (format_word l m) (grid v l m g) i h ∙ grid_at v l m g i h)

-- without the mask they are the content
pub unmasked : (v l m : ℕ) (g : List ℕ) → v ≤ 40 → Small v g → paint (side v) (masked m) (work v (format_word l m) (grid v l m g)) ≡ work v (format_word l m) g
unmasked v l m g high small =
    ap (paint (side v) (masked m)) (grid_work v l m g ∙ sym (mask_work v (format_word l m) m g small))
    ∙ masked_twice (side v) m (work v (format_word l m) g) (record { size = work_length v (format_word l m) g; small = omega arith })

-- ---- remainder modules are read into one byte more

unpack_more : (ws : List ℕ) → unpack (ws ++ (0 ∷ [])) ≡ unpack ws ++ replicate 8 0
unfolding unpack bits
unpack_more [] = refl
unpack_more (w ∷ ws) = ap (λ (l : List ℕ). bits 8 w ++ l) (unpack_more ws) ∙ sym (append_assoc (bits 8 w) (unpack ws) (replicate 8 0))

content_more : (v : ℕ) (ws : List ℕ) → content v (ws ++ (0 ∷ [])) ≡ content v ws
unfolding content
content_more v ws =
    ap (λ (bs : List ℕ). store (path v) bs Z) (unpack_more ws)
    ∙ store_append (path v) (unpack ws) (replicate 8 0) Z
    ∙ store_light (drop n (path v)) 8 (store (path v) (unpack ws) Z)
    (λ j h.
    let k : n + j < length (path v) = omega (arith, length-drop n (path v)) in
    ap (λ (p : ℕ). get_or (store (path v) (unpack ws) Z) p 0) (get_or-drop n (path v) j 0)
    ∙ store_other (path v) (unpack ws) Z (get_or (path v) (n + j) 0) (λ i hi hb e. let f = path_injective v i (n + j) hi k e in omega arith)
    ∙ zeros_at (side v * side v) (get_or (path v) (n + j) 0))
  where
    n : ℕ
    n = length (unpack ws)

    Z : List ℕ
    Z = replicate (side v * side v) 0

module _ (v word : ℕ) (ws : List ℕ) (low : 1 ≤ v) (high : v ≤ 40) (all : length ws ≡ raw_codewords v) (bytes : (b : ℕ) → get_or ws b 0 < 256) where
  E : List ℕ
  E = work v word (replicate (side v * side v) 0)

  more : List ℕ
  more = ws ++ (0 ∷ [])

  long : length more ≡ length ws + 1
  unfolding more
  long = length-append ws (0 ∷ [])

  count : bits_laid (side v) more E / 8 ≡ length ws
  unfolding bits_laid used_of After E raw_codewords
  count =
      let e : bits_laid (side v) more E ≡ min (length (path v)) (length more * 8) =
      ap used_of (walked (side v) more E (work_length v word (replicate (side v * side v) 0)) (path_length (side v)))
      ∙ ap (λ (ps : List ℕ). min (length ps) (length more * 8)) (places_path v E (kind_at v word (replicate (side v * side v) 0) (empty_small v))) in
      omega (arith, e, path_length_lem v low high, long, all)

  after : (b : ℕ) → length ws ≤ b → get_or more b 0 ≡ 0
  unfolding more
  after b h =
      let e : b ≡ length ws + (b - length ws) = omega arith in
      ap (λ (n : ℕ). get_or (ws ++ (0 ∷ [])) n 0) e ∙ get_or-append-add ws (0 ∷ []) (b - length ws) 0 ∙ zeros_at 1 (b - length ws)

  more_bytes : (b : ℕ) → get_or more b 0 < 256
  unfolding more
  more_bytes b = split b (length ws) (λ h. rw (get_or-append ws (0 ∷ []) 0 b h) (bytes b)) (λ h. omega (arith, after b h))

  pub read_work : collected (side v) (work v word (content v ws)) (replicate (raw_codewords v + 1) 0) ≡ ws ++ (0 ∷ [])
  unfolding E more
  read_work =
      ap (λ (n : ℕ). collected (side v) (work v word (content v ws)) (replicate n 0)) (sym (long ∙ ap (λ (n : ℕ). n + 1) all))
      ∙ ap (λ (g : List ℕ). collected (side v) g (replicate (length more) 0)) (ap (work v word) (sym (content_more v ws)) ∙ sym (codewords_work v word more))
      ∙ read_back (2 * v + 8) (side v) (omega arith) (omega arith) more E (work_length v word (replicate (side v * side v) 0)) more_bytes (λ b h. after b (omega (arith, count)))

-- the data modules of a grid without the mask, between function modules
unfoldable pub read_grid : ℕ → ℕ → ℕ → List ℕ → List ℕ
read_grid v l m g = paint (side v) (masked m) (work v (format_word l m) g)

-- what is read from a grid
unfoldable pub read_words : ℕ → ℕ → ℕ → List ℕ → List ℕ → List ℕ
read_words v l m g out = collected (side v) (read_grid v l m g) out

pub read_bytes : (v l m n : ℕ) (g : List ℕ) (b : ℕ) → get_or (read_words v l m g (replicate n 0)) b 0 < 256
unfolding read_words reading
read_bytes v l m n g b = (reading_low (side v) n (read_grid v l m g) (path_length (side v))).bytes b

-- THE LAW: from a label's grid its codewords are read, and remainder modules that are 0
pub read_label : (v l m : ℕ) (ws : List ℕ) → 1 ≤ v → v ≤ 40 → length ws ≡ raw_codewords v → ((b : ℕ) → get_or ws b 0 < 256)
    → read_words v l m (grid v l m (content v ws)) (replicate (raw_codewords v + 1) 0) ≡ ws ++ (0 ∷ [])
unfolding read_words read_grid
read_label v l m ws low high all bytes =
    ap (λ (g : List ℕ). collected (side v) g (replicate (raw_codewords v + 1) 0)) (unmasked v l m (content v ws) high (content_small v ws))
    ∙ read_work v (format_word l m) ws low high all bytes

-- no two lists of codewords have one grid
pub words_unique : (v l m : ℕ) (ws us : List ℕ) → 1 ≤ v → v ≤ 40 → length ws ≡ raw_codewords v → length us ≡ raw_codewords v
    → ((b : ℕ) → get_or ws b 0 < 256) → ((b : ℕ) → get_or us b 0 < 256) → grid v l m (content v ws) ≡ grid v l m (content v us) → ws ≡ us
words_unique v l m ws us low high hw hu bw bu e =
    let f : ws ++ (0 ∷ []) ≡ us ++ (0 ∷ []) =
    sym (read_label v l m ws low high hw bw) ∙ ap (λ (g : List ℕ). read_words v l m g (replicate (raw_codewords v + 1) 0)) e ∙ read_label v l m us low high hu bu in
    sym (take_at ws (0 ∷ []) (raw_codewords v) hw) ∙ ap (take (raw_codewords v)) f ∙ take_at us (0 ∷ []) (raw_codewords v) hu

pub grid_read : (v l m : ℕ) (g w a b c d : List ℕ) → a ≡ replicate (length w) 0 → b ≡ paint (side v) (functions v (format_word l m)) a → c ≡ copied g b
    → d ≡ paint (side v) (masked m) c → Square w (side v) → d ≡ read_grid v l m g
unfolding read_grid
grid_read v l m g w a b c d e f h i sq =
    let e' : a ≡ replicate (side v * side v) 0 = e ∙ ap (λ (n : ℕ). replicate n 0) sq.size in
    let f' : b ≡ work v (format_word l m) (replicate (side v * side v) 0) = f ∙ ap (paint (side v) (functions v (format_word l m))) e' ∙ functions_work v (format_word l m) (replicate (side v * side v) 0) (length-replicate (side v * side v) 0) in
    let h' : c ≡ work v (format_word l m) g = h ∙ ap (copied g) f' ∙ copied_work v (format_word l m) g in
    i ∙ ap (paint (side v) (masked m)) h'

pub words_read : (v l m s : ℕ) (g w out o : List ℕ) → w ≡ read_grid v l m g → o ≡ collected s w out → s ≡ side v → o ≡ read_words v l m g out
unfolding read_words
words_read v l m s g w out o e f q = rw (q, e) at f

pub copy_end : (n m : ℕ) (g w h : List ℕ) → h ≡ each_done n (λ k c. cond (ltb c 2) (get_or g k 0) c) w → length h ≡ m → m ≤ n → h ≡ copied g w
unfolding copied
copy_end n m g w h e l k = each_end (λ k c. cond (ltb c 2) (get_or g k 0) c) w n m h e l k
