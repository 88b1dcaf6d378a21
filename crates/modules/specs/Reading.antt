-- Reading undoes drawing: from a label's grid its level, mask and codewords are read, so no grid belongs to two of them.
-- Assumes nothing.
use Rattle.std.specs.Prelude.{ℕ, ◌+◌, ◌≤◌, ◌<◌, List, [], ◌∷◌, ◌++◌, ◌≡◌, length, get_or, replicate}
use Rattle.std.proofs.Common.{sym, ap, ◌∙◌}
use Rattle.standard.specs.Sizes.{side, raw_codewords}
use Rattle.standard.specs.Grid.{content, grid}
use Rattle.modules.specs.FormatBack.{read_level, read_mask, read_level_lem, read_mask_lem}
use Rattle.modules.specs.Back.{read_words, read_label, words_unique}

-- a version, a level, a mask, and codewords that fill the version
pub record Drawable (v l m : ℕ) (ws : List ℕ) : Type 0 where
  pub least : 1 ≤ v
  pub most : v ≤ 40
  pub level : l ≤ 3
  pub mask : m ≤ 7
  pub full : length ws ≡ raw_codewords v
  pub bytes : (b : ℕ) → get_or ws b 0 < 256

-- THE LAW: what is read from the drawn grid is what was drawn, and remainder modules that are 0
pub read_drawn : (v l m : ℕ) (ws : List ℕ) → Drawable v l m ws
    → (read_level (side v) (grid v l m (content v ws)) ≡ l)
    × (read_mask (side v) (grid v l m (content v ws)) ≡ m)
    × (read_words v l m (grid v l m (content v ws)) (replicate (raw_codewords v + 1) 0) ≡ ws ++ (0 ∷ []))
read_drawn v l m ws d = (
  read_level_lem v l m (content v ws) d.least d.most d.level d.mask,
  read_mask_lem v l m (content v ws) d.least d.most d.level d.mask,
  read_label v l m ws d.least d.most d.full d.bytes,
)

-- no grid belongs to two
pub drawn_unique : (v l m k n : ℕ) (ws us : List ℕ) → Drawable v l m ws → Drawable v k n us → grid v l m (content v ws) ≡ grid v k n (content v us)
    → (l ≡ k) × (m ≡ n) × (ws ≡ us)
drawn_unique v l m k n ws us d f e =
    let level : l ≡ k = sym (read_level_lem v l m (content v ws) d.least d.most d.level d.mask) ∙ ap (read_level (side v)) e ∙ read_level_lem v k n (content v us) f.least f.most f.level f.mask in
    let mask : m ≡ n = sym (read_mask_lem v l m (content v ws) d.least d.most d.level d.mask) ∙ ap (read_mask (side v)) e ∙ read_mask_lem v k n (content v us) f.least f.most f.level f.mask in
    let same : grid v k n (content v ws) ≡ grid v k n (content v us) = rw (level, mask) at e in
    (level, mask, words_unique v k n ws us d.least d.most d.full f.full d.bytes f.bytes same)
