-- What a label is: a list of segments that fits, with version, level and mask, and the grid that shows it.
-- Document 01, "What a stated answer must shut out" (demand 3 rests on demand 2's drawing). Assumes nothing.
use Rattle.std.specs.Prelude.{ℕ, Bool, ◌&&◌, List, ◌≡◌, T, leb}
use Rattle.standard.specs.Numbers.{every}
use Rattle.standard.specs.Segments.{Segment, good_segment, fits}
use Rattle.standard.specs.Codewords.{data_words}
use Rattle.standard.specs.Blocks.{all_words}
use Rattle.standard.specs.Grid.{content, grid}

-- version, level, mask 0 to 7, and segments as two lists of records that mean the same have in common
pub record Label : Type 0 where
  pub version : ℕ
  pub level : ℕ
  pub mask : ℕ
  pub segments : List Segment

unfoldable pub is_label : Label → Bool
is_label a =
    leb 1 a.version && (leb a.version 40 && (leb a.level 3 && (leb a.mask 7
    && (every good_segment a.segments && fits a.level a.segments a.version))))

unfoldable pub grid_of : Label → List ℕ
grid_of a =
    grid a.version a.level a.mask
    (content a.version (all_words a.version a.level (data_words a.version a.level a.segments)))

-- the grid shows the label
pub record Shows (g : List ℕ) (a : Label) : Type 0 where
  pub label : T (is_label a)
  pub drawn : g ≡ grid_of a
