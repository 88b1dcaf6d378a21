-- A whole label, as the Rust original draws it: "CLICK 12 DB", Medium, version 1, automatic mask, no boost.
-- Scored with mask 0's format bits for each candidate, the choice would be 6 and not 1.
-- Assumes nothing.
use Prim.Native.Nat.{ℕ, ◌≤◌}
use mathlib.Core.Bool.{false}
use mathlib.Core.List.{List, [], ◌∷◌}
use mathlib.Core.Path.{◌≡◌, refl, ap, sym, ◌∙◌}
use lib.Dec.{T}
use lib.ListN.{length}
use borrow.Author.Tests.{le-ltb}
use Rattle.standard.specs.Segments.{Part, segments_of, text_parts}
use Rattle.standard.specs.Codewords.{data_words}
use Rattle.standard.specs.Blocks.{all_words}
use Rattle.standard.specs.Grid.{content, grid}
use Rattle.standard.specs.Choice.{scores, chosen, place_of_least, lowest}
use Rattle.standard.specs.Plan.{Plan, planned, plan}
use Rattle.standard.specs.Encode.{zeroed, accept, drawn, draw, draw_plan, encode, encode_text}
use Rattle.standard.specs.Label.{Label, is_label, grid_of, Shows}
use Rattle.standard.specs.Read.{nothing, first_refusal, labelled, shown, Reads, looks}
use Rattle.standard.proofs.Open.{opened}

pub click : List ℕ
click = 67 ∷ 76 ∷ 73 ∷ 67 ∷ 75 ∷ 32 ∷ 49 ∷ 50 ∷ 32 ∷ 68 ∷ 66 ∷ []

-- the Rust's modules, and its penalties of masks 0 to 7
pub rust : List ℕ
rust =
    1 ∷ 1 ∷ 1 ∷ 1 ∷ 1 ∷ 1 ∷ 1 ∷ 0 ∷ 1 ∷ 0 ∷ 0 ∷ 1 ∷ 1 ∷ 0 ∷ 1 ∷ 1 ∷ 1 ∷ 1 ∷ 1 ∷ 1 ∷ 1 ∷
    1 ∷ 0 ∷ 0 ∷ 0 ∷ 0 ∷ 0 ∷ 1 ∷ 0 ∷ 0 ∷ 1 ∷ 1 ∷ 0 ∷ 0 ∷ 0 ∷ 1 ∷ 0 ∷ 0 ∷ 0 ∷ 0 ∷ 0 ∷ 1 ∷
    1 ∷ 0 ∷ 1 ∷ 1 ∷ 1 ∷ 0 ∷ 1 ∷ 0 ∷ 1 ∷ 0 ∷ 0 ∷ 1 ∷ 1 ∷ 0 ∷ 1 ∷ 0 ∷ 1 ∷ 1 ∷ 1 ∷ 0 ∷ 1 ∷
    1 ∷ 0 ∷ 1 ∷ 1 ∷ 1 ∷ 0 ∷ 1 ∷ 0 ∷ 0 ∷ 1 ∷ 1 ∷ 1 ∷ 1 ∷ 0 ∷ 1 ∷ 0 ∷ 1 ∷ 1 ∷ 1 ∷ 0 ∷ 1 ∷
    1 ∷ 0 ∷ 1 ∷ 1 ∷ 1 ∷ 0 ∷ 1 ∷ 0 ∷ 0 ∷ 1 ∷ 0 ∷ 0 ∷ 1 ∷ 0 ∷ 1 ∷ 0 ∷ 1 ∷ 1 ∷ 1 ∷ 0 ∷ 1 ∷
    1 ∷ 0 ∷ 0 ∷ 0 ∷ 0 ∷ 0 ∷ 1 ∷ 0 ∷ 1 ∷ 0 ∷ 1 ∷ 0 ∷ 0 ∷ 0 ∷ 1 ∷ 0 ∷ 0 ∷ 0 ∷ 0 ∷ 0 ∷ 1 ∷
    1 ∷ 1 ∷ 1 ∷ 1 ∷ 1 ∷ 1 ∷ 1 ∷ 0 ∷ 1 ∷ 0 ∷ 1 ∷ 0 ∷ 1 ∷ 0 ∷ 1 ∷ 1 ∷ 1 ∷ 1 ∷ 1 ∷ 1 ∷ 1 ∷
    0 ∷ 0 ∷ 0 ∷ 0 ∷ 0 ∷ 0 ∷ 0 ∷ 0 ∷ 0 ∷ 1 ∷ 1 ∷ 1 ∷ 0 ∷ 0 ∷ 0 ∷ 0 ∷ 0 ∷ 0 ∷ 0 ∷ 0 ∷ 0 ∷
    1 ∷ 0 ∷ 1 ∷ 0 ∷ 0 ∷ 0 ∷ 1 ∷ 1 ∷ 0 ∷ 1 ∷ 0 ∷ 1 ∷ 1 ∷ 0 ∷ 0 ∷ 1 ∷ 0 ∷ 0 ∷ 1 ∷ 0 ∷ 1 ∷
    0 ∷ 1 ∷ 1 ∷ 1 ∷ 1 ∷ 0 ∷ 0 ∷ 0 ∷ 1 ∷ 1 ∷ 0 ∷ 0 ∷ 0 ∷ 1 ∷ 1 ∷ 0 ∷ 1 ∷ 1 ∷ 0 ∷ 1 ∷ 0 ∷
    0 ∷ 0 ∷ 0 ∷ 0 ∷ 1 ∷ 0 ∷ 1 ∷ 1 ∷ 1 ∷ 0 ∷ 1 ∷ 0 ∷ 0 ∷ 1 ∷ 1 ∷ 1 ∷ 1 ∷ 1 ∷ 0 ∷ 1 ∷ 1 ∷
    1 ∷ 0 ∷ 1 ∷ 0 ∷ 0 ∷ 1 ∷ 0 ∷ 0 ∷ 1 ∷ 0 ∷ 1 ∷ 0 ∷ 1 ∷ 0 ∷ 0 ∷ 1 ∷ 0 ∷ 1 ∷ 0 ∷ 1 ∷ 1 ∷
    1 ∷ 0 ∷ 0 ∷ 1 ∷ 0 ∷ 1 ∷ 1 ∷ 1 ∷ 1 ∷ 0 ∷ 0 ∷ 0 ∷ 0 ∷ 1 ∷ 1 ∷ 1 ∷ 1 ∷ 1 ∷ 0 ∷ 1 ∷ 1 ∷
    0 ∷ 0 ∷ 0 ∷ 0 ∷ 0 ∷ 0 ∷ 0 ∷ 0 ∷ 1 ∷ 0 ∷ 1 ∷ 1 ∷ 0 ∷ 1 ∷ 1 ∷ 0 ∷ 1 ∷ 1 ∷ 1 ∷ 0 ∷ 1 ∷
    1 ∷ 1 ∷ 1 ∷ 1 ∷ 1 ∷ 1 ∷ 1 ∷ 0 ∷ 1 ∷ 1 ∷ 1 ∷ 1 ∷ 1 ∷ 1 ∷ 0 ∷ 0 ∷ 1 ∷ 1 ∷ 1 ∷ 1 ∷ 0 ∷
    1 ∷ 0 ∷ 0 ∷ 0 ∷ 0 ∷ 0 ∷ 1 ∷ 0 ∷ 0 ∷ 1 ∷ 1 ∷ 1 ∷ 0 ∷ 1 ∷ 1 ∷ 0 ∷ 1 ∷ 1 ∷ 1 ∷ 1 ∷ 0 ∷
    1 ∷ 0 ∷ 1 ∷ 1 ∷ 1 ∷ 0 ∷ 1 ∷ 0 ∷ 0 ∷ 1 ∷ 0 ∷ 1 ∷ 1 ∷ 1 ∷ 1 ∷ 0 ∷ 0 ∷ 1 ∷ 0 ∷ 0 ∷ 1 ∷
    1 ∷ 0 ∷ 1 ∷ 1 ∷ 1 ∷ 0 ∷ 1 ∷ 0 ∷ 0 ∷ 1 ∷ 0 ∷ 0 ∷ 0 ∷ 0 ∷ 0 ∷ 1 ∷ 1 ∷ 0 ∷ 1 ∷ 0 ∷ 0 ∷
    1 ∷ 0 ∷ 1 ∷ 1 ∷ 1 ∷ 0 ∷ 1 ∷ 0 ∷ 1 ∷ 0 ∷ 0 ∷ 0 ∷ 0 ∷ 0 ∷ 1 ∷ 0 ∷ 1 ∷ 1 ∷ 0 ∷ 1 ∷ 1 ∷
    1 ∷ 0 ∷ 0 ∷ 0 ∷ 0 ∷ 0 ∷ 1 ∷ 0 ∷ 0 ∷ 0 ∷ 1 ∷ 0 ∷ 1 ∷ 0 ∷ 0 ∷ 1 ∷ 0 ∷ 0 ∷ 0 ∷ 0 ∷ 1 ∷
    1 ∷ 1 ∷ 1 ∷ 1 ∷ 1 ∷ 1 ∷ 1 ∷ 0 ∷ 1 ∷ 0 ∷ 0 ∷ 0 ∷ 0 ∷ 0 ∷ 1 ∷ 1 ∷ 1 ∷ 1 ∷ 1 ∷ 1 ∷ 1 ∷ []

pub penalties : List ℕ
penalties = 1192 ∷ 1092 ∷ 1105 ∷ 1096 ∷ 1116 ∷ 1252 ∷ 1138 ∷ 1244 ∷ []

-- what all masks have in common
pub inside : List ℕ
inside = content 1 (all_words 1 1 (data_words 1 1 (segments_of click (text_parts click))))

click_plan : plan 1 1 1 8 false click (text_parts click) ≡ planned 1 1 74
unfolding opened click
click_plan = refl

pub click_scores : scores 1 1 inside ≡ penalties
unfolding opened click inside penalties
click_scores = refl

click_grid : grid 1 1 1 inside ≡ rust
unfolding opened click inside rust
click_grid = refl

click_chosen : chosen 1 1 8 inside ≡ 1
unfolding chosen place_of_least lowest penalties
click_chosen = ap place_of_least click_scores

click_drawn : (g s : List ℕ) → drawn 1 1 8 (data_words 1 1 (segments_of click (text_parts click))) g s ≡ accept 1 1 1 rust g s
unfolding drawn inside
click_drawn g s = ap (λ (k : ℕ). accept 1 1 k (grid 1 1 k inside) g s) click_chosen ∙ ap (λ (l : List ℕ). accept 1 1 1 l g s) click_grid

pub whole_label : (g s : List ℕ) → 441 ≤ length g → 40_000 ≤ length s → encode_text 1 1 1 8 false click g s ≡ accept 1 1 1 rust g s
unfolding encode_text encode draw_plan draw
whole_label g s hg hs =
    ap (λ (p : Plan). draw_plan p 8 (segments_of click (text_parts click)) g s) click_plan
    ∙ rw (le-ltb (length g) 441 hg, le-ltb (length s) 40_000 hs) (click_drawn g s)

-- ---- the same label, read

-- it is a label, and the original's grid shows it
pub clicked : Label
clicked = record { version = 1; level = 1; mask = 1; segments = segments_of click (text_parts click) }

is_label_lem : T (is_label clicked)
unfolding opened click clicked
is_label_lem = tt

shown_label : rust ≡ grid_of clicked
unfolding grid_of clicked inside
shown_label = sym click_grid

pub click_shown : Shows rust clicked
click_shown = record { label = is_label_lem; drawn = shown_label }

-- none of 11, 12, 13 and 9 refuses the original's grid
click_first : (n : ℕ) → 40_000 ≤ n → first_refusal rust 21 n ≡ nothing
unfolding opened rust
click_first n h = rw (le-ltb n 40_000 h) refl

-- the reader may answer with that label, and by `read_unique` of crate `reader` with nothing else: one Alphanumeric record and its eleven characters
pub click_read : (text : List ℕ) (records : List Part) (scratch : List ℕ) → 40_000 ≤ length scratch → Reads rust 21 text records scratch (labelled clicked text records (zeroed scratch))
click_read text records scratch h = looks (click_first (length scratch) h) (shown clicked click_shown refl)
