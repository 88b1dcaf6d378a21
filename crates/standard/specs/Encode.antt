-- The encoding entries: for every input the answer, and what the lent grid and scratch hold at the return.
-- Document 01, "Refusal table". Assumes nothing.
use Rattle.std.specs.Prelude.{ℕ, ◌*◌, Bool, cond, ◌&&◌, not, List, ◌++◌, leb, ltb, eqb, length, drop, replicate}
use Rattle.standard.specs.Sizes.{side, data_codewords}
use Rattle.standard.specs.Segments.{Part, Segment, segments_of, text_parts, byte_parts}
use Rattle.standard.specs.Codewords.{data_words}
use Rattle.standard.specs.Blocks.{all_words}
use Rattle.standard.specs.Grid.{content, grid}
use Rattle.standard.specs.Choice.{chosen}
use Rattle.standard.specs.Plan.{Refusal, refusal, Plan, unplanned, planned, plan}

pub data Answer : Type 0 where
  refused : Refusal → Answer
  -- version, level and mask
  accepted : ℕ → ℕ → ℕ → Answer

-- the answer, and the lent memory at the return
pub record Return : Type 0 where
  pub answer : Answer
  pub grid : List ℕ
  pub scratch : List ℕ

-- a refusal changes nothing
abbrev pub refuse : Refusal → List ℕ → List ℕ → Return
refuse e g s = record { answer = refused e; grid = g; scratch = s }

-- the first 40,000 bytes are zero
abbrev pub zeroed : List ℕ → List ℕ
zeroed s = replicate 40_000 0 ++ drop 40_000 s

-- side² grid bytes are written, scratch is zeroed, and nothing else is changed
abbrev pub accept : ℕ → ℕ → ℕ → List ℕ → List ℕ → List ℕ → Return
accept v l m new g s =
    record { answer = accepted v l m; grid = new ++ drop (side v * side v) g; scratch = zeroed s }

-- the data codewords drawn at version v and level l, with mask m (8: automatic)
unfoldable pub drawn : ℕ → ℕ → ℕ → List ℕ → List ℕ → List ℕ → Return
drawn v l m words g s =
    let c = content v (all_words v l words) in
    let k = chosen v l m c in
    accept v l k (grid v l k c) g s

-- refusals 8 and 9, and else the drawing
unfoldable pub draw : ℕ → ℕ → ℕ → List ℕ → List ℕ → List ℕ → Return
draw v l m words g s =
    cond (ltb (length g) (side v * side v)) (refuse (refusal 8 (side v * side v) 0) g s)
    (cond (ltb (length s) 40_000) (refuse (refusal 9 40_000 0) g s) (drawn v l m words g s))

unfoldable pub draw_plan : Plan → ℕ → List Segment → List ℕ → List ℕ → Return
draw_plan (unplanned e) m ss g s = refuse e g s
draw_plan (planned v l n) m ss g s = draw v l m (data_words v l ss) g s

-- level, first and last version, mask (8: automatic), boost, lent text and records, lent grid and scratch
unfoldable pub encode : ℕ → ℕ → ℕ → ℕ → Bool → List ℕ → List Part → List ℕ → List ℕ → Return
encode l first last m boost text rs g s = draw_plan (plan l first last m boost text rs) m (segments_of text rs) g s

unfoldable pub encode_text : ℕ → ℕ → ℕ → ℕ → Bool → List ℕ → List ℕ → List ℕ → Return
encode_text l first last m boost text g s = encode l first last m boost text (text_parts text) g s

unfoldable pub encode_bytes : ℕ → ℕ → ℕ → ℕ → Bool → List ℕ → List ℕ → List ℕ → Return
encode_bytes l first last m boost text g s = encode l first last m boost text (byte_parts text) g s

-- level, version, mask, data codewords, lent grid and scratch
unfoldable pub encode_codewords : ℕ → ℕ → ℕ → List ℕ → List ℕ → List ℕ → Return
encode_codewords l v m words g s =
    cond (ltb 3 l) (refuse (refusal 1 l 0) g s)
    (cond (not (leb 1 v && leb v 40)) (refuse (refusal 2 v v) g s)
    (cond (ltb 8 m) (refuse (refusal 3 m 0) g s)
    (cond (not (eqb (length words) (data_codewords v l))) (refuse (refusal 10 (data_codewords v l) 0) g s)
    (draw v l m words g s))))
