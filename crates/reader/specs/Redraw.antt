-- Drawing what was read, with the version, level and mask fixed and no boost, gives the same grid.
-- Assumes nothing.
use Prim.Native.Nat.{ℕ, suc, ◌+◌, ◌-◌, ◌*◌, ◌≤◌}
use Rattle.std.specs.Prelude.{Bool, true, false, ◌≡◌, refl, T, take, drop}
use mathlib.Core.List.{List, [], ◌∷◌, ◌++◌}
use Rattle.std.proofs.Common.{sym, ◌∙◌, take_at}
use Rattle.std.proofs.Math.Path.{ap, ap₂}
use native.Mathlib.Omega.{arith}
use Rattle.std.proofs.Math.ListN.{length}
use borrow.Author.Tests.{lt-ltb, le-ltb, le-leb}
use Rattle.standard.specs.Numbers.{least, every}
use Rattle.standard.specs.Sizes.{side}
use Rattle.standard.specs.Segments.{Part, Segment, segments_of, good_part, first_bad, total_bits, fits}
use Rattle.standard.specs.Codewords.{data_words}
use Rattle.standard.specs.Grid.{content, grid}
use Rattle.standard.specs.Choice.{chosen}
use Rattle.standard.specs.Plan.{Plan, planned, lowest_fit, levelled, plan_fit, plan}
use Rattle.standard.specs.Encode.{zeroed, accept, drawn, draw, draw_plan, encode}
use Rattle.standard.specs.Label.{Label, grid_of, Shows}
use Rattle.laws.specs.Least.{least_here}
use Rattle.laws.specs.Tests.{T_true, and_left, and_right}
use Rattle.parser.specs.Few.{few_records}
use Rattle.parser.specs.Parts.{parts_mean, parts_good}
use Rattle.standard.specs.Read.{read_as, Read, characters, records_from, written, Reads}
use Rattle.reader.specs.Theorems.{Accepts, accepts_only}
use Rattle.reader.specs.Labels.{Proper, proper, codewords_of}

-- ---- records

pub records_length : (t : ℕ) (ss : List Segment) → length (records_from t ss) ≡ length ss
records_length t [] = refl
records_length t (s ∷ ss) = ap suc (records_length (t + length s.chars) ss)

none_bad : (text : List ℕ) (rs : List Part) → T (every (good_part text) rs) → first_bad text rs ≡ length rs
unfolding first_bad
none_bad text [] t = refl
none_bad text (r ∷ rs) t =
    step (good_part text r) (T_true (good_part text r) (and_left (good_part text r) (every (good_part text) rs) t))
    ∙ ap suc (none_bad text rs (and_right (good_part text r) (every (good_part text) rs) t))
  where
    step : (b : Bool) → b ≡ true → elim b [ true ↦ suc (first_bad text rs) | false ↦ 0 ] ≡ suc (first_bad text rs)
    step true q = refl
    step false q = absurd (let z : ◌≡◌ {A = ℕ} 0 1 = cc in omega arith)

-- ---- planning one version

module _ (v l m : ℕ) (ss : List Segment) (p : Proper v l m ss) (rest : List ℕ) where
  text : List ℕ
  text = characters ss ++ rest

  mean : segments_of text (records_from 0 ss) ≡ ss
  unfolding text
  mean = parts_mean ss rest p.good

  goods : T (every (good_part text) (records_from 0 ss))
  unfolding text
  goods = parts_good ss rest p.good

  fit_one : plan_fit l v v false ss ≡ planned v l (total_bits v ss)
  unfolding plan_fit lowest_fit levelled
  fit_one =
      let one : suc v - v ≡ 1 = omega arith in
      let e : least v (suc v - v) (fits l ss) ≡ v = ap (λ (n : ℕ). least v n (fits l ss)) one ∙ least_here (fits l ss) v 0 (T_true (fits l ss v) p.fit) in
      rw (e, le-ltb v v (omega arith))

  plan_one : plan l v v m false text (records_from 0 ss) ≡ planned v l (total_bits v ss)
  unfolding plan
  plan_one =
      let few : length (records_from 0 ss) ≤ 2048 = omega (arith, records_length 0 ss, few_records v l ss p.least p.most p.level p.fit) in
      let bad : length (records_from 0 ss) ≤ first_bad text (records_from 0 ss) = omega (arith, none_bad text (records_from 0 ss) goods) in
      rw (
        le-ltb 3 l p.level,
        le-leb 1 v p.least,
        le-leb v v (omega arith),
        le-leb v 40 p.most,
        le-ltb 8 m (omega (arith, p.mask)),
        le-ltb 2048 (length (records_from 0 ss)) few,
        le-ltb (first_bad text (records_from 0 ss)) (length (records_from 0 ss)) bad,
        mean,
      ) fit_one

  draw_one : (o scratch : List ℕ) → side v * side v ≤ length o → 40_000 ≤ length scratch
      → draw v l m (data_words v l ss) o scratch ≡ accept v l m (grid v l m (content v (codewords_of v l ss))) o scratch
  unfolding draw drawn chosen
  draw_one o scratch big room = rw (le-ltb (length o) (side v * side v) big, le-ltb (length scratch) 40_000 room, lt-ltb m 8 (omega (arith, p.mask)))

  encode_one : (o scratch : List ℕ) → side v * side v ≤ length o → 40_000 ≤ length scratch
      → encode l v v m false text (records_from 0 ss) o scratch ≡ accept v l m (grid v l m (content v (codewords_of v l ss))) o scratch
  unfolding encode draw_plan
  encode_one o scratch big room =
      ap₂ (λ (x : Plan) (y : List Segment). draw_plan x m y o scratch) plan_one mean ∙ draw_one o scratch big room

-- THE LAW: the records of a label, over a text that begins with its characters, are drawn as the grid that shows it
pub redraw : (g : List ℕ) (a : Label) (rest o scratch : List ℕ) → Shows g a → side a.version * side a.version ≤ length o → 40_000 ≤ length scratch
    → encode a.level a.version a.version a.mask false (characters a.segments ++ rest) (records_from 0 a.segments) o scratch
    ≡ accept a.version a.level a.mask g o scratch
unfolding grid_of text
redraw g a rest o scratch x big room =
    encode_one a.version a.level a.mask a.segments (proper a.version a.level a.mask a.segments x.label) rest o scratch big room
    ∙ ap (λ (y : List ℕ). accept a.version a.level a.mask y o scratch) (sym x.drawn)

-- ---- what a reading left in the lent memory

-- the parts of an answer
module _ (v l m n k w j i c t : ℕ) (e : read_as v l m n k ≡ read_as w j i c t) where
  same_version : v ≡ w
  same_version = cc

  same_level : l ≡ j
  same_level = cc

  same_mask : m ≡ i
  same_mask = cc

  same_count : n ≡ c
  same_count = cc

from_label : (g : List ℕ) (a : Label) (rest o u : List ℕ) (v l m : ℕ) (t : List ℕ) (rs : List Part) → Shows g a → v ≡ a.version → l ≡ a.level → m ≡ a.mask
    → t ≡ characters a.segments ++ rest → rs ≡ records_from 0 a.segments → side v * side v ≤ length o → 40_000 ≤ length u
    → encode l v v m false t rs o u ≡ accept v l m g o u
from_label g a rest o u v l m t rs x hv hl hm chars parts big room = rw (hv, hl, hm, chars, parts) (redraw g a rest o u x (rw hv at big) room)

-- THE LAW: the records that a reading left, over the text that it left, are drawn as the grid that was read
pub read_redraw : (g : List ℕ) (s : ℕ) (text : List ℕ) (records : List Part) (scratch : List ℕ) (out : Read) (v l m n k : ℕ) (rs : List Part) (o u : List ℕ)
    → Reads g s text records scratch out → out.answer ≡ read_as v l m n k → take n out.records ≡ rs
    → side v * side v ≤ length o → 40_000 ≤ length u → encode l v v m false out.text rs o u ≡ accept v l m g o u
unfolding written
read_redraw g s text records scratch out v l m n k rs o u x q held big room =
    let A : Accepts g text records (zeroed scratch) out = accepts_only g s text records scratch out v l m n k x q in
    let a : Label = A.label in
    let ss : List Segment = a.segments in
    let e : read_as v l m n k ≡ read_as a.version a.level a.mask (length ss) (length (characters ss)) = sym q ∙ ap (λ (r : Read). r.answer) A.returned in
    let hv : v ≡ a.version = same_version v l m n k a.version a.level a.mask (length ss) (length (characters ss)) e in
    let hl : l ≡ a.level = same_level v l m n k a.version a.level a.mask (length ss) (length (characters ss)) e in
    let hm : m ≡ a.mask = same_mask v l m n k a.version a.level a.mask (length ss) (length (characters ss)) e in
    let hn : n ≡ length ss = same_count v l m n k a.version a.level a.mask (length ss) (length (characters ss)) e in
    let parts : rs ≡ records_from 0 ss =
    sym held ∙ ap₂ (λ (c : ℕ) (r : Read). take c r.records) hn A.returned ∙ take_at (records_from 0 ss) (drop (length ss) records) (length ss) (records_length 0 ss) in
    let chars : out.text ≡ characters ss ++ drop (length (characters ss)) text = ap (λ (r : Read). r.text) A.returned in
    from_label g a (drop (length (characters ss)) text) o u v l m out.text rs A.shows hv hl hm chars parts big room
