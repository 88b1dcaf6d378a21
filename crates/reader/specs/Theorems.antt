-- What the reader's relation says, over the definition alone: its outcome is unique, and it accepts exactly the grids that show a label.
-- Assumes nothing.
use Rattle.std.specs.Prelude.{ℕ, ◌*◌, ◌%◌, ◌≤◌, ◌<◌, Bool, ◌&&◌, List, ◌≡◌, refl, ltb, leb, eqb, length, get_or}
use Rattle.std.proofs.Math.Bool.{true, false, cond}
use Rattle.std.proofs.Common.{sym, ap, ◌∙◌, subst, arith, le-ltb, le-leb, eq-eqb}
use Rattle.standard.specs.Sizes.{side}
use Rattle.standard.specs.Segments.{Part}
use Rattle.standard.specs.Plan.{Refusal, refusal}
use Rattle.standard.specs.Encode.{zeroed}
use Rattle.standard.specs.Module.{version_of, valid_side}
use Rattle.standard.specs.Format.{format_word}
use Rattle.standard.specs.Grid.{content, grid}
use Rattle.standard.specs.Label.{Label, grid_of, Shows}
use Rattle.laws.specs.Tests.{and_both}
use Rattle.blocks.specs.Words.{length_each, get_d_each}
use Rattle.modules.specs.Work.{work, mask_content}
use Rattle.modules.specs.Finished.{finish_work}
use Rattle.standard.specs.Read.{unread, read_as, Read, first_above, First, nothing, refused_by, first_refusal, refuse_to, characters, written, labelled, Finds, shown, none, Reads, refuses, looks}
use Rattle.reader.specs.Early.{none_above}
use Rattle.reader.specs.Labels.{Proper, proper, codewords_of, grid_length, no_two_labels}

-- ---- any two outcomes are equal

finds_unique : (g text : List ℕ) (records : List Part) (z : List ℕ) (o p : Read) → Finds g text records z o → Finds g text records z p → o ≡ p
finds_unique g text records z o p (shown a x e) (shown b y f) = e ∙ ap (λ (c : Label). labelled c text records z) (no_two_labels g a b x y) ∙ sym f
finds_unique g text records z o p (shown a x e) (none n f) = absurd (n a x)
finds_unique g text records z o p (none n e) (shown b y f) = absurd (n b y)
finds_unique g text records z o p (none n e) (none k f) = e ∙ sym f

same_refusal : (d e : Refusal) → ◌≡◌ {A = First} (refused_by d) (refused_by e) → d ≡ e
same_refusal d e q = cc

no_refusal : (e : Refusal) → ◌≡◌ {A = First} (refused_by e) nothing → ⊥
no_refusal e q = let z : ◌≡◌ {A = ℕ} 0 1 = cc in omega arith

-- THE LAW: any two outcomes that meet the reader's relation are equal
pub read_unique : (g : List ℕ) (s : ℕ) (text : List ℕ) (records : List Part) (scratch : List ℕ) (o p : Read) → Reads g s text records scratch o → Reads g s text records scratch p → o ≡ p
read_unique g s text records scratch o p (refuses d e q) (refuses f h r) =
    q ∙ ap (λ (x : Refusal). refuse_to x text records scratch) (same_refusal d f (sym e ∙ h)) ∙ sym r
read_unique g s text records scratch o p (refuses d e q) (looks h f) = absurd (no_refusal d (sym e ∙ h))
read_unique g s text records scratch o p (looks e f) (refuses d h r) = absurd (no_refusal d (sym h ∙ e))
read_unique g s text records scratch o p (looks e f) (looks h k) = finds_unique g text records (zeroed scratch) o p f k

-- ---- a label's grid is refused by none of 11, 12, 13 and 9

side_back : (v : ℕ) → version_of (side v) ≡ v
side_back v = omega arith

pub side_valid : (v : ℕ) → 1 ≤ v → v ≤ 40 → valid_side (side v) ≡ true
unfolding valid_side
side_valid v low high =
    let e : version_of (side v) ≡ v = side_back v in
    rw e (and_both (eqb (side v) (side v)) (leb 1 v && leb v 40) (eq-eqb (side v) (side v) refl) (and_both (leb 1 v) (leb v 40) (le-leb 1 v low) (le-leb v 40 high)))

-- every module is 0 or 1
grid_small : (v l m : ℕ) (c : List ℕ) (i : ℕ) → i < side v * side v → get_or (grid v l m c) i 0 < 2
grid_small v l m c i h =
    let w : List ℕ = work v (format_word l m) (mask_content v m c) in
    let long : length w ≡ side v * side v = sym (length_each (λ _ k. k % 2) w) ∙ ap length (finish_work v l m c) ∙ grid_length v l m c in
    let e : get_or (grid v l m c) i 0 ≡ get_or w i 0 % 2 = ap (λ (g : List ℕ). get_or g i 0) (sym (finish_work v l m c)) ∙ get_d_each (λ _ k. k % 2) w i (omega arith) in
    omega arith

pub no_first : (g : List ℕ) (s n : ℕ) → valid_side s ≡ true → length g ≡ s * s → first_above g ≡ length g → 40_000 ≤ n
    → first_refusal g s n ≡ nothing
unfolding first_refusal
no_first g s n a b c d =
    rw (a, eq-eqb (length g) (s * s) b, le-ltb (first_above g) (length g) (omega arith), le-ltb n 40_000 d)

-- ---- accepted exactly if a label is shown

label_first : (g : List ℕ) (a : Label) (scratch : List ℕ) → Shows g a → 40_000 ≤ length scratch → first_refusal g (side a.version) (length scratch) ≡ nothing
unfolding grid_of
label_first g a scratch x room =
    let p : Proper a.version a.level a.mask a.segments = proper a.version a.level a.mask a.segments x.label in
    let c : List ℕ = content a.version (codewords_of a.version a.level a.segments) in
    let e : g ≡ grid a.version a.level a.mask c = x.drawn in
    let long : length g ≡ side a.version * side a.version = ap length e ∙ grid_length a.version a.level a.mask c in
    no_first g (side a.version) (length scratch) (side_valid a.version p.least p.most) long
    (none_above g (λ i h. subst (λ (x : List ℕ). get_or x i 0 < 2) (sym e) (grid_small a.version a.level a.mask c i (omega arith)))) room

labelled_long : (a : Label) (text : List ℕ) (records : List Part) (z : List ℕ) → length (characters a.segments) ≤ length text → length a.segments ≤ length records
    → labelled a text records z ≡ written a text records z
unfolding labelled
labelled_long a text records z long many =
    rw (le-ltb (length text) (length (characters a.segments)) long, le-ltb (length records) (length a.segments) many)

-- the grid of a label is accepted, with buffers long enough, and that label is returned
pub accepts_shown : (g : List ℕ) (a : Label) (text : List ℕ) (records : List Part) (scratch : List ℕ) (out : Read) → Shows g a → 40_000 ≤ length scratch
    → length (characters a.segments) ≤ length text → length a.segments ≤ length records
    → Reads g (side a.version) text records scratch out → out ≡ written a text records (zeroed scratch)
accepts_shown g a text records scratch out x room long many (refuses e q f) = absurd (no_refusal e (sym q ∙ label_first g a scratch x room))
accepts_shown g a text records scratch out x room long many (looks q (shown b y f)) =
    f ∙ ap (λ (c : Label). labelled c text records (zeroed scratch)) (no_two_labels g b a y x) ∙ labelled_long a text records (zeroed scratch) long many
accepts_shown g a text records scratch out x room long many (looks q (none n f)) = absurd (n a x)

-- the grid shows a label, and that is what is returned
pub record Accepts (g text : List ℕ) (records : List Part) (z : List ℕ) (out : Read) : Type 0 where
  pub label : Label
  pub shows : Shows g label
  pub returned : out ≡ written label text records z

refused_answer : {A : Type 0} (e : Refusal) (text : List ℕ) (records : List Part) (z : List ℕ) (out : Read) (v l m n k : ℕ) → out ≡ refuse_to e text records z → out.answer ≡ read_as v l m n k → A
refused_answer e text records z out v l m n k f q =
    let p : unread e ≡ read_as v l m n k = sym (ap (λ (r : Read). r.answer) f) ∙ q in
    let z : ◌≡◌ {A = ℕ} 0 1 = cc in
    absurd (omega arith)

module _ (g text : List ℕ) (records : List Part) (z : List ℕ) (out : Read) (v l m n k : ℕ) (q : out.answer ≡ read_as v l m n k) where
  accepts_label : (a : Label) → Shows g a → out ≡ labelled a text records z → Accepts g text records z out
  unfolding labelled
  accepts_label a x f = go (ltb (length text) (length (characters a.segments))) (ltb (length records) (length a.segments)) f
    where
      go : (s t : Bool)
          → out
          ≡ cond s (refuse_to (refusal 15 (length (characters a.segments)) 0) text records z)
          (cond t (refuse_to (refusal 16 (length a.segments) 0) text records z) (written a text records z))
          → Accepts g text records z out
      go true t f = refused_answer (refusal 15 (length (characters a.segments)) 0) text records z out v l m n k f q
      go false true f = refused_answer (refusal 16 (length a.segments) 0) text records z out v l m n k f q
      go false false f = record { label = a; shows = x; returned = f }

-- whatever is accepted shows a label, and that label is returned
pub accepts_only : (g : List ℕ) (s : ℕ) (text : List ℕ) (records : List Part) (scratch : List ℕ) (out : Read) (v l m n k : ℕ) → Reads g s text records scratch out
    → out.answer ≡ read_as v l m n k → Accepts g text records (zeroed scratch) out
accepts_only g s text records scratch out v l m n k (refuses e p f) q = refused_answer e text records scratch out v l m n k f q
accepts_only g s text records scratch out v l m n k (looks p (shown a x f)) q = accepts_label g text records (zeroed scratch) out v l m n k q a x f
accepts_only g s text records scratch out v l m n k (looks p (none h f)) q = refused_answer (refusal 14 0 0) text records (zeroed scratch) out v l m n k f q
