-- Candidates for the automatic choice, as they are drawn one after the other in one work grid.
-- Assumes nothing.
use Rattle.std.specs.Prelude.{ℕ, ◌+◌, ◌*◌, ◌%◌, ◌≤◌, ◌<◌, ◌≡◌, refl, length}
use mathlib.Core.List.{List}
use Rattle.std.proofs.Math.Path.{ap}
use Rattle.std.proofs.Common.{◌∙◌, arith, lt-ltb}
use Rattle.standard.specs.Sizes.{side}
use Rattle.standard.specs.Format.{format_word}
use Rattle.standard.specs.Grid.{content, grid}
use Rattle.standard.specs.Penalty.{penalty}
use Rattle.standard.specs.Choice.{scores, chosen}
use Rattle.laws.specs.Grid.{Square, paint, length_paint}
use Rattle.laws.specs.Each.{each}
use Rattle.patterns.specs.Layers.{formats}
use Rattle.modules.specs.Mask.{masked}
use Rattle.modules.specs.Work.{work, mask_content, mask_work, content_small}
use Rattle.modules.specs.Finished.{finish_work, reformat, label_drawn}
use Rattle.penalty.specs.Lines.{colours}
use Rattle.penalty.specs.Bounds.{penalty_le}
use Rattle.penalty.specs.Choice.{Best, best_start, best_next, best_same, best_end}

-- a work grid with the format bits of mask m and that mask on it
unfoldable pub candidate : ℕ → ℕ → ℕ → List ℕ → List ℕ
candidate v l m g = paint (side v) (masked m) (paint (side v) (formats (side v) (format_word l m)) g)

-- the format bits are drawn, and the mask is scored as if it were
pub score_is : (v l m : ℕ) (g h : List ℕ) → h ≡ paint (side v) (formats (side v) (format_word l m)) g
    → (r s k : ℕ) → r ≡ penalty s (colours (paint s (masked k) h)) → s ≡ side v → k ≡ m → r ≡ penalty (side v) (colours (candidate v l m g))
unfolding candidate
score_is v l m g h e r s k d w q = d ∙ rw (w, e, q)

-- its length, by the side as a number
pub formatted_size : (v word s : ℕ) (g h : List ℕ) → h ≡ paint (side v) (formats (side v) word) g → Square g (side v) → s ≡ side v → length h ≡ s * s
formatted_size v word s g h e sq q = ap length e ∙ length_paint (side v) (formats (side v) word) g ∙ rw q sq.size

-- g is the work grid of codewords ws, with some format bits
pub record Kept (v : ℕ) (ws g : List ℕ) : Type 0 where
  pub word : ℕ
  pub drawn : g ≡ work v word (content v ws)

module _ (v l m : ℕ) (ws g : List ℕ) (high : v ≤ 40) (k : Kept v ws g) where
  masked_grid : candidate v l m g ≡ work v (format_word l m) (mask_content v m (content v ws))
  unfolding candidate
  masked_grid =
      ap (λ (h : List ℕ). paint (side v) (masked m) (paint (side v) (formats (side v) (format_word l m)) h)) k.drawn
      ∙ ap (paint (side v) (masked m)) (reformat v k.word (format_word l m) (content v ws))
      ∙ mask_work v (format_word l m) m (content v ws) (content_small v ws)

  -- a candidate's colours are the grid of the definition
  pub candidate_grid : colours (candidate v l m g) ≡ grid v l m (content v ws)
  candidate_grid = ap colours masked_grid ∙ finish_work v l m (content v ws)

  -- it leaves the work grid, with other format bits
  pub candidate_undone : Kept v ws (paint (side v) (formats (side v) (format_word l m)) g)
  candidate_undone =
      record {
        word = format_word l m;
        drawn = ap (paint (side v) (formats (side v) (format_word l m))) k.drawn ∙ reformat v k.word (format_word l m) (content v ws);
      }

-- what the choice over a work grid says: which mask, and that the grid is a work grid again
pub record Chooses (v l m : ℕ) (g h : List ℕ) (r : ℕ) : Type 0 where
  pub small : r ≤ 7
  pub size : length h ≡ length g
  pub chooses : (ws : List ℕ) → Kept v ws g → (r ≡ chosen v l m (content v ws)) × Kept v ws h

-- after n candidates: the best is k with the penalty m
pub record Scored (v l : ℕ) (g h : List ℕ) (n k m : ℕ) : Type 0 where
  pub small : k ≤ 7
  pub size : length h ≡ length g
  pub scored : (ws : List ℕ) → Kept v ws g → Best 0xFFFF_FFFF (λ i. penalty (side v) (grid v l i (content v ws))) n k m × Kept v ws h

module _ (v l : ℕ) (g : List ℕ) where
  pub scored_start : Scored v l g g 0 0 0xFFFF_FFFF
  scored_start = record { small = omega arith; size = refl; scored = λ ws kept. (best_start 0xFFFF_FFFF _ 0 0xFFFF_FFFF refl, kept) }

  -- candidate n is scored p; it is better, or it is not
  module _ (h i : List ℕ) (n k m p n' : ℕ) (st : Scored v l g h n k m) (e : p ≡ penalty (side v) (colours (candidate v l n' h)))
      (f : i ≡ paint (side v) (formats (side v) (format_word l n')) h) (q : n' ≡ n) (high : v ≤ 40) where
    same_size : length i ≡ length g
    same_size = ap length f ∙ length_paint (side v) (formats (side v) (format_word l n')) h ∙ st.size

    own : (ws : List ℕ) → Kept v ws h → p ≡ penalty (side v) (grid v l n (content v ws))
    own ws kept =
        e ∙ ap (penalty (side v)) (candidate_grid v l n' ws h high kept)
        ∙ ap (λ (a : ℕ). penalty (side v) (grid v l a (content v ws))) q

    again : (ws : List ℕ) → Kept v ws h → Kept v ws i
    again ws kept = rw f (candidate_undone v l n' ws h high kept)

    pub scored_next : (k' m' : ℕ) → n < 8 → p < m → k' ≡ n → m' ≡ p → Scored v l g i (n + 1) k' m'
    scored_next k' m' b less ek em =
        rw (ek, em)
        (record {
          small = omega arith;
          size = same_size;
          scored = λ ws kept. let s = st.scored ws kept in (best_next 0xFFFF_FFFF _ n k m p s.0 (own ws s.1) less, again ws s.1);
        })

    pub scored_same : (k' m' : ℕ) → m ≤ p → k' ≡ k → m' ≡ m → Scored v l g i (n + 1) k' m'
    scored_same k' m' more ek em =
        rw (ek, em)
        (record {
          small = st.small;
          size = same_size;
          scored = λ ws kept.
              let s = st.scored ws kept in
              let r = own ws s.1 in
              (best_same 0xFFFF_FFFF _ n k m p s.0 r more (omega (arith, r, penalty_le (side v) (grid v l n (content v ws)) (omega arith))), again ws s.1);
        })

  -- candidate 0 is the best of one
  pub scored_first : (h : List ℕ) (p k : ℕ) → p ≡ penalty (side v) (colours (candidate v l k g)) → h ≡ paint (side v) (formats (side v) (format_word l k)) g
      → k ≡ 0 → v ≤ 40 → Scored v l g h 1 k p
  scored_first h p k e f q high =
      scored_next g h 0 0 0xFFFF_FFFF p k scored_start e f q high k p (omega arith)
      (omega (arith, e, penalty_le (side v) (colours (candidate v l k g)) (omega arith))) q refl

  pub scored_end : (h : List ℕ) (n k m r : ℕ) → Scored v l g h n k m → n ≤ 8 → 8 ≤ n → r ≡ k → Chooses v l 8 g h r
  unfolding scores chosen
  scored_end h n k m r st low high q =
      record {
        small = omega (arith, st.small);
        size = st.size;
        chooses = λ ws kept. let s = st.scored ws kept in (q ∙ best_end 0xFFFF_FFFF _ n 8 k m s.0 low high (omega arith), s.1);
      }

  -- a mask that is named is taken as it is
  pub named : (m r : ℕ) → m < 8 → r ≡ m → Chooses v l m g g r
  unfolding chosen
  named m r h e = record { small = omega arith; size = refl; chooses = λ ws kept. (e ∙ rw (lt-ltb m 8 h), kept) }

-- ---- the whole drawing

module _ (v l m r word : ℕ) (ws g h : List ℕ) (c : Chooses v l m g h r) (e : g ≡ work v word (content v ws)) where
  kept : (r ≡ chosen v l m (content v ws)) × Kept v ws h
  kept = c.chooses ws (record { word = word; drawn = e })

  pub mask_chosen : r ≡ chosen v l m (content v ws)
  mask_chosen = kept.0

  pub grid_drawn : (a b d : List ℕ) → a ≡ paint (side v) (masked r) h → b ≡ paint (side v) (formats (side v) (format_word l r)) a → d ≡ each (λ _ k. k % 2) b
      → d ≡ grid v l r (content v ws)
  grid_drawn a b d ea eb ed = label_drawn v l r kept.1.word ws h a b d kept.1.drawn ea eb ed
