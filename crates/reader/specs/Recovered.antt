-- Data codewords that are read from a grid: it shows a label exactly if they draw it and say one.
-- Assumes nothing.
use Rattle.std.specs.Prelude.{ℕ, ◌+◌, ◌*◌, ◌/◌, ◌≤◌, Bool, not, ◌≡◌, refl, take, replicate, Err}
use Rattle.std.proofs.Math.Bool.{true, false, true≢false}
use mathlib.Core.List.{List, [], ◌∷◌, ◌++◌}
use Rattle.std.proofs.Math.Path.{sym, ap, subst}
use Rattle.std.proofs.Common.{◌∙◌, arith, take_at}
use Rattle.std.proofs.Math.ListN.{length}
use Rattle.standard.specs.Numbers.{same}
use Rattle.standard.specs.Sizes.{side, raw_modules, raw_codewords, data_codewords}
use Rattle.standard.specs.Segments.{Part, Segment}
use Rattle.standard.specs.Codewords.{data_words}
use Rattle.standard.specs.Blocks.{all_words}
use Rattle.standard.specs.Grid.{content, grid}
use Rattle.standard.specs.Label.{Label, grid_of, Shows}
use Rattle.laws.specs.Tests.{true_T}
use Rattle.laws.specs.Lists.{same_eq, same_refl}
use Rattle.counts.specs.Ranges.{version_range, pair_range}
use Rattle.types.specs.declared.Version.{Version}
use Rattle.types.specs.declared.QrCodeEcc.{QrCodeEcc}
use Rattle.types.specs.Numbers.{level_of}
use Rattle.segments.specs.Records.{parts_of}
use Rattle.blocks.specs.Undo.{data_of}
use Rattle.blocks.specs.Theorems.{data_back}
use Rattle.modules.specs.FormatBack.{read_level, read_mask}
use Rattle.modules.specs.Back.{read_words}
use Rattle.modules.specs.Reading.{Drawable, read_drawn}
use Rattle.types.specs.Laws.{level_le}
use Rattle.reader.specs.declared.Refusal.TheVariants.{NoLabel}
use Rattle.standard.specs.Read.{Read, Finds, shown, none}
use Rattle.reader.specs.Answers.{Outcome, read_of}
use Rattle.reader.specs.Numbers.{Rest}
use Rattle.reader.specs.Labels.{Proper, proper, is_label_lem, label_of, codewords_of, words_long, drawable, grid_length, side_of_square}
use Rattle.reader.specs.Told.{Told, says, silent, Tells}

-- what is returned for a grid, whatever scratch holds at the return
pub record Looks (g text records : List ℕ) (r : Outcome) (o q : List ℕ) : Type 0 where
  pub at : (z : List ℕ) → Finds g text (parts_of records) z (read_of r o (parts_of q) z)
  pub rest : Rest records q

-- ---- sizes

pub raw_small : (v : Version) (n : ℕ) → n ≡ raw_codewords v.value + 1 → n ≤ 4096
unfolding raw_codewords
raw_small v n e = omega (arith, (version_range v.value v.in_range.0 v.in_range.1).most)

pub raw_fits : (v n : ℕ) → n ≡ raw_modules v → 1 ≤ v → v ≤ 40 → n / 8 + 1 ≤ 3707
raw_fits v n e low high = omega (arith, (version_range v low high).most)

pub data_fits : (v n : ℕ) (ecl : QrCodeEcc) → n ≡ data_codewords v (level_of ecl) → 1 ≤ v → v ≤ 40 → n ≤ 2956
data_fits v n ecl e low high = omega (arith, (pair_range v (level_of ecl) low high (level_le ecl)).words)

pub data_small : (v n : ℕ) (ecl : QrCodeEcc) → n ≡ data_codewords v (level_of ecl) → 1 ≤ v → v ≤ 40 → n ≤ 4096
data_small v n ecl e low high = omega (arith, data_fits v n ecl e low high)

-- ---- what is read, and what that says

not_not : (b : Bool) → not (not b) ≡ b
not_not true = refl
not_not false = refl

-- the data codewords of a grid
abbrev pub data_read : ℕ → ℕ → ℕ → List ℕ → List ℕ
data_read v l m g = data_of v l (take (raw_codewords v) (read_words v l m g (replicate (raw_codewords v + 1) 0)))

module _ (v l m : ℕ) (g d : List ℕ) (size : length g ≡ side v * side v) (lv : l ≡ read_level (side v) g) (mk : m ≡ read_mask (side v) g) (is : d ≡ data_read v l m g) where
  -- a label that the grid shows has the version, level, mask and data codewords that are read
  pub record Same (a : Label) : Type 0 where
    pub version : a.version ≡ v
    pub level : a.level ≡ l
    pub mask : a.mask ≡ m
    pub words : d ≡ data_words v l a.segments

  at_version : (k n : ℕ) (ss : List Segment) → Proper v k n ss → g ≡ grid v k n (content v (codewords_of v k ss)) → Same (label_of v k n ss)
  at_version k n ss p e =
      let w : Drawable v k n (codewords_of v k ss) = drawable v k n ss p in
      let r = read_drawn v k n (codewords_of v k ss) w in
      let hk : k ≡ l = sym (lv ∙ ap (read_level (side v)) e ∙ r.0) in
      let hn : n ≡ m = sym (mk ∙ ap (read_mask (side v)) e ∙ r.1) in
      let ws : read_words v k n g (replicate (raw_codewords v + 1) 0) ≡ codewords_of v k ss ++ (0 ∷ []) = ap (λ (x : List ℕ). read_words v k n x (replicate (raw_codewords v + 1) 0)) e ∙ r.2 in
      let all : take (raw_codewords v) (read_words v k n g (replicate (raw_codewords v + 1) 0)) ≡ codewords_of v k ss = ap (take (raw_codewords v)) ws ∙ take_at (codewords_of v k ss) (0 ∷ []) (raw_codewords v) w.full in
      let back : data_read v k n g ≡ data_words v k ss = ap (data_of v k) all ∙ data_back v k p.least p.most p.level (data_words v k ss) (words_long v k ss p.fit) in
      record {
        version = refl;
        level = hk;
        mask = hn;
        words = is ∙ subst (λ (x : ℕ). data_read v l x g ≡ data_words v l ss) hn (subst (λ (x : ℕ). data_read v x n g ≡ data_words v x ss) hk back);
      }

  pub same_label : (a : Label) → Shows g a → Same a
  unfolding grid_of
  same_label a x =
      let p : Proper a.version a.level a.mask a.segments = proper a.version a.level a.mask a.segments x.label in
      let e : a.version ≡ v = side_of_square a.version v (sym (grid_length a.version a.level a.mask _) ∙ ap length (sym x.drawn) ∙ size) in
      subst (λ (w : ℕ). Proper w a.level a.mask a.segments → g ≡ grid_of (label_of w a.level a.mask a.segments) → w ≡ v → Same (label_of w a.level a.mask a.segments))
      (sym e) (λ p q f. at_version a.level a.mask a.segments p q) p x.drawn e

  module _ (r : Bool) (tested : r ≡ same g (grid v l m (content v (all_words v l d)))) where
    -- what is not drawn is no label's
    pub never : r ≡ false → (a : Label) → Shows g a → ⊥
    unfolding grid_of
    never f a x =
        let s : Same a = same_label a x in
        let e : grid_of a ≡ grid v l m (content v (all_words v l d)) =
        rw (s.version, s.level, s.mask) (ap (λ (w : List ℕ). grid v l m (content v (all_words v l w))) (sym s.words)) in
        let t : true ≡ false = sym (ap (same g) (sym e ∙ sym x.drawn) ∙ same_refl g) ∙ sym tested ∙ f in
        true≢false t

    pub looks_none : (text records : List ℕ) → not r ≡ true → Looks g text records (Err NoLabel) text records
    looks_none text records f = record { at = λ z. none (never (not_eq f)) refl; rest = refl }
      where
        not_eq : not r ≡ true → r ≡ false
        not_eq f = sym (not_not r) ∙ ap not f

    finds_told : (text : List ℕ) (records : List Part) (z : List ℕ) (out : Read) → r ≡ true → 1 ≤ v → v ≤ 40 → l ≤ 3 → m ≤ 7 → Told v l m d text records z out → Finds g text records z out
    unfolding grid_of
    finds_told text records z out t low high hl hm (says ss e q) =
        let drawn : g ≡ grid v l m (content v (all_words v l d)) = same_eq g (grid v l m (content v (all_words v l d))) (true_T (same g (grid v l m (content v (all_words v l d)))) (sym tested ∙ t)) in
        shown (label_of v l m ss)
        (record {
          label = is_label_lem v l m ss (record { least = low; most = high; level = hl; mask = hm; good = e.goods; fit = e.fit });
          drawn = drawn ∙ ap (λ (w : List ℕ). grid v l m (content v (all_words v l w))) e.words;
        })
        q
    finds_told text records z out t low high hl hm (silent n q) = none (λ a x. never_said a x) q
      where
        never_said : (a : Label) → Shows g a → ⊥
        never_said a x =
            let s : Same a = same_label a x in
            let p : Proper a.version a.level a.mask a.segments = proper a.version a.level a.mask a.segments x.label in
            n a.segments p.good (rw (s.version, s.level) at p.fit) s.words

    pub looks_told : (ecl : QrCodeEcc) (text records : List ℕ) (out : Outcome) (o q : List ℕ) → Tells v l m d text records out o q → not r ≡ false → 1 ≤ v → v ≤ 40 → l ≡ level_of ecl → m ≤ 7
        → Looks g text records out o q
    looks_told ecl text records out o q t f low high e hm =
        record {
          at = λ z. finds_told text (parts_of records) z (read_of out o (parts_of q) z) (sym (not_not r) ∙ ap not f) low high (omega (arith, level_le ecl)) hm (t.at z);
          rest = t.rest;
        }
