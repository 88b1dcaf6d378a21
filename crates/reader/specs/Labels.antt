-- What holds of every label, and that no grid belongs to two.
-- Assumes nothing.
use Rattle.std.specs.Prelude.{ℕ, zero, suc, ◌+◌, ◌-◌, ◌*◌, ◌/◌, ◌%◌, ◌≤◌, ◌<◌, List, [], ◌∷◌, ◌≡◌, T, leb, length, get_or}
use Rattle.std.proofs.Common.{sym, ap, ◌∙◌, subst, ⊎_elim, mul-le-mul_left, mul-lt-mul_of_pos_right, arith, le→leb}
use Rattle.std.proofs.Math.Dec.{leb→le}
use Rattle.std.proofs.Math.ListN.{get_or-eq_default}
use Rattle.standard.specs.Numbers.{every}
use Rattle.standard.specs.Sizes.{side, raw_codewords, check_bytes, blocks, data_codewords}
use Rattle.standard.specs.Segments.{Segment, good_segment, fits}
use Rattle.standard.specs.Codewords.{data_words}
use Rattle.standard.specs.Field.{Bytes, check}
use Rattle.standard.specs.Blocks.{block, all_words}
use Rattle.standard.specs.Format.{format_word}
use Rattle.standard.specs.Grid.{module_at, grid}
use Rattle.standard.specs.Label.{Label, is_label, grid_of, Shows}
use Rattle.laws.specs.Tests.{and_left, and_right, and_pair, split, compared}
use Rattle.laws.specs.Lists.{length_tabulate}
use Rattle.counts.specs.Ranges.{PairRange, pair_range}
use Rattle.field.specs.Division.{bytes_check}
use Rattle.blocks.specs.Places.{all_long, all_data, all_check}
use Rattle.blocks.specs.Undo.{data_of}
use Rattle.blocks.specs.Theorems.{data_back}
use Rattle.parser.specs.Words.{data_bytes, data_length}
use Rattle.parser.specs.Theorems.{fits_room, no_two_lists}
use Rattle.modules.specs.Reading.{Drawable, drawn_unique}

-- ---- the parts of a label

pub record Proper (v l m : ℕ) (ss : List Segment) : Type 0 where
  pub least : 1 ≤ v
  pub most : v ≤ 40
  pub level : l ≤ 3
  pub mask : m ≤ 7
  pub good : T (every good_segment ss)
  pub fit : T (fits l ss v)

abbrev pub label_of : ℕ → ℕ → ℕ → List Segment → Label
label_of v l m ss = record { version = v; level = l; mask = m; segments = ss }

module _ (v l m : ℕ) (ss : List Segment) where
  pub proper : T (is_label (label_of v l m ss)) → Proper v l m ss
  unfolding is_label
  proper t =
      let t1 = and_right (leb 1 v) _ t in
      let t2 = and_right (leb v 40) _ t1 in
      let t3 = and_right (leb l 3) _ t2 in
      let t4 = and_right (leb m 7) _ t3 in
      record {
        least = leb→le 1 v (and_left (leb 1 v) _ t);
        most = leb→le v 40 (and_left (leb v 40) _ t1);
        level = leb→le l 3 (and_left (leb l 3) _ t2);
        mask = leb→le m 7 (and_left (leb m 7) _ t3);
        good = and_left (every good_segment ss) (fits l ss v) t4;
        fit = and_right (every good_segment ss) (fits l ss v) t4;
      }

  pub is_label_lem : Proper v l m ss → T (is_label (label_of v l m ss))
  unfolding is_label
  is_label_lem p =
      and_pair (leb 1 v) _ (le→leb 1 v p.least)
      (and_pair (leb v 40) _ (le→leb v 40 p.most)
      (and_pair (leb l 3) _ (le→leb l 3 p.level)
      (and_pair (leb m 7) _ (le→leb m 7 p.mask) (and_pair (every good_segment ss) (fits l ss v) p.good p.fit))))

-- ---- its data codewords

pub words_long : (v l : ℕ) (ss : List Segment) → T (fits l ss v) → length (data_words v l ss) ≡ data_codewords v l
words_long v l ss t = data_length v l ss (fits_room v l ss t)

-- ---- bytes

byte_at : (p : List ℕ) → Bytes p → (i : ℕ) → get_or p i 0 < 256
byte_at [] h i = omega arith
byte_at (x ∷ p) h zero = h.0
byte_at (x ∷ p) h (suc i) = byte_at p h.1 i

module _ (v l : ℕ) (ws : List ℕ) (r : PairRange v l) (full : length ws ≡ data_codewords v l) (bytes : (i : ℕ) → get_or ws i 0 < 256) where
  pub all_bytes : (p : ℕ) → get_or (all_words v l ws) p 0 < 256
  all_bytes p =
      split p (data_codewords v l)
      (λ h. subst (λ (n : ℕ). n < 256) (sym (all_data v l ws r full p h)) (bytes _))
      (λ h. split p (raw_codewords v) (late h)
      (λ k. let e : get_or (all_words v l ws) p 0 ≡ 0 = get_or-eq_default (all_words v l ws) 0 (omega (arith, all_long v l ws r full)) in omega arith))
    where
      late : data_codewords v l ≤ p → p < raw_codewords v → get_or (all_words v l ws) p 0 < 256
      late h k =
          let q : ℕ = p - data_codewords v l in
          let e : data_codewords v l + q ≡ p = omega arith in
          let c = all_check v l ws r full q (omega (arith, r.whole)) in
          subst (λ (n : ℕ). get_or (all_words v l ws) n 0 < 256) e
          (subst (λ (n : ℕ). n < 256) (sym c) (byte_at (check (check_bytes v l) (block v l ws (q % blocks v l))) (bytes_check (check_bytes v l) (block v l ws (q % blocks v l))) (q / blocks v l)))

-- ---- its grid

abbrev pub codewords_of : ℕ → ℕ → List Segment → List ℕ
codewords_of v l ss = all_words v l (data_words v l ss)

pub drawable : (v l m : ℕ) (ss : List Segment) → Proper v l m ss → Drawable v l m (codewords_of v l ss)
drawable v l m ss p =
    let r : PairRange v l = pair_range v l p.least p.most p.level in
    let full : length (data_words v l ss) ≡ data_codewords v l = words_long v l ss p.fit in
    record {
      least = p.least;
      most = p.most;
      level = p.level;
      mask = p.mask;
      full = all_long v l (data_words v l ss) r full;
      bytes = all_bytes v l (data_words v l ss) r full (byte_at (data_words v l ss) (data_bytes v l ss (fits_room v l ss p.fit)));
    }

pub grid_length : (v l m : ℕ) (c : List ℕ) → length (grid v l m c) ≡ side v * side v
unfolding grid
grid_length v l m c = length_tabulate (side v * side v) (module_at v (format_word l m) m c)

square_less : (s t : ℕ) → s < t → s * s < t * t
square_less s t h =
    let a : s * s ≤ s * t = mul-le-mul_left s (omega arith) in
    let b : s * t < t * t = mul-lt-mul_of_pos_right {m = s} {n = t} {k = t} h (omega arith) in
    omega arith

pub side_of_square : (v w : ℕ) → side v * side v ≡ side w * side w → v ≡ w
side_of_square v w e =
    ⊎_elim (λ h. absurd (let s = square_less (side v) (side w) (omega arith) in omega arith))
    (⊎_elim (λ h. h) (λ h. absurd (let s = square_less (side w) (side v) (omega arith) in omega arith))) (compared v w)

-- ---- no two labels

same_labels : (v l m k n : ℕ) (ss ts : List Segment) → Proper v l m ss → Proper v k n ts → grid_of (label_of v l m ss) ≡ grid_of (label_of v k n ts)
    → ◌≡◌ {A = Label} (label_of v l m ss) (label_of v k n ts)
unfolding grid_of
same_labels v l m k n ss ts p q e =
    let u = drawn_unique v l m k n (codewords_of v l ss) (codewords_of v k ts) (drawable v l m ss p) (drawable v k n ts q) e in
    let level : l ≡ k = u.0 in
    let mask : m ≡ n = u.1 in
    let back : data_of v l (codewords_of v l ss) ≡ data_words v l ss = data_back v l p.least p.most p.level (data_words v l ss) (words_long v l ss p.fit) in
    let forth : data_of v k (codewords_of v k ts) ≡ data_words v k ts = data_back v k q.least q.most q.level (data_words v k ts) (words_long v k ts q.fit) in
    let words : data_words v l ss ≡ data_words v k ts = sym back ∙ ap (data_of v l) u.2 ∙ ap (λ (x : ℕ). data_of v x (codewords_of v k ts)) level ∙ forth in
    let lists : ss ≡ ts =
    no_two_lists v k ss ts p.good q.good (subst (λ (x : ℕ). T (fits x ss v)) level p.fit) q.fit (ap (λ (x : ℕ). data_words v x ss) (sym level) ∙ words) in
    rw (level, mask, lists)

-- THE LAW: no grid belongs to two labels
pub no_two_labels : (g : List ℕ) (a b : Label) → Shows g a → Shows g b → a ≡ b
unfolding grid_of
no_two_labels g a b x y =
    let p = proper a.version a.level a.mask a.segments x.label in
    let q = proper b.version b.level b.mask b.segments y.label in
    let e : grid_of a ≡ grid_of b = sym x.drawn ∙ y.drawn in
    let v : a.version ≡ b.version =
    side_of_square a.version b.version (sym (grid_length a.version a.level a.mask _) ∙ ap length e ∙ grid_length b.version b.level b.mask _) in
    subst (λ (w : ℕ). Proper w b.level b.mask b.segments → grid_of a ≡ grid_of (label_of w b.level b.mask b.segments) → ◌≡◌ {A = Label} a (label_of w b.level b.mask b.segments))
    v (λ q e. same_labels a.version a.level a.mask b.level b.mask a.segments b.segments p q e) q e
