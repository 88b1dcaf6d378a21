-- Laws that the proof of `append_groups` cites: a turn of the loop appends one group of the run.
-- Assumes nothing.
use Rattle.std.specs.Prelude.{◌≡◌, ℕ, ◌+◌, ◌-◌, ◌<◌, ◌≤◌, T, min, List, [], ◌∷◌, ◌++◌, length, take, drop, slice_index, refl}
use Rattle.std.proofs.Common.{sym, ap, ap₂, ◌∙◌, subst, arith, length-append, lt→ltb}
use Rattle.std.proofs.Math.Seq.{take-append_seam, drop-append_seam}
use Rattle.standard.specs.Numbers.{every}
use Rattle.standard.specs.Bits.{bits}
use Rattle.standard.specs.Kinds.{is_digit, is_alphanumeric, allowed, digit_bits, pair_bits, byte_bits}
use Rattle.laws.specs.Lists.{every_of}
use Rattle.bits.specs.Appended.{Free, Appended, Progress, progress_start, progress_free, progress_next, progress_end}
use Rattle.segments.specs.Kinds.{size, width, group_number, every_take, every_drop}
use Rattle.segments.specs.Runs.{part, bits_turn, run_bits}
use Rattle.segments.specs.Tables.{width_le}
use Rattle.segments.specs.Payload.{digits_run, pairs_run, bytes_run}

pub groups_start : (buf : List ℕ) (at k : ℕ) (t rest : List ℕ) → rest ≡ t → Progress buf buf at at (run_bits k (length t) (length t) t) (run_bits k (length rest) (length rest) rest)
groups_start buf at k t rest e =
    progress_start buf at (run_bits k (length t) (length t) t) (run_bits k (length rest) (length rest) rest) (ap (λ (l : List ℕ). run_bits k (length l) (length l) l) (sym e))

-- g is the next group of what is left
module _ (k s : ℕ) (rest g after : List ℕ) (er : rest ≡ g ++ after) (el : length g ≡ min s (length rest)) (es : s ≡ size k) where
  pub group_fits : length g ≤ size k
  group_fits = omega (arith, el, es)

  group_is : take (length g) rest ≡ g
  group_is = ap (take (length g)) er ∙ take-append_seam g after

  after_is : drop (length g) rest ≡ after
  after_is = ap (drop (length g)) er ∙ drop-append_seam g after

  pub group_allowed : T (every (allowed k) rest) → T (every (allowed k) g)
  group_allowed t = subst (λ (l : List ℕ). T (every (allowed k) l)) group_is (every_take (allowed k) (length g) rest t)

  pub after_allowed : T (every (allowed k) rest) → T (every (allowed k) after)
  after_allowed t = subst (λ (l : List ℕ). T (every (allowed k) l)) after_is (every_drop (allowed k) (length g) rest t)

  module _ (buf new : List ℕ) (at p : ℕ) (all : List ℕ) (w x : ℕ) (pr : Progress buf new at p all (run_bits k (length rest) (length rest) rest))
      (ew : w ≡ width k (length g)) (ex : x ≡ group_number k 0 g) (pos : 0 < length rest) (f : Free buf at all) where
    turn : run_bits k (length rest) (length rest) rest ≡ bits w x ++ run_bits k (length after) (length after) after
    turn =
        let m : part k (length rest) ≡ length g = omega (arith, el, es) in
        let l : length rest ≡ length g + length after = ap length er ∙ length-append g after in
        let d : length rest - length g ≡ length after = omega arith in
        bits_turn k (length rest) rest pos
        ∙ ap (λ (i : ℕ). bits (width k i) (group_number k 0 (take i rest)) ++ run_bits k (length rest - i) (length rest - i) (drop i rest)) m
        ∙ ap₂ (λ (a b : List ℕ). bits (width k (length g)) (group_number k 0 a) ++ run_bits k (length rest - length g) (length rest - length g) b) group_is after_is
        ∙ ap (λ (i : ℕ). bits (width k (length g)) (group_number k 0 g) ++ run_bits k i i after) d
        ∙ ap₂ (λ (i j : ℕ). bits i j ++ run_bits k (length after) (length after) after) (sym ew) (sym ex)

    pub groups_free : Free new p (bits w x)
    groups_free =
        progress_free buf new at p all (run_bits k (length rest) (length rest) rest) (bits w x) (run_bits k (length after) (length after) after) pr turn f

    pub groups_next : (new₂ : List ℕ) (r : ℕ) → Appended new new₂ p r (bits w x) → Progress buf new₂ at r all (run_bits k (length after) (length after) after)
    groups_next new₂ r a =
        progress_next buf new at p all (run_bits k (length rest) (length rest) rest) (bits w x) (run_bits k (length after) (length after) after) pr turn f new₂ r a

pub groups_end : (buf new : List ℕ) (at p k : ℕ) (rest all : List ℕ) → Progress buf new at p all (run_bits k (length rest) (length rest) rest) → length rest ≡ 0 → Appended buf new at p all
unfolding run_bits
groups_end buf new at p k [] all g h = progress_end buf new at p all [] g refl
groups_end buf new at p k (x ∷ rest) all g h = absurd (omega arith)

-- ---- numbers of a turn

pub width_32 : (k m w : ℕ) → w ≡ width k m → w ≤ 32
width_32 k m w e = omega (arith, width_le k m)

-- ---- the payloads

module _ (buf : List ℕ) (at : ℕ) (t : List ℕ) where
  pub digits_free : Free buf at (digit_bits t) → Free buf at (run_bits 0 (length t) (length t) t)
  digits_free f = subst (λ (l : List ℕ). Free buf at l) (digits_run t (length t) (omega arith)) f

  pub pairs_free : Free buf at (pair_bits t) → Free buf at (run_bits 1 (length t) (length t) t)
  pairs_free f = subst (λ (l : List ℕ). Free buf at l) (pairs_run t (length t) (omega arith)) f

  pub bytes_free : Free buf at (byte_bits t) → Free buf at (run_bits 2 (length t) (length t) t)
  bytes_free f = subst (λ (l : List ℕ). Free buf at l) (bytes_run t (length t) (omega arith)) f

module _ (buf new : List ℕ) (at r : ℕ) (t : List ℕ) where
  pub digits_done : Appended buf new at r (run_bits 0 (length t) (length t) t) → Appended buf new at r (digit_bits t)
  digits_done a = subst (λ (l : List ℕ). Appended buf new at r l) (sym (digits_run t (length t) (omega arith))) a

  pub pairs_done : Appended buf new at r (run_bits 1 (length t) (length t) t) → Appended buf new at r (pair_bits t)
  pairs_done a = subst (λ (l : List ℕ). Appended buf new at r l) (sym (pairs_run t (length t) (omega arith))) a

  pub bytes_done : Appended buf new at r (run_bits 2 (length t) (length t) t) → Appended buf new at r (byte_bits t)
  bytes_done a = subst (λ (l : List ℕ). Appended buf new at r l) (sym (bytes_run t (length t) (omega arith))) a

-- characters of a kind, in the definition's words
pub every_digit : (t : List ℕ) → T (every is_digit t) → T (every (allowed 0) t)
unfolding allowed
every_digit t h = h

pub every_alphanumeric : (t : List ℕ) → T (every is_alphanumeric t) → T (every (allowed 1) t)
unfolding allowed
every_alphanumeric t h = h

-- every byte is one of kind Byte
pub every_byte : (t : List ℕ) → ((i : ℕ) → slice_index t i < 256) → T (every (allowed 2) t)
unfolding allowed
every_byte t h = every_of (allowed 2) t 0 (λ i b. lt→ltb (slice_index t i) 256 (h i))
