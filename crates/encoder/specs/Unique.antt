-- Theorems over the definition: any two outcomes that meet an entry's promise are equal, answer and lent memory;
-- the text and byte entries are the entry of segment lists; and the size rule.
-- Assumes nothing.
use Prim.Native.Nat.{ℕ, zero, suc, ◌+◌, ◌-◌, ◌≤◌}
use Rattle.std.specs.Prelude.{Bool, true, false, List, ◌≡◌, refl, T}
use Rattle.std.proofs.Common.{sym, ◌∙◌, add-zero, add-suc, arith}
use Rattle.std.proofs.Math.Numerals.{add-one}
use borrow.Author.Tests.{lt-ltb, le-ltb}
use Rattle.standard.specs.Numbers.{least}
use Rattle.standard.specs.Segments.{Part, Segment, text_parts, byte_parts, fits}
use Rattle.standard.specs.Plan.{unplanned, planned, lowest_fit, too_long, levelled, plan_fit}
use Rattle.standard.specs.Encode.{Return, encode, encode_text, encode_bytes, encode_codewords}
use Rattle.laws.specs.Least.{least_le}
use Rattle.encoder.specs.Search.{Searched, search_start, search_next, missed}
use Rattle.encoder.specs.Ready.{fit_planned}

-- ---- one possible outcome

pub encode_unique : (l first last m : ℕ) (boost : Bool) (text : List ℕ) (rs : List Part) (g s : List ℕ) (a b : Return)
    → a ≡ encode l first last m boost text rs g s → b ≡ encode l first last m boost text rs g s → a ≡ b
encode_unique l first last m boost text rs g s a b p q = p ∙ sym q

pub text_unique : (l first last m : ℕ) (boost : Bool) (text g s : List ℕ) (a b : Return)
    → a ≡ encode_text l first last m boost text g s → b ≡ encode_text l first last m boost text g s → a ≡ b
text_unique l first last m boost text g s a b p q = p ∙ sym q

pub bytes_unique : (l first last m : ℕ) (boost : Bool) (text g s : List ℕ) (a b : Return)
    → a ≡ encode_bytes l first last m boost text g s → b ≡ encode_bytes l first last m boost text g s → a ≡ b
bytes_unique l first last m boost text g s a b p q = p ∙ sym q

pub codewords_unique : (l v m : ℕ) (words g s : List ℕ) (a b : Return)
    → a ≡ encode_codewords l v m words g s → b ≡ encode_codewords l v m words g s → a ≡ b
codewords_unique l v m words g s a b p q = p ∙ sym q

-- ---- the text and byte entries are the entry of the list that they stand for

pub text_is_list : (l first last m : ℕ) (boost : Bool) (text g s : List ℕ) → encode_text l first last m boost text g s ≡ encode l first last m boost text (text_parts text) g s
unfolding encode_text
text_is_list l first last m boost text g s = refl

pub bytes_are_list : (l first last m : ℕ) (boost : Bool) (text g s : List ℕ) → encode_bytes l first last m boost text g s ≡ encode l first last m boost text (byte_parts text) g s
unfolding encode_bytes
bytes_are_list l first last m boost text g s = refl

-- ---- size: refused exactly when no version of the range fits

module _ (l first last : ℕ) (boost : Bool) (ss : List Segment) (range : first ≤ last) where
  -- no version fits: then the refusal is the last version's, 6 or 7
  pub none_fits : ((v : ℕ) → first ≤ v → v ≤ last → fits l ss v ≡ false) → plan_fit l first last boost ss ≡ unplanned (too_long l last ss)
  unfolding plan_fit
  none_fits none = rw (top, lt-ltb last (suc last) (omega arith))
    where
      up : (n : ℕ) → first + n ≤ last → Searched l first last (first + n) ss
      up zero h = rw (add-zero first) (search_start l first last ss range)
      up (suc n) h =
          rw (add-suc first n, ← add-one (first + n))
          (search_next l first last ss (first + n) (up n (omega arith)) (none (first + n) (omega arith) (omega arith)) (omega arith))

      at_last : Searched l first last last ss
      at_last = let e : first + (last - first) ≡ last = omega arith in rw e at (up (last - first) (omega arith))

      top : lowest_fit l first last ss ≡ suc last
      top = missed l first last ss last at_last (none last range (omega arith)) (omega arith)

  -- a plan is a version that fits at its level
  pub plan_fits : (v k n : ℕ) → plan_fit l first last boost ss ≡ planned v k n → (first ≤ v) × (v ≤ last) × T (fits k ss v)
  plan_fits v k n q = fit_planned l first last boost ss v k n (omega arith) q

  -- some version fits: then there is a plan, at the lowest that does
  pub some_fits : (v : ℕ) → first ≤ v → v ≤ last → fits l ss v ≡ true
      → (lowest_fit l first last ss ≤ v) × (plan_fit l first last boost ss ≡ levelled (lowest_fit l first last ss) l boost ss)
  unfolding plan_fit lowest_fit
  some_fits v low high e =
      let h : least first (suc last - first) (fits l ss) ≤ v = least_le (fits l ss) first (suc last - first) v low (omega arith) e in
      (h, rw (le-ltb last (least first (suc last - first) (fits l ss)) (omega arith)))
