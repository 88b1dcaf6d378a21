-- Laws that the proofs of the types cite: what `new` answers in each case, and widths by version.
-- Assumes nothing.
use Rattle.std.specs.Prelude.{ℕ, ◌+◌, ◌/◌, ◌≤◌, ◌<◌, [], ◌∷◌, Bool, true, false, cond, ◌&&◌, leb, get_or, Some, None}
use Rattle.std.proofs.Math.Path.{◌≡◌}
use Rattle.std.proofs.Common.{sym, refl, ap, ◌∙◌, arith, lit≤, lit<}
use borrow.Author.Tests.{lt-ltb, le-ltb, le-leb, lt-leb, leb-true, leb-false}
use Rattle.standard.specs.Kinds.{by_version, count_width}
use Rattle.laws.specs.Tests.{split}
use Rattle.types.specs.declared.QrCodeEcc.{QrCodeEcc}
use Rattle.types.specs.declared.QrCodeEcc.TheVariants.{Low, Medium, Quartile, High}
use Rattle.types.specs.declared.QrSegmentMode.{QrSegmentMode}
use Rattle.types.specs.declared.QrSegmentMode.TheVariants.{Numeric, Alphanumeric, Byte}
use Rattle.types.specs.declared.TextKind.{TextKind}
use Rattle.types.specs.declared.TextKind.TheVariants.{Numeric as NumericText, Alphanumeric as AlphanumericText, Byte as ByteText}
use Rattle.types.specs.Numbers.{level_of, kind_of, text_kind_of, new_version, new_mask}

none_some : (n : ℕ) → None ≡ Some n → ⊥
none_some n e = let z : ◌≡◌ {A = ℕ} 0 1 = cc in omega arith

pub version_low : (n : ℕ) → n < 1 → None ≡ new_version n
version_low n h = simp (lt-leb 1 n h)

pub version_high : (n : ℕ) → 1 ≤ n → 40 < n → None ≡ new_version n
version_high n h k = simp (le-leb 1 n h, lt-leb n 40 k)

pub version_is : (n : ℕ) → 1 ≤ n → n ≤ 40 → Some n ≡ new_version n
version_is n h k = simp (le-leb 1 n (omega arith), le-leb n 40 (omega arith))

pub mask_high : (n : ℕ) → 7 < n → None ≡ new_mask n
mask_high n h = simp (lt-leb n 7 h)

pub mask_is : (n : ℕ) → n ≤ 7 → Some n ≡ new_mask n
mask_is n h = simp (le-leb n 7 h)

-- what an answer says of the number
pub not_version : (n : ℕ) → None ≡ new_version n → 1 ≤ n → n ≤ 40 → ⊥
not_version n e low high = let f : None ≡ Some n = e ∙ sym (version_is n low high) in none_some n f

pub is_version : (n w : ℕ) → Some w ≡ new_version n → (1 ≤ n) × (n ≤ 40) × (w ≡ n)
is_version n w e = go (leb 1 n) refl (leb n 40) refl e
  where
    go : (a : Bool) → leb 1 n ≡ a → (b : Bool) → leb n 40 ≡ b → Some w ≡ cond (a && b) (Some n) None → (1 ≤ n) × (n ≤ 40) × (w ≡ n)
    go true p true q f = (leb-true 1 n p, leb-true n 40 q, cc)
    go true p false q f = absurd (none_some w (sym f))
    go false p b q f = absurd (none_some w (sym f))

pub not_mask : (n : ℕ) → None ≡ new_mask n → 7 < n
not_mask n e = go (leb n 7) refl e
  where
    go : (a : Bool) → leb n 7 ≡ a → None ≡ cond a (Some n) None → 7 < n
    go true p f = absurd (none_some n f)
    go false p f = leb-false n 7 p

pub is_mask : (n w : ℕ) → Some w ≡ new_mask n → w ≡ n
is_mask n w e = go (leb n 7) e
  where
    go : (a : Bool) → Some w ≡ cond a (Some n) None → w ≡ n
    go true f = cc
    go false f = absurd (none_some w (sym f))

-- the classes of versions 1 to 9, 10 to 26 and 27 to 40
by_class : (a b c v n : ℕ) → n ≡ v → v ≤ 40 → get_or (a ∷ b ∷ c ∷ []) ((n + 7) / 17) 0 ≡ by_version v a b c
by_class a b c v n q high =
    split v 10
    (λ h. at 0 (omega arith) ∙ rw (lt-ltb v 10 h))
    (λ g. split v 27
    (λ h. at 1 (omega arith) ∙ rw (le-ltb v 10 g, lt-ltb v 27 h))
    (λ h. at 2 (omega arith) ∙ rw (le-ltb v 10 g, le-ltb v 27 h)))
  where
    at : (k : ℕ) → (n + 7) / 17 ≡ k → get_or (a ∷ b ∷ c ∷ []) ((n + 7) / 17) 0 ≡ get_or (a ∷ b ∷ c ∷ []) k 0
    at k e = ap (λ (i : ℕ). get_or (a ∷ b ∷ c ∷ []) i 0) e

module _ (mode : QrSegmentMode) (v n : ℕ) (q : n ≡ v) (high : v ≤ 40) where
  pub numeric_width : mode ≡ Numeric → get_or (10 ∷ 12 ∷ 14 ∷ []) ((n + 7) / 17) 0 ≡ count_width v (kind_of mode)
  numeric_width e = rw e (by_class 10 12 14 v n q high)

  pub alphanumeric_width : mode ≡ Alphanumeric → get_or (9 ∷ 11 ∷ 13 ∷ []) ((n + 7) / 17) 0 ≡ count_width v (kind_of mode)
  alphanumeric_width e = rw e (by_class 9 11 13 v n q high)

  pub byte_width : mode ≡ Byte → get_or (8 ∷ 16 ∷ 16 ∷ []) ((n + 7) / 17) 0 ≡ count_width v (kind_of mode)
  byte_width e = rw e (by_class 8 16 16 v n q high)

pub level_le : (ecl : QrCodeEcc) → level_of ecl ≤ 3
level_le Low = lit≤ tt
level_le Medium = lit≤ tt
level_le Quartile = lit≤ tt
level_le High = lit≤ tt

pub level_fit : (ecl : QrCodeEcc) (l : ℕ) → l ≡ level_of ecl → l ≤ 3
level_fit ecl l e = rw e (level_le ecl)

pub text_kind_lt : (kind : TextKind) → text_kind_of kind < 3
text_kind_lt NumericText = lit< tt
text_kind_lt AlphanumericText = lit< tt
text_kind_lt ByteText = lit< tt
