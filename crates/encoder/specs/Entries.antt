-- Laws of the entries: from a plan to the definition's answer, and the records that a text stands for.
-- Assumes nothing.
use Rattle.std.specs.Prelude.{ℕ, Bool, ◌≡◌, refl, length, take, Some}
use mathlib.Core.List.{List, [], ◌∷◌}
use Rattle.std.proofs.Common.{◌∙◌, arith, take_all}
use Rattle.std.proofs.Math.Path.{ap}
use Rattle.standard.specs.Segments.{Part, segments_of, whole, text_kind, text_parts, byte_parts}
use Rattle.standard.specs.Plan.{Refusal as Told, Plan}
use Rattle.standard.specs.Encode.{Return, refused, draw_plan, encode, encode_text, encode_bytes}
use Rattle.segments.specs.Records.{parts_of}
use Rattle.encoder.specs.Settings.{checked, checked_plan}

module _ (l first last m : ℕ) (boost : Bool) (text : List ℕ) (rs : List Part) (g s : List ℕ) where
  -- no settings, no change
  pub asked_refused : (e : Told) → checked l first last m ≡ Some e → record { answer = refused e; grid = g; scratch = s } ≡ encode l first last m boost text rs g s
  unfolding encode draw_plan
  asked_refused e q = ap (λ (a : Plan). draw_plan a m (segments_of text rs) g s) (checked_plan l first last m boost text rs e q)

-- ---- text and bytes

-- how many numbers the records of a text are
abbrev pub numbers_in : List ℕ → ℕ
numbers_in [] = 0
numbers_in (x ∷ xs) = 4

pub none_in : (text : List ℕ) → length text ≡ 0 → 0 ≡ numbers_in text
none_in [] h = refl
none_in (x ∷ xs) h = absurd (omega arith)

pub some_in : (text : List ℕ) → (length text ≡ 0 → ⊥) → 4 ≡ numbers_in text
some_in [] h = absurd (h refl)
some_in (x ∷ xs) h = refl

module _ (text seg : List ℕ) (k : ℕ) (e : parts_of seg ≡ whole k text) where
  pub text_parts_lem : (n : ℕ) → length seg ≡ 4 → k ≡ text_kind text → n ≡ numbers_in text → parts_of (take n seg) ≡ text_parts text
  unfolding text_parts parts_of
  text_parts_lem n size ek en = go text e ek en
    where
      go : (t : List ℕ) → parts_of seg ≡ whole k t → k ≡ text_kind t → n ≡ numbers_in t → parts_of (take n seg) ≡ text_parts t
      go [] e ek en = ap (λ (i : ℕ). parts_of (take i seg)) en
      go (x ∷ xs) e ek en =
          ap (λ (i : ℕ). parts_of (take i seg)) en ∙ ap parts_of (take_all 4 seg (omega arith)) ∙ e ∙ ap (λ (i : ℕ). whole i (x ∷ xs)) ek

  pub byte_parts_lem : k ≡ 2 → parts_of seg ≡ byte_parts text
  unfolding byte_parts
  byte_parts_lem ek = e ∙ ap (λ (i : ℕ). whole i text) ek

module _ (l first last m : ℕ) (boost : Bool) (text part g s : List ℕ) (a : Return) (e : a ≡ encode l first last m boost text (parts_of part) g s) where
  pub told_text : parts_of part ≡ text_parts text → a ≡ encode_text l first last m boost text g s
  unfolding encode_text
  told_text q = e ∙ ap (λ (rs : List Part). encode l first last m boost text rs g s) q

  pub told_bytes : parts_of part ≡ byte_parts text → a ≡ encode_bytes l first last m boost text g s
  unfolding encode_bytes
  told_bytes q = e ∙ ap (λ (rs : List Part). encode l first last m boost text rs g s) q
