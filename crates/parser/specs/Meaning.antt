-- What the writing pass writes means what was parsed: the numbers, read as records over the text, are the segments again.
-- Assumes nothing.
use Rattle.std.specs.Prelude.{ℕ, zero, suc, ◌+◌, ◌*◌, ◌/◌, ◌<◌, ◌≡◌, refl, List, [], ◌∷◌, T, length, get_or, take, drop}
use Rattle.std.proofs.Common.{sym, ap, ap₂, ◌∙◌, arith, not-suc-le-zero, le_of_suc-le-suc, take_at}
use Rattle.standard.specs.Numbers.{every, tabulate}
use Rattle.standard.specs.Read.{records_from}
use Rattle.standard.specs.Segments.{Part, Segment, segments_of, good_part, good_segment}
use Rattle.laws.specs.Lists.{is_tabulate}
use Rattle.segments.specs.Records.{part_of, part_at, parts_of}
use Rattle.parser.specs.Parse.{read}
use Rattle.parser.specs.Counts.{text_length}
use Rattle.parser.specs.Parts.{parts_mean, parts_good}
use Rattle.parser.specs.Written.{numbers_of, numbers_length, text_after, records_after}

-- ---- records as numbers, and back

pub part_later : (p : Part) (ns : List ℕ) (i : ℕ) → part_at (p.kind ∷ p.start ∷ p.len ∷ p.assign ∷ ns) (suc i) ≡ part_at ns i
part_later p ns i =
    let l : List ℕ = p.kind ∷ p.start ∷ p.len ∷ p.assign ∷ ns in
    let e0 : 4 * suc i ≡ suc (suc (suc (suc (4 * i)))) = omega arith in
    let e1 : 4 * suc i + 1 ≡ suc (suc (suc (suc (4 * i + 1)))) = omega arith in
    let e2 : 4 * suc i + 2 ≡ suc (suc (suc (suc (4 * i + 2)))) = omega arith in
    let e3 : 4 * suc i + 3 ≡ suc (suc (suc (suc (4 * i + 3)))) = omega arith in
    ap₂ (λ (x y : ℕ). part_of (get_or l x 0) (get_or l y 0) (get_or l (4 * suc i + 2) 0) (get_or l (4 * suc i + 3) 0)) e0 e1
    ∙ ap₂ (λ (x y : ℕ). part_of (get_or ns (4 * i) 0) (get_or ns (4 * i + 1) 0) (get_or l x 0) (get_or l y 0)) e2 e3

part_at_lem : (ps : List Part) (i : ℕ) (d : Part) → i < length ps → get_or ps i d ≡ part_at (numbers_of ps) i
part_at_lem [] i d h = absurd (not-suc-le-zero h)
part_at_lem (p ∷ ps) zero d h = refl
part_at_lem (p ∷ ps) (suc i) d h = part_at_lem ps i d (le_of_suc-le-suc h) ∙ sym (part_later p (numbers_of ps) i)

pub length_numbers : (ps : List Part) → length (numbers_of ps) ≡ 4 * length ps
length_numbers [] = refl
length_numbers (p ∷ ps) = let e = length_numbers ps in omega arith

pub parts_read : (ps : List Part) → parts_of (numbers_of ps) ≡ ps
unfolding parts_of
parts_read ps =
    let e : length (numbers_of ps) / 4 ≡ length ps = omega (arith, length_numbers ps) in
    ap (λ (n : ℕ). tabulate n (part_at (numbers_of ps))) e
    ∙ sym (is_tabulate (part_of 0 0 0 0) ps (length ps) (part_at (numbers_of ps)) refl (λ i h. part_at_lem ps i (part_of 0 0 0 0) h))

-- ---- what was written

module _ (ss : List Segment) (o q : List ℕ) (g : T (every good_segment ss)) where
  -- the records that were written
  pub written_parts : parts_of (take (4 * length ss) (records_after (read ss) q)) ≡ records_from 0 ss
  written_parts =
      ap parts_of (take_at (numbers_of (records_from 0 ss)) (drop (4 * length ss) q) (4 * length ss) (numbers_length 0 ss))
      ∙ parts_read (records_from 0 ss)

  -- over the text that was written they mean the segments that were parsed
  pub written_mean : segments_of (text_after (read ss) o) (parts_of (take (4 * length ss) (records_after (read ss) q))) ≡ ss
  written_mean = ap (segments_of (text_after (read ss) o)) written_parts ∙ parts_mean ss (drop (text_length ss) o) g

  -- and they are as records should be
  pub written_good : T (every (good_part (text_after (read ss) o)) (records_from 0 ss))
  written_good = parts_good ss (drop (text_length ss) o) g
