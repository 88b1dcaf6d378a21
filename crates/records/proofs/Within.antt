-- The records of a label that was read: there are no more of them than there is room for, and each names a part of the text.
-- Assumes nothing.
use Prim.Native.Nat.{ℕ, zero, suc, ◌+◌, ◌≤◌, ◌<◌}
use Rattle.std.specs.Prelude.{Bool, true, false, cond, List, [], ◌∷◌, ◌≡◌, refl, ltb, drop}
use Rattle.std.proofs.Math.Path.{sym, ap}
use Rattle.std.proofs.Common.{◌∙◌, ltb-false}
use native.Mathlib.Omega.{arith}
use Rattle.std.proofs.Math.ListN.{length, get_or, length-append, get_or-append}
use Rattle.standard.specs.Segments.{Part, Segment}
use Rattle.standard.specs.Plan.{Refusal, refusal}
use Rattle.standard.specs.Encode.{zeroed}
use Rattle.standard.specs.Label.{Label}
use Rattle.standard.specs.Read.{unread, Read, characters, records_from, written, labelled, shown, none as shows_none, Reads, refuses, looks}
use Rattle.reader.specs.Answers.{Outcome, answer_of, read_of}
use Rattle.reader.specs.Redraw.{records_length}
use Rattle.records.specs.declared.Record.{Record}
use Rattle.records.specs.Records.{none, part_of, parts}
use Rattle.records.specs.Reading.{count, count_none, count_written, text_short, records_short, all_fit}
use Rattle.records.specs.Within.{Within}

-- a record behind t characters ends before the last one
from_within : (t : ℕ) (ss : List Segment) (i : ℕ) → i < length ss → (get_or (records_from t ss) i (part_of none)).start + (get_or (records_from t ss) i (part_of none)).len ≤ t + length (characters ss)
from_within t [] i h = absurd (omega arith)
from_within t (s ∷ ss) zero h = go (ltb s.kind 3)
  where
    go : (b : Bool) → cond b t 0 + length s.chars ≤ t + length (characters (s ∷ ss))
    go true = omega (arith, length-append s.chars (characters ss))
    go false = omega (arith, length-append s.chars (characters ss))
from_within t (s ∷ ss) (suc i) h =
    let p = from_within (t + length s.chars) ss i (omega arith) in
    omega (arith, length-append s.chars (characters ss))

part_at_lem : (rs : List Record) (i : ℕ) → get_or (parts rs) i (part_of none) ≡ part_of (get_or rs i none)
part_at_lem [] i = refl
part_at_lem (r ∷ rs) zero = refl
part_at_lem (r ∷ rs) (suc i) = part_at_lem rs i

module _ (text : List ℕ) (ps : List Part) (r : Outcome) (o : List ℕ) (rs : List Record) (z : List ℕ) where
  abbrev Fitting : Type 0
  Fitting = (count r ≤ length ps) × Within (count r) rs (length o)

  refused_fits : (e : Refusal) → answer_of r ≡ unread e → Fitting
  refused_fits e q = let n : count r ≡ 0 = count_none r e q in (omega arith, λ i h. absurd (omega arith))

  written_fits : (a : Label) (c : List ℕ) → length a.segments ≤ length ps → read_of r o (parts rs) z ≡ written a text ps c → Fitting
  unfolding written
  written_fits a c room q =
      let m : ℕ = length a.segments in
      let many : count r ≡ m = count_written r a text o ps (parts rs) c z q in
      let long : length o ≡ length (characters a.segments) + length (drop (length (characters a.segments)) text)
      = ap (λ (y : Read). length y.text) q ∙ length-append (characters a.segments) (drop (length (characters a.segments)) text) in (
        omega arith,
        λ i h.
            let inside : i < length (records_from 0 a.segments) = omega (arith, records_length 0 a.segments) in
            let at : part_of (get_or rs i none) ≡ get_or (records_from 0 a.segments) i (part_of none)
            = sym (part_at_lem rs i) ∙ ap (λ (y : Read). get_or y.records i (part_of none)) q ∙ get_or-append (records_from 0 a.segments) (drop m ps) (part_of none) i inside in
            let start : (get_or rs i none).start ≡ (get_or (records_from 0 a.segments) i (part_of none)).start = ap (λ (p : Part). p.start) at in
            let len : (get_or rs i none).length ≡ (get_or (records_from 0 a.segments) i (part_of none)).len = ap (λ (p : Part). p.len) at in
            omega (arith, from_within 0 a.segments i (omega arith)),
      )

  labelled_fits : (a : Label) (c : List ℕ) → read_of r o (parts rs) z ≡ labelled a text ps c → Fitting
  labelled_fits a c q = go (ltb (length text) (length (characters a.segments))) (ltb (length ps) (length a.segments)) refl refl
    where
      go : (b d : Bool) → ltb (length text) (length (characters a.segments)) ≡ b → ltb (length ps) (length a.segments) ≡ d → Fitting
      go true d e f = refused_fits (refusal 15 (length (characters a.segments)) 0) (ap (λ (y : Read). y.answer) (q ∙ text_short a text ps c e))
      go false true e f = refused_fits (refusal 16 (length a.segments) 0) (ap (λ (y : Read). y.answer) (q ∙ records_short a text ps c e f))
      go false false e f = written_fits a c (ltb-false (length ps) (length a.segments) f) (q ∙ all_fit a text ps c e f)

  -- THE LAW: what is read fits
  pub read_fits : (g : List ℕ) (s : ℕ) (scratch : List ℕ) → Reads g s text ps scratch (read_of r o (parts rs) z) → Fitting
  read_fits g s scratch (refuses e p q) = refused_fits e (ap (λ (y : Read). y.answer) q)
  read_fits g s scratch (looks p (shown a x q)) = labelled_fits a (zeroed scratch) q
  read_fits g s scratch (looks p (shows_none n q)) = refused_fits (refusal 14 0 0) (ap (λ (y : Read). y.answer) q)
