-- `records::read_in`: what is packed from the numbers meets the definition's relation.
-- Assumes nothing.
use native.Mathlib.Omega.{arith}
use Rattle.std.proofs.Common.{◌≡◌, ℕ, ◌*◌, ◌≤◌, min, List, ◌++◌, length, take, drop, ap, sym, subst, ◌∙◌, length-append, length-drop, length-take-le}
use Rattle.std.specs.Prelude.{Ok, Err}
use Rattle.std.proofs.lemmas.List.{length-replicate}
use Rattle.std.proofs.lemmas.Result.{err_from_is_err_and}
use Rattle.standard.specs.Read.{Reads}
use Rattle.reader.specs.declared.Label.{Label}
use Rattle.reader.specs.declared.Refusal.{Refusal}
use Rattle.reader.specs.Answers.{Outcome, read_of}
use Rattle.reader.specs.Numbers.{ReadsNumbers}
use Rattle.records.specs.declared.Record.{Record}
use Rattle.records.specs.Records.{parts, packed, packed_part}
use Rattle.records.specs.Reading.{count, part_read, Packed}
use Rattle.records.proofs.Reading.{packs}
use Rattle.records.proofs.read_in.Goals as goal

module _ (g : List ℕ) (s : ℕ) (text : List ℕ) (rs : List Record) (scratch : List ℕ) (r : Outcome) (o w z before : List ℕ) (m : ℕ) (em : m ≡ min (length rs) 2048)
    (n : ℕ) (size : length before ≡ n) (enough : 4 * min (length rs) 2048 ≤ n) (same : length w ≡ length (take (4 * m) before)) (read : ReadsNumbers g s text (take (4 * m) before) scratch r o w z) where
  room : 4 * min (length rs) 2048 ≤ length before
  room = omega arith

  -- the numbers after the reading
  abbrev after : List ℕ
  after = w ++ drop (4 * m) before

  long : length after ≡ length before
  long = length-append w (drop (4 * m) before) ∙ omega (arith, room, length-take-le (4 * m) before (omega (arith, room)), length-drop (4 * m) before)

  found : Packed g s text rs scratch r o after z
  found = packs g s text rs scratch r o after z before room (omega (arith, long)) (part_read g s text (length rs) before scratch r o w z m em same room read)

  refused : (e : Refusal) → r ≡ Err e → Reads g s text (parts rs) scratch (read_of (Err e) o (parts rs) z)
  unfolding packed
  refused e q = subst (λ (x : Outcome). Reads g s text (parts rs) scratch (read_of x o (parts (packed (count x) after rs)) z)) q found.reads

  module _ (a : Label) (q : r ≡ Ok a) where
    few : a.records ≤ min (length rs) 2048
    few = subst (λ (x : Outcome). count x ≤ min (length rs) 2048) q found.few

    -- what `pack` asks
    fits : a.records ≤ length rs
    fits = omega (arith, few)

    front : a.records ≡ length (take a.records rs)
    front = sym (length-take-le a.records rs fits)

    asked : 4 * length (take a.records rs) ≤ length after
    asked = omega (arith, few, long, front)

    -- and the return
    done : (qs : List Record) → qs ≡ packed (length (take a.records rs)) after (take a.records rs) → Reads g s text (parts rs) scratch (read_of (Ok a) o (parts (qs ++ drop a.records rs)) z)
    done qs e =
        subst (λ (l : List Record). Reads g s text (parts rs) scratch (read_of (Ok a) o (parts l) z))
        (sym (ap (λ (l : List Record). l ++ drop a.records rs) e ∙ packed_part a.records after rs fits))
        (subst (λ (x : Outcome). Reads g s text (parts rs) scratch (read_of x o (parts (packed (count x) after rs)) z)) q found.reads)

pub returns-in_err-label : goal.returns-in_err-label
returns-in_err-label t c =
    let p = err_from_is_err_and c.from_residual.result c.from_residual.ensures.1 in
    let k = c.read in
    record { read = rw (p.1, p.2) (refused _ _ _ _ _ _ _ _ _ _ _ c.min-end.ensures _ (length-replicate {A = ℕ} t.row.N 0) c.requires.room k.auto.records k.ensures _ c.in_err-label.was) }

pub slice_bounds-pack-end-2 : goal.slice_bounds-pack-end-2
slice_bounds-pack-end-2 t c = fits _ _ _ _ _ _ _ _ _ _ _ c.min-end.ensures _ (length-replicate {A = ℕ} t.row.N 0) c.requires.room c.read.auto.records c.read.ensures _ c.in_ok-label.was

pub slice_bounds-pack-end-3 : goal.slice_bounds-pack-end-3
slice_bounds-pack-end-3 t c = front _ _ _ _ _ _ _ _ _ _ _ c.min-end.ensures _ (length-replicate {A = ℕ} t.row.N 0) c.requires.room c.read.auto.records c.read.ensures _ c.in_ok-label.was

pub pack-requires : goal.pack-requires
pack-requires t c = asked _ _ _ _ _ _ _ _ _ _ _ c.min-end.ensures _ (length-replicate {A = ℕ} t.row.N 0) c.requires.room c.read.auto.records c.read.ensures _ c.in_ok-label.was

pub returns : goal.returns
returns t c = record { read = done _ _ _ _ _ _ _ _ _ _ _ c.min-end.ensures _ (length-replicate {A = ℕ} t.row.N 0) c.requires.room c.read.auto.records c.read.ensures _ c.in_ok-label.was _ c.pack.ensures }
