-- What the core reads into numbers, and the records that are packed from them.
-- Assumes nothing.
use Prim.Native.Nat.{ℕ, ◌+◌, ◌*◌, ◌/◌, ◌≤◌, ◌<◌, min}
use Rattle.std.specs.Prelude.{Bool, true, false, ◌≡◌, refl, ltb, get_or, take}
use mathlib.Core.List.{List, ◌++◌}
use Rattle.std.proofs.Common.{sym, ◌∙◌, arith, length-take-le, get_or-take, lt-ltb, le-ltb, ltb-true, ltb-false}
use Rattle.std.proofs.Math.Path.{ap}
use Rattle.std.proofs.Math.ListN.{length, drop, get_or-append}
use Rattle.std.proofs.lemmas.List.{length-map}
use Rattle.standard.specs.Numbers.{tabulate}
use Rattle.standard.specs.Segments.{Part}
use Rattle.standard.specs.Plan.{Refusal, refusal}
use Rattle.standard.specs.Encode.{zeroed}
use Rattle.standard.specs.Label.{Label, Shows}
use Rattle.standard.specs.Read.{Read, refuse_to, characters, records_from, written, labelled, shown, none as shows_none, Reads, refuses, looks}
use Rattle.laws.specs.Lists.{get_d_tabulate, is_tabulate}
use Rattle.segments.specs.Records.{part_of as part_from, part_at, parts_of, parts_length}
use Rattle.parser.specs.Few.{few_records}
use Rattle.reader.specs.Answers.{Outcome, read_of}
use Rattle.reader.specs.Labels.{Proper, proper}
use Rattle.reader.specs.Redraw.{records_length}
use Rattle.records.specs.declared.Record.{Record}
use Rattle.records.specs.Records.{part_of, parts, packed, none_packed, packed_parts}
use Rattle.records.specs.Reading.{count, ReadsIn, count_none, text_short, records_short, all_fit, count_written, Packed}

-- ---- the records

part_taken : (n : ℕ) (ns : List ℕ) (i : ℕ) → i < n → part_at (take (4 * n) ns) i ≡ part_at ns i
part_taken n ns i h =
    rw (
      get_or-take (4 * n) ns (4 * i) 0 (omega arith),
      get_or-take (4 * n) ns (4 * i + 1) 0 (omega arith),
      get_or-take (4 * n) ns (4 * i + 2) 0 (omega arith),
      get_or-take (4 * n) ns (4 * i + 3) 0 (omega arith),
    )

taken_length : (n : ℕ) (ns : List ℕ) → 4 * n ≤ length ns → length (parts_of (take (4 * n) ns)) ≡ n
taken_length n ns h = parts_length (take (4 * n) ns) ∙ omega (arith, length-take-le (4 * n) ns h)

-- the first m of the records that 4 * n numbers stand for
first_parts : (n : ℕ) (ns : List ℕ) (ps rest : List Part) (m : ℕ) → 4 * n ≤ length ns → length ps ≡ m → m ≤ n → parts_of (take (4 * n) ns) ≡ ps ++ rest → tabulate m (part_at ns) ≡ ps
unfolding parts_of
first_parts n ns ps rest m h e k q = sym (is_tabulate (part_from 0 0 0 0) ps m (part_at ns) e at)
  where
    at : (i : ℕ) → i < m → get_or ps i (part_from 0 0 0 0) ≡ part_at ns i
    at i j =
        sym (get_or-append ps rest (part_from 0 0 0 0) i (omega arith)) ∙ ap (λ (l : List Part). get_or l i (part_from 0 0 0 0)) (sym q)
        ∙ get_d_tabulate (length (take (4 * n) ns) / 4) (part_at (take (4 * n) ns)) i (part_from 0 0 0 0) (omega (arith, length-take-le (4 * n) ns h))
        ∙ part_taken n ns i (omega arith)

-- ---- the relation

module _ (g : List ℕ) (s : ℕ) (text : List ℕ) (rs : List Record) (scratch : List ℕ) (r : Outcome) (o ns z : List ℕ) where
  -- the records that are packed
  abbrev after : List Part
  after = parts (packed (count r) ns rs)

  refused_to : (ps qs : List Part) (e : Refusal) (c : List ℕ) → read_of r o qs z ≡ refuse_to e text ps c → read_of r o after z ≡ refuse_to e text (parts rs) c
  refused_to ps qs e c q =
      let none : count r ≡ 0 = count_none r e (ap (λ (x : Read). x.answer) q) in
      let same : after ≡ parts rs = ap (λ (n : ℕ). parts (packed n ns rs)) none ∙ ap parts (sym (none_packed ns rs)) in
      λ i. record { answer = (q i).answer; text = (q i).text; records = same i; scratch = (q i).scratch }

  refused_few : (ps qs : List Part) (e : Refusal) (c : List ℕ) → read_of r o qs z ≡ refuse_to e text ps c → count r ≤ min (length rs) 2048
  refused_few ps qs e c q = omega (arith, count_none r e (ap (λ (x : Read). x.answer) q))

  -- the records that the numbers l stand for
  abbrev taken : List ℕ → List Part
  taken l = parts_of (take (4 * min (length rs) 2048) l)

  module _ (long : 4 * min (length rs) 2048 ≤ length ns) (ps : List Part) (size : length ps ≡ min (length rs) 2048) (a : Label) (x : Shows g a) (c : List ℕ) where
    few_segments : length a.segments ≤ 1970
    few_segments =
        let p : Proper a.version a.level a.mask a.segments = proper a.version a.level a.mask a.segments x.label in
        few_records a.version a.level a.segments p.least p.most p.level p.fit

    written_to : length a.segments ≤ min (length rs) 2048 → read_of r o (taken ns) z ≡ written a text ps c
        → (read_of r o after z ≡ written a text (parts rs) c) × (count r ≤ min (length rs) 2048)
    unfolding written
    written_to h q =
        let m : ℕ = length a.segments in
        let many : count r ≡ m = count_written r a text o ps (taken ns) c z q in
        let same : after ≡ records_from 0 a.segments ++ drop m (parts rs) =
        ap (λ (n : ℕ). parts (packed n ns rs)) many ∙ packed_parts m ns rs (omega arith)
        ∙ ap (λ (l : List Part). l ++ drop m (parts rs))
        (first_parts (min (length rs) 2048) ns (records_from 0 a.segments) (drop m ps) m (omega arith) (records_length 0 a.segments) h (ap (λ (y : Read). y.records) q)) in
        ((λ i. record { answer = (q i).answer; text = (q i).text; records = same i; scratch = (q i).scratch }), omega arith)

    labelled_to : read_of r o (taken ns) z ≡ labelled a text ps c → (read_of r o after z ≡ labelled a text (parts rs) c) × (count r ≤ min (length rs) 2048)
    labelled_to q = go (ltb (length text) (length (characters a.segments))) (ltb (length ps) (length a.segments)) refl refl
      where
        go : (b d : Bool) → ltb (length text) (length (characters a.segments)) ≡ b → ltb (length ps) (length a.segments) ≡ d
            → (read_of r o after z ≡ labelled a text (parts rs) c) × (count r ≤ min (length rs) 2048)
        go true d e f =
            let p : read_of r o (taken ns) z ≡ refuse_to (refusal 15 (length (characters a.segments)) 0) text ps c = q ∙ text_short a text ps c e in
            (refused_to ps (taken ns) _ c p ∙ sym (text_short a text (parts rs) c e), refused_few ps (taken ns) _ c p)
        go false true e f =
            let p : read_of r o (taken ns) z ≡ refuse_to (refusal 16 (length a.segments) 0) text ps c = q ∙ records_short a text ps c e f in
            let more : length (parts rs) < length a.segments = omega (arith, ltb-true (length ps) (length a.segments) f, few_segments, length-map rs part_of) in
            (refused_to ps (taken ns) _ c p ∙ sym (records_short a text (parts rs) c e (lt-ltb (length (parts rs)) (length a.segments) more)), refused_few ps (taken ns) _ c p)
        go false false e f =
            let fits : length a.segments ≤ min (length rs) 2048 = omega (arith, ltb-false (length ps) (length a.segments) f) in
            let room : length a.segments ≤ length (parts rs) = omega (arith, length-map rs part_of) in
            let t = written_to fits (q ∙ all_fit a text ps c e f) in
            (t.0 ∙ sym (all_fit a text (parts rs) c e (le-ltb (length (parts rs)) (length a.segments) room)), t.1)

  -- THE LAW: what is packed meets the definition's relation
  pub packs : (ns₀ : List ℕ) → 4 * min (length rs) 2048 ≤ length ns₀ → 4 * min (length rs) 2048 ≤ length ns → ReadsIn g s text (length rs) ns₀ scratch r o ns z → Packed g s text rs scratch r o ns z
  packs ns₀ long₀ long f = go f.reads
    where
      size : length (taken ns₀) ≡ min (length rs) 2048
      size = taken_length (min (length rs) 2048) ns₀ (omega arith)

      go : Reads g s text (taken ns₀) scratch (read_of r o (taken ns) z) → Packed g s text rs scratch r o ns z
      go (refuses e p q) = record { reads = refuses e p (refused_to (taken ns₀) (taken ns) e scratch q); few = refused_few (taken ns₀) (taken ns) e scratch q }
      go (looks p (shown a x q)) =
          let t = labelled_to long (taken ns₀) size a x (zeroed scratch) q in
          record { reads = looks p (shown a x t.0); few = t.1 }
      go (looks p (shows_none n q)) =
          record {
            reads = looks p (shows_none n (refused_to (taken ns₀) (taken ns) (refusal 14 0 0) (zeroed scratch) q));
            few = refused_few (taken ns₀) (taken ns) (refusal 14 0 0) (zeroed scratch) q;
          }
