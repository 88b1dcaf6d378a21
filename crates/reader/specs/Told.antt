-- What data codewords say: the list of segments whose codewords they are, or that there is none.
-- Assumes nothing.
use Rattle.std.specs.Prelude.{ℕ, ◌*◌, ◌/◌, ◌≤◌, ◌<◌, List, ◌++◌, ◌≡◌, refl, T, Ok, Err}
use Rattle.std.proofs.Common.{arith, ◌∙◌}
use Rattle.std.proofs.Math.Path.{sym, ap}
use Rattle.std.proofs.Math.ListN.{length, drop}
use borrow.Author.Tests.{lt-ltb, le-ltb}
use Rattle.standard.specs.Numbers.{every}
use Rattle.standard.specs.Sizes.{data_codewords}
use Rattle.standard.specs.Segments.{Part, Segment, good_segment, fits}
use Rattle.standard.specs.Codewords.{data_words}
use Rattle.standard.specs.Field.{Bytes}
use Rattle.standard.specs.Plan.{refusal}
use Rattle.parser.specs.declared.Fault.{Fault}
use Rattle.parser.specs.declared.Counts.{Counts}
use Rattle.parser.specs.Parse.{Parsed}
use Rattle.parser.specs.Theorems.{parse, Encoded}
use Rattle.parser.specs.Counts.{Counted, counted}
use Rattle.parser.specs.Written.{text_after, records_after, length_characters}
use Rattle.parser.specs.Answers.{Accepted, accepted, refused}
use Rattle.standard.specs.Read.{read_as, Read, refuse_to, characters, records_from, written, labelled}
use Rattle.reader.specs.Answers.{Outcome, read_of}
use Rattle.reader.specs.Labels.{label_of}
use Rattle.segments.specs.Records.{parts_of, parts_length}
use Rattle.reader.specs.Numbers.{Rest, parts_after, rest_after}
use Rattle.reader.specs.Redraw.{records_length}

pub data Told (v l m : ℕ) (ws text : List ℕ) (records : List Part) (z : List ℕ) (out : Read) : Type 0 where
  says : (ss : List Segment) → Encoded v l ws ss → out ≡ labelled (label_of v l m ss) text records z → Told v l m ws text records z out
  silent : ((ss : List Segment) → T (every good_segment ss) → T (fits l ss v) → ws ≡ data_words v l ss → ⊥)
      → out ≡ refuse_to (refusal 14 0 0) text records z → Told v l m ws text records z out

-- whatever scratch holds at the return
pub record Tells (v l m : ℕ) (ws text records : List ℕ) (r : Outcome) (o q : List ℕ) : Type 0 where
  pub at : (z : List ℕ) → Told v l m ws text (parts_of records) z (read_of r o (parts_of q) z)
  pub rest : Rest records q

module _ (v l m : ℕ) (ws text records z : List ℕ) (c : Counted) (is : c ≡ counted (parse v ws)) where
  pub told_bad : (f : Fault) → c ≡ Err f → Told v l m ws text (parts_of records) z (refuse_to (refusal 14 0 0) text (parts_of records) z)
  told_bad f e = silent (refused v l ws f (sym is ∙ e)) refl

  module _ (hb : Bytes ws) (hl : length ws ≡ data_codewords v l) (n : Counts) (was : c ≡ Ok n) where
    abbrev r : ℕ
    r = n.records

    abbrev t : ℕ
    t = n.text

    A : Accepted v l ws n.records n.text
    A = accepted v l ws hb hl n (sym is ∙ was)

    long : t ≡ length (characters A.segments)
    long = A.text ∙ sym (length_characters A.segments)

    pub told_text : length text < t → Told v l m ws text (parts_of records) z (refuse_to (refusal 15 t 0) text (parts_of records) z)
    unfolding labelled
    told_text h = says A.segments A.encoded (sym (to_text h))
      where
        to_text : length text < t → labelled (label_of v l m A.segments) text (parts_of records) z ≡ refuse_to (refusal 15 t 0) text (parts_of records) z
        to_text h = rw (← long, lt-ltb (length text) t h)

    pub told_records : t ≤ length text → length records / 4 < r → Told v l m ws text (parts_of records) z (refuse_to (refusal 16 r 0) text (parts_of records) z)
    unfolding labelled
    told_records h k = says A.segments A.encoded (sym (to_records h k))
      where
        to_records : t ≤ length text → length records / 4 < r → labelled (label_of v l m A.segments) text (parts_of records) z ≡ refuse_to (refusal 16 r 0) text (parts_of records) z
        to_records h k = rw (← long, le-ltb (length text) t h, ← A.records, parts_length records, lt-ltb (length records / 4) r k)

    pub told_rest : r ≤ length records / 4 → (q : List ℕ) → q ≡ records_after (parse v ws) records → Rest records q
    told_rest k q f =
        ap (drop (4 * (length records / 4))) (f ∙ ap (λ (p : Parsed). records_after p records) A.parsed)
        ∙ rest_after (length A.segments) (records_from 0 A.segments) records (records_length 0 A.segments) (omega (arith, A.records))

    pub told_written : t ≤ length text → r ≤ length records / 4 → (o q : List ℕ) → o ≡ text_after (parse v ws) text → q ≡ records_after (parse v ws) records
        → Told v l m ws text (parts_of records) z (record { answer = read_as v l m r t; text = o; records = parts_of q; scratch = z })
    unfolding labelled written
    told_written h k o q e f = says A.segments A.encoded (sym to_label)
      where
        texts : characters A.segments ++ drop (length (characters A.segments)) text ≡ o
        texts =
            ap (λ (n : ℕ). characters A.segments ++ drop n text) (length_characters A.segments)
            ∙ sym (e ∙ ap (λ (p : Parsed). text_after p text) A.parsed)

        lists : records_from 0 A.segments ++ drop (length A.segments) (parts_of records) ≡ parts_of q
        lists =
            sym (ap parts_of (f ∙ ap (λ (p : Parsed). records_after p records) A.parsed) ∙ parts_after (length A.segments) (records_from 0 A.segments) records (records_length 0 A.segments) (omega (arith, A.records)))

        to_label : labelled (label_of v l m A.segments) text (parts_of records) z ≡ record { answer = read_as v l m r t; text = o; records = parts_of q; scratch = z }
        to_label = rw (texts, lists, ← long, le-ltb (length text) t h, ← A.records, parts_length records, le-ltb (length records / 4) r k)
