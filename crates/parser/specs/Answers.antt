-- What the answer of the counting pass says of the codewords: they are those of one list that is good and fits, or of none.
-- Assumes nothing.
use Rattle.std.specs.Prelude.{ℕ, ◌≡◌, refl, List, T, length, Ok, Err}
use Rattle.std.proofs.Common.{sym, ap, ◌∙◌}
use Rattle.standard.specs.Numbers.{every}
use Rattle.standard.specs.Sizes.{data_codewords}
use Rattle.standard.specs.Segments.{Segment, good_segment, fits}
use Rattle.standard.specs.Codewords.{data_words}
use Rattle.standard.specs.Field.{Bytes}
use Rattle.parser.specs.declared.Fault.{Fault}
use Rattle.parser.specs.declared.Counts.{Counts}
use Rattle.parser.specs.Faults.{fault}
use Rattle.parser.specs.Parse.{Parsed, read, bad}
use Rattle.parser.specs.Theorems.{parse, parse_encoded, parse_only, Encoded}
use Rattle.parser.specs.Counts.{Counted, count_of, counted, text_length}

same_counts : (a b : ℕ) (c : Counts) → ◌≡◌ {A = Counted} (count_of a b) (Ok c) → (a ≡ c.records) × (b ≡ c.text)
same_counts a b c e =
    let k : record { records = a; text = b } ≡ c = cc in
    (ap (λ (x : Counts). x.records) k, ap (λ (x : Counts). x.text) k)

no_read : {A : Type 0} (f : Fault) (c : Counts) → ◌≡◌ {A = Counted} (Err f) (Ok c) → A
no_read f c e = cc

-- the segments that were parsed, and that the codewords are theirs
pub record Accepted (v l : ℕ) (ws : List ℕ) (r t : ℕ) : Type 0 where
  pub segments : List Segment
  pub parsed : parse v ws ≡ read segments
  pub encoded : Encoded v l ws segments
  pub records : r ≡ length segments
  pub text : t ≡ text_length segments

module _ (v l : ℕ) (ws : List ℕ) (hb : Bytes ws) (hl : length ws ≡ data_codewords v l) (c : Counts) where
  by_parse : (p : Parsed) → parse v ws ≡ p → counted p ≡ Ok c → Accepted v l ws c.records c.text
  by_parse (read ss) e q =
      record {
        segments = ss;
        parsed = e;
        encoded = parse_only v l ws ss hb hl e;
        records = sym (same_counts (length ss) (text_length ss) c q).0;
        text = sym (same_counts (length ss) (text_length ss) c q).1;
      }
  by_parse (bad b) e q = no_read (fault b) c q

  pub accepted : counted (parse v ws) ≡ Ok c → Accepted v l ws c.records c.text
  accepted q = by_parse (parse v ws) refl q

-- where a fault is found, no list that is good and fits has these codewords
pub refused : (v l : ℕ) (ws : List ℕ) (f : Fault) → counted (parse v ws) ≡ Err f → (ss : List Segment) → T (every good_segment ss) → T (fits l ss v)
    → ws ≡ data_words v l ss → ⊥
refused v l ws x q ss g f e = no_read x (record { records = length ss; text = text_length ss }) (sym q ∙ ap (λ (y : List ℕ). counted (parse v y)) e ∙ ap counted (parse_encoded v l ss g f))
