-- One segment: what stands at a bit. What is written is read.
-- Assumes nothing.
use Prim.Native.Nat.{ℕ, zero, suc, ◌+◌, ◌^◌, ◌≤◌, ◌<◌}
use Rattle.std.specs.Prelude.{cond, ◌≡◌, T, leb, eqb, Ok, Err, Result, Option, Some, None}
use Rattle.std.proofs.Math.Path.{refl, ap}
use Rattle.std.proofs.Common.{sym, ap₂, ◌∙◌, subst, arith, lit<, le-leb}
use mathlib.Core.List.{List, [], ◌++◌, append_assoc, append-nil}
use Rattle.std.proofs.Math.ListN.{length, drop}
use Rattle.standard.specs.Numbers.{every}
use Rattle.standard.specs.Bits.{bits}
use Rattle.standard.specs.Kinds.{mode_bits, count_width, allowed, eci_bits}
use Rattle.standard.specs.Segments.{Segment, good_segment, payload, segment_bits}
use Rattle.laws.specs.Tests.{cond_true}
use Rattle.bits.specs.Fields.{field, field_hit, field_rest, field_room}
use Rattle.segments.specs.Runs.{run_bits}
use Rattle.segments.specs.Payload.{segment, payload_run}
use Rattle.types.specs.Numbers.{kind_of}
use Rattle.parser.specs.declared.Fault.{Fault as Faulty}
use Rattle.parser.specs.declared.Segment.{Segment as Segmented}
use Rattle.parser.specs.Faults.{Ends}
use Rattle.parser.specs.Good.{good_cases}
use Rattle.parser.specs.Runs.{run_end, run_chars, run_complete, Found as FoundRun}
use Rattle.parser.specs.Eci.{Number, eci_at, eci_complete, FoundEci}

-- ---- read

-- what stands at a bit: a segment (its kind, the bit at which its payload begins, its count, its ECI number and the bit after it), the end of
-- the segments, or a fault
pub data Step : Type 0 where
  Found : ℕ → ℕ → ℕ → ℕ → ℕ → Step
  End : Step
  Fault : ℕ → Step

abbrev pub from_run : ℕ → ℕ → ℕ → Ends → Step
from_run k p n (Ok e) = Found k p n 0 e
from_run k p n (Err f) = Fault f.bit

abbrev pub from_eci : ℕ → Number → Step
from_eci p (Ok x) = Found 3 p 0 x.assign x.end
from_eci p (Err f) = Fault f.bit

-- characters of the kind k at the bit p, n of them
abbrev pub run_step : List ℕ → ℕ → ℕ → ℕ → Step
run_step u k p n = from_run k p n (run_end k u n p n)

-- mode bits at the bit at, then a count of w bits
unfoldable pub text_step : ℕ → List ℕ → ℕ → ℕ → Step
text_step w u at k = cond (leb (at + 4 + w) (length u)) (run_step u k (at + 4 + w) (field u (at + 4) w)) (Fault (at + 4))

unfoldable pub step_by : ℕ → List ℕ → ℕ → ℕ → Step
step_by v u at m =
    cond (eqb m 0) End
    (cond (eqb m 1) (text_step (count_width v 0) u at 0)
    (cond (eqb m 2) (text_step (count_width v 1) u at 1)
    (cond (eqb m 4) (text_step (count_width v 2) u at 2)
    (cond (eqb m 7) (from_eci (at + 4) (eci_at u (at + 4))) (Fault at)))))

-- with fewer than four bits left the data end
unfoldable pub step_at : ℕ → List ℕ → ℕ → Step
step_at v u at = cond (leb (at + 4) (length u)) (step_by v u at (field u at 4)) End

-- what the code answers: a segment that it found, or that may be none
abbrev pub found_of : Result Segmented Faulty → Step
found_of (Ok s) = Found (kind_of s.mode) s.start s.count s.assign s.end
found_of (Err f) = Fault f.bit

abbrev pub step_of : Result (Option Segmented) Faulty → Step
step_of (Ok (Some s)) = Found (kind_of s.mode) s.start s.count s.assign s.end
step_of (Ok None) = End
step_of (Err f) = Fault f.bit

-- ---- the definition's bits

pub text_bits : (v k : ℕ) (cs : List ℕ) (n : ℕ) (r : List ℕ) → k < 3
    → segment_bits v (segment k cs n) ++ r ≡ bits 4 (mode_bits k) ++ (bits (count_width v k) (length cs) ++ (run_bits k (length cs) (length cs) cs ++ r))
unfolding segment_bits
text_bits v k cs n r h =
    append_assoc (bits 4 (mode_bits k) ++ bits (count_width v k) (length cs)) (payload (segment k cs n)) r
    ∙ append_assoc (bits 4 (mode_bits k)) (bits (count_width v k) (length cs)) (payload (segment k cs n) ++ r)
    ∙ ap (λ (l : List ℕ). bits 4 (mode_bits k) ++ (bits (count_width v k) (length cs) ++ (l ++ r))) (payload_run k cs n h)

pub eci_bits_lem : (v n : ℕ) (r : List ℕ) → segment_bits v (segment 3 [] n) ++ r ≡ bits 4 7 ++ (eci_bits n ++ r)
unfolding segment_bits payload bits
eci_bits_lem v n r =
    append_assoc (bits 4 7 ++ []) (eci_bits n) r
    ∙ ap (λ (l : List ℕ). l ++ (eci_bits n ++ r)) (append-nil (bits 4 7))

-- ---- what is written is read
pub record FoundStep (v : ℕ) (u : List ℕ) (at : ℕ) (s : Segment) (r : List ℕ) : Type 0 where
  pub start : ℕ
  pub end : ℕ
  pub steps : step_at v u at ≡ Found s.kind start (length s.chars) s.assign end
  pub chars : run_chars s.kind u (length s.chars) start (length s.chars) ≡ s.chars
  pub rest : drop end u ≡ r
  pub low : at < end
  pub high : end ≤ length u

mode_lt : (k : ℕ) → mode_bits k < 16
mode_lt zero = lit< tt
mode_lt (suc zero) = lit< tt
mode_lt (suc (suc zero)) = lit< tt
mode_lt (suc (suc (suc k))) = lit< tt

by_mode : (v : ℕ) (u : List ℕ) (at k : ℕ) → k < 3 → step_by v u at (mode_bits k) ≡ text_step (count_width v k) u at k
unfolding step_by
by_mode v u at zero h = refl
by_mode v u at (suc zero) h = refl
by_mode v u at (suc (suc zero)) h = refl
by_mode v u at (suc (suc (suc k))) h = absurd (omega arith)

module _ (v : ℕ) (u : List ℕ) (at : ℕ) (a : at ≤ length u) where
  text_complete : (k : ℕ) (cs r : List ℕ) → k < 3 → T (every (allowed k) cs) → length cs < 2 ^ count_width v k
      → drop at u ≡ segment_bits v (segment k cs 0) ++ r → FoundStep v u at (segment k cs 0) r
  unfolding step_at text_step
  text_complete k cs r h g f e =
      let w : ℕ = count_width v k in
      let n : ℕ = length cs in
      let more : List ℕ = run_bits k n n cs ++ r in
      let s : drop at u ≡ bits 4 (mode_bits k) ++ (bits w n ++ more) = e ∙ text_bits v k cs 0 r h in
      let room : at + 4 ≤ length u = field_room u at 4 (mode_bits k) (bits w n ++ more) s a in
      let mode : field u at 4 ≡ mode_bits k = field_hit u at 4 (mode_bits k) (bits w n ++ more) s (mode_lt k) in
      let s2 : drop (at + 4) u ≡ bits w n ++ more = field_rest u at 4 (mode_bits k) (bits w n ++ more) s in
      let room2 : at + 4 + w ≤ length u = field_room u (at + 4) w n more s2 room in
      let count : field u (at + 4) w ≡ n = field_hit u (at + 4) w n more s2 f in
      let s3 : drop (at + 4 + w) u ≡ run_bits k n n cs ++ r = field_rest u (at + 4) w n more s2 in
      let run : FoundRun k u n (at + 4 + w) n cs r = run_complete k u n (at + 4 + w) n cs r refl (omega arith) g room2 s3 in
      record {
        start = at + 4 + w;
        end = run.end;
        steps = cond_true _ (step_by v u at (field u at 4)) End (le-leb (at + 4) (length u) room)
            ∙ ap (step_by v u at) mode
            ∙ by_mode v u at k h
            ∙ cond_true _ (run_step u k (at + 4 + w) (field u (at + 4) w)) (Fault (at + 4)) (le-leb (at + 4 + w) (length u) room2)
            ∙ ap (run_step u k (at + 4 + w)) count
            ∙ ap (from_run k (at + 4 + w) n) run.ends;
        chars = run.chars;
        rest = run.rest;
        low = omega (arith, run.low);
        high = run.high;
      }

  eci_step : (n : ℕ) (r : List ℕ) → n < 1_000_000 → drop at u ≡ segment_bits v (segment 3 [] n) ++ r → FoundStep v u at (segment 3 [] n) r
  unfolding step_at step_by run_chars
  eci_step n r h e =
      let s : drop at u ≡ bits 4 7 ++ (eci_bits n ++ r) = e ∙ eci_bits_lem v n r in
      let room : at + 4 ≤ length u = field_room u at 4 7 (eci_bits n ++ r) s a in
      let mode : field u at 4 ≡ 7 = field_hit u at 4 7 (eci_bits n ++ r) s (lit< tt) in
      let s2 : drop (at + 4) u ≡ eci_bits n ++ r = field_rest u at 4 7 (eci_bits n ++ r) s in
      let num : FoundEci u (at + 4) n r = eci_complete u (at + 4) n r room s2 h in
      record {
        start = at + 4;
        end = num.end;
        steps = cond_true _ (step_by v u at (field u at 4)) End (le-leb (at + 4) (length u) room)
            ∙ ap (step_by v u at) mode
            ∙ ap (from_eci (at + 4)) num.ends;
        chars = refl;
        rest = num.rest;
        low = omega (arith, num.low);
        high = num.high;
      }

  pub step_complete : (s : Segment) (r : List ℕ) → T (good_segment s) → length s.chars < 2 ^ count_width v s.kind
      → drop at u ≡ segment_bits v s ++ r → FoundStep v u at s r
  step_complete s r g f e =
      good_cases s g
      (λ h z t.
      let q : segment s.kind s.chars 0 ≡ s = ap (segment s.kind s.chars) (sym z) in
      subst (λ (x : Segment). FoundStep v u at x r) q
      (text_complete s.kind s.chars r h t f (e ∙ ap (λ (x : Segment). segment_bits v x ++ r) (sym q))))
      (λ h z l.
      let q : segment 3 [] s.assign ≡ s = ap₂ (λ (k : ℕ) (cs : List ℕ). segment k cs s.assign) (sym h) (sym z) in
      subst (λ (x : Segment). FoundStep v u at x r) q
      (eci_step s.assign r l (e ∙ ap (λ (x : Segment). segment_bits v x ++ r) (sym q))))
