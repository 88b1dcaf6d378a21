-- All segments of a list of bits, and what follows them: what is written is read, and what is read was written.
-- Assumes nothing.
use Prim.Native.Nat.{ℕ, zero, suc, ◌+◌, ◌-◌, ◌*◌, ◌^◌, ◌≤◌, ◌<◌}
use Rattle.std.specs.Prelude.{Bool, true, false, cond, ◌≡◌, T, leb, drop, Ok, Err}
use Rattle.std.proofs.Math.Path.{refl, sym, ap, subst}
use Rattle.std.proofs.Common.{ap₂, ◌∙◌, ltb→lt, lt→ltb, pow_pos, leb-true, length-drop}
use mathlib.Core.List.{List, [], ◌∷◌, ◌++◌, append_assoc}
use native.Mathlib.Omega.{arith}
use Rattle.std.proofs.Math.Dec.{ltb}
use Rattle.std.proofs.Math.ListN.{length, length-append}
use Rattle.standard.specs.Numbers.{every}
use Rattle.standard.specs.Bits.{bits}
use Rattle.standard.specs.Kinds.{count_width}
use Rattle.standard.specs.Segments.{Segment, good_segment, segment_bits, stream, lengths_fit}
use Rattle.laws.specs.Tests.{and_left, and_right, and_pair}
use Rattle.bits.specs.Fields.{field, Binary, field_hit}
use Rattle.segments.specs.Payload.{segment}
use Rattle.segments.specs.Ends.{end_width}
use Rattle.parser.specs.Faults.{Ends}
use Rattle.parser.specs.Steps.{Step, Found, End, Fault, step_by, step_at, step_complete, FoundStep}
use Rattle.parser.specs.Stepped.{found, step_sound, WroteStep}
use Rattle.parser.specs.Tail.{fill_bits, tail_bits, tail_at, tail_complete, tail_sound}

pub data Parsed : Type 0 where
  read : List Segment → Parsed
  -- the bit at which the first faulty field begins
  bad : ℕ → Parsed

abbrev pub more : Segment → Parsed → Parsed
more s (read ss) = read (s ∷ ss)
more s (bad b) = bad b

abbrev pub ended : Ends → Parsed
ended (Ok e) = read []
ended (Err f) = bad f.bit

-- f bounds the count of segments
unfoldable pub parse_from : ℕ → List ℕ → ℕ → ℕ → Parsed
parse_from v u zero at = bad at
parse_from v u (suc f) at =
    elim (step_at v u at) [
      | Found k p n a e ↦ more (found u k p n a) (parse_from v u f e)
      | End ↦ ended (tail_at u at)
      | Fault b ↦ bad b
    ]

abbrev pub after : ℕ → List ℕ → ℕ → ℕ → Step → Parsed
after v u f at (Found k p n a e) = more (found u k p n a) (parse_from v u f e)
after v u f at End = ended (tail_at u at)
after v u f at (Fault b) = bad b

pub parse_step : (v : ℕ) (u : List ℕ) (f at : ℕ) (s : Step) → step_at v u at ≡ s → parse_from v u (suc f) at ≡ after v u f at s
unfolding parse_from
parse_step v u f at s e = split (step_at v u at) ∙ ap (after v u f at) e
  where
    split : (t : Step) → elim t as (λ _. Parsed) [ Found k p n a e ↦ more (found u k p n a) (parse_from v u f e) | End ↦ ended (tail_at u at) | Fault b ↦ bad b ] ≡ after v u f at t
    split (Found k p n a e) = refl
    split End = refl
    split (Fault b) = refl

-- ---- what is written is read
step_end : (v : ℕ) (u : List ℕ) (at : ℕ) → drop at u ≡ tail_bits (length u) at → step_at v u at ≡ End
unfolding step_at step_by tail_bits
step_end v u at e = go (leb (at + 4) (length u)) refl
  where
    go : (t : Bool) → leb (at + 4) (length u) ≡ t → cond t (step_by v u at (field u at 4)) End ≡ End
    go true q =
        let room : at + 4 ≤ length u = leb-true (at + 4) (length u) q in
        let four : end_width (length u) at ≡ 4 = omega arith in
        ap (step_by v u at)
        (field_hit u at 4 0 (fill_bits (length u) (at + end_width (length u) at))
        (e ∙ ap (λ (w : ℕ). bits w 0 ++ fill_bits (length u) (at + end_width (length u) at)) four) (pow_pos 4))
    go false q = refl

-- a part that has been read is as long as its bits
spent : (u : List ℕ) (at end : ℕ) (bs : List ℕ) → at ≤ end → end ≤ length u → drop at u ≡ bs ++ drop end u → end ≡ at + length bs
spent u at end bs l h e =
    let q : length u - at ≡ length bs + (length u - end)
    = sym (length-drop at u) ∙ ap length e ∙ length-append bs (drop end u) ∙ ap (λ (k : ℕ). length bs + k) (length-drop end u) in
    omega arith

pub parse_complete : (v : ℕ) (u : List ℕ) (ss : List Segment) (f at : ℕ) → T (every good_segment ss) → T (lengths_fit v ss) → length ss < f → at ≤ length u
    → drop at u ≡ stream v ss ++ tail_bits (length u) (at + length (stream v ss)) → parse_from v u f at ≡ read ss
unfolding stream lengths_fit
parse_complete v u [] zero at g l h a e = absurd (omega arith)
parse_complete v u [] (suc f) at g l h a e =
    let z : at + 0 ≡ at = omega arith in
    let t : drop at u ≡ tail_bits (length u) at = e ∙ ap (tail_bits (length u)) z in
    let done : (end : ℕ) × (tail_at u at ≡ Ok end) = tail_complete u at a t in
    parse_step v u f at End (step_end v u at t) ∙ ap ended done.1
parse_complete v u (s ∷ ss) zero at g l h a e = absurd (omega arith)
parse_complete v u (s ∷ ss) (suc f) at g l h a e =
    let tail : List ℕ = tail_bits (length u) (at + length (segment_bits v s ++ stream v ss)) in
    let r : List ℕ = stream v ss ++ tail in
    let s1 : drop at u ≡ segment_bits v s ++ r = e ∙ append_assoc (segment_bits v s) (stream v ss) tail in
    let short : Segment → Bool = λ x. ltb (length x.chars) (2 ^ count_width v x.kind) in
    let st : FoundStep v u at s r
    = step_complete v u at a s r (and_left (good_segment s) (every good_segment ss) g) (ltb→lt (length s.chars) (2 ^ count_width v s.kind) (and_left (short s) (every short ss) l)) s1 in
    let end : ℕ = st.end in
    let long : end ≡ at + length (segment_bits v s)
    = spent u at end (segment_bits v s) (omega (arith, st.low)) st.high (s1 ∙ ap (λ (l : List ℕ). segment_bits v s ++ l) (sym st.rest)) in
    let same : at + length (segment_bits v s ++ stream v ss) ≡ end + length (stream v ss) = omega (arith, length-append (segment_bits v s) (stream v ss)) in
    let ih : parse_from v u f end ≡ read ss
    = parse_complete v u ss f end (and_right (good_segment s) (every good_segment ss) g) (and_right (short s) (every short ss) l) (omega arith) st.high (st.rest ∙ ap (λ (k : ℕ). stream v ss ++ tail_bits (length u) k) same) in
    parse_step v u f at (Found s.kind st.start (length s.chars) s.assign end) st.steps
    ∙ ap₂ (λ (cs : List ℕ) (p : Parsed). more (segment s.kind cs s.assign) p) st.chars ih

-- ---- what is read was written
pub record Wrote (v : ℕ) (u : List ℕ) (at : ℕ) (ss : List Segment) : Type 0 where
  pub goods : T (every good_segment ss)
  pub short : T (lengths_fit v ss)
  pub bits : drop at u ≡ stream v ss ++ tail_bits (length u) (at + length (stream v ss))
  pub high : at + length (stream v ss) ≤ length u

pub same_list : (a b : List Segment) → ◌≡◌ {A = Parsed} (read a) (read b) → a ≡ b
same_list a b e = cc

not_bad : {A : Type 0} (b : ℕ) (ss : List Segment) → ◌≡◌ {A = Parsed} (bad b) (read ss) → A
not_bad b ss e = let z : ◌≡◌ {A = ℕ} 0 1 = cc in absurd (omega arith)

module _ (v : ℕ) (u : List ℕ) (q : ℕ) (b : Binary u) (l : length u ≡ 8 * q) where
  wrote_end : (at : ℕ) (ss : List Segment) (g : Ends) → at ≤ length u → tail_at u at ≡ g → ended g ≡ read ss → Wrote v u at ss
  unfolding stream lengths_fit
  wrote_end at ss (Ok e) a t r =
      let z : at ≡ at + 0 = omega arith in
      let none : Wrote v u at []
      = record { goods = tt; short = tt; bits = tail_sound u q at e b l a t ∙ ap (tail_bits (length u)) z; high = omega arith } in
      subst (Wrote v u at) (same_list [] ss r) none
  wrote_end at ss (Err f) a t r = not_bad f.bit ss r

  wrote_more : (at end : ℕ) (s : Segment) (ss : List Segment) → WroteStep v u at s end → Wrote v u end ss → Wrote v u at (s ∷ ss)
  unfolding stream lengths_fit
  wrote_more at end s ss w r =
      let long : end ≡ at + length (segment_bits v s) = spent u at end (segment_bits v s) (omega (arith, w.low)) w.high w.bits in
      let same : end + length (stream v ss) ≡ at + length (segment_bits v s ++ stream v ss) = omega (arith, length-append (segment_bits v s) (stream v ss)) in
      record {
        goods = and_pair (good_segment s) (every good_segment ss) w.good r.goods;
        short = and_pair (ltb (length s.chars) (2 ^ count_width v s.kind)) (every (λ x. ltb (length x.chars) (2 ^ count_width v x.kind)) ss)
            (lt→ltb (length s.chars) (2 ^ count_width v s.kind) w.short) r.short;
        bits = w.bits
            ∙ ap (λ (x : List ℕ). segment_bits v s ++ x) r.bits
            ∙ sym (append_assoc (segment_bits v s) (stream v ss) (tail_bits (length u) (end + length (stream v ss))))
            ∙ ap (λ (k : ℕ). segment_bits v s ++ stream v ss ++ tail_bits (length u) k) same;
        high = omega (arith, r.high);
      }

  wrote_after : (at end : ℕ) (s : Segment) (ss : List Segment) (p : Parsed) → WroteStep v u at s end
      → ((rest : List Segment) → p ≡ read rest → Wrote v u end rest) → more s p ≡ read ss → Wrote v u at ss
  wrote_after at end s ss (read rest) w ih r = subst (Wrote v u at) (same_list (s ∷ rest) ss r) (wrote_more at end s rest w (ih rest refl))
  wrote_after at end s ss (bad x) w ih r = not_bad x ss r

  wrote_step : (f at : ℕ) (ss : List Segment) (s : Step) → at ≤ length u → step_at v u at ≡ s
      → ((end : ℕ) (rest : List Segment) → end ≤ length u → parse_from v u f end ≡ read rest → Wrote v u end rest)
      → after v u f at s ≡ read ss → Wrote v u at ss
  wrote_step f at ss (Found k p n a e) h q ih r =
      let w : WroteStep v u at (found u k p n a) e = step_sound v u at k p n a e b q in
      wrote_after at e (found u k p n a) ss (parse_from v u f e) w (λ rest t. ih e rest w.high t) r
  wrote_step f at ss End h q ih r = wrote_end at ss (tail_at u at) h refl r
  wrote_step f at ss (Fault x) h q ih r = not_bad x ss r

  pub parse_sound : (f at : ℕ) (ss : List Segment) → at ≤ length u → parse_from v u f at ≡ read ss → Wrote v u at ss
  unfolding parse_from
  parse_sound zero at ss a e = not_bad at ss e
  parse_sound (suc f) at ss a e =
      wrote_step f at ss (step_at v u at) a refl (λ end rest h t. parse_sound f end rest h t)
      (sym (parse_step v u f at (step_at v u at) refl) ∙ e)
