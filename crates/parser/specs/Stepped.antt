-- One segment: what is read was written.
-- Assumes nothing.
use Prim.Native.Nat.{ℕ, ◌+◌, ◌^◌, ◌≤◌, ◌<◌}
use Rattle.std.specs.Prelude.{cond, ◌≡◌, T, leb, eqb, drop, Ok, Err}
use Rattle.std.proofs.Math.Path.{refl, sym, ap₂, subst}
use Rattle.std.proofs.Common.{ap, ◌∙◌, arith, leb-true, eqb-true}
use mathlib.Core.List.{List, ◌++◌}
use Rattle.std.proofs.Math.Dec.{lit<}
use Rattle.std.proofs.Math.ListN.{length}
use Rattle.standard.specs.Bits.{bits}
use Rattle.standard.specs.Kinds.{mode_bits, count_width}
use Rattle.standard.specs.Segments.{Segment, good_segment, segment_bits}
use Rattle.bits.specs.Fields.{field, Binary, field_split, field_lt}
use Rattle.segments.specs.Runs.{run_bits}
use Rattle.segments.specs.Payload.{segment}
use Rattle.parser.specs.Faults.{Ends}
use Rattle.parser.specs.Choices.{cond_inv}
use Rattle.parser.specs.Good.{good_text, good_eci}
use Rattle.parser.specs.Runs.{run_end, run_chars, run_sound, run_length, Wrote}
use Rattle.parser.specs.Eci.{Number, value, eci_at, eci_sound, WroteEci}
use Rattle.parser.specs.Steps.{Step, Found, End, Fault, from_run, from_eci, run_step, text_step, step_by, step_at, text_bits, eci_bits_lem}

pub record WroteStep (v : ℕ) (u : List ℕ) (at : ℕ) (s : Segment) (end : ℕ) : Type 0 where
  pub good : T (good_segment s)
  pub short : length s.chars < 2 ^ count_width v s.kind
  pub bits : drop at u ≡ segment_bits v s ++ drop end u
  pub low : at < end
  pub high : end ≤ length u

no_found : {A : Type 0} (b k p n a e : ℕ) → ◌≡◌ {A = Step} (Fault b) (Found k p n a e) → A
no_found b k p n a e q = let z : ◌≡◌ {A = ℕ} 0 1 = cc in absurd (omega arith)

no_found_end : {A : Type 0} (b k p n a e : ℕ) → ◌≡◌ {A = Step} End (Found k p n a e) → A
no_found_end b k p n a e q = let z : ◌≡◌ {A = ℕ} 0 1 = cc in absurd (omega arith)

pub record Same (k p n a e k' p' n' a' e' : ℕ) : Type 0 where
  pub kind : k ≡ k'
  pub start : p ≡ p'
  pub count : n ≡ n'
  pub assign : a ≡ a'
  pub end : e ≡ e'

same_found : (k p n a e k' p' n' a' e' : ℕ) → ◌≡◌ {A = Step} (Found k p n a e) (Found k' p' n' a' e') → Same k p n a e k' p' n' a' e'
same_found k p n a e k' p' n' a' e' q = record { kind = cc; start = cc; count = cc; assign = cc; end = cc }

-- the segment that a step found
abbrev pub found : List ℕ → ℕ → ℕ → ℕ → ℕ → Segment
found u k p n a = segment k (run_chars k u n p n) a

-- what a step that found a segment says
pub record Stepped (v : ℕ) (u : List ℕ) (at k p n a end : ℕ) : Type 0 where
  pub wrote : WroteStep v u at (found u k p n a) end
  pub run : k < 3 → run_end k u n p n ≡ Ok end
  pub place : p ≤ length u

module _ (v : ℕ) (u : List ℕ) (at : ℕ) (b : Binary u) (room : at + 4 ≤ length u) where
  text_wrote : (j end : ℕ) → j < 3 → field u at 4 ≡ mode_bits j → at + 4 + count_width v j ≤ length u
      → run_end j u (field u (at + 4) (count_width v j)) (at + 4 + count_width v j) (field u (at + 4) (count_width v j)) ≡ Ok end
      → WroteStep v u at (found u j (at + 4 + count_width v j) (field u (at + 4) (count_width v j)) 0) end
  text_wrote j end h mode room2 e =
      let w : ℕ = count_width v j in
      let n : ℕ = field u (at + 4) w in
      let p : ℕ = at + 4 + w in
      let cs : List ℕ = run_chars j u n p n in
      let run : Wrote j u n p n end = run_sound j u n p n end h b (omega arith) room2 e in
      let c : length cs ≡ n = run.count in
      record {
        good = good_text j cs h run.goods;
        short = subst (λ (i : ℕ). i < 2 ^ w) (sym c) (field_lt u (at + 4) w b room2);
        bits = field_split u at 4 b room
            ∙ ap₂ (λ (i : ℕ) (l : List ℕ). bits 4 i ++ l) mode (field_split u (at + 4) w b room2)
            ∙ ap (λ (l : List ℕ). bits 4 (mode_bits j) ++ (bits w n ++ l)) run.bits
            ∙ ap (λ (i : ℕ). bits 4 (mode_bits j) ++ (bits w i ++ (run_bits j i i cs ++ drop end u))) (sym c)
            ∙ sym (text_bits v j cs 0 (drop end u) h);
        low = omega (arith, run.low);
        high = run.high;
      }

  text_sound : (j k p n a end : ℕ) → j < 3 → field u at 4 ≡ mode_bits j → text_step (count_width v j) u at j ≡ Found k p n a end → Stepped v u at k p n a end
  unfolding text_step
  text_sound j k p n a end h mode e =
      let w : ℕ = count_width v j in
      cond_inv (leb (at + 4 + w) (length u)) (run_step u j (at + 4 + w) (field u (at + 4) w)) (Fault (at + 4)) (Found k p n a end) e
      (λ r2 e. by_run (leb-true (at + 4 + w) (length u) r2) (run_end j u (field u (at + 4) w) (at + 4 + w) (field u (at + 4) w)) refl e)
      (λ _ e. no_found (at + 4) k p n a end e)
    where
      by_run : at + 4 + count_width v j ≤ length u → (g : Ends) → run_end j u (field u (at + 4) (count_width v j)) (at + 4 + count_width v j) (field u (at + 4) (count_width v j)) ≡ g
          → from_run j (at + 4 + count_width v j) (field u (at + 4) (count_width v j)) g ≡ Found k p n a end → Stepped v u at k p n a end
      by_run r2 (Ok e) q s =
          let t : Same j (at + 4 + count_width v j) (field u (at + 4) (count_width v j)) 0 e k p n a end = same_found j (at + 4 + count_width v j) (field u (at + 4) (count_width v j)) 0 e k p n a end s in
          let w1 : Stepped v u at j (at + 4 + count_width v j) (field u (at + 4) (count_width v j)) 0 e = record { wrote = text_wrote j e h mode r2 q; run = λ _. q; place = r2 } in
          let w2 : Stepped v u at k (at + 4 + count_width v j) (field u (at + 4) (count_width v j)) 0 e = subst (λ (i : ℕ). Stepped v u at i (at + 4 + count_width v j) (field u (at + 4) (count_width v j)) 0 e) t.kind w1 in
          let w3 : Stepped v u at k p (field u (at + 4) (count_width v j)) 0 e = subst (λ (i : ℕ). Stepped v u at k i (field u (at + 4) (count_width v j)) 0 e) t.start w2 in
          let w4 : Stepped v u at k p n 0 e = subst (λ (i : ℕ). Stepped v u at k p i 0 e) t.count w3 in
          let w5 : Stepped v u at k p n a e = subst (λ (i : ℕ). Stepped v u at k p n i e) t.assign w4 in
          subst (λ (i : ℕ). Stepped v u at k p n a i) t.end w5
      by_run r2 (Err f) q s = no_found f.bit k p n a end s

  eci_wrote : (n end : ℕ) → field u at 4 ≡ 7 → eci_at u (at + 4) ≡ value n end → WroteStep v u at (found u 3 (at + 4) 0 n) end
  unfolding run_chars
  eci_wrote n end mode e =
      let num : WroteEci u (at + 4) n end = eci_sound u (at + 4) n end b e in
      record {
        good = good_eci n num.small;
        short = lit< tt;
        bits = field_split u at 4 b room
            ∙ ap₂ (λ (i : ℕ) (l : List ℕ). bits 4 i ++ l) mode num.bits
            ∙ sym (eci_bits_lem v n (drop end u));
        low = omega (arith, num.low);
        high = num.high;
      }

  eci_step_sound : (k p n a end : ℕ) (g : Number) → field u at 4 ≡ 7 → eci_at u (at + 4) ≡ g → from_eci (at + 4) g ≡ Found k p n a end → Stepped v u at k p n a end
  eci_step_sound k p n a end (Ok x) mode q s =
      let m : ℕ = x.assign in
      let e : ℕ = x.end in
      let t : Same 3 (at + 4) 0 m e k p n a end = same_found 3 (at + 4) 0 m e k p n a end s in
      let w1 : Stepped v u at 3 (at + 4) 0 m e = record { wrote = eci_wrote m e mode q; run = λ l. absurd (omega arith); place = room } in
      let w2 : Stepped v u at k (at + 4) 0 m e = subst (λ (i : ℕ). Stepped v u at i (at + 4) 0 m e) t.kind w1 in
      let w3 : Stepped v u at k p 0 m e = subst (λ (i : ℕ). Stepped v u at k i 0 m e) t.start w2 in
      let w4 : Stepped v u at k p n m e = subst (λ (i : ℕ). Stepped v u at k p i m e) t.count w3 in
      let w5 : Stepped v u at k p n a e = subst (λ (i : ℕ). Stepped v u at k p n i e) t.assign w4 in
      subst (λ (i : ℕ). Stepped v u at k p n a i) t.end w5
  eci_step_sound k p n a end (Err f) mode q s = no_found f.bit k p n a end s

pub step_all : (v : ℕ) (u : List ℕ) (at k p n a end : ℕ) → Binary u → step_at v u at ≡ Found k p n a end → Stepped v u at k p n a end
unfolding step_at step_by
step_all v u at k p n a end b e =
    let m : ℕ = field u at 4 in
    let last : Step = cond (eqb m 7) (from_eci (at + 4) (eci_at u (at + 4))) (Fault at) in
    let third : Step = cond (eqb m 4) (text_step (count_width v 2) u at 2) last in
    let second : Step = cond (eqb m 2) (text_step (count_width v 1) u at 1) third in
    let first : Step = cond (eqb m 1) (text_step (count_width v 0) u at 0) second in
    cond_inv (leb (at + 4) (length u)) (step_by v u at m) End (Found k p n a end) e
    (λ r e.
    let room : at + 4 ≤ length u = leb-true (at + 4) (length u) r in
    cond_inv (eqb m 0) End first (Found k p n a end) e
    (λ _ e. no_found_end at k p n a end e)
    (λ _ e.
    cond_inv (eqb m 1) (text_step (count_width v 0) u at 0) second (Found k p n a end) e
    (λ q e. text_sound v u at b room 0 k p n a end (omega arith) (eqb-true m 1 q) e)
    (λ _ e.
    cond_inv (eqb m 2) (text_step (count_width v 1) u at 1) third (Found k p n a end) e
    (λ q e. text_sound v u at b room 1 k p n a end (omega arith) (eqb-true m 2 q) e)
    (λ _ e.
    cond_inv (eqb m 4) (text_step (count_width v 2) u at 2) last (Found k p n a end) e
    (λ q e. text_sound v u at b room 2 k p n a end (omega arith) (eqb-true m 4 q) e)
    (λ _ e.
    cond_inv (eqb m 7) (from_eci (at + 4) (eci_at u (at + 4))) (Fault at) (Found k p n a end) e
    (λ q e. eci_step_sound v u at b room k p n a end (eci_at u (at + 4)) (eqb-true m 7 q) refl e)
    (λ _ e. no_found at k p n a end e))))))
    (λ _ e. no_found_end at k p n a end e)

pub step_sound : (v : ℕ) (u : List ℕ) (at k p n a end : ℕ) → Binary u → step_at v u at ≡ Found k p n a end → WroteStep v u at (found u k p n a) end
step_sound v u at k p n a end b e = (step_all v u at k p n a end b e).wrote

-- a segment has as many characters as its count says
pub chars_count : (v : ℕ) (u : List ℕ) (at k p n a end : ℕ) → Binary u → step_at v u at ≡ Found k p n a end → length (run_chars k u n p n) ≡ n
chars_count v u at k p n a end b e = run_length k u n p n (omega arith)
