-- A good segment, by its two cases: characters of its kind, or an ECI number.
-- Assumes nothing.
use Rattle.std.specs.Prelude.{ℕ, ◌<◌, Bool, true, false, cond, ◌&&◌, ◌≡◌, refl, List, [], ◌∷◌, T, ltb, eqb, length}
use Rattle.std.proofs.Common.{sym, subst, arith, ltb→lt, lt→ltb, eqb→eq, eqb-true, ne_eqb}
use Rattle.standard.specs.Numbers.{every}
use Rattle.standard.specs.Kinds.{allowed}
use Rattle.standard.specs.Segments.{Segment, good_segment}
use Rattle.laws.specs.Tests.{and_left, and_right, and_pair, cond_false}
use Rattle.segments.specs.Payload.{segment}

no_chars : (cs : List ℕ) → length cs ≡ 0 → cs ≡ []
no_chars [] e = refl
no_chars (c ∷ cs) e = absurd (omega arith)

pub good_cases : {P : Type 0} (s : Segment) → T (good_segment s)
    → (s.kind < 3 → s.assign ≡ 0 → T (every (allowed s.kind) s.chars) → P)
    → (s.kind ≡ 3 → s.chars ≡ [] → s.assign < 1_000_000 → P) → P
unfolding good_segment
good_cases {P} s t text eci = go (eqb s.kind 3) refl t
  where
    A : Bool
    A = eqb s.assign 0

    E : Bool
    E = every (allowed s.kind) s.chars

    N : Bool
    N = eqb (length s.chars) 0

    L : Bool
    L = ltb s.assign 1_000_000

    go : (b : Bool) → eqb s.kind 3 ≡ b → T (cond b (N && L) (ltb s.kind 3 && (A && E))) → P
    go true q t =
        eci (eqb-true s.kind 3 q) (no_chars s.chars (eqb→eq (length s.chars) 0 (and_left N L t))) (ltb→lt s.assign 1_000_000 (and_right N L t))
    go false q t =
        let r : T (A && E) = and_right (ltb s.kind 3) (A && E) t in
        text (ltb→lt s.kind 3 (and_left (ltb s.kind 3) (A && E) t)) (eqb→eq s.assign 0 (and_left A E r)) (and_right A E r)

pub good_text : (k : ℕ) (cs : List ℕ) → k < 3 → T (every (allowed k) cs) → T (good_segment (segment k cs 0))
unfolding good_segment
good_text k cs h t =
    let other : eqb k 3 ≡ false = ne_eqb k 3 (λ (e : k ≡ 3). omega arith) in
    subst T (sym (cond_false (eqb k 3) (eqb (length cs) 0 && ltb 0 1_000_000) (ltb k 3 && every (allowed k) cs) other))
    (and_pair (ltb k 3) (every (allowed k) cs) (lt→ltb k 3 h) t)

pub good_eci : (n : ℕ) → n < 1_000_000 → T (good_segment (segment 3 [] n))
unfolding good_segment
good_eci n h = lt→ltb n 1_000_000 h
