-- The records of a list of segments over the text of its characters joined: their starts run on from 0, and an ECI record has start 0.
-- Document 01, "Refusal table" (an accepted reading). Assumes nothing.
use Rattle.std.specs.Prelude.{ℕ, ◌+◌, Bool, false, cond, ◌&&◌, ◌≡◌, refl, List, [], ◌∷◌, ◌++◌, T, leb, ltb, eqb, length, take, drop}
use Rattle.std.proofs.Common.{sym, ap, ap₂, ◌∙◌, subst, append_assoc, arith, lt→ltb, le→leb, lt-ltb, le-ltb, eq-eqb, ne_eqb, length-append, take_at, drop_at}
use Rattle.standard.specs.Numbers.{every}
use Rattle.standard.specs.Kinds.{allowed}
use Rattle.standard.specs.Read.{characters, record_of, records_from}
use Rattle.standard.specs.Segments.{Segment, segment_of, segments_of, good_part, good_segment}
use Rattle.laws.specs.Tests.{true_T, and_left, and_right, and_pair, cond_true, cond_false}
use Rattle.segments.specs.Payload.{segment}
use Rattle.parser.specs.Good.{good_cases}

-- where a record of kind k starts, with t characters before it
abbrev pub start_of : ℕ → ℕ → ℕ
start_of k t = cond (ltb k 3) t 0

-- ---- what the records mean

-- the characters of one segment stand where its record says
own_chars : (a : List ℕ) (s : Segment) (c : List ℕ) → T (good_segment s)
    → take (length s.chars) (drop (start_of s.kind (length a)) (a ++ (s.chars ++ c))) ≡ s.chars
own_chars a s c g =
    good_cases s g
    (λ h z t.
    ap (λ (i : ℕ). take (length s.chars) (drop i (a ++ (s.chars ++ c)))) (cond_true (ltb s.kind 3) (length a) 0 (lt-ltb s.kind 3 h))
    ∙ ap (take (length s.chars)) (drop_at a (s.chars ++ c) (length a) refl)
    ∙ take_at s.chars c (length s.chars) refl)
    (λ h z l. ap (λ (cs : List ℕ). take (length cs) (drop (start_of s.kind (length a)) (a ++ (s.chars ++ c)))) z ∙ sym z)

mean_from : (a : List ℕ) (ss : List Segment) (r : List ℕ) → T (every good_segment ss) → segments_of (a ++ (characters ss ++ r)) (records_from (length a) ss) ≡ ss
mean_from a [] r g = refl
mean_from a (s ∷ ss) r g =
    let text : List ℕ = a ++ ((s.chars ++ characters ss) ++ r) in
    let e : text ≡ a ++ (s.chars ++ (characters ss ++ r)) = ap (λ (l : List ℕ). a ++ l) (append_assoc s.chars (characters ss) r) in
    let f : text ≡ (a ++ s.chars) ++ (characters ss ++ r) = e ∙ sym (append_assoc a s.chars (characters ss ++ r)) in
    ap₂ (λ (x : Segment) (xs : List Segment). x ∷ xs)
    (ap (λ (l : List ℕ). segment_of l (record_of (length a) s)) e
    ∙ ap (λ (cs : List ℕ). segment s.kind cs s.assign) (own_chars a s (characters ss ++ r) (and_left (good_segment s) (every good_segment ss) g)))
    (ap₂ (λ (l : List ℕ) (n : ℕ). segments_of l (records_from n ss)) f (sym (length-append a s.chars))
    ∙ mean_from (a ++ s.chars) ss r (and_right (good_segment s) (every good_segment ss) g))

-- the records of a list of good segments, over a text that begins with its characters, mean that list
pub parts_mean : (ss : List Segment) (r : List ℕ) → T (every good_segment ss) → segments_of (characters ss ++ r) (records_from 0 ss) ≡ ss
parts_mean ss r g = mean_from [] ss r g

-- ---- the records are as they should be

own_good : (a : List ℕ) (s : Segment) (c : List ℕ) → T (good_segment s) → T (good_part (a ++ (s.chars ++ c)) (record_of (length a) s))
unfolding good_part
own_good a s c g =
    good_cases s g
    (λ h z t.
    let text : List ℕ = a ++ (s.chars ++ c) in
    let other : eqb s.kind 3 ≡ false = ne_eqb s.kind 3 (λ (e : s.kind ≡ 3). omega arith) in
    let st : start_of s.kind (length a) ≡ length a = cond_true (ltb s.kind 3) (length a) 0 (lt-ltb s.kind 3 h) in
    let E : Bool = every (allowed s.kind) (segment_of text (record_of (length a) s)).chars in
    let I : Bool = leb (start_of s.kind (length a) + length s.chars) (length text) in
    let inside : T I = le→leb (start_of s.kind (length a) + length s.chars) (length text) (omega (arith, st, length-append a (s.chars ++ c), length-append s.chars c)) in
    let chars : T E = subst (λ (cs : List ℕ). T (every (allowed s.kind) cs)) (sym (own_chars a s c g)) t in
    subst T (sym (cond_false (eqb s.kind 3) (eqb (start_of s.kind (length a)) 0 && (eqb (length s.chars) 0 && ltb s.assign 1_000_000)) (ltb s.kind 3 && (eqb s.assign 0 && (I && E))) other))
    (and_pair (ltb s.kind 3) (eqb s.assign 0 && (I && E)) (lt→ltb s.kind 3 h)
    (and_pair (eqb s.assign 0) (I && E) (true_T (eqb s.assign 0) (eq-eqb s.assign 0 z)) (and_pair I E inside chars))))
    (λ h z l.
    let text : List ℕ = a ++ (s.chars ++ c) in
    let st : start_of s.kind (length a) ≡ 0 = cond_false (ltb s.kind 3) (length a) 0 (le-ltb s.kind 3 (omega arith)) in
    let len : length s.chars ≡ 0 = ap length z in
    let S : Bool = eqb (start_of s.kind (length a)) 0 in
    let N : Bool = eqb (length s.chars) 0 in
    let L : Bool = ltb s.assign 1_000_000 in
    let E : Bool = every (allowed s.kind) (segment_of text (record_of (length a) s)).chars in
    let I : Bool = leb (start_of s.kind (length a) + length s.chars) (length text) in
    subst T (sym (cond_true (eqb s.kind 3) (S && (N && L)) (ltb s.kind 3 && (eqb s.assign 0 && (I && E))) (eq-eqb s.kind 3 h)))
    (and_pair S (N && L) (true_T S (eq-eqb (start_of s.kind (length a)) 0 st))
    (and_pair N L (true_T N (eq-eqb (length s.chars) 0 len)) (lt→ltb s.assign 1_000_000 l))))

good_from : (a : List ℕ) (ss : List Segment) (r : List ℕ) → T (every good_segment ss) → T (every (good_part (a ++ (characters ss ++ r))) (records_from (length a) ss))
good_from a [] r g = tt
good_from a (s ∷ ss) r g =
    let text : List ℕ = a ++ ((s.chars ++ characters ss) ++ r) in
    let e : text ≡ a ++ (s.chars ++ (characters ss ++ r)) = ap (λ (l : List ℕ). a ++ l) (append_assoc s.chars (characters ss) r) in
    let f : text ≡ (a ++ s.chars) ++ (characters ss ++ r) = e ∙ sym (append_assoc a s.chars (characters ss ++ r)) in
    and_pair (good_part text (record_of (length a) s)) (every (good_part text) (records_from (length a + length s.chars) ss))
    (subst (λ (l : List ℕ). T (good_part l (record_of (length a) s))) (sym e) (own_good a s (characters ss ++ r) (and_left (good_segment s) (every good_segment ss) g)))
    (subst (λ (n : ℕ). T (every (good_part text) (records_from n ss))) (length-append a s.chars)
    (subst (λ (l : List ℕ). T (every (good_part l) (records_from (length (a ++ s.chars)) ss))) (sym f)
    (good_from (a ++ s.chars) ss r (and_right (good_segment s) (every good_segment ss) g))))

pub parts_good : (ss : List Segment) (r : List ℕ) → T (every good_segment ss) → T (every (good_part (characters ss ++ r)) (records_from 0 ss))
parts_good ss r g = good_from [] ss r g
