-- `read_full`: a read puts its bytes behind those that stand there, and they are what the input gave next.
-- Assumes nothing.
use Rattle.std.proofs.Common.{rules, ◌≡◌, ℕ, ◌+◌, ◌-◌, ◌≤◌, List, ◌++◌, length, take, sym, ap, ◌∙◌, subst, length-take-le}
use Rattle.std.proofs.lemmas.List.{take-append-le}
use Rattle.std.proofs.Math.Seq.{take-append-add}
use Rattle.std.specs.Io.KnownBytes.{Consumes}
use Rattle.std.proofs.KnownBytes.{Consumes-trans}
use borrow.Rule.Slice.PartMut.{put_mid, post_of}
use Rattle.streams.proofs.read_full.Goals as goal

-- ys in the place of the k elements from the a-th on: the first a elements, and n of ys
take_put_mid : (a k n : ℕ) (xs ys : List ℕ) → a ≤ length xs → n ≤ length ys → take a xs ++ take n ys ≡ take (a + n) (put_mid a k xs ys)
take_put_mid a k n xs ys within fits =
    sym (
    ap (λ m. take (m + n) (put_mid a k xs ys)) (sym (length-take-le a xs within)) ∙ take-append-add (take a xs) (ys ++ post_of a k xs) n
    ∙ ap (λ l. take a xs ++ l) (take-append-le n ys (post_of a k xs) fits)
    )

pub loop-done-preserved : goal.loop-done-preserved
loop-done-preserved g c =
    let l = c.loop-done in
    let e = take_put_mid l.done (length l.buf - l.done) c.in-Ok.n l.buf c.read.new.buf l.invariant.0 c.in-Ok.ensures.bound.0 in
    (search rules, subst (Consumes _ _) e (Consumes-trans _ _ _ _ _ l.invariant.1 c.in-Ok.ensures.bytes.0))
