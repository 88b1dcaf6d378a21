-- `parser::write::write_run` meets its contract.
-- Assumes nothing.
use native.Mathlib.Omega.{arith}
use Rattle.std.specs.Prelude.{ℕ, ◌≡◌, ◌+◌, ◌-◌, refl, length, take, drop, IsOk}
use Rattle.std.proofs.Common.{◌∙◌, ap, sym, subst, rules}
use Rattle.standard.specs.Bits.{unpack}
use Rattle.types.specs.Numbers.{text_kind_of}
use Rattle.parser.specs.Runs.{run_end, run_chars}
use Rattle.parser.specs.CodeWrites.{run_start, run_ok, part_long, rest_long, turn_le, turn_first, turn_room, turn_ok, turn_left, turn_filled, turn_turns, end_small, end_filled}
use Rattle.parser.proofs.write.write_run.Goals as goal

pub loop-init : goal.loop-init
loop-init c = (refl, run_start _ _ _ _, run_ok _ _ _ _ c.requires.2, omega arith, omega arith, c.requires.1, refl)

pub write_next-requires : goal.write_next-requires
write_next-requires c =
    let a = c.args in
    let l = c.loop in
    let v = l.invariant in
    let m = c.size_of-m.result in
    let le = turn_le (text_kind_of a.kind) a.buf.now a.out.now l.out l.out _ a.at l.p l.q m _ l.counter c.size_of-m.ensures c.width_of-w.ensures refl v.0 v.1 v.2 v.3 c.loop-test.true in
    let ok = turn_first (text_kind_of a.kind) a.buf.now a.out.now l.out l.out _ a.at l.p l.q m _ l.counter c.size_of-m.ensures c.width_of-w.ensures refl v.0 v.1 v.2 v.3 c.loop-test.true in
    let e : length (take (l.q + m - l.q) (drop l.q l.out)) ≡ m = part_long l.out l.q m _ v.6 le in
    (omega (arith, e), c.requires.0, v.5, subst (λ (j : ℕ). IsOk (run_end (text_kind_of a.kind) (unpack a.buf.now) j l.p j)) (sym e) ok)

pub loop-preserved : goal.loop-preserved
loop-preserved c =
    let a = c.args in
    let l = c.loop in
    let v = l.invariant in
    let m = c.size_of-m.result in
    let new = c.write_next.new.out in
    let k = text_kind_of a.kind in
    let le = turn_le k a.buf.now a.out.now l.out new _ a.at l.p l.q m _ l.counter c.size_of-m.ensures c.width_of-w.ensures refl v.0 v.1 v.2 v.3 c.loop-test.true in
    let e : length (take (l.q + m - l.q) (drop l.q l.out)) ≡ m = part_long l.out l.q m _ v.6 le in (
      turn_filled k a.buf.now a.out.now l.out new _ a.at l.p l.q m _ l.counter c.size_of-m.ensures c.width_of-w.ensures refl v.0 v.1 v.2 v.3 c.loop-test.true
          (c.write_next.ensures ∙ ap (λ (j : ℕ). run_chars k (unpack a.buf.now) j l.p j) e),
      turn_left k a.buf.now a.out.now l.out new _ a.at l.p l.q m _ l.counter c.size_of-m.ensures c.width_of-w.ensures refl v.0 v.1 v.2 v.3 c.loop-test.true,
      turn_ok k a.buf.now a.out.now l.out new _ a.at l.p l.q m _ l.counter c.size_of-m.ensures c.width_of-w.ensures refl v.0 v.1 v.2 v.3 c.loop-test.true,
      turn_turns k a.buf.now a.out.now l.out new _ a.at l.p l.q m _ l.counter c.size_of-m.ensures c.width_of-w.ensures refl v.0 v.1 v.2 v.3 c.loop-test.true,
      omega arith,
      turn_room k a.buf.now a.out.now l.out new _ a.at l.p l.q m _ l.counter c.size_of-m.ensures c.width_of-w.ensures refl v.0 v.1 v.2 v.3 c.loop-test.true,
      search rules,
    )

pub write_next-requires-2 : goal.write_next-requires-2
write_next-requires-2 c =
    let a = c.args in
    let l = c.loop in
    let v = l.invariant in
    let k = text_kind_of a.kind in
    let small = end_small k a.buf.now a.out.now l.out l.out _ a.at l.p l.q c.size_of-m.result _ l.counter c.size_of-m.ensures c.width_of-w.ensures refl v.0 v.1 v.2 v.3 v.4 c.loop-test.false in
    let e : length (take (length l.out - l.q) (drop l.q l.out)) ≡ length a.out.now - l.q = rest_long l.out l.q _ v.6 in
    (omega (arith, e, small), c.requires.0, v.5, subst (λ (j : ℕ). IsOk (run_end k (unpack a.buf.now) j l.p j)) (sym e) v.2)

pub returns : goal.returns
returns c =
    let a = c.args in
    let l = c.loop in
    let v = l.invariant in
    let k = text_kind_of a.kind in
    let e : length (take (length l.out - l.q) (drop l.q l.out)) ≡ length a.out.now - l.q = rest_long l.out l.q _ v.6 in
    let j : length l.out - l.q ≡ length a.out.now - l.q = omega arith in
    end_filled k a.buf.now a.out.now l.out c.write_next-2.new.out _ a.at l.p l.q c.size_of-m.result _ l.counter c.size_of-m.ensures c.width_of-w.ensures refl v.0 v.1 v.2 v.3 v.4 c.loop-test.false
    (length l.out - l.q) j (c.write_next-2.ensures ∙ ap (λ (i : ℕ). run_chars k (unpack a.buf.now) i l.p i) (e ∙ sym j))
