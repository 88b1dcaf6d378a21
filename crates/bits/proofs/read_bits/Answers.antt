-- `bits::read_bits` meets its contract: the number of the bytes so far, one byte more each turn.
-- Assumes nothing.
use Rattle.std.proofs.Common.{ℕ, ◌≡◌, ◌+◌, ◌-◌, ◌*◌, ◌/◌, ◌%◌, ◌^◌, refl, ap, ◌∙◌, arith}
use Rattle.standard.specs.Bits.{unpack}
use Rattle.bits.specs.Fields.{field}
use Rattle.bits.specs.Gathered.{gather_start, part_length, part_fits, part_next, gather_end, power_is}
use Rattle.bits.proofs.read_bits.Goals as goal

pub loop-b-init : goal.loop-b-init
loop-b-init c = gather_start c.args.buf.now (c.args.at / 8)

pub overflow_mul-r : goal.overflow_mul-r
overflow_mul-r c =
    let a = c.args in
    let l = c.loop-b in
    let f = part_fits a.buf.now (a.at / 8) ((a.at % 8 + a.len + 7) / 8) (omega arith) (λ i. (c.type_inv.buf i).fits) l.b-index l.r l.invariant c.loop-b-test.true (omega arith) in
    record { fits = omega arith }

pub overflow_add-r : goal.overflow_add-r
overflow_add-r c =
    let a = c.args in
    let l = c.loop-b in
    record { fits = part_fits a.buf.now (a.at / 8) ((a.at % 8 + a.len + 7) / 8) (omega arith) (λ i. (c.type_inv.buf i).fits) l.b-index l.r l.invariant c.loop-b-test.true (omega arith) }

pub loop-b-preserved : goal.loop-b-preserved
loop-b-preserved c =
    let a = c.args in
    let l = c.loop-b in
    part_next a.buf.now (a.at / 8) ((a.at % 8 + a.len + 7) / 8) (omega arith) (λ i. (c.type_inv.buf i).fits) l.b-index l.r l.invariant c.loop-b-test.true

pub returns : goal.returns
returns c =
    let a = c.args in
    let l = c.loop-b in
    let end = a.at % 8 + a.len in
    let n = (end + 7) / 8 in
    let e : l.b-index ≡ n = omega (arith, part_length a.buf.now (a.at / 8) n (omega arith)) in
    ap (λ (m : ℕ). l.r / 2 ^ (8 * n - end) % m) (power_is a.len (omega arith))
    ∙ gather_end a.buf.now a.at a.len (a.at / 8) end n l.r
    (l.invariant ∙ ap (λ (i : ℕ). field (unpack a.buf.now) (8 * (a.at / 8)) (8 * i)) e) refl refl refl (omega arith)
