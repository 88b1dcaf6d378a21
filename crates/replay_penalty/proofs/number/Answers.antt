-- `replay_penalty::number` meets its contract. The digits passed make a number of as many digits.
-- Assumes nothing.
use Rattle.std.proofs.Common.{arith, zero-lt-suc, ◌≤◌, ◌^◌}
use Rattle.std.proofs.Math.Nat.{pow-le-pow_right}
use Rattle.std.proofs.lemmas.Grind.{pow_more}
use Rattle.replay_penalty.proofs.number.Goals as goal

pub overflow_mul-n : goal.overflow_mul-n
overflow_mul-n c = let most : 10 ^ c.loop-byte.byte-index ≤ 10 ^ 7 = pow-le-pow_right (zero-lt-suc 9) {j = 7} (omega arith) in omega arith

pub overflow_add-n : goal.overflow_add-n
overflow_add-n c = let most : 10 ^ c.loop-byte.byte-index ≤ 10 ^ 7 = pow-le-pow_right (zero-lt-suc 9) {j = 7} (omega arith) in omega arith

pub loop-byte-preserved : goal.loop-byte-preserved
loop-byte-preserved c = (omega arith, omega (arith, pow_more 10 c.loop-byte.byte-index))
