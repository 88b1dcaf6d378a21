-- Which way a choice went.
-- Assumes nothing.
use Rattle.std.specs.Prelude.{Bool, true, false, cond, ◌≡◌, refl}

pub cond_inv : {A P : Type 0} (t : Bool) (a b c : A) → cond t a b ≡ c → (t ≡ true → a ≡ c → P) → (t ≡ false → b ≡ c → P) → P
cond_inv true a b c e f g = f refl e
cond_inv false a b c e f g = g refl e
