-- The level of a number, or that it is none.
-- Assumes nothing.
use Rattle.std.specs.Prelude.{◌≡◌, ℕ, ◌<◌, Result, MatchResult}
use Rattle.types.specs.declared.QrCodeEcc.{QrCodeEcc}
use Rattle.types.specs.declared.NoLevel.{NoLevel}
use Rattle.types.specs.Numbers.{level_of}

-- the result is the level with this number, or it tells a number that no level has
abbrev pub NamesLevel : ℕ → Result QrCodeEcc NoLevel → Type 0
NamesLevel n r = MatchResult r (λ l. level_of l ≡ n) (λ e. (e.0 ≡ n) × (3 < n))
