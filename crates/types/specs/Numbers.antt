-- The numbers that document 01 gives levels and kinds, and what `new` answers.
-- Assumes nothing.
use Rattle.std.specs.Prelude.{ℕ, Option, Some, None, cond, ◌&&◌, leb}
use Rattle.types.specs.declared.QrCodeEcc.{QrCodeEcc}
use Rattle.types.specs.declared.QrCodeEcc.TheVariants.{Low, Medium, Quartile, High}
use Rattle.types.specs.declared.QrSegmentMode.{QrSegmentMode}
use Rattle.types.specs.declared.QrSegmentMode.TheVariants.{Numeric, Alphanumeric, Byte, Eci}
use Rattle.types.specs.declared.TextKind.{TextKind}
use Rattle.types.specs.declared.TextKind.TheVariants.{Numeric as NumericText, Alphanumeric as AlphanumericText, Byte as ByteText}

-- levels are 0 Low, 1 Medium, 2 Quartile, 3 High
abbrev pub level_of : QrCodeEcc → ℕ
level_of Low = 0
level_of Medium = 1
level_of Quartile = 2
level_of High = 3

-- kinds are 0 Numeric, 1 Alphanumeric, 2 Byte, 3 ECI
abbrev pub kind_of : QrSegmentMode → ℕ
kind_of Numeric = 0
kind_of Alphanumeric = 1
kind_of Byte = 2
kind_of Eci = 3

-- the kinds that have characters
abbrev pub text_kind_of : TextKind → ℕ
text_kind_of NumericText = 0
text_kind_of AlphanumericText = 1
text_kind_of ByteText = 2

-- the value, or that there is none
abbrev pub new_version : ℕ → Option ℕ
new_version n = cond (leb 1 n && leb n 40) (Some n) None

abbrev pub new_mask : ℕ → Option ℕ
new_mask n = cond (leb n 7) (Some n) None
