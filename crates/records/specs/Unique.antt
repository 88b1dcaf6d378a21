-- Any two outcomes that meet an entry's promise are equal: the answer and all lent memory, the records and those beyond them.
-- Assumes nothing.
use Rattle.std.specs.Prelude.{ℕ, Bool, List, ◌≡◌}
use Rattle.std.proofs.Common.{sym, ◌∙◌}
use Rattle.standard.specs.Encode.{Return, encode}
use Rattle.records.specs.declared.Record.{Record}
use Rattle.records.specs.Records.{parts}

-- ---- the encoding entry

pub encode_records_unique : (l first last m : ℕ) (boost : Bool) (text : List ℕ) (rs : List Record) (g s : List ℕ) (a b : Return)
    → a ≡ encode l first last m boost text (parts rs) g s → b ≡ encode l first last m boost text (parts rs) g s → a ≡ b
encode_records_unique l first last m boost text rs g s a b p q = p ∙ sym q
