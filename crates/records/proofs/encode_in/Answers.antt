-- `records::encode_in`: the numbers that are unpacked stand for the records.
-- Assumes nothing.
use Rattle.std.proofs.Common.{◌≡◌, ℕ, ◌*◌, List, length, take, ap, ◌∙◌}
use Rattle.standard.specs.Segments.{Part}
use Rattle.standard.specs.Encode.{encode}
use Rattle.types.specs.Numbers.{level_of}
use Rattle.types.specs.Masks.{mask_number}
use Rattle.segments.specs.Records.{parts_of}
use Rattle.records.specs.declared.Record.{Record}
use Rattle.records.specs.Records.{parts, unpacked, unpacked_parts}
use Rattle.records.proofs.encode_in.Goals as goal

-- the numbers after `unpack`
unpacked_are : (rs : List Record) (l m : List ℕ) → m ≡ unpacked (length rs) rs l → parts_of (take (4 * length rs) m) ≡ parts rs
unpacked_are rs l m e = ap (λ (y : List ℕ). parts_of (take (4 * length rs) y)) e ∙ unpacked_parts rs l

pub returns : goal.returns
returns g c =
    let a = c.args in
    let s = a.settings in
    c.encode_records.ensures
    ∙ ap (λ (ps : List Part). encode (level_of s.level) s.minversion.value s.maxversion.value (mask_number s.mask) s.boostecl a.text.now ps a.grid.now a.scratch.now)
    (unpacked_are a.records.now _ c.unpack.new.numbers c.unpack.ensures)
