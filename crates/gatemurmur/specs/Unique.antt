-- Theorems over the definition: any two outcomes that meet an exported function's promise are equal, struct and lent memory.
-- Assumes nothing.
use Rattle.std.specs.Prelude.{ℕ, Bool, List, ◌≡◌, ℤ}
use Rattle.std.proofs.Common.{sym, ap, ◌∙◌}
use Rattle.standard.specs.Encode.{encode, encode_text, encode_bytes, encode_codewords}
use Rattle.standard.specs.Module.{dark}
use Rattle.reader.specs.Theorems.{read_unique}
use Rattle.records.specs.declared.Record.{Record}
use Rattle.records.specs.Records.{parts}
use Rattle.records.proofs.Unique.{parts_one}
use Rattle.gatemurmur.specs.declared.Reading.{Reading}
use Rattle.gatemurmur.specs.Told.{Told, told, ReadTold, read_told, Tells}

pub text_unique : (l first last m : ℕ) (boost : Bool) (text g s : List ℕ) (a b : Told)
    → a ≡ told (encode_text l first last m boost text g s) → b ≡ told (encode_text l first last m boost text g s) → a ≡ b
text_unique l first last m boost text g s a b p q = p ∙ sym q

pub binary_unique : (l first last m : ℕ) (boost : Bool) (bytes g s : List ℕ) (a b : Told)
    → a ≡ told (encode_bytes l first last m boost bytes g s) → b ≡ told (encode_bytes l first last m boost bytes g s) → a ≡ b
binary_unique l first last m boost bytes g s a b p q = p ∙ sym q

pub segments_unique : (l first last m : ℕ) (boost : Bool) (text : List ℕ) (rs : List Record) (g s : List ℕ) (a b : Told)
    → a ≡ told (encode l first last m boost text (parts rs) g s) → b ≡ told (encode l first last m boost text (parts rs) g s) → a ≡ b
segments_unique l first last m boost text rs g s a b p q = p ∙ sym q

pub codewords_unique : (l v m : ℕ) (words g s : List ℕ) (a b : Told)
    → a ≡ told (encode_codewords l v m words g s) → b ≡ told (encode_codewords l v m words g s) → a ≡ b
codewords_unique l v m words g s a b p q = p ∙ sym q

pub module_unique : (s : ℕ) (g : List ℕ) (x y : ℤ) (a b : Bool) → a ≡ dark s g x y → b ≡ dark s g x y → a ≡ b
module_unique s g x y a b p q = p ∙ sym q

pub read_told_unique : (g : List ℕ) (s : ℕ) (text : List ℕ) (rs : List Record) (scratch : List ℕ) (a b : Reading) (o p : List ℕ) (q u : List Record) (y z : List ℕ)
    → Tells g s text (parts rs) scratch (record { answer = a; text = o; records = parts q; scratch = y })
    → Tells g s text (parts rs) scratch (record { answer = b; text = p; records = parts u; scratch = z })
    → (◌≡◌ {A = ReadTold} (record { answer = a; text = o; records = parts q; scratch = y }) (record { answer = b; text = p; records = parts u; scratch = z })) × (q ≡ u)
read_told_unique g s text rs scratch a b o p q u y z c d =
    let e = c.tells ∙ ap read_told (read_unique g s text (parts rs) scratch c.outcome d.outcome c.reads d.reads) ∙ sym d.tells in
    (e, parts_one q u (ap (λ (x : ReadTold). x.records) e))
