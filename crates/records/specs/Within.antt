-- The records of a label that was read: there are no more of them than there is room for, and each names a part of the text.
-- Assumes nothing.
use Prim.Native.Nat.{ℕ, ◌+◌, ◌≤◌, ◌<◌}
use Rattle.std.specs.Prelude.{List}
use Rattle.std.proofs.Math.ListN.{get_or}
use Rattle.records.specs.declared.Record.{Record}
use Rattle.records.specs.Records.{none}

-- each of the first n records names a part of a text of k bytes
abbrev pub Within : ℕ → List Record → ℕ → Type 0
Within n rs k = (i : ℕ) → i < n → (get_or rs i none).start + (get_or rs i none).length ≤ k
