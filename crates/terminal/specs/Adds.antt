-- What is put behind a text that stands at the start of lent memory.
-- Assumes nothing.
use Rattle.std.specs.Prelude.{ℕ, ◌+◌, ◌≤◌, ◌≡◌, List, length}
use Rattle.terminal.specs.Text.{Said}
use Rattle.terminal.specs.declared.text.Text.{Text}

-- the memory of a text has room for n bytes more
abbrev pub HasRoom : Text → ℕ → Type 0
HasRoom t n = t.len + n ≤ length t.memory.now

-- words are written behind the text old, into the same memory
abbrev pub Adds : Text → List ℕ → Text → Type 0
Adds old words new = Said old.memory.now old.len words new.memory.now new.len × (new.memory.ghost_name ≡ old.memory.ghost_name)
