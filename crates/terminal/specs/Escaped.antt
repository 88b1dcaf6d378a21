-- What is escaped is printable, so that a terminal shows it and takes no command from it.
-- Assumes nothing.
use Rattle.std.specs.Prelude.{ℕ, zero, suc, ◌<◌, Bool, List, T, length, get_or}
use Rattle.standard.specs.Numbers.{from, every, join}
use Rattle.laws.specs.Computed.{below}
use Rattle.laws.specs.Lists.{every_append}
use Rattle.terminal.specs.Text.{printable, escaped_byte, escaped}

every_join : (p : ℕ → Bool) (k n : ℕ) (f : ℕ → List ℕ) → ((i : ℕ) → T (every p (f i))) → T (every p (join (from k n f)))
every_join p k zero f h = tt
every_join p k (suc n) f h = every_append p (f k) (join (from (suc k) n f)) (h k) (every_join p (suc k) n f h)

shows : ℕ → Bool
shows c = every printable (escaped_byte c)

byte_shows : (c : ℕ) → c < 256 → T (every printable (escaped_byte c))
unfolding shows
byte_shows c h = below shows 256 tt c h

pub escaped_printable : (t : List ℕ) → ((i : ℕ) → get_or t i 0 < 256) → T (every printable (escaped t))
escaped_printable t h = every_join printable 0 (length t) (λ (i : ℕ). escaped_byte (get_or t i 0)) (λ i. byte_shows (get_or t i 0) (h i))
