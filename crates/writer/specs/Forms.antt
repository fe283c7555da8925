-- How a line is put into each of some rows (ours, between functions).
use Rattle.std.specs.Prelude.{◌≡◌, true, ℕ, ◌+◌, ◌*◌, ◌%◌, ◌≤◌}
use Rattle.format.specs.declared.Line.{Line}
use Rattle.writer.specs.declared.columns.Form.{Form}
use Rattle.writer.specs.declared.columns.Form.TheVariants as form
use Rattle.writer.specs.Puts.{Halves, Octets}

-- the form that a line has in each of n rows of s bits, in the first from bit p on, within so many bytes
abbrev pub Formed : Form → Line → ℕ → ℕ → ℕ → ℕ → Type 0
Formed form.Halves t p s n len = Halves t p s n len
Formed form.Octet t p s n len = Octets t p s n len
Formed form.Numbers t p s n len = Unit {0}

-- and in one row, from bit p on
abbrev pub Put : Form → Line → ℕ → ℕ → Type 0
Put form.Halves t p len = (t.given ≡ true) × (t.width ≡ 4) × ((p + 4 * t.count) % 8 ≡ 0) × (p + 4 * t.count ≤ 8 * len)
Put form.Octet t p len = (t.given ≡ true) × (t.width ≡ 8) × (t.count ≡ 1) × (p % 8 ≡ 0) × (p + 8 ≤ 8 * len)
Put form.Numbers t p len = Unit {0}
