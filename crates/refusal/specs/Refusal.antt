-- The refusals and their numbers (paper 01, "Numbers given back"; 02, K1, K6, K12, K14), and the number that a result tells.
use Rattle.std.specs.Prelude.{ℕ, Result, Ok, Err}
use Rattle.refusal.specs.declared.Refusal.{Refusal}
use Rattle.refusal.specs.declared.Refusal.TheVariants as refusal

-- the number that a paper lists for it
abbrev pub number_of : Refusal → ℕ
number_of refusal.Room = 10
number_of refusal.FixedBits = 12
number_of refusal.Level = 13
number_of refusal.Numbering = 14
number_of refusal.Contradiction = 15
number_of refusal.Place = 16
number_of refusal.Unheld = 18
number_of refusal.PacketSize = 20
number_of refusal.Type = 23
number_of refusal.ReservedBit = 24
number_of refusal.Digit = 25
number_of refusal.Length = 26
number_of refusal.Range = 27
number_of refusal.State = 28
number_of refusal.LoneByte = 30
number_of refusal.Parts = 31
number_of refusal.MessageNumber = 32
number_of refusal.Story = 33
number_of refusal.Shelf = 34
number_of refusal.Record = 35
number_of refusal.FullShelf = 36
number_of refusal.Symbol = 37
number_of refusal.Sample = 38
number_of refusal.Tag = 39

module _ {A : Type 0} where
  -- the number given back: 0 beside a value (01, Numbers given back)
  abbrev pub answer_of : Result A Refusal → ℕ
  answer_of (Ok value) = 0
  answer_of (Err e) = number_of e

  -- the value; beside a refusal what a paper has stand there
  abbrev pub value_or : A → Result A Refusal → A
  value_or beside (Ok value) = value
  value_or beside (Err e) = beside
