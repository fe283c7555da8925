-- What a computed test finds of all kinds holds of each. Assumes nothing.
use mathlib.Core.Path.{◌≡◌}
use mathlib.Core.Bool.{Bool, true}
use Prim.Native.Nat.{ℕ, ◌<◌}
use native.Mathlib.Omega.{arith}
use lib.ListN.{length, get_or}
use Rattle.laws.specs.Scan.{all}
use Rattle.laws.proofs.Elements.{all_at}
use Rattle.packet.specs.declared.Kind.{Kind}
use Rattle.packet.specs.declared.Kind.TheVariants as kind
use Rattle.packet.specs.Table.{kinds}

module _ (P : Kind → Bool) (h : all P kinds ≡ true) where
  at : (i : ℕ) → i < length kinds → P (get_or kinds i kind.Raw) ≡ true
  at i l = all_at P kinds i kind.Raw h l

  pub each_kind : (f : Kind) → P f ≡ true
  each_kind kind.Frequencies = at 0 (omega arith)
  each_kind kind.Address = at 1 (omega arith)
  each_kind kind.Keep = at 2 (omega arith)
  each_kind kind.Clock = at 3 (omega arith)
  each_kind kind.Reset = at 4 (omega arith)
  each_kind kind.Factory = at 5 (omega arith)
  each_kind kind.Drill = at 6 (omega arith)
  each_kind kind.Text = at 7 (omega arith)
  each_kind kind.Hold = at 8 (omega arith)
  each_kind kind.Raw = at 9 (omega arith)
  each_kind kind.Unknown = at 10 (omega arith)
