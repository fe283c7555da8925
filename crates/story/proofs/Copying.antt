-- Bytes that are copied to a lent part as long as they are written to the list. Assumes nothing.
use mathlib.Core.Path.{◌≡◌}
use mathlib.Core.List.{List}
use Prim.Native.Nat.{ℕ, ◌+◌, ◌-◌, ◌≤◌}
use native.Mathlib.Omega.{arith}
use lib.ListN.{length}
use lib.Seq.{sets}
use borrow.Rule.Slice.PartMut.{put_mid}
use Rattle.laws.proofs.Parts.{in_place}

pub copied_in : (l t part : List ℕ) (n : ℕ) → n + length t ≤ length l → part ≡ t → put_mid n (n + length t - n) l part ≡ sets l n t
copied_in l t part n h e = in_place l t part n (n + length t - n) (omega arith) h e
