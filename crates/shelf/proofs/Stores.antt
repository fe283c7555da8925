-- Bytes copied one by one to a place, and what stands behind the packet of a record: the fill and the closing bytes. Assumes nothing.
use mathlib.Core.Path.{◌≡◌, refl, sym, ap, ◌∙◌}
use mathlib.Core.List.{List, [], ◌∷◌, ◌++◌}
use Prim.Native.Nat.{ℕ, ◌+◌, ◌-◌, ◌<◌, ◌≤◌}
use native.Mathlib.Nat.{add-zero}
use native.Mathlib.Omega.{arith}
use lib.ListN.{length, get_or, set, drop, length-set, replicate}
use lib.Seq.{sets}
use Rattle.laws.proofs.Writes.{put_turn, put_done}

-- ---- bytes copied to a place and behind it
pub record Copying (from : ℕ) (bytes out₀ out : List ℕ) (i : ℕ) : Type 0 where
  pub within : i ≤ length bytes
  pub kept : length out ≡ length out₀
  pub rest : sets out₀ from bytes ≡ sets out (from + i) (drop i bytes)

pub copying_first : (from : ℕ) (bytes out : List ℕ) → Copying from bytes out out 0
copying_first from bytes out =
    record { within = omega arith; kept = refl; rest = ap (λ (k : ℕ). sets out k bytes) (sym (add-zero from)) }

pub copying_turn : (from : ℕ) (bytes out₀ out : List ℕ) (i : ℕ) → Copying from bytes out₀ out i → i < length bytes → Copying from bytes out₀ (set out (from + i) (get_or bytes i 0)) (i + 1)
copying_turn from bytes out₀ out i g h =
    record {
      within = omega arith;
      kept = length-set out (from + i) (get_or bytes i 0) ∙ g.kept;
      rest = put_turn 0 bytes out (set out (from + i) (get_or bytes i 0)) (sets out₀ from bytes) from i (get_or bytes i 0) h g.rest refl refl;
    }

pub copying_last : (from : ℕ) (bytes out₀ out : List ℕ) (i : ℕ) → Copying from bytes out₀ out i → length bytes ≤ i → out ≡ sets out₀ from bytes
copying_last from bytes out₀ out i g h = put_done bytes out (sets out₀ from bytes) (from + i) i h g.rest

-- the fill, then the closing bytes
abbrev pub ending : ℕ → List ℕ
ending i = replicate (254 - i) 0xFF ++ (0 ∷ 0 ∷ [])
