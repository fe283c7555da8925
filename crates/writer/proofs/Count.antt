-- A count and bytes put into bits. Assumes nothing.
use mathlib.Core.Path.{◌≡◌, refl, sym, ap, ◌∙◌}
use mathlib.Core.List.{List, [], ◌∷◌, ◌++◌, append-nil}
use Prim.Native.Nat.{ℕ, ◌+◌, ◌<◌, ◌≤◌}
use native.Mathlib.Omega.{arith}
use lib.Seq.{sets}
use Rattle.laws.specs.Bits.{bits, bits_of, spread}
use Rattle.laws.proofs.Cases.{if_yes}
use Rattle.format.specs.Format.{just, size, encode, fill}
use Rattle.format.specs.Reach.{field_bits}
use Rattle.format.proofs.Leaves.{reached}
use Rattle.packet.specs.declared.Counting.{Counting}
use Rattle.packet.specs.Table.{count_line}
use Rattle.writer.specs.Puts.{After}

-- nothing put
pub none_put : (out : List ℕ) (p : ℕ) → After out out p [] p 0
none_put out p = record { put = refl; place = omega arith }

-- contents with no count
pub no_count : (out : List ℕ) (p k : ℕ) (s : Counting) → count_line s k ≡ [] → After out out p (encode (count_line s k) (fill (count_line s k) [])) p (size (count_line s k))
unfolding encode size
no_count out p k s e = rw e (none_put out p)

-- one with a count
pub count_put : (out last : List ℕ) (p k : ℕ) → p < 30000 → bits last ≡ sets (bits out) p (field_bits p 8 k) → After out last p (encode (just 8 k ∷ []) (fill (just 8 k ∷ []) [])) (p + 8) (size (just 8 k ∷ []))
unfolding encode fill size spread
count_put out last p k h e =
    record {
      put = e ∙ ap (sets (bits out) p) (if_yes (bits_of 8 k) [] (reached p 1 8 (omega arith) (omega arith) (omega arith)) ∙ sym (append-nil (bits_of 8 k ++ []) ∙ append-nil (bits_of 8 k)));
      place = refl;
    }

-- a number
pub field_put : (out last : List ℕ) (p w x : ℕ) → p < 50000 → w ≤ 32 → bits last ≡ sets (bits out) p (field_bits p w x) → After out last p (bits_of w x) (p + w) w
field_put out last p w x h k e =
    record { put = e ∙ ap (sets (bits out) p) (if_yes (bits_of w x) [] (reached p 1 w (omega arith) (omega arith) k)); place = refl }
