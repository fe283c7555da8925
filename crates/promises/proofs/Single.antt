-- A contract of our form leaves one answer and one content of lent memory. Assumes nothing.
use mathlib.Core.Path.{◌≡◌, sym, ap, ◌∙◌}
use mathlib.Core.List.{List}
use Prim.Native.Nat.{ℕ}
use Rattle.laws.specs.Bits.{bits, bytes, Under}
use Rattle.laws.proofs.Bits.{bytes_bits}

-- Whatever a contract says the answer equals, any two answers that it allows are equal.
pub one_answer : {Answer : Type 0} (said : Answer) (a b : Answer) → a ≡ said → b ≡ said → a ≡ b
one_answer said a b p q = p ∙ sym q

-- The same of an answer and of the content that lent memory is left with, each given by an equation.
pub one_outcome : {Answer Content : Type 0} (said : Answer) (left : Content) (a b : Answer) (m n : Content)
    → (a ≡ said) × (m ≡ left) → (b ≡ said) × (n ≡ left) → (a ≡ b) × (m ≡ n)
one_outcome said left a b m n p q = (one_answer said a b p.0 q.0, one_answer left m n p.1 q.1)

-- Bytes with the same bits are the same bytes, so an equation between bits leaves one content too.
pub one_content : (a b : List ℕ) → Under 256 a → Under 256 b → bits a ≡ bits b → a ≡ b
one_content a b u v e = sym (bytes_bits a u) ∙ ap bytes e ∙ bytes_bits b v
