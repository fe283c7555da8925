-- The writer's answers, one law for each way out of the code. Assumes nothing.
use mathlib.Core.Path.{◌≡◌, sym, ap, ◌∙◌}
use mathlib.Core.Bool.{Bool, true, false, not, cond}
use mathlib.Core.List.{List}
use Prim.Native.Nat.{ℕ, ◌+◌, ◌*◌, ◌<◌, ◌≤◌}
use native.Mathlib.Omega.{arith}
use lib.ListN.{length, drop}
use lib.Dec.{ltb}
use borrow.Author.Tests.{lt-ltb, le-ltb, not-true, not-false}
use Rattle.laws.specs.Refusals.{first}
use Rattle.laws.proofs.Refusals.{stop, pass, none_left}
use Rattle.packet.specs.declared.Fields.{Fields}
use Rattle.packet.specs.Writing.{Written, size_for, not_written, count_bad, digit_bad, not_taken, write_cases, written_answer, written_by, written}
use Rattle.writer.specs.Puts.{count_lent}
use Rattle.writer.specs.Parts.{bytes_of}
use Rattle.writer.proofs.Size.{size_by}

module _ (f : Fields) (codes body : List ℕ) (room : ℕ) where
  abbrev rest : Written
  rest = written_by (first (drop 2 (write_cases f codes body room))) (size_for f body)

  due : {a b : ℕ} → a ≡ b → written_by b (size_for f body) ≡ written_by a (size_for f body)
  due e = ap (λ (a : ℕ). written_by a (size_for f body)) (sym e)

  pub says_23 : not_written f.typenumber ≡ true → written_by 23 (size_for f body) ≡ written f codes body room
  unfolding written written_answer
  says_23 e = due (stop _ _ e)

  module _ (u : not_written f.typenumber ≡ false) where
    pub says_26 : count_bad f codes body ≡ true → written_by 26 (size_for f body) ≡ written f codes body room
    unfolding written written_answer
    says_26 e = due (pass _ _ u ∙ stop _ _ e)

    pub then_rest : count_bad f codes body ≡ false → rest ≡ written f codes body room
    unfolding written written_answer
    then_rest e = due (pass _ _ u ∙ pass _ _ e)

  module _ {x : Bool} (d : x ≡ not (digit_bad f codes body)) where
    pub says_25 : not x ≡ true → written_by 25 (size_for f body) ≡ rest
    says_25 h = due (stop _ _ (not-false (digit_bad f codes body) (sym d ∙ not-true x h)))

    module _ (p : not x ≡ false) {y : Bool} (t : y ≡ not (not_taken f codes body)) where
      digits : digit_bad f codes body ≡ false
      digits = not-true (digit_bad f codes body) (sym d ∙ not-false x p)

      pub says_27 : not y ≡ true → written_by 27 (size_for f body) ≡ rest
      says_27 h = due (pass _ _ digits ∙ stop _ _ (not-false (not_taken f codes body) (sym t ∙ not-true y h)))

      module _ (q : not y ≡ false) {s : ℕ} (e : s ≡ cond (ltb 1000 (count_lent f.content (length body))) 251 (77 + 12 * f.codes + bytes_of f.content (length body))) where
        taken : {a : ℕ} → first (drop 4 (write_cases f codes body room)) ≡ a → written_by a (size_for f body) ≡ rest
        taken h = due (pass _ _ digits ∙ pass _ _ (not-true (not_taken f codes body) (sym t ∙ not-false y q)) ∙ h)

        pub says_20 : 250 < s → written_by 20 (size_for f body) ≡ rest
        says_20 h = taken (stop _ _ (lt-ltb _ _ ((size_by f body s e).0 h)))

        module _ (l : s ≤ 250) where
          size : s ≡ size_for f body
          size = (size_by f body s e).1 l

          small : ltb 250 (size_for f body) ≡ false
          small = le-ltb 250 (size_for f body) (omega (arith, size))

          pub says_10 : room < s → written_by 10 (size_for f body) ≡ rest
          says_10 h = taken (pass _ _ small ∙ stop _ _ (lt-ltb room (size_for f body) (omega (arith, size))))

          pub says_0 : s ≤ room → written_by 0 s ≡ rest
          says_0 h = ap (written_by 0) size ∙ taken (pass _ _ small ∙ pass _ _ (le-ltb room (size_for f body) (omega (arith, size))) ∙ none_left)
