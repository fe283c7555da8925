-- The receiver's numbers: each exactly in its case, and what a refusal leaves as it was. Assumes nothing.
use mathlib.Core.Path.{◌≡◌, refl, sym, ap, ◌∙◌}
use mathlib.Core.Logic.{◌↔◌}
use mathlib.Core.Bool.{true, false}
use mathlib.Core.List.{List}
use Prim.Native.Nat.{ℕ, ◌≤◌, ◌<◌}
use native.Mathlib.Omega.{arith}
use borrow.Author.Tests.{ne_eqb, ltb-false}
use lib.ListN.{length, take}
use lib.Dec.{eqb, ltb}
use Rattle.laws.specs.Refusals.{none, among, apart, case_at}
use Rattle.laws.proofs.Refusals.{exact, not_due}
use Rattle.laws.proofs.Cases.{if_no}
use Rattle.receiver.specs.declared.Receiver.{Receiver}
use Rattle.receiver.specs.declared.Received.{Received}
use Rattle.receiver.specs.Receive.{hearing, receive_cases, receive_answer, received_of, received_into, counts_into}
use Rattle.receiver.proofs.Sound.{at_most_forty}
use Rattle.receiver.proofs.Cutting.{answer_is}

module _ (r : Receiver) (d out counts : List ℕ) where
  pub receive_apart : apart (receive_cases r d out counts) ≡ true
  unfolding receive_cases apart among
  receive_apart = refl

  three : length (receive_cases r d out counts) ≡ 3
  unfolding receive_cases
  three = refl

  -- 28, 11 and 10 come exactly when their case holds and none before it does: over 103 bits pending; over 512 bytes; an output under 320, or a second one under 40.
  pub answer_exact : (k : ℕ) → k < 3
      → ((received_of r d out counts).answer ≡ (case_at (receive_cases r d out counts) k).1) ↔ (((case_at (receive_cases r d out counts) k).0 ≡ true) × (none (take k (receive_cases r d out counts)) ≡ true))
  unfolding receive_answer
  answer_exact k h =
      let e = exact (receive_cases r d out counts) receive_apart k (omega (arith, three)) in
      (λ a. e.0 (sym (answer_is r d out counts) ∙ a), λ c. answer_is r d out counts ∙ e.1 c)

  -- A refusal hands back the receiver given and no frame, and leaves both outputs as they were.
  pub receive_refused : ((received_of r d out counts).answer ≡ 0 → ⊥)
      → ((received_of r d out counts).frames ≡ 0) × ((received_of r d out counts).receiver ≡ r) × (received_into r d out counts ≡ out) × (counts_into r d out counts ≡ counts)
  unfolding received_of received_into counts_into
  receive_refused z =
      let no : eqb (receive_answer r d out counts) 0 ≡ false = ne_eqb (receive_answer r d out counts) 0 (λ e. z (answer_is r d out counts ∙ e)) in
      let s : received_of r d out counts ≡ record { answer = receive_answer r d out counts; frames = 0; receiver = r } = if_no _ _ no in
      (ap (λ (x : Received). x.frames) s, ap (λ (x : Received). x.receiver) s, if_no _ out no, if_no _ counts no)

  -- Whatever record is not refused, a delivery that is taken has no 41st frame.
  pub no_41st : (received_of r d out counts).answer ≡ 0 → length (hearing r d).frames ≤ 40
  unfolding receive_answer receive_cases
  no_41st a =
      let p = not_due (ltb 103 r.count) 28 _ (λ h. omega arith) (sym (answer_is r d out counts) ∙ a) in
      let q = not_due (ltb 512 (length d)) 11 _ (λ h. omega arith) p.1 in
      at_most_forty r d (ltb-false 103 r.count p.0) (ltb-false 512 (length d) q.0)
