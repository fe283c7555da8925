-- A delivery as a whole: which refusal is due, and what is written where none is. Assumes nothing.
use mathlib.Core.Path.{◌≡◌, sym, ap, ap₂, ◌∙◌}
use mathlib.Core.Bool.{true, false, ◌||◌}
use mathlib.Core.List.{List, ◌++◌}
use Prim.Native.Nat.{ℕ, ◌+◌, ◌*◌, ◌-◌, ◌/◌, ◌%◌, ◌^◌, ◌≤◌, ◌<◌}
use native.Mathlib.Nat.{mod-lt, zero-add}
use native.Mathlib.Omega.{arith}
use borrow.Author.Tests.{lt-ltb, le-ltb}
use lib.ListN.{length, take, drop}
use lib.Seq.{sets, drop-append-le, drop_at}
use lib.Dec.{eqb, ltb}
use lib.Pow.{pow_pos, split}
use Rattle.laws.specs.Bits.{bits_of, bits}
use Rattle.laws.proofs.Bits.{length_bits_of}
use Rattle.laws.proofs.Words.{bits_join}
use Rattle.laws.proofs.Refusals.{stop, pass, none_left}
use Rattle.laws.proofs.Cases.{if_yes, if_no, or_yes, or_no}
use Rattle.laws.proofs.Writes.{from_front}
use Rattle.receiver.specs.declared.Receiver.{Receiver}
use Rattle.receiver.specs.declared.Received.{Received}
use Rattle.receiver.specs.declared.searching.Read.{Read}
use Rattle.receiver.specs.Rule.{Heard, heard}
use Rattle.receiver.specs.Receive.{follows_of, record_of, hearing, joined, receive_cases, receive_answer, received_of, received_into, counts_into}
use Rattle.receiver.specs.Search.{ahead, heard_from, Searched}
use Rattle.receiver.proofs.Sound.{eights_joined, hearing_sound, at_most_forty}

-- the low bits of a number of a + b bits, and of one cut to them
cut : (a b x : ℕ) → bits_of (a + b) x ≡ bits_of a (x / 2 ^ b) ++ bits_of b (x % 2 ^ b)
cut a b x = ap (bits_of (a + b)) (sym (split x b)) ∙ bits_join a b (x / 2 ^ b) (x % 2 ^ b) (mod-lt x (pow_pos b))

low_bits : (n x : ℕ) → bits_of n (x % 2 ^ n) ≡ bits_of n x
unfolding bits_of
low_bits n x = sym (ap (λ (m : ℕ). bits_of m x) (sym (zero-add n)) ∙ cut 0 n x)

low_part : (a b x : ℕ) → drop a (bits_of (a + b) x) ≡ bits_of b x
low_part a b x =
    ap (drop a) (cut a b x) ∙ drop_at (bits_of a (x / 2 ^ b)) (bits_of b (x % 2 ^ b)) a (length_bits_of a (x / 2 ^ b)) ∙ low_bits b x

-- ---- the answer
module _ (r : Receiver) (d out counts : List ℕ) where
  pub due_28 : 103 < r.count → receive_answer r d out counts ≡ 28
  unfolding receive_answer receive_cases
  due_28 h = stop 28 _ (lt-ltb 103 r.count h)

  pub due_11 : r.count ≤ 103 → 512 < length d → receive_answer r d out counts ≡ 11
  unfolding receive_answer receive_cases
  due_11 h k = pass 28 _ (le-ltb 103 r.count h) ∙ stop 11 _ (lt-ltb 512 (length d) k)

  pub due_10 : r.count ≤ 103 → length d ≤ 512 → (ltb (length out) 320 || ltb (length counts) 40) ≡ true → receive_answer r d out counts ≡ 10
  unfolding receive_answer receive_cases
  due_10 h k l = pass 28 _ (le-ltb 103 r.count h) ∙ pass 11 _ (le-ltb 512 (length d) k) ∙ stop 10 _ l

  pub short_output : length out < 320 → (ltb (length out) 320 || ltb (length counts) 40) ≡ true
  short_output h = or_yes (ltb (length counts) 40) (lt-ltb (length out) 320 h)

  pub short_counts : 320 ≤ length out → length counts < 40 → (ltb (length out) 320 || ltb (length counts) 40) ≡ true
  short_counts h k = or_no (ltb (length counts) 40) (le-ltb (length out) 320 h) ∙ lt-ltb (length counts) 40 k

  pub due_none : r.count ≤ 103 → length d ≤ 512 → 320 ≤ length out → 40 ≤ length counts → receive_answer r d out counts ≡ 0
  unfolding receive_answer receive_cases
  due_none h k l m =
      pass 28 _ (le-ltb 103 r.count h)
      ∙ pass 11 _ (le-ltb 512 (length d) k)
      ∙ pass 10 _ (or_no (ltb (length counts) 40) (le-ltb (length out) 320 l) ∙ le-ltb (length counts) 40 m)
      ∙ none_left

  -- a refusal returns the record given and writes nothing
  pub refused : (k : ℕ) (x : Received) → receive_answer r d out counts ≡ k → eqb k 0 ≡ false → x ≡ record { answer = k; frames = 0; receiver = r }
      → (x ≡ received_of r d out counts) × ((out ≡ received_into r d out counts) × (counts ≡ counts_into r d out counts))
  unfolding received_of received_into counts_into
  refused k x e f g =
      let t : eqb (receive_answer r d out counts) 0 ≡ false = ap (λ (n : ℕ). eqb n 0) e ∙ f in
      (g ∙ ap (λ (n : ℕ). record { answer = n; frames = 0; receiver = r }) (sym e) ∙ sym (if_no _ _ t), (sym (if_no _ _ t), sym (if_no _ _ t)))

  module _ (h : r.count ≤ 103) (k : length d ≤ 512) (l : 320 ≤ length out) (m : 40 ≤ length counts) where
    -- the bits from the first that is pending are those of the rule
    pub from_record : (b : List ℕ) → take (128 + length d * 8) (bits b) ≡ bits_of 128 (r.high * 2 ^ 64 + r.low) ++ bits d
        → heard_from b ((16 + length d) * 8) (follows_of r) (128 - r.count) ≡ hearing r d
    unfolding heard_from hearing
    from_record b e =
        let n : (16 + length d) * 8 ≡ 128 + length d * 8 = omega arith in
        let c : 128 ≡ 128 - r.count + r.count = omega arith in
        let x = r.high * 2 ^ 64 + r.low in
        ap (heard (follows_of r))
        (ap (drop (128 - r.count)) (ap (λ (m : ℕ). take m (bits b)) n ∙ e)
        ∙ drop-append-le (128 - r.count) (bits_of 128 x) (bits d) (omega (arith, length_bits_of 128 x))
        ∙ ap (λ (m : List ℕ). m ++ bits d) (ap (λ (m : ℕ). drop (128 - r.count) (bits_of m x)) c ∙ low_part (128 - r.count) r.count x))

    -- a delivery that is taken
    pub taken : (b o ks : List ℕ) (x : Read) (s : Receiver)
        → take (128 + length d * 8) (bits b) ≡ bits_of 128 (r.high * 2 ^ 64 + r.low) ++ bits d
        → Searched b ((16 + length d) * 8) (follows_of r) (128 - r.count) x
        → o ≡ sets out 0 (joined (heard_from b ((16 + length d) * 8) (follows_of r) (128 - r.count)).frames)
        → ks ≡ sets counts 0 (heard_from b ((16 + length d) * 8) (follows_of r) (128 - r.count)).counts
        → s ≡ record_of x.follows (ahead b ((16 + length d) * 8) x.from)
        → (◌≡◌ {A = Received} (record { answer = 0; frames = x.frames; receiver = s }) (received_of r d out counts)) × ((o ≡ received_into r d out counts) × (ks ≡ counts_into r d out counts))
    unfolding received_of received_into counts_into
    taken b o ks x s e f g j i =
        let w = from_record b e in
        let fs = (hearing r d).frames in
        let t : eqb (receive_answer r d out counts) 0 ≡ true = ap (λ (a : ℕ). eqb a 0) (due_none h k l m) in
        let few = at_most_forty r d h k in
        let long : length (joined fs) ≤ length out = omega (arith, eights_joined fs (hearing_sound r d).eights, few) in
        let short : length (hearing r d).counts ≤ length counts = omega (arith, (hearing_sound r d).counted, few) in (
          ap₂ (λ (c : ℕ) (y : Receiver). record { answer = 0; frames = c; receiver = y })
              (f.frames ∙ ap (λ (y : Heard). length y.frames) w)
              (i ∙ ap₂ record_of (f.behind ∙ ap (λ (y : Heard). y.follows) w) (f.pending ∙ ap (λ (y : Heard). y.pending) w))
              ∙ sym (if_yes _ _ t),
          (
            g ∙ ap (λ (y : Heard). sets out 0 (joined y.frames)) w ∙ from_front (joined fs) out long ∙ sym (if_yes _ _ t),
            j ∙ ap (λ (y : Heard). sets counts 0 y.counts) w ∙ from_front (hearing r d).counts counts short ∙ sym (if_yes _ _ t),
          ),
        )
