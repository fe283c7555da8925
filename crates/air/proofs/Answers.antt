-- The on-air writer's answers, one law for each way out of the code. Assumes nothing.
use mathlib.Core.Path.{◌≡◌, refl, sym, ap, ap₂, ◌∙◌}
use mathlib.Core.Bool.{true, false, not, ◌&&◌}
use mathlib.Core.List.{List, [], ◌∷◌, ◌++◌}
use Prim.Native.Nat.{ℕ, zero, suc, ◌+◌, ◌*◌, ◌<◌, ◌≤◌}
use native.Mathlib.Omega.{arith}
use lib.ListN.{length, drop, length-append}
use lib.Seq.{sets}
use lib.Dec.{eqb, leb}
use borrow.Author.Tests.{eq-eqb, ne_eqb, lt-ltb, le-ltb, leb-true}
use Rattle.laws.proofs.Cases.{if_yes, if_no, and_both}
use Rattle.laws.proofs.Refusals.{stop, pass, none_left}
use Rattle.laws.proofs.Writes.{from_front}
use Rattle.size.specs.Size.{packet_size}
use Rattle.frame.specs.declared.Number.{Number}
use Rattle.frame.specs.Heading.{reserved}
use Rattle.frame.specs.OnAir.{air_bytes, stream_of}
use Rattle.air.specs.OnAir.{frames_for, frames_from, frames_of, sized, cases, answer_of, aired_of, aired_into}
use Rattle.frame.proofs.OnAir.{length_air}

-- so many frames, so many bytes
pub length_frames : (p : List ℕ) (l v : ℕ) (k : Number) (n : ℕ) → length (frames_from p l v k n) ≡ n
unfolding frames_from
length_frames p l v k zero = refl
length_frames p l v k (suc n) = ap suc (length_frames p l v (record { 0 = k.0 + 1 }) n)

pub length_stream : (fs : List (List ℕ)) → length (stream_of fs) ≡ 13 * length fs
unfolding stream_of
length_stream [] = refl
length_stream (f ∷ fs) = length-append (air_bytes f) (stream_of fs) ∙ omega (arith, length_air f, length_stream fs)

pub sized_short : (p : List ℕ) → sized p ≡ true → length p ≤ 250
unfolding sized
sized_short p e =
    let a = and_both (leb 2 (length p)) (leb (length p) 250 && eqb (length p) (packet_size p)) e in
    leb-true _ _ (and_both (leb (length p) 250) (eqb (length p) (packet_size p)) a.1).0

module _ (p : List ℕ) (l v : ℕ) (out : List ℕ) where
  -- a refusal hands back no count and leaves the output
  refused : (n : ℕ) → (n ≡ 0 → ⊥) → answer_of p l v out ≡ n → (record { answer = n; frames = 0 } ≡ aired_of p l v out) × (out ≡ aired_into p l v out)
  unfolding aired_of aired_into
  refused n z e =
      let no : eqb (answer_of p l v out) 0 ≡ false = ne_eqb _ _ (λ (q : answer_of p l v out ≡ 0). z (sym e ∙ q)) in
      (ap₂ (λ (a k : ℕ). record { answer = a; frames = k }) (sym e) (sym (if_no (frames_for (length p)) 0 no)), sym (if_no _ out no))

  pub says_20 : sized p ≡ false → (record { answer = 20; frames = 0 } ≡ aired_of p l v out) × (out ≡ aired_into p l v out)
  unfolding answer_of cases
  says_20 e = refused 20 (λ (z : 20 ≡ 0). omega arith) (stop _ _ (ap not e))

  module _ (es : sized p ≡ true) where
    pub says_13 : reserved l ≡ true → (record { answer = 13; frames = 0 } ≡ aired_of p l v out) × (out ≡ aired_into p l v out)
    unfolding answer_of cases
    says_13 e = refused 13 (λ (z : 13 ≡ 0). omega arith) (pass _ _ (ap not es) ∙ stop _ _ e)

    module _ (er : reserved l ≡ false) where
      pub says_27 : 31 < v → (record { answer = 27; frames = 0 } ≡ aired_of p l v out) × (out ≡ aired_into p l v out)
      unfolding answer_of cases
      says_27 h = refused 27 (λ (z : 27 ≡ 0). omega arith) (pass _ _ (ap not es) ∙ pass _ _ er ∙ stop _ _ (lt-ltb _ _ h))

      module _ (hv : v ≤ 31) where
        pub says_10 : length out < 13 * frames_for (length p) → (record { answer = 10; frames = 0 } ≡ aired_of p l v out) × (out ≡ aired_into p l v out)
        unfolding answer_of cases
        says_10 h =
            refused 10 (λ (z : 10 ≡ 0). omega arith) (pass _ _ (ap not es) ∙ pass _ _ er ∙ pass _ _ (le-ltb _ _ hv) ∙ stop _ _ (lt-ltb _ _ h))

        nothing_due : 13 * frames_for (length p) ≤ length out → answer_of p l v out ≡ 0
        unfolding answer_of cases
        nothing_due h = pass _ _ (ap not es) ∙ pass _ _ er ∙ pass _ _ (le-ltb _ _ hv) ∙ pass _ _ (le-ltb _ _ h) ∙ none_left

        -- what is sent stands first, and the rest as it was
        pub says_0 : 13 * frames_for (length p) ≤ length out → (n : ℕ) → n ≡ frames_for (length p) → (last : List ℕ) → last ≡ sets out 0 (stream_of (frames_of p l v))
            → (record { answer = 0; frames = n } ≡ aired_of p l v out) × (last ≡ aired_into p l v out)
        unfolding aired_of aired_into frames_of
        says_0 h n en last el =
            let e = nothing_due h in
            let go : eqb (answer_of p l v out) 0 ≡ true = eq-eqb _ _ e in
            let s = stream_of (frames_of p l v) in
            let k : length s ≡ 13 * frames_for (length p) = length_stream (frames_of p l v) ∙ ap (λ (m : ℕ). 13 * m) (length_frames p l v (record { 0 = 0 }) (frames_for (length p))) in (
              ap₂ (λ (a m : ℕ). record { answer = a; frames = m }) (sym e) (en ∙ sym (if_yes (frames_for (length p)) 0 go)),
              el ∙ from_front s out (omega arith) ∙ ap (λ (m : ℕ). s ++ drop m out) k ∙ sym (if_yes _ out go),
            )
