-- What `comes_round` asks can be met: the message of the examples, and an old half of one frame. Assumes nothing.
use mathlib.Core.Path.{◌≡◌, refl, sym, subst}
use mathlib.Core.List.Memᴰ
use mathlib.Core.List.{List, [], ◌∷◌, ◌++◌, Memᴰ}
use mathlib.Core.Logic.{⊎_elim}
use mathlib.Core.Option.{some}
use mathlib.Core.Bool.{true, false, false≢true}
use Prim.Native.Nat.{ℕ}
use native.Mathlib.Omega.{arith}
use Rattle.laws.specs.Poly.{reduce, remainder}
use Rattle.laws.specs.Bits.{at, bits_of, spread}
use Rattle.laws.specs.Below.{below}
use Rattle.laws.specs.Scan.{all, index_of}
use Rattle.laws.specs.Refusals.{first}
use Rattle.crc.specs.Crc16.{times_byte, taken, taken_all, crc16}
use Rattle.frame.specs.declared.Total.{Total}
use Rattle.frame.specs.Heading.{fixed, reserved, outside, refusals, heading_fields, heading_of, accepted}
use Rattle.size.specs.Size.{packet_size}
use Rattle.collector.specs.declared.Collector.{Collector}
use Rattle.collector.specs.Whole.{sized, checked, filled, passes}
use Rattle.collector.specs.Places.{astray, marks_below, complete, fair, contradicts, again, taken_for, stored, whole, spoiled}
use Rattle.collector.specs.Collector.{nothing, good, index_of_pair, index_of_free, piece_of, spot, after, take_cases, keeps, offer_cases, offered}
use Rattle.order.specs.Held.{place_at, four_at, held_place, holds, offer_all}
use Rattle.order.specs.Given.{pieces, of_pair, contradict, first_of, full, joined_to, joined_by, given}
use Rattle.order.specs.Rounds.{Message, Through, Unmixed, whole_since, WholeWith}
use Rattle.order.specs.Examples.{zeroth, second, third, unlike}
use Rattle.order.proofs.Keeping.{empty_good}
use Rattle.order.proofs.Offering.{all_good}
use Rattle.order.proofs.Round.{comes_round}

abbrev message : List (List ℕ)
message = zeroth ∷ second ∷ third ∷ []

abbrev three : Total
three = record { 0 = 3 }

each_of : (P : List ℕ → Type 0) → P zeroth → P second → P third → (f : List ℕ) → Memᴰ f message → P f
each_of P a b c f m =
    ⊎_elim (λ (e : f ≡ zeroth). subst P (sym e) a)
    (λ i.
    ⊎_elim (λ (e : f ≡ second). subst P (sym e) b)
    (λ j. ⊎_elim (λ (e : f ≡ third). subst P (sym e) c) (λ k. absurd (Memᴰ.not-nil k)) (Memᴰ.cases_cons j))
    (Memᴰ.cases_cons i))
    (Memᴰ.cases_cons m)

a_message : Message 5 3 three message
unfolding below first at bits_of spread reduce remainder times_byte taken crc16 fixed reserved outside refusals heading_fields heading_of accepted packet_size sized checked filled passes pieces contradict first_of full joined_to
a_message =
    record {
      accept = each_of (λ f. accepted f ≡ true) refl refl refl;
      own = each_of (λ f. of_pair 5 3 (piece_of f) ≡ true) refl refl refl;
      total = each_of (λ f. (piece_of f).heading.total ≡ three) refl refl refl;
      clear = λ f g i j.
          each_of (λ h. (k : List ℕ) → Memᴰ k message → contradict (piece_of h) (piece_of k) ≡ false)
          (each_of (λ k. contradict (piece_of zeroth) (piece_of k) ≡ false) refl refl refl)
          (each_of (λ k. contradict (piece_of second) (piece_of k) ≡ false) refl refl refl)
          (each_of (λ k. contradict (piece_of third) (piece_of k) ≡ false) refl refl refl)
          f i g j;
      counts = omega arith;
      every = refl;
      pass = refl;
    }

abbrev half : Collector
half = offer_all nothing (unlike ∷ [])

half_held : held_place 5 3 half.places ≡ some (place_at half 0)
unfolding below index_of first at bits_of spread fixed reserved outside refusals heading_fields astray marks_below complete fair contradicts again taken_for stored whole spoiled good index_of_pair index_of_free spot after take_cases keeps offer_cases offered offer_all held_place
half_held = refl

half_open : whole (place_at half 0) ≡ false
unfolding below index_of first at bits_of spread fixed reserved outside refusals heading_fields astray marks_below complete fair contradicts again taken_for stored whole spoiled good index_of_pair index_of_free spot after take_cases keeps offer_cases offered offer_all
half_open = refl

half_unmixed : Unmixed half 5 3 three message
unfolding below index_of first at bits_of spread reduce remainder times_byte taken crc16 fixed reserved outside refusals heading_fields heading_of accepted packet_size sized checked filled passes astray marks_below complete fair contradicts again taken_for stored whole spoiled good index_of_pair index_of_free spot after take_cases keeps offer_cases offered offer_all held_place holds four_at pieces first_of joined_to
half_unmixed t e = absurd (false≢true e)

-- The message sent twice through after an old half of one frame.
pub rounded : WholeWith 5 3 three (joined_by three (given (pieces message) 5 3)) (offer_all half (message ++ message)) × (whole_since 5 3 half (message ++ message) 0 ≡ 1)
rounded =
    let through : Through message message = record { only = λ f m. m; each = λ f m. m } in
    comes_round 5 3 three message message message half (place_at half 0) (all_good (unlike ∷ []) nothing empty_good) a_message through through half_held half_open half_unmixed
