-- What an answer of 0 says of the fields, and that the bits put are the packet's bytes. Assumes nothing.
use mathlib.Core.Path.{◌≡◌, refl, sym, ap, ap₂, ◌∙◌}
use mathlib.Core.Bool.{Bool, true, false, not, ◌&&◌, ◌||◌, false≢true}
use mathlib.Core.List.{List, [], ◌∷◌, ◌++◌}
use Prim.Native.Nat.{ℕ, zero, suc, ◌+◌, ◌*◌, ◌/◌, ◌≤◌}
use native.Mathlib.Omega.{arith}
use lib.Dec.{ltb, eqb}
use lib.ListN.{length, drop}
use lib.Seq.{sets, drop-nil, drop-append-add}
use borrow.Author.Tests.{ltb-false}
use Rattle.laws.specs.Bits.{bits, bytes, spread, bits_of}
use Rattle.laws.proofs.Bits.{Under, length_bits_of, length_spread, length_run, under_run, under_append, bytes_bits, bits_bytes, spread_append, under_drop}
use Rattle.laws.proofs.Refusals.{not_due}
use Rattle.laws.proofs.Writes.{from_front}
use Rattle.format.specs.Format.{encode, need, fine}
use Rattle.format.proofs.Round.{under_encode}
use Rattle.packet.specs.declared.Counting.{Counting}
use Rattle.packet.specs.declared.Counting.TheVariants as counting
use Rattle.packet.specs.declared.Content.{Content}
use Rattle.packet.specs.Table.{count_by}
use Rattle.packet.specs.declared.Fields.{Fields}
use Rattle.packet.specs.Writing.{Written, row_for, size_for, table_for, values_for, bytes_for, lent_bad, other_type, body_lost, digits_lost, count_bad, digit_bad, not_taken, written_answer, written_by, written, packet_output}
use Rattle.packet.specs.Content.{parts_of, kind_for, count_for, no_such_day}
use Rattle.packet.proofs.Bytes.{bytes_least}
use Rattle.packet.proofs.Contents.{content_known}
use Rattle.writer.specs.Parts.{Lent, Writable, bytes_of}
use Rattle.packet.proofs.Lent.{one_each, lent_enough, lent_by}
use Rattle.writer.proofs.Taken.{good_counts}
use Rattle.writer.proofs.Size.{size_is, content_bits}
use Rattle.writer.proofs.Together.{code_size, packet_long}
use Rattle.packet.proofs.Refused.{not_written_lem}

-- ---- lists of bits
drop_bits : (n : ℕ) (xs : List ℕ) → drop (8 * n) (bits xs) ≡ bits (drop n xs)
unfolding spread
drop_bits zero xs = refl
drop_bits (suc n) [] = drop-nil (8 * suc n)
drop_bits (suc n) (x ∷ xs) =
    let e : 8 * suc n ≡ length (bits_of 8 x) + 8 * n = omega (arith, length_bits_of 8 x) in
    ap (λ (k : ℕ). drop k (bits_of 8 x ++ bits xs)) e ∙ drop-append-add (bits_of 8 x) (bits xs) (8 * n) ∙ drop_bits n xs

-- ---- an answer of 0
pub record Passed (f : Fields) (codes body : List ℕ) (room : ℕ) : Type 0 where
  pub counts : count_bad f codes body ≡ false
  pub taken : not_taken f codes body ≡ false
  pub small : size_for f body ≤ 250
  pub room_enough : size_for f body ≤ room

pub passed : (f : Fields) (codes body : List ℕ) (room : ℕ) → written_answer f codes body room ≡ 0 → Passed f codes body room
unfolding written_answer
passed f codes body room e =
    let a = not_due _ 23 _ (λ h. omega arith) e in
    let b = not_due (count_bad f codes body) 26 _ (λ h. omega arith) a.1 in
    let c = not_due (digit_bad f codes body) 25 _ (λ h. omega arith) b.1 in
    let d = not_due (not_taken f codes body) 27 _ (λ h. omega arith) c.1 in
    let s = not_due (ltb 250 (size_for f body)) 20 _ (λ h. omega arith) d.1 in
    let r = not_due (ltb room (size_for f body)) 10 _ (λ h. omega arith) s.1 in
    record { counts = b.0; taken = d.0; small = ltb-false 250 (size_for f body) s.0; room_enough = ltb-false room (size_for f body) r.0 }

-- all of the body is the content's
body_of_lem : (f : Fields) (codes body : List ℕ) → not_taken f codes body ≡ false → body_lost (row_for f.content).counting (length body) ≡ false
unfolding not_taken
body_of_lem f codes body e =
    second (other_type f) (body_lost (row_for f.content).counting (length body)) (digits_lost f.content f.digits || ((eqb f.typenumber 1 && not (eqb f.codes 0)) || (not (fine 27 (table_for f body) (values_for f codes body)) || no_such_day f.content))) e
  where
    second : (a b c : Bool) → (a || (b || c)) ≡ false → b ≡ false
    second true b c h = absurd (false≢true (sym h))
    second false true c h = absurd (false≢true (sym h))
    second false false c h = refl

-- a raw body is no longer than its packet
raw_short : (c : Content) (body : List ℕ) (n : ℕ) → 77 + 12 * n + bytes_of c (length body) ≤ 250 → (row_for c).counting ≡ counting.Raw → length body ≤ 255
raw_short c body n h q =
    let e : count_for c body ≡ length body = ap (λ (s : Counting). count_by s (parts_of c).count (length body)) q in
    omega (arith, e, bytes_least (kind_for c) (parts_of c).count (length body), h)

few_by : (s : Counting) (k w : ℕ) (body : List ℕ) → lent_bad s (count_by s k (length body)) w (length body) ≡ false → (s ≡ counting.Raw → length body ≤ 255) → count_by s k (length body) ≤ 255
few_by counting.Fixed k w body b r = omega arith
few_by counting.Counted k w body b r = (lent_enough k w body b).0
few_by counting.Raw k w body b r = r refl
few_by counting.Unknown k w body b r = omega arith

lent_of : (c : Content) (body : List ℕ) → body_lost (row_for c).counting (length body) ≡ false → lent_bad (row_for c).counting (count_for c body) (need (row_for c).each) (length body) ≡ false → ((row_for c).counting ≡ counting.Raw → length body ≤ 255) → Lent c body
lent_of c body l b r =
    record {
      few = few_by (row_for c).counting (parts_of c).count (need (row_for c).each) body b r;
      numbers = lent_by (parts_of c).count (need (row_for c).each) body (row_for c).counting (one_each (kind_for c)) (content_known c) l b;
    }

pub writable : (f : Fields) (codes body : List ℕ) (room : ℕ) → Passed f codes body room → Writable f codes body
writable f codes body room p =
    let g = good_counts f codes body p.counts in
    let s = p.small in
    record { counts = g.counts; lent = lent_of f.content body (body_of_lem f codes body p.taken) g.bad (raw_short f.content body f.codes (omega (arith, size_is f body))); small = s }

-- ---- bits and bytes
-- bits put from the first on are the bytes of those bits, and the rest as it was
pub bytes_put : (last out e : List ℕ) (p : ℕ) → Under 256 last → Under 256 out → Under 2 e → length e ≡ 8 * p → p ≤ length out → bits last ≡ sets (bits out) 0 e → last ≡ bytes e ++ drop (length (bytes e)) out
bytes_put last out e p ul uo ue l h w =
    let lo = length_spread 8 out in
    let m : length (bytes e) ≡ p = length_run e 0 (length e / 8) 8 ∙ omega arith in
    let front : sets (bits out) 0 e ≡ e ++ drop (length e) (bits out) = from_front e (bits out) (omega arith) in
    let target : bits (bytes e ++ drop p out) ≡ e ++ drop (length e) (bits out) =
    spread_append 8 (bytes e) (drop p out) ∙ ap₂ (λ (x y : List ℕ). x ++ y) (bits_bytes e ue (omega arith)) (sym (drop_bits p out) ∙ ap (λ (n : ℕ). drop n (bits out)) (sym l)) in
    sym (bytes_bits last ul)
    ∙ ap bytes (w ∙ front ∙ sym target)
    ∙ bytes_bits (bytes e ++ drop p out) (under_append 256 (bytes e) (drop p out) (under_run e 0 (length e / 8) 8 ue) (under_drop 256 p out uo))
    ∙ ap (λ (n : ℕ). bytes e ++ drop n out) (sym m)

-- ---- what `judged` gives
answered : (a p : ℕ) (w : Written) → w ≡ written_by a p → (w.answer ≡ a) × (a ≡ 0 → w.length ≡ p)
answered zero p w e = (ap (λ (x : Written). x.answer) e, λ z. ap (λ (x : Written). x.length) e)
answered (suc a) p w e = (ap (λ (x : Written). x.answer) e, λ z. absurd (omega arith))

module _ (f : Fields) (codes body out : List ℕ) (w : Written) (e : w ≡ written f codes body (length out)) where
  said : (w.answer ≡ written_answer f codes body (length out)) × (written_answer f codes body (length out) ≡ 0 → w.length ≡ size_for f body)
  unfolding written
  said = answered (written_answer f codes body (length out)) (size_for f body) w e

  pub refused : (w.answer ≡ 0 → ⊥) → out ≡ packet_output f codes body out
  unfolding packet_output
  refused n =
      sym (not_written_lem (written_answer f codes body (length out)) (size_for f body) (bytes_for f codes body) out (λ z. n (said.0 ∙ z))).1

  module _ (z : w.answer ≡ 0) where
    zero_answer : written_answer f codes body (length out) ≡ 0
    zero_answer = sym said.0 ∙ z

    pub ready : Writable f codes body × (w.length ≡ size_for f body) × (w.length ≤ length out)
    ready =
        let g = passed f codes body (length out) zero_answer in
        let l = said.1 zero_answer in
        (writable f codes body (length out) g, l, omega (arith, g.room_enough))

    pub done : (d : length f.digits ≡ 35) (lc : length f.certificate ≡ 12) (ls : length f.signature ≡ 64) (last : List ℕ) → Under 256 last → Under 256 out → bits last ≡ sets (bits out) 0 (encode (table_for f body) (values_for f codes body)) → last ≡ packet_output f codes body out
    unfolding packet_output bytes_for
    done d lc ls last ul uo b =
        let g = ready in
        let q = size_is f body in
        let l = packet_long f codes body g.0.counts d lc ls in
        let k = content_bits f.content body in
        let m = ap (λ (n : ℕ). f.codes * n) code_size in
        rw zero_answer (bytes_put last out (encode (table_for f body) (values_for f codes body)) (size_for f body) ul uo (under_encode (table_for f body) (values_for f codes body)) (omega arith) (omega arith) b)
