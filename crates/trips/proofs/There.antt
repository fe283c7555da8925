-- Fields, codes and a body that a writer takes come back from what it writes. Assumes nothing.
use mathlib.Core.Path.{◌≡◌, sym, ap, subst, ◌∙◌}
use mathlib.Core.List.{List, []}
use Prim.Native.Nat.{ℕ}
use mathlib.Core.Bool.{false}
use lib.ListN.{length, drop}
use lib.Seq.{take_at}
use lib.Dec.{eqb}
use borrow.Author.Tests.{eqb-true, eqb-false}
use Rattle.laws.specs.Bits.{Under}
use Rattle.laws.proofs.Cases.{if_yes, if_no}
use Rattle.laws.proofs.Elements.{by_test}
use Rattle.packet.specs.declared.Fields.{Fields}
use Rattle.packet.specs.Table.{kind_of}
use Rattle.packet.specs.Content.{kind_for}
use Rattle.packet.specs.Reading.{Opened, has_entries, opened, body_of}
use Rattle.packet.specs.Writing.{size_for, bytes_for, written_answer, written_by, written, packet_output}
use Rattle.trips.specs.Given.{Typed, packet_of, GivesBack}
use Rattle.trips.proofs.Answers.{write_answer}
use Rattle.trips.proofs.Text.{text_of_packet}
use Rattle.trips.proofs.Taken.{taken}
use Rattle.trips.proofs.Typed.{fitted}
use Rattle.trips.proofs.Reread.{long, opened_is, bytes_under, body_is}

-- what a writer writes is the packet's bytes, as many as its size
pub packet_is : (f : Fields) (codes body out : List ℕ) → Typed f body → (written f codes body (length out)).answer ≡ 0
    → (packet_of f codes body out ≡ bytes_for f codes body) × (Under 256 (packet_of f codes body out)) × (written f codes body (length out) ≡ record { answer = 0; length = length (packet_of f codes body out) })
unfolding written packet_output
packet_is f codes body out t e =
    let h : written_answer f codes body (length out) ≡ 0 = sym (write_answer f codes body (length out)) ∙ e in
    let a = taken f codes body (length out) h in
    let y = fitted f codes body t a in
    let b = bytes_for f codes body in
    let l = long f codes body a y in
    let w : packet_of f codes body out ≡ b = rw h (take_at b (drop (length b) out) (size_for f body) l) in
    (w, subst (λ (x : List ℕ). Under 256 x) (sym w) (bytes_under f codes body a y), ap (λ (n : ℕ). written_by n (size_for f body)) h ∙ ap (λ (n : ℕ). record { answer = 0; length = n }) (sym (ap length w ∙ l)))

-- ---- the theorem
-- Whatever fields, codes and body the writer takes: of the packet that it writes the reader gives the same fields, codes, entries and body, and the text
-- where it is one.
pub fields_come_back : (f : Fields) (codes body out : List ℕ) → Typed f body → (written f codes body (length out)).answer ≡ 0
    → GivesBack f codes body (packet_of f codes body out)
unfolding kind_of
fields_come_back f codes body out t e =
    let a = taken f codes body (length out) (sym (write_answer f codes body (length out)) ∙ e) in
    let y = fitted f codes body t a in
    let w = (packet_is f codes body out t e).0 in
    let r = ap opened w ∙ opened_is f codes body a y in
    let b = ap body_of w ∙ body_is f codes body a y in
    let p = packet_of f codes body out in
    let k : (opened p).fields.typenumber ≡ f.typenumber = ap (λ (o : Opened). o.fields.typenumber) r in
    let text = text_of_packet p (ap (λ (o : Opened). o.answer) r) in
    by_test (eqb f.typenumber 15)
    (λ h.
    let x = text.0 (k ∙ eqb-true _ _ h) in
    let kind : has_entries (kind_for f.content) ≡ false = ap has_entries (sym a.kind ∙ ap kind_of (eqb-true f.typenumber 15 h)) in
    record { all_read = r; body_part = b; text_number = x.0 ∙ sym (if_yes 0 27 h); text_part = x.1 ∙ b ∙ if_no [] body kind ∙ sym (if_yes body [] h) })
    (λ h.
    let x = text.1 (λ z. eqb-false _ _ h (sym k ∙ z)) in
    record { all_read = r; body_part = b; text_number = x.0 ∙ sym (if_no 0 27 h); text_part = x.1 ∙ sym (if_no body [] h) })
