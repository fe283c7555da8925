-- Demand 1: each number exactly in its case, and what a refusal leaves as it was. Assumes nothing.
use mathlib.Core.Path.{◌≡◌, sym, subst}
use mathlib.Core.Bool.{true, false}
use mathlib.Core.List.{List}
use Prim.Native.Nat.{ℕ}
use lib.ListN.{length}
use borrow.Author.Tests.{ne_eqb}
use Rattle.laws.specs.Refusals.{Case, first, apart}
use Rattle.laws.proofs.Cases.{if_no}
use Rattle.laws.proofs.Refusals.{exact, done, listed}
use Rattle.frame.specs.Heading.{refusals, no_heading, heading_of}
use Rattle.frame.proofs.Accepted.{refusals_apart}
use Rattle.air.specs.OnAir.{cases, answer_of, aired_of, aired_into}
use Rattle.receiver.specs.declared.Receiver.{Receiver}
use Rattle.receiver.specs.Receive.{received_of, receive_cases, receive_answer, received_into, counts_into}
use Rattle.receiver.proofs.Cutting.{answer_is}
use Rattle.receiver.proofs.Answers.{receive_apart, receive_refused}
use Rattle.collector.specs.declared.Holdings.{Holdings}
use Rattle.collector.specs.Collector.{keeps}
use Rattle.collector.specs.Layout.{offer_due, release_due, copy_due, offer_gives, release_gives, copy_gives, copy_leaves}
use Rattle.collector.proofs.Seen.{offer_answer, release_answer, copy_answer_lem, offer_apart, release_apart, copy_apart}
use Rattle.order.proofs.Numbered.{refused_as_it_was}
use Rattle.promises.specs.Exactly.{Exactly}
use Rattle.promises.proofs.Sent.{numbers_apart}

pub exactly : (cs : List Case) → apart cs ≡ true → Exactly (first cs) cs
exactly cs a = record { each = exact cs a; done = done cs a; listed = listed cs }

receive_exactly : (r : Receiver) (d out counts : List ℕ) → Exactly (received_of r d out counts).answer (receive_cases r d out counts)
unfolding receive_answer
receive_exactly r d out counts = rw (answer_is r d out counts) (exactly (receive_cases r d out counts) (receive_apart r d out counts))

-- Whatever is given to a function that can refuse, each of its numbers comes exactly when its case holds and none before it does, 0 exactly when no
-- case holds, and no other number comes: the heading's reader, the on-air writer, the receiver, and the collector's offer, release and copy.
pub answer_exact : ((frame : List ℕ) → Exactly (heading_of frame).answer (refusals frame))
    × ((packet : List ℕ) (level version : ℕ) (out : List ℕ) → Exactly (aired_of packet level version out).answer (cases packet level version out))
    × ((r : Receiver) (delivery out counts : List ℕ) → Exactly (received_of r delivery out counts).answer (receive_cases r delivery out counts))
    × ((h : Holdings) (frame : List ℕ) → Exactly (offer_gives h frame).answer (offer_due h frame))
    × ((h : Holdings) (level version : ℕ) → Exactly (release_gives h level version).answer (release_due h level version))
    × ((h : Holdings) (level version room : ℕ) → Exactly (copy_gives h level version room).answer (copy_due h level version room))
unfolding heading_of aired_of answer_of
answer_exact = (
  λ f. exactly (refusals f) (refusals_apart f),
  λ p l v out. exactly (cases p l v out) (numbers_apart p l v out),
  receive_exactly,
  λ h f. subst (λ (a : ℕ). Exactly a (offer_due h f)) (sym (offer_answer h f)) (exactly (offer_due h f) (offer_apart h f)),
  λ h l v. subst (λ (a : ℕ). Exactly a (release_due h l v)) (sym (release_answer h l v)) (exactly (release_due h l v) (release_apart h l v)),
  λ h l v n. subst (λ (a : ℕ). Exactly a (copy_due h l v n)) (sym (copy_answer_lem h l v n)) (exactly (copy_due h l v n) (copy_apart h l v n)),
)

-- A refusal leaves everything as it was: a heading refused has fields of zero; a packet refused has no frame and the output as it was; a delivery
-- refused the receiver and both outputs; a frame not kept and a release refused the collector; a copy refused size 0 and the memory lent.
pub refused_unchanged : ((frame : List ℕ) → ((heading_of frame).answer ≡ 0 → ⊥) → (heading_of frame).heading ≡ no_heading)
    × ((packet : List ℕ) (level version : ℕ) (out : List ℕ) → ((aired_of packet level version out).answer ≡ 0 → ⊥) → ((aired_of packet level version out).frames ≡ 0) × (aired_into packet level version out ≡ out))
    × ((r : Receiver) (delivery out counts : List ℕ) → ((received_of r delivery out counts).answer ≡ 0 → ⊥) → ((received_of r delivery out counts).frames ≡ 0) × ((received_of r delivery out counts).receiver ≡ r) × (received_into r delivery out counts ≡ out) × (counts_into r delivery out counts ≡ counts))
    × ((h : Holdings) (frame : List ℕ) → keeps (offer_gives h frame).answer ≡ false → (offer_gives h frame).collector ≡ h)
    × ((h : Holdings) (level version : ℕ) → ((release_gives h level version).answer ≡ 0 → ⊥) → (release_gives h level version).collector ≡ h)
    × ((h : Holdings) (level version : ℕ) (out : List ℕ) → ((copy_gives h level version (length out)).answer ≡ 0 → ⊥) → ((copy_gives h level version (length out)).length ≡ 0) × (copy_leaves h level version out ≡ out))
unfolding heading_of aired_of aired_into
refused_unchanged = (
  λ f z. if_no _ no_heading (ne_eqb _ _ z),
  λ p l v out z. (if_no _ 0 (ne_eqb _ _ z), if_no _ out (ne_eqb _ _ z)),
  receive_refused,
  λ h. (refused_as_it_was h).0,
  λ h. (refused_as_it_was h).1,
  λ h. (refused_as_it_was h).2,
)
