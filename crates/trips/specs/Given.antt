-- What the theorems about packets there and back are said with: values of their types, what goes from writer to reader and from reader to writer, and
-- packets and fields that differ in nothing that is judged.
use Rattle.std.specs.Prelude.{◌≡◌, List, [], Bool, true, cond, ℕ, ◌-◌, ◌*◌, ◌<◌, length, take, drop, eqb}
use Rattle.laws.specs.Bits.{Under}
use Rattle.format.specs.Format.{fill, fine}
use Rattle.packet.specs.declared.Content.{Content}
use Rattle.packet.specs.declared.Fields.{Fields}
use Rattle.packet.specs.Content.{kind_for, numbers_of, count_for}
use Rattle.packet.specs.Reading.{Opened, zeros, padded, has_entries, opened, body_of, text_answer, text_of}
use Rattle.packet.specs.Writing.{row_for, written, packet_output}

-- ---- what the types give (ours: the definitions speak of numbers and lists, the compiler gives the rest)
-- the numbers of a content's untested lines have no more bits than the lines, as their types u16 and u8 give
abbrev pub held : Content → Bool
held c = fine 0 (row_for c).before (fill (row_for c).before (numbers_of c))

-- fields and a body of their types: arrays of their lengths, bytes below 256, a time of 32 bits
pub record Typed (f : Fields) (body : List ℕ) : Type 0 where
  pub digits_long : length f.digits ≡ 35
  pub certificate_long : length f.certificate ≡ 12
  pub signature_long : length f.signature ≡ 64
  pub content_held : held f.content ≡ true
  pub time_held : f.time < 4294967296
  pub signature_held : Under 256 f.signature
  pub body_held : Under 256 body

-- ---- from a writer to a reader (demand 2)
-- the packet that the writer writes: as many bytes from the output's start as it says
abbrev pub packet_of : Fields → List ℕ → List ℕ → List ℕ → List ℕ
packet_of f codes body out = take (written f codes body (length out)).length (packet_output f codes body out)

-- what `read` gives for fields, codes and a body: these, with zeros after the codes, and after the entries where there are any
abbrev pub as_given : Fields → List ℕ → List ℕ → Opened
as_given f codes body =
    record { answer = 0; fields = f; codes = padded 322 codes; entries = padded 272 (cond (has_entries (kind_for f.content)) body []) }

-- the reader's functions give them back of a packet: read, body and text, the last for type 15 alone
pub record GivesBack (f : Fields) (codes body packet : List ℕ) : Type 0 where
  pub all_read : opened packet ≡ as_given f codes body
  pub body_part : body_of packet ≡ cond (has_entries (kind_for f.content)) [] body
  pub text_number : text_answer packet ≡ cond (eqb f.typenumber 15) 0 27
  pub text_part : text_of packet ≡ cond (eqb f.typenumber 15) body []

-- ---- from a reader to a writer (demand 2)
-- what is lent of the codes: as many digits as there are codes
abbrev pub lent_codes : Opened → List ℕ
lent_codes o = take (o.fields.codes * 23) o.codes

-- and for the content: the entries, or the part that is the body
abbrev pub lent_body : Opened → List ℕ → List ℕ
lent_body o part = cond (has_entries (kind_for o.fields.content)) (take (count_for o.fields.content [] * 8) o.entries) part

-- ---- what is never judged (01, What travels): time and signature
-- two packets that differ in nothing else: 74 bytes from the end stands the time, 70 the certificate, 64 the signature
pub record Alike (b c : List ℕ) : Type 0 where
  pub long : length b ≡ length c
  pub front : take (length b - 74) b ≡ take (length b - 74) c
  pub certificate : take 6 (drop (length b - 70) b) ≡ take 6 (drop (length b - 70) c)

-- fields with this time and this signature
abbrev pub signed : Fields → ℕ → List ℕ → Fields
signed f time signature =
    record { typenumber = f.typenumber; codes = f.codes; content = f.content; digits = f.digits; time = time; certificate = f.certificate; signature = signature }

-- what is opened, but for time and signature
abbrev pub unsigned : Opened → Opened
unsigned o = record { answer = o.answer; fields = signed o.fields 0 (zeros 64); codes = o.codes; entries = o.entries }
