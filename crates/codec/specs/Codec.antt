-- What the functions for C are given and answer where it is not what ours are: fields with a content of numbers, and back.
use Rattle.std.specs.Prelude.{List, ℕ}
use Rattle.packet.specs.declared.Content.{Content}
use Rattle.packet.specs.declared.Fields.{Fields}
use Rattle.packet.specs.Writing.{Written}
use Rattle.packet.specs.Table.{kind_of, type_of}
use Rattle.packet.specs.Content.{parts_of, kind_for, numbers_of}
use Rattle.packet.specs.Reading.{Opened, padded}
use Rattle.packet.specs.InCode.{named_by}
use Rattle.reader.specs.Taking.{Answered, told_of}
use Rattle.codec.specs.declared.PlainContent.{PlainContent}
use Rattle.codec.specs.declared.PlainFields.{PlainFields}
use Rattle.codec.specs.declared.PlainTold.{PlainTold}
use Rattle.codec.specs.declared.PlainWritten.{PlainWritten}

-- a content with its kind's type, 4 for raw; its numbers, then zeros; its count
abbrev pub content_told : Content → PlainContent
content_told c = record { kind = type_of (kind_for c); numbers = padded 6 (numbers_of c); count = (parts_of c).count }

-- what is told, with such a content
abbrev pub plain : Answered → PlainTold
plain t =
    record {
      answer = t.answer;
      fields = record { typenumber = t.typenumber; codes = t.codes; content = content_told t.content; time = t.time; certificate = t.certificate; signature = t.signature };
    }

-- what is opened, but for what goes to arrays: codes, entries, the digits beside the content
abbrev pub told_as : Opened → PlainTold
told_as o = plain (told_of o)

-- and back; any other kind is raw, and a number that is too large keeps the low bytes that its field has
abbrev pub content_from : PlainContent → Content
content_from c = named_by (kind_of c.kind) c.numbers c.count

abbrev pub fields_from : PlainFields → List ℕ → Fields
fields_from f ds =
    record { typenumber = f.typenumber; codes = f.codes; content = content_from f.content; digits = ds; time = f.time; certificate = f.certificate; signature = f.signature }

abbrev pub written_as : Written → PlainWritten
written_as w = record { answer = w.answer; length = w.length }
