-- `reader::read_to`: what its goals need. Assumes nothing.
use mathlib.Core.Path.{◌≡◌, sym, ap, ◌∙◌}
use mathlib.Core.List.{List}
use Prim.Native.Nat.{ℕ}
use Rattle.packet.specs.Reading.{opened}
use Rattle.reader.specs.Taking.{told_of, unless_refused}
use Rattle.reader.proofs.Telling.{opened_none, all_filled, kept_so, opens_so, refused_told, value_told}
use Rattle.reader.proofs.read_to.Goals as goal

pub filled-t-requires : goal.filled-t-requires
filled-t-requires c = record { codes_none = c.zeros.ensures; entries_none = c.zeros-2.ensures; digits_none = c.zeros-3.ensures }

pub returns-then-is_err : goal.returns-then-is_err
returns-then-is_err c = let a = c.args in
    let b = a.packet.now in
    let l = c.filled-t.ensures in
    let no = refused_told c.filled-t.result (sym c.is_err.ensures.value ∙ c.if-is_err.true) in
    let kept : (opens held : List ℕ) → held ≡ unless_refused (opened b) opens held = λ opens held. kept_so b _ opens held l.due no in record {
      told = l.nothing no ∙ sym (ap told_of (opened_none b _ l.due no));
      coded = kept _ a.codes.now;
      listed = kept _ a.entries.now;
      beside = kept _ a.digits.now;
    }

pub returns-else-is_err : goal.returns-else-is_err
returns-else-is_err c = let a = c.args in
    let b = a.packet.now in
    let l = c.filled-t.ensures in
    let none = value_told c.filled-t.result (sym c.is_err.ensures.value ∙ c.if-is_err.false) in
    let zero = sym l.due ∙ none in
    let f = all_filled b _ _ _ _ zero (l.said none) in record {
      told = f.told_is;
      coded = opens_so b _ _ a.codes.now zero f.codes_are;
      listed = opens_so b _ _ a.entries.now zero f.entries_are;
      beside = opens_so b _ _ a.digits.now zero f.digits_are;
    }
