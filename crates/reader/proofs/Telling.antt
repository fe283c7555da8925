-- A packet whose sizes are right: what its parts ask, what they are due together, and what it says. Assumes nothing.
use mathlib.Core.Path.{◌≡◌, refl, sym, ap, ap₂, subst, ◌∙◌}
use mathlib.Core.Bool.{Bool, true, false, not, cond, ◌&&◌, and-true}
use mathlib.Core.List.{List, [], ◌++◌}
use Prim.Native.Nat.{min, ℕ, zero, suc, ◌+◌, ◌-◌, ◌*◌, ◌<◌, ◌≤◌}
use native.Mathlib.Omega.{arith}
use lib.ListN.{length, drop}
use lib.Seq.{sets}
use lib.Dec.{eqb}
use borrow.Author.Tests.{eqb-true, eqb-false, eq-eqb, ne_eqb}
use borrow.Author.Rules.{rules}
use Rattle.laws.specs.Bits.{run, bits}
use Rattle.laws.proofs.Bits.{length_run}
use Rattle.laws.specs.Refusals.{first}
use Rattle.laws.proofs.Cases.{if_yes, if_no, or_yes, or_no}
use Rattle.laws.proofs.Elements.{by_test}
use Rattle.format.specs.Format.{digits, times, size, inside, decode, fine}
use Rattle.packet.specs.declared.Kind.{Kind}
use Rattle.packet.specs.declared.Content.{Content}
use Rattle.packet.specs.Table.{row_of, code, ending, content_lines}
use Rattle.packet.specs.Content.{content_of, numbers_in, no_such_day}
use Rattle.packet.specs.Reading.{Opened, read_answer, opened, opened_by, refused_as, no_fields, fields_of, codes_in, kind_in, part_at, numbers_at, front_in, body_in, back_in, content_in, digits_in, codes_of, zeros, padded, has_entries, is_unknown, table_of, values_in, read_cases}
use Rattle.packet.proofs.Column.{content_size_lem}
use Rattle.packet.proofs.Refused.{not_opened}
use Rattle.reader.specs.Due.{asked, passing, answer_by, Judged}
use Rattle.packet.specs.declared.RowLines.{RowLines}
use Rattle.packet.specs.declared.Sizes.{Sizes}
use Rattle.std.specs.Prelude.{Result, Ok, Err, is_err}
use Rattle.refusal.specs.declared.Refusal.{Refusal}
use Rattle.refusal.proofs.Numbers.{some_number, same_number}
use Rattle.reader.specs.declared.Told.{Told}
use Rattle.reader.specs.Taking.{Holding, Beside, Right, Blank, Long, Answered, told_of, told, tells, unless_refused, Filled, Lined}
use Rattle.reader.proofs.Due.{both, judged_same, line_fine, line_due, asked_some, asked_not, asked_cases}
use Rattle.reader.proofs.Zeros.{full, kept, length_zeros}
use Rattle.reader.proofs.Whole as whole

-- ---- the answer by what the lines are due
says_due : (b : List ℕ) (d : ℕ) → Judged (λ (a : ℕ). fine a (table_of b) (values_in b)) d → d < 255 → d ≡ first (drop 3 (read_cases b))
says_due b d j l =
    let y = j.due l in
    let at : (n : ℕ) → d ≡ n → fine n (table_of b) (values_in b) ≡ false = λ n e. subst (λ (a : ℕ). fine a (table_of b) (values_in b) ≡ false) e y.1 in
    asked_cases d y.0 (λ e. e ∙ whole.says_24 b (at 24 e)) (λ e. e ∙ whole.says_25 b (j.fine 24 refl (omega arith)) (at 25 e))
    (λ e. e ∙ whole.says_27 b (j.fine 24 refl (omega arith)) (j.fine 25 refl (omega arith)) (or_yes _ (ap not (at 27 e))))

pub says : (b : List ℕ) (d : ℕ) (day : Bool) → Judged (λ (a : ℕ). fine a (table_of b) (values_in b)) d → d < 256 → day ≡ no_such_day (content_in b) → answer_by d day ≡ first (drop 3 (read_cases b))
says b d day j l e =
    by_test (eqb d 255)
    (λ t. let f : (k : ℕ) → asked k ≡ true → k < 255 → fine k (table_of b) (values_in b) ≡ true = λ k a m. j.fine k a (omega (arith, eqb-true d 255 t)) in
    if_yes (cond day 27 0) d t
    ∙ by_test day
    (λ s. if_yes 27 0 s ∙ whole.says_27 b (f 24 refl (omega arith)) (f 25 refl (omega arith)) (or_no _ (ap not (f 27 refl (omega arith))) ∙ sym e ∙ s))
    (λ s. if_no 27 0 s ∙ whole.says_0 b (f 24 refl (omega arith)) (f 25 refl (omega arith)) (or_no _ (ap not (f 27 refl (omega arith))) ∙ sym e ∙ s)))
    (λ t. if_no (cond day 27 0) d t ∙ says_due b d j (omega (arith, eqb-false d 255 t)))

-- ---- what follows the content is due only for its digits
ending_due : (l : List ℕ) (e : ℕ) (good : Bool) → good ≡ inside 0 9 (run l (e + 32) 12 4) → Judged (λ (a : ℕ). fine a ending (decode ending l e)) (cond good 255 25)
unfolding fine decode
ending_due l e good g = judged_same (passing (digits 12) good) _ _ same (by_test good (λ t. rw t (line_fine (digits 12) true refl)) (λ t. rw t (line_due (digits 12) false refl (λ z. omega arith) refl)))
  where
    same : (k : ℕ) → asked k ≡ true → passing (digits 12) good k ≡ fine k ending (decode ending l e)
    same k a =
        let no : eqb 0 k ≡ false = ne_eqb 0 k (λ x. asked_some k a (sym x)) in
        rw (no, g) (sym (and-true _))

module _ (f : Kind) (s : RowLines) (z : Sizes) (n k : ℕ) (b : List ℕ) (h : Right f s z n k b) where
  S : whole.Sized b
  S = whole.sized b h.sized

  pub few_codes : n ≤ 14
  few_codes = omega (arith, h.many, S.least, S.most)

  pub codes_there : 77 + 12 * n ≤ length b
  codes_there = omega (arith, h.many, S.least)

  pub most : length b ≤ 250
  most = S.most

  long : size (content_lines (row_of f) k) ≡ 8 * (length b - 77 - 12 * n)
  long = rw (h.kind, h.count, h.many) (whole.right_size b h.long)

  pub holding : (d o : List ℕ) → d ≡ zeros 35 → o ≡ zeros 272 → Holding f s z k (length b) (24 + 96 * n) d o
  holding d o e g =
      record {
        row = h.row;
        sizes = h.sizes;
        count = rw h.count (whole.count_small b S.most);
        known = h.known;
        start = omega arith;
        behind = omega arith;
        inside = omega (arith, long, content_size_lem (row_of f) k, codes_there);
        short = S.most;
        none = e;
        also_none = g;
      }

  pub packet_due : (u v d : ℕ) (good : Bool) → good ≡ inside 0 9 (run (bits b) ((length b - 64) * 8 - 12 * 4) 12 4)
      → Judged (λ (a : ℕ). fine a (times n code) (decode (times n code) (bits b) 24)) u → Judged (λ (a : ℕ). fine a (content_lines (row_of f) k) (decode (content_lines (row_of f) k) (bits b) (24 + 96 * n))) v
      → d ≡ min (min u (cond good 255 25)) v → Judged (λ (a : ℕ). fine a (table_of b) (values_in b)) d
  packet_due u v d good g ju jv e =
      let m = length b - 77 - 12 * n in
      let p : (length b - 64) * 8 - 12 * 4 ≡ 24 + 96 * n + 8 * m + 32 = omega (arith, codes_there) in
      let je = ending_due (bits b) (24 + 96 * n + 8 * m) good (g ∙ ap (λ (x : ℕ). inside 0 9 (run (bits b) x 12 4)) p) in
      let F : ℕ → Bool = λ a. fine a (times n code) (decode (times n code) (bits b) 24) && fine a ending (decode ending (bits b) (24 + 96 * n + 8 * m)) in
      let H : ℕ → Bool = λ a. fine a (content_lines (row_of f) k) (decode (content_lines (row_of f) k) (bits b) (24 + 96 * n)) in
      both F H (λ (a : ℕ). fine a (table_of b) (values_in b)) _ v d (both _ _ F u _ _ ju je (λ a x. refl) refl) jv
      (λ a x. whole.packet_parts a b (asked_not a x) (whole.right_size b h.long) ∙ ap₂ ◌&&◌ (sym (whole.frame_at a b n m h.many (ap (λ (y : ℕ). length b - 77 - 12 * y) h.many))) (sym (whole.content_here a b f k n h.kind h.count h.many)))
      e

  -- its answer is what its lines are due
  pub answer_is : (a : ℕ) → a ≡ first (drop 3 (read_cases b)) → a ≡ read_answer b
  answer_is a e = whole.then_lines b h.sized (sym (ap is_unknown h.kind) ∙ h.known) h.long a e

  -- ---- what it says
  pub content_is : (c : Content) → c ≡ content_of f (numbers_at (row_of f).before b (24 + 96 * n)) k → c ≡ content_in b
  unfolding front_in
  content_is c e = e ∙ rw (h.kind, h.many, h.count)

  pub digits_are : (d e : List ℕ) → Beside f k b (24 + 96 * n) d e → d ≡ padded 35 (digits_in b)
  unfolding front_in back_in
  digits_are d e x = x.digits_are ∙ rw (h.kind, h.many, h.count)

  pub entries_are : (d e : List ℕ) → Beside f k b (24 + 96 * n) d e → e ≡ padded 272 (cond (has_entries (kind_in b)) (body_in b) [])
  unfolding body_in
  entries_are d e x = x.entries_are ∙ rw (h.kind, h.many, h.count)

  pub codes_are : (o : List ℕ) → o ≡ padded 322 (numbers_at (times n code) b 24) → o ≡ padded 322 (codes_of b)
  unfolding codes_of
  codes_are o e = e ∙ rw h.many

  pub certificate_is : (z o : List ℕ) → z ≡ zeros 12 → o ≡ sets z 0 (run (bits b) ((length b - 64) * 8 - 12 * 4) 12 4) → o ≡ run (bits b) (8 * (length b - 70)) 12 4
  certificate_is z o e g =
      let p : (length b - 64) * 8 - 12 * 4 ≡ 8 * (length b - 70) = omega (arith, codes_there) in
      full 12 z o (run (bits b) ((length b - 64) * 8 - 12 * 4) 12 4) e g (length_run (bits b) ((length b - 64) * 8 - 12 * 4) 12 4) ∙ ap (λ (x : ℕ). run (bits b) x 12 4) p

-- the arrays keep their lengths
pub long_all : (codes entries digits o e d xs : List ℕ) (f : Kind) (k q : ℕ) (b : List ℕ) → Blank codes entries digits → o ≡ sets codes 0 xs → Beside f k b q d e → Long o e d
long_all codes entries digits o e d xs f k q b h p x =
    record {
      codes_long = kept 322 codes o xs 0 (length_zeros 322 codes h.codes_none) p;
      entries_long = kept 272 (zeros 272) e (cond (has_entries f) (numbers_at (times k (row_of f).each) b (q + part_at (row_of f))) []) 0 (length_zeros 272 (zeros 272) refl) x.entries_are;
      digits_long = kept 35 (zeros 35) d (drop (numbers_in f) (numbers_at (row_of f).before b q) ++ numbers_at (row_of f).after b (q + (part_at (row_of f) + k * size (row_of f).each))) 0 (length_zeros 35 (zeros 35) refl) x.digits_are;
    }

-- all that is told beside 0
pub told_all : (b : List ℕ) (n : ℕ) (c : Content) (y : List ℕ) → n ≡ codes_in b → c ≡ content_in b → y ≡ run (bits b) (8 * (length b - 70)) 12 4 → tells b n c y ≡ told_of (opened_by 0 b)
unfolding fields_of
told_all b n c y en ec ey = rw (en, ec, ey)

pub digits_told : (b d : List ℕ) → d ≡ padded 35 (digits_in b) → d ≡ (opened_by 0 b).fields.digits
unfolding fields_of
digits_told b d e = e

-- ---- what is opened beside a number, and beside 0
pub opened_none : (b : List ℕ) (a : ℕ) → a ≡ read_answer b → (a ≡ 0 → ⊥) → opened b ≡ refused_as a
unfolding opened
opened_none b a e n = not_opened (read_answer b) b (λ h. n (e ∙ h)) ∙ ap refused_as (sym e)

-- a packet that is refused before its lines are looked at
pub refused_lined : (b : List ℕ) (a : ℕ) (t : Answered) (codes entries digits : List ℕ) → a ≡ read_answer b → (a ≡ 0 → ⊥) → t ≡ told_of (refused_as a) → Blank codes entries digits → Lined b t codes entries digits
refused_lined b a t codes entries digits e n g h =
    let x : t.answer ≡ a = ap (λ (y : Answered). y.answer) g in
    record {
      due = x ∙ e;
      said = λ z. absurd (n (sym x ∙ z));
      nothing = λ z. g ∙ ap (λ (y : ℕ). told_of (refused_as y)) (sym x);
      long = record { codes_long = length_zeros 322 codes h.codes_none; entries_long = length_zeros 272 entries h.entries_none; digits_long = length_zeros 35 digits h.digits_none };
    }

-- what the lines say is what is opened beside 0
pub all_filled : (b : List ℕ) (t : Answered) (codes entries digits : List ℕ) → read_answer b ≡ 0 → Filled (opened_by 0 b) t codes entries digits → Filled (opened b) t codes entries digits
unfolding opened
all_filled b t codes entries digits e h = rw e h

-- and that is a record of what is told with the arrays in it
pub opened_of : (o : Opened) (t : Answered) (codes entries digits : List ℕ) → Filled o t codes entries digits
    → ◌≡◌ {A = Opened}
    (record { answer = t.answer; fields = record { typenumber = t.typenumber; codes = t.codes; content = t.content; digits = digits; time = t.time; certificate = t.certificate; signature = t.signature }; codes = codes; entries = entries }) o
opened_of o t codes entries digits h = rw (h.told_is, h.codes_are, h.entries_are, h.digits_are)

pub answered : (b : List ℕ) → (opened b).answer ≡ read_answer b
unfolding opened
answered b = go (read_answer b)
  where
    go : (a : ℕ) → (opened_by a b).answer ≡ a
    go zero = refl
    go (suc a) = refl

-- ---- what an array that was lent holds then
pub kept_so : (b : List ℕ) (a : ℕ) (opens held : List ℕ) → a ≡ read_answer b → (a ≡ 0 → ⊥) → held ≡ unless_refused (opened b) opens held
kept_so b a opens held e n = sym (if_no opens held (ne_eqb (opened b).answer 0 (λ z. n (e ∙ sym (answered b) ∙ z))))

pub opens_so : (b x opens held : List ℕ) → read_answer b ≡ 0 → x ≡ opens → x ≡ unless_refused (opened b) opens held
opens_so b x opens held e g = g ∙ sym (if_yes opens held (eq-eqb (opened b).answer 0 (answered b ∙ e)))

-- which is what is opened, where it was zeros
pub either_way : (b x opens held : List ℕ) → x ≡ unless_refused (opened b) opens held → ((read_answer b ≡ 0 → ⊥) → held ≡ opens) → x ≡ opens
either_way b x opens held g h = by_test (eqb (opened b).answer 0) (λ t. g ∙ if_yes opens held t) (λ t. g ∙ if_no opens held t ∙ h (λ z. eqb-false (opened b).answer 0 t (answered b ∙ z)))

pub none_opened : (b : List ℕ) → (read_answer b ≡ 0 → ⊥) → Blank (opened b).codes (opened b).entries (opened b).fields.digits
unfolding no_fields
none_opened b n = rw (opened_none b (read_answer b) refl n) record { codes_none = refl; entries_none = refl; digits_none = refl }

-- ---- what is told of a result tells the result
abbrev beside_number : Answered → Told
beside_number t = record { typenumber = t.typenumber; codes = t.codes; content = t.content; time = t.time; certificate = t.certificate; signature = t.signature }

pub told_apart : (r s : Result Told Refusal) → told r ≡ told s → r ≡ s
told_apart (Ok x) (Ok y) e = ap (λ (t : Answered). Ok (beside_number t)) e
told_apart (Ok x) (Err d) e = absurd (some_number d (sym (ap (λ (t : Answered). t.answer) e)))
told_apart (Err d) (Ok y) e = absurd (some_number d (ap (λ (t : Answered). t.answer) e))
told_apart (Err d) (Err f) e = ap (λ z. Err z) (same_number d f (ap (λ (t : Answered). t.answer) e))

-- a refusal is not told by 0, and a value is
pub refused_told : (r : Result Told Refusal) → is_err r ≡ true → (told r).answer ≡ 0 → ⊥
refused_told (Ok t) e z = search (rules, e)
refused_told (Err d) e z = some_number d z

pub value_told : (r : Result Told Refusal) → is_err r ≡ false → (told r).answer ≡ 0
value_told (Ok t) e = refl
value_told (Err d) e = search (rules, e)
