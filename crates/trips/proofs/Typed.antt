-- Fields and a body of their types, where they are taken, fit the bits of their table. Assumes nothing.
use mathlib.Core.Path.{◌≡◌, refl, sym, ap, ◌∙◌}
use mathlib.Core.List.{List, [], ◌∷◌, ◌++◌, append_assoc}
use mathlib.Core.Bool.{Bool, true, false, ◌&&◌, cond}
use Prim.Native.Nat.{ℕ, suc, ◌*◌, ◌<◌, ◌≤◌}
use native.Mathlib.Omega.{arith}
use lib.ListN.{length, take, drop, replicate, length-append, length-drop}
use lib.Seq.{take_all, drop_at, take-append-le, drop-append-le}
use lib.Dec.{leb, eqb}
use borrow.Author.Tests.{eqb-true, le-leb, leb-true, not-true}
use Rattle.laws.specs.Bits.{at}
use Rattle.laws.specs.Scan.{all}
use Rattle.laws.proofs.Bits.{Under, under_take, under_drop}
use Rattle.laws.proofs.Cases.{and_both, if_yes, if_no, and_yes}
use Rattle.format.specs.declared.Line.{Line}
use Rattle.format.specs.Format.{times, own, need, fill, inside, line_ok, fine, unmet}
use Rattle.format.proofs.Tables.{unmet_fine, all_times}
use Rattle.packet.specs.declared.Content.{Content}
use Rattle.packet.specs.declared.Fields.{Fields}
use Rattle.packet.specs.Table.{content_lines, code, ending, packet}
use Rattle.packet.specs.Content.{count_for}
use Rattle.packet.specs.Writing.{row_for, digits_before, front_for, back_for, body_for, size_for, table_for, numbers_for, values_for}
use Rattle.trips.proofs.Contents as contents
use Rattle.trips.proofs.Contents.{byte_line, behind}
use Rattle.packet.specs.Content.{kind_for, numbers_of}
use Rattle.packet.proofs.Contents.{numbers_long}
use Rattle.trips.specs.Given.{held, Typed}
use Rattle.trips.proofs.Parts as parts
use Rattle.trips.proofs.Taken.{Taken, Fitted, lent_long, front_long, back_long, whole_body, code_unmet}

-- lines that are fine with numbers xs are so with more behind them, where no line behind xs is of account
more_fine : (ts : List Line) (xs ds : List ℕ) → behind (unmet 0) (length xs) ts ≡ true → fine 0 ts (fill ts xs) ≡ true → fine 0 ts (fill ts (xs ++ ds)) ≡ true
unfolding fine fill behind
more_fine [] xs ds g h = refl
more_fine (t ∷ ts) xs ds g h = part (leb (own t) (length xs)) refl (and_both _ _ h) (more_fine ts (drop (own t) xs) ds)
  where
    own_of : List ℕ → List ℕ
    own_of ys = cond t.given (take t.count ys) (replicate t.count t.lo)

    same : (b : Bool) → t.given ≡ b → own t ≤ length xs → own_of (xs ++ ds) ≡ own_of xs
    same true e l = rw e (take-append-le t.count xs ds (rw e at l))
    same false e l = rw e

    part : (b : Bool) → leb (own t) (length xs) ≡ b → (line_ok 0 t (own_of xs) ≡ true) × (fine 0 ts (fill ts (drop (own t) xs)) ≡ true)
        → (behind (unmet 0) (length (drop (own t) xs)) ts ≡ true → fine 0 ts (fill ts (drop (own t) xs)) ≡ true → fine 0 ts (fill ts (drop (own t) xs ++ ds)) ≡ true)
        → (line_ok 0 t (own_of (xs ++ ds)) && fine 0 ts (fill ts (drop (own t) (xs ++ ds)))) ≡ true
    part true e a ih =
        let l = leb-true (own t) (length xs) e in
        and_yes _ (ap (line_ok 0 t) (same t.given refl l) ∙ a.0)
        ∙ ap (λ (ys : List ℕ). fine 0 ts (fill ts ys)) (drop-append-le (own t) xs ds l)
        ∙ ih (ap (λ (m : ℕ). behind (unmet 0) m ts) (length-drop (own t) xs) ∙ sym (if_yes _ _ e) ∙ g) a.1
    part false e a ih =
        let u = and_both (unmet 0 t) (all (unmet 0) ts) (sym (if_no _ _ e) ∙ g) in
        and_yes _ (if_no (inside t.lo t.hi (own_of (xs ++ ds))) true (not-true (eqb t.answer 0) u.0)) ∙ unmet_fine 0 ts (fill ts (drop (own t) (xs ++ ds))) u.1

bytes_inside : (v : List ℕ) → Under 256 v → inside 0 255 v ≡ true
unfolding inside
bytes_inside [] u = refl
bytes_inside (x ∷ v) u = rw (le-leb 0 x (omega arith), le-leb x 255 (omega (arith, u 0)), bytes_inside v (λ i. u (suc i)))

fine_bytes : (ts : List Line) (xs : List ℕ) → all byte_line ts ≡ true → Under 256 xs → fine 0 ts (fill ts xs) ≡ true
unfolding fine fill
fine_bytes [] xs h u = refl
fine_bytes (t ∷ ts) xs h u =
    let a = and_both (byte_line t) (all byte_line ts) h in
    and_yes _ (line (eqb t.answer 0) refl a.0) ∙ fine_bytes ts (drop (own t) xs) a.1 (under_drop 256 (own t) xs u)
  where
    line : (z : Bool) → eqb t.answer 0 ≡ z → byte_line t ≡ true → line_ok 0 t (cond t.given (take t.count xs) (replicate t.count t.lo)) ≡ true
    line false e g = if_no (inside t.lo t.hi (cond t.given (take t.count xs) (replicate t.count t.lo))) true e
    line true e g =
        let g1 : (eqb t.lo 0 && (eqb t.hi 255 && t.given)) ≡ true = rw e at g in
        let g2 = and_both (eqb t.lo 0) (eqb t.hi 255 && t.given) g1 in
        let g3 = and_both (eqb t.hi 255) t.given g2.1 in
        if_yes (inside t.lo t.hi (cond t.given (take t.count xs) (replicate t.count t.lo))) true e
        ∙ rw (eqb-true t.lo 0 g2.0, eqb-true t.hi 255 g3.0, g3.1) (bytes_inside (take t.count xs) (under_take 256 t.count xs u))

front_held : (c : Content) (ds : List ℕ) → held c ≡ true → fine 0 (row_for c).before (fill (row_for c).before (front_for c ds)) ≡ true
unfolding front_for
front_held c ds h =
    more_fine (row_for c).before (numbers_of c) (take (digits_before c) ds) (ap (λ (n : ℕ). behind (unmet 0) n (row_for c).before) (numbers_long c) ∙ (contents.fair (kind_for c)).untested) h

ending_held : (x : ℕ) (y s : List ℕ) → x < 4294967296 → length y ≡ 12 → length s ≡ 64 → Under 256 s → fine 0 ending (fill ending (x ∷ (y ++ s))) ≡ true
unfolding fine fill inside
ending_held x y s hx hy hs u =
    let e : take 64 (drop 12 (y ++ s)) ≡ s = ap (take 64) (drop_at y s 12 hy) ∙ take_all 64 s (omega arith) in
    rw (le-leb 0 x (omega arith), le-leb x 4294967295 (omega arith), e, bytes_inside s u)

bits_held : (f : Fields) (codes body : List ℕ) → Taken f codes body → Typed f body → fine 0 (table_for f body) (values_for f codes body) ≡ true
unfolding table_for numbers_for
bits_held f codes body a y =
    let c = f.content in
    let k = count_for c body in
    let r = row_for c in
    let b = body_for c body in
    let z = f.time ∷ (f.certificate ++ f.signature) in
    let F = front_for c f.digits in
    let K = back_for c f.digits in
    let bl : length b ≡ k * need r.each = ap length (whole a) ∙ lent_long c body a.lent a.body_kept in
    let fl = front_long c f.digits y.digits_long in
    let yl : length (F ++ (b ++ K)) ≡ need (content_lines r k) = length-append F (b ++ K) ∙ omega (arith, length-append b K, fl, bl, back_long c f.digits y.digits_long, parts.content_need r k) in
    let re : F ++ (b ++ (K ++ z)) ≡ (F ++ (b ++ K)) ++ z = sym (append_assoc F (b ++ K) z ∙ ap (λ (l : List ℕ). F ++ l) (append_assoc b K z)) in
    let v = ap (λ (l : List ℕ). fill (packet r f.typenumber (size_for f body) f.codes k) (codes ++ l)) re ∙ parts.packet_fill r f.typenumber (size_for f body) f.codes k codes (F ++ (b ++ K)) z a.codes_long yl in
    let ub : Under 256 b = rw (whole a) y.body_held in
    let rows = fine_bytes (times k r.each) b (all_times byte_line k r.each (contents.fair (kind_for c)).bytes) ub in
    let cont = parts.content_fine 0 r k F b K fl bl (front_held c f.digits y.content_held) (parts.all_count (unmet 0) r.counting k refl) rows (unmet_fine 0 r.after (fill r.after K) (contents.fair (kind_for c)).after) in
    ap (fine 0 (packet r f.typenumber (size_for f body) f.codes k)) v
    ∙ parts.packet_fine 0 r f.typenumber (size_for f body) f.codes k codes (F ++ (b ++ K)) z refl (unmet_fine 0 (times f.codes code) (fill (times f.codes code) codes) (all_times (unmet 0) f.codes code code_unmet)) cont (ending_held f.time f.certificate f.signature y.time_held y.certificate_long y.signature_long y.signature_held)
  where
    whole : Taken f codes body → body_for f.content body ≡ body
    whole a = whole_body f.content body (lent_long f.content body a.lent a.body_kept)

-- fields and a body of their types that are taken fit the table
pub fitted : (f : Fields) (codes body : List ℕ) → Typed f body → Taken f codes body → Fitted f codes body
fitted f codes body t a =
    record { digits_long = t.digits_long; certificate_long = t.certificate_long; signature_long = t.signature_long; bits_hold = bits_held f codes body a t }
