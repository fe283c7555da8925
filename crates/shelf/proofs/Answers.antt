-- What each public function answers and leaves, one law for each way out of the code. Assumes nothing.
use mathlib.Core.Path.{◌≡◌, refl, sym, ap, ap₂, ◌∙◌}
use mathlib.Core.Bool.{true, false, not, ◌&&◌}
use mathlib.Core.List.{List, [], ◌∷◌, ◌++◌, append-nil}
use Prim.Native.Nat.{ℕ, ◌+◌, ◌-◌, ◌/◌, ◌%◌, ◌<◌, ◌≤◌}
use native.Mathlib.Omega.{arith}
use lib.ListN.{length, take, drop, set, length-append, length-set, length-replicate, drop_of_length-le, replicate}
use lib.Seq.{sets}
use lib.Dec.{eqb, ltb}
use borrow.Author.Tests.{eq-eqb, ne_eqb, lt-ltb, le-ltb}
use Rattle.laws.proofs.Cases.{if_yes, if_no, and_yes, and_no, or_no}
use Rattle.laws.proofs.Elements.{by_test}
use Rattle.laws.proofs.Writes.{join, from_front}
use Rattle.laws.proofs.Refusals.{stop, pass, none_left}
use Rattle.frame.specs.Heading.{reserved}
use Rattle.air.specs.OnAir.{sized}
use Rattle.shelf.specs.Record.{level_in, version_in, size_in, packet_in, type_in, right, record_of}
use Rattle.shelf.specs.Summary.{records_in, summary_of, noted}
use Rattle.shelf.specs.Shelf.{whole, all_right, shelf_cases, shelf_answer, add_cases, add_answer, added, summary_cases, summary_answer, summarized, make_cases, make_answer, made, line_in, line_cases, line_answer, lined, line_output}
use Rattle.shelf.proofs.Rules.{keeps, take_most}
use Rattle.print.specs.Records.{no_line, record_written, record_into}
use Rattle.print.proofs.RecordLine.{record_length}
use Rattle.std.specs.Prelude.{Result}
use Rattle.refusal.specs.declared.Refusal.{Refusal}
use Rattle.refusal.proofs.Numbers.{told_once}
use Rattle.shelf.specs.Shelf.{Written, told}

-- ---- a shelf by itself
module _ (s : List ℕ) where
  pub judge_34 : whole s ≡ false → 34 ≡ shelf_answer s
  unfolding shelf_answer shelf_cases
  judge_34 e = sym (stop _ _ (ap not e))

  pub judge_35 : whole s ≡ true → all_right s ≡ false → 35 ≡ shelf_answer s
  unfolding shelf_answer shelf_cases
  judge_35 w e = sym (pass _ _ (ap not w) ∙ stop _ _ (ap not e))

  pub judge_0 : whole s ≡ true → all_right s ≡ true → 0 ≡ shelf_answer s
  unfolding shelf_answer shelf_cases
  judge_0 w e = sym (pass _ _ (ap not w) ∙ pass _ _ (ap not e) ∙ none_left)

-- ---- add
module _ (s r m : List ℕ) where
  abbrev Adds : ℕ → List ℕ → Type 0
  Adds a l = (a ≡ add_answer s r m) × (l ≡ added s r m)

  not_added : (n : ℕ) → (n ≡ 0 → ⊥) → add_answer s r m ≡ n → Adds n m
  unfolding added
  not_added n z e = (sym e, sym (if_no _ _ (ne_eqb _ _ (λ (q : add_answer s r m ≡ 0). z (sym e ∙ q)))))

  add_34 : (whole s && (eqb (length r) 256 && eqb (length m) 256)) ≡ false → Adds 34 m
  unfolding add_answer add_cases
  add_34 e = not_added 34 (λ (z : 34 ≡ 0). omega arith) (stop _ _ (ap not e))

  pub add_shelf : whole s ≡ false → Adds 34 m
  add_shelf e = add_34 (and_no _ e)

  module _ (w : whole s ≡ true) where
    pub add_record : (length r ≡ 256 → ⊥) → Adds 34 m
    add_record h = add_34 (and_yes _ w ∙ and_no _ (ne_eqb _ _ h))

    module _ (k : length r ≡ 256) where
      pub add_summary : (length m ≡ 256 → ⊥) → Adds 34 m
      add_summary h = add_34 (and_yes _ w ∙ and_yes _ (eq-eqb _ _ k) ∙ ne_eqb _ _ h)

      module _ (l : length m ≡ 256) where
        fit : not (whole s && (eqb (length r) 256 && eqb (length m) 256)) ≡ false
        fit = ap not (and_yes _ w ∙ and_yes _ (eq-eqb _ _ k) ∙ eq-eqb _ _ l)

        pub add_wrong : all_right s ≡ false → Adds 35 m
        unfolding add_answer add_cases
        add_wrong e = not_added 35 (λ (z : 35 ≡ 0). omega arith) (pass _ _ fit ∙ stop _ _ (ap not (and_no _ e)))

        module _ (a : all_right s ≡ true) where
          pub add_wrong_record : right r ≡ false → Adds 35 m
          unfolding add_answer add_cases
          add_wrong_record e = not_added 35 (λ (z : 35 ≡ 0). omega arith) (pass _ _ fit ∙ stop _ _ (ap not (and_yes _ a ∙ e)))

          module _ (b : right r ≡ true) where
            pub add_full : records_in s ≡ 4096 → Adds 36 m
            unfolding add_answer add_cases
            add_full e =
                not_added 36 (λ (z : 36 ≡ 0). omega arith) (pass _ _ fit ∙ pass _ _ (ap not (and_yes _ a ∙ b)) ∙ stop _ _ (eq-eqb _ _ e))

            due : (records_in s ≡ 4096 → ⊥) → add_answer s r m ≡ 0
            unfolding add_answer add_cases
            due h = pass _ _ fit ∙ pass _ _ (ap not (and_yes _ a ∙ b)) ∙ pass _ _ (ne_eqb _ _ h) ∙ none_left

            pub add_done : (records_in s ≡ 4096 → ⊥) → (t : ℕ) → t ≡ type_in r → (l : List ℕ) → l ≡ noted m t (records_in s) → Adds 0 l
            unfolding added
            add_done h t et l e =
                (sym (due h), e ∙ ap (λ (x : ℕ). noted m x (records_in s)) et ∙ sym (if_yes _ _ (eq-eqb _ _ (due h))))

-- ---- summarize
module _ (s m : List ℕ) where
  abbrev Sums : ℕ → List ℕ → Type 0
  Sums a l = (a ≡ summary_answer s m) × (l ≡ summarized s m)

  not_summed : (n : ℕ) → (n ≡ 0 → ⊥) → summary_answer s m ≡ n → Sums n m
  unfolding summarized
  not_summed n z e = (sym e, sym (if_no _ _ (ne_eqb _ _ (λ (q : summary_answer s m ≡ 0). z (sym e ∙ q)))))

  pub sum_shelf : whole s ≡ false → Sums 34 m
  unfolding summary_answer summary_cases
  sum_shelf e = not_summed 34 (λ (z : 34 ≡ 0). omega arith) (stop _ _ (ap not (and_no _ e)))

  module _ (w : whole s ≡ true) where
    pub sum_summary : (length m ≡ 256 → ⊥) → Sums 34 m
    unfolding summary_answer summary_cases
    sum_summary h = not_summed 34 (λ (z : 34 ≡ 0). omega arith) (stop _ _ (ap not (and_yes _ w ∙ ne_eqb _ _ h)))

    module _ (l : length m ≡ 256) where
      pub sum_wrong : all_right s ≡ false → Sums 35 m
      unfolding summary_answer summary_cases
      sum_wrong e = not_summed 35 (λ (z : 35 ≡ 0). omega arith) (pass _ _ (ap not (and_yes _ w ∙ eq-eqb _ _ l)) ∙ stop _ _ (ap not e))

      sum_due : all_right s ≡ true → summary_answer s m ≡ 0
      unfolding summary_answer summary_cases
      sum_due a = pass _ _ (ap not (and_yes _ w ∙ eq-eqb _ _ l)) ∙ pass _ _ (ap not a) ∙ none_left

      pub sum_done : all_right s ≡ true → (o : List ℕ) → o ≡ summary_of s (records_in s) → Sums 0 o
      unfolding summarized
      sum_done a o e = (sym (sum_due a), e ∙ sym (if_yes _ _ (eq-eqb _ _ (sum_due a))))

-- ---- make
module _ (l v : ℕ) (p o : List ℕ) where
  abbrev Makes : ℕ → List ℕ → Type 0
  Makes a x = (a ≡ make_answer l v p o) × (x ≡ made l v p o)

  not_made : (n : ℕ) → (n ≡ 0 → ⊥) → make_answer l v p o ≡ n → Makes n o
  unfolding made
  not_made n z e = (sym e, sym (if_no _ _ (ne_eqb _ _ (λ (q : make_answer l v p o ≡ 0). z (sym e ∙ q)))))

  pub make_20 : sized p ≡ false → Makes 20 o
  unfolding make_answer make_cases
  make_20 e = not_made 20 (λ (z : 20 ≡ 0). omega arith) (stop _ _ (ap not e))

  module _ (a : sized p ≡ true) where
    pub make_13 : reserved l ≡ true → Makes 13 o
    unfolding make_answer make_cases
    make_13 e = not_made 13 (λ (z : 13 ≡ 0). omega arith) (pass _ _ (ap not a) ∙ stop _ _ e)

    module _ (b : reserved l ≡ false) where
      pub make_27 : 31 < v → Makes 27 o
      unfolding make_answer make_cases
      make_27 h = not_made 27 (λ (z : 27 ≡ 0). omega arith) (pass _ _ (ap not a) ∙ pass _ _ b ∙ stop _ _ (lt-ltb _ _ h))

      module _ (c : v ≤ 31) where
        pub make_34 : (length o ≡ 256 → ⊥) → Makes 34 o
        unfolding make_answer make_cases
        make_34 h =
            not_made 34 (λ (z : 34 ≡ 0). omega arith) (pass _ _ (ap not a) ∙ pass _ _ b ∙ pass _ _ (le-ltb _ _ c) ∙ stop _ _ (ap not (ne_eqb _ _ h)))

        make_due : length o ≡ 256 → make_answer l v p o ≡ 0
        unfolding make_answer make_cases
        make_due h = pass _ _ (ap not a) ∙ pass _ _ b ∙ pass _ _ (le-ltb _ _ c) ∙ pass _ _ (ap not (eq-eqb _ _ h)) ∙ none_left

        pub make_done : length o ≡ 256 → (x : List ℕ) → x ≡ record_of l v p → Makes 0 x
        unfolding made
        make_done h x e = (sym (make_due h), e ∙ sym (if_yes _ _ (eq-eqb _ _ (make_due h))))

pub four_kept : (o : List ℕ) (w x y z : ℕ) → length (set (set (set (set o 0 w) 1 x) 2 y) 3 z) ≡ length o
four_kept o w x y z = simp length-set refl

-- the head, the packet and what is behind it are the record
pub put_record : (l v : ℕ) (p o a b : List ℕ) → length o ≡ 256 → length p ≤ 250 → a ≡ sets (set (set (set (set o 0 l) 1 v) 2 0) 3 (length p)) 4 p
    → b ≡ sets a (4 + length p) (replicate (254 - (4 + length p)) 0xFF ++ (0 ∷ 0 ∷ [])) → b ≡ record_of l v p
unfolding record_of
put_record l v p o a b k h ea eb =
    let head : List ℕ = l ∷ v ∷ 0 ∷ length p ∷ [] in
    let end : List ℕ = replicate (250 - length p) 0xFF ++ (0 ∷ 0 ∷ []) in
    let n : 254 - (4 + length p) ≡ 250 - length p = omega arith in
    let m : length (head ++ p ++ end) ≡ 256 = omega (arith, length-append (head ++ p) end, length-append {A = ℕ} (replicate (250 - length p) 0xFF) (0 ∷ 0 ∷ []), length-replicate {A = ℕ} (250 - length p) 0xFF) in
    let high : 0 ≡ length p / 256 = omega arith in
    let low : length p ≡ length p % 256 = omega arith in
    join o a b (head ++ p) end 0 (4 + length p) (join o (sets o 0 head) a head p 0 4 refl ea refl) (eb ∙ ap (λ (j : ℕ). sets a (4 + length p) (replicate j 0xFF ++ (0 ∷ 0 ∷ []))) n) (omega (arith, length-append head p))
    ∙ from_front (head ++ p ++ end) o (omega arith)
    ∙ ap (λ (x : List ℕ). head ++ p ++ end ++ x) (drop_of_length-le o {i = length (head ++ p ++ end)} (omega arith))
    ∙ append-nil (head ++ p ++ end)
    ∙ ap₂ (λ (x y : ℕ). l ∷ v ∷ x ∷ y ∷ (p ++ end)) high low

-- ---- line
module _ (r o : List ℕ) where
  abbrev Lines : ℕ → ℕ → List ℕ → Type 0
  Lines a n x = (record { answer = a; length = n } ≡ lined r o) × (x ≡ line_output r o)

  not_lined : (n : ℕ) → (n ≡ 0 → ⊥) → line_answer r o ≡ n → Lines n 0 o
  unfolding lined line_output
  not_lined n z e =
      let q : eqb (line_answer r o) 0 ≡ false = ne_eqb _ _ (λ (q : line_answer r o ≡ 0). z (sym e ∙ q)) in
      (ap₂ (λ (a k : ℕ). record { answer = a; length = k }) (sym e) (sym (if_no (length (line_in r)) 0 q)), sym (if_no _ _ q))

  pub line_34 : (length r ≡ 256 → ⊥) → Lines 34 0 o
  unfolding line_answer line_cases
  line_34 h = not_lined 34 (λ (z : 34 ≡ 0). omega arith) (stop _ _ (ap not (ne_eqb _ _ h)))

  module _ (k : length r ≡ 256) where
    pub line_35 : right r ≡ false → Lines 35 0 o
    unfolding line_answer line_cases
    line_35 e = not_lined 35 (λ (z : 35 ≡ 0). omega arith) (pass _ _ (ap not (eq-eqb _ _ k)) ∙ stop _ _ (ap not e))

    module _ (e : right r ≡ true) where
      short_line : ltb (length o) (length (line_in r)) ≡ true → Lines 10 0 o
      unfolding line_answer line_cases
      short_line t = not_lined 10 (λ (z : 10 ≡ 0). omega arith) (pass _ _ (ap not (eq-eqb _ _ k)) ∙ pass _ _ (ap not e) ∙ stop _ _ t)

      line_due : ltb (length o) (length (line_in r)) ≡ false → line_answer r o ≡ 0
      unfolding line_answer line_cases
      line_due t = pass _ _ (ap not (eq-eqb _ _ k)) ∙ pass _ _ (ap not e) ∙ pass _ _ t ∙ none_left

      whole_line : ltb (length o) (length (line_in r)) ≡ false → Lines 0 (length (line_in r)) (line_in r ++ drop (length (line_in r)) o)
      unfolding lined line_output
      whole_line t =
          let d = line_due t in
          (ap₂ (λ (a n : ℕ). record { answer = a; length = n }) (sym d) (sym (if_yes (length (line_in r)) 0 (eq-eqb _ _ d))), sym (if_yes _ _ (eq-eqb _ _ d)))

      some : 0 < length (line_in r)
      unfolding line_in
      some = omega (arith, record_length (level_in r) (version_in r) (packet_in r))

      -- what was written of the line, by whether there is room
      module _ (n : ℕ) (x : List ℕ) (en : n ≡ record_written (level_in r) (version_in r) (packet_in r) o) (ex : x ≡ record_into (level_in r) (version_in r) (packet_in r) o) where
        few : ltb 255 (length (packet_in r)) ≡ false
        few = le-ltb 255 (length (packet_in r)) (omega (arith, (keeps r e).most, take_most (size_in r) (drop 4 r)))

        no_room : ltb (length o) (length (line_in r)) ≡ true → (n ≡ 0) × (x ≡ o)
        unfolding record_written record_into no_line line_in
        no_room t = let q = or_no _ few ∙ t in (en ∙ if_yes _ _ q, ex ∙ if_yes _ _ q)

        room : ltb (length o) (length (line_in r)) ≡ false → (n ≡ length (line_in r)) × (x ≡ line_in r ++ drop (length (line_in r)) o)
        unfolding record_written record_into no_line line_in
        room t = let q = or_no _ few ∙ t in (en ∙ if_no _ _ q, ex ∙ if_no _ _ q)

        pub line_10 : n ≡ 0 → Lines 10 0 x
        line_10 z =
            by_test (ltb (length o) (length (line_in r))) (λ t. rw (no_room t).1 (short_line t))
            (λ t. let q = (room t).0 in absurd (not_zero q z))
          where
            not_zero : n ≡ length (line_in r) → n ≡ 0 → ⊥
            not_zero q z = omega (arith, some)

        pub line_0 : (n ≡ 0 → ⊥) → Lines 0 n x
        line_0 h =
            by_test (ltb (length o) (length (line_in r))) (λ t. absurd (h (no_room t).0))
            (λ t. rw ((room t).0, (room t).1) (whole_line t))

-- what was read byte by byte is what the record says
pub same_words : (r : List ℕ) (l v n : ℕ) (p : List ℕ) → l ≡ level_in r → v ≡ version_in r → n ≡ size_in r → p ≡ take n (drop 4 r) → (o : List ℕ)
    → (record_written l v p o ≡ record_written (level_in r) (version_in r) (packet_in r) o) × (record_into l v p o ≡ record_into (level_in r) (version_in r) (packet_in r) o)
same_words r l v n p el ev en ep o =
    let q : p ≡ packet_in r = ep ∙ ap (λ (k : ℕ). take k (drop 4 r)) en in
    rw (el, ev, q) (refl, refl)

-- what is told of a result tells the result
pub told_apart : (r s : Result ℕ Refusal) → told r ≡ told s → r ≡ s
told_apart r s e = told_once 0 r s (ap (λ (t : Written). t.answer) e) (ap (λ (t : Written). t.length) e)
