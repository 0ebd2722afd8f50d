-- The range that is read is the one that the text means, and there is no other.
use Rattle.std.proofs.Common.{◌≡◌, ℕ, ◌+◌, ◌-◌, ◌<◌, Bool, true, false, cond, ltb, List, [], ◌∷◌, ◌++◌, length, get_or, take, drop, Some, None, Option, sym, refl, ap, ◌∙◌, inl, inr, arith, length-append}
use Rattle.std.specs.Option.{option_map}
use Rattle.std.proofs.lemmas.Grind.{common_steps}
use Rattle.std.proofs.lemmas.Bool.Decides.{nat_tests}
use Rattle.std.proofs.lemmas.List.{take_at, take-append-drop, drop_more}
use Rattle.std.proofs.lemmas.Bool.{ltb-true, lt-ltb, le-ltb}
use Rattle.text.specs.Bytes.{lacks}
use Rattle.text.specs.Splitting.{reach}
use Rattle.kinds.specs.declared.range.End.{End}
use Rattle.kinds.specs.declared.range.Range.{Range}
use Rattle.kinds.specs.declared.range.Range.TheVariants.{AtLeast, Between}
use Rattle.kinds.specs.Range.{is_included, value_of}
use Rattle.kinds.specs.RangeText.{opening, closing, Single, Bracketed, RangeText, Only, end_of, floor_of, ceiling_of, between, range}

abbrev comma : List ℕ → ℕ
comma text = reach false 44 false text

-- a text without a comma, and the first comma after such a text
reach-lacks : (text : List ℕ) → lacks 44 text ≡ true → comma text ≡ length text
reach-lacks [] h = refl
reach-lacks (x ∷ xs) h = grind (arith, nat_tests, reach-lacks xs)

reach-after : (front rest : List ℕ) → lacks 44 front ≡ true → comma (front ++ (44 ∷ rest)) ≡ length front
reach-after [] rest h = refl
reach-after (x ∷ xs) rest h = grind (arith, nat_tests, reach-after xs rest)

-- the byte there is a comma
reach-at : (text : List ℕ) → comma text < length text → get_or text (comma text) 0 ≡ 44
reach-at [] h = absurd (omega arith)
reach-at (x ∷ xs) h = grind (arith, nat_tests, reach-at xs)

-- an opening bracket is no comma
opening-lacks : (b : ℕ) (low : Bool) (floor : List ℕ) → opening b ≡ Some low → lacks 44 floor ≡ true → lacks 44 (b ∷ floor) ≡ true
opening-lacks b low floor e h = grind (arith, nat_tests)

-- where there is a range, both ends are there
between-some : {K : Type 0} (floor ceiling : Option (End K)) (r : Range K) → between floor ceiling ≡ Some r
    → (low : End K) × (high : End K) × (floor ≡ Some low) × (ceiling ≡ Some high) × (r ≡ Between low high)
between-some None ceiling r e = absurd (cc)
between-some (Some f) None r e = absurd (cc)
between-some (Some f) (Some c) r e = (f, c, refl, refl, cc)

end_some : {K : Type 0} (included : Option Bool) (value : Option K) (end : End K) → end_of included value ≡ Some end
    → (included ≡ Some (is_included end)) × (value ≡ Some (value_of end))
end_some included value end e = (grind arith, grind arith)

end-of : {K : Type 0} (included : Option Bool) (value : Option K) (end : End K) → included ≡ Some (is_included end) → value ≡ Some (value_of end) → end_of included value ≡ Some end
end-of included value end a b = grind arith

-- the first byte and the rest, the front and the last byte
first_rest : (text : List ℕ) (low : Bool) → opening (get_or text 0 0) ≡ Some low → text ≡ get_or text 0 0 ∷ drop 1 text
first_rest [] low e = absurd (cc)
first_rest (x ∷ xs) low e = refl

front-last : (text : List ℕ) (high : Bool) → closing (get_or text (length text - 1) 0) ≡ Some high → text ≡ take (length text - 1) text ++ (get_or text (length text - 1) 0 ∷ [])
front-last text high e = grind (arith, common_steps, nat_tests)

drop_past : (xs : List ℕ) (b : ℕ) (ys : List ℕ) → drop (length xs + 1) (xs ++ (b ∷ ys)) ≡ ys
drop_past [] b ys = refl
drop_past (x ∷ xs) b ys = grind (arith, common_steps, drop_past xs b ys)

module _ {K : Type 0} (reads : List ℕ → Option K) where
  cut-form : (text opened closed : List ℕ) → comma text < length text → take (comma text) text ≡ opened → drop (comma text + 1) text ≡ closed → text ≡ opened ++ (44 ∷ closed)
  cut-form text opened closed h b a =
      let n = comma text in
      let whole = take-append-drop n text in
      let next = drop_more text n 0 h in
      let mark = reach-at text h in
      sym whole ∙ ap (λ (xs : List ℕ). xs ++ drop n text) b ∙ ap (λ (xs : List ℕ). opened ++ xs) (next ∙ ap (λ (x : ℕ). x ∷ drop (n + 1) text) mark ∙ ap (λ (xs : List ℕ). 44 ∷ xs) a)

  bracketed : (text : List ℕ) (r : Range K) → comma text < length text
      → between (floor_of reads (take (comma text) text)) (ceiling_of reads (drop (comma text + 1) text)) ≡ Some r → Bracketed reads text r
  bracketed text r h e =
      let b = take (comma text) text in
      let a = drop (comma text + 1) text in
      let both = between-some (floor_of reads b) (ceiling_of reads a) r e in
      let floor = both.0 in
      let ceiling = both.1 in
      let low = end_some (opening (get_or b 0 0)) (reads (drop 1 b)) floor both.2 in
      let high = end_some (closing (get_or a (length a - 1) 0)) (reads (take (length a - 1) a)) ceiling both.3 in
      record {
        opener = get_or b 0 0;
        floor_text = drop 1 b;
        ceiling_text = take (length a - 1) a;
        closer = get_or a (length a - 1) 0;
        form = cut-form text (get_or b 0 0 ∷ drop 1 b) (take (length a - 1) a ++ (get_or a (length a - 1) 0 ∷ [])) h
            (first_rest b (is_included floor) low.0) (front-last a (is_included ceiling) high.0);
        floor = floor;
        ceiling = ceiling;
        opens = low.0;
        starts = low.1;
        stops = high.1;
        closes = high.0;
        meaning = both.4;
      }

  single : (text : List ℕ) (o : Option K) (r : Range K) → reads text ≡ o → option_map AtLeast o ≡ Some r → Single reads text r
  single text None r was e = absurd (cc)
  single text (Some v) r was e = record { value = v; reading = was; meaning = cc }

  pub sound : (text : List ℕ) (r : Range K) → range reads text ≡ Some r → RangeText reads text r
  sound text r e = by (ltb (comma text) (length text)) refl e
    where
      by : (cut : Bool) → ltb (comma text) (length text) ≡ cut
          → cond cut (between (floor_of reads (take (comma text) text)) (ceiling_of reads (drop (comma text + 1) text))) (option_map AtLeast (reads text)) ≡ Some r → RangeText reads text r
      by true t e = inr (bracketed text r (ltb-true (comma text) (length text) t) e)
      by false t e = inl (single text (reads text) r refl e)

  module _ (commaless : (text : List ℕ) (x : K) → reads text ≡ Some x → lacks 44 text ≡ true) where
    single_read : (text : List ℕ) (r : Range K) → Single reads text r → range reads text ≡ Some r
    single_read text r s =
        let n = reach-lacks text (commaless text s.value s.reading) in
        let t : ltb (comma text) (length text) ≡ false = le-ltb (comma text) (length text) (omega arith) in
        rw t (ap (option_map AtLeast) s.reading ∙ ap Some (sym s.meaning))

    ceiling-at : (text : List ℕ) (b : ℕ) → ceiling_of reads (text ++ (b ∷ [])) ≡ end_of (closing b) (reads text)
    ceiling-at text b = grind (arith, common_steps)

    bracketed_read : (text : List ℕ) (r : Range K) → Bracketed reads text r → range reads text ≡ Some r
    bracketed_read text r s =
        let opened = s.opener ∷ s.floor_text in
        let closed = s.ceiling_text ++ (s.closer ∷ []) in
        let n : comma text ≡ length opened =
        ap comma s.form ∙ reach-after opened closed (opening-lacks s.opener (is_included s.floor) s.floor_text s.opens (commaless s.floor_text (value_of s.floor) s.starts)) in
        let b : take (comma text) text ≡ opened = ap (λ (k : ℕ). take k text) n ∙ ap (take (length opened)) s.form ∙ take_at opened (44 ∷ closed) (length opened) refl in
        let a : drop (comma text + 1) text ≡ closed = ap (λ (k : ℕ). drop (k + 1) text) n ∙ ap (drop (length opened + 1)) s.form ∙ drop_past opened 44 closed in
        let t : ltb (comma text) (length text) ≡ true = lt-ltb (comma text) (length text) (omega (arith, n, ap length s.form, length-append opened (44 ∷ closed))) in
        let low = end-of (opening s.opener) (reads s.floor_text) s.floor s.opens s.starts in
        let high = end-of (closing s.closer) (reads s.ceiling_text) s.ceiling s.closes s.stops in
        let floor : floor_of reads (take (comma text) text) ≡ Some s.floor = ap (floor_of reads) b ∙ low in
        let ceiling : ceiling_of reads (drop (comma text + 1) text) ≡ Some s.ceiling = ap (ceiling_of reads) a ∙ ceiling-at s.ceiling_text s.closer ∙ high in
        rw t (ap (λ (o : Option (End K)). between o (ceiling_of reads (drop (comma text + 1) text))) floor ∙ ap (between (Some s.floor)) ceiling ∙ ap Some (sym s.meaning))

    pub complete : (text : List ℕ) (r : Range K) → RangeText reads text r → range reads text ≡ Some r
    complete text r (inl s) = single_read text r s
    complete text r (inr s) = bracketed_read text r s

    pub only : (text : List ℕ) (r : Option (Range K)) → r ≡ range reads text → Only (RangeText reads text) r
    only text None e = λ x form. let z = complete text x form in cc
    only text (Some x) e = (sound text x (sym e), λ y form. let z = complete text y form in cc)
