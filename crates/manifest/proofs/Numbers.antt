-- Numbers, versions and ranges are read from their texts, which have no quote and nothing unprintable in them.
use Rattle.std.proofs.Common.{◌≡◌, ℕ, ◌+◌, ◌-◌, ◌*◌, ◌^◌, ◌<◌, Bool, true, false, cond, not, ◌&&◌, eqb, ltb, List, [], ◌∷◌, ◌++◌, length, Some, None, decimal, fold, Option, refl, ap, ◌∙◌, inl, inr, arith, length-append, rules}
use Rattle.std.specs.Option.{option_map}
use Rattle.std.proofs.lemmas.Fmt.{decimal_nonempty, digits_decimal, digits_value-decimal}
use Rattle.std.proofs.lemmas.Str.Parse.{IsDigitsTest, FoldsDigits, IsNumeralModel, numerals_by_fold}
use Rattle.std.proofs.lemmas.Bool.{and_from, cond-true, lt-ltb}
use Rattle.std.proofs.lemmas.Bool.Decides.{nat_tests}
use Rattle.text.specs.Bytes.{digit, every, lacks, printable}
use Rattle.kinds.specs.declared.controller.ControllerNumber.{ControllerNumber}
use Rattle.kinds.specs.declared.range.Range.TheVariants.{AtLeast, Between}
use Rattle.kinds.specs.Controller.{controller as controller_number, numbered as controller_of}
use Rattle.kinds.specs.declared.range.Range.{Range}
use Rattle.kinds.specs.declared.version.Version.{Version}
use Rattle.kinds.specs.Number.{number, decimal as valued}
use Rattle.kinds.specs.Range.{is_included, value_of}
use Rattle.kinds.specs.RangeText.{opening, closing, range}
use Rattle.kinds.specs.Version.{version_of, version as read_version}
use Rattle.kinds.specs.Commas.{version-lacks, controller-lacks}
use Rattle.kinds.proofs.Ranges.{complete}
use Rattle.manifest.specs.Written.{version_text, controller_text, range_text}
use Rattle.manifest.specs.Laws.{WritableVersion, WritableController, WritableRange}
use Rattle.manifest.proofs.Calm.{Calm, at, calm-lacks, split-join}
use Rattle.manifest.proofs.Bytes.{every_weaker, every_append}

-- numbers
digits_tell : IsDigitsTest (λ ds. every digit ds ≡ true)
digits_tell = search rules

fold-reads : FoldsDigits (λ n ds. fold (λ m b. m * 10 + (b - 48)) n ds)
fold-reads = search rules

own : IsNumeralModel (λ ds. every digit ds ≡ true) valued
own = numerals_by_fold (λ ds. every digit ds ≡ true) digits_tell (λ n ds. fold (λ m b. m * 10 + (b - 48)) n ds) fold-reads

pub decimal-digits : (n : ℕ) → n < 65536 → every digit (decimal n) ≡ true
decimal-digits n h = digits_decimal own n (omega arith)

pub number_back : (n : ℕ) → n < 65536 → number (decimal n) ≡ Some n
number_back n h =
    let big : n < 2 ^ 64 = omega arith in
    let is : valued (decimal n) ≡ n = digits_value-decimal own n big in
    cond-true (ltb 0 (length (decimal n)) && every digit (decimal n) && ltb (valued (decimal n)) 65536) (Some (valued (decimal n))) None
    (and_from (ltb 0 (length (decimal n)) && every digit (decimal n)) (ltb (valued (decimal n)) 65536)
    (and_from (ltb 0 (length (decimal n))) (every digit (decimal n)) (lt-ltb 0 (length (decimal n)) (decimal_nonempty n big)) (decimal-digits n h)) (lt-ltb (valued (decimal n)) 65536 (omega arith)))
    ∙ ap Some is

pub controller_back : (c : ControllerNumber) → WritableController c → controller_number (controller_text c) ≡ Some c
controller_back c h = ap (option_map controller_of) (number_back c.0 h)

-- versions
no_dot : (b : ℕ) → digit b ≡ true → not (eqb b 46) ≡ true
no_dot b h = grind (arith, nat_tests)

decimal-calm : (n : ℕ) → n < 65536 → Calm (at 46) false false (decimal n)
decimal-calm n h = calm-lacks 46 (decimal n) (every_weaker digit (λ x. not (eqb x 46)) no_dot (decimal n) (decimal-digits n h))

pub version_back : (v : Version) → WritableVersion v → read_version (version_text v) ≡ Some v
version_back v h =
    ap version_of (split-join false 46 (decimal v.major) (decimal v.minor ∷ (decimal v.micro ∷ [])) (decimal-calm v.major h.0, (decimal-calm v.minor h.1, (decimal-calm v.micro h.2, tt))))
    ∙ rw (number_back v.major h.0, number_back v.minor h.1, number_back v.micro h.2) refl

-- ranges
module _ {K : Type 0} (P : K → Type 0) (reads : List ℕ → Option K) (text : K → List ℕ) (commaless : (t : List ℕ) (x : K) → reads t ≡ Some x → lacks 44 t ≡ true) (back : (k : K) → P k → reads (text k) ≡ Some k) where
  opens_back : (b : Bool) → opening (cond b 91 40) ≡ Some b
  opens_back true = refl
  opens_back false = refl

  closes_back : (b : Bool) → closing (cond b 93 41) ≡ Some b
  closes_back true = refl
  closes_back false = refl

  pub range_back : (r : Range K) → WritableRange P r → range reads (range_text text r) ≡ Some r
  range_back (AtLeast floor) h =
      complete reads commaless (text floor) (AtLeast floor) (inl (record { value = floor; reading = back floor h; meaning = refl }))
  range_back (Between low high) h =
      complete reads commaless (range_text text (Between low high)) (Between low high) (inr (record {
        opener = cond (is_included low) 91 40;
        floor_text = text (value_of low);
        ceiling_text = text (value_of high);
        closer = cond (is_included high) 93 41;
        form = refl;
        floor = low;
        ceiling = high;
        opens = opens_back (is_included low);
        starts = back (value_of low) h.0;
        stops = back (value_of high) h.1;
        closes = closes_back (is_included high);
        meaning = refl;
      }))

pub versions_back : (r : Range Version) → WritableRange WritableVersion r → range read_version (range_text version_text r) ≡ Some r
versions_back = range_back WritableVersion read_version version_text version-lacks version_back

pub controllers_back : (r : Range ControllerNumber) → WritableRange WritableController r → range controller_number (range_text controller_text r) ≡ Some r
controllers_back = range_back WritableController controller_number controller_text controller-lacks controller_back

-- their bytes: printable, and no quote
abbrev pub in_value : ℕ → Bool
in_value b = printable b && not (eqb b 34)

digit_value : (b : ℕ) → digit b ≡ true → in_value b ≡ true
digit_value b h = grind (arith, nat_tests)

pub decimal-bytes : (n : ℕ) → n < 65536 → every in_value (decimal n) ≡ true
decimal-bytes n h = every_weaker digit in_value digit_value (decimal n) (decimal-digits n h)

pub version-bytes : (v : Version) → WritableVersion v → every in_value (version_text v) ≡ true
version-bytes v h =
    every_append in_value (decimal v.major) _ (decimal-bytes v.major h.0) (every_append in_value (decimal v.minor) _ (decimal-bytes v.minor h.1) (decimal-bytes v.micro h.2))

module _ {K : Type 0} (P : K → Type 0) (text : K → List ℕ) (bytes : (k : K) → P k → every in_value (text k) ≡ true) where
  closer-bytes : (b : Bool) → every in_value (cond b 93 41 ∷ []) ≡ true
  closer-bytes true = refl
  closer-bytes false = refl

  opener-bytes : (b : Bool) (xs : List ℕ) → every in_value xs ≡ true → every in_value (cond b 91 40 ∷ xs) ≡ true
  opener-bytes true xs h = h
  opener-bytes false xs h = h

  pub range-bytes : (r : Range K) → WritableRange P r → every in_value (range_text text r) ≡ true
  range-bytes (AtLeast floor) h = bytes floor h
  range-bytes (Between floor top) h =
      let end = cond (is_included top) 93 41 ∷ [] in
      let high = text (value_of top) in
      let low = text (value_of floor) in
      opener-bytes (is_included floor) (low ++ (44 ∷ (high ++ end))) (every_append in_value low (44 ∷ (high ++ end)) (bytes (value_of floor) h.0) (every_append in_value high end (bytes (value_of top) h.1) (closer-bytes (is_included top))))

pub value-lacks : (text : List ℕ) → every in_value text ≡ true → lacks 34 text ≡ true
value-lacks text h = every_weaker in_value (λ x. not (eqb x 34)) unquoted text h
  where
    unquoted : (b : ℕ) → in_value b ≡ true → not (eqb b 34) ≡ true
    unquoted b h = grind (arith, nat_tests)

pub value_prints : (text : List ℕ) → every in_value text ≡ true → every printable text ≡ true
value_prints text h = every_weaker in_value printable prints text h
  where
    prints : (b : ℕ) → in_value b ≡ true → printable b ≡ true
    prints b h = grind (arith, nat_tests)

-- and none of them is empty
pub version_filled : (v : Version) → WritableVersion v → 0 < length (version_text v)
version_filled v h = let big : v.major < 2 ^ 64 = omega (arith, h.0) in omega (arith, length-append (decimal v.major) (46 ∷ (decimal v.minor ++ (46 ∷ decimal v.micro))))

pub controllers_filled : (r : Range ControllerNumber) → WritableRange WritableController r → 0 < length (range_text controller_text r)
controllers_filled (AtLeast floor) h = decimal_nonempty floor.0 (omega arith)
controllers_filled (Between floor top) h = omega arith
