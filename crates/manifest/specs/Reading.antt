-- How a directory is read: the questions about the whole text, and then line by line.
use Rattle.std.specs.Prelude.{ℕ, ◌+◌, ◌-◌, Bool, false, cond, not, ◌&&◌, ◌||◌, List, [], ◌∷◌, ◌++◌, length, take, Some, None, Ok, Err, Option, Result, ◌==◌, nat_le, nat_lt, slice_index}
use Rattle.std.specs.Option.{unwrap_or}
use Rattle.std.specs.Result.{result_map_both}
use Rattle.text.specs.Bytes.{equal, every, printable}
use Rattle.text.specs.Splitting.{parts}
use Rattle.kinds.specs.declared.version.Version.{Version}
use Rattle.shelf.specs.Meaning.{Name, Bundle}
use Rattle.manifest.specs.Questions.{FirstNo, asks, gets}
use Rattle.manifest.specs.Values.{no_version, all_controllers}
use Rattle.manifest.specs.Headers.{Headers, no_headers, header_step}

-- the bundles so far, and the headers of the manifest that is open
pub record State : Type 0 where
  pub bundles : List Bundle
  pub headers : Headers

abbrev pub start : State
start = record { bundles = []; headers = no_headers }

-- the needs are the imports and then the requires, whatever the order of the two headers
abbrev pub bundle_of : Name → Headers → Bundle
bundle_of n h =
    record {
      name = n;
      version = unwrap_or h.version no_version;
      controllers = unwrap_or h.controllers all_controllers;
      exports = unwrap_or h.exports [];
      needs = unwrap_or h.imports [] ++ unwrap_or h.requires [];
    }

abbrev pub same_version : Version → Version → Bool
same_version v w = v.major == w.major && (v.minor == w.minor && v.micro == w.micro)

-- a bundle of that name and version is there
abbrev pub taken : Name → Version → List Bundle → Bool
taken n v [] = false
taken n v (b ∷ bs) = (equal n b.name && same_version v b.version) || taken n v bs

-- the empty line that closes a manifest: 11 the symbolic name was there; 12 this is at most the 64th manifest;
-- 13 no earlier bundle has its name and version
abbrev pub close_step : State → Result State ℕ
close_step s =
    gets 11 s.headers.name (λ n.
    asks 12 (nat_lt (length s.bundles) 64)
    (asks 13 (not (taken n (unwrap_or s.headers.version no_version) s.bundles))
    (Ok (record { bundles = s.bundles ++ (bundle_of n s.headers ∷ []); headers = no_headers }))))

-- what one line does
abbrev pub line_step : State → List ℕ → Result State ℕ
line_step s [] = close_step s
line_step s (b ∷ bs) = result_map_both (λ h. record { bundles = s.bundles; headers = h }) (λ n. n) (header_step s.headers (b ∷ bs))

abbrev pub refused : ℕ → ℕ → Result (List Bundle) FirstNo
refused n at = Err (record { question = n; offset = at })

-- the rest of the reading after a line at that offset
abbrev pub onward : ℕ → Result State ℕ → (State → Result (List Bundle) FirstNo) → Result (List Bundle) FirstNo
onward at (Ok s) rest = rest s
onward at (Err n) rest = refused n at

-- line by line: each has the offset of its first byte
abbrev pub walk : ℕ → State → List (List ℕ) → Result (List Bundle) FirstNo
walk at s [] = Ok s.bundles
walk at s (l ∷ ls) = onward at (line_step s l) (λ t. walk (at + length l + 1) t ls)

-- The whole text.

-- the offset of the first line that has another byte than 32 to 126
abbrev pub stray_line : ℕ → List (List ℕ) → Option ℕ
stray_line at [] = None
stray_line at (l ∷ ls) = let rest = stray_line (at + length l + 1) ls in cond (every printable l) rest (Some at)

-- a line feed alone, or two at the end: an empty line and its line feed
abbrev pub closed : List ℕ → Bool
closed text = slice_index text (length text - 1) == 10 && (length text == 1 || slice_index text (length text - 2) == 10)

-- the lines, each without its line feed, of a text that ends with one
abbrev pub lines_of : List ℕ → List (List ℕ)
lines_of text = parts 10 (take (length text - 1) text)

-- question 2, and then the rest
abbrev pub without : Option ℕ → Result (List Bundle) FirstNo → Result (List Bundle) FirstNo
without None rest = rest
without (Some at) rest = refused 2 at

-- the bundles of a directory, or the first question that is answered no: 1 at most 65,536 bytes; 2 every byte is 32 to 126
-- or a line feed; 3 a text that is not empty ends with an empty line and its line feed; and then line by line
unfoldable pub reading : List ℕ → Result (List Bundle) FirstNo
reading text =
    cond (nat_le (length text) 65536)
    (without (stray_line 0 (parts 10 text))
    (cond (length text == 0) (Ok []) (cond (closed text) (walk 0 start (lines_of text)) (refused 3 (length text)))))
    (refused 1 0)
