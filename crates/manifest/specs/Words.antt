-- What each question asks, in words.
use Rattle.std.specs.Prelude.{ℕ, List, codes}
use Rattle.manifest.specs.declared.question.Question.{Question}
use Rattle.manifest.specs.declared.question.Question.TheVariants.{TextTooLong, StrayByte, NotClosed, NotAHeader, HeaderTwice, Malformed, Unreadable, OverLimit, NameTwice, NoSymbolicName, TooManyBundles, BundleTwice}

abbrev pub asked : Question → List ℕ
asked TextTooLong = codes "is the text at most 65536 bytes?"
asked StrayByte = codes "is every byte 32 to 126 or a line feed?"
asked NotClosed = codes "does the text end with an empty line and its line feed?"
asked NotAHeader = codes "is it a header line (a name, a colon, a space and a value)?"
asked HeaderTwice = codes "is the header new to its manifest?"
asked Malformed = codes "does the value follow the form of its header?"
asked Unreadable = codes "is every version, range and number readable?"
asked OverLimit = codes "are names at most 48 bytes, and exports, used names and needs few enough?"
asked NameTwice = codes "is nothing named twice?"
asked NoSymbolicName = codes "was there a Bundle-SymbolicName?"
asked TooManyBundles = codes "is it at most the 64th manifest?"
asked BundleTwice = codes "has no earlier bundle its name and version?"
