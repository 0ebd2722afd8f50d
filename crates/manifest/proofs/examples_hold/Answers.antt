use Rattle.std.proofs.Common.{refl}
use Rattle.std.specs.Fmt.{digits}
use Rattle.manifest.specs.Reading.{reading}
use Rattle.manifest.specs.Examples.{Examples}
use Rattle.manifest.proofs.examples_hold.Goals as goal

hold : Examples
unfolding reading digits
hold =
    record {
      reads = refl;
      none = refl;
      writes = refl;
      writes_largest = refl;
      long = refl;
      stray = refl;
      stray_last = refl;
      unclosed = refl;
      no_line_feed = refl;
      unclosed_full = refl;
      no_header = refl;
      no_value = refl;
      no_name = refl;
      long_header = refl;
      longest_header = refl;
      second = refl;
      spaced_name = refl;
      dots = refl;
      quote = refl;
      spaced_version = refl;
      foreign = refl;
      repeated = refl;
      unquoted = refl;
      overquoted = refl;
      no_uses = refl;
      late_form = refl;
      no_number = refl;
      empty_version = refl;
      no_range = refl;
      long_name = refl;
      many_exports = refl;
      many_needs = refl;
      many_uses = refl;
      twice_exported = refl;
      twice_required = refl;
      nameless = refl;
      leading = refl;
      doubled = refl;
      many_bundles = refl;
      taken = refl;
    }

pub returns : goal.returns
returns c = hold
