use Rattle.std.proofs.Common.{refl, rules}
use Rattle.kinds.specs.Examples.{memberships}
use Rattle.kinds.proofs.Tables.{all_right, nothing_between}
use Rattle.kinds.proofs.examples.examples_hold.Goals as goal

pub returns : goal.returns
returns c =
    record {
      of_versions = search rules;
      of_controllers = search rules;
      of_no_ranges = search rules;
      of_memberships = all_right memberships refl;
      of_nothing = λ x h. nothing_between x h.0 h.1;
    }
