use Rattle.std.proofs.Common.{arith, rules}
use Rattle.std.proofs.lemmas.Bool.Decides.{nat_tests}
use Rattle.kinds.proofs.Orders.{version_order, controller_order}
use Rattle.kinds.proofs.Tables.{version_either, controller_either}
use Rattle.kinds.proofs.laws.orders_are_the_rules.Goals as goal

pub returns : goal.returns
returns c =
    record {
      versions_derive = version_order;
      versions = record { either = version_either; transitive = λ x y z h k. grind (arith, nat_tests); lowest = λ x. search rules };
      controllers_derive = controller_order;
      controllers = record { either = controller_either; transitive = λ x y z h k. grind (arith, nat_tests); lowest = λ x. search rules };
    }
