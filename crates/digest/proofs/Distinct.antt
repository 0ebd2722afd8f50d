-- Numbers of packages are as good as their names.
use Rattle.std.proofs.Common.{◌+◌, ◌*◌}
use Rattle.digest.specs.Laws.{Distinct}
use Rattle.digest.specs.Packages.{NumberOf}
use Rattle.digest.proofs.Numbers.{number_small, one_number, same_package, some_number}
use Rattle.digest.proofs.Past.{counted}

pub distinct : Distinct
distinct = record {
  same = λ m p q n k f g. (
    λ e. let h : NumberOf m p k = rw e at f in same_package m k p q h.named g.named,
    λ e. let h : NumberOf m q n = rw e at f in one_number m q n k h g,
  );
  small = λ m q n w f. number_small m w n q f;
  some = λ m place q w (j, e). let (n, l, f) = some_number m q (place * 16 + j) (counted m w place j q e).1 in (n, f);
}
