use Rattle.std.proofs.Common.{rules, tests}
use Rattle.std.proofs.lemmas.Bool.Decides.{Decides-at}
use Rattle.wiring.proofs.Ruled.{candidate-decides}
use Rattle.wiring.proofs.candidates.Target.is_candidate.Goals as goal

pub returns : goal.returns
returns g c =
    let shelf = c.args.self.now.shelf.now in
    let m = g.S.Shelf.meaning shelf in
    let controller = c.args.self.now.controller in
    let a = c.args in
    record {
      value = search (rules, tests);
      rule = Decides-at _ _ (search (rules, tests)) (candidate-decides m controller a.b a.k a.c (g.met.S.Shelf.formed shelf));
    }
