use Rattle.std.proofs.Common.{◌≡◌, None, sym, ◌∙◌, arith}
use Rattle.digest.proofs.Indexing.{index_new, index_skip, numbered_before, numbered_new, numbered_skip, unnumbered_next}
use Rattle.digest.proofs.index.Index.insert.Goals as goal
use Rattle.digest.proofs.index.Index.insert.Goals.{in-Some, in_default, then-from-self, else-from-self}

pub invariant_of-self : goal.invariant_of-self
invariant_of-self g c =
    let self = c.args.self.now in
    let m = g.S.Shelf.meaning self.shelf.now in
    record {
      few = omega (arith, c.requires);
      indexed = elim c.match-next.branch [
        | in-Some w ↦
            let (named, f) = w.in-Some.ensures in
            rw w.self-is (elim w.if-from-self.branch [
              | then-from-self v ↦
                  let own : w.in-Some.number ≡ self.count = sym w.from.ensures ∙ v.if-from-self.true in
                  rw (v.self-is, v.bucket-c.ensures, own) (index_new m self.count self.newest self.older self.indexed w.in-Some.name.now (rw own at f) (omega arith) (omega (arith, c.requires)) None)
              | else-from-self v ↦
                  rw v.self-is (index_skip m self.count self.newest self.older self.indexed (numbered_before m self.count w.in-Some.number w.in-Some.name.now named f (λ own. v.if-from-self.false (w.from.ensures ∙ own))))
            ])
        | in_default w ↦ rw w.self-is (index_skip m self.count self.newest self.older self.indexed (unnumbered_next m self.count w.in_default.ensures))
      ];
      numbered = elim c.match-next.branch [
        | in-Some w ↦
            let (named, f) = w.in-Some.ensures in
            rw w.self-is (numbered_new m self.count self.numbers self.numbered w.in-Some.name.now w.in-Some.number named f (omega (arith, c.requires)))
        | in_default w ↦ rw w.self-is (numbered_skip m self.count self.numbers self.numbered w.in_default.ensures)
      ];
    }
