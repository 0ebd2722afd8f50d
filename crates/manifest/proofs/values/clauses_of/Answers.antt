use Rattle.std.proofs.Common.{rules, map, not, ap, ◌∙◌, arith}
use Rattle.std.proofs.lemmas.List.{length-map}
use Rattle.manifest.specs.Names.{none_twice}
use Rattle.manifest.proofs.Gathers.{refused, crowded, twice, once}
use Rattle.manifest.proofs.values.clauses_of.Goals as goal

pub returns-in_err-list : goal.returns-in_err-list
returns-in_err-list g c =
    let e = refused g.row.N c.args.grammar (g.T.Entry.reads c.args.grammar) g.T.Entry.small g.T.Entry.called c.args.others c.args.value.now _ c.in_err-list.ensures in
    search rules

pub returns-then-remaining_capacity-others : goal.returns-then-remaining_capacity-others
returns-then-remaining_capacity-others g c =
    let l = length-map c.in_ok-list.list.items g.T.Entry.said in
    crowded g.row.N c.args.grammar (g.T.Entry.reads c.args.grammar) g.T.Entry.small g.T.Entry.called c.args.others c.args.value.now _ c.in_ok-list.ensures (omega arith)

pub returns-then-has_twice : goal.returns-then-has_twice
returns-then-has_twice g c =
    let l = length-map c.in_ok-list.list.items g.T.Entry.said in
    twice g.row.N c.args.grammar (g.T.Entry.reads c.args.grammar) g.T.Entry.small g.T.Entry.called c.args.others c.args.value.now _ c.in_ok-list.ensures (omega arith)
    (c.if-has_twice.ensures ∙ ap (λ es. not (none_twice (map g.T.Entry.called (map g.T.Entry.said es)))) c.as_slice.ensures.value)

pub returns : goal.returns
returns g c =
    let l = length-map c.in_ok-list.list.items g.T.Entry.said in
    once g.row.N c.args.grammar (g.T.Entry.reads c.args.grammar) g.T.Entry.small g.T.Entry.called c.args.others c.args.value.now _ c.in_ok-list.ensures (omega arith)
    (c.if-has_twice.ensures ∙ ap (λ es. not (none_twice (map g.T.Entry.called (map g.T.Entry.said es)))) c.as_slice.ensures.value)
