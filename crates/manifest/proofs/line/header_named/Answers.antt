use Rattle.std.proofs.Common.{◌≡◌, ap, ◌∙◌, rules}
use Rattle.std.specs.Option.{unwrap_or}
use Rattle.manifest.specs.declared.header.Header.TheVariants.{Unknown}
use Rattle.manifest.proofs.HeaderTable.{header_chosen}
use Rattle.manifest.proofs.line.header_named.Goals as goal

pub returns : goal.returns
returns c =
    let e : c.unwrap_or.result ≡ unwrap_or c.named.result Unknown = search rules in
    e ∙ ap (λ o. unwrap_or o Unknown) c.named.ensures ∙ header_chosen _ _ _ _ _ _
