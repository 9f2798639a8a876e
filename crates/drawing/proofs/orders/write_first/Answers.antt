use Rattle.std.proofs.Common.{◌∙◌, rules}
use Rattle.std.proofs.lemmas.List.{map-id}
use Rattle.std.proofs.lemmas.List.FromFn.{fill_by_all}
use Rattle.drawing.proofs.orders.write_first.Goals as goal

pub returns : goal.returns
returns c = fill_by_all (λ k. k) _ _ 0 (search rules) (search rules) ∙ map-id _
