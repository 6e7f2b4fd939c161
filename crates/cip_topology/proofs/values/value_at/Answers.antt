use Rattle.std.proofs.Common.{◌≡◌, ℕ, List, subst}
use Rattle.std.specs.Prelude.{option_map}
use Rattle.toml.proofs.Views.{table_get}
use Rattle.toml.specs.Data.{get_member}
use Rattle.toml.specs.View.{view, table_view}
use Rattle.cip_topology.proofs.values.value_at.Goals as goal

pub returns : goal.returns
returns c =
    subst (λ (w : List ℕ). option_map (λ v. view v.now) c.get.result ≡ get_member w (table_view c.args.table.now)) c.word.ensures
    (table_get c.get.result c.word.result.now c.args.table.now.entries c.get.ensures.value)
