use Rattle.std.proofs.Common.{◌++◌, ◌∷◌, [], List, ℕ, ap, ◌∙◌, Some, None}
use Rattle.std.specs.Prelude.{map}
use Rattle.cip_routing.specs.declared.tables.AssemblyRow.{AssemblyRow}
use Rattle.cip_routing.specs.Views.{assembly_row_of}
use Rattle.cip_routing.proofs.Walks.{assemblies_above, assembly_walks, assembly_walked, assembly_fewer, assemblies_all, row_more, rows_done}
use Rattle.cip_routing.proofs.show.assembly_rows.Goals as goal

pub loop-instance-init : goal.loop-instance-init
loop-instance-init c =
    ap (λ (z : List AssemblyRow). z ++ map assembly_row_of (assemblies_above None c.args.target.now.objects.assemblies)) c.new-rows.ensures.items
    ∙ ap (map assembly_row_of) (assemblies_all c.args.target.now.objects.assemblies)

pub loop-instance-smaller : goal.loop-instance-smaller
loop-instance-smaller c = assembly_fewer c.args.target.now.objects.assemblies c.loop-instance.after (c.in-Some.instance, c.in-Some.held.now) c.in-Some.ensures

pub loop-instance-preserved : goal.loop-instance-preserved
loop-instance-preserved c =
    let left : List (ℕ × List ℕ) = assemblies_above (Some c.in-Some.instance) c.args.target.now.objects.assemblies in
    ap (λ (z : List AssemblyRow). z ++ map assembly_row_of left) c.in_ok-push.ensures.items
    ∙ ap (λ (z : List ℕ). (c.loop-instance.rows.items ++ record { instance = c.in-Some.instance; bytes = z } ∷ []) ++ map assembly_row_of left)
    (c.of-bytes.ensures ∙ c.in_ok-from_slice.ensures.items)
    ∙ row_more assembly_row_of (c.in-Some.instance, c.in-Some.held.now) left (assemblies_above c.loop-instance.after c.args.target.now.objects.assemblies)
    c.loop-instance.rows.items (assembly_walks c.args.target.now.objects.assemblies c.loop-instance.after (c.in-Some.instance, c.in-Some.held.now)
    c.in-Some.ensures)
    ∙ c.loop-instance.invariant

pub returns : goal.returns
returns c = rows_done assembly_row_of (assemblies_above c.loop-instance.after c.args.target.now.objects.assemblies) c.loop-instance.rows.items
    (assembly_walked c.args.target.now.objects.assemblies c.loop-instance.after c.in_default.ensures) ∙ c.loop-instance.invariant
