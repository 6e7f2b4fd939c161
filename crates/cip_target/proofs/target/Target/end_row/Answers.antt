use Rattle.std.proofs.Common.{◌≡◌, ℕ, Bool, ap, ◌∙◌, Option}
use Rattle.std.specs.Option.{is_some}
use Rattle.std.specs.FinMap as map
use Rattle.cip_target.specs.ApplicationPath.{Application}
use Rattle.cip_target.specs.Viewed.{application_seen}
use Rattle.cip_target.specs.Ends.{Ends, application_row, end_row}
use Rattle.cip_target.proofs.Fitting.{joined_is}
use Rattle.cip_target.proofs.target.Target.end_row.Goals as goal

pub returns-in-Some-joined : goal.returns-in-Some-joined
unfolding end_row
returns-in-Some-joined c =
    let t : Ends = c.args.self.now in
    let owned : ℕ → Bool = λ i. is_some (map.get t.owners i) in
    let is : c.is_owned-owned.result ≡ owned c.in-Some-joined.joined.consume.instance =
    c.is_owned-owned.ensures ∙ ap (λ (i : ℕ). is_some (map.get c.self.inside.assemblies.owners i)) c.from.ensures
    ∙ ap (λ (t : Ends). is_some (map.get t.owners c.in-Some-joined.joined.consume.instance)) c.self.view_is in
    c.joined_row.ensures
    ∙ joined_is t.objects.assemblies owned c.args.asked.now.fields (application_seen c.in-Some.application) c.in-Some-joined.joined c.is_owned-owned.result
    c.in-Some-joined.ensures is
    ∙ ap (λ (p : Option Application). application_row t.objects.assemblies owned c.args.asked.now.fields p) c.in-Some.ensures
