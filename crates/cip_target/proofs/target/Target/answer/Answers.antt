use Rattle.std.proofs.Common.{sym, subst}
use Rattle.cip_message.specs.Reading.{request_of}
use Rattle.cip_target.specs.Ends.{Ends}
use Rattle.cip_target.specs.Rows.{TargetRow, Written}
use Rattle.cip_target.proofs.Writes.{IsThere, target_there}
use Rattle.cip_target.proofs.target.Target.answer.Goals as goal

pub write-requires : goal.write-requires
write-requires c =
    subst (λ (t : Ends). IsThere t.objects.assemblies (Written c.in-Written.instance c.args.request.data_.now)) (sym c.self.view_is)
    (subst (λ (row : TargetRow). IsThere c.args.self.now.objects.assemblies row) (sym c.in-Written.ensures.is)
    (target_there c.args.self.now.objects.identity c.args.self.now.objects.assemblies (request_of c.args.request)))
