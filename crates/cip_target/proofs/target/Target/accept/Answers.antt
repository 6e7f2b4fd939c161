use Rattle.std.proofs.Common.{ap, sym, subst, ◌∙◌, Option}
use Rattle.cip_open.specs.Reading.{open_of}
use Rattle.cip_target.specs.ApplicationPath.{Application}
use Rattle.cip_target.specs.Held.{Holdings}
use Rattle.cip_target.specs.Viewed.{application_seen}
use Rattle.cip_target.specs.Ends.{Ends}
use Rattle.cip_target.proofs.Fitting.{FitsWith, fitting, accept_asks, accept_is}
use Rattle.cip_target.proofs.target.Target.accept.Goals as goal

pub unreachable-requires : goal.unreachable-requires
unreachable-requires c =
    subst (λ (p : Option Application). FitsWith c.args.self.now.objects.assemblies c.args.link.now p) (sym c.in_default.ensures)
    (fitting c.args.self.now (open_of c.args.asked.now) c.args.link.now c.requires)

pub configure-requires : goal.configure-requires
configure-requires c =
    let same = ap (λ (h : Holdings). h.bytes) c.own.ensures ∙ ap (λ (t : Ends). t.objects.assemblies) c.self.view_is in
    accept_asks c.args.self.now (open_of c.args.asked.now) c.args.link.now
    (application_seen c.in-Some.application) c.own.new.self.bytes c.from-2.result c.requires c.in-Some.ensures same c.from-2.ensures

pub returns : goal.returns
returns c =
    accept_is c.args.self.now (open_of c.args.asked.now) c.args.link.now
    (application_seen c.in-Some.application) c.self.inside.identity c.self.inside.assemblies c.own.new.self c.configure.new.self
    c.from.result c.from-2.result c.self.view_is c.own.ensures c.configure.ensures c.from.ensures c.from-2.ensures c.in-Some.ensures
