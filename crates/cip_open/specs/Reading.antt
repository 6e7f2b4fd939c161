-- What borrowed messages say.
use Rattle.cip_segment.specs.declared.view.PathView.{PathView}
use Rattle.cip_open.specs.Open.{Open, open_with}
use Rattle.cip_open.specs.declared.request.OpenFields.{OpenFields}
use Rattle.cip_open.specs.Success.{OpenSuccess}
use Rattle.cip_open.specs.declared.request.OpenView.{OpenView}
use Rattle.cip_open.specs.declared.success.OpenReply.{OpenReply}
use Rattle.cip_open.specs.declared.failed.OpenFailure.{OpenFailure}
use Rattle.cip_message.specs.declared.failure.ConnectionFailure.{ConnectionFailure}

abbrev pub open_of : OpenView → Open
open_of v = record { fields = v.fields; path = v.path.bytes.now }

-- the request along a borrowed path
abbrev pub open_along : OpenFields → PathView → Open
open_along fields path = open_with fields path.bytes.now

abbrev pub success_of : OpenReply → OpenSuccess
success_of r = record {
  ot_id = r.ot_id;
  to_id = r.to_id;
  triad = r.triad;
  ot_api = r.ot_api;
  to_api = r.to_api;
  reply = r.reply.now;
}

abbrev pub failure_of : OpenFailure → ConnectionFailure
failure_of f = record { triad = f.triad; words = f.words }
