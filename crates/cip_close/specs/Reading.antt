-- What borrowed messages say.
use Rattle.cip_segment.specs.declared.view.PathView.{PathView}
use Rattle.cip_close.specs.Close.{Close, close_with}
use Rattle.cip_close.specs.declared.request.CloseFields.{CloseFields}
use Rattle.cip_close.specs.Success.{CloseSuccess}
use Rattle.cip_close.specs.declared.request.CloseView.{CloseView}
use Rattle.cip_close.specs.declared.success.CloseReply.{CloseReply}

abbrev pub close_of : CloseView → Close
close_of v = record { fields = v.fields; path = v.path.bytes.now }

-- the request along a borrowed path
abbrev pub close_along : CloseFields → PathView → Close
close_along fields path = close_with fields path.bytes.now

abbrev pub success_of : CloseReply → CloseSuccess
success_of r = record { triad = r.triad; reply = r.reply.now }
